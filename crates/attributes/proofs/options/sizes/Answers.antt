-- `attributes::options::sizes` meets its contract: it adds up what the definition does.
-- Assumes nothing.
use native.Mathlib.Omega.{arith}
use Rattle.attributes.specs.Options.{sizes, size_in, size_of, present, bit_of}
use Rattle.attributes.proofs.options.sizes.Goals as goal

pub returns : goal.returns
unfolding sizes size_in size_of present bit_of
returns c = omega arith
