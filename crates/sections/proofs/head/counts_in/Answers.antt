-- `sections::head::counts_in` meets its contract, count by count.
-- Assumes nothing.
use Rattle.sections.specs.Layout.{layout_of}
use Rattle.sections.proofs.Header.{counts_are}
use Rattle.sections.proofs.head.counts_in.Goals as goal

pub returns : goal.returns
returns c = counts_are (layout_of c.args.form) c.args.o.now c.number_in.ensures c.number_in-2.ensures c.number_in-3.ensures
