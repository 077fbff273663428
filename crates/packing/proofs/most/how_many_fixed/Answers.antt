-- `packing::most::how_many_fixed` meets its contract: the smaller of two numbers.
-- Assumes nothing.
use Prim.Native.Nat.{◌+◌}
use mathlib.Core.Path.{◌≡◌, sym, ap, ◌∙◌}
use Rattle.format.specs.Family.{family_of}
use Rattle.entries.specs.Kinds.{fields_size}
use Rattle.packing.specs.Kinds.{record_size, fitting}
use Rattle.packing.proofs.ByKind.{most_one, most_all}
use Rattle.packing.proofs.most.how_many_fixed.Goals as goal
use Rattle.packing.proofs.most.how_many_fixed.Goals.{After-record_size}

-- a record has the octets of the kind's
sized : (c : After-record_size) → c.record_size.result ≡ record_size c.args.ipv6 c.args.kind
sized c = c.record_size.ensures.0 ∙ ap (λ b. fields_size (family_of c.args.ipv6) b + 6) c.is_assert.ensures

pub returns-then-l : goal.returns-then-l
unfolding fitting
returns-then-l c =
    let l = c.layout_of-l in
    rw (most_one c.args.ipv6 c.args.n c.args.kind c.requires.1 (sym l.ensures.2 ∙ c.if-l.true), ← sized (goal.at.returns-then-l c).After-record_size, ← l.ensures.0) c.min.ensures

pub returns : goal.returns
unfolding fitting
returns c =
    let l = c.layout_of-l in
    rw (most_all c.args.ipv6 c.args.n c.args.kind c.requires.0 (sym l.ensures.2 ∙ c.if-l.false), ← sized (goal.at.returns c).After-record_size, ← l.ensures.0) c.min-2.ensures
