-- `packing::within::sources_within` meets its contract: by one group record, or by the sources that are 0.
-- Assumes nothing.
use Prim.Native.Nat.{◌+◌, ◌-◌, ◌/◌, min}
use native.Mathlib.Omega.{arith}
use mathlib.Core.Path.{◌≡◌, ap, ◌∙◌}
use Rattle.packing.specs.Aggregates.{few}
use Rattle.packing.proofs.Limits.{zeros, whole_most, joined_most, zeros_most}
use Rattle.format.proofs.Constants.{flag, family}
use Rattle.packing.proofs.within.sources_within.Goals as goal
use Rattle.packing.proofs.within.sources_within.Given.{Over}
use Rattle.packing.proofs.within.sources_within.Goals.{After-min-2, After-min-joined, After-zeros-apart}

-- as one group record
one : (g : Over) (c : After-min-joined g) → c.min-joined.result ≡ min c.args.n ((c.args.room - ((family g.row.IPV6).width + 8)) / ((family g.row.IPV6).width + 2))
one g c = c.min-joined.ensures ∙ ap (min c.args.n) (rw c.width.ensures.0 at c.in_room.ensures)

-- the entries that are looked at for sources of 0
looked : (g : Over) (c : After-min-2 g) → c.min-2.result ≡ min (min c.args.n (few (flag g.row.IPV6))) (c.args.room / ((family g.row.IPV6).width + 8))
looked g c =
    let all : c.args.room - 0 ≡ c.args.room = omega arith in
    rw (c.min.ensures, c.most_apart-few.ensures, c.in_room-heads.ensures, all) at c.min-2.ensures

apart : (g : Over) (c : After-zeros-apart g)
    → (c.min-2.result ≡ min (min c.args.n (few (flag g.row.IPV6))) (c.args.room / ((family g.row.IPV6).width + 8))) → c.zeros-apart.result ≡ zeros (flag g.row.IPV6) c.args.e.now c.args.from c.args.n c.args.room
apart g c says_looked = rw says_looked at c.zeros-apart.ensures

pub returns-then-few-joined : goal.returns-then-few-joined
returns-then-few-joined g c =
    let a = c.args in
    whole_most (flag g.row.IPV6) a.e.now a.from a.n a.room _ (one g (goal.at.returns-then-few-joined g c).After-min-joined) (rw c.most_apart-few.ensures at c.if-few-joined.true)

pub returns-then-joined-apart : goal.returns-then-joined-apart
returns-then-joined-apart g c =
    let a = c.args in
    zeros_most (flag g.row.IPV6) a.e.now a.from a.n a.room _ (apart g (goal.at.returns-then-joined-apart g c).After-zeros-apart (looked g (goal.at.returns-then-joined-apart g c).After-min-2)) (rw (one g (goal.at.returns-then-joined-apart g c).After-min-joined) at c.if-joined-apart.true)

pub returns : goal.returns
returns g c =
    let a = c.args in
    joined_most (flag g.row.IPV6) a.e.now a.from a.n a.room _ (one g (goal.at.returns g c).After-min-joined) (rw (apart g (goal.at.returns g c).After-zeros-apart (looked g (goal.at.returns g c).After-min-2)) at c.if-joined-apart.false)
