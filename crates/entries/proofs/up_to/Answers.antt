-- `entries::up_to` meets its contract. The loop's invariant: the first bad entry from here on is that from the on. The measure is the entries left.
-- Assumes nothing.
use Prim.Native.Nat.{◌/◌, ◌≤◌, ◌<◌}
use native.Mathlib.Omega.{arith}
use mathlib.Core.Path.{◌≡◌, ap, ◌∙◌}
use mathlib.Core.Bool.{Bool}
use lib.ListN.{length}
use borrow.Author.Tests.{lt-ltb, le-ltb}
use Rattle.format.specs.Packing.{first_bad}
use Rattle.entries.specs.Kinds.{family_with, entries_by, numbered}
use Rattle.entries.proofs.ByKind.{same_size}
use Rattle.entries.proofs.Lists.{first_bad_lem, first_end}
use Rattle.format.proofs.Constants.{flag}
use Rattle.entries.proofs.up_to.Goals as goal
use Rattle.entries.proofs.up_to.Given.{Over}
use Rattle.entries.proofs.up_to.Goals.{After-one_end-end, After-past_none-none, Else-bad-end, Start}

-- how many entries there are, whatever the kind of a pair
counted : (g : Over) (c : Start g) (other : Bool) → c.args.count ≡ length c.args.e.now / (entries_by (family_with (flag g.row.IPV6) (flag g.row.PREFIXED)) (flag g.row.ASSERTS) other).size
counted g c other =
    let a = c.args in
    c.requires.1 ∙ ap (λ x. length a.e.now / x) (same_size (family_with (flag g.row.IPV6) (flag g.row.PREFIXED)) (flag g.row.ASSERTS) a.stop other)

-- the entries that are looked at singly: up to one that is past the first, and no more than there are
some : (g : Over) (c : After-one_end-end g) → (c.loop-i.i < c.one_end-end.result) × (c.one_end-end.result ≤ c.args.count)
some g c = (omega (arith, c.past_ones-ones.ensures.0, c.past_none-none.ensures.0, c.one_end-end.ensures.0, c.one_end-end.ensures.2, c.loop-i-test.true), c.one_end-end.ensures.1)

-- the first bad entry is not among those that were passed
first : (g : Over) (c : After-past_none-none g) → first_bad (entries_by (family_with (flag g.row.IPV6) (flag g.row.PREFIXED)) (flag g.row.ASSERTS) c.args.stop) c.args.e.now c.past_none-none.result ≡ first_bad (entries_by (family_with (flag g.row.IPV6) (flag g.row.PREFIXED)) (flag g.row.ASSERTS) c.args.stop) c.args.e.now c.args.start
first g c = c.past_none-none.ensures.2 ∙ c.past_ones-ones.ensures.2 c.args.stop ∙ c.loop-i.invariant.1

-- where all of them are allowed, the first bad one is past them
passed : (g : Over) (c : Else-bad-end g)
    → (first_bad (entries_by (family_with (flag g.row.IPV6) (flag g.row.PREFIXED)) (flag g.row.ASSERTS) c.args.stop) c.args.e.now c.past_none-none.result ≡ first_bad (entries_by (family_with (flag g.row.IPV6) (flag g.row.PREFIXED)) (flag g.row.ASSERTS) c.args.stop) c.args.e.now c.args.start) → first_bad (entries_by (family_with (flag g.row.IPV6) (flag g.row.PREFIXED)) (flag g.row.ASSERTS) c.args.stop) c.args.e.now c.one_end-end.result ≡ first_bad (entries_by (family_with (flag g.row.IPV6) (flag g.row.PREFIXED)) (flag g.row.ASSERTS) c.args.stop) c.args.e.now c.args.start
passed g c says_first =
    let a = c.args in
    let all : c.one_end-end.result ≡ c.singly-bad.result = omega (arith, c.if-bad-end.false, c.singly-bad.ensures.1) in
    ap (first_bad (entries_by (family_with (flag g.row.IPV6) (flag g.row.PREFIXED)) (flag g.row.ASSERTS) a.stop) a.e.now) all ∙ c.singly-bad.ensures.2 ∙ says_first

pub returns-then-bad-end : goal.returns-then-bad-end
unfolding numbered
returns-then-bad-end g c =
    let a = c.args in
    rw (lt-ltb c.singly-bad.result a.count (omega (arith, c.if-bad-end.true, (some g (goal.at.returns-then-bad-end g c).After-one_end-end).1)))
    (first_bad_lem (entries_by (family_with (flag g.row.IPV6) (flag g.row.PREFIXED)) (flag g.row.ASSERTS) a.stop) a.e.now c.singly-bad.result (omega (arith, c.if-bad-end.true, (some g (goal.at.returns-then-bad-end g c).After-one_end-end).1, c.requires.1)) (c.singly-bad.ensures.3 c.if-bad-end.true)
    ∙ c.singly-bad.ensures.2
    ∙ first g (goal.at.returns-then-bad-end g c).After-past_none-none)

pub returns : goal.returns
unfolding numbered
returns g c =
    let a = c.args in
    rw (le-ltb _ _ c.loop-i-test.false)
    (first_end (entries_by (family_with (flag g.row.IPV6) (flag g.row.PREFIXED)) (flag g.row.ASSERTS) a.stop) a.e.now c.loop-i.i (omega (arith, c.loop-i-test.false, c.requires.1)) ∙ c.loop-i.invariant.1)
