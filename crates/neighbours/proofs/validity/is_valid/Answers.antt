-- `neighbours::validity::is_valid` meets its contract: the count, the rows not in use, then those in use one by one. The loop's invariant is `Holding`.
-- Assumes nothing.
use mathlib.Core.Path.{◌≡◌, refl, sym, ap, ◌∙◌}
use mathlib.Core.Bool.{true, false}
use Prim.Native.Nat.{ℕ, ◌≤◌}
use native.Mathlib.Omega.{arith}
use lib.ListN.{length, get_or, take, drop, drop_of_length-le}
use lib.Seq.{drop-cons}
use Rattle.format.specs.Family.{family_of}
use Rattle.addresses.proofs.Laws.{halves_octet}
use Rattle.neighbours.specs.Rows.{address_of, no_row, has, used, all_zero}
use Rattle.neighbours.proofs.Rows.{used_long, has_before, none_before}
use Rattle.neighbours.proofs.Tables.{valid_over, valid_not, valid_unused, valid_all}
use Rattle.neighbours.proofs.Slots.{marked_new}
use Rattle.neighbours.proofs.Holding.{holding_start, holding_not, holding_twice, holding_next, holding_all}
use Rattle.neighbours.proofs.validity.is_valid.Goals as goal
use Rattle.neighbours.proofs.validity.is_valid.Goals.{else-count-lt-ROWS-via-then-count-lt-ROWS+else-not-rest_is_zero, else-count-lt-ROWS-via-else-count-lt-ROWS, else-met-slot-via-then-met-slot+else-find-i, else-met-slot-via-else-met-slot}
use Rattle.neighbours.proofs.validity.is_valid.Goals.{Else-count-gt-ROWS, Joined-else-count-lt-ROWS, Start}

-- the rows in use are rows of the array
within : (c : Else-count-gt-ROWS) → c.args.table.count ≤ length c.args.table.rows
within c = omega arith

-- the rows not in use are all 0: they were looked at, or there are none
unused : (c : Joined-else-count-lt-ROWS) → all_zero (drop c.args.table.count c.args.table.rows) ≡ true
unfolding all_zero
unused c =
    let t = c.args.table in
    elim c.else-count-lt-ROWS.branch [
      | else-count-lt-ROWS-via-then-count-lt-ROWS+else-not-rest_is_zero w ↦ sym w.rest_is_zero.ensures ∙ w.if-not-rest_is_zero.false
      | else-count-lt-ROWS-via-else-count-lt-ROWS w ↦ ap all_zero (drop_of_length-le t.rows {i = t.count} (omega arith))
    ]

pub returns-then-count-gt-ROWS : goal.returns-then-count-gt-ROWS
returns-then-count-gt-ROWS c =
    let a = c.args in
    valid_over (family_of a.ipv6) a.table c.if-count-gt-ROWS.true

pub returns-then-not-rest_is_zero : goal.returns-then-not-rest_is_zero
returns-then-not-rest_is_zero c =
    let a = c.args in
    valid_unused (family_of a.ipv6) a.table c.if-count-gt-ROWS.false (sym c.rest_is_zero.ensures ∙ c.if-not-rest_is_zero.true)

pub loop-i-init : goal.loop-i-init
loop-i-init c =
    let a = c.args in
    holding_start (family_of a.ipv6) a.table.rows a.table.count _ refl

pub returns-then-not-is_allowed : goal.returns-then-not-is_allowed
returns-then-not-is_allowed c =
    let a = c.args in
    let t = a.table in
    valid_not (family_of a.ipv6) t c.if-count-gt-ROWS.false
    (holding_not c.loop-i.invariant (drop-cons (used t) c.loop-i.i _ c.loop-i-test.true) (sym c.is_allowed.ensures ∙ c.if-not-is_allowed.true))

pub returns-then-find-i : goal.returns-then-find-i
returns-then-find-i c =
    let a = c.args in
    let t = a.table in
    let i = c.loop-i.i in
    let w : i ≤ length (used t) = omega (arith, c.loop-i-test.true) in
    valid_not (family_of a.ipv6) t c.if-count-gt-ROWS.false
    (holding_twice c.loop-i.invariant (drop-cons (used t) c.loop-i.i _ c.loop-i-test.true) (has_before _ i (used t) (rw c.find.ensures at c.if-find-i.true) w))

-- no row before this one has its address: it was looked for, or its last octet was not met
pub loop-i-preserved : goal.loop-i-preserved
unfolding no_row
loop-i-preserved c =
    let t = c.args.table in
    let i = c.loop-i.i in
    let h = c.loop-i.invariant in
    let x = get_or (used t) i no_row in
    let last = halves_octet x.address.high x.address.low in
    let new : has (address_of x) (take i (used t)) ≡ false =
    elim c.else-met-slot.branch [
      | else-met-slot-via-then-met-slot+else-find-i w ↦ none_before _ i (used t) (rw w.find.ensures at w.if-find-i.false)
      | else-met-slot-via-else-met-slot w ↦ marked_new h.marked (address_of x) false (ap (λ (k : ℕ). get_or c.loop-i.met k false) last ∙ w.if-met-slot.false)
    ]
    in
    rw last at (holding_next h (drop-cons (used t) c.loop-i.i no_row c.loop-i-test.true) (sym c.is_allowed.ensures ∙ c.if-not-is_allowed.false) new)

pub returns : goal.returns
returns c =
    let a = c.args in
    valid_all (family_of a.ipv6) a.table c.if-count-gt-ROWS.false (holding_all c.loop-i.invariant (within (goal.at.returns c).Else-count-gt-ROWS) (rw (used_long a.table.rows a.table.count (within (goal.at.returns c).Else-count-gt-ROWS)) at c.loop-i-test.false)) (unused (goal.at.returns c).Joined-else-count-lt-ROWS)
