-- `reading::copy::copy_entry` meets its contract: the front, the two addresses, and past them the two words of an assert.
-- Assumes nothing.
use Prim.Native.Nat.{◌+◌, ◌*◌, ◌≤◌}
use native.Mathlib.Omega.{arith}
use mathlib.Core.List.{List, ◌++◌, append_assoc}
use mathlib.Core.Path.{◌≡◌, ap, ◌∙◌}
use lib.ListN.{length, length-append}
use Rattle.octets.specs.Octets.{Octets, number_at, be, put}
use Rattle.octets.proofs.Laws.{put_next, length_be}
use Rattle.format.specs.Entry.{assert_entry_octets, pair_entry_octets}
use Rattle.format.specs.Family.{family_of}
use Rattle.reading.specs.Plain.{words, entry_with}
use Rattle.reading.proofs.Copying.{copied_past, two_words}
use Rattle.reading.proofs.copy.copy_entry.Goals as goal
use Rattle.reading.proofs.copy.copy_entry.Goals.{After-width}

-- the words of an assert are there, and there is room for them
fits : (c : After-width)
    → (c.args.word + 8 ≤ length c.args.m.now)
    × (c.args.out + c.front_size.result + 2 * c.width.result + 8 ≤ length c.args.d.now)
fits c =
    let eight : words c.args.is_assert ≡ 8 = ap words c.if-is_assert.true in
    (omega (arith, c.requires, eight), omega (arith, c.requires, eight, c.width.ensures, c.front_size.ensures))

pub returns-then-is_assert : goal.returns-then-is_assert
unfolding assert_entry_octets entry_with
returns-then-is_assert c =
    let a = c.args in
    let m = a.m.now in
    let f = family_of a.ipv6 in
    let g = be f.width (number_at f.width m a.group) in
    let s = be f.width (number_at f.width a.s.now a.source) in
    let h = fits (goal.at.returns-then-is_assert c).After-width in
    let octet : Octets m = λ i. (c.type_inv.m i).fits in
    let addresses = put_next a.d.now a.out f.front (g ++ s) c.put_front.ensures c.copy_two.ensures (omega (arith, c.front_size.ensures)) in
    let copied = copied_past 8 m a.d.now a.word (a.word + 8) _ _ a.out (f.front ++ (g ++ s)) octet (omega arith) (omega arith) h.0 h.1 (rw (length-append, length-append, length_be, length_be) (omega (arith, c.front_size.ensures, c.width.ensures))) addresses c.copy.ensures in
    let parts = ap (λ (x : List _). (f.front ++ (g ++ s)) ++ x) (two_words m a.word octet h.0) ∙ (append_assoc f.front (g ++ s) _ ∙ ap (λ (x : List _). f.front ++ x) (append_assoc g s _)) in
    rw c.if-is_assert.true (copied ∙ ap (put a.d.now a.out) parts)

pub returns-else-is_assert : goal.returns-else-is_assert
unfolding pair_entry_octets entry_with
returns-else-is_assert c =
    let a = c.args in
    rw c.if-is_assert.false (put_next a.d.now a.out (family_of a.ipv6).front _ c.put_front.ensures c.copy_two.ensures (omega (arith, c.front_size.ensures)))
