-- `popcount::write::put_values` meets its contract: each option past the one before.
-- Assumes nothing.
use mathlib.Core.Path.{◌≡◌}
use Prim.Native.Nat.{◌+◌, ◌≤◌}
use native.Mathlib.Omega.{arith}
use lib.ListN.{length}
use Rattle.attributes.specs.Answers.{size_by}
use Rattle.attributes.specs.Options.{sizes, size_in, size_of, present, bit_of}
use Rattle.popcount.proofs.Written.{put_after, values_are}
use Rattle.popcount.proofs.write.put_values.Goals as goal
use Rattle.popcount.proofs.write.put_values.Goals.{After-put_option-at-4}

-- after four options there is room for the others
half : (c : After-put_option-at-4)
    → let a = c.args in
    let w = a.options in
    (c.put_option-at-4.result + (size_by w 0x0800 + (size_by w 0x0400 + (size_by w 0x0200 + size_by w 0x0100))) ≤ length c.put_option-at-4.new.d)
    × (length c.put_option-at-4.new.d ≡ length a.d.now)
unfolding sizes size_in size_of present bit_of
half c = (omega arith, omega arith)

pub put_option-at-requires : goal.put_option-at-requires
unfolding sizes size_in size_of present bit_of
put_option-at-requires c = omega arith

pub put_option-at-requires-2 : goal.put_option-at-requires-2
unfolding sizes size_in size_of present bit_of
put_option-at-requires-2 c = omega arith

pub put_option-at-requires-3 : goal.put_option-at-requires-3
unfolding sizes size_in size_of present bit_of
put_option-at-requires-3 c = omega arith

pub put_option-at-requires-4 : goal.put_option-at-requires-4
unfolding sizes size_in size_of present bit_of
put_option-at-requires-4 c = omega arith

pub put_option-at-requires-5 : goal.put_option-at-requires-5
unfolding sizes size_in size_of present bit_of
put_option-at-requires-5 c = omega (arith, half (goal.at.put_option-at-requires-5 c).After-put_option-at-4)

pub put_option-at-requires-6 : goal.put_option-at-requires-6
unfolding sizes size_in size_of present bit_of
put_option-at-requires-6 c = omega (arith, half (goal.at.put_option-at-requires-6 c).After-put_option-at-4)

pub put_option-at-requires-7 : goal.put_option-at-requires-7
unfolding sizes size_in size_of present bit_of
put_option-at-requires-7 c = omega (arith, half (goal.at.put_option-at-requires-7 c).After-put_option-at-4)

pub put_option-requires : goal.put_option-requires
unfolding sizes size_in size_of present bit_of
put_option-requires c = omega (arith, half (goal.at.put_option-requires c).After-put_option-at-4)

pub returns : goal.returns
returns c =
    rw values_are
    (put_after _ _ _ _ _ c.put_option-at.ensures.buffer c.put_option-at.ensures.next
    (put_after _ _ _ _ _ c.put_option-at-2.ensures.buffer c.put_option-at-2.ensures.next
    (put_after _ _ _ _ _ c.put_option-at-3.ensures.buffer c.put_option-at-3.ensures.next
    (put_after _ _ _ _ _ c.put_option-at-4.ensures.buffer c.put_option-at-4.ensures.next
    (put_after _ _ _ _ _ c.put_option-at-5.ensures.buffer c.put_option-at-5.ensures.next
    (put_after _ _ _ _ _ c.put_option-at-6.ensures.buffer c.put_option-at-6.ensures.next
    (put_after _ _ _ _ _ c.put_option-at-7.ensures.buffer c.put_option-at-7.ensures.next c.put_option.ensures.buffer)))))))
