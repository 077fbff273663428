-- `popcount::merging::finish` meets its contract: 8, or the attribute written.
-- Assumes nothing.
use mathlib.Core.Path.{◌≡◌, ap, sym, ◌∙◌}
use Prim.Native.Nat.{◌+◌}
use native.Mathlib.Omega.{arith}
use lib.ListN.{length}
use borrow.Author.Tests.{lt-ltb, le-ltb}
use Rattle.format.specs.Outcome.{gives, refuse_if, ◌>>◌}
use Rattle.format.specs.Writing.{into_buffer, length_by}
use Rattle.attributes.specs.Attribute.{attribute_octets}
use Rattle.attributes.proofs.Lengths.{length_attribute}
use Rattle.popcount.specs.Tally.{finishing}
use Rattle.popcount.proofs.merging.finish.Goals as goal
use Rattle.popcount.proofs.merging.finish.Goals.{After-sizes_of-size}

long : (c : After-sizes_of-size) → length (attribute_octets c.args.a) ≡ 8 + c.sizes_of-size.result
long c = length_attribute c.args.a ∙ ap (λ n. 8 + n) (sym c.sizes_of-size.ensures.0)

pub returns-then-d-size : goal.returns-then-d-size
unfolding finishing into_buffer length_by refuse_if ◌>>◌
returns-then-d-size c =
    let a = c.args in
    let short = lt-ltb (length a.d.now) (length (attribute_octets a.a)) (omega (arith, c.if-d-size.true, long (goal.at.returns-then-d-size c).After-sizes_of-size)) in
    record { answer = rw (c.at.ensures, short); buffer = rw short }

pub returns : goal.returns
unfolding finishing into_buffer length_by refuse_if ◌>>◌
returns c =
    let a = c.args in
    let room = le-ltb (length a.d.now) (length (attribute_octets a.a)) (omega (arith, c.if-d-size.false, long (goal.at.returns c).After-sizes_of-size)) in
    record { answer = rw room (ap gives (sym (long (goal.at.returns c).After-sizes_of-size))); buffer = rw room c.put_attribute.ensures }
