-- `packing::most::write_message` meets its contract: what stands before the records, the records, and then the header over both.
-- Assumes nothing.
use Rattle.format.specs.Family.{family_of}
use native.Mathlib.Omega.{arith}
use mathlib.Core.Path.{◌≡◌, sym, ap, ◌∙◌}
use Prim.Native.Nat.{ℕ, ◌+◌, ◌<◌, ◌≤◌}
use mathlib.Core.List.{List, ◌++◌}
use lib.ListN.{length, length-append}
use Rattle.octets.proofs.Laws.{put_next}
use Rattle.format.specs.Entry.{entries_at}
use Rattle.format.proofs.Calls.{canonical_long}
use Rattle.headers.specs.Sealing.{sealed}
use Rattle.headers.proofs.Seals.{sealed_body}
use Rattle.entries.specs.Kinds.{entries_for}
use Rattle.packing.specs.Kinds.{form_for, records_for, front_of, head_size}
use Rattle.packing.proofs.ByKind.{head_range, limit_head}
use Rattle.packing.proofs.Fitting.{canonical_is, size_is}
use Rattle.packing.proofs.Taken.{taken_some, most_fits}
use Rattle.packing.proofs.most.write_message.Goals as goal
use Rattle.packing.proofs.most.write_message.Goals.{After-put_most-records}

-- the records that were written
abbrev records : After-put_most-records → List ℕ
records c = records_for c.args.ipv6 c.args.kind (entries_at (entries_for c.args.ipv6 c.args.kind) c.args.e.now c.args.from c.put_most-records.result.taken)

-- the message ends past its records
size : (c : After-put_most-records) → c.put_most-records.result.next ≡ head_size c.args.kind + length (records c)
size c = omega (arith, c.put_front-head.ensures.size, c.put_most-records.ensures.next)

within : (c : After-put_most-records) → c.put_most-records.result.next ≤ c.args.limit
within c =
    let a = c.args in
    let some : 0 < c.put_most-records.result.taken = rw c.put_most-records.ensures.taken (taken_some a.ipv6 a.kind c.requires.0 a.limit c.requires.3 a.e.now a.from a.n c.requires.1) in
    let fit = most_fits a.ipv6 a.kind a.e.now a.from a.n a.limit c.put_most-records.result.taken c.put_most-records.ensures.taken some in
    omega (arith, size c, fit, size_is a.ipv6 a.kind c.requires.0 (entries_at (entries_for a.ipv6 a.kind) a.e.now a.from c.put_most-records.result.taken))

pub put_front-head-requires : goal.put_front-head-requires
put_front-head-requires c =
    omega (arith, limit_head (family_of c.args.ipv6) c.args.limit c.requires.3, c.requires.5, head_range c.args.kind)

pub returns : goal.returns
returns c =
    let a = c.args in
    let k = a.kind in
    let d = a.d.now in
    let es = entries_at (entries_for a.ipv6 k) a.e.now a.from c.put_most-records.result.taken in
    let past = (goal.at.returns c).After-put_most-records in
    let rest = front_of k ++ records past in
    let long = size past in
    let inside = within past in
    let body = put_next d 4 (front_of k) (records past) c.put_front-head.ensures.buffer c.put_most-records.ensures.buffer c.put_front-head.ensures.size in
    let whole = sealed_body (family_of a.ipv6) a.path k d rest c.put_most-records.result.next (omega (arith, long, length-append (front_of k) (records past))) (omega (arith, inside, c.requires.4)) (omega (arith, inside, c.requires.5)) in
    record { taken = c.put_most-records.ensures.taken; size = long ∙ sym (canonical_long (form_for a.ipv6 k) a.path es ∙ size_is a.ipv6 k c.requires.0 es); buffer = rw (canonical_is a.ipv6 k c.requires.0 a.path es) (c.seal.ensures ∙ ap (sealed (family_of a.ipv6) a.path k c.put_most-records.result.next) body ∙ whole) }
