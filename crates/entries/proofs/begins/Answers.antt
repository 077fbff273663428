-- `entries::begins` meets its contract: the front, and a group and a source by their first octets.
-- Assumes nothing.
use Prim.Native.Nat.{◌+◌, ◌*◌, ◌≤◌}
use native.Mathlib.Omega.{arith}
use mathlib.Core.Path.{◌≡◌, refl, sym, ap, ◌∙◌}
use mathlib.Core.Bool.{true}
use lib.ListN.{length, get_or}
use Rattle.octets.specs.Octets.{Octets}
use Rattle.addresses.specs.Addresses.{source_first}
use Rattle.addresses.proofs.Laws.{group_at, source_at, may_some}
use Rattle.entries.specs.Kinds.{family_with, zero_by}
use Rattle.entries.proofs.ByKind.{entry_by}
use Rattle.entries.proofs.begins.Goals as goal
use Rattle.entries.proofs.begins.Goals.{After-front_by}

-- group and source are there
there : (c : After-front_by) → c.args.at + c.front_by.result + 2 * (family_with c.args.ipv6 c.args.prefixed).width ≤ length c.args.e.now
there c = omega (arith, c.requires, c.front_by.ensures)

pub returns : goal.returns
returns c asserts stop t =
    let a = c.args in
    let f = family_with a.ipv6 a.prefixed in
    let group = a.at + c.front_by.result in
    let octet : Octets a.e.now = λ i. (c.type_inv.e i).fits in
    let group-there : group + f.width ≤ length a.e.now = omega (arith, there (goal.at.returns c).After-front_by) in
    let source-there : group + f.width + f.width ≤ length a.e.now = omega (arith, there (goal.at.returns c).After-front_by) in
    let first : source_first a.ipv6 (get_or a.e.now (group + f.width) 0) ≡ true =
    ap (λ x. source_first a.ipv6 (get_or a.e.now (group + x) 0)) (sym c.width.ensures.0) ∙ sym c.begins_source.ensures ∙ t in
    sym (entry_by f asserts stop a.e.now a.at c.has_front.ensures c.if-not-has_front.false (ap (λ x. a.at + x) c.front_by.ensures.0)
    (group_at a.ipv6 a.e.now group octet group-there ∙ sym c.is_multicast.ensures) c.if-not-is_multicast.false
    refl refl (may_some f (zero_by f asserts stop a.e.now group) _ (source_at a.ipv6 a.e.now (group + f.width) octet source-there first)))
