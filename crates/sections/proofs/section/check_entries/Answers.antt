-- `sections::section::check_entries` meets its contract: what the part holds is what the sheet holds from the place on.
-- Assumes nothing.
use mathlib.Core.Path.{◌≡◌, ap}
use Prim.Native.Nat.{◌+◌, ◌-◌, ◌*◌, ◌≤◌}
use native.Mathlib.Omega.{arith}
use lib.ListN.{length}
use Rattle.entries.specs.Kinds.{entries_with}
use Rattle.sections.specs.Sections.{section_by}
use Rattle.sections.proofs.Entries.{Found, entries_sound, entries_bad, bad_there}
use Rattle.sections.proofs.section.check_entries.Goals as goal
use Rattle.sections.proofs.section.check_entries.Goals.{After-entry_size-size, After-first_bad, In-Some}

-- the size that code has is that of the kind
same : (c : After-entry_size-size) → c.entry_size-size.result * c.args.count ≡ (entries_with c.args.ipv6 c.args.prefixed c.args.kind).size * c.args.count
same c = ap (λ x. x * c.args.count) c.entry_size-size.ensures

-- what was found in the part
found : (c : After-first_bad)
    → (c.entry_size-size.result * c.args.count ≡ (entries_with c.args.ipv6 c.args.prefixed c.args.kind).size * c.args.count) → Found c.args.ipv6 c.args.prefixed c.args.kind c.args.o.now c.args.from c.args.count c.first_bad.result
found c says_same =
    let a = c.args in
    let cut : a.from + c.entry_size-size.result * a.count - a.from ≡ (entries_with a.ipv6 a.prefixed a.kind).size * a.count = omega (arith, says_same) in
    rw cut at c.first_bad.ensures

-- the place of the entry that is at fault
place : (c : In-Some)
    → (Found c.args.ipv6 c.args.prefixed c.args.kind c.args.o.now c.args.from c.args.count c.first_bad.result) → c.args.from + c.entry_size-size.result * c.in-Some.i ≤ length c.args.o.now
place c says_found =
    let a = c.args in
    rw c.entry_size-size.ensures
    (bad_there a.ipv6 a.prefixed a.kind a.o.now a.from a.count c.requires (says_found) c.in-Some.is)

pub overflow_mul-size : goal.overflow_mul-size
overflow_mul-size c = omega (arith, place (goal.at.overflow_mul-size c).In-Some (found (goal.at.overflow_mul-size c).After-first_bad (same (goal.at.overflow_mul-size c).After-entry_size-size)))

pub overflow_add-from : goal.overflow_add-from
overflow_add-from c = omega (arith, place (goal.at.overflow_add-from c).In-Some (found (goal.at.overflow_add-from c).After-first_bad (same (goal.at.overflow_add-from c).After-entry_size-size)))

pub returns-in-None : goal.returns-in-None
unfolding section_by
returns-in-None c =
    let a = c.args in
    entries_sound a.ipv6 a.prefixed a.kind a.o.now a.from a.count c.requires (found (goal.at.returns-in-None c).After-first_bad (same (goal.at.returns-in-None c).After-entry_size-size)) c.in-None.is

pub returns-in-Some : goal.returns-in-Some
unfolding section_by
returns-in-Some c =
    let a = c.args in
    rw (c.at.ensures, c.entry_size-size.ensures)
    (entries_bad a.ipv6 a.prefixed a.kind a.o.now a.from a.count c.requires (found (goal.at.returns-in-Some c).After-first_bad (same (goal.at.returns-in-Some c).After-entry_size-size)) c.in-Some.is)
