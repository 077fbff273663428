-- `sections::section::check_sections` meets its contract, section by section.
-- Assumes nothing.
use Rattle.format.proofs.Refusals.{handed_up}
use mathlib.Core.Path.{◌≡◌, sym, ap, ◌∙◌}
use Prim.Native.Nat.{◌+◌, ◌*◌}
use native.Mathlib.Omega.{arith}
use lib.ListN.{length}
use Rattle.entries.specs.Kinds.{family_with}
use Rattle.sections.specs.Layout.{layout_of, family_in, asserts_in, pairs_in, row_size, header_size}
use Rattle.sections.specs.Sections.{places_of, check_sections}
use Rattle.sections.proofs.Header.{named_family, places_are, asserts_place, pairs_place, rows_place, end_place}
use Rattle.sections.proofs.Checks.{sections_asserts, sections_pairs, sections_rows}
use Rattle.sections.proofs.section.check_sections.Goals as goal
use Rattle.sections.proofs.section.check_sections.Goals.{After-places_of-from}

named : (c : After-places_of-from) → (family_with c.ipv6_in-ipv6.result c.prefixed_in-prefixed.result) ≡ family_in c.args.form
named c = named_family c.args.form c.ipv6_in-ipv6.ensures c.prefixed_in-prefixed.ensures

places : (c : After-places_of-from) → c.places_of-from.result ≡ places_of (layout_of c.args.form) (family_with c.ipv6_in-ipv6.result c.prefixed_in-prefixed.result) c.args.c
places c = c.places_of-from.ensures ∙ ap (λ f. places_of (layout_of c.args.form) f c.args.c) (sym (named c))

-- where the sections begin, and where the sheet ends
parts : (c : After-places_of-from) → (c.places_of-from.result.asserts ≡ header_size (layout_of c.args.form)) × (c.places_of-from.result.pairs ≡ c.places_of-from.result.asserts + (asserts_in (family_with c.ipv6_in-ipv6.result c.prefixed_in-prefixed.result)).size * c.args.c.asserts)
    × (c.places_of-from.result.rows ≡ c.places_of-from.result.pairs + (pairs_in (family_with c.ipv6_in-ipv6.result c.prefixed_in-prefixed.result)).size * c.args.c.pairs)
    × (c.places_of-from.result.end ≡ c.places_of-from.result.rows + row_size (family_with c.ipv6_in-ipv6.result c.prefixed_in-prefixed.result) * c.args.c.neighbours)
parts c = places_are (layout_of c.args.form) (family_with c.ipv6_in-ipv6.result c.prefixed_in-prefixed.result) c.args.c c.requires.0 (places c)

total : (c : After-places_of-from) → length c.args.o.now ≡ c.places_of-from.result.end
total c = c.requires.1 ∙ sym (end_place (layout_of c.args.form) (family_in c.args.form) c.args.c c.requires.0 c.places_of-from.ensures)

pub returns-in_err-check_entries : goal.returns-in_err-check_entries
returns-in_err-check_entries c =
    rw (handed_up c.from_residual.result c.from_residual.ensures.1)
    (sections_asserts (layout_of c.args.form) (family_with c.ipv6_in-ipv6.result c.prefixed_in-prefixed.result) c.args.o.now c.args.c (asserts_place (layout_of c.args.form) (family_with c.ipv6_in-ipv6.result c.prefixed_in-prefixed.result) c.args.c c.requires.0 (places (goal.at.returns-in_err-check_entries c).After-places_of-from)) c.check_entries.ensures c.in_err-check_entries.was
    ∙ ap (λ f. check_sections (layout_of c.args.form) f c.args.o.now c.args.c) (named (goal.at.returns-in_err-check_entries c).After-places_of-from))

pub returns-in_err-check_entries-2 : goal.returns-in_err-check_entries-2
returns-in_err-check_entries-2 c =
    rw (handed_up c.from_residual-in_err-check_entries-2.result c.from_residual-in_err-check_entries-2.ensures.1)
    (sections_pairs (layout_of c.args.form) (family_with c.ipv6_in-ipv6.result c.prefixed_in-prefixed.result) c.args.o.now c.args.c (asserts_place (layout_of c.args.form) (family_with c.ipv6_in-ipv6.result c.prefixed_in-prefixed.result) c.args.c c.requires.0 (places (goal.at.returns-in_err-check_entries-2 c).After-places_of-from)) c.check_entries.ensures c.in_ok-check_entries.was
    (pairs_place (layout_of c.args.form) (family_with c.ipv6_in-ipv6.result c.prefixed_in-prefixed.result) c.args.c c.requires.0 (places (goal.at.returns-in_err-check_entries-2 c).After-places_of-from)) c.check_entries-2.ensures c.in_err-check_entries-2.was
    ∙ ap (λ f. check_sections (layout_of c.args.form) f c.args.o.now c.args.c) (named (goal.at.returns-in_err-check_entries-2 c).After-places_of-from))

pub returns : goal.returns
returns c =
    sections_rows (layout_of c.args.form) (family_with c.ipv6_in-ipv6.result c.prefixed_in-prefixed.result) c.args.o.now c.args.c (asserts_place (layout_of c.args.form) (family_with c.ipv6_in-ipv6.result c.prefixed_in-prefixed.result) c.args.c c.requires.0 (places (goal.at.returns c).After-places_of-from)) c.check_entries.ensures c.in_ok-check_entries.was
    (pairs_place (layout_of c.args.form) (family_with c.ipv6_in-ipv6.result c.prefixed_in-prefixed.result) c.args.c c.requires.0 (places (goal.at.returns c).After-places_of-from)) c.check_entries-2.ensures c.in_ok-check_entries-2.was
    (rows_place (layout_of c.args.form) (family_with c.ipv6_in-ipv6.result c.prefixed_in-prefixed.result) c.args.c c.requires.0 (places (goal.at.returns c).After-places_of-from)) c.check_rows.ensures
    ∙ ap (λ f. check_sections (layout_of c.args.form) f c.args.o.now c.args.c) (named (goal.at.returns c).After-places_of-from)

pub check_rows-requires : goal.check_rows-requires
check_rows-requires c = omega (arith, total (goal.at.check_rows-requires c).After-places_of-from, parts (goal.at.check_rows-requires c).After-places_of-from)

pub check_entries-requires : goal.check_entries-requires
check_entries-requires c = omega (arith, total (goal.at.check_entries-requires c).After-places_of-from, parts (goal.at.check_entries-requires c).After-places_of-from)

pub check_entries-requires-2 : goal.check_entries-requires-2
check_entries-requires-2 c = omega (arith, total (goal.at.check_entries-requires-2 c).After-places_of-from, parts (goal.at.check_entries-requires-2 c).After-places_of-from)
