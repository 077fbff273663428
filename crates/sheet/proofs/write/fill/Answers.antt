-- `sheet::write::fill` meets its contract: header, lists and rows, each past the one before.
-- Assumes nothing.
use Prim.Native.Nat.{◌+◌}
use native.Mathlib.Omega.{arith}
use mathlib.Core.Path.{◌≡◌, ap, ◌∙◌}
use mathlib.Core.Bool.{true}
use lib.ListN.{length}
use borrow.Author.Rules.{rules}
use Rattle.format.specs.Family.{family_of}
use Rattle.sections.specs.Layout.{layout_of, form_by, header_size, pairs_from, rows_from}
use Rattle.sections.specs.Checking.{counts_allowed}
use Rattle.sections.specs.Sections.{places_of}
use Rattle.sections.proofs.Header.{asserts_place, pairs_place, rows_place}
use Rattle.sheet.proofs.Asks.{Filling, filling, filled, written_header, written_places}
use Rattle.sheet.proofs.write.fill.Goals as goal
use Rattle.sheet.proofs.write.fill.Goals.{After-counts_of-c, After-places_of-s, Start}

-- what was asked
facts : (c : Start) → Filling (layout_of (form_by c.args.ipv6)) (family_of c.args.ipv6) c.args.asserts.now c.args.pairs.now c.args.table (length c.args.d.now)
facts c =
    let a = c.args in
    let t = a.table in
    filling (layout_of (form_by c.args.ipv6)) (family_of c.args.ipv6) a.asserts.now a.pairs.now t (length a.d.now) _ (omega arith) c.requires

allowed : (c : After-counts_of-c)
    → Filling (layout_of (form_by c.args.ipv6)) (family_of c.args.ipv6) c.args.asserts.now c.args.pairs.now c.args.table (length c.args.d.now)
    → counts_allowed (layout_of (form_by c.args.ipv6)) c.counts_of-c.result ≡ true
allowed c asks = ap (counts_allowed (layout_of (form_by c.args.ipv6))) c.counts_of-c.ensures ∙ asks.allowed

places : (c : After-places_of-s) → c.places_of-s.result ≡ places_of (layout_of (form_by c.args.ipv6)) (family_of c.args.ipv6) c.counts_of-c.result
places c = written_places c.args.ipv6 c.counts_of-c.result c.form_for.ensures c.places_of-s.ensures

-- where the parts begin
at : (c : After-places_of-s)
    → Filling (layout_of (form_by c.args.ipv6)) (family_of c.args.ipv6) c.args.asserts.now c.args.pairs.now c.args.table (length c.args.d.now)
    → counts_allowed (layout_of (form_by c.args.ipv6)) c.counts_of-c.result ≡ true
    → (c.places_of-s.result.asserts ≡ header_size (layout_of (form_by c.args.ipv6)))
    × (c.places_of-s.result.pairs ≡ header_size (layout_of (form_by c.args.ipv6)) + length c.args.asserts.now)
    × (c.places_of-s.result.rows ≡ header_size (layout_of (form_by c.args.ipv6)) + length c.args.asserts.now + length c.args.pairs.now)
at c asks few =
    let L = (layout_of (form_by c.args.ipv6)) in
    let f = (family_of c.args.ipv6) in (
      asserts_place L f _ few (places c),
      pairs_place L f _ few (places c) ∙ (ap (pairs_from L f) c.counts_of-c.ensures ∙ asks.pairs),
      rows_place L f _ few (places c) ∙ (ap (rows_from L f) c.counts_of-c.ensures ∙ asks.rows),
    )

pub put_header-requires : goal.put_header-requires
put_header-requires c =
    (omega (arith, (facts (goal.at.put_header-requires c).Start).fits, written_header c.args.ipv6), allowed (goal.at.put_header-requires c).After-counts_of-c (facts (goal.at.put_header-requires c).Start))

pub copy-requires : goal.copy-requires
copy-requires c =
    let f = facts (goal.at.copy-requires c).Start in
    let p = at (goal.at.copy-requires c).After-places_of-s (facts (goal.at.copy-requires c).Start) (allowed (goal.at.copy-requires c).After-counts_of-c (facts (goal.at.copy-requires c).Start)) in
    search rules

pub copy-requires-2 : goal.copy-requires-2
copy-requires-2 c =
    let f = facts (goal.at.copy-requires-2 c).Start in
    let p = at (goal.at.copy-requires-2 c).After-places_of-s (facts (goal.at.copy-requires-2 c).Start) (allowed (goal.at.copy-requires-2 c).After-counts_of-c (facts (goal.at.copy-requires-2 c).Start)) in
    search rules

pub put_rows-requires : goal.put_rows-requires
put_rows-requires c =
    let f = facts (goal.at.put_rows-requires c).Start in
    let p = at (goal.at.put_rows-requires c).After-places_of-s (facts (goal.at.put_rows-requires c).Start) (allowed (goal.at.put_rows-requires c).After-counts_of-c (facts (goal.at.put_rows-requires c).Start)) in
    search rules

pub returns : goal.returns
returns c =
    let at_p = at (goal.at.returns c).After-places_of-s (facts (goal.at.returns c).Start) (allowed (goal.at.returns c).After-counts_of-c (facts (goal.at.returns c).Start)) in
    filled (layout_of (form_by c.args.ipv6)) (family_of c.args.ipv6) c.args.asserts.now c.args.pairs.now c.args.table c.args.d.now (c.counts_of-c.ensures ∙ (facts (goal.at.returns c).Start).counts) c.put_header.ensures
    c.copy.ensures c.copy-2.ensures c.put_rows.ensures at_p.0 at_p.1 (omega (arith, at_p))
