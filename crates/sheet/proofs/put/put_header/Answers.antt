-- `sheet::put::put_header` meets its contract: what it begins with and three pairs, each written past the one before.
-- Assumes nothing.
use Prim.Native.Nat.{◌≤◌}
use mathlib.Core.Path.{◌≡◌, ◌∙◌}
use native.Mathlib.Omega.{arith}
use borrow.Author.Rules.{rules}
use Rattle.octets.proofs.Laws.{number_fits}
use Rattle.format.specs.Family.{family_of}
use Rattle.format.specs.declared.Kind.TheVariants.{Simple, RegisterStop}
use Rattle.entries.proofs.ByKind.{size_range}
use Rattle.neighbours.specs.Rows.{most}
use Rattle.sections.specs.Layout.{layout_of, form_by, asserts_in, pairs_in}
use Rattle.sections.specs.Sections.{places_of}
use Rattle.sections.proofs.Header.{few_entries, few, asserts_place, pairs_place, rows_place, places_are}
use Rattle.sheet.proofs.Asks.{written_header, written_places}
use Rattle.sheet.proofs.Copies.{header_written}
use Rattle.sheet.proofs.put.put_header.Goals as goal
use Rattle.sheet.proofs.put.put_header.Goals.{After-places_of-s}

places : (c : After-places_of-s) → c.places_of-s.result ≡ places_of (layout_of (form_by c.args.ipv6)) (family_of c.args.ipv6) c.args.c
places c = written_places c.args.ipv6 c.args.c c.form_for.ensures c.places_of-s.ensures

limits : (c : After-places_of-s) → (c.args.c.asserts ≤ 8192) × (c.args.c.pairs ≤ 8192) × (c.args.c.neighbours ≤ most)
limits c = few_entries (form_by c.args.ipv6) c.args.c c.requires.1

-- every place is far below 32 bits
at : (c : After-places_of-s) → (c.places_of-s.result.asserts ≤ 28) × (c.places_of-s.result.pairs ≤ 400000) × (c.places_of-s.result.rows ≤ 800000)
at c =
    let a = c.args in
    let f = family_of a.ipv6 in
    let p = places_are (layout_of (form_by a.ipv6)) f a.c c.requires.1 (places c) in
    let head = (written_header a.ipv6).0 in
    let first = few (asserts_in f).size a.c.asserts (size_range a.ipv6 Simple).1 (limits c).0 in
    let second = few (pairs_in f).size a.c.pairs (size_range a.ipv6 RegisterStop).1 (limits c).1 in
    (omega (arith, p, head), omega (arith, p, head, first), omega (arith, p, head, first, second))

pub overflow_cast-c : goal.overflow_cast-c
overflow_cast-c c = let l = limits (goal.at.overflow_cast-c c).After-places_of-s in search rules

pub overflow_cast-s : goal.overflow_cast-s
overflow_cast-s c = let p = at (goal.at.overflow_cast-s c).After-places_of-s in search rules

pub overflow_cast-c-2 : goal.overflow_cast-c-2
overflow_cast-c-2 c = let l = limits (goal.at.overflow_cast-c-2 c).After-places_of-s in search rules

pub overflow_cast-s-2 : goal.overflow_cast-s-2
overflow_cast-s-2 c = let p = at (goal.at.overflow_cast-s-2 c).After-places_of-s in search rules

pub overflow_cast-c-3 : goal.overflow_cast-c-3
overflow_cast-c-3 c = let l = limits (goal.at.overflow_cast-c-3 c).After-places_of-s in search rules

pub overflow_cast-s-3 : goal.overflow_cast-s-3
overflow_cast-s-3 c = let p = at (goal.at.overflow_cast-s-3 c).After-places_of-s in search rules

pub returns : goal.returns
returns c =
    let L = layout_of (form_by c.args.ipv6) in
    let f = family_of c.args.ipv6 in
    header_written L f (written_header c.args.ipv6).1 c.form_word.result c.form_word.ensures c.args.c c.args.d.now (c.write.ensures.buffer ∙ number_fits 4 _ 0 _ (omega (arith, c.requires.0)))
    c.put_pair.ensures c.put_pair-2.ensures c.put_pair-3.ensures
    (asserts_place L f c.args.c c.requires.1 (places (goal.at.returns c).After-places_of-s)) (pairs_place L f c.args.c c.requires.1 (places (goal.at.returns c).After-places_of-s)) (rows_place L f c.args.c c.requires.1 (places (goal.at.returns c).After-places_of-s))
