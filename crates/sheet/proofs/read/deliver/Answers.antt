-- `sheet::read::deliver` meets its contract: the tests are those of the definition; then two copies and the rows.
-- Assumes nothing.
use Prim.Native.Nat.{◌*◌, ◌≤◌}
use mathlib.Core.Path.{◌≡◌, refl, sym, ap, ◌∙◌}
use mathlib.Core.Bool.{true}
use native.Mathlib.Omega.{arith}
use borrow.Author.Rules.{rules}
use Rattle.octets.specs.Octets.{put}
use Rattle.format.specs.Outcome.{gives}
use Rattle.format.specs.declared.Kind.TheVariants.{Simple, RegisterStop}
use Rattle.entries.proofs.ByKind.{with_range}
use Rattle.neighbours.specs.Rows.{table_of}
use Rattle.sections.specs.Layout.{layout_of, form_of, family_in, row_size, header_size, pairs_from, rows_from}
use Rattle.sections.specs.Checking.{checking}
use Rattle.sections.proofs.Header.{few_entries, few, named_family, asserts_place, pairs_place, rows_place}
use Rattle.sheet.specs.Calls.{read_checked, found_by}
use Rattle.sheet.proofs.Again.{sizes}
use Rattle.sheet.proofs.Gathered.{asserts_room, pairs_room, asserts_fit, pairs_fit, asserts_held, pairs_held, rows_held, read_short, read_short_pairs, read_fine}
use Rattle.sheet.proofs.read.deliver.Goals as goal
use Rattle.sheet.proofs.read.deliver.Goals.{After-form_of-form, After-places_of-s}

-- it passed in the form that code goes by, and is read so
checks : (c : After-form_of-form) → checking (layout_of c.form_of-form.result) (family_in c.form_of-form.result) c.args.o.now ≡ gives c.args.c
checks c = ap (λ k. checking (layout_of k) (family_in k) c.args.o.now) c.form_of-form.ensures ∙ c.requires

reads : (c : After-form_of-form)
    → read_checked (form_of c.args.o.now) c.args.o.now c.args.asserts.now c.args.pairs.now (gives c.args.c)
    ≡ read_checked c.form_of-form.result c.args.o.now c.args.asserts.now c.args.pairs.now (gives c.args.c)
reads c = ap (λ k. read_checked k c.args.o.now c.args.asserts.now c.args.pairs.now (gives c.args.c)) (sym c.form_of-form.ensures)

limits : (c : After-form_of-form) → (c.args.c.asserts ≤ 8192) × (c.args.c.pairs ≤ 8192)
limits c =
    let l = few_entries c.form_of-form.result c.args.c (sizes c.form_of-form.result c.args.o.now c.args.c (checks c)).4 in
    (l.0, l.1)

-- where the sections begin
at : (c : After-places_of-s)
    → checking (layout_of c.form_of-form.result) (family_in c.form_of-form.result) c.args.o.now ≡ gives c.args.c
    → (c.places_of-s.result.asserts ≡ header_size (layout_of c.form_of-form.result))
    × (c.places_of-s.result.pairs ≡ pairs_from (layout_of c.form_of-form.result) (family_in c.form_of-form.result) c.args.c)
    × (c.places_of-s.result.rows ≡ rows_from (layout_of c.form_of-form.result) (family_in c.form_of-form.result) c.args.c)
at c passes =
    let ok = (sizes c.form_of-form.result c.args.o.now c.args.c passes).4 in (
      asserts_place (layout_of c.form_of-form.result) (family_in c.form_of-form.result) c.args.c ok c.places_of-s.ensures,
      pairs_place (layout_of c.form_of-form.result) (family_in c.form_of-form.result) c.args.c ok c.places_of-s.ensures,
      rows_place (layout_of c.form_of-form.result) (family_in c.form_of-form.result) c.args.c ok c.places_of-s.ensures,
    )

pub overflow_mul-entry_size : goal.overflow_mul-entry_size
overflow_mul-entry_size c =
    let h = few c.entry_size.result c.args.c.asserts (omega (arith, c.entry_size.ensures, with_range c.ipv6_in-ipv6.result true Simple)) (limits (goal.at.overflow_mul-entry_size c).After-form_of-form).0 in
    search rules

pub returns-then-asserts-entry_size : goal.returns-then-asserts-entry_size
returns-then-asserts-entry_size c =
    let long = asserts_room c.form_of-form.result c.args.o.now c.args.c (checks (goal.at.returns-then-asserts-entry_size c).After-form_of-form) c.ipv6_in-ipv6.ensures c.entry_size.ensures in
    let e = reads (goal.at.returns-then-asserts-entry_size c).After-form_of-form ∙ read_short c.form_of-form.result c.args.o.now c.args.asserts.now c.args.pairs.now c.args.c refl (omega (arith, long, c.if-asserts-entry_size.true)) in
    record {
      found = rw e (rw c.at.ensures at c.refused.ensures.found);
      table = rw e c.refused.ensures.table;
      asserts = rw e refl;
      pairs = rw e refl;
    }

pub overflow_mul-entry_size-2 : goal.overflow_mul-entry_size-2
overflow_mul-entry_size-2 c =
    let h = few c.entry_size-2.result c.args.c.pairs (omega (arith, c.entry_size-2.ensures, with_range c.ipv6_in-ipv6.result true RegisterStop)) (limits (goal.at.overflow_mul-entry_size-2 c).After-form_of-form).1 in
    search rules

pub returns-then-pairs-entry_size : goal.returns-then-pairs-entry_size
returns-then-pairs-entry_size c =
    let long = asserts_room c.form_of-form.result c.args.o.now c.args.c (checks (goal.at.returns-then-pairs-entry_size c).After-form_of-form) c.ipv6_in-ipv6.ensures c.entry_size.ensures in
    let more = pairs_room c.form_of-form.result c.args.o.now c.args.c (checks (goal.at.returns-then-pairs-entry_size c).After-form_of-form) c.ipv6_in-ipv6.ensures c.entry_size-2.ensures in
    let e = reads (goal.at.returns-then-pairs-entry_size c).After-form_of-form ∙ read_short_pairs c.form_of-form.result c.args.o.now c.args.asserts.now c.args.pairs.now c.args.c refl (omega (arith, long, c.if-asserts-entry_size.false)) (omega (arith, more, c.if-pairs-entry_size.true)) in
    record {
      found = rw e (rw c.at-then-pairs-entry_size.ensures at c.refused-then-pairs-entry_size.ensures.found);
      table = rw e c.refused-then-pairs-entry_size.ensures.table;
      asserts = rw e refl;
      pairs = rw e refl;
    }

pub copy_entries-requires : goal.copy_entries-requires
copy_entries-requires c = (
  omega (arith, (at (goal.at.copy_entries-requires c).After-places_of-s (checks (goal.at.copy_entries-requires c).After-form_of-form)).0, (sizes c.form_of-form.result c.args.o.now c.args.c (checks (goal.at.copy_entries-requires c).After-form_of-form)).1),
  asserts_fit c.form_of-form.result c.ipv6_in-ipv6.ensures c.args.c.asserts _ c.entry_size.ensures c.if-asserts-entry_size.false,
)

pub copy_entries-requires-2 : goal.copy_entries-requires-2
copy_entries-requires-2 c = (
  omega (arith, (at (goal.at.copy_entries-requires-2 c).After-places_of-s (checks (goal.at.copy_entries-requires-2 c).After-form_of-form)).1, (sizes c.form_of-form.result c.args.o.now c.args.c (checks (goal.at.copy_entries-requires-2 c).After-form_of-form)).2),
  pairs_fit c.form_of-form.result c.ipv6_in-ipv6.ensures c.args.c.pairs _ c.entry_size-2.ensures c.if-pairs-entry_size.false,
)

pub gather-requires : goal.gather-requires
gather-requires c =
    let s = sizes c.form_of-form.result c.args.o.now c.args.c (checks (goal.at.gather-requires c).After-form_of-form) in
    let same = ap (λ f. row_size f * c.args.c.neighbours) (named_family c.form_of-form.result c.ipv6_in-ipv6.ensures c.prefixed_in.ensures) in
    (s.0, omega (arith, (at (goal.at.gather-requires c).After-places_of-s (checks (goal.at.gather-requires c).After-form_of-form)).2, s.3, same))

pub returns : goal.returns
unfolding found_by
returns c =
    let p = at (goal.at.returns c).After-places_of-s (checks (goal.at.returns c).After-form_of-form) in
    let long = asserts_room c.form_of-form.result c.args.o.now c.args.c (checks (goal.at.returns c).After-form_of-form) c.ipv6_in-ipv6.ensures c.entry_size.ensures in
    let more = pairs_room c.form_of-form.result c.args.o.now c.args.c (checks (goal.at.returns c).After-form_of-form) c.ipv6_in-ipv6.ensures c.entry_size-2.ensures in
    let e = reads (goal.at.returns c).After-form_of-form ∙ read_fine c.form_of-form.result c.args.o.now c.args.asserts.now c.args.pairs.now c.args.c refl (omega (arith, long, c.if-asserts-entry_size.false)) (omega (arith, more, c.if-pairs-entry_size.false)) in
    record {
      found = rw e refl;
      table = rw e (c.gather.ensures ∙ ap table_of (rows_held c.form_of-form.result c.args.o.now c.args.c (named_family c.form_of-form.result c.ipv6_in-ipv6.ensures c.prefixed_in.ensures) p.2));
      asserts = rw e (c.copy_entries.ensures ∙ ap (put c.args.asserts.now 0) (asserts_held c.form_of-form.result c.args.o.now c.args.c p.0));
      pairs = rw e (c.copy_entries-2.ensures ∙ ap (put c.args.pairs.now 0) (pairs_held c.form_of-form.result c.args.o.now c.args.c p.1));
    }
