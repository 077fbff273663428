-- `sections::layout::places_of` meets its contract. Counts that are allowed keep every place far below 64 bits.
-- Assumes nothing.
use mathlib.Core.Path.{◌≡◌, sym, ◌∙◌}
use mathlib.Core.Bool.{Bool, true}
use Prim.Native.Nat.{ℕ, ◌*◌, ◌≤◌}
use native.Mathlib.Omega.{arith}
use Rattle.format.specs.declared.Kind.TheVariants.{Simple, RegisterStop}
use Rattle.entries.specs.Kinds.{entries_with}
use Rattle.entries.proofs.ByKind.{with_range}
use Rattle.sections.specs.Layout.{layout_of, family_in}
use Rattle.sections.specs.Checking.{counts_allowed}
use Rattle.sections.proofs.Header.{few_entries, few, no_places, named_family, places_code}
use Rattle.sections.proofs.layout.places_of.Goals as goal
use Rattle.sections.proofs.layout.places_of.Goals.{Else-not-counts_allowed}

allowed : (c : Else-not-counts_allowed) → counts_allowed (layout_of c.args.form) c.args.c ≡ true
allowed c = sym c.counts_allowed.ensures ∙ c.if-not-counts_allowed.false

-- the octets of the asserts, of the pairs and of the rows
first : (c : Else-not-counts_allowed) (ipv6 prefixed : Bool) {size : ℕ} → size ≡ (entries_with ipv6 prefixed Simple).size → size * c.args.c.asserts ≤ 360448
first c ipv6 prefixed e = few _ _ (omega (arith, e, with_range ipv6 prefixed Simple)) (few_entries c.args.form c.args.c (allowed c)).0

second : (c : Else-not-counts_allowed) (ipv6 prefixed : Bool) {size : ℕ} → size ≡ (entries_with ipv6 prefixed RegisterStop).size → size * c.args.c.pairs ≤ 360448
second c ipv6 prefixed e = few _ _ (omega (arith, e, with_range ipv6 prefixed RegisterStop)) (few_entries c.args.form c.args.c (allowed c)).1

third : (c : Else-not-counts_allowed) {size : ℕ} → size ≤ 28 → size * c.args.c.neighbours ≤ 360448
third c h = few _ _ (omega (arith, h)) (omega (arith, (few_entries c.args.form c.args.c (allowed c)).2))

pub overflow_mul-pairs : goal.overflow_mul-pairs
overflow_mul-pairs c = omega (arith, first (goal.at.overflow_mul-pairs c).Else-not-counts_allowed c.ipv6_in-ipv6.result c.prefixed_in-prefixed.result c.entry_size.ensures)

pub overflow_add-pairs : goal.overflow_add-pairs
overflow_add-pairs c = omega (arith, c.header_size-asserts.ensures, first (goal.at.overflow_add-pairs c).Else-not-counts_allowed c.ipv6_in-ipv6.result c.prefixed_in-prefixed.result c.entry_size.ensures)

pub overflow_mul-rows : goal.overflow_mul-rows
overflow_mul-rows c = omega (arith, second (goal.at.overflow_mul-rows c).Else-not-counts_allowed c.ipv6_in-ipv6.result c.prefixed_in-prefixed.result c.entry_size-2.ensures)

pub overflow_add-rows : goal.overflow_add-rows
overflow_add-rows c = omega (arith, c.header_size-asserts.ensures, first (goal.at.overflow_add-rows c).Else-not-counts_allowed c.ipv6_in-ipv6.result c.prefixed_in-prefixed.result c.entry_size.ensures, second (goal.at.overflow_add-rows c).Else-not-counts_allowed c.ipv6_in-ipv6.result c.prefixed_in-prefixed.result c.entry_size-2.ensures)

pub overflow_mul-end : goal.overflow_mul-end
overflow_mul-end c = omega (arith, third (goal.at.overflow_mul-end c).Else-not-counts_allowed c.row_size.ensures.1)

pub overflow_add-end : goal.overflow_add-end
overflow_add-end c = omega (arith, c.header_size-asserts.ensures, first (goal.at.overflow_add-end c).Else-not-counts_allowed c.ipv6_in-ipv6.result c.prefixed_in-prefixed.result c.entry_size.ensures, second (goal.at.overflow_add-end c).Else-not-counts_allowed c.ipv6_in-ipv6.result c.prefixed_in-prefixed.result c.entry_size-2.ensures, third (goal.at.overflow_add-end c).Else-not-counts_allowed c.row_size.ensures.1)

pub returns-then-not-counts_allowed : goal.returns-then-not-counts_allowed
returns-then-not-counts_allowed c = sym (no_places (layout_of c.args.form) (family_in c.args.form) c.args.c (sym c.counts_allowed.ensures ∙ c.if-not-counts_allowed.true))

pub returns : goal.returns
returns c =
    places_code (layout_of c.args.form) c.args.c (named_family c.args.form c.ipv6_in-ipv6.ensures c.prefixed_in-prefixed.ensures) (allowed (goal.at.returns c).Else-not-counts_allowed)
    c.header_size-asserts.ensures.0 c.entry_size.ensures c.entry_size-2.ensures c.row_size.ensures.0
