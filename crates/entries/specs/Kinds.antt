-- Entries by the kind of message, over the family.
--     by_kind                     a table over the kinds
--     is_assert, is_stop           the kinds with asserts, and the one whose source may always be 0
--     family_with                 the family of entries with a front, or without: older sheets have entries without
--     fields_size                 the octets of an entry past its front
--     low_first                   the number in four octets, the first of them the lowest
--     entries_by, zero_by          entries by both: what they are, and whether the source of one may be 0
--     entries_for, entries_with    the entries of a kind: of a family, and with a front or without
--     numbered                   what the first bad one comes to, by its number
--     listed_by                   01's number and values for each answer about a list
-- A hello has no entries, and no call packs one. Assumes nothing: these are definitions.
use Rattle.std.specs.Prelude.{ℕ, ◌+◌, ◌*◌, Bool, true, false, cond, List, ltb, get_or}
use Rattle.octets.specs.Octets.{number_at}
use Rattle.records.specs.Records.{r_bit}
use Rattle.format.specs.Outcome.{Outcome, gives, refuses}
use Rattle.format.specs.Family.{Family, family_of, with_front}
use Rattle.format.specs.Entry.{Entries, assert_entries, pair_entries}
use Rattle.format.specs.declared.Kind.{Kind}
use Rattle.format.specs.declared.Kind.TheVariants.{Hello, Assert, Simple, Aggregated, NullRegister, RegisterStop}
use Rattle.std.specs.Prelude.{Option, None, Some}

-- a row of a table, in the order of the kinds
abbrev pub by_kind : {A : Type 0} → A → A → A → A → A → A → Kind → A
by_kind h p s a n r Hello = h
by_kind h p s a n r Assert = p
by_kind h p s a n r Simple = s
by_kind h p s a n r Aggregated = a
by_kind h p s a n r NullRegister = n
by_kind h p s a n r RegisterStop = r

abbrev pub is_assert : Kind → Bool
is_assert = by_kind true true true true false false

abbrev pub is_stop : Kind → Bool
is_stop = by_kind false false false false false true

abbrev pub family_with : Bool → Bool → Family
family_with ipv6 prefixed = with_front prefixed (family_of ipv6)

-- group and source, and R with preference and metric of an assert
abbrev pub fields_size : Family → Bool → ℕ
fields_size f asserts = 2 * f.width + cond asserts 8 0

unfoldable pub low_first : List ℕ → ℕ → ℕ
low_first o at = get_or o at 0 + 256 * get_or o (at + 1) 0 + 65536 * get_or o (at + 2) 0 + 16777216 * get_or o (at + 3) 0

abbrev pub entries_by : Family → Bool → Bool → Entries
entries_by f true stop = assert_entries f
entries_by f false stop = pair_entries f stop

abbrev pub entries_for : Bool → Kind → Entries
entries_for ipv6 k = entries_by (family_of ipv6) (is_assert k) (is_stop k)

abbrev pub entries_with : Bool → Bool → Kind → Entries
entries_with ipv6 prefixed k = entries_by (family_with ipv6 prefixed) (is_assert k) (is_stop k)

-- of an assert by its R bit, past its group and its source; from the place of its group on
unfoldable pub zero_by : Family → Bool → Bool → List ℕ → ℕ → Bool
zero_by f true stop o group = r_bit (number_at 4 o (group + 2 * f.width))
zero_by f false stop o group = stop

-- what is found by the number of the first of n entries that is not allowed, or n
unfoldable pub numbered : ℕ → ℕ → Outcome (Unit {0})
numbered n i = cond (ltb i n) (refuses 7 i) (gives tt)

-- "7 with the number of the first bad entry"
unfoldable pub listed_by : Option ℕ → Outcome (Unit {0})
listed_by None = gives tt
listed_by (Some i) = refuses 7 i
