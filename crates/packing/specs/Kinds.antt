-- Messages by their kind, over the family.
--     form_for                      the form of a kind
--     record_size, record_by, record_octets, record_at     the record of an entry, where records have one length
--     is_aggregated, records_for     the kind whose records have not, and the records of entries
--     takes_one                     the kind whose message takes no more than one entry
--     front_of, head_size            what comes before the records: of the body, and in octets with the header
--     is_packed, Packs              a kind that is packed: its body is that and the records
--     fitting                      how many entries fit where records have one length
-- A hello has no entries, and no call packs one. Assumes nothing: these are definitions.
use Rattle.std.specs.Prelude.{ℕ, ◌+◌, ◌-◌, ◌/◌, min, ◌≡◌, Bool, true, false, List, [], length, eqb, ltb}
use Rattle.octets.specs.Octets.{◌&◌}
use Rattle.records.specs.Joining.{joined}
use Rattle.format.specs.Family.{Family, family_of}
use Rattle.format.specs.Entry.{front_size, assert_at, pair_at}
use Rattle.format.specs.Record.{each, assert_octets, pair_octets, aggregated_octets}
use Rattle.format.specs.Body.{zeros}
use Rattle.format.specs.Packing.{Form, plain, simple, aggregated, null_register, register_stop}
use Rattle.format.specs.declared.Kind.{Kind}
use Rattle.format.specs.declared.Kind.TheVariants.{Hello, Assert, Simple, Aggregated, NullRegister, RegisterStop}
use Rattle.entries.specs.Kinds.{by_kind, is_assert, is_stop, fields_size, entries_by, entries_for}

abbrev pub form_for : (ipv6 : Bool) (k : Kind) → Form (entries_for ipv6 k)
form_for ipv6 Hello = record { kind = Hello; at_most = λ n. 0; body = λ es. []; size = λ es. 4 }
form_for ipv6 Assert = plain (family_of ipv6)
form_for ipv6 Simple = simple (family_of ipv6)
form_for ipv6 Aggregated = aggregated (family_of ipv6)
form_for ipv6 NullRegister = null_register (family_of ipv6)
form_for ipv6 RegisterStop = register_stop (family_of ipv6)

-- family, 0, 0 and mask before the group, family and 0 before the source; an entry's front is not in it
abbrev pub record_size : Bool → Kind → ℕ
record_size ipv6 k = fields_size (family_of ipv6) (is_assert k) + 6

unfoldable pub record_by : (f : Family) (asserts stop : Bool) → (entries_by f asserts stop).Entry → List ℕ
record_by f true stop = assert_octets f
record_by f false stop = pair_octets f

abbrev pub record_octets : (ipv6 : Bool) (k : Kind) → (entries_for ipv6 k).Entry → List ℕ
record_octets ipv6 k = record_by (family_of ipv6) (is_assert k) (is_stop k)

-- the record of the entry at a place
unfoldable pub record_at : Family → Bool → List ℕ → ℕ → List ℕ
record_at f true o at = assert_octets f (assert_at f o (at + front_size f))
record_at f false o at = pair_octets f (pair_at f o (at + front_size f))

unfoldable pub is_aggregated : Kind → Bool
is_aggregated = by_kind false false false true false false

unfoldable pub records_for : (ipv6 : Bool) (k : Kind) → List (entries_for ipv6 k).Entry → List ℕ
records_for ipv6 Hello es = each (record_octets ipv6 Hello) es
records_for ipv6 Assert es = each (record_octets ipv6 Assert) es
records_for ipv6 Simple es = each (record_octets ipv6 Simple) es
records_for ipv6 Aggregated es = each (aggregated_octets (family_of ipv6)) (joined (family_of ipv6).width es)
records_for ipv6 NullRegister es = each (record_octets ipv6 NullRegister) es
records_for ipv6 RegisterStop es = each (record_octets ipv6 RegisterStop) es

-- Zero and Reserved of a packed assert
abbrev pub front_of : Kind → List ℕ
front_of = by_kind [] [] zeros zeros [] []

abbrev pub head_size : Kind → ℕ
head_size k = 4 + length (front_of k)

-- how many entries a kind takes is the same in both families
unfoldable pub takes_one : Kind → Bool
takes_one k = eqb ((form_for false k).at_most 2) 1

abbrev pub is_packed : Kind → Bool
is_packed k = ltb 0 ((form_for false k).at_most 1)

pub record Packs (ipv6 : Bool) (k : Kind) : Type 0 where
  pub some : is_packed k ≡ true
  pub body : (es : List (entries_for ipv6 k).Entry) → (form_for ipv6 k).body es ≡ front_of k & records_for ipv6 k es

-- as many records as there is room for past the head, and no more than there are entries
unfoldable pub fitting : Bool → Kind → ℕ → ℕ → ℕ
fitting ipv6 k limit n = min ((limit - head_size k) / record_size ipv6 k) ((form_for ipv6 k).at_most n)
