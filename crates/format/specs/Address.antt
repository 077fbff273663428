-- The two encoded addresses of 01, "Octets of a message" (RFC 7761, 4.9.1: Encoded-Group and Encoded-Unicast), read and written.
--     group_form, group_field, group_octets          "Group: 01, 00, a flags octet (written 0, ignored), mask length 32, address"
--     source_form, source_field, source_octets       "Source: 01, 00, address"
-- A group or a source is one field: it is there whole (6) before its form is looked at (7).
-- Assumes nothing: these are definitions.
use Rattle.std.specs.Prelude.{ℕ, Bool, ◌&&◌, List, [], ◌∷◌, get_or, drop, eqb}
use Rattle.octets.specs.Octets.{value, be, ◌&◌}
use Rattle.records.specs.Sizes.{group_size, source_size}
use Rattle.format.specs.Reader.{Reader, ◌>>=◌, give, octets, must}
use Rattle.format.specs.Family.{Family, mask_length, may_be_source}

unfoldable pub group_form : Family → List ℕ → Bool
group_form f x =
    eqb (get_or x 0 0) f.family && eqb (get_or x 1 0) 0 && eqb (get_or x 3 0) (mask_length f) && f.is_group (value (drop 4 x))

unfoldable pub group_field : Family → Reader ℕ
group_field f = do
  x ← must 7 (group_form f) (octets (group_size f.width))
  give (value (drop 4 x))

unfoldable pub group_octets : Family → ℕ → List ℕ
group_octets f g = (f.family ∷ 0 ∷ 0 ∷ mask_length f ∷ []) & be f.width g

unfoldable pub source_form : Family → Bool → List ℕ → Bool
source_form f zeroAllowed x = eqb (get_or x 0 0) f.family && eqb (get_or x 1 0) 0 && may_be_source f zeroAllowed (value (drop 2 x))

-- whether the source may be 0 is for the record to say
unfoldable pub source_field : Family → Bool → Reader ℕ
source_field f zeroAllowed = do
  x ← must 7 (source_form f zeroAllowed) (octets (source_size f.width))
  give (value (drop 2 x))

unfoldable pub source_octets : Family → ℕ → List ℕ
source_octets f s = (f.family ∷ 0 ∷ []) & be f.width s
