-- A group or a source, by a flag: what they share is said once.
--     address_size      how many octets it is
--     address_form      whether its octets are allowed; a source may be 0 or not
--     address_field     its reader
-- Assumes nothing: these are definitions.
use Rattle.std.specs.Prelude.{ℕ, Bool, cond, List}
use Rattle.records.specs.Sizes.{group_size, source_size}
use Rattle.format.specs.Reader.{Reader}
use Rattle.format.specs.Family.{Family}
use Rattle.format.specs.Address.{group_form, group_field, source_form, source_field}

unfoldable pub address_size : Family → Bool → ℕ
address_size f is_group = cond is_group (group_size f.width) (source_size f.width)

unfoldable pub address_form : Family → Bool → Bool → List ℕ → Bool
address_form f is_group zeroAllowed = cond is_group (group_form f) (source_form f zeroAllowed)

unfoldable pub address_field : Family → Bool → Bool → Reader ℕ
address_field f is_group zeroAllowed = cond is_group (group_field f) (source_field f zeroAllowed)
