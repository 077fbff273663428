-- What the answers of this crate's calls mean: 01's number and values for each case; and the parts in which the code reads an attribute.
--     read_by                        what reading an attribute finds
--     found                          a value of which f says what it is, and the place past it, or a refusal
--     size_for, size_by              how many octets an option has, by its bit, and how many of them a word of option bits gives it
--     option_at                      an option's value in k octets, by its bit
--     fields_after                   what follows the length
-- Assumes nothing: these are definitions.
use Rattle.std.specs.Prelude.{ℕ, ◌+◌, ◌-◌, Bool, not, cond, leb, Result, Ok, Err}
use Rattle.format.specs.Reader.{Read, Reader, got, bad, ◌>>=◌, ◌>>◌, give, octets, number, refuse}
use Rattle.format.specs.Outcome.{reason_number}
use Rattle.format.specs.declared.Refusal.{Refusal}
use Rattle.attributes.specs.Options.{has_bit, sizes}
use Rattle.attributes.specs.Attribute.{length_agrees, values}
use Rattle.attributes.specs.declared.read.Attribute.{Attribute}
use Rattle.attributes.specs.declared.read.AttributeRead.{AttributeRead}

abbrev pub read_by : Result AttributeRead Refusal → Read Attribute
read_by (Ok r) = got r.attribute r.next
read_by (Err r) = bad (reason_number r.reason) r.place

abbrev pub found : {A B : Type 0} → (A → B) → Result (A × ℕ) Refusal → Read B
found f (Ok field) = got (f field.0) field.1
found f (Err r) = bad (reason_number r.reason) r.place

-- the options of four octets have the highest bits, then come those of two
abbrev pub size_for : ℕ → ℕ
size_for bit = cond (leb 0x4000 bit) 4 (cond (leb 0x1000 bit) 2 1)

abbrev pub size_by : ℕ → ℕ → ℕ
size_by w bit = cond (has_bit w bit) (size_for bit) 0

-- 0 where the option is not present
unfoldable pub option_at : ℕ → ℕ → ℕ → Reader ℕ
option_at k w bit = cond (has_bit w bit) (number k) (give 0)

-- given the attribute's first octet, E and the length
unfoldable pub fields_after : ℕ → Bool → ℕ → Reader Attribute
fields_after first e n = do
  m ← number 2
  f ← number 2
  w ← number 2
  refuse (not (length_agrees n w)) 13 first
  v ← values w
  octets (n - (6 + sizes w))
  give (record { e = e; mtu = m; flags = f; options = w; values = v })
