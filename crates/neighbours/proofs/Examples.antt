-- The conditions of the theorems on tables can be met, in each family; and a table of one is none of the other.
--     one4, one6                one neighbour, 10.7.0.1 and fe80::1
--     sound4, sound6            their tables are sound
--     not_four, other4          a table of IPv6 is none of IPv4, and neither is an address of IPv6
--     forgets4, forgets6        a new neighbour heard and forgotten
--     same6                     its order does not count
-- Assumes nothing.
use mathlib.Core.Path.{◌≡◌, refl}
use mathlib.Core.Bool.{true, false}
use mathlib.Core.List.Permᴰ
use mathlib.Core.List.{[], ◌∷◌}
use Prim.Native.Nat.{ℕ}
use borrow.Author.Tests.{eqb-false}
use lib.Dec.{lit<}
use Rattle.records.specs.Every.{Every}
use Rattle.format.specs.Family.{Family, family_of}
use Rattle.format.specs.Path.{number_of}
use Rattle.format.specs.declared.Address.{Address}
use Rattle.addresses.specs.Addresses.{in_family}
use Rattle.hello.specs.declared.Hello.{Hello}
use Rattle.neighbours.specs.declared.Neighbour.{Neighbour}
use Rattle.neighbours.specs.declared.Table.{Table}
use Rattle.neighbours.specs.declared.election.Candidate.{Candidate}
use Rattle.neighbours.specs.Rows.{no_row, is_zero, all_zero, allowed, has, sheet_rows, valid, table_of}
use Rattle.neighbours.specs.Hearing.{hearing, forgetting}
use Rattle.neighbours.specs.Election.{candidate, elect}
use Rattle.neighbours.specs.Highest.{candidates}
use Rattle.neighbours.specs.Answers.{table_after}
use Rattle.neighbours.specs.Reached.{Sound}
use Rattle.neighbours.proofs.Highest.{elect_same}
use Rattle.neighbours.proofs.Kept.{refused_14, Refused14, refused_other, RefusedOther, forgets_new}

-- what a router said: holdtime 105, priority 1, it packs
abbrev said : Hello
said = record { holdtime = 105; has_priority = true; priority = 1; packing = true }

abbrev four : ℕ → Address
four n = record { high = 0; low = n }

abbrev six : ℕ → Address
six n = record { high = 0xfe80_0000_0000_0000; low = n }

abbrev one4 : Neighbour
one4 = record { address = four 0x0a07_0001; priority = 1; has_priority = true; packs = true; holdtime = 105 }

abbrev one6 : Neighbour
one6 = record { address = six 1; priority = 1; has_priority = true; packs = true; holdtime = 105 }

abbrev two6 : Neighbour
two6 = record { address = six 2; priority = 1; has_priority = true; packs = true; holdtime = 105 }

abbrev ours : Candidate
ours = record { address = six 3; priority = 1 }

pub sound4 : Sound (family_of false) (table_of (one4 ∷ []))
unfolding valid sheet_rows allowed has all_zero is_zero no_row table_of in_family
sound4 = record { full = refl; ok = refl }

pub sound6 : Sound (family_of true) (table_of (one6 ∷ []))
unfolding valid sheet_rows allowed has all_zero is_zero no_row table_of in_family
sound6 = record { full = refl; ok = refl }

-- an address of IPv6 in a table of IPv4: 14
pub not_four : Refused14 (family_of false) (table_of (one6 ∷ []))
unfolding valid sheet_rows allowed has all_zero is_zero no_row table_of in_family
not_four = refused_14 (family_of false) (table_of (one6 ∷ [])) refl

pub other4 : RefusedOther (family_of false) (table_of (one4 ∷ [])) (six 2)
unfolding in_family
other4 = refused_other (family_of false) (table_of (one4 ∷ [])) (six 2) refl

-- heard and then forgotten
abbrev undone : Family → Table → Address → Table
undone f t a = table_after (table_after t (hearing f t a said)) (forgetting f (table_after t (hearing f t a said)) a)

pub forgets4 : undone (family_of false) (table_of (one4 ∷ [])) (four 0x0a07_0002) ≡ table_of (one4 ∷ [])
unfolding has table_of in_family
forgets4 = forgets_new (family_of false) (table_of (one4 ∷ [])) sound4 (four 0x0a07_0002) said refl (eqb-false 0x0a07_0002 0 refl) (eqb-false 105 0 refl) refl (lit< tt)

pub forgets6 : undone (family_of true) (table_of (one6 ∷ [])) (six 2) ≡ table_of (one6 ∷ [])
unfolding has table_of in_family
forgets6 = forgets_new (family_of true) (table_of (one6 ∷ [])) sound6 (six 2) said refl (eqb-false (number_of (six 2)) 0 refl) (eqb-false 105 0 refl) refl (lit< tt)

-- fe80::1 and fe80::2, with fe80::3 our own
pub same6 : (elect ours (one6 ∷ two6 ∷ [])).address ≡ (elect ours (two6 ∷ one6 ∷ [])).address
unfolding Every candidates candidate
same6 = elect_same ours (Permᴰ.swap refl refl) (lit< tt, (lit< tt, (lit< tt, tt)))
