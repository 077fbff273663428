-- The two families are lawful, so every theorem holds of them.
--     lawful              what the theorems ask of a family
--     least_usual         the usual limit is not below the family's least one
--     given               any limit that is read lies in its family's range, so demand 3 speaks of it
--     lossless6, least6, most_that_fit6, fewest6     the theorems on joining, sizes and trains at 16 octets
-- Assumes nothing.
use Prim.Native.Nat.{ℕ, ◌≤◌}
use mathlib.Core.Path.{◌≡◌, refl}
use mathlib.Core.Bool.{Bool, true, false}
use mathlib.Core.List.{List}
use lib.ListN.{length, take, length-append}
use lib.Dec.{lit<, lit≤}
use Rattle.octets.specs.Octets.{Octets}
use Rattle.octets.proofs.Laws.{length_be}
use Rattle.records.specs.Records.{AssertRecord, AggregatedRecord, Formed, all_entries}
use Rattle.records.specs.Every.{Every}
use Rattle.records.specs.Joining.{joined}
use Rattle.records.specs.Sizes.{all_size}
use Rattle.records.proofs.Lossless.{lossless}
use Rattle.records.proofs.Least.{least}
use Rattle.format.specs.Outcome.{gives}
use Rattle.format.specs.Path.{number_of, pseudo_header}
use Rattle.format.specs.Family.{ipv6, family_of, Lawful}
use Rattle.format.specs.Entry.{assert_entries, AllAllowed, count, whole, entries_of}
use Rattle.format.specs.Packing.{usual_limit, least_limit, read_limit, aggregated}
use Rattle.format.specs.Train.{Lent, Sent, Given, Within, Unpacks, calls, taken_of, messages_of}
use Rattle.format.specs.declared.Path.{Path}
use Rattle.format.proofs.Lengths.{AreOctets, no_octets, octet, zero_octet, ◌then◌, number as octets_number}
use Rattle.format.proofs.Calls.{limit_range}
use Rattle.format.specs.RoundTrip.{MostThatFit}
use Rattle.format.proofs.MostThatFit.{most_that_fit, aggregated_grows}
use Rattle.format.proofs.Trains.{least_train}

-- RFC 8200's pseudo-header is 40 octets
pseudo_octets : (p : Path) (n : ℕ) → AreOctets (pseudo_header p n)
unfolding pseudo_header
pseudo_octets p n =
    octets_number 16 (number_of p.source) then octets_number 16 (number_of p.destination) then octets_number 4 n
    then zero_octet (zero_octet (zero_octet (octet (lit< tt) no_octets)))

pseudo_long : (p : Path) (n : ℕ) → length (pseudo_header p n) ≡ 40
unfolding pseudo_header
pseudo_long p n = simp (length-append, length_be)

pub lawful : (is_ipv6 : Bool) → Lawful (family_of is_ipv6)
lawful false = record {
  wide = lit< tt;
  family_octet = lit< tt;
  mask_octet = lit< tt;
  zero_is_none = refl;
  covered_octets = λ p n. no_octets.below;
  covered_words = λ p n. (0, refl);
  front_octets = (octet (lit< tt) (zero_octet (zero_octet (zero_octet no_octets)))).below;
}
lawful true = record {
  wide = lit< tt;
  family_octet = lit< tt;
  mask_octet = lit< tt;
  zero_is_none = refl;
  covered_octets = λ p n. (pseudo_octets p n).below;
  covered_words = λ p n. (20, pseudo_long p n);
  front_octets = (octet (lit< tt) (zero_octet (zero_octet (zero_octet no_octets)))).below;
}

pub least_usual : (is_ipv6 : Bool) → least_limit (family_of is_ipv6) ≤ usual_limit
unfolding least_limit usual_limit
least_usual false = lit≤ tt
least_usual true = lit≤ tt

pub given : (is_ipv6 : Bool) (entries : List ℕ) (limit l : ℕ) → Octets entries → whole (assert_entries (family_of is_ipv6)) entries ≡ true
    → AllAllowed (assert_entries (family_of is_ipv6)) entries 0 (count (assert_entries (family_of is_ipv6)) entries) → read_limit (family_of is_ipv6) limit ≡ gives l
    → Given (family_of is_ipv6) entries l
given is_ipv6 entries limit l octets is_whole allowed read =
    let range = limit_range (family_of is_ipv6) limit l read in
    record { are_octets = octets; whole_list = is_whole; allowed = allowed; least = range.0 (least_usual is_ipv6); greatest = range.1 }

-- ---- IPv6: joined and unpacked gives the same entries; no records that stand for them are shorter; a message takes the most that fit; and no
-- other train is shorter, whatever the addresses of its messages.

pub lossless6 : (es : List AssertRecord) → all_entries (joined 16 es) ≡ es
lossless6 = lossless 16

pub least6 : (rs : List AggregatedRecord) → Every Formed rs → all_size 16 (joined 16 (all_entries rs)) ≤ all_size 16 rs
least6 = least 16

pub most_that_fit6 : (l : ℕ) (es : List AssertRecord) → MostThatFit (aggregated ipv6) l es
most_that_fit6 = most_that_fit (aggregated ipv6) (aggregated_grows ipv6)

pub fewest6 : (entries : List ℕ) (l : ℕ) → Given ipv6 entries l → (ds : List Lent) (train : List Sent) → Every (Within l) train
    → Unpacks ipv6 train (take (taken_of (calls (aggregated ipv6) entries l 0 ds)) (entries_of (assert_entries ipv6) entries))
    → length (messages_of (calls (aggregated ipv6) entries l 0 ds)) ≤ length train
fewest6 = least_train ipv6 (lawful true)
