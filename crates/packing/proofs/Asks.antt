-- What a packing call asks, by the tests that code makes.
--     read_gives, read_refuses     what the answer about the limit says
--     limit_usual, limit_low, limit_high, limit_within     the limit as read
--     ask_limit, ask_room, ask_part, ask_start, ask_bad, ask_fine     the call is refused with 9, 8, 10, 7, or goes on
-- Assumes nothing.
use mathlib.Core.Bool.{Bool}
use Prim.Native.Nat.{ℕ, ◌/◌, ◌%◌, ◌≤◌, ◌<◌}
use mathlib.Core.Path.{◌≡◌, sym, ap, ◌∙◌}
use mathlib.Core.List.{List}
use borrow.Author.Tests.{le-ltb, le-leb, lt-leb, eq-eqb, ne_eqb}
use lib.ListN.{length}
use Rattle.format.specs.Outcome
use Rattle.format.specs.Outcome.{Outcome, gives, refuses, refuse_if}
use Rattle.format.specs.Family.{Family, family_of}
use Rattle.format.specs.Entry.{Entries, count, whole}
use Rattle.format.specs.Packing.{usual_limit, least_limit, read_limit, first_bad, asked}
use Rattle.format.proofs.Calls.{asked_short}
use Rattle.format.specs.declared.Kind.{Kind}
use Rattle.format.specs.declared.Refusal.{Refusal}
use Rattle.entries.specs.Kinds.{entries_for, listed_by}
use Rattle.packing.specs.Answers.{limit_of, limited}
use Rattle.entries.proofs.ByKind.{family_is}
use Rattle.std.specs.Prelude.{Result, Ok, Err, Option, None, Some}
use Rattle.format.specs.Outcome.{reason_number}

-- what the answer about the limit says
module _ (ipv6 : Bool) (k : Kind) (limit : ℕ) {x : Result ℕ Refusal} where
  pub read_gives : {l : ℕ} → x ≡ Ok l → limit_of x ≡ read_limit (family_of ipv6) limit → read_limit (entries_for ipv6 k).family limit ≡ gives l
  unfolding limit_of
  read_gives p q = rw (family_is ipv6 k) (sym q ∙ ap limit_of p)

  pub read_refuses : {r : Refusal} → x ≡ Err r → limit_of x ≡ read_limit (family_of ipv6) limit → read_limit (entries_for ipv6 k).family limit ≡ refuses (reason_number r.reason) r.place
  unfolding limit_of
  read_refuses p q = rw (family_is ipv6 k) (sym q ∙ ap limit_of p)

module _ (f : Family) (limit : ℕ) where
  pub limit_usual : limit ≡ 0 → read_limit f limit ≡ gives usual_limit
  unfolding read_limit
  limit_usual h = rw (eq-eqb limit 0 h)

  pub limit_low : (limit ≡ 0 → ⊥) → limit < least_limit f → read_limit f limit ≡ refuses 9 0
  unfolding read_limit
  limit_low z h = rw (ne_eqb limit 0 z, lt-leb (least_limit f) limit h)

  pub limit_high : (limit ≡ 0 → ⊥) → least_limit f ≤ limit → 65515 < limit → read_limit f limit ≡ refuses 9 0
  unfolding read_limit
  limit_high z h g = rw (ne_eqb limit 0 z, le-leb (least_limit f) limit h, lt-leb limit 65515 g)

  pub limit_within : (limit ≡ 0 → ⊥) → least_limit f ≤ limit → limit ≤ 65515 → read_limit f limit ≡ gives limit
  unfolding read_limit
  limit_within z h g = rw (ne_eqb limit 0 z, le-leb (least_limit f) limit h, le-leb limit 65515 g)

module _ (E : Entries) (o : List ℕ) (start limit room : ℕ) where
  pub ask_limit : (n p : ℕ) → read_limit E.family limit ≡ refuses n p → limited (asked E o start limit room) ≡ refuses n p
  unfolding asked limited Outcome.◌>>=◌
  ask_limit n p e = rw e

  module _ (l : ℕ) (read : read_limit E.family limit ≡ gives l) where
    pub ask_room : room < l → limited (asked E o start limit room) ≡ refuses 8 0
    unfolding limited
    ask_room short = rw (asked_short E o start limit room l read short)

    module _ (enough : l ≤ room) where
      pub ask_part : (length o % E.size ≡ 0 → ⊥) → limited (asked E o start limit room) ≡ refuses 10 0
      unfolding asked limited whole refuse_if Outcome.◌>>=◌ Outcome.◌>>◌
      ask_part part = rw (read, le-ltb room l enough, ne_eqb (length o % E.size) 0 part)

      module _ (full : length o % E.size ≡ 0) where
        pub ask_start : length o / E.size < start → limited (asked E o start limit room) ≡ refuses 10 0
        unfolding asked limited whole count refuse_if Outcome.◌>>=◌ Outcome.◌>>◌
        ask_start past = rw (read, le-ltb room l enough, eq-eqb (length o % E.size) 0 full, lt-leb start (length o / E.size) past)

        module _ (inside : start ≤ length o / E.size) {x : Option ℕ} (look : listed_by x ≡ first_bad E o start) where
          pub ask_bad : {i : ℕ} → x ≡ Some i → limited (asked E o start limit room) ≡ refuses 7 i
          unfolding asked limited listed_by whole count refuse_if Outcome.◌>>=◌ Outcome.◌>>◌
          ask_bad bad =
              rw (read, le-ltb room l enough, eq-eqb (length o % E.size) 0 full, le-leb start (length o / E.size) inside, ← look, bad)

          pub ask_fine : x ≡ None → limited (asked E o start limit room) ≡ gives l
          unfolding asked limited listed_by whole count refuse_if Outcome.◌>>=◌ Outcome.◌>>◌
          ask_fine fine =
              rw (read, le-ltb room l enough, eq-eqb (length o % E.size) 0 full, le-leb start (length o / E.size) inside, ← look, fine)
