-- One message at a time comes to the totals of all messages.
--     of_by, by_of                       the totals of one kind, and of each
--     counts_at, counts_long, counts_same  a count for each number
--     Fits                               counts that 64 bits hold
--     fold_plus                          messages one after another: each number stays at the 64-bit maximum
--     total_few                          no count of a file is more than its octets
--     exact                              of a file that fits into memory no number reaches the maximum
-- Assumes nothing.
use Prim.Native.Nat.{ℕ, zero, suc, ◌+◌, ◌≤◌, ◌<◌, ◌^◌}
use native.Mathlib.Omega.{arith}
use mathlib.Core.Path.{◌≡◌, refl, sym, ap, subst, ◌∙◌}
use mathlib.Core.Bool.{Bool, true, false, cond}
use mathlib.Core.List.{List, [], ◌∷◌, foldl}
use borrow.Author.Tests.{leb-true, eqb-true, eqb-false}
use lib.Dec.{eqb, leb}
use lib.ListN.{length, get_or, set, take, drop, replicate, length-set, length-take, length-drop, get_or-replicate}
use lib.Seq.{ext_get_or, get_or-set_same, get_or-set_other}
use Rattle.format.specs.Outcome.{Outcome, gives, refuses}
use Rattle.format.specs.Reading.{Found, found}
use Rattle.format.specs.Values.{kind_number}
use Rattle.format.specs.declared.Kind.{Kind}
use Rattle.format.specs.declared.Kind.TheVariants.{Hello, Assert, Simple, Aggregated, NullRegister, RegisterStop}
use Rattle.counters.specs.Counting.{sum, more_if, more_at, none_by_kind}
use Rattle.counters.specs.declared.Totals.{Totals}
use Rattle.counters.specs.declared.ByKind.{ByKind}
use Rattle.reporting.specs.Judging.{judged}
use Rattle.reporting.specs.File.{before, none, length_of, split, file_of}
use Rattle.reporting.specs.Tallies.{messages_by, records_by, refusals_by, total, totals_of, by_kind, of, counts_from, numbers, tally_of, no_tally, once_more, more, tallied}
use Rattle.reporting.specs.declared.Tally.{Tally}
use Rattle.reporting.proofs.Judged.{FewIn, records_few}

-- ---- one kind

of_more : (k : Kind) (x n : ℕ) (b : ByKind) → of k (more_at x n b) ≡ more_if (eqb x (kind_number k)) n (of k b)
unfolding more_at
of_more Hello x n b = refl
of_more Assert x n b = refl
of_more Simple x n b = refl
of_more Aggregated x n b = refl
of_more NullRegister x n b = refl
of_more RegisterStop x n b = refl

of_none : (k : Kind) → ((of k none_by_kind).messages ≡ 0) × ((of k none_by_kind).records ≡ 0)
of_none Hello = (refl, refl)
of_none Assert = (refl, refl)
of_none Simple = (refl, refl)
of_none Aggregated = (refl, refl)
of_none NullRegister = (refl, refl)
of_none RegisterStop = (refl, refl)

pub of_by : (k : Kind) (f : Kind → Totals) → of k (by_kind f) ≡ f k
unfolding by_kind
of_by Hello f = refl
of_by Assert f = refl
of_by Simple f = refl
of_by Aggregated f = refl
of_by NullRegister f = refl
of_by RegisterStop f = refl

by_of : (t : ByKind) → t ≡ by_kind (λ k. of k t)
unfolding by_kind
by_of t = refl

-- ---- one number

pub counts_long : (f : ℕ → ℕ) (k n : ℕ) → length (counts_from f k n) ≡ k
unfolding counts_from
counts_long f zero n = refl
counts_long f (suc k) n = ap suc (counts_long f k (suc n))

pub counts_at : (f : ℕ → ℕ) (k n i : ℕ) → i < k → get_or (counts_from f k n) i 0 ≡ f (n + i)
unfolding counts_from
counts_at f zero n i h = absurd (omega arith)
counts_at f (suc k) n zero h = ap f (omega arith)
counts_at f (suc k) n (suc i) h = counts_at f k (suc n) i (omega arith) ∙ ap f (omega arith)

pub counts_same : (f g : ℕ → ℕ) (k n : ℕ) → ((i : ℕ) → i < n + k → f i ≡ g i) → counts_from f k n ≡ counts_from g k n
unfolding counts_from
counts_same f g zero n h = refl
counts_same f g (suc k) n h = λ j. h n (omega arith) j ∷ counts_same f g k (suc n) (λ i less. h i (omega arith)) j

-- a list is its elements, counted
counts_list : (l : List ℕ) → counts_from (λ n. get_or l n 0) (length l) 0 ≡ l
counts_list l = ext_get_or 0 _ l (counts_long _ (length l) 0) (λ i h. counts_at _ (length l) 0 i (omega (arith, h, counts_long (λ n. get_or l n 0) (length l) 0)) ∙ ap (λ (n : ℕ). get_or l n 0) (omega arith))

-- ---- sums that stay at the maximum

sum_zero : (a : ℕ) → a < 2 ^ 64 → sum a 0 ≡ a
unfolding sum
sum_zero a h = omega arith

zero_sum : (a : ℕ) → a < 2 ^ 64 → sum 0 a ≡ a
unfolding sum
zero_sum a h = omega arith

sum_sum : (a b c : ℕ) → sum (sum a b) c ≡ sum a (b + c)
unfolding sum
sum_sum a b c = omega arith

sum_fits : (a b : ℕ) → sum a b < 2 ^ 64
unfolding sum
sum_fits a b = omega arith

set_fits : (l : List ℕ) (n i : ℕ) → ((j : ℕ) → get_or l j 0 < 2 ^ 64) → get_or (set l n (sum (get_or l n 0) 1)) i 0 < 2 ^ 64
set_fits [] n i h = h i
set_fits (x ∷ l) zero zero h = sum_fits x 1
set_fits (x ∷ l) zero (suc i) h = h (suc i)
set_fits (x ∷ l) (suc n) zero h = h 0
set_fits (x ∷ l) (suc n) (suc i) h = set_fits l n i (λ j. h (suc j))

pub record Fits (t : Tally) : Type 0 where
  pub messages : (k : Kind) → (of k t.accepted).messages < 2 ^ 64
  pub records : (k : Kind) → (of k t.accepted).records < 2 ^ 64
  pub rows : length t.refused ≡ numbers
  pub refusals : (n : ℕ) → get_or t.refused n 0 < 2 ^ 64

-- ---- one message more

module _ (t : Tally) (f : Fits t) where
  if_messages : (b : Bool) (n : ℕ) (s : Totals) → s.messages < 2 ^ 64 → (more_if b n s).messages ≡ sum s.messages (cond b 1 0)
  unfolding more_if
  if_messages true n s h = refl
  if_messages false n s h = sym (sum_zero s.messages h)

  if_records : (b : Bool) (n : ℕ) (s : Totals) → s.records < 2 ^ 64 → (more_if b n s).records ≡ sum s.records (cond b n 0)
  unfolding more_if
  if_records true n s h = refl
  if_records false n s h = sym (sum_zero s.records h)

  more_messages : (j : Outcome Found) (k : Kind) → (of k (more t j).accepted).messages ≡ sum (of k t.accepted).messages (messages_by k j)
  unfolding more messages_by
  more_messages (gives (found k' n)) k =
      ap (λ (s : Totals). s.messages) (of_more k (kind_number k') n t.accepted) ∙ if_messages (eqb (kind_number k') (kind_number k)) n (of k t.accepted) (f.messages k)
  more_messages (refuses n p) k = sym (sum_zero _ (f.messages k))

  more_records : (j : Outcome Found) (k : Kind) → (of k (more t j).accepted).records ≡ sum (of k t.accepted).records (records_by k j)
  unfolding more records_by
  more_records (gives (found k' n)) k =
      ap (λ (s : Totals). s.records) (of_more k (kind_number k') n t.accepted) ∙ if_records (eqb (kind_number k') (kind_number k)) n (of k t.accepted) (f.records k)
  more_records (refuses n p) k = sym (sum_zero _ (f.records k))

  more_refusals : (j : Outcome Found) (i : ℕ) → i < numbers → get_or (more t j).refused i 0 ≡ sum (get_or t.refused i 0) (refusals_by i j)
  unfolding more refusals_by once_more
  more_refusals (gives (found k n)) i h = sym (sum_zero _ (f.refusals i))
  more_refusals (refuses n p) i h = go (eqb n i) refl
    where
      go : (b : Bool) → eqb n i ≡ b → get_or (set t.refused n (sum (get_or t.refused n 0) 1)) i 0 ≡ sum (get_or t.refused i 0) (cond b 1 0)
      go true e = rw (eqb-true n i e) (get_or-set_same t.refused i _ 0 (omega (arith, f.rows)))
      go false e = get_or-set_other t.refused n i _ 0 (λ s. eqb-false n i e (sym s)) ∙ sym (sum_zero _ (f.refusals i))

  more_rows : (j : Outcome Found) → length (more t j).refused ≡ numbers
  unfolding more once_more
  more_rows (gives (found k n)) = f.rows
  more_rows (refuses n p) = length-set t.refused n _ ∙ f.rows

  more_past : (j : Outcome Found) (i : ℕ) → get_or (more t j).refused i 0 < 2 ^ 64
  unfolding more once_more
  more_past (gives (found k n)) i = f.refusals i
  more_past (refuses n p) i = set_fits t.refused n i f.refusals

  fits_more : (j : Outcome Found) → Fits (more t j)
  fits_more j = record {
    messages = λ k. subst (λ (n : ℕ). n < 2 ^ 64) (sym (more_messages j k)) (sum_fits _ _);
    records = λ k. subst (λ (n : ℕ). n < 2 ^ 64) (sym (more_records j k)) (sum_fits _ _);
    rows = more_rows j;
    refusals = more_past j;
  }

-- ---- all messages

-- with the messages more, each number at the maximum where it would pass it
abbrev pub plus : Tally → List (List ℕ) → Tally
plus t ms = record {
  accepted = by_kind (λ k. record { messages = sum (of k t.accepted).messages (total (messages_by k) ms); records = sum (of k t.accepted).records (total (records_by k) ms) });
  refused = counts_from (λ n. sum (get_or t.refused n 0) (total (refusals_by n) ms)) numbers 0;
}

plus_none : (t : Tally) → Fits t → t ≡ plus t []
unfolding total
plus_none t f = λ i. record { accepted = (by_of t.accepted ∙ (λ j. by_kind (λ k. kind k j))) i; refused = rows i }
  where
    kind : (k : Kind) → of k t.accepted ≡ record { messages = sum (of k t.accepted).messages 0; records = sum (of k t.accepted).records 0 }
    kind k = λ i. record { messages = sym (sum_zero _ (f.messages k)) i; records = sym (sum_zero _ (f.records k)) i }

    rows : t.refused ≡ counts_from (λ n. sum (get_or t.refused n 0) 0) numbers 0
    rows = sym (counts_list t.refused) ∙ ap (λ (k : ℕ). counts_from (λ n. get_or t.refused n 0) k 0) f.rows
        ∙ counts_same (λ n. get_or t.refused n 0) (λ n. sum (get_or t.refused n 0) 0) numbers 0 (λ i h. sym (sum_zero _ (f.refusals i)))

plus_more : (t : Tally) (m : List ℕ) (ms : List (List ℕ)) → Fits t → plus (tallied t m) ms ≡ plus t (m ∷ ms)
unfolding total tallied
plus_more t m ms f = λ i. record {
  accepted = by_kind (λ k. record {
    messages = (ap (λ (n : ℕ). sum n (total (messages_by k) ms)) (more_messages t f (judged m) k) ∙ sum_sum _ (messages_by k (judged m)) (total (messages_by k) ms)) i;
    records = (ap (λ (n : ℕ). sum n (total (records_by k) ms)) (more_records t f (judged m) k) ∙ sum_sum _ (records_by k (judged m)) (total (records_by k) ms)) i;
  });
  refused = counts_same (λ n. sum (get_or (more t (judged m)).refused n 0) (total (refusals_by n) ms)) (λ n. sum (get_or t.refused n 0) (refusals_by n (judged m) + total (refusals_by n) ms)) numbers 0
      (λ n h. ap (λ (x : ℕ). sum x (total (refusals_by n) ms)) (more_refusals t f (judged m) n (omega arith)) ∙ sum_sum _ (refusals_by n (judged m)) (total (refusals_by n) ms)) i;
}

tallied_fits : (t : Tally) (m : List ℕ) → Fits t → Fits (tallied t m)
unfolding tallied
tallied_fits t m f = fits_more t f (judged m)

pub fold_plus : (t : Tally) (ms : List (List ℕ)) → Fits t → foldl tallied t ms ≡ plus t ms
fold_plus t [] f = plus_none t f
fold_plus t (m ∷ ms) f = fold_plus (tallied t m) ms (tallied_fits t m f) ∙ plus_more t m ms f

none_fits : Fits no_tally
unfolding no_tally
none_fits = record {
  messages = λ k. omega (arith, (of_none k).0);
  records = λ k. omega (arith, (of_none k).1);
  rows = refl;
  refusals = zeros numbers;
}
  where
    zeros : (k n : ℕ) → get_or (replicate k 0) n 0 < 2 ^ 64
    zeros zero n = omega arith
    zeros (suc k) zero = omega arith
    zeros (suc k) (suc n) = zeros k n

-- ---- a file

-- a message adds no more than its octets to a count, so no count is more than the octets of the file
pub total_few : (count : Outcome Found → ℕ) → ((m : List ℕ) → count (judged m) ≤ 2 + length m) → (k : ℕ) (o : List ℕ) → total count (split k o).messages ≤ length o
unfolding split none before total
total_few count few zero o = omega arith
total_few count few (suc k) o = go (leb (2 + length_of o) (length o)) refl (total_few count few k (drop (2 + length_of o) o))
  where
    go : (b : Bool) → leb (2 + length_of o) (length o) ≡ b → total count (split k (drop (2 + length_of o) o)).messages ≤ length (drop (2 + length_of o) o)
        → total count (cond b (before (take (length_of o) (drop 2 o)) (split k (drop (2 + length_of o) o))) (none o)).messages ≤ length o
    go true t again =
        let fits : 2 + length_of o ≤ length o = leb-true (2 + length_of o) (length o) t in
        let long : length (take (length_of o) (drop 2 o)) ≤ length_of o = omega (arith, length-take (length_of o) (drop 2 o)) in
        omega (arith, few (take (length_of o) (drop 2 o)), again, long, length-drop (2 + length_of o) o)
    go false t again = omega arith

bit_few : (b : Bool) (n most : ℕ) → n ≤ most → cond b n 0 ≤ most
bit_few true n most h = h
bit_few false n most h = omega arith

messages_few : (k : Kind) (most : ℕ) (j : Outcome Found) → messages_by k j ≤ 2 + most
unfolding messages_by
messages_few k most (gives (found k' n)) = bit_few (eqb (kind_number k') (kind_number k)) 1 (2 + most) (omega arith)
messages_few k most (refuses n p) = omega arith

refusals_few : (x most : ℕ) (j : Outcome Found) → refusals_by x j ≤ 2 + most
unfolding refusals_by
refusals_few x most (gives (found k n)) = omega arith
refusals_few x most (refuses n p) = bit_few (eqb n x) 1 (2 + most) (omega arith)

records_by_lem : (k : Kind) (most : ℕ) (j : Outcome Found) → FewIn most j → records_by k j ≤ 2 + most
unfolding records_by
records_by_lem k most (gives (found k' n)) h = bit_few (eqb (kind_number k') (kind_number k)) n (2 + most) (omega arith)
records_by_lem k most (refuses n p) h = omega arith

module _ (o : List ℕ) where
  pub messages_within : (k : Kind) → total (messages_by k) (file_of o).messages ≤ length o
  unfolding file_of
  messages_within k = total_few (messages_by k) (λ m. messages_few k (length m) (judged m)) (length o) o

  pub records_within : (k : Kind) → total (records_by k) (file_of o).messages ≤ length o
  unfolding file_of
  records_within k = total_few (records_by k) (λ m. records_by_lem k (length m) (judged m) (records_few m)) (length o) o

  pub refusals_within : (n : ℕ) → total (refusals_by n) (file_of o).messages ≤ length o
  unfolding file_of
  refusals_within n = total_few (refusals_by n) (λ m. refusals_few n (length m) (judged m)) (length o) o

  pub exact : length o < 2 ^ 64 → foldl tallied no_tally (file_of o).messages ≡ tally_of (file_of o).messages
  unfolding tally_of totals_of no_tally
  exact short = fold_plus no_tally (file_of o).messages none_fits ∙ (λ i. record {
    accepted = by_kind (λ k. record {
      messages = (ap (λ (n : ℕ). sum n (total (messages_by k) (file_of o).messages)) (of_none k).0 ∙ zero_sum _ (omega (arith, short, messages_within k))) i;
      records = (ap (λ (n : ℕ). sum n (total (records_by k) (file_of o).messages)) (of_none k).1 ∙ zero_sum _ (omega (arith, short, records_within k))) i;
    });
    refused = counts_same (λ n. sum (get_or (replicate numbers 0) n 0) (total (refusals_by n) (file_of o).messages)) (λ n. total (refusals_by n) (file_of o).messages) numbers 0
        (λ n h. ap (λ (x : ℕ). sum x (total (refusals_by n) (file_of o).messages)) (get_or-replicate numbers n 0 0 (omega arith)) ∙ zero_sum _ (omega (arith, short, refusals_within n))) i;
  })
