-- E4's claims are proved here.
--     by_call_lem                     what a reading call answers from some room on
--     refused_never, all_counted  by which numbers messages are refused; accepted plus refused
--     mean_is                     the mean
--     tally_append, folded        two files; messages one after another; pieces of any size
--     e4                          all of it
-- Assumes nothing.
use Prim.Native.Nat.{ℕ, zero, suc, ◌+◌, ◌*◌, ◌^◌, ◌<◌, ◌≤◌}
use native.Mathlib.Omega.{arith}
use native.Mathlib.Nat.{zero-add}
use mathlib.Core.Path.{◌≡◌, refl, sym, ap, subst, ◌∙◌}
use mathlib.Core.Bool.{Bool, true, false, ◌&&◌, ◌||◌, cond}
use mathlib.Core.List.{List, [], ◌∷◌, ◌++◌, foldl, append-nil, append_assoc}
use borrow.Author.Tests.{leb-true, leb-false, eqb-true, eqb-false, ne_eqb, le-ltb}
use lib.Dec.{eqb, leb}
use lib.ListN.{length, get_or, take, drop, get_or-eq_default}
use lib.Seq.{length-take-le}
use Rattle.format.specs.Outcome.{Outcome, gives, refuses, refuse_if, ◌>>=◌, ◌>>◌}
use Rattle.format.specs.Family.{ipv4}
use Rattle.format.specs.Path.{nowhere}
use Rattle.format.specs.Header.{header}
use Rattle.format.specs.Record.{each}
use Rattle.format.specs.Entry.{Entries, assert_entries, pair_entries}
use Rattle.format.specs.Unpacking.{Unpacked, unpacked, unpack_asserts, unpack_pairs}
use Rattle.format.specs.Reading.{Found, found, ReadingCall, room_for, delivered, reading, read_asserts, read_pairs}
use Rattle.format.specs.Values.{kind_number}
use Rattle.format.specs.declared.Kind.{Kind}
use Rattle.format.specs.declared.Kind.TheVariants.{Hello, Assert, Simple, Aggregated, NullRegister, RegisterStop}
use Rattle.counters.specs.Counting.{sum}
use Rattle.counters.specs.declared.Totals.{Totals}
use Rattle.counters.specs.declared.ByKind.{ByKind}
use Rattle.reporting.specs.Judging.{entries_in, judged_as, judged}
use Rattle.reporting.specs.Answers.{heard_of}
use Rattle.reporting.specs.File.{File, none, file_of, piece_of}
use Rattle.reporting.specs.Tallies.{messages_by, records_by, refusals_by, total, totals_of, by_kind, of, counts_from, numbers, tally_of, no_tally, tallied}
use Rattle.reporting.specs.Fraction.{InLowestTerms, lowest, together, packed_totals, mean_of}
use Rattle.reporting.specs.Report.{taken_from, report_of}
use Rattle.reporting.specs.Claims.{of_message, Enough, ByItsCall, accepted_in, refused_in, packed_messages, packed_records, both_totals, both_tallies, ReportCall, Reports, Messages, Pieces, Mean, E4}
use Rattle.reporting.specs.declared.Tally.{Tally}
use Rattle.reporting.specs.declared.Taken.{Taken}
use Rattle.reporting.specs.declared.Fraction.{Fraction}
use Rattle.reporting.specs.declared.Report.{Report}
use Rattle.reporting.proofs.Judged.{FewIn, records_few, judged_kind, judged_none}
use Rattle.reporting.proofs.Numbers.{Ruled, ruled}
use Rattle.reporting.proofs.Files.{follow, file_append, file_made, file_cut, file_joins, none_there, left_short, left_few, left_drop}
use Rattle.reporting.proofs.Exact.{of_by, counts_at, counts_long, counts_same, total_few, exact}
use Rattle.reporting.proofs.Divisors.{lowest_terms, lowest_equal, lowest_none}

-- ---- what a reading call answers

enough : (E : Entries) (m : List ℕ) (call : List ℕ → ReadingCall) (u : Outcome (Unpacked E.Entry)) → ((d : List ℕ) → call d ≡ reading E u d) → u >>= entries_in ≡ judged m → Enough call m
unfolding reading delivered room_for ◌>>=◌ ◌>>◌ refuse_if entries_in
enough E m call (gives (unpacked k es)) is e = record {
  room = E.size * length es;
  same = λ d h. ap (λ (c : ReadingCall). c.answer) (is d) ∙ (rw (le-ltb (length d) (E.size * length es) h) refl) ∙ e;
}
enough E m call (refuses n p) is e = record { room = 0; same = λ d h. ap (λ (c : ReadingCall). c.answer) (is d) ∙ e }

asserts_call : (m : List ℕ) → unpack_asserts ipv4 nowhere m >>= entries_in ≡ judged m → Enough (read_asserts ipv4 nowhere m) m
unfolding read_asserts
asserts_call m e = enough (assert_entries ipv4) m (read_asserts ipv4 nowhere m) (unpack_asserts ipv4 nowhere m) (λ d. refl) e

pairs_call : (m : List ℕ) → unpack_pairs ipv4 nowhere m >>= entries_in ≡ judged m → Enough (read_pairs ipv4 nowhere m) m
unfolding read_pairs
pairs_call m e = enough (pair_entries ipv4 false) m (read_pairs ipv4 nowhere m) (unpack_pairs ipv4 nowhere m) (λ d. refl) e

by_call_lem : (m : List ℕ) (k : Kind) → header ipv4 nowhere m ≡ gives k → ByItsCall m k
unfolding judged_as heard_of
by_call_lem m Hello h = sym (judged_kind m Hello h)
by_call_lem m Assert h = asserts_call m (sym (judged_kind m Assert h))
by_call_lem m Simple h = asserts_call m (sym (judged_kind m Simple h))
by_call_lem m Aggregated h = asserts_call m (sym (judged_kind m Aggregated h))
by_call_lem m NullRegister h = pairs_call m (sym (judged_kind m NullRegister h))
by_call_lem m RegisterStop h = pairs_call m (sym (judged_kind m RegisterStop h))

-- ---- by which numbers

not_both : true ≡ false → ⊥
not_both e = let z : ◌≡◌ {A = ℕ} 0 1 = cc in omega arith

-- no message is refused by another number
never_one : (n : ℕ) → of_message n ≡ false → (j : Outcome Found) → Ruled j → refusals_by n j ≡ 0
unfolding refusals_by
never_one n h (gives (found k x)) r = refl
never_one n h (refuses x p) (Ruled.refused r) = go (eqb x n) refl
  where
    go : (b : Bool) → eqb x n ≡ b → cond {A = ℕ} b 1 0 ≡ 0
    go true e = absurd (not_both (sym r ∙ ap of_message (eqb-true x n e) ∙ h))
    go false e = refl

never_any : (n : ℕ) → of_message n ≡ false → (ms : List (List ℕ)) → total (refusals_by n) ms ≡ 0
unfolding total
never_any n h [] = refl
never_any n h (m ∷ ms) = let e = never_one n h (judged m) (ruled m) in let f = never_any n h ms in omega (arith, e, f)

refused_never : (ms : List (List ℕ)) (n : ℕ) → of_message n ≡ false → get_or (tally_of ms).refused n 0 ≡ 0
unfolding tally_of
refused_never ms n h = go (leb (suc n) numbers) refl
  where
    go : (b : Bool) → leb (suc n) numbers ≡ b → get_or (counts_from (λ n. total (refusals_by n) ms) numbers 0) n 0 ≡ 0
    go true t = counts_at (λ n. total (refusals_by n) ms) numbers 0 n (leb-true (suc n) numbers t) ∙ ap (λ (x : ℕ). total (refusals_by x) ms) (omega arith) ∙ never_any n h ms
    go false t = get_or-eq_default (counts_from (λ n. total (refusals_by n) ms) numbers 0) 0 (omega (arith, counts_long (λ n. total (refusals_by n) ms) numbers 0, leb-false (suc n) numbers t))

-- ---- accepted plus refused

refused_plus : (f g : ℕ → ℕ) (k n : ℕ) → refused_in (counts_from (λ i. f i + g i) k n) ≡ refused_in (counts_from f k n) + refused_in (counts_from g k n)
unfolding refused_in counts_from
refused_plus f g zero n = refl
refused_plus f g (suc k) n = let e = refused_plus f g k (suc n) in omega (arith, e)

missed : (x k n : ℕ) → x < n → refused_in (counts_from (λ i. cond (eqb x i) 1 0) k n) ≡ 0
unfolding refused_in counts_from
missed x zero n h = refl
missed x (suc k) n h =
    let e : eqb x n ≡ false = ne_eqb x n (λ s. omega arith) in
    let f = missed x k (suc n) (omega arith) in
    rw e (omega (arith, f))

hit : (x k n : ℕ) → n ≤ x → x < n + k → refused_in (counts_from (λ i. cond (eqb x i) 1 0) k n) ≡ 1
unfolding refused_in counts_from
hit x zero n h less = absurd (omega arith)
hit x (suc k) n h less = go (eqb x n) refl (hit x k (suc n))
  where
    go : (b : Bool) → eqb x n ≡ b → (suc n ≤ x → x < suc n + k → refused_in (counts_from (λ i. cond (eqb x i) 1 0) k (suc n)) ≡ 1)
        → cond b 1 0 + refused_in (counts_from (λ i. cond (eqb x i) 1 0) k (suc n)) ≡ 1
    go true e again = let s : x ≡ n = eqb-true x n e in let f = missed x k (suc n) (omega arith) in omega (arith, f)
    go false e again = let f = again (omega (arith, eqb-false x n e)) (omega arith) in omega (arith, f)

-- 01's numbers have their place
within : (n : ℕ) → of_message n ≡ true → n < numbers
unfolding of_message
within n e = go (leb 1 n) (leb n 7) refl (eqb n 13) refl e
  where
    go : (a b : Bool) → leb n 7 ≡ b → (c : Bool) → eqb n 13 ≡ c → ((a && b) || c) ≡ true → n < numbers
    go true true h c s e = omega (arith, leb-true n 7 h)
    go true false h true s e = omega (arith, eqb-true n 13 s)
    go true false h false s e = absurd (not_both (sym e))
    go false b h true s e = omega (arith, eqb-true n 13 s)
    go false b h false s e = absurd (not_both (sym e))

-- one message is one
accepted_by : Outcome Found → ℕ
accepted_by j = messages_by Hello j + messages_by Assert j + messages_by Simple j + messages_by Aggregated j + messages_by NullRegister j + messages_by RegisterStop j

one : (j : Outcome Found) → Ruled j → accepted_by j + refused_in (counts_from (λ n. refusals_by n j) numbers 0) ≡ 1
unfolding accepted_by messages_by refusals_by kind_number refused_in counts_from
one (gives (found Hello n)) r = refl
one (gives (found Assert n)) r = refl
one (gives (found Simple n)) r = refl
one (gives (found Aggregated n)) r = refl
one (gives (found NullRegister n)) r = refl
one (gives (found RegisterStop n)) r = refl
one (refuses n p) (Ruled.refused r) = zero-add _ ∙ hit n numbers 0 (omega arith) (omega (arith, within n r))

none_counted : accepted_in (tally_of []).accepted + refused_in (tally_of []).refused ≡ 0
unfolding accepted_in refused_in tally_of totals_of by_kind counts_from total
none_counted = refl

all_counted : (ms : List (List ℕ)) → accepted_in (tally_of ms).accepted + refused_in (tally_of ms).refused ≡ length ms
unfolding accepted_in tally_of totals_of by_kind total accepted_by
all_counted [] = none_counted
all_counted (m ∷ ms) =
    let e = one (judged m) (ruled m) in
    let f = all_counted ms in
    let g = refused_plus (λ n. refusals_by n (judged m)) (λ n. total (refusals_by n) ms) numbers 0 in
    omega (arith, e, f, g)

-- ---- the mean

total_plus : (f g : Outcome Found → ℕ) (ms : List (List ℕ)) → total (λ j. f j + g j) ms ≡ total f ms + total g ms
unfolding total
total_plus f g [] = refl
total_plus f g (m ∷ ms) = let e = total_plus f g ms in omega (arith, e)

-- a count over the four packed kinds
packed : (Kind → Outcome Found → ℕ) → Outcome Found → ℕ
packed count j = count Simple j + count Aggregated j + count NullRegister j + count RegisterStop j

packed_messages_lem : (most : ℕ) (j : Outcome Found) → packed messages_by j ≤ 2 + most
unfolding packed messages_by kind_number
packed_messages_lem most (gives (found Hello n)) = omega arith
packed_messages_lem most (gives (found Assert n)) = omega arith
packed_messages_lem most (gives (found Simple n)) = omega arith
packed_messages_lem most (gives (found Aggregated n)) = omega arith
packed_messages_lem most (gives (found NullRegister n)) = omega arith
packed_messages_lem most (gives (found RegisterStop n)) = omega arith
packed_messages_lem most (refuses n p) = omega arith

packed_records_lem : (most : ℕ) (j : Outcome Found) → FewIn most j → packed records_by j ≤ 2 + most
unfolding packed records_by kind_number
packed_records_lem most (gives (found Hello n)) h = omega arith
packed_records_lem most (gives (found Assert n)) h = omega arith
packed_records_lem most (gives (found Simple n)) h = omega arith
packed_records_lem most (gives (found Aggregated n)) h = omega arith
packed_records_lem most (gives (found NullRegister n)) h = omega arith
packed_records_lem most (gives (found RegisterStop n)) h = omega arith
packed_records_lem most (refuses n p) h = omega arith

total_packed : (count : Kind → Outcome Found → ℕ) (ms : List (List ℕ))
    → total (packed count) ms ≡ total (count Simple) ms + total (count Aggregated) ms + total (count NullRegister) ms + total (count RegisterStop) ms
unfolding packed
total_packed count ms =
    let e = total_plus (λ j. count Simple j + count Aggregated j + count NullRegister j) (count RegisterStop) ms in
    let f = total_plus (λ j. count Simple j + count Aggregated j) (count NullRegister) ms in
    let g = total_plus (count Simple) (count Aggregated) ms in
    omega (arith, e, f, g)

four : (a b c d : ℕ) → a + b + c + d < 2 ^ 64 → sum (sum a b) (sum c d) ≡ a + b + c + d
unfolding sum
four a b c d h = omega arith

module _ (o : List ℕ) (short : length o < 2 ^ 64) where
  all_of : ByKind
  all_of = (tally_of (file_of o).messages).accepted

  messages_exact : (packed_totals all_of).messages ≡ packed_messages all_of
  unfolding packed_totals together packed_messages all_of tally_of totals_of by_kind file_of
  messages_exact =
      let few = total_few (packed messages_by) (λ m. packed_messages_lem (length m) (judged m)) (length o) o in
      let e = total_packed messages_by (file_of o).messages in
      four _ _ _ _ (omega (arith, few, e, short))

  records_exact : (packed_totals all_of).records ≡ packed_records all_of
  unfolding packed_totals together packed_records all_of tally_of totals_of by_kind file_of
  records_exact =
      let few = total_few (packed records_by) (λ m. packed_records_lem (length m) (judged m) (records_few m)) (length o) o in
      let e = total_packed records_by (file_of o).messages in
      four _ _ _ _ (omega (arith, few, e, short))

  mean_exact : (report_of o).mean ≡ lowest (packed_records all_of) (packed_messages all_of)
  unfolding report_of mean_of all_of
  mean_exact = ap (λ (a : ℕ). lowest a (packed_totals all_of).messages) records_exact ∙ ap (lowest (packed_records all_of)) messages_exact

  mean_is : Mean (report_of o)
  unfolding report_of all_of
  mean_is = record {
    lowest = subst InLowestTerms (sym mean_exact) (lowest_terms (packed_records all_of) (packed_messages all_of));
    equals = λ some.
        ap (λ (f : Fraction). f.numerator * packed_messages all_of) mean_exact ∙ lowest_equal (packed_records all_of) (packed_messages all_of) some
        ∙ ap (λ (f : Fraction). packed_records all_of * f.denominator) (sym mean_exact);
    none = λ z. mean_exact ∙ ap (lowest (packed_records all_of)) z ∙ lowest_none (packed_records all_of);
  }

-- ---- two files

total_append : (count : Outcome Found → ℕ) (a b : List (List ℕ)) → total count (a ++ b) ≡ total count a + total count b
unfolding total
total_append count [] b = sym (zero-add _)
total_append count (m ∷ a) b = let e = total_append count a b in omega (arith, e)

both_totals_lem : (k : Kind) (a b : List (List ℕ)) → totals_of (a ++ b) k ≡ both_totals (totals_of a k) (totals_of b k)
unfolding totals_of both_totals
both_totals_lem k a b = λ i. record { messages = total_append (messages_by k) a b i; records = total_append (records_by k) a b i }

tally_append : (a b : List (List ℕ)) → tally_of (a ++ b) ≡ both_tallies (tally_of a) (tally_of b)
unfolding tally_of both_tallies
tally_append a b = λ i. record { accepted = by_kind (λ k. kind k i); refused = rows i }
  where
    kind : (k : Kind) → totals_of (a ++ b) k ≡ both_totals (of k (by_kind (totals_of a))) (of k (by_kind (totals_of b)))
    kind k = both_totals_lem k a b ∙ ap (λ (t : Totals). both_totals t (totals_of b k)) (sym (of_by k (totals_of a))) ∙ ap (both_totals (of k (by_kind (totals_of a)))) (sym (of_by k (totals_of b)))

    one_at : (ms : List (List ℕ)) (n : ℕ) → n < numbers → get_or (counts_from (λ n. total (refusals_by n) ms) numbers 0) n 0 ≡ total (refusals_by n) ms
    one_at ms n h = counts_at (λ n. total (refusals_by n) ms) numbers 0 n h ∙ ap (λ (x : ℕ). total (refusals_by x) ms) (zero-add n)

    rows : counts_from (λ n. total (refusals_by n) (a ++ b)) numbers 0
        ≡ counts_from (λ n. get_or (counts_from (λ n. total (refusals_by n) a) numbers 0) n 0 + get_or (counts_from (λ n. total (refusals_by n) b) numbers 0) n 0) numbers 0
    rows = counts_same _ _ numbers 0 (λ n h. total_append (refusals_by n) a b
        ∙ ap (λ (x : ℕ). x + total (refusals_by n) b) (sym (one_at a n (omega arith)))
        ∙ ap (λ (x : ℕ). get_or (counts_from (λ n. total (refusals_by n) a) numbers 0) n 0 + x) (sym (one_at b n (omega arith))))

-- ---- calls one after another

folded : {t v : Tally} {ms : List (List ℕ)} → Messages t ms v → foldl tallied t ms ≡ v
folded Messages.done = refl
folded (Messages.next {m = m} {ms = ms} e rest) = ap (λ (x : Tally). foldl tallied x ms) (sym e) ∙ folded rest

fold_append : (t : Tally) (a b : List (List ℕ)) → foldl tallied t (a ++ b) ≡ foldl tallied (foldl tallied t a) b
fold_append t [] b = refl
fold_append t (m ∷ a) b = fold_append (tallied t m) a b

-- after some pieces, what came of all octets so far; the next pieces go on from there
pieced : (s : List ℕ) {t v : Tally} {l r : List ℕ} {ps : List (List ℕ)} → t ≡ foldl tallied no_tally (file_of s).messages → l ≡ (file_of s).left → Pieces t l ps v r
    → (v ≡ foldl tallied no_tally (file_of (s ++ each (λ p. p) ps)).messages) × (r ≡ (file_of (s ++ each (λ p. p) ps)).left)
unfolding each taken_from
pieced s e f Pieces.done = (e ∙ ap (λ (x : List ℕ). foldl tallied no_tally (file_of x).messages) (sym (append-nil s)), f ∙ ap (λ (x : List ℕ). (file_of x).left) (sym (append-nil s)))
pieced s {t = t} {l = l} e f (Pieces.next {p = p} {ps = ps} a is rest) =
    let both : file_of (s ++ p) ≡ follow (file_of s) p = file_append s p in
    let tally : a.tally ≡ foldl tallied no_tally (file_of (s ++ p)).messages =
    ap (λ (x : Taken). x.tally) is
    ∙ ap (λ (x : Tally). foldl tallied x (file_of (l ++ p)).messages) e
    ∙ ap (λ (x : List ℕ). foldl tallied (foldl tallied no_tally (file_of s).messages) (file_of (x ++ p)).messages) f
    ∙ sym (fold_append no_tally (file_of s).messages (file_of ((file_of s).left ++ p)).messages)
    ∙ sym (ap (λ (x : File). foldl tallied no_tally x.messages) both) in
    let left : drop a.used (l ++ p) ≡ (file_of (s ++ p)).left =
    ap (λ (x : Taken). drop x.used (l ++ p)) is ∙ left_drop (l ++ p) ∙ ap (λ (x : List ℕ). (file_of (x ++ p)).left) f ∙ sym (ap (λ (x : File). x.left) both) in
    let all = pieced (s ++ p) tally left rest in
    let again : (s ++ p) ++ each (λ p. p) ps ≡ s ++ (p ++ each (λ p. p) ps) = append_assoc s p (each (λ p. p) ps) in
    (all.0 ∙ ap (λ (x : List ℕ). foldl tallied no_tally (file_of x).messages) again, all.1 ∙ ap (λ (x : List ℕ). (file_of x).left) again)

-- ---- the claims

module _ (c : ReportCall) (r : Reports c) where
  tally_of_lem : c.answer.tally ≡ tally_of (file_of c.file).messages
  unfolding report_of
  tally_of_lem = ap (λ (x : Report). x.tally) r.answers

  tally_folds : c.answer.tally ≡ foldl tallied no_tally (file_of c.file).messages
  tally_folds = tally_of_lem ∙ sym (exact c.file r.short)

  mean_of_lem : c.answer.mean ≡ mean_of c.answer.tally
  unfolding report_of
  mean_of_lem = ap (λ (x : Report). x.mean) r.answers ∙ ap mean_of (sym tally_of_lem)

  whole_of : c.answer.whole ≡ eqb (length (file_of c.file).left) 0
  unfolding report_of
  whole_of = ap (λ (x : Report). x.whole) r.answers

  left_none : c.answer.whole ≡ true → (file_of c.file).left ≡ []
  left_none w = empty (file_of c.file).left (eqb-true (length (file_of c.file).left) 0 (sym whole_of ∙ w))
    where
      empty : (l : List ℕ) → length l ≡ 0 → l ≡ []
      empty [] e = refl
      empty (x ∷ l) e = absurd (omega arith)

  -- after a whole file
  whole_append : c.answer.whole ≡ true → (g : List ℕ)
      → ((file_of (c.file ++ g)).messages ≡ (file_of c.file).messages ++ (file_of g).messages) × ((file_of (c.file ++ g)).left ≡ (file_of g).left)
  whole_append w g =
      let both = file_append c.file g in
      let l : (file_of c.file).left ++ g ≡ g = ap (λ (x : List ℕ). x ++ g) (left_none w) in (
        ap (λ (x : File). x.messages) both ∙ ap (λ (x : List ℕ). (file_of c.file).messages ++ (file_of x).messages) l,
        ap (λ (x : File). x.left) both ∙ ap (λ (x : List ℕ). (file_of x).left) l,
      )

cut_is : (c d : ReportCall) → Reports c → Reports d → c.answer.whole ≡ true
    → (m : List ℕ) (k : ℕ) → length m < 256 ^ 2 → 0 < k → k < length (piece_of m) → d.file ≡ c.file ++ take k (piece_of m)
    → (d.answer.tally ≡ c.answer.tally) × (d.answer.mean ≡ c.answer.mean) × (d.answer.whole ≡ false)
unfolding none
cut_is c d rc rd w m k short some less e =
    let start = take k (piece_of m) in
    let cut : file_of start ≡ none start = file_cut m k short less in
    let long : length start ≡ k = length-take-le k (piece_of m) (omega arith) in
    let both = whole_append c rc w start in
    let same : (file_of d.file).messages ≡ (file_of c.file).messages =
    ap (λ (x : List ℕ). (file_of x).messages) e ∙ both.0 ∙ ap (λ (x : File). (file_of c.file).messages ++ x.messages) cut ∙ append-nil (file_of c.file).messages in
    let left : length (file_of d.file).left ≡ k = ap (λ (x : List ℕ). length (file_of x).left) e ∙ ap length both.1 ∙ ap (λ (x : File). length x.left) cut ∙ long in
    let tally = tally_of_lem d rd ∙ ap tally_of same ∙ sym (tally_of_lem c rc) in
    (tally, mean_of_lem d rd ∙ ap mean_of tally ∙ sym (mean_of_lem c rc), whole_of d rd ∙ ne_eqb (length (file_of d.file).left) 0 (λ z. omega (arith, left, some, z)))

sums_are : (a b c : ReportCall) → Reports a → Reports b → Reports c → a.answer.whole ≡ true → c.file ≡ a.file ++ b.file
    → (c.answer.tally ≡ both_tallies a.answer.tally b.answer.tally) × (c.answer.whole ≡ b.answer.whole)
sums_are a b c ra rb rc w e =
    let both = whole_append a ra w b.file in (
      tally_of_lem c rc
          ∙ ap (λ (x : List ℕ). tally_of (file_of x).messages) e
          ∙ ap tally_of both.0
          ∙ tally_append (file_of a.file).messages (file_of b.file).messages
          ∙ ap (λ (x : Tally). both_tallies x (tally_of (file_of b.file).messages)) (sym (tally_of_lem a ra))
          ∙ ap (both_tallies a.answer.tally) (sym (tally_of_lem b rb)),
      whole_of c rc ∙ ap (λ (x : List ℕ). eqb (length (file_of x).left) 0) e ∙ ap (λ (x : List ℕ). eqb (length x) 0) both.1 ∙ sym (whole_of b rb),
    )

pieces_give : (c : ReportCall) → Reports c → (ps : List (List ℕ)) → c.file ≡ each (λ p. p) ps → (v : Tally) (r : List ℕ) → Pieces no_tally [] ps v r
    → (c.answer.tally ≡ v) × (c.answer.mean ≡ mean_of v) × (c.answer.whole ≡ eqb (length r) 0)
unfolding none
pieces_give c rc ps e v r p =
    let all = pieced [] (ap (λ (x : File). foldl tallied no_tally x.messages) (sym nothing)) (ap (λ (x : File). x.left) (sym nothing)) p in
    let tally = tally_folds c rc ∙ ap (λ (x : List ℕ). foldl tallied no_tally (file_of x).messages) e ∙ sym all.0 in
    (tally, mean_of_lem c rc ∙ ap mean_of tally, whole_of c rc ∙ ap (λ (x : List ℕ). eqb (length (file_of x).left) 0) e ∙ ap (λ (x : List ℕ). eqb (length x) 0) (sym all.1))
  where
    nothing : file_of [] ≡ record { messages = []; left = [] }
    nothing = none_there

pub e4 : E4
e4 = record {
  by_header = judged_none;
  by_call = by_call_lem;
  numbered = λ c r n h. ap (λ (t : Tally). get_or t.refused n 0) (tally_of_lem c r) ∙ refused_never (file_of c.file).messages n h;
  all = λ c r. ap (λ (t : Tally). accepted_in t.accepted + refused_in t.refused) (tally_of_lem c r) ∙ all_counted (file_of c.file).messages;
  joins = file_joins;
  leaves = left_short;
  few = left_few;
  mean = λ c r. subst Mean (sym r.answers) (mean_is c.file r.short);
  cut = cut_is;
  sums = sums_are;
  messages = λ c r v m. tally_folds c r ∙ folded m;
  made = file_made;
  pieces = pieces_give;
}
