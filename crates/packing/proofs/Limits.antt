-- Runs written one after another within a limit: where the limit cuts a run, no other fits after it.
--     one_all                         the octets of entries of one run
--     none_fit, none_written          no entry fits, and nothing is written
--     FirstRun, first_run, first_octets       of the entries that there is room for, those of the first run
--     source_most, source_grows       how many entries a source aggregated record has room for
--     whole_most, joined_most, zeros_most, group_grows     how many group records have
--     number_few                      a group record has octets
--     div_some, rp_least, rp_most     what an RP aggregated record takes, and how many entries it has, by its group records
--     Apart, Further, RunsWithin      where a loop that writes run by run within a limit stands: within_start, within_there, within_room, within_next
--     Took                            what it has written in the end: within_stop, within_end
--     number_none, number_next        how many records it has written
-- Assumes nothing.
use Prim.Native.Nat.{ℕ, zero, suc, ◌+◌, ◌-◌, ◌*◌, ◌/◌, ◌≤◌, ◌<◌, min}
use native.Mathlib.Nat.{zero-add, le_trans, mul-suc, mul-add, mul-le-mul_left, mul-div-le, lt-mul-div-succ}
use native.Mathlib.Omega.{arith}
use native.Mathlib.Decide.{dec_le}
use mathlib.Core.Path.{◌≡◌, refl, sym, ap, ◌∙◌}
use mathlib.Core.Bool.{Bool, true, false, cond}
use mathlib.Core.List.{List, [], ◌∷◌, ◌++◌, append_assoc, append-nil}
use borrow.Author.Tests.{le-leb, leb-true}
use lib.ListN.{length, take, length-append, take-append-drop}
use Rattle.octets.specs.Octets.{number_at, put}
use Rattle.octets.proofs.Laws.{put_next, put_nil, length_put}
use Rattle.records.specs.Records.{AssertRecord, GroupRecord, of_group, r_bit}
use Rattle.records.specs.Runs.{Run as RunOf, run, leading}
use Rattle.records.specs.Joining.{all_zero, group_records, all_group_records, joined}
use Rattle.records.specs.Sizes.{group_run_size, group_records_size}
use Rattle.records.proofs.Runs.{total, Parts}
use Rattle.records.proofs.Least.{group_cost, groups_cost, group_size, groups_parts, joined_parts}
use Rattle.format.specs.Family.{Family, family_of}
use Rattle.format.specs.Entry.{assert_entries, entries_at}
use Rattle.format.specs.Record.{each, group_record_octets}
use Rattle.format.proofs.Lengths.{each_append, length_group_records, length_all}
use Rattle.format.proofs.Entries.{length_entries_at, take_entries, drop_at}
use Rattle.packing.specs.Joins.{asserts, entry_at, group_at, entry_size, joins, run_length, Run, Aggregated, Group}
use Rattle.packing.specs.Aggregates.{octets_of, sources, records_in, records_of, one_of, all_of, number_of, zero_source, few, MostWithin}
use Rattle.packing.proofs.Joins.{leading_le, run_range, records_first, records_none, all_none}
use Rattle.packing.proofs.Aggregating.{all_zero_lem, group_long, source_long, rp_long}

-- ---- the first run of fewer entries

leading_take : {A : Type 0} (p : A → Bool) (k : ℕ) (l : List A) → leading p (take k l) ≡ min k (leading p l)
unfolding leading
leading_take p zero l = omega arith
leading_take p (suc k) [] = omega arith
leading_take p (suc k) (a ∷ l) = go (p a) (leading_take p k l)
  where
    go : (b : Bool) → leading p (take k l) ≡ min k (leading p l) → cond b (suc (leading p (take k l))) 0 ≡ min (suc k) (cond b (suc (leading p l)) 0)
    go true h = omega arith
    go false h = omega arith

module _ (f : Family) (r : Run) (o : List ℕ) (at : ℕ) where
  run_fewer : (m n : ℕ) → 0 < m → m ≤ n → run_length f r o at m ≡ min m (run_length f r o at n)
  unfolding run_length
  run_fewer m n some fewer =
      let front = take_entries (assert_entries f) o (m - 1) (n - 1) (at + entry_size f) (omega arith) in
      let cut : leading (joins r (entry_at f o at)) (asserts f o (at + entry_size f) (m - 1)) ≡ min (m - 1) (leading (joins r (entry_at f o at)) (asserts f o (at + entry_size f) (n - 1))) =
      rw (← front) (leading_take (joins r (entry_at f o at)) (m - 1) (asserts f o (at + entry_size f) (n - 1))) in
      omega arith

  -- entries of one run are its records, whether they are taken for one run or looked at for runs
  one_run : (n k : ℕ) → 0 < k → k ≤ run_length f r o at n → k ≤ n → records_of f r (asserts f o at k) ≡ records_in f r (asserts f o at k)
  one_run n k some inside fewer =
      let alone : run_length f r o at k ≡ k = omega (arith, run_fewer k n some fewer) in
      let over : k - k ≡ 0 = omega arith in
      records_first f r o at k some ∙ rw (alone, over, records_none f r o (at + entry_size f * k)) (append-nil _)

  pub one_all : (n k : ℕ) → 0 < k → k ≤ run_length f r o at n → k ≤ n → all_of f r (asserts f o at k) ≡ one_of f r (asserts f o at k)
  unfolding all_of one_of
  one_all n k some inside fewer = ap (each (octets_of f r)) (one_run n k some inside fewer)

-- ---- what entries take

group_octets_lem : (f : Family) (rs : List (RunOf AssertRecord)) → length (each (group_record_octets f) (all_group_records f.width rs)) ≡ total (group_cost f.width) rs
unfolding all_group_records group_cost total each
group_octets_lem f [] = refl
group_octets_lem f (run e es ∷ rs) =
    let first = group_records f.width e.group (sources (e ∷ es)) in
    ap length (each_append (group_record_octets f) first (all_group_records f.width rs))
    ∙ length-append (each (group_record_octets f) first) (each (group_record_octets f) (all_group_records f.width rs))
    ∙ omega (arith, length_group_records f first, group_size f.width e.group (sources (e ∷ es)), group_octets_lem f rs)

groups_octets : (f : Family) (es : List AssertRecord) → length (all_of f Group es) ≡ groups_cost f.width es
unfolding all_of records_of octets_of groups_cost
groups_octets f es = group_octets_lem f _

-- what a cut adds
cuts : Family → Run → ℕ
cuts f Aggregated = f.width + 8 + 12
cuts f Group = f.width + 8

all_parts : (f : Family) (r : Run) (a b : List AssertRecord) → Parts (cuts f r) (length (all_of f r a)) (length (all_of f r b)) (length (all_of f r (a ++ b)))
unfolding all_of records_of octets_of cuts
all_parts f Aggregated a b = rw (length_all f (joined f.width a), length_all f (joined f.width b), length_all f (joined f.width (a ++ b))) (joined_parts f.width a b)
all_parts f Group a b = rw (groups_octets f a, groups_octets f b, groups_octets f (a ++ b)) (groups_parts f.width a b)

module _ (f : Family) (r : Run) (o : List ℕ) (at : ℕ) where
  split : (j k : ℕ) → asserts f o at (j + k) ≡ asserts f o at j ++ asserts f o (at + entry_size f * j) k
  split j k =
      sym (take-append-drop j (asserts f o at (j + k)))
      ∙ rw (take_entries (assert_entries f) o j (j + k) at (omega arith), drop_at (assert_entries f) o j k at)

  all_grows : (j k : ℕ) → j ≤ k → length (all_of f r (asserts f o at j)) ≤ length (all_of f r (asserts f o at k))
  all_grows j k h =
      let e : k ≡ j + (k - j) = omega arith in
      rw (e, split j (k - j)) (all_parts f r (asserts f o at j) (asserts f o (at + entry_size f * j) (k - j))).front

  all_step : (k : ℕ) → length (all_of f r (asserts f o at (suc k))) ≤ length (all_of f r (asserts f o at k)) + length (all_of f r (asserts f o (at + entry_size f * k) 1))
  all_step k =
      let e : suc k ≡ k + 1 = omega arith in
      rw (e, split k 1) (all_parts f r (asserts f o at k) (asserts f o (at + entry_size f * k) 1)).joined

  one_none : one_of f r (asserts f o at 0) ≡ []
  unfolding one_of records_in entries_at each
  one_none = refl

  -- ---- the most entries of one run

  -- no entry fits
  pub none_fit : (n room : ℕ) → 0 < n → room < length (one_of f r (asserts f o at 1)) → MostWithin f (all_of f r) o at (run_length f r o at n) room 0
  none_fit n room some h =
      let range = run_range f r o at n some in
      record {
        inside = omega arith;
        fits = rw (all_none f r o at) (omega arith);
        full = λ p. rw (one_all f r o at n 1 (omega arith) (omega arith) (omega arith)) h;
      }

  -- where none fits, nothing is written
  pub none_written : {d d' : List ℕ} (out : ℕ) → d' ≡ d → (out ≡ out + length (all_of f r (asserts f o at 0))) × (d' ≡ put d out (all_of f r (asserts f o at 0)))
  none_written {d = d} out e = (rw (all_none f r o at) (omega arith), rw (all_none f r o at) (e ∙ sym (put_nil d out)))

  -- of m entries that fit, the first run has k
  pub record FirstRun (n room k : ℕ) : Type 0 where
    pub some : 0 < k
    pub there : at + entry_size f * k ≤ length o
    pub most : MostWithin f (all_of f r) o at (run_length f r o at n) room k
    pub alike : records_of f r (asserts f o at k) ≡ records_in f r (asserts f o at k)

  pub first_run : (n room m k : ℕ) → at + entry_size f * n ≤ length o → MostWithin f (one_of f r) o at n room m → 0 < m
      → ((j : ℕ) → 0 < j → j ≤ m → length (one_of f r (asserts f o at j)) ≤ length (one_of f r (asserts f o at m))) → k ≡ run_length f r o at m → FirstRun n room k
  first_run n room m k there most some grows found =
      let fewer = most.inside in
      let all = run_range f r o at m some in
      let range = run_range f r o at n (omega arith) in
      let cut : k ≡ min m (run_length f r o at n) = found ∙ run_fewer f r o at m n some fewer in
      let same = one_all f r o at n k (omega arith) (omega arith) (omega arith) in
      let far : entry_size f * k ≤ entry_size f * n = mul-le-mul_left (entry_size f) (omega arith) in
      record {
        some = omega arith;
        there = omega arith;
        most = record {
          inside = omega arith;
          fits = rw same (le_trans (grows k (omega arith) (omega arith)) most.fits);
          full = λ p.
              let alike : k ≡ m = omega arith in
              rw (one_all f r o at n (suc k) (omega arith) p (omega arith), alike) (most.full (omega arith));
        };
        alike = one_run f r o at n k (omega arith) (omega arith) (omega arith);
      }

  pub first_octets : {n room k : ℕ} → FirstRun n room k → all_of f r (asserts f o at k) ≡ one_of f r (asserts f o at k)
  unfolding all_of one_of
  first_octets t = ap (each (octets_of f r)) t.alike

module _ (f : Family) (o : List ℕ) (at : ℕ) where
  -- a source aggregated record
  module _ (r : r_bit (number_at 4 o (group_at f at + 2 * f.width)) ≡ false) where
    pub source_grows : (k m : ℕ) → 0 < k → k ≤ m → length (one_of f Aggregated (asserts f o at k)) ≤ length (one_of f Aggregated (asserts f o at m))
    source_grows k m some h = omega (arith, source_long f o at k some r, source_long f o at m (omega arith) r, mul-le-mul_left (f.width + 4) h)

    pub source_most : (n room : ℕ) → MostWithin f (one_of f Aggregated) o at n room (min n ((room - (14 + f.width)) / (f.width + 4)))
    source_most n room = go (min n ((room - (14 + f.width)) / (f.width + 4))) refl
      where
        fits : (k : ℕ) → k ≤ (room - (14 + f.width)) / (f.width + 4) → length (one_of f Aggregated (asserts f o at k)) ≤ room
        fits zero h = rw (one_none f Aggregated o at) (omega arith)
        fits (suc k) h =
            omega (arith, source_long f o at (suc k) (omega arith) r, mul-suc (f.width + 4) k, mul-le-mul_left (f.width + 4) h, mul-div-le (room - (14 + f.width)) (f.width + 4))

        go : (k : ℕ) → k ≡ min n ((room - (14 + f.width)) / (f.width + 4)) → MostWithin f (one_of f Aggregated) o at n room k
        go k e = record {
          inside = omega arith;
          fits = fits k (omega arith);
          full = λ p.
              let same : (room - (14 + f.width)) / (f.width + 4) ≡ k = omega arith in
              let past : room - (14 + f.width) < (f.width + 4) * (k + 1) = rw same at (lt-mul-div-succ (room - (14 + f.width)) {b = f.width + 4} (omega arith)) in
              omega (arith, source_long f o at (suc k) (omega arith) r);
        }

-- ---- the octets of a run of one group

pub div_some : (b n : ℕ) → 0 < b → b ≤ n → 0 < n / b
div_some b n some h = go (n / b) refl
  where
    go : (q : ℕ) → n / b ≡ q → 0 < q
    go zero e = let past : n < b * (0 + 1) = rw e at (lt-mul-div-succ n {b = b} some) in absurd (omega arith)
    go (suc q) e = omega arith

scaled : (c a b : ℕ) → a ≤ b → c * a ≤ c * b
scaled c a b h = mul-le-mul_left c h

run_grows : (w k m : ℕ) (s t : Bool) → k ≤ m → (t ≡ true → s ≡ true) → group_run_size w s k ≤ group_run_size w t m
unfolding group_run_size
run_grows w k m true true h e = omega (arith, mul-le-mul_left w h)
run_grows w k m false true h e = let never : ◌≡◌ {A = ℕ} 0 1 = cc (e refl) in absurd (omega arith)
run_grows w k m true false h e = omega (arith, mul-le-mul_left w h)
run_grows w k m false false h e = omega (arith, mul-le-mul_left w h)

-- it fits as one group record, and where its sources are all 0 also apart
run_whole : (w k : ℕ) (s : Bool) → group_run_size w s k ≤ w + 8 + (w + 2) * k
unfolding group_run_size
run_whole w k true = omega arith
run_whole w k false = omega arith

run_apart : (w k : ℕ) (s : Bool) → s ≡ true → group_run_size w s k ≤ (w + 8) * k
unfolding group_run_size
run_apart w k s e = rw e (omega arith)

-- it does not fit where it fits neither way
run_full : (w k room : ℕ) (s : Bool) → room < w + 8 + (w + 2) * k → (s ≡ true → room < (w + 8) * k) → room < group_run_size w s k
unfolding group_run_size
run_full w k room true h apart = omega (arith, apart refl)
run_full w k room false h apart = omega arith

-- each entry takes w + 2 octets or more, and some entries w + 8
run_many : (w k : ℕ) (s : Bool) → (w + 2) * k ≤ group_run_size w s k
unfolding group_run_size
run_many w k true = omega arith
run_many w k false = omega arith

run_least : (w : ℕ) (s : Bool) → w + 8 ≤ group_run_size w s 1
unfolding group_run_size
run_least w true = omega arith
run_least w false = omega arith

few_many : (ipv6 : Bool) (k : ℕ) → few ipv6 < k → (family_of ipv6).width + 8 + ((family_of ipv6).width + 2) * k ≤ ((family_of ipv6).width + 8) * k
few_many false k h = omega arith
few_many true k h = omega arith

module _ (ipv6 : Bool) (o : List ℕ) (at : ℕ) where
  abbrev f : Family
  f = family_of ipv6

  abbrev w : ℕ
  w = f.width

  pub group_grows : (k m : ℕ) → 0 < k → k ≤ m → length (one_of f Group (asserts f o at k)) ≤ length (one_of f Group (asserts f o at m))
  group_grows k m some h =
      rw (group_long f o at k some, group_long f o at m (omega arith))
      (run_grows w k m _ _ h (λ e.
      let all : m ≤ leading zero_source (asserts f o at m) = leb-true m _ (sym (all_zero_lem f o m m at (omega arith)) ∙ e) in
      all_zero_lem f o k m at h ∙ le-leb k _ (omega arith)))

  module _ (n room : ℕ) where
    -- as one group record there is room for so many
    abbrev whole : ℕ
    whole = (room - (w + 8)) / (w + 2)

    -- and apart for so many of those with source 0 at the front
    abbrev pub zeros : ℕ
    zeros = leading zero_source (asserts f o at (min (min n (few ipv6)) (room / (w + 8))))

    whole_fit : (k : ℕ) → k ≤ whole → length (one_of f Group (asserts f o at k)) ≤ room
    whole_fit zero h = rw (one_none f Group o at) (omega arith)
    whole_fit (suc k) h =
        omega (
          arith,
          group_long f o at (suc k) (omega arith),
          run_whole w (suc k) (all_zero (sources (asserts f o at (suc k)))),
          mul-suc (w + 2) k,
          mul-le-mul_left (w + 2) h,
          mul-div-le (room - (w + 8)) (w + 2),
        )

    whole_past : (k : ℕ) → whole ≤ k → room < w + 8 + (w + 2) * suc k
    whole_past k h =
        let past : room - (w + 8) < (w + 2) * (whole + 1) = lt-mul-div-succ (room - (w + 8)) {b = w + 2} (omega arith) in
        omega (arith, scaled (w + 2) (whole + 1) (suc k) (omega arith))

    most_of : (k : ℕ) → k ≤ n → length (one_of f Group (asserts f o at k)) ≤ room → (k < n → whole ≤ k)
        → (k < n → suc k ≤ few ipv6 → all_zero (sources (asserts f o at (suc k))) ≡ true → room < (w + 8) * suc k) → MostWithin f (one_of f Group) o at n room k
    most_of k inside fits one apart = record {
      inside = inside;
      fits = fits;
      full = λ p.
          rw (group_long f o at (suc k) (omega arith))
          (run_full w (suc k) room _ (whole_past k (one p)) (λ e. go (dec_le (suc k) (few ipv6)) p e));
    }
      where
        go : Dec (suc k ≤ few ipv6) → k < n → all_zero (sources (asserts f o at (suc k))) ≡ true → room < (w + 8) * suc k
        go (yes h) p e = apart p h e
        go (no h) p e = omega (arith, few_many ipv6 (suc k) (omega arith), whole_past k (one p))

    -- one group record for so many that they are not fewer octets apart
    pub whole_most : (k : ℕ) → k ≡ min n whole → few ipv6 ≤ k → MostWithin f (one_of f Group) o at n room k
    whole_most k e h = most_of k (omega arith) (whole_fit k (omega arith)) (λ p. omega arith) (λ p q z. absurd (omega arith))

    heads_past : (k : ℕ) → zeros ≤ k → k < n → suc k ≤ few ipv6 → all_zero (sources (asserts f o at (suc k))) ≡ true → room < (w + 8) * suc k
    heads_past k h p q e = go (dec_le (suc k) (room / (w + 8)))
      where
        go : Dec (suc k ≤ room / (w + 8)) → room < (w + 8) * suc k
        go (yes l) =
            let all : suc k ≤ zeros = leb-true (suc k) zeros (sym (all_zero_lem f o (suc k) (min (min n (few ipv6)) (room / (w + 8))) at (omega arith)) ∙ e) in
            absurd (omega arith)
        go (no l) =
            let past : room < (w + 8) * (room / (w + 8) + 1) = lt-mul-div-succ room {b = w + 8} (omega arith) in
            omega (arith, scaled (w + 8) (room / (w + 8) + 1) (suc k) (omega arith))

    -- as one group record, or apart, whichever has room for more
    pub joined_most : (k : ℕ) → k ≡ min n whole → zeros ≤ k → MostWithin f (one_of f Group) o at n room k
    joined_most k e h = most_of k (omega arith) (whole_fit k (omega arith)) (λ p. omega arith) (λ p q z. heads_past k h p q z)

    pub zeros_most : (k : ℕ) → k ≡ zeros → min n whole < k → MostWithin f (one_of f Group) o at n room k
    zeros_most k e h =
        let m : ℕ = min (min n (few ipv6)) (room / (w + 8)) in
        let inside : k ≤ m = omega (arith, e, leading_le zero_source (asserts f o at m), length_entries_at (assert_entries f) o at m) in
        let all : all_zero (sources (asserts f o at k)) ≡ true = all_zero_lem f o k m at inside ∙ le-leb k _ (omega arith) in
        most_of k (omega arith)
        (omega (arith, group_long f o at k (omega arith), run_apart w k _ all, scaled (w + 8) (k) (room / (w + 8)) (omega arith), mul-div-le room (w + 8)))
        (λ p. omega arith) (λ p q z. heads_past k (omega arith) p q z)

-- every group record has octets
records_few : (f : Family) (rs : List GroupRecord) → length rs ≤ group_records_size f.width rs
unfolding group_records_size
records_few f [] = omega arith
records_few f (of_group g ss ∷ rs) = omega (arith, records_few f rs)

pub number_few : (f : Family) (es : List AssertRecord) → number_of f Group es ≤ length (all_of f Group es)
unfolding number_of all_of octets_of
number_few f es = omega (arith, length_group_records f (records_of f Group es), records_few f (records_of f Group es))

-- ---- RP aggregated records

-- the octets of entries are those of the first run, and of what is left
all_first : (f : Family) (r : Run) (o : List ℕ) (at k : ℕ) → 0 < k
    → length (all_of f r (asserts f o at k)) ≡ length (one_of f r (asserts f o at (run_length f r o at k))) + length (all_of f r (asserts f o (at + entry_size f * run_length f r o at k) (k - run_length f r o at k)))
unfolding all_of one_of
all_first f r o at k h =
    let first = records_in f r (asserts f o at (run_length f r o at k)) in
    let rest = records_of f r (asserts f o (at + entry_size f * run_length f r o at k) (k - run_length f r o at k)) in
    ap (λ x. length (each (octets_of f r) x)) (records_first f r o at k h) ∙ ap length (each_append (octets_of f r) first rest) ∙ length-append (each (octets_of f r) first) (each (octets_of f r) rest)

split_at : (k j : ℕ) → j ≤ k → k ≡ j + (k - j)
split_at k j h = omega arith

-- each entry takes w + 2 octets or more
groups_many : (f : Family) (o : List ℕ) (bound at k : ℕ) → k ≤ bound → (f.width + 2) * k ≤ length (all_of f Group (asserts f o at k))
groups_many f o zero at k h = let z : k ≡ 0 = omega arith in rw z (omega arith)
groups_many f o (suc bound) at k h = go (dec_le k 0) (groups_many f o bound)
  where
    go : Dec (k ≤ 0) → ((at' k' : ℕ) → k' ≤ bound → (f.width + 2) * k' ≤ length (all_of f Group (asserts f o at' k'))) → (f.width + 2) * k ≤ length (all_of f Group (asserts f o at k))
    go (yes z) ih = let z' : k ≡ 0 = omega arith in rw z' (omega arith)
    go (no z) ih =
        let first = run_length f Group o at k in
        let range = run_range f Group o at k (omega arith) in
        let sum : (f.width + 2) * k ≡ (f.width + 2) * first + (f.width + 2) * (k - first) = ap (λ x. (f.width + 2) * x) (split_at k first range.1) ∙ mul-add (f.width + 2) first (k - first) in
        omega (
          arith,
          sum,
          all_first f Group o at k (omega arith),
          group_long f o at first range.0,
          run_many f.width first (all_zero (sources (asserts f o at first))),
          ih (at + entry_size f * first) (k - first) (omega (arith, range.0)),
        )

module _ (f : Family) (o : List ℕ) (at : ℕ) (r : r_bit (number_at 4 o (group_at f at + 2 * f.width)) ≡ true) where
  pub rp_least : 20 + f.width ≤ length (one_of f Aggregated (asserts f o at 1))
  rp_least =
      let range = run_range f Group o at 1 (omega arith) in
      omega (
        arith,
        rp_long f o at 1 (omega arith) r,
        ap length (one_all f Group o at 1 1 (omega arith) (omega arith) (omega arith)),
        group_long f o at 1 (omega arith),
        run_least f.width (all_zero (sources (asserts f o at 1))),
      )

  -- by its group records, and by the entries that could fit
  pub rp_most : (n out limit k : ℕ) → 0 < n → out + 12 ≤ limit → 0 < (limit - out) / (f.width + 2)
      → MostWithin f (all_of f Group) o at (run_length f Aggregated o at (min n ((limit - out) / (f.width + 2)))) (limit - (out + 12)) k
      → MostWithin f (all_of f Aggregated) o at (run_length f Aggregated o at n) (limit - out) k
  rp_most n out limit k some h wide most =
      let m : ℕ = min n ((limit - out) / (f.width + 2)) in
      let fewer = run_fewer f Aggregated o at m n (omega arith) (omega arith) in
      let range = run_range f Aggregated o at n some in
      record {
        inside = omega (arith, most.inside);
        fits = fit k (omega (arith, most.inside)) most.fits;
        full = λ p. go p (dec_le (suc k) (run_length f Aggregated o at m)) fewer range.1;
      }
    where
      long : (j : ℕ) → 0 < j → j ≤ run_length f Aggregated o at n → length (all_of f Aggregated (asserts f o at j)) ≡ 12 + length (all_of f Group (asserts f o at j))
      long j any inside = ap length (one_all f Aggregated o at n j any inside (omega (arith, (run_range f Aggregated o at n some).1))) ∙ rp_long f o at j any r

      fit : (j : ℕ) → j ≤ run_length f Aggregated o at n → length (all_of f Group (asserts f o at j)) ≤ limit - (out + 12) → length (all_of f Aggregated (asserts f o at j)) ≤ limit - out
      fit zero inside q = rw (all_none f Aggregated o at) (omega arith)
      fit (suc j) inside q = omega (arith, long (suc j) (omega arith) inside)

      go : k < run_length f Aggregated o at n → Dec (suc k ≤ run_length f Aggregated o at (min n ((limit - out) / (f.width + 2))))
          → run_length f Aggregated o at (min n ((limit - out) / (f.width + 2))) ≡ min (min n ((limit - out) / (f.width + 2))) (run_length f Aggregated o at n)
          → run_length f Aggregated o at n ≤ n → limit - out < length (all_of f Aggregated (asserts f o at (suc k)))
      go p (yes q) fewer inside = omega (arith, most.full q, long (suc k) (omega arith) p)
      go p (no q) fewer inside =
          let past : limit - out < (f.width + 2) * ((limit - out) / (f.width + 2) + 1) = lt-mul-div-succ (limit - out) {b = f.width + 2} (omega arith) in
          let same : (limit - out) / (f.width + 2) ≡ k = omega (arith, most.inside) in
          let past' : limit - out < (f.width + 2) * (k + 1) = rw same at past in
          omega (arith, long (suc k) (omega arith) p, groups_many f o (suc k) at (suc k) (omega arith))

-- ---- records written run by run

-- no run goes on from the first i entries into the next ones
pub record Apart (f : Family) (r : Run) (o : List ℕ) (from i at left : ℕ) : Type 0 where
  pub after : (j : ℕ) → j ≤ left → records_of f r (asserts f o from (i + j)) ≡ records_of f r (asserts f o from i) ++ records_of f r (asserts f o at j)

-- a run has just ended, or the limit has cut it and the next entry does not fit even alone
pub data Further (f : Family) (r : Run) (o : List ℕ) (from n start limit i at out : ℕ) : Type 0 where
  ended : Apart f r o from i at (n - i) → Further f r o from n start limit i at out
  cut : limit < out + length (all_of f r (asserts f o at 1)) → limit < start + length (all_of f r (asserts f o from (suc i))) → Further f r o from n start limit i at out

-- the first i of n entries are written
pub record RunsWithin (f : Family) (r : Run) (o : List ℕ) (from n : ℕ) (d₀ : List ℕ) (start limit : ℕ) (d : List ℕ) (i at out : ℕ) : Type 0 where
  pub inside : i ≤ n
  pub there : at + entry_size f * (n - i) ≤ length o
  pub room : limit ≤ length d
  pub same : length d ≡ length d₀
  pub fits : out ≤ limit
  pub next : out ≡ start + length (all_of f r (asserts f o from i))
  pub buffer : d ≡ put d₀ start (all_of f r (asserts f o from i))
  pub further : Further f r o from n start limit i at out

-- and no more of them fit
pub record Took (f : Family) (r : Run) (o : List ℕ) (from n : ℕ) (d₀ : List ℕ) (start limit : ℕ) (d : List ℕ) (i out : ℕ) : Type 0 where
  pub most : MostWithin f (all_of f r) o from n (limit - start) i
  pub next : out ≡ start + length (all_of f r (asserts f o from i))
  pub buffer : d ≡ put d₀ start (all_of f r (asserts f o from i))

pub within_start : (f : Family) (r : Run) (o : List ℕ) (from n : ℕ) (d₀ : List ℕ) (start limit : ℕ) → from + entry_size f * n ≤ length o → start ≤ limit → limit ≤ length d₀
    → RunsWithin f r o from n d₀ start limit d₀ 0 from start
within_start f r o from n d₀ start limit there fits room =
    let all : n - 0 ≡ n = omega arith in
    record {
      inside = omega arith;
      there = rw all there;
      room = room;
      same = refl;
      fits = fits;
      next = rw (all_none f r o from) (omega arith);
      buffer = rw (all_none f r o from) (sym (put_nil d₀ start));
      further = ended (record { after = λ j h. rw (zero-add j, records_none f r o from) });
    }

pub number_none : (f : Family) (r : Run) (o : List ℕ) (from : ℕ) → 0 ≡ number_of f r (asserts f o from 0)
unfolding number_of
number_none f r o from = rw (records_none f r o from)

module _ {f : Family} {r : Run} {o : List ℕ} {from n : ℕ} {d₀ : List ℕ} {start limit : ℕ} {d : List ℕ} {i at out : ℕ} (t : RunsWithin f r o from n d₀ start limit d i at out) where
  took : (i < n → limit < start + length (all_of f r (asserts f o from (suc i)))) → (d' : List ℕ) → d' ≡ d → Took f r o from n d₀ start limit d' i out
  took full d' e = record {
    most = record { inside = t.inside; fits = omega (arith, t.fits, t.next); full = λ p. omega (arith, full p, t.fits, t.next) };
    next = t.next;
    buffer = e ∙ t.buffer;
  }

  pub within_end : n ≤ i → Took f r o from n d₀ start limit d i out
  within_end h = took (λ p. absurd (omega arith)) d refl

  -- the next entries, after those that are written
  module _ (apart : Apart f r o from i at (n - i)) (k : ℕ) (few : k ≤ n - i) where
    further_octets : all_of f r (asserts f o from (i + k)) ≡ all_of f r (asserts f o from i) ++ all_of f r (asserts f o at k)
    unfolding all_of
    further_octets = ap (each (octets_of f r)) (apart.after k few) ∙ each_append (octets_of f r) (records_of f r (asserts f o from i)) (records_of f r (asserts f o at k))

    joined_long : start + length (all_of f r (asserts f o from (i + k))) ≡ out + length (all_of f r (asserts f o at k))
    joined_long = omega (arith, ap length further_octets ∙ length-append (all_of f r (asserts f o from i)) (all_of f r (asserts f o at k)), t.next)

    counted : number_of f r (asserts f o from (i + k)) ≡ number_of f r (asserts f o from i) + number_of f r (asserts f o at k)
    unfolding number_of
    counted = ap length (apart.after k few) ∙ length-append (records_of f r (asserts f o from i)) (records_of f r (asserts f o at k))

  pub within_stop : i < n → (k : ℕ) → k ≡ 0 → MostWithin f (all_of f r) o at (run_length f r o at (n - i)) (limit - out) k → (d' : List ℕ) → d' ≡ put d out (all_of f r (asserts f o at k))
      → Took f r o from n d₀ start limit d' i out
  within_stop left k e most d' p = took (λ q. go t.further) d' (rw (e, all_none f r o at) at p ∙ put_nil d out)
    where
      go : Further f r o from n start limit i at out → limit < start + length (all_of f r (asserts f o from (suc i)))
      go (cut low past) = past
      go (ended apart) =
          let range = (run_range f r o at (n - i) (omega arith)).0 in
          let more : limit - out < length (all_of f r (asserts f o at 1)) = (rw e at most).full range in
          let one : i + 1 ≡ suc i = omega arith in
          let long = rw one at (joined_long apart 1 (omega arith)) in
          omega (arith, t.fits)

  -- a run that was written to its end, or cut
  module _ (left : i < n) (k : ℕ) (some : 0 < k) (most : MostWithin f (all_of f r) o at (run_length f r o at (n - i)) (limit - out) k) where
    within : k ≤ n - i
    within = le_trans most.inside (run_range f r o at (n - i) (omega arith)).1

    not_cut : {X : Type 0} → (Apart f r o from i at (n - i) → X) → X
    not_cut {X = X} x = go t.further
      where
        go : Further f r o from n start limit i at out → X
        go (ended apart) = x apart
        go (cut low past) = absurd (omega (arith, all_grows f r o at 1 k (omega arith), most.fits, t.fits))

    -- its entries are there
    pub within_there : (i + k ≤ n) × (at + entry_size f * k ≤ length o)
    within_there = (omega (arith, within), omega (arith, scaled (entry_size f) k (n - i) within, t.there))

    module _ (apart : Apart f r o from i at (n - i)) where
      -- the next entries, where the run is at its end
      apart_next : run_length f r o at (n - i) ≤ k → Apart f r o from (i + k) (at + entry_size f * k) (n - (i + k))
      apart_next all = record {
        after = λ j h.
            let regroup : i + k + j ≡ i + (k + j) = omega arith in
            let past : k + j - k ≡ j = omega arith in
            let ends : run_length f r o at (k + j) ≡ k = omega (arith, most.inside, within, run_fewer f r o at (k + j) (n - i) (omega arith) (omega (arith, within))) in
            let first : records_of f r (asserts f o at (k + j)) ≡ records_of f r (asserts f o at k) ++ records_of f r (asserts f o (at + entry_size f * k) j) =
            rw (ends, past) at (records_first f r o at (k + j) (omega arith))
            ∙ ap (λ x. x ++ records_of f r (asserts f o (at + entry_size f * k) j)) (sym (one_run f r o at (n - i) k some most.inside within)) in
            rw (regroup, apart.after k within, append_assoc)
            (apart.after (k + j) (omega (arith, within)) ∙ ap (λ x. records_of f r (asserts f o from i) ++ x) first);
      }

      further_next : (out' : ℕ) → out' ≡ out + length (all_of f r (asserts f o at k)) → Further f r o from n start limit (i + k) (at + entry_size f * k) out'
      further_next out' q = go (dec_le (run_length f r o at (n - i)) k)
        where
          go : Dec (run_length f r o at (n - i) ≤ k) → Further f r o from n start limit (i + k) (at + entry_size f * k) out'
          go (yes all) = ended (apart_next all)
          go (no less) =
              let more = most.full (omega arith) in
              let one : i + suc k ≡ suc (i + k) = omega arith in
              let next : suc k ≤ n - i = omega (arith, (run_range f r o at (n - i) (omega arith)).1) in
              let long = rw one at (joined_long apart (suc k) next) in
              cut (omega (arith, all_step f r o at k, more, t.fits)) (omega (arith, more, long, t.fits))

    pub within_next : (d' : List ℕ) (at' out' : ℕ) → d' ≡ put d out (all_of f r (asserts f o at k)) → at' ≡ at + entry_size f * k → out' ≡ out + length (all_of f r (asserts f o at k))
        → RunsWithin f r o from n d₀ start limit d' (i + k) at' out'
    within_next d' at' out' p e q =
        not_cut (λ apart.
        let long : length d' ≡ length d = ap length p ∙ length_put d out (all_of f r (asserts f o at k)) (omega (arith, most.fits, t.fits, t.room)) in
        let fewer : n - i ≡ k + (n - (i + k)) = omega (arith, within) in
        rw e
        (record {
          inside = omega (arith, within);
          there = omega (arith, t.there, ap (λ x. entry_size f * x) fewer ∙ mul-add (entry_size f) k (n - (i + k)));
          room = omega (arith, t.room);
          same = long ∙ t.same;
          fits = omega (arith, most.fits, t.fits);
          next = q ∙ sym (joined_long apart k within);
          buffer = rw (further_octets apart k within) (put_next d₀ start (all_of f r (asserts f o from i)) (all_of f r (asserts f o at k)) t.buffer p t.next);
          further = further_next apart out' q;
        }))

    pub within_room : start + length (all_of f r (asserts f o from (i + k))) ≤ limit
    within_room = not_cut (λ apart. omega (arith, joined_long apart k within, most.fits, t.fits))

    pub number_next : (number more : ℕ) → number ≡ number_of f r (asserts f o from i) → more ≡ number_of f r (asserts f o at k) → number + more ≡ number_of f r (asserts f o from (i + k))
    number_next number more e g = not_cut (λ apart. omega (arith, counted apart k within))
