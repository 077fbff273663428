-- Joined records take the fewest octets, for addresses of any length w.
--     group_size                           the octets of a run of one group
--     group_cost, groups_cost, record_cost    the octets of a run of one group, of the runs by group and of a run, as costs of runs
--     rp_cost, source_cost, joined_size    what a run costs, by its R bit, and that joined records cost what their runs cost
--     joined_parts                         the octets of two lists of entries, joined apart and joined together, from which
--         subadditive                          joining all at once is never longer
--         cut                                  a cut adds at most w + 20 octets
--         drop_front, drop_back, take_mono     fewer entries never take more
--     least                                no records that stand for the same entries take fewer octets
--     one_entry                            one entry takes at most an RP aggregated record with one source
-- Assumes nothing.
use Prim.Native.Nat.{ℕ, zero, suc, ◌+◌, ◌*◌, ◌≤◌}
use native.Mathlib.Omega.{arith}
use mathlib.Core.Path.{◌≡◌, refl, sym, ◌∙◌}
use mathlib.Core.Bool.{Bool, true, false, ◌&&◌}
use mathlib.Core.List.{List, [], ◌∷◌, ◌++◌, map, map-append}
use lib.ListN.{length, replicate, take, drop, length-append, length-map, take-append-drop}
use lib.Seq.{take-take}
use lib.Dec.{eqb}
use borrow.Author.Tests.{eq-eqb}
use Rattle.records.specs.Every.{Every}
use Rattle.records.specs.Records.{AssertRecord, assert, GroupRecord, of_group, AggregatedRecord, of_source, of_rp, r_bit, group_entries, all_group_entries, entries, all_entries, Formed}
use Rattle.records.specs.Runs.{Run, run, glue, runs}
use Rattle.records.specs.Joining.{together, same_group, all_zero, group_records, all_group_records, aggregated, joined}
use Rattle.records.specs.Sizes.{group_record_size, group_run_size, group_records_size, aggregated_size, all_size}
use Rattle.records.proofs.Every.{every_map, every_of_map, every_middle}
use Rattle.records.proofs.Runs.{Block, total, Parts, parts, runs_one}
use Rattle.records.proofs.Joining.{Shares, together_to, to_together, together_cong, same_group_cong, aggregated_rp, aggregated_source, group_records_elim}
use Rattle.records.proofs.Lossless.{groups_share}

-- ---- group records

group_run_parts : (w y z : ℕ) (s t : Bool) → Parts (w + 8) (group_run_size w s y) (group_run_size w t z) (group_run_size w (s && t) (y + z))
unfolding group_run_size
group_run_parts w y z true true = omega arith
group_run_parts w y z true false = omega arith
group_run_parts w y z false true = omega arith
group_run_parts w y z false false = omega arith

group_run_linear : (w z : ℕ) (t : Bool) → group_run_size w t z ≤ group_record_size w z
unfolding group_run_size
group_run_linear w z true = omega arith
group_run_linear w z false = omega arith

all_zero_append : (a b : List ℕ) → all_zero (a ++ b) ≡ all_zero a && all_zero b
unfolding all_zero
all_zero_append [] b = refl
all_zero_append (s ∷ a) b = elim (eqb s 0) as (λ t. t && all_zero (a ++ b) ≡ (t && all_zero a) && all_zero b) [ true ↦ all_zero_append a b | false ↦ refl ]

sources_parts : (w : ℕ) (a b : List ℕ)
    → Parts (w + 8) (group_run_size w (all_zero a) (length a)) (group_run_size w (all_zero b) (length b)) (group_run_size w (all_zero (a ++ b)) (length (a ++ b)))
sources_parts w a b = rw (all_zero_append, length-append) (group_run_parts w _ _ _ _)

zero_size : (w g n : ℕ) → group_records_size w (replicate n (of_group g [])) ≡ n * group_record_size w 0
unfolding group_records_size
zero_size w g zero = omega arith
zero_size w g (suc n) = omega (arith, zero_size w g n)

pub group_size : (w g : ℕ) (ss : List ℕ) → group_records_size w (group_records w g ss) ≡ group_run_size w (all_zero ss) (length ss)
unfolding group_records_size group_run_size
group_size w g ss =
    group_records_elim w g ss (λ rs. group_records_size w rs ≡ group_run_size w (all_zero ss) (length ss))
    (λ z h. rw (z, zero_size) (omega arith)) (λ z h. rw z (omega arith)) (λ z. rw z (omega arith))

group_records_size_append : (w : ℕ) (a b : List GroupRecord) → group_records_size w (a ++ b) ≡ group_records_size w a + group_records_size w b
unfolding group_records_size
group_records_size_append w [] b = omega arith
group_records_size_append w (of_group g ss ∷ a) b = omega (arith, group_records_size_append w a b)

abbrev sources : List AssertRecord → List ℕ
sources es = map (λ (x : AssertRecord). x.source) es

unfoldable pub group_cost : ℕ → Run AssertRecord → ℕ
group_cost w (run e es) = let ss = sources (e ∷ es) in group_run_size w (all_zero ss) (length ss)

unfoldable pub groups_cost : ℕ → List AssertRecord → ℕ
groups_cost w es = total (group_cost w) (runs same_group es)

group_runs_size : (w : ℕ) (rs : List (Run AssertRecord)) → group_records_size w (all_group_records w rs) ≡ total (group_cost w) rs
unfolding all_group_records group_records_size group_cost total
group_runs_size w [] = refl
group_runs_size w (run e es ∷ rs) = simp (group_records_size_append, group_size) (omega (arith, group_runs_size w rs))

group_cost_parts : (w : ℕ) (a b : AssertRecord) (l m : List AssertRecord)
    → Parts (w + 8) (group_cost w (run a l)) (group_cost w (run b m)) (group_cost w (run a (l ++ b ∷ m)))
unfolding group_cost
group_cost_parts w a b l m = rw (map-append (λ (x : AssertRecord). x.source) l (b ∷ m)) (sources_parts w (sources (a ∷ l)) (sources (b ∷ m)))

pub groups_parts : (w : ℕ) (l m : List AssertRecord) → Parts (w + 8) (groups_cost w l) (groups_cost w m) (groups_cost w (l ++ m))
unfolding groups_cost
groups_parts w = parts same_group same_group_cong (group_cost w) (w + 8) (λ a b l m h. group_cost_parts w a b l m)

-- ---- aggregated records

unfoldable pub record_cost : ℕ → Run AssertRecord → ℕ
record_cost w r = aggregated_size w (aggregated w r)

pub rp_cost : (w : ℕ) (e : AssertRecord) (es : List AssertRecord) → r_bit e.r_preference ≡ true
    → record_cost w (run e es) ≡ 12 + groups_cost w (e ∷ es)
unfolding record_cost aggregated_size groups_cost
rp_cost w e es r = rw (aggregated_rp w e es r, group_runs_size)

source_cost : (w : ℕ) (e : AssertRecord) (es : List AssertRecord) → r_bit e.r_preference ≡ false
    → record_cost w (run e es) ≡ 12 + (w + 2) + (w + 4) * length (e ∷ es)
unfolding record_cost aggregated_size
source_cost w e es r = rw (aggregated_source w e es r, length-map)

record_cost_parts : (w : ℕ) (a b : AssertRecord) (l m : List AssertRecord) → Block together (run a (l ++ b ∷ m))
    → Parts (w + 8 + 12) (record_cost w (run a l)) (record_cost w (run b m)) (record_cost w (run a (l ++ b ∷ m)))
unfolding Block
record_cost_parts w a b l m h = go (r_bit a.r_preference) refl
  where
    agree : a.r_preference ≡ b.r_preference
    agree = (together_to a b (every_middle _ l b m h)).r_preference

    go : (t : Bool) → r_bit a.r_preference ≡ t
        → Parts (w + 8 + 12) (record_cost w (run a l)) (record_cost w (run b m)) (record_cost w (run a (l ++ b ∷ m)))
    go true r =
        rw (rp_cost w a l r, rp_cost w b m (rw agree at r), rp_cost w a (l ++ b ∷ m) r) (omega (arith, groups_parts w (a ∷ l) (b ∷ m)))
    go false r =
        rw (source_cost w a l r, source_cost w b m (rw agree at r), source_cost w a (l ++ b ∷ m) r, length-append) (omega arith)

run_sizes : (w : ℕ) (rs : List (Run AssertRecord)) → all_size w (map (aggregated w) rs) ≡ total (record_cost w) rs
unfolding all_size total record_cost
run_sizes w [] = refl
run_sizes w (r ∷ rs) = rw (run_sizes w rs)

joined_size : (w : ℕ) (es : List AssertRecord) → all_size w (joined w es) ≡ total (record_cost w) (runs together es)
unfolding joined
joined_size w es = run_sizes w (runs together es)

pub joined_parts : (w : ℕ) (a b : List AssertRecord)
    → Parts (w + 8 + 12) (all_size w (joined w a)) (all_size w (joined w b)) (all_size w (joined w (a ++ b)))
joined_parts w a b = simp joined_size (parts together together_cong (record_cost w) (w + 8 + 12) (record_cost_parts w) a b)

pub subadditive : (w : ℕ) (a b : List AssertRecord) → all_size w (joined w (a ++ b)) ≤ all_size w (joined w a) + all_size w (joined w b)
subadditive w a b = (joined_parts w a b).joined

pub cut : (w : ℕ) (a b : List AssertRecord) → all_size w (joined w a) + all_size w (joined w b) ≤ all_size w (joined w (a ++ b)) + (w + 8 + 12)
cut w a b = (joined_parts w a b).cut

pub drop_front : (w k : ℕ) (es : List AssertRecord) → all_size w (joined w (drop k es)) ≤ all_size w (joined w es)
drop_front w k es = rw (take-append-drop k es) at (joined_parts w (take k es) (drop k es)).back

pub drop_back : (w k : ℕ) (es : List AssertRecord) → all_size w (joined w (take k es)) ≤ all_size w (joined w es)
drop_back w k es = rw (take-append-drop k es) at (joined_parts w (take k es) (drop k es)).front

pub take_mono : (w j k : ℕ) (es : List AssertRecord) → j ≤ k → all_size w (joined w (take j es)) ≤ all_size w (joined w (take k es))
take_mono w j k es h = rw (take-take j k es h) at (drop_back w j (take k es))

-- ---- the least

-- a run of one group takes at most what one group record takes
group_one : (w : ℕ) (e : AssertRecord) (es : List AssertRecord) → Block same_group (run e es)
    → groups_cost w (e ∷ es) ≤ group_record_size w (length (e ∷ es))
unfolding groups_cost total group_cost
group_one w e es h =
    rw (runs_one same_group same_group_cong e es h)
    (simp length-map (omega (arith, group_run_linear w (length (e ∷ es)) (all_zero (sources (e ∷ es))))))

group_least : (w v m : ℕ) (r : GroupRecord) → groups_cost w (group_entries v m r) ≤ group_records_size w (r ∷ [])
unfolding group_entries group_records_size groups_cost runs glue total group_cost group_run_size all_zero same_group Block
group_least w v m (of_group g []) = omega arith
group_least w v m (of_group g (s ∷ ss)) =
    omega (arith, simp length-map at (group_one w (assert g s v m) (map of ss) (every_of_map _ of (λ x. eq-eqb g g refl) ss)))
  where
    of : ℕ → AssertRecord
    of x = assert g x v m

groups_least : (w v m : ℕ) (rs : List GroupRecord) → groups_cost w (all_group_entries v m rs) ≤ group_records_size w rs
unfolding all_group_entries group_records_size groups_cost runs total
groups_least w v m [] = omega arith
groups_least w v m (of_group g ss ∷ rs) =
    omega (arith, groups_parts w (group_entries v m (of_group g ss)) (all_group_entries v m rs), group_least w v m (of_group g ss), groups_least w v m rs)

joined_one : (w : ℕ) (e : AssertRecord) (es : List AssertRecord) → Block together (run e es)
    → all_size w (joined w (e ∷ es)) ≡ record_cost w (run e es)
unfolding total
joined_one w e es h = rw (joined_size, runs_one together together_cong e es h) (omega arith)

-- what an aggregated record stands for is one run
rp_least : (w v m : ℕ) (es : List AssertRecord) → r_bit v ≡ true → Every (Shares v m) es → all_size w (joined w es) ≤ 12 + groups_cost w es
unfolding joined runs all_size Every Block
rp_least w v m [] r h = omega arith
rp_least w v m (e ∷ es) r h = omega (arith, rp_cost w e es has_r, joined_one w e es (every_map _ _ agree es h.1))
  where
    has_r : r_bit e.r_preference ≡ true
    has_r = rw h.0.0 r

    agree : (x : AssertRecord) → Shares v m x → together e x ≡ true
    agree x j = to_together e x (record { r_preference = h.0.0 ∙ sym j.0; metric = h.0.1 ∙ sym j.1; source = λ f. cc has_r })

record_least : (w : ℕ) (r : AggregatedRecord) → Formed r → all_size w (joined w (entries r)) ≤ aggregated_size w r
unfolding entries aggregated_size Formed joined runs all_size Block
record_least w (of_source v m s []) h = omega arith
record_least w (of_source v m s (g ∷ gs)) h =
    omega (arith, simp length-map at (source_cost w (of g) (map of gs) h), joined_one w (of g) (map of gs) block)
  where
    of : ℕ → AssertRecord
    of x = assert x s v m

    block : Every (λ x. together (of g) x ≡ true) (map of gs)
    block = every_of_map _ of (λ x. to_together (of g) (of x) (record { r_preference = refl; metric = refl; source = λ f. refl })) gs
record_least w (of_rp v m rs) h =
    omega (arith, rp_least w v m (all_group_entries v m rs) h (groups_share v m rs), groups_least w v m rs)

pub least : (w : ℕ) (rs : List AggregatedRecord) → Every Formed rs → all_size w (joined w (all_entries rs)) ≤ all_size w rs
unfolding Every all_entries all_size joined runs
least w [] h = omega arith
least w (r ∷ rs) h = omega (arith, subadditive w (entries r) (all_entries rs), record_least w r h.0, least w rs h.1)

-- ---- one entry

one_record : (w : ℕ) (e : AssertRecord) → aggregated_size w (aggregated w (run e [])) ≤ 12 + group_record_size w 1
unfolding aggregated_size group_records_size all_group_records runs glue
one_record w e = go (r_bit e.r_preference) refl
  where
    go : (b : Bool) → r_bit e.r_preference ≡ b → aggregated_size w (aggregated w (run e [])) ≤ 12 + group_record_size w 1
    go true r =
        rw (aggregated_rp w e [] r)
        (group_records_elim w e.group (e.source ∷ []) (λ rs. 12 + group_records_size w (rs ++ []) ≤ 12 + group_record_size w 1)
        (λ z few. omega arith) (λ z many. omega arith) (λ z. omega arith))
    go false r = rw (aggregated_source w e [] r) (omega arith)

-- at most an RP aggregated record with one group record of one source: the largest message of one entry
pub one_entry : (w : ℕ) (e : AssertRecord) → all_size w (joined w (e ∷ [])) ≤ 12 + group_record_size w 1
unfolding joined runs glue all_size
one_entry w e = omega (arith, one_record w e)
