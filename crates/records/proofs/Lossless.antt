-- Joining loses nothing.
--     groups_share        the entries that group records stand for have one preference and metric
--     lossless            the joined records stand for the entries that were joined, in their order
--     joined_formed       the R bit of each joined record says what it is
--     joined_nonempty     entries join to at least one record
-- Assumes nothing.
use Prim.Native.Nat.{ℕ}
use native.Mathlib.Omega.{arith}
use mathlib.Core.Path.{◌≡◌, refl, sym, ap₂, ◌∙◌}
use mathlib.Core.Bool.{Bool, true, false, and-eq-true_iff}
use mathlib.Core.List.{List, [], ◌∷◌, ◌++◌, map, flat_map, append-nil, append_assoc}
use lib.ListN.{length, replicate}
use borrow.Author.Tests.{eqb-true}
use Rattle.records.specs.Every.{Every}
use Rattle.records.specs.Records.{AssertRecord, assert, GroupRecord, of_group, AggregatedRecord, r_bit, group_entries, all_group_entries, entries, all_entries, Formed}
use Rattle.records.specs.Runs.{Run, run, of_run, runs}
use Rattle.records.specs.Joining.{together, same_group, all_zero, group_records, all_group_records, aggregated, joined}
use Rattle.records.proofs.Every.{every_map, every_both, every_append, every_of_map, map_back}
use Rattle.records.proofs.Runs.{Block, runs_spread, runs_every, runs_block, glue_elim}
use Rattle.records.proofs.Joining.{Shares, Together, together_to, together_cong, same_group_cong, aggregated_rp, aggregated_source, group_records_elim}

-- ---- group records

pub all_group_entries_append : (v m : ℕ) (a b : List GroupRecord) → all_group_entries v m (a ++ b) ≡ all_group_entries v m a ++ all_group_entries v m b
unfolding all_group_entries
all_group_entries_append v m [] b = refl
all_group_entries_append v m (r ∷ a) b = rw (all_group_entries_append v m a b, append_assoc)

group_shares : (v m : ℕ) (r : GroupRecord) → Every (Shares v m) (group_entries v m r)
unfolding group_entries Every
group_shares v m (of_group g []) = omega arith
group_shares v m (of_group g (s ∷ ss)) = every_of_map (Shares v m) (λ (x : ℕ). assert g x v m) (λ x. (refl, refl)) (s ∷ ss)

pub groups_share : (v m : ℕ) (rs : List GroupRecord) → Every (Shares v m) (all_group_entries v m rs)
unfolding all_group_entries Every
groups_share v m [] = tt
groups_share v m (r ∷ rs) =
    every_append (Shares v m) (group_entries v m r) (all_group_entries v m rs) (group_shares v m r) (groups_share v m rs)

-- as many group records with p=0 as there are sources, all 0
zero_entries : (v m g : ℕ) (ss : List ℕ) → all_zero ss ≡ true
    → all_group_entries v m (replicate (length ss) (of_group g [])) ≡ map (λ (x : ℕ). assert g x v m) ss
unfolding all_group_entries group_entries all_zero
zero_entries v m g [] z = refl
zero_entries v m g (s ∷ ss) z =
    let k = (and-eq-true_iff _ _).0 z in
    rw (eqb-true s 0 k.0, zero_entries v m g ss k.1)

-- the group records of a run stand for it
group_entries_lem : (w v m g s : ℕ) (ss : List ℕ) → all_group_entries v m (group_records w g (s ∷ ss)) ≡ map (λ (x : ℕ). assert g x v m) (s ∷ ss)
unfolding all_group_entries group_entries
group_entries_lem w v m g s ss =
    group_records_elim w g (s ∷ ss) (λ rs. all_group_entries v m rs ≡ map (λ (x : ℕ). assert g x v m) (s ∷ ss))
    (λ z h. zero_entries v m g (s ∷ ss) z) (λ z h. append-nil _) (λ z. append-nil _)

-- the group records of the runs of one preference and metric stand for them
all_group_entries_lem : (w v m : ℕ) (rs : List (Run AssertRecord)) → Every (Block same_group) rs
    → Every (λ r. Every (Shares v m) (of_run r)) rs
    → all_group_entries v m (all_group_records w rs) ≡ flat_map of_run rs
unfolding all_group_records Every flat_map of_run Block same_group all_group_entries
all_group_entries_lem w v m [] h k = refl
all_group_entries_lem w v m (run e es ∷ rs) h k =
    rw (all_group_entries_append, group_entries_lem)
    (ap₂ (λ (a b : List AssertRecord). a ++ b)
    (map_back (λ (s : ℕ). assert e.group s v m) (λ (x : AssertRecord). x.source) (e ∷ es)
    (is e refl k.0.0, every_map _ _ (λ x j. is x (sym (eqb-true _ _ j.0)) j.1) es (every_both _ _ es h.0 k.0.1)))
    (all_group_entries_lem w v m rs h.1 k.1))
  where
    is : (x : AssertRecord) → x.group ≡ e.group → Shares v m x → assert e.group x.source v m ≡ x
    is x g j = λ i. assert (sym g i) x.source (sym j.0 i) (sym j.1 i)

-- ---- aggregated records

-- the aggregated record of a run stands for it
run_entries : (w : ℕ) (r : Run AssertRecord) → Block together r → entries (aggregated w r) ≡ of_run r
unfolding Every of_run Block entries
run_entries w (run e es) h = go (r_bit e.r_preference) refl
  where
    shared : Every (Together e) es
    shared = every_map _ _ (together_to e) es h

    go : (t : Bool) → r_bit e.r_preference ≡ t → entries (aggregated w (run e es)) ≡ e ∷ es
    go true r =
        rw (aggregated_rp w e es r)
        (all_group_entries_lem w _ _ (runs same_group (e ∷ es)) (runs_block same_group same_group_cong (e ∷ es))
        (runs_every same_group (Shares e.r_preference e.metric) (e ∷ es)
        ((refl, refl), every_map _ _ (λ x t. (sym t.r_preference, sym t.metric)) es shared))
        ∙ runs_spread same_group (e ∷ es))
    go false r =
        rw (aggregated_source w e es r)
        (map_back (λ (g : ℕ). assert g e.source e.r_preference e.metric) (λ (x : AssertRecord). x.group) (e ∷ es)
        (refl, every_map _ _ (λ x t i. assert x.group (t.source r i) (t.r_preference i) (t.metric i)) es shared))

all_run_entries : (w : ℕ) (rs : List (Run AssertRecord)) → Every (Block together) rs → all_entries (map (aggregated w) rs) ≡ flat_map of_run rs
unfolding Every all_entries flat_map
all_run_entries w [] h = refl
all_run_entries w (r ∷ rs) h = ap₂ (λ (a b : List AssertRecord). a ++ b) (run_entries w r h.0) (all_run_entries w rs h.1)

pub lossless : (w : ℕ) (es : List AssertRecord) → all_entries (joined w es) ≡ es
unfolding joined
lossless w es = all_run_entries w (runs together es) (runs_block together together_cong es) ∙ runs_spread together es

-- ---- what the joined records are like

run_formed : (w : ℕ) (r : Run AssertRecord) → Formed (aggregated w r)
unfolding Formed
run_formed w (run e es) = go (r_bit e.r_preference) refl
  where
    go : (t : Bool) → r_bit e.r_preference ≡ t → Formed (aggregated w (run e es))
    go true r = rw (aggregated_rp w e es r) r
    go false r = rw (aggregated_source w e es r) r

pub joined_formed : (w : ℕ) (es : List AssertRecord) → Every Formed (joined w es)
unfolding joined
joined_formed w es = every_of_map Formed (aggregated w) (run_formed w) (runs together es)

pub joined_nonempty : (w : ℕ) (e : AssertRecord) (es : List AssertRecord)
    → (r : AggregatedRecord) × (rs : List AggregatedRecord) × (joined w (e ∷ es) ≡ r ∷ rs)
unfolding joined runs
joined_nonempty w e es =
    glue_elim together (λ x y. (r : AggregatedRecord) × (rs : List AggregatedRecord) × (map (aggregated w) y ≡ r ∷ rs)) e
    (λ x. (_, _, refl)) (λ b l x h. (_, _, refl)) (runs together es)
