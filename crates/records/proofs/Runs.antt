-- Laws of runs, for any test on two elements and any cost of a run.
--     runs_spread                 the elements of the runs, one after another, are the list
--     runs_every                  what holds of every element holds of every element of each run
--     Block, runs_block           the elements of a run all go with its first
--     join_run, runs_join          a block before a list becomes one run, joined to the list's first run where they go together
--     runs_one                    a block alone is one run
--     runs_first                  the first run of a list: its first element and all at the front of the rest that go with it
--     Cut, runs_cut               the runs of two lists and of the two lists joined: at most one run is cut in two
--     total, Parts, parts         what a cut does to the cost of one run it does to the cost of a list
--     runs_least                  the runs cost at most what any other blocks of the same list cost
-- Assumes nothing.
use Prim.Native.Nat.{ℕ, ◌+◌, ◌≤◌}
use native.Mathlib.Omega.{arith}
use mathlib.Core.Path.{◌≡◌, refl, sym, ap, ◌∙◌, transport}
use mathlib.Core.Bool.{Bool, true, false, cond}
use mathlib.Core.List.{List, [], ◌∷◌, ◌++◌, flat_map, append-nil}
use lib.ListN.{take, drop}
use Rattle.records.specs.Every.{Every}
use Rattle.records.specs.Runs.{Run, run, of_run, glue, runs, leading}

-- ---- what the laws speak of

-- a run whose elements all go with its first
unfoldable pub Block : {A : Type 0} → (A → A → Bool) → Run A → Type 0
Block same (run a l) = Every (λ b. same a b ≡ true) l

-- a run before runs: it joins the first if it goes with that one's first element
unfoldable pub join_run : {A : Type 0} → (A → A → Bool) → Run A → List (Run A) → List (Run A)
join_run same (run a l) [] = run a l ∷ []
join_run same (run a l) (run b m ∷ rs) = cond (same a b) (run a (l ++ b ∷ m) ∷ rs) (run a l ∷ run b m ∷ rs)

-- the third list is the first two, one after the other, save that the last run of the first and the first of the second may
-- have become one
pub data Cut {A : Type 0} : List (Run A) → List (Run A) → List (Run A) → Type 0 where
  between : {rs : List (Run A)} → Cut [] rs rs
  within : {a b : A} {l m : List A} {rs : List (Run A)} → Cut (run a l ∷ []) (run b m ∷ rs) (run a (l ++ b ∷ m) ∷ rs)
  after : {r : Run A} {ps qs rs : List (Run A)} → Cut ps qs rs → Cut (r ∷ ps) qs (r ∷ rs)

-- the cost of runs
unfoldable pub total : {A : Type 0} → (Run A → ℕ) → List (Run A) → ℕ
total c [] = 0
total c (r ∷ rs) = c r + total c rs

-- the whole costs at most its two parts and at least each of them, and the two cost at most d more than the whole
pub record Parts (d first second whole : ℕ) : Type 0 where
  pub joined : whole ≤ first + second
  pub front : first ≤ whole
  pub back : second ≤ whole
  pub cut : first + second ≤ whole + d

-- ---- runs, for any test

module _ {A : Type 0} (same : A → A → Bool) where
  -- an element before runs begins a run or joins the first
  pub glue_elim : (Q : List (Run A) → List (Run A) → Type 0) (a : A) → ((rs : List (Run A)) → Q rs (run a [] ∷ rs))
      → ((b : A) (l : List A) (rs : List (Run A)) → same a b ≡ true → Q (run b l ∷ rs) (run a (b ∷ l) ∷ rs))
      → (rs : List (Run A)) → Q rs (glue same a rs)
  unfolding glue
  glue_elim Q a begins joins [] = begins []
  glue_elim Q a begins joins (run b l ∷ rs) = go (same a b) refl
    where
      go : (t : Bool) → same a b ≡ t → Q (run b l ∷ rs) (cond t (run a (b ∷ l) ∷ rs) (run a [] ∷ run b l ∷ rs))
      go true e = joins b l rs e
      go false e = begins (run b l ∷ rs)

  pub runs_spread : (l : List A) → flat_map of_run (runs same l) ≡ l
  unfolding runs flat_map of_run
  runs_spread [] = refl
  runs_spread (a ∷ l) =
      glue_elim (λ rs x. flat_map of_run x ≡ a ∷ flat_map of_run rs) a (λ rs. refl) (λ b l rs e. refl) (runs same l)
      ∙ ap (λ (m : List A). a ∷ m) (runs_spread l)

  pub runs_every : (P : A → Type 0) (l : List A) → Every P l → Every (λ r. Every P (of_run r)) (runs same l)
  unfolding runs Every of_run
  runs_every P [] h = tt
  runs_every P (a ∷ l) h =
      glue_elim (λ rs x. Every (λ r. Every P (of_run r)) rs → Every (λ r. Every P (of_run r)) x) a
      (λ rs k. ((h.0, tt), k)) (λ b l rs e k. ((h.0, k.0), k.1)) (runs same l) (runs_every P l h.1)

  glue_cut : (a : A) {ps qs rs : List (Run A)} → Cut ps qs rs → Cut (glue same a ps) qs (glue same a rs)
  unfolding glue
  glue_cut a (between {rs = []}) = after between
  glue_cut a (between {rs = run b l ∷ rs}) =
      elim (same a b) as (λ t. Cut (run a [] ∷ []) (run b l ∷ rs) (cond t (run a (b ∷ l) ∷ rs) (run a [] ∷ run b l ∷ rs)))
      [ true ↦ within | false ↦ after between ]
  glue_cut a (within {a = b} {b = c} {l = l} {m = m} {rs = rs}) =
      elim (same a b)
      as (λ t. Cut (cond t (run a (b ∷ l) ∷ []) (run a [] ∷ run b l ∷ [])) (run c m ∷ rs)
      (cond t (run a (b ∷ l ++ c ∷ m) ∷ rs) (run a [] ∷ run b (l ++ c ∷ m) ∷ rs)))
      [ true ↦ within | false ↦ after within ]
  glue_cut a (after {r = run b l} {ps = ps} {qs = qs} {rs = rs} k) =
      elim (same a b)
      as (λ t. Cut (cond t (run a (b ∷ l) ∷ ps) (run a [] ∷ run b l ∷ ps)) qs
      (cond t (run a (b ∷ l) ∷ rs) (run a [] ∷ run b l ∷ rs)))
      [ true ↦ after k | false ↦ after (after k) ]

  pub runs_cut : (l m : List A) → Cut (runs same l) (runs same m) (runs same (l ++ m))
  unfolding runs
  runs_cut [] m = between
  runs_cut (a ∷ l) m = glue_cut a (runs_cut l m)

-- ---- runs by a test under which elements that go together go with the same elements

module _ {A : Type 0} (same : A → A → Bool) (cong : (a b : A) → same a b ≡ true → same a ≡ same b) where
  block_first : (a b : A) (l : List A) → same a b ≡ true → Block same (run a l) ≡ Block same (run b l)
  unfolding Block
  block_first a b l e = ap (λ (f : A → Bool). Every (λ c. f c ≡ true) l) (cong a b e)

  pub runs_block : (l : List A) → Every (Block same) (runs same l)
  unfolding runs Every Block
  runs_block [] = tt
  runs_block (a ∷ l) =
      glue_elim same (λ rs x. Every (Block same) rs → Every (Block same) x) a
      (λ rs k. (tt, k)) (λ b l rs e k. ((e, transport (sym (block_first a b l e)) k.0), k.1)) (runs same l) (runs_block l)

  glue_join : (a b : A) (l : List A) (rs : List (Run A)) → same a b ≡ true
      → glue same a (join_run same (run b l) rs) ≡ join_run same (run a (b ∷ l)) rs
  unfolding join_run glue
  glue_join a b l [] e = rw e
  glue_join a b l (run c m ∷ rs) e =
      rw (cong a b e)
      (elim (same b c)
      as (λ t. glue same a (cond t (run b (l ++ c ∷ m) ∷ rs) (run b l ∷ run c m ∷ rs))
      ≡ cond t (run a (b ∷ l ++ c ∷ m) ∷ rs) (run a (b ∷ l) ∷ run c m ∷ rs))
      [ true ↦ rw e | false ↦ rw e ])

  pub runs_join : (a : A) (l m : List A) → Block same (run a l) → runs same (a ∷ l ++ m) ≡ join_run same (run a l) (runs same m)
  unfolding runs Every Block join_run glue
  runs_join a [] m h = elim (runs same m) as (λ rs. glue same a rs ≡ join_run same (run a []) rs) [ [] ↦ refl | run b l ∷ rs ↦ refl ]
  runs_join a (b ∷ l) m h =
      ap (glue same a) (runs_join b l m (transport (block_first a b l h.0) h.1)) ∙ glue_join a b l (runs same m) h.0

  pub runs_one : (a : A) (l : List A) → Block same (run a l) → runs same (a ∷ l) ≡ run a l ∷ []
  unfolding runs join_run
  runs_one a l h = ap (λ (m : List A). runs same (a ∷ m)) (sym (append-nil l)) ∙ runs_join a l [] h

  pub runs_first : (a : A) (l : List A)
      → runs same (a ∷ l) ≡ run a (take (leading (same a) l) l) ∷ runs same (drop (leading (same a) l) l)
  unfolding runs glue leading
  runs_first a [] = refl
  runs_first a (b ∷ l) = go (same a b) refl (runs_first b l)
    where
      go : (t : Bool) → same a b ≡ t → runs same (b ∷ l) ≡ run b (take (leading (same b) l) l) ∷ runs same (drop (leading (same b) l) l)
          → runs same (a ∷ b ∷ l) ≡ run a (take (leading (same a) (b ∷ l)) (b ∷ l)) ∷ runs same (drop (leading (same a) (b ∷ l)) (b ∷ l))
      go true e ih = rw (ih, e, ← cong a b e)
      go false e ih = rw (e, ih, e)

  -- ---- the cost of runs

  module _ (c : Run A → ℕ) (d : ℕ)
      (law : (a b : A) (l m : List A) → Block same (run a (l ++ b ∷ m)) → Parts d (c (run a l)) (c (run b m)) (c (run a (l ++ b ∷ m)))) where
    cut_parts : {ps qs rs : List (Run A)} → Cut ps qs rs → Every (Block same) rs → Parts d (total c ps) (total c qs) (total c rs)
    unfolding total Every
    cut_parts between h = omega arith
    cut_parts (within {a = a} {b = b} {l = l} {m = m}) h = let k = law a b l m h.0 in omega arith
    cut_parts (after k) h = let ih = cut_parts k h.1 in omega arith

    pub parts : (l m : List A) → Parts d (total c (runs same l)) (total c (runs same m)) (total c (runs same (l ++ m)))
    parts l m = cut_parts (runs_cut same l m) (runs_block (l ++ m))

    pub runs_least : (rs : List (Run A)) → Every (Block same) rs → total c (runs same (flat_map of_run rs)) ≤ total c rs
    unfolding total Every flat_map of_run runs
    runs_least [] h = omega arith
    runs_least (run a l ∷ rs) h =
        omega (arith, parts (a ∷ l) (flat_map of_run rs), ap (total c) (runs_one a l h.0), runs_least rs h.1)
