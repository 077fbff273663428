-- What the calls keep: a valid table stays valid; forgetting a new neighbour undoes hearing it; every valid table is reached by hearing.
--     valid_of, used_of             the table of rows that a sheet may hold is valid, and they are its rows in use
--     has_entered, entered_sheet    a row that is allowed, entered
--     without_sheet                 an address forgotten
--     refused_14, refused_other     a table that is not valid is refused by every call, and so is an address of another family
--     hearing_sound, forgetting_sound       a valid table stays valid
--     has_after, sheet_after        a new row after the others
--     forgets_new                   forgetting after hearing a new address gives the table back
--     sheet_middle                  a row among others
--     reached                       a table of valid rows is reached from the empty one
-- Assumes nothing.
use mathlib.Core.Path.{◌≡◌, refl, sym, ap, subst, ◌∙◌}
use mathlib.Core.Bool.{Bool, true, false, cond, not, ◌&&◌, ◌||◌}
use mathlib.Core.List.{List, [], ◌∷◌, ◌++◌, append-nil}
use Prim.Native.Nat.{ℕ, zero, suc, ◌+◌, ◌-◌, ◌≤◌, ◌<◌}
use native.Mathlib.Omega.{arith}
use borrow.Author.Tests.{le-leb, lt-leb, leb-false, eqb-true, eqb-false, eq-eqb, ne_eqb, not-true}
use lib.Dec.{eqb, leb}
use lib.ListN.{length, replicate, length-append, length-replicate}
use lib.Seq.{append_snoc, take-append_seam, drop-append_seam}
use Rattle.format.specs.Outcome.{Outcome, gives, refuses, refuse_if, ◌>>◌}
use Rattle.format.specs.Family.{Family}
use Rattle.format.specs.Path.{number_of}
use Rattle.format.specs.declared.Address.{Address}
use Rattle.addresses.specs.Addresses.{in_family}
use Rattle.hello.specs.declared.Hello.{Hello}
use Rattle.neighbours.specs.declared.Neighbour.{Neighbour}
use Rattle.neighbours.specs.declared.Table.{Table}
use Rattle.neighbours.specs.Rows.{address_of, most, no_row, is_zero, all_zero, allowed, has, sheet_rows, used, valid, table_of}
use Rattle.neighbours.specs.Hearing.{row_of, entered, without, After, after, replaced, appended, forgotten, asked, entering, leaving, hearing, forgetting}
use Rattle.neighbours.specs.Election.{may_pack, electing}
use Rattle.neighbours.specs.Answers.{table_after}
use Rattle.neighbours.specs.Reached.{Sound, said_of, heard_all}
use Rattle.neighbours.proofs.Tables.{never, and_true, valid_parts, ask_other, ask_fine}
use Rattle.neighbours.proofs.Changes.{long, valid_table}

-- ---- tables of rows

zeros : (k : ℕ) → all_zero (replicate k no_row) ≡ true
unfolding all_zero is_zero no_row
zeros zero = refl
zeros (suc k) = zeros k

module _ (l : List Neighbour) where
  pub used_of : used (table_of l) ≡ l
  unfolding table_of
  used_of = take-append_seam l (replicate (most - length l) no_row)

  pub full_of : length l ≤ most → length (table_of l).rows ≡ most
  unfolding table_of
  full_of h = length-append l (replicate (most - length l) no_row) ∙ (rw (length-replicate (most - length l) no_row) (omega arith))

  pub valid_of : (f : Family) → length l ≤ most → sheet_rows f l ≡ true → valid f (table_of l) ≡ true
  unfolding valid table_of
  valid_of f h e =
      rw (le-leb (length l) most h, take-append_seam l (replicate (most - length l) no_row), e, drop-append_seam l (replicate (most - length l) no_row))
      (zeros (most - length l))

-- ---- a row entered

not_false : {b : Bool} → b ≡ false → not b ≡ true
not_false e = rw e

both : {a b : Bool} → a ≡ true → b ≡ true → (a && b) ≡ true
both e f = rw (e, f)

record Sheet (f : Family) (n : Neighbour) (l : List Neighbour) : Type 0 where
  fit : allowed f n ≡ true
  once : has (address_of n) l ≡ false
  others : sheet_rows f l ≡ true

sheet_parts : (f : Family) (n : Neighbour) (l : List Neighbour) → sheet_rows f (n ∷ l) ≡ true → Sheet f n l
unfolding sheet_rows
sheet_parts f n l e =
    let p = and_true _ _ e in
    let q = and_true _ _ p.0 in
    record { fit = q.0; once = not-true _ q.1; others = p.1 }

sheet_join : (f : Family) (n : Neighbour) (l : List Neighbour) → Sheet f n l → sheet_rows f (n ∷ l) ≡ true
unfolding sheet_rows
sheet_join f n l s = both (both s.fit (not_false s.once)) s.others

or_comm_3 : (a b c : Bool) → (a || (b || c)) ≡ (b || (a || c))
or_comm_3 true true c = refl
or_comm_3 true false c = refl
or_comm_3 false b c = refl

or_twice : (a c : Bool) → (a || (a || c)) ≡ (a || c)
or_twice true c = refl
or_twice false c = refl

pub has_entered : (a : ℕ) (n : Neighbour) (l : List Neighbour) → has a (entered n l) ≡ (eqb (address_of n) a || has a l)
unfolding has entered
has_entered a n [] = refl
has_entered a n (m ∷ l) = go (eqb (address_of m) (address_of n)) refl (has_entered a n l)
  where
    go : (b : Bool) → eqb (address_of m) (address_of n) ≡ b → has a (entered n l) ≡ (eqb (address_of n) a || has a l)
        → has a (cond b (n ∷ l) (m ∷ entered n l)) ≡ (eqb (address_of n) a || (eqb (address_of m) a || has a l))
    go true e h = rw (eqb-true (address_of m) (address_of n) e) (sym (or_twice (eqb (address_of n) a) (has a l)))
    go false e h = rw h (or_comm_3 (eqb (address_of m) a) (eqb (address_of n) a) (has a l))

pub entered_sheet : (f : Family) (n : Neighbour) (l : List Neighbour) → allowed f n ≡ true → sheet_rows f l ≡ true → sheet_rows f (entered n l) ≡ true
unfolding entered has
entered_sheet f n [] e s = sheet_join f n [] (record { fit = e; once = refl; others = s })
entered_sheet f n (m ∷ l) e s = go (eqb (address_of m) (address_of n)) refl (sheet_parts f m l s) (entered_sheet f n l e)
  where
    go : (b : Bool) → eqb (address_of m) (address_of n) ≡ b → Sheet f m l → (sheet_rows f l ≡ true → sheet_rows f (entered n l) ≡ true) → sheet_rows f (cond b (n ∷ l) (m ∷ entered n l)) ≡ true
    go true q p k = sheet_join f n l (record { fit = e; once = rw (← eqb-true (address_of m) (address_of n) q) p.once; others = p.others })
    go false q p k = sheet_join f m (entered n l) (record { fit = p.fit; once = has_entered (address_of m) n l ∙ (rw (ne_eqb (address_of n) (address_of m) (λ x. eqb-false _ _ q (sym x)), p.once)); others = k p.others })

entered_length : (n : Neighbour) (l : List Neighbour) → length (entered n l) ≡ cond (has (address_of n) l) (length l) (length l + 1)
unfolding entered has
entered_length n [] = refl
entered_length n (m ∷ l) = go (eqb (address_of m) (address_of n)) (has (address_of n) l) refl (entered_length n l)
  where
    go : (b c : Bool) → has (address_of n) l ≡ c → length (entered n l) ≡ cond (has (address_of n) l) (length l) (length l + 1)
        → length (cond b (n ∷ l) (m ∷ entered n l)) ≡ cond (b || c) (suc (length l)) (suc (length l) + 1)
    go true c q h = refl
    go false true q h = rw (h, q)
    go false false q h = rw (h, q) (omega arith)

-- ---- an address forgotten

without_has : (a b : ℕ) (l : List Neighbour) → has b l ≡ false → has b (without a l) ≡ false
unfolding has without
without_has a b [] e = refl
without_has a b (m ∷ l) e = go (eqb (address_of m) a) (eqb (address_of m) b) refl e (without_has a b l)
  where
    go : (x y : Bool) → eqb (address_of m) b ≡ y → (y || has b l) ≡ false → (has b l ≡ false → has b (without a l) ≡ false) → has b (cond x l (m ∷ without a l)) ≡ false
    go x true q f k = never f
    go true false q f k = f
    go false false q f k = rw (q) (k f)

pub without_sheet : (f : Family) (a : ℕ) (l : List Neighbour) → sheet_rows f l ≡ true → sheet_rows f (without a l) ≡ true
unfolding without
without_sheet f a [] s = s
without_sheet f a (m ∷ l) s = go (eqb (address_of m) a) (sheet_parts f m l s) (without_sheet f a l)
  where
    go : (b : Bool) → Sheet f m l → (sheet_rows f l ≡ true → sheet_rows f (without a l) ≡ true) → sheet_rows f (cond b l (m ∷ without a l)) ≡ true
    go true p k = p.others
    go false p k = sheet_join f m (without a l) (record { fit = p.fit; once = without_has a (address_of m) l p.once; others = k p.others })

without_length : (a : ℕ) (l : List Neighbour) → length (without a l) ≤ length l
unfolding without
without_length a [] = omega arith
without_length a (m ∷ l) = go (eqb (address_of m) a) (without_length a l)
  where
    go : (b : Bool) → length (without a l) ≤ length l → length (cond b l (m ∷ without a l)) ≤ suc (length l)
    go true h = omega arith
    go false h = omega arith

-- ---- the calls

-- the rows that a call gives are rows that a table may have
abbrev Keeps : Family → Outcome After → Type 0
Keeps f (gives (after d l)) = (length l ≤ most) × (sheet_rows f l ≡ true)
Keeps f (refuses n p) = Unit {0}

keeps_sound : (f : Family) (t : Table) (o : Outcome After) → Sound f t → Keeps f o → Sound f (table_after t o)
unfolding table_after
keeps_sound f t (gives (after d l)) s k = record { full = full_of l k.0; ok = valid_of l f k.0 k.1 }
keeps_sound f t (refuses n p) s k = s

keeps_then : (f : Family) (x : Outcome (Unit {0})) (o : Outcome After) → Keeps f o → Keeps f (x >> o)
unfolding ◌>>◌
keeps_then f (gives u) o k = k
keeps_then f (refuses n p) o k = tt

leaving_keeps : (f : Family) (a : ℕ) (l : List Neighbour) → length l ≤ most → sheet_rows f l ≡ true → Keeps f (leaving a l)
unfolding leaving
leaving_keeps f a l h s =
    keeps_then f (refuse_if (not (has a l)) 12 0) (gives (after forgotten (without a l)))
    (let k = without_length a l in omega arith, without_sheet f a l s)

entering_keeps : (f : Family) (n : Neighbour) (l : List Neighbour) → length l ≤ most → sheet_rows f l ≡ true → allowed f n ≡ true → Keeps f (entering n l)
unfolding entering refuse_if ◌>>◌
entering_keeps f n l h s e = go (has (address_of n) l) refl (leb most (length l)) refl
  where
    go : (b : Bool) → has (address_of n) l ≡ b → (c : Bool) → leb most (length l) ≡ c
        → Keeps f (cond b (gives (after replaced (entered n l))) (refuse_if c 11 0 >> gives (after appended (entered n l))))
    go true q c r = (let m : length (entered n l) ≡ length l = entered_length n l ∙ (rw q) in omega arith, entered_sheet f n l e s)
    go false q true r = tt
    go false q false r = (
      let m : length (entered n l) ≡ length l + 1 = entered_length n l ∙ (rw q) in
          let w = leb-false most (length l) r in
          omega arith,
      entered_sheet f n l e s,
    )

row_allowed : (f : Family) (a : Address) (h : Hello) → in_family f (number_of a) ≡ true → eqb (number_of a) 0 ≡ false → eqb h.holdtime 0 ≡ false → allowed f (row_of a h) ≡ true
unfolding allowed row_of
row_allowed f a h g e z = rw (g, e, z) (go h.has_priority)
  where
    go : (b : Bool) → (b || eqb (cond b h.priority 0) 0) ≡ true
    go true = refl
    go false = refl

module _ (f : Family) (t : Table) (s : Sound f t) (a : Address) where
  rows_fit : length (used t) ≤ most
  rows_fit = let v = valid_parts f t s.ok in omega (arith, long t s.full v, v.within)

  rows_sheet : sheet_rows f (used t) ≡ true
  rows_sheet = (valid_parts f t s.ok).sheet

  pub hearing_sound : (h : Hello) → Sound f (table_after t (hearing f t a h))
  unfolding hearing asked refuse_if ◌>>◌
  hearing_sound h = keeps_sound f t (hearing f t a h) s (go (in_family f (number_of a)) refl (eqb (number_of a) 0) refl (eqb h.holdtime 0) refl)
    where
      go : (i : Bool) → in_family f (number_of a) ≡ i → (b : Bool) → eqb (number_of a) 0 ≡ b → (c : Bool) → eqb h.holdtime 0 ≡ c
          → Keeps f (refuse_if (not (valid f t && i)) 14 0 >> refuse_if b 7 0 >> cond c (leaving (number_of a) (used t)) (entering (row_of a h) (used t)))
      go false g b e c z = rw s.ok tt
      go true g true e c z = rw s.ok tt
      go true g false e true z = rw s.ok (leaving_keeps f (number_of a) (used t) rows_fit rows_sheet)
      go true g false e false z = rw s.ok (entering_keeps f (row_of a h) (used t) rows_fit rows_sheet (row_allowed f a h g e z))

  pub forgetting_sound : Sound f (table_after t (forgetting f t a))
  unfolding forgetting
  forgetting_sound = keeps_sound f t (forgetting f t a) s (keeps_then f (asked f t a) (leaving (number_of a) (used t)) (leaving_keeps f (number_of a) (used t) rows_fit rows_sheet))

-- ---- a table that is not valid

-- a table with too many rows, "rows that a sheet may not hold, or unused rows not 0": 14, before anything else is looked at
pub record Refused14 (f : Family) (t : Table) : Type 0 where
  pub of_hearing : (a : Address) (h : Hello) → hearing f t a h ≡ refuses 14 0
  pub of_forgetting : (a : Address) → forgetting f t a ≡ refuses 14 0
  pub of_packing : may_pack f t ≡ refuses 14 0
  pub of_electing : (a : Address) (p : ℕ) → electing f t a p ≡ refuses 14 0

pub refused_14 : (f : Family) (t : Table) → valid f t ≡ false → Refused14 f t
unfolding hearing forgetting may_pack electing asked refuse_if ◌>>◌
refused_14 f t e = record { of_hearing = λ a h. rw e; of_forgetting = λ a. rw e; of_packing = rw e; of_electing = λ a p. rw e }

-- "an address that is none of that family": 14 too, whatever the table, and before 7
pub record RefusedOther (f : Family) (t : Table) (a : Address) : Type 0 where
  pub of_hearing : (h : Hello) → hearing f t a h ≡ refuses 14 0
  pub of_forgetting : forgetting f t a ≡ refuses 14 0
  pub of_electing : (p : ℕ) → electing f t a p ≡ refuses 14 0

pub refused_other : (f : Family) (t : Table) (a : Address) → in_family f (number_of a) ≡ false → RefusedOther f t a
unfolding hearing forgetting electing ◌>>◌
refused_other f t a e = record { of_hearing = λ h. rw (ask_other f t a e); of_forgetting = rw (ask_other f t a e); of_electing = λ p. rw (ask_other f t a e) }

-- ---- a new neighbour

-- an address that stands among no rows but the last
entered_last : (n : Neighbour) (l : List Neighbour) → has (address_of n) l ≡ false → entered n l ≡ l ++ (n ∷ [])
unfolding entered has
entered_last n [] e = refl
entered_last n (m ∷ l) e = go (eqb (address_of m) (address_of n)) e (entered_last n l)
  where
    go : (b : Bool) → (b || has (address_of n) l) ≡ false → (has (address_of n) l ≡ false → entered n l ≡ l ++ (n ∷ [])) → cond b (n ∷ l) (m ∷ entered n l) ≡ m ∷ (l ++ (n ∷ []))
    go true f k = never f
    go false f k = ap (λ x. m ∷ x) (k f)

without_last : (n : Neighbour) (l : List Neighbour) → has (address_of n) l ≡ false → without (address_of n) (l ++ (n ∷ [])) ≡ l
unfolding without has
without_last n [] e = rw (eq-eqb (address_of n) (address_of n) refl)
without_last n (m ∷ l) e = go (eqb (address_of m) (address_of n)) e (without_last n l)
  where
    go : (b : Bool) → (b || has (address_of n) l) ≡ false → (has (address_of n) l ≡ false → without (address_of n) (l ++ (n ∷ [])) ≡ l)
        → cond b (l ++ (n ∷ [])) (m ∷ without (address_of n) (l ++ (n ∷ []))) ≡ m ∷ l
    go true f k = never f
    go false f k = ap (λ x. m ∷ x) (k f)

pub has_after : (a : ℕ) (n : Neighbour) (l : List Neighbour) → has a (l ++ (n ∷ [])) ≡ (eqb (address_of n) a || has a l)
unfolding has
has_after a n [] = refl
has_after a n (m ∷ l) = rw (has_after a n l) (or_comm_3 (eqb (address_of m) a) (eqb (address_of n) a) (has a l))

pub sheet_after : (f : Family) (n : Neighbour) (l : List Neighbour) → allowed f n ≡ true → has (address_of n) l ≡ false → sheet_rows f l ≡ true → sheet_rows f (l ++ (n ∷ [])) ≡ true
sheet_after f n l e h s = rw (← entered_last n l h) (entered_sheet f n l e s)

forgets_last : (f : Family) (n : Neighbour) (l : List Neighbour) → valid f (table_of (l ++ (n ∷ []))) ≡ true → in_family f (address_of n) ≡ true → eqb (address_of n) 0 ≡ false → has (address_of n) l ≡ false
    → table_after (table_of (l ++ (n ∷ []))) (forgetting f (table_of (l ++ (n ∷ []))) n.address) ≡ table_of l
unfolding forgetting leaving refuse_if ◌>>◌ table_after
forgets_last f n l ok ours some new = rw (ask_fine f (table_of (l ++ (n ∷ []))) n.address ok ours some, used_of (l ++ (n ∷ [])), has_after (address_of n) n l, eq-eqb (address_of n) (address_of n) refl, without_last n l new)

module _ (f : Family) (t : Table) (s : Sound f t) (a : Address) (h : Hello) (ours : in_family f (number_of a) ≡ true) (some : number_of a ≡ 0 → ⊥) (stays : h.holdtime ≡ 0 → ⊥) (new : has (number_of a) (used t) ≡ false) (room : t.count < most) where
  pub hearing_new : hearing f t a h ≡ gives (after appended (used t ++ (row_of a h ∷ [])))
  unfolding hearing entering row_of refuse_if ◌>>◌
  hearing_new =
      let m : length (used t) < most = let v = valid_parts f t s.ok in omega (arith, long t s.full v) in
      rw (ask_fine f t a s.ok ours (ne_eqb (number_of a) 0 some), ne_eqb h.holdtime 0 stays, new, lt-leb most (length (used t)) m) (ap (λ l. gives (after appended l)) (entered_last (row_of a h) (used t) new))

  heard_is : table_after t (hearing f t a h) ≡ table_of (used t ++ (row_of a h ∷ []))
  unfolding table_after
  heard_is = rw hearing_new

  -- forgetting after hearing a new address gives the table back
  pub forgets_new : table_after (table_after t (hearing f t a h)) (forgetting f (table_after t (hearing f t a h)) a) ≡ t
  unfolding row_of
  forgets_new =
      let ok : valid f (table_of (used t ++ (row_of a h ∷ []))) ≡ true = subst (λ u. valid f u ≡ true) heard_is (hearing_sound f t s a h).ok in
      rw heard_is (forgets_last f (row_of a h) (used t) ok ours (ne_eqb (number_of a) 0 some) new) ∙ sym (valid_table t s.full (valid_parts f t s.ok))

-- ---- every valid table is reached

record Fits (f : Family) (n : Neighbour) : Type 0 where
  ours : in_family f (address_of n) ≡ true
  some : address_of n ≡ 0 → ⊥
  stays : n.holdtime ≡ 0 → ⊥
  none : (n.has_priority || eqb n.priority 0) ≡ true

not_zero : (x : ℕ) → not (eqb x 0) ≡ true → x ≡ 0 → ⊥
not_zero x e f = never (sym (rw (eq-eqb x 0 f) at e))

allowed_parts : (f : Family) (n : Neighbour) → allowed f n ≡ true → Fits f n
unfolding allowed
allowed_parts f n e =
    let o = and_true (in_family f (address_of n)) (not (eqb (address_of n) 0) && (not (eqb n.holdtime 0) && (n.has_priority || eqb n.priority 0))) e in
    let p = and_true (not (eqb (address_of n) 0)) (not (eqb n.holdtime 0) && (n.has_priority || eqb n.priority 0)) o.1 in
    let q = and_true (not (eqb n.holdtime 0)) (n.has_priority || eqb n.priority 0) p.1 in
    record { ours = o.0; some = not_zero (address_of n) p.0; stays = not_zero n.holdtime q.0; none = q.1 }

row_back : (f : Family) (n : Neighbour) → allowed f n ≡ true → row_of n.address (said_of n) ≡ n
unfolding row_of said_of
row_back f n e =
    let q = go n.has_priority (allowed_parts f n e).none in
    λ i. record { address = n.address; priority = q i; has_priority = n.has_priority; packs = n.packs; holdtime = n.holdtime }
  where
    go : (b : Bool) → (b || eqb n.priority 0) ≡ true → cond b n.priority 0 ≡ n.priority
    go true f = refl
    go false f = sym (eqb-true n.priority 0 f)

has_front : (a : ℕ) (k l : List Neighbour) → has a (k ++ l) ≡ false → has a k ≡ false
unfolding has
has_front a [] l e = refl
has_front a (m ∷ k) l e = go (eqb (address_of m) a) e (has_front a k l)
  where
    go : (b : Bool) → (b || has a (k ++ l)) ≡ false → (has a (k ++ l) ≡ false → has a k ≡ false) → (b || has a k) ≡ false
    go true f q = never f
    go false f q = q f

has_middle : (a : ℕ) (k : List Neighbour) (n : Neighbour) (l : List Neighbour) → has a (k ++ n ∷ l) ≡ false → address_of n ≡ a → ⊥
unfolding has
has_middle a [] n l e f = never (rw (eq-eqb (address_of n) a f) at e)
has_middle a (m ∷ k) n l e f = go (eqb (address_of m) a) e (λ q. has_middle a k n l q f)
  where
    go : (b : Bool) → (b || has a (k ++ n ∷ l)) ≡ false → (has a (k ++ n ∷ l) ≡ false → ⊥) → ⊥
    go true q g = never q
    go false q g = g q

sheet_front : (f : Family) (k l : List Neighbour) → sheet_rows f (k ++ l) ≡ true → sheet_rows f k ≡ true
unfolding sheet_rows
sheet_front f [] l e = refl
sheet_front f (m ∷ k) l e =
    let p = sheet_parts f m (k ++ l) e in
    sheet_join f m k (record { fit = p.fit; once = has_front (address_of m) k l p.once; others = sheet_front f k l p.others })

-- a row among others: it is allowed, and its address does not stand before it
pub sheet_middle : (f : Family) (k : List Neighbour) (n : Neighbour) (l : List Neighbour) → sheet_rows f (k ++ n ∷ l) ≡ true → (allowed f n ≡ true) × (has (address_of n) k ≡ false)
unfolding has
sheet_middle f [] n l e = ((sheet_parts f n l e).fit, refl)
sheet_middle f (m ∷ k) n l e =
    let p = sheet_parts f m (k ++ n ∷ l) e in
    let q = sheet_middle f k n l p.others in
    (q.0, rw (ne_eqb (address_of m) (address_of n) (λ f. has_middle (address_of m) k n l p.once (sym f)), q.1))

count_of : (k : List Neighbour) → length k < most → (table_of k).count < most
unfolding table_of
count_of k h = h

heard_next : (f : Family) (k : List Neighbour) (n : Neighbour) (l : List Neighbour) → sheet_rows f (k ++ n ∷ l) ≡ true → length (k ++ n ∷ l) ≤ most
    → table_after (table_of k) (hearing f (table_of k) n.address (said_of n)) ≡ table_of (k ++ (n ∷ []))
unfolding said_of
heard_next f k n l e h =
    let m = sheet_middle f k n l e in
    let p = allowed_parts f n m.0 in
    let w : length k < most = let q = length-append k (n ∷ l) in omega arith in
    let s : Sound f (table_of k) = record { full = full_of k (omega arith); ok = valid_of k f (omega arith) (sheet_front f k (n ∷ l) e) } in
    rw (used_of k, row_back f n m.0) at (heard_is f (table_of k) s n.address (said_of n) p.ours p.some p.stays (rw (used_of k) m.1) (count_of k w))

heard_on : (f : Family) (k l : List Neighbour) → sheet_rows f (k ++ l) ≡ true → length (k ++ l) ≤ most → heard_all f (table_of k) l ≡ table_of (k ++ l)
unfolding heard_all
heard_on f k [] e h = rw (append-nil k)
heard_on f k (n ∷ l) e h =
    rw (heard_next f k n l e h)
    (heard_on f (k ++ (n ∷ [])) l (rw (append_snoc k n l) e) (rw (append_snoc k n l) h) ∙ ap table_of (append_snoc k n l))

pub reached : (f : Family) (t : Table) → Sound f t → heard_all f (table_of []) (used t) ≡ t
reached f t s =
    let v = valid_parts f t s.ok in
    heard_on f [] (used t) v.sheet (omega (arith, long t s.full v, v.within)) ∙ sym (valid_table t s.full v)
