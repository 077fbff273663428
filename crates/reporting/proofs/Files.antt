-- Laws of files.
--     file_next, file_end      a file by its first message, and where none stands whole
--     Along, along_start, along_next, along_end   the invariant of the loop over a file
--     file_append              files one after another
--     file_piece, file_made, file_cut   messages with their lengths before them, and the start of one
--     left_short, left_within, left_drop, left_few, file_joins   what is left, and that nothing is lost
-- Assumes nothing.
use Prim.Native.Nat.{ℕ, zero, suc, ◌+◌, ◌-◌, ◌≤◌, ◌<◌, ◌^◌}
use native.Mathlib.Omega.{arith}
use mathlib.Core.Path.{◌≡◌, refl, sym, ap, subst, ◌∙◌}
use mathlib.Core.Bool.{Bool, true, false, cond}
use mathlib.Core.List.{List, [], ◌∷◌, ◌++◌, foldl, append_assoc}
use borrow.Author.Tests.{leb-true, leb-false, le-leb, lt-leb}
use lib.ListN.{length, take, drop, length-drop, length-append, length-take, take-append-drop}
use lib.Seq.{length-take-le, take-append-le, drop-append-le, take-append_seam, drop-append_seam, take-take, drop-drop, take_at, drop_at}
use native.Mathlib.Nat.{sub_self, pow-le-pow_right}
use lib.Dec.{leb}
use Rattle.octets.specs.Octets.{Octets, number_at, value, be}
use Rattle.octets.proofs.Laws.{octets_take, octets_drop, length_be, value_be, value_lt, part_octets}
use Rattle.records.specs.Every.{Every}
use Rattle.format.specs.Record.{each}
use Rattle.reporting.specs.declared.Tally.{Tally}
use Rattle.reporting.specs.Tallies.{tallied}
use Rattle.reporting.specs.Report.{taken_from}
use Rattle.reporting.specs.File.{File, none, before, length_of, split, file_of, piece_of}

split_enough : (k k' : ℕ) (o : List ℕ) → length o ≤ k → length o ≤ k' → split k o ≡ split k' o
unfolding split length_of none number_at value
split_enough zero zero o h h' = refl
split_enough zero (suc k') [] h h' = refl
split_enough zero (suc k') (x ∷ o) h h' = absurd (omega arith)
split_enough (suc k) zero [] h h' = refl
split_enough (suc k) zero (x ∷ o) h h' = absurd (omega arith)
split_enough (suc k) (suc k') o h h' = go (leb (2 + length_of o) (length o)) refl (split_enough k k' (drop (2 + length_of o) o))
  where
    left : length (drop (2 + length_of o) o) ≡ length o - (2 + length_of o)
    left = length-drop (2 + length_of o) o

    go : (b : Bool) → leb (2 + length_of o) (length o) ≡ b
        → (length (drop (2 + length_of o) o) ≤ k → length (drop (2 + length_of o) o) ≤ k' → split k (drop (2 + length_of o) o) ≡ split k' (drop (2 + length_of o) o))
        → cond b (before (take (length_of o) (drop 2 o)) (split k (drop (2 + length_of o) o))) (none o)
        ≡ cond b (before (take (length_of o) (drop 2 o)) (split k' (drop (2 + length_of o) o))) (none o)
    go true t again =
        let fits : 2 + length_of o ≤ length o = leb-true (2 + length_of o) (length o) t in
        ap (before (take (length_of o) (drop 2 o))) (again (omega (arith, left)) (omega (arith, left)))
    go false t again = refl

pub file_next : (o : List ℕ) → 2 + length_of o ≤ length o → file_of o ≡ before (take (length_of o) (drop 2 o)) (file_of (drop (2 + length_of o) o))
unfolding split file_of
file_next [] fits = absurd (omega arith)
file_next (x ∷ o) fits = rw (le-leb (2 + length_of (x ∷ o)) (length (x ∷ o)) fits)
    (ap (before (take (length_of (x ∷ o)) (drop 2 (x ∷ o))))
    (split_enough (length o) (length (drop (2 + length_of (x ∷ o)) (x ∷ o))) (drop (2 + length_of (x ∷ o)) (x ∷ o)) (omega (arith, length-drop (2 + length_of (x ∷ o)) (x ∷ o))) (omega arith)))

pub file_end : (o : List ℕ) → length o < 2 + length_of o → file_of o ≡ none o
unfolding split file_of length_of none number_at value
file_end [] short = refl
file_end (x ∷ o) short = rw (lt-leb (2 + length_of (x ∷ o)) (length (x ∷ o)) short) refl

-- ---- the loop over a file

-- what is left from a place on gives what all of it gives
pub record Along (t : Tally) (o : List ℕ) (tally : Tally) (at : ℕ) : Type 0 where
  pub within : at ≤ length o
  pub folds : foldl tallied tally (file_of (drop at o)).messages ≡ foldl tallied t (file_of o).messages
  pub leaves : (file_of (drop at o)).left ≡ (file_of o).left

pub along_start : (t : Tally) (o : List ℕ) → Along t o t 0
along_start t o = record { within = omega arith; folds = refl; leaves = refl }

module _ (t : Tally) (o : List ℕ) (tally : Tally) (at : ℕ) (a : Along t o tally at) where
  left_long : length (drop at o) ≡ length o - at
  left_long = length-drop at o

  pub along_end : length o < at + 2 + number_at 2 o at → record { tally = tally; used = at } ≡ taken_from t o
  unfolding taken_from length_of none number_at
  along_end short =
      let e : file_of (drop at o) ≡ none (drop at o) = file_end (drop at o) (omega (arith, short, left_long)) in
      let f : tally ≡ foldl tallied t (file_of o).messages = sym (ap (λ (x : File). foldl tallied tally x.messages) e) ∙ a.folds in
      let l : length (file_of o).left ≡ length o - at = ap length (sym a.leaves ∙ ap (λ (x : File). x.left) e) ∙ left_long in
      λ i. record { tally = f i; used = u l i }
    where
      u : length (file_of o).left ≡ length o - at → at ≡ length o - length (file_of o).left
      u l = omega (arith, l, a.within)

  pub along_next : {n end : ℕ} {next : Tally} → n ≡ number_at 2 o at → end ≡ at + 2 + n → end ≤ length o → next ≡ tallied tally (take (end - (at + 2)) (drop (at + 2) o)) → Along t o next end
  unfolding length_of before number_at
  along_next {n} {end} {next} value place room told =
      let f : file_of (drop at o) ≡ before (take n (drop 2 (drop at o))) (file_of (drop (2 + n) (drop at o))) =
      file_next (drop at o) (omega (arith, value, place, room, left_long)) ∙ ap (λ (k : ℕ). before (take k (drop 2 (drop at o))) (file_of (drop (2 + k) (drop at o)))) (sym value) in
      let s : at + (2 + n) ≡ end = omega (arith, place) in
      let z : n ≡ end - (at + 2) = omega (arith, place) in
      let d : drop (2 + n) (drop at o) ≡ drop end o = drop-drop (2 + n) at o ∙ ap (λ (k : ℕ). drop k o) s in
      let m : take n (drop 2 (drop at o)) ≡ take (end - (at + 2)) (drop (at + 2) o) = ap (take n) (drop-drop 2 at o) ∙ ap (λ (k : ℕ). take k (drop (at + 2) o)) z in
      record {
        within = room;
        folds = ap (λ (x : Tally). foldl tallied x (file_of (drop end o)).messages) (told ∙ ap (tallied tally) (sym m))
            ∙ ap (λ (x : List ℕ). foldl tallied (tallied tally (take n (drop 2 (drop at o)))) (file_of x).messages) (sym d)
            ∙ sym (ap (λ (x : File). foldl tallied tally x.messages) f)
            ∙ a.folds;
        leaves = ap (λ (x : List ℕ). (file_of x).left) (sym d) ∙ sym (ap (λ (x : File). x.left) f) ∙ a.leaves;
      }

-- ---- files one after another

is_file : (f : List ℕ) → split (length f) f ≡ file_of f
unfolding file_of
is_file f = refl

same_length : (f g : List ℕ) → 2 ≤ length f → length_of (f ++ g) ≡ length_of f
unfolding length_of number_at
same_length f g h = ap value (take-append-le 2 f g h)

-- what is left of the first stands before the second
abbrev pub follow : File → List ℕ → File
follow f g = record { messages = f.messages ++ (file_of (f.left ++ g)).messages; left = (file_of (f.left ++ g)).left }

split_append : (k : ℕ) (f g : List ℕ) → file_of (f ++ g) ≡ follow (split k f) g
unfolding split none before
split_append zero f g = refl
split_append (suc k) f g = go (leb (2 + length_of f) (length f)) refl (split_append k (drop (2 + length_of f) f) g)
  where
    go : (b : Bool) → leb (2 + length_of f) (length f) ≡ b → file_of (drop (2 + length_of f) f ++ g) ≡ follow (split k (drop (2 + length_of f) f)) g
        → file_of (f ++ g) ≡ follow (cond b (before (take (length_of f) (drop 2 f)) (split k (drop (2 + length_of f) f))) (none f)) g
    go true t again =
        let fits : 2 + length_of f ≤ length f = leb-true (2 + length_of f) (length f) t in
        let n = length_of f in
        let e : length_of (f ++ g) ≡ n = same_length f g (omega arith) in
        let long : length (f ++ g) ≡ length f + length g = length-append f g in
        let m : take n (drop 2 (f ++ g)) ≡ take n (drop 2 f) = ap (take n) (drop-append-le 2 f g (omega arith)) ∙ take-append-le n (drop 2 f) g (omega (arith, length-drop 2 f)) in
        let d : drop (2 + n) (f ++ g) ≡ drop (2 + n) f ++ g = drop-append-le (2 + n) f g fits in
        file_next (f ++ g) (omega (arith, e, long))
        ∙ ap (λ (k : ℕ). before (take k (drop 2 (f ++ g))) (file_of (drop (2 + k) (f ++ g)))) e
        ∙ ap (λ (x : List ℕ). before x (file_of (drop (2 + n) (f ++ g)))) m
        ∙ ap (λ (x : List ℕ). before (take n (drop 2 f)) (file_of x)) d
        ∙ ap (before (take n (drop 2 f))) again
    go false t again = refl

pub file_append : (f g : List ℕ) → file_of (f ++ g) ≡ follow (file_of f) g
file_append f g = split_append (length f) f g ∙ ap (λ (x : File). follow x g) (is_file f)

-- ---- a message with its length before it

first : (m rest : List ℕ) → length m < 256 ^ 2 → length_of ((be 2 (length m) ++ m) ++ rest) ≡ length m
unfolding length_of number_at
first m rest short = ap (λ (x : List ℕ). value (take 2 x)) (append_assoc (be 2 (length m)) m rest) ∙ ap value (take_at (be 2 (length m)) (m ++ rest) 2 (length_be 2 (length m))) ∙ value_be 2 (length m) short

started : (m : List ℕ) (k : ℕ) → length m < 256 ^ 2 → 2 ≤ k → length_of (take k (be 2 (length m) ++ m)) ≡ length m
unfolding length_of number_at
started m k short h = ap value (take-take 2 k (be 2 (length m) ++ m) h ∙ take_at (be 2 (length m)) m 2 (length_be 2 (length m))) ∙ value_be 2 (length m) short

pub none_there : file_of [] ≡ record { messages = []; left = [] }
unfolding file_of split none
none_there = refl

two_octets : (o : List ℕ) → Octets o → 2 ≤ length o → be 2 (length_of o) ≡ take 2 o
unfolding length_of
two_octets o h long = part_octets 2 o 0 h (omega arith)

pub file_piece : (m rest : List ℕ) → length m < 256 ^ 2 → file_of (piece_of m ++ rest) ≡ before m (file_of rest)
unfolding piece_of
file_piece m rest short =
    let o = (be 2 (length m) ++ m) ++ rest in
    let a : o ≡ be 2 (length m) ++ (m ++ rest) = append_assoc (be 2 (length m)) m rest in
    let e : length_of o ≡ length m = first m rest short in
    let two : length (be 2 (length m)) ≡ 2 = length_be 2 (length m) in
    let long : length o ≡ 2 + (length m + length rest) = ap length a ∙ length-append (be 2 (length m)) (m ++ rest) ∙ ap (λ (n : ℕ). n + length (m ++ rest)) two ∙ ap (λ (n : ℕ). 2 + n) (length-append m rest) in
    let d : drop 2 o ≡ m ++ rest = ap (drop 2) a ∙ drop_at (be 2 (length m)) (m ++ rest) 2 two in
    file_next o (omega (arith, e, long))
    ∙ ap (λ (k : ℕ). before (take k (drop 2 o)) (file_of (drop (2 + k) o))) e
    ∙ ap (λ (x : List ℕ). before (take (length m) x) (file_of (drop (2 + length m) o))) d
    ∙ ap (λ (x : List ℕ). before x (file_of (drop (2 + length m) o))) (take-append_seam m rest)
    ∙ ap (λ (x : List ℕ). before m (file_of x)) (sym (drop-drop (length m) 2 o) ∙ ap (drop (length m)) d ∙ drop-append_seam m rest)

-- messages with their lengths before them are a whole file of these messages
pub file_made : (ms : List (List ℕ)) → Every (λ m. length m < 256 ^ 2) ms → file_of (each piece_of ms) ≡ record { messages = ms; left = [] }
unfolding each Every before
file_made [] h = none_there
file_made (m ∷ ms) h = file_piece m (each piece_of ms) h.0 ∙ ap (before m) (file_made ms h.1)

-- the start of one is none
pub file_cut : (m : List ℕ) (k : ℕ) → length m < 256 ^ 2 → k < length (piece_of m) → file_of (take k (piece_of m)) ≡ none (take k (piece_of m))
unfolding piece_of
file_cut m k short less =
    let two : length (be 2 (length m)) ≡ 2 = length_be 2 (length m) in
    let all : length (be 2 (length m) ++ m) ≡ 2 + length m = length-append (be 2 (length m)) m ∙ ap (λ (n : ℕ). n + length m) two in
    let long : length (take k (be 2 (length m) ++ m)) ≡ k = length-take-le k (be 2 (length m) ++ m) (omega arith) in
    file_end (take k (be 2 (length m) ++ m)) (go (leb 2 k) refl all long)
  where
    go : (b : Bool) → leb 2 k ≡ b → length (be 2 (length m) ++ m) ≡ 2 + length m → length (take k (be 2 (length m) ++ m)) ≡ k
        → length (take k (be 2 (length m) ++ m)) < 2 + length_of (take k (be 2 (length m) ++ m))
    go true t all long = omega (arith, all, long, less, started m k short (leb-true 2 k t))
    go false t all long = omega (arith, long, leb-false 2 k t)

-- ---- what is left

left_none : (k : ℕ) (o : List ℕ) → length o ≤ k → length (split k o).left < 2 + length_of (split k o).left
unfolding split none before
left_none zero [] h = omega arith
left_none zero (x ∷ o) h = absurd (omega arith)
left_none (suc k) o h = go (leb (2 + length_of o) (length o)) refl (left_none k (drop (2 + length_of o) o))
  where
    go : (b : Bool) → leb (2 + length_of o) (length o) ≡ b
        → (length (drop (2 + length_of o) o) ≤ k → length (split k (drop (2 + length_of o) o)).left < 2 + length_of (split k (drop (2 + length_of o) o)).left)
        → length (cond b (before (take (length_of o) (drop 2 o)) (split k (drop (2 + length_of o) o))) (none o)).left
        < 2 + length_of (cond b (before (take (length_of o) (drop 2 o)) (split k (drop (2 + length_of o) o))) (none o)).left
    go true t again = again (omega (arith, h, leb-true (2 + length_of o) (length o) t, length-drop (2 + length_of o) o))
    go false t again = leb-false (2 + length_of o) (length o) t

pub left_short : (o : List ℕ) → length (file_of o).left < 2 + length_of (file_of o).left
unfolding file_of
left_short o = left_none (length o) o (omega arith)

split_left : (k : ℕ) (o : List ℕ) → length (split k o).left ≤ length o
unfolding split none before
split_left zero o = omega arith
split_left (suc k) o = go (leb (2 + length_of o) (length o)) (split_left k (drop (2 + length_of o) o))
  where
    go : (b : Bool) → length (split k (drop (2 + length_of o) o)).left ≤ length (drop (2 + length_of o) o)
        → length (cond b (before (take (length_of o) (drop 2 o)) (split k (drop (2 + length_of o) o))) (none o)).left ≤ length o
    go true again = omega (arith, again, length-drop (2 + length_of o) o)
    go false again = omega arith

pub left_within : (o : List ℕ) → length (file_of o).left ≤ length o
unfolding file_of
left_within o = split_left (length o) o

-- it stands at the end
split_drop : (k : ℕ) (o : List ℕ) → drop (length o - length (split k o).left) o ≡ (split k o).left
unfolding split none before
split_drop zero o = ap (λ (n : ℕ). drop n o) (sub_self (length o))
split_drop (suc k) o = go (leb (2 + length_of o) (length o)) refl (split_drop k (drop (2 + length_of o) o)) (split_left k (drop (2 + length_of o) o))
  where
    go : (b : Bool) → leb (2 + length_of o) (length o) ≡ b
        → drop (length (drop (2 + length_of o) o) - length (split k (drop (2 + length_of o) o)).left) (drop (2 + length_of o) o) ≡ (split k (drop (2 + length_of o) o)).left
        → length (split k (drop (2 + length_of o) o)).left ≤ length (drop (2 + length_of o) o)
        → drop (length o - length (cond b (before (take (length_of o) (drop 2 o)) (split k (drop (2 + length_of o) o))) (none o)).left) o
        ≡ (cond b (before (take (length_of o) (drop 2 o)) (split k (drop (2 + length_of o) o))) (none o)).left
    go true t again within =
        let fits : 2 + length_of o ≤ length o = leb-true (2 + length_of o) (length o) t in
        let l = length (split k (drop (2 + length_of o) o)).left in
        let d : length (drop (2 + length_of o) o) ≡ length o - (2 + length_of o) = length-drop (2 + length_of o) o in
        let e : length o - l ≡ 2 + length_of o + (length (drop (2 + length_of o) o) - l) = omega (arith, fits, d, within) in
        ap (λ (n : ℕ). drop n o) e ∙ sym (drop-drop (length (drop (2 + length_of o) o) - l) (2 + length_of o) o) ∙ again
    go false t again within = ap (λ (n : ℕ). drop n o) (sub_self (length o))

pub left_drop : (o : List ℕ) → drop (length o - length (file_of o).left) o ≡ (file_of o).left
unfolding file_of
left_drop o = split_drop (length o) o

-- it is less than a length and a message of the most octets that 16 bits can say
pub left_few : (o : List ℕ) → Octets o → length (file_of o).left ≤ 65536
unfolding length_of number_at
left_few o h =
    let l = (file_of o).left in
    let octets : Octets l = subst Octets (left_drop o) (octets_drop (length o - length l) o h) in
    let long : length (take 2 l) ≤ 2 = omega (arith, length-take 2 l) in
    let power : 256 ^ length (take 2 l) ≤ 256 ^ 2 = pow-le-pow_right {n = 256} (omega arith) long in
    omega (arith, left_short o, value_lt (take 2 l) (octets_take 2 l octets), power)

-- the messages, with their lengths, and what is left are the file
split_joins : (k : ℕ) (o : List ℕ) → Octets o → each piece_of (split k o).messages ++ (split k o).left ≡ o
unfolding split none before each piece_of
split_joins zero o h = refl
split_joins (suc k) o h = go (leb (2 + length_of o) (length o)) refl (split_joins k (drop (2 + length_of o) o) (octets_drop (2 + length_of o) o h))
  where
    go : (b : Bool) → leb (2 + length_of o) (length o) ≡ b
        → each piece_of (split k (drop (2 + length_of o) o)).messages ++ (split k (drop (2 + length_of o) o)).left ≡ drop (2 + length_of o) o
        → each piece_of (cond b (before (take (length_of o) (drop 2 o)) (split k (drop (2 + length_of o) o))) (none o)).messages
        ++ (cond b (before (take (length_of o) (drop 2 o)) (split k (drop (2 + length_of o) o))) (none o)).left ≡ o
    go true t again =
        let fits : 2 + length_of o ≤ length o = leb-true (2 + length_of o) (length o) t in
        let n = length_of o in
        let m = take n (drop 2 o) in
        let rest = each piece_of (split k (drop (2 + n) o)).messages in
        let l = (split k (drop (2 + n) o)).left in
        let long : length m ≡ n = length-take-le n (drop 2 o) (omega (arith, fits, length-drop 2 o)) in
        let b : be 2 (length m) ≡ take 2 o = ap (be 2) long ∙ two_octets o h (omega arith) in
        append_assoc (be 2 (length m) ++ m) rest l
        ∙ append_assoc (be 2 (length m)) m (rest ++ l)
        ∙ ap (λ (x : List ℕ). x ++ (m ++ (rest ++ l))) b
        ∙ ap (λ (x : List ℕ). take 2 o ++ (m ++ x)) (again ∙ sym (drop-drop n 2 o))
        ∙ ap (λ (x : List ℕ). take 2 o ++ x) (take-append-drop n (drop 2 o))
        ∙ take-append-drop 2 o
    go false t again = refl

pub file_joins : (o : List ℕ) → Octets o → each piece_of (file_of o).messages ++ (file_of o).left ≡ o
unfolding file_of
file_joins o h = split_joins (length o) o h
