-- Reading back what was written: a reader reads octets as a value wherever they stand, whatever comes before and after them.
--     At, at_left, at_right, at_end octets stand at a place of others; they come apart as they were joined
--     Reads                         a reader reads octets as a value
--     reads_give .. reads_times     a law for each reader of specs/Reader.antt, so that a record is read line by line
--     reads_to_end, reads_records    records up to the end
-- Assumes nothing.
use Prim.Native.Nat.{ℕ, zero, suc, ◌+◌, ◌≤◌, ◌<◌, ◌^◌}
use native.Mathlib.Nat.{add-zero}
use native.Mathlib.Omega.{arith}
use mathlib.Core.Path.{◌≡◌, sym, ap, ◌∙◌}
use mathlib.Core.Bool.{Bool, true, false}
use mathlib.Core.List.{List, [], ◌∷◌, ◌++◌}
use borrow.Author.Tests.{le-leb, lt-leb}
use lib.ListN.{length, take, drop, length-append}
use lib.Seq.{take-add, drop-drop, drop_at, take-take, take-append_seam, drop-append_seam, take-length}
use Rattle.octets.specs.Octets.{value, be}
use Rattle.records.specs.Every.{Every}
use Rattle.octets.proofs.Laws.{length_be, value_be}
use Rattle.format.specs.Reader.{got, Reader, continue, ◌>>=◌, ◌>>◌, give, here, octets, number, must, refuse, times, to_end, records}
use Rattle.format.specs.Record.{each}

-- x stands in o at a place
pub record At (o : List ℕ) (at : ℕ) (x : List ℕ) : Type 0 where
  pub stands : take (length x) (drop at o) ≡ x
  pub fits : at + length x ≤ length o

module _ {o : List ℕ} {at : ℕ} (x y : List ℕ) (h : At o at (x ++ y)) where
  both_fit : at + length x + length y ≤ length o
  both_fit = omega (arith, h.fits, length-append x y)

  pub at_left : At o at x
  at_left =
      let le : length x ≤ length (x ++ y) = omega (arith, length-append x y) in
      record {
        stands = sym (take-take (length x) (length (x ++ y)) (drop at o) le) ∙ ap (take (length x)) h.stands ∙ take-append_seam x y;
        fits = omega (arith, both_fit);
      }

  pub at_right : At o (at + length x) y
  at_right =
      let rest : List ℕ = drop at o in
      let front : length (take (length x) rest) ≡ length x = ap length at_left.stands in
      record {
        stands =
            ap (take (length y)) (sym (drop-drop (length x) at o))
            ∙ sym (drop_at (take (length x) rest) (take (length y) (drop (length x) rest)) (length x) front)
            ∙ ap (drop (length x)) (sym (take-add (length x) (length y) rest) ∙ ap (λ n. take n rest) (sym (length-append x y)) ∙ h.stands)
            ∙ drop-append_seam x y;
        fits = both_fit;
      }

-- octets stand in themselves, after others
pub at_end : (p x : List ℕ) → At (p ++ x) (length p) x
at_end p x = record {
  stands = ap (take (length x)) (drop-append_seam p x) ∙ take-length x;
  fits = omega (arith, length-append p x);
}

-- r reads the octets x as a
pub record Reads {A : Type 0} (r : Reader A) (a : A) (x : List ℕ) : Type 0 where
  pub read : (o : List ℕ) (at : ℕ) → At o at x → r o at ≡ got a (at + length x)

pub reads_give : {A : Type 0} (a : A) → Reads (give a) a []
unfolding give
reads_give a = record { read = λ o at h. ap (got a) (sym (add-zero at)) }

pub reads_bind : {A B : Type 0} {r : Reader A} {a : A} {b : B} {x y : List ℕ} (k : A → Reader B) → Reads r a x → Reads (k a) b y → Reads (r >>= k) b (x ++ y)
unfolding ◌>>=◌ continue
reads_bind {b = b} {x = x} {y = y} k hr hk = record {
  read = λ o at h.
      rw (hr.read o at (at_left x y h), hk.read o (at + length x) (at_right x y h))
      (ap (got b) (omega (arith, length-append x y)));
}

pub reads_then : {A B : Type 0} {r : Reader A} {s : Reader B} {a : A} {b : B} {x y : List ℕ} → Reads r a x → Reads s b y → Reads (r >> s) b (x ++ y)
unfolding ◌>>◌ continue
reads_then {b = b} {x = x} {y = y} hr hs = record {
  read = λ o at h.
      rw (hr.read o at (at_left x y h), hs.read o (at + length x) (at_right x y h))
      (ap (got b) (omega (arith, length-append x y)));
}

-- the last line, which puts the value together
pub reads_last : {A B : Type 0} {r : Reader A} {a : A} {x : List ℕ} (g : A → B) → Reads r a x → Reads (r >>= (λ (a : A). give (g a))) (g a) x
unfolding ◌>>=◌ continue give
reads_last g hr = record { read = λ o at h. rw (hr.read o at h) }

-- the last line, where the value is known already
pub reads_done : {A B : Type 0} {r : Reader A} {a : A} {x : List ℕ} (b : B) → Reads r a x → Reads (r >> give b) b x
unfolding ◌>>◌ continue give
reads_done b hr = record { read = λ o at h. rw (hr.read o at h) }

-- a line that reads nothing, whatever it gives
pub reads_here : {B : Type 0} {k : ℕ → Reader B} {b : B} {x : List ℕ} → ((n : ℕ) → Reads (k n) b x) → Reads (here >>= k) b x
unfolding ◌>>=◌ continue here
reads_here hk = record { read = λ o at h. (hk at).read o at h }

pub reads_refuse : {B : Type 0} {s : Reader B} {b : B} {x : List ℕ} (test : Bool) (n p : ℕ) → test ≡ false → Reads s b x → Reads (refuse test n p >> s) b x
unfolding ◌>>◌ continue refuse
reads_refuse test n p e hs = record { read = λ o at h. rw e (hs.read o at h) }

pub reads_octets : (x : List ℕ) (k : ℕ) → length x ≡ k → Reads (octets k) x x
unfolding octets
reads_octets x k e = record {
  read = λ o at h.
      let le : at + k ≤ length o = omega (arith, h.fits) in
      rw (le-leb (at + k) (length o) le, ← e, h.stands);
}

pub reads_number : (n k : ℕ) → n < 256 ^ k → Reads (number k) n (be k n)
unfolding number
reads_number n k h =
    let last : Reads (octets k >>= (λ (x : List ℕ). give (value x))) (value (be k n)) (be k n) =
    reads_last value (reads_octets (be k n) k (length_be k n)) in
    rw (value_be k n h) at last

pub reads_must : {A : Type 0} {r : Reader A} {a : A} {x : List ℕ} (n : ℕ) (test : A → Bool) → test a ≡ true → Reads r a x → Reads (must n test r) a x
unfolding must continue
reads_must n test e hr = record { read = λ o at h. rw (hr.read o at h, e) }

-- a counted list of things, each read from its octets
pub reads_times : {A : Type 0} (r : Reader A) (octets_of : A → List ℕ) (l : List A) → Every (λ (a : A). Reads r a (octets_of a)) l → Reads (times (length l) r) l (each octets_of l)
unfolding times each Every
reads_times r octets_of [] h = reads_give []
reads_times r octets_of (a ∷ l) h = reads_bind _ h.0 (reads_last (λ l. a ∷ l) (reads_times r octets_of l h.1))

each_length : {A : Type 0} (octets_of : A → List ℕ) (l : List A) → Every (λ (a : A). 0 < length (octets_of a)) l → length l ≤ length (each octets_of l)
unfolding each Every
each_length octets_of [] pos = omega arith
each_length octets_of (a ∷ l) pos = omega (arith, pos.0, each_length octets_of l pos.1, length-append (octets_of a) (each octets_of l))

-- the records up to the end: each has an octet at least, and the bound on the recursion suffices
pub reads_to_end : {A : Type 0} (r : Reader A) (octets_of : A → List ℕ) (l : List A) → Every (λ (a : A). Reads r a (octets_of a)) l
    → Every (λ (a : A). 0 < length (octets_of a)) l
    → (n : ℕ) → length l ≤ n → (o : List ℕ) (at : ℕ) → At o at (each octets_of l) → at + length (each octets_of l) ≡ length o
    → to_end n r o at ≡ got l (length o)
unfolding to_end each Every continue
reads_to_end r octets_of [] h pos zero le o at stands e = ap (got []) (omega (arith, e))
reads_to_end r octets_of [] h pos (suc n) le o at stands e =
    let past : length o ≤ at = omega (arith, e) in
    rw (le-leb (length o) at past) (ap (got []) (omega (arith, e)))
reads_to_end r octets_of (a ∷ l) h pos zero le o at stands e = absurd (omega arith)
reads_to_end r octets_of (a ∷ l) h pos (suc n) le o at stands e =
    let x : List ℕ = octets_of a in
    let rest : List ℕ = each octets_of l in
    let whole : at + length x + length rest ≡ length o = omega (arith, e, length-append x rest) in
    let before : at < length o = omega (arith, pos.0) in
    let tail : to_end n r o (at + length x) ≡ got l (length o) =
    reads_to_end r octets_of l h.1 pos.1 n (omega arith) o (at + length x) (at_right x rest stands) whole in
    rw (lt-leb (length o) at before, h.0.read o at (at_left x rest stands), tail)

-- and one at least
pub reads_records : {A : Type 0} (r : Reader A) (octets_of : A → List ℕ) (a : A) (l : List A)
    → Every (λ (a : A). Reads r a (octets_of a)) (a ∷ l)
    → Every (λ (a : A). 0 < length (octets_of a)) (a ∷ l)
    → (o : List ℕ) (at : ℕ) → At o at (each octets_of (a ∷ l)) → at + length (each octets_of (a ∷ l)) ≡ length o
    → records r o at ≡ got (a ∷ l) (length o)
unfolding records each Every
reads_records r octets_of a l h pos o at stands e =
    let rest : List ℕ = each octets_of l in
    let before : at < length o = omega (arith, pos.0, e, length-append (octets_of a) rest) in
    let enough : length (a ∷ l) ≤ length o = omega (arith, e, each_length octets_of (a ∷ l) pos) in
    rw (lt-leb (length o) at before) (reads_to_end r octets_of (a ∷ l) h pos (length o) enough o at stands e)
