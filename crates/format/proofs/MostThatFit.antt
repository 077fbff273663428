-- A packing call takes the longest prefix of what is left whose message is within the limit, for each of the five kinds.
--     Grows                              a longer prefix of entries never has a shorter message
--     plain_grows .. stop_grows          of each kind
--     most_that_fit                      so a call takes the most that fit, and a search may stop where one more does not fit
-- Assumes nothing.
use Prim.Native.Nat.{ℕ, ◌+◌, ◌*◌, ◌<◌, ◌≤◌}
use native.Mathlib.Nat.{mul-le-mul_left}
use native.Mathlib.Omega.{arith}
use native.Mathlib.Decide.{dec_le}
use mathlib.Core.Path.{◌≡◌}
use mathlib.Core.List.{List, [], ◌++◌}
use borrow.Author.Tests.{le-leb}
use lib.ListN.{length, take, length-take, length-append}
use lib.Dec.{leb}
use Rattle.records.specs.Sizes.{assert_size, pair_size}
use Rattle.records.proofs.Least.{take_mono}
use Rattle.records.proofs.Most.{most_ge}
use Rattle.format.specs.Family.{Family}
use Rattle.format.specs.Record.{each, assert_octets, pair_octets}
use Rattle.format.specs.Body.{zeros, plain_body, simple_body, pair_body}
use Rattle.format.specs.Entry.{Entries}
use Rattle.format.specs.Packing.{Form, plain, simple, aggregated, null_register, register_stop, size_of, taken}
use Rattle.format.specs.RoundTrip.{MostThatFit}
use Rattle.format.proofs.Lengths.{length_each, length_assert, length_pair}
use Rattle.format.proofs.Calls.{canonical_long, taken_most, taken_fits}
use Rattle.format.proofs.Trains.{size_aggregated}

unfoldable pub Grows : {E : Entries} → Form E → Type 0
Grows {E} F = (es : List E.Entry) (j k : ℕ) → j ≤ k → size_of F (take j es) ≤ size_of F (take k es)

-- records of one length, after what begins the body
even_grows : {A : Type 0} (octets_of : A → List ℕ) (n : ℕ) → ((a : A) → length (octets_of a) ≡ n) → (p : List ℕ) (es : List A) (j k : ℕ) → j ≤ k
    → 4 + length (p ++ each octets_of (take j es)) ≤ 4 + length (p ++ each octets_of (take k es))
even_grows octets_of n size p es j k h =
    let fewer : length (take j es) ≤ length (take k es) = simp length-take (omega arith) in
    let octets : n * length (take j es) ≤ n * length (take k es) = mul-le-mul_left n fewer in
    simp (length-append, length_each octets_of n size) (omega arith)

module _ (f : Family) where
  pub plain_grows : Grows (plain f)
  unfolding Grows size_of plain_body
  plain_grows es j k h = even_grows (assert_octets f) (assert_size f.width) (length_assert f) [] es j k h

  pub simple_grows : Grows (simple f)
  unfolding Grows size_of simple_body
  simple_grows es j k h = even_grows (assert_octets f) (assert_size f.width) (length_assert f) zeros es j k h

  pub aggregated_grows : Grows (aggregated f)
  unfolding Grows
  aggregated_grows es j k h = omega (arith, take_mono f.width j k es h, size_aggregated f (take j es), size_aggregated f (take k es))

  pub null_grows : Grows (null_register f)
  unfolding Grows size_of pair_body
  null_grows es j k h = even_grows (pair_octets f) (pair_size f.width) (length_pair f) [] es j k h

  pub stop_grows : Grows (register_stop f)
  unfolding Grows size_of pair_body
  stop_grows es j k h = even_grows (pair_octets f) (pair_size f.width) (length_pair f) [] es j k h

pub most_that_fit : {E : Entries} (F : Form E) → Grows F → (l : ℕ) (es : List E.Entry) → MostThatFit F l es
unfolding Grows taken
most_that_fit F grows l es = record {
  inside = taken_most F l es;
  fits = λ p some. rw (canonical_long F p) (taken_fits F l es some);
  most = λ p k more inside. rw (canonical_long F p) (most' k more inside (dec_le (size_of F (take k es)) l));
  stops = λ p j k h past. omega (arith, grows es j k h, canonical_long F p (take j es), canonical_long F p (take k es));
}
  where
    most' : (k : ℕ) → taken F l es < k → k ≤ F.at_most (length es) → Dec (size_of F (take k es) ≤ l) → l < size_of F (take k es)
    most' k more inside (yes fit) =
        absurd (omega (arith, most_ge (λ (n : ℕ). leb (size_of F (take n es)) l) (F.at_most (length es)) k inside (omega arith) (le-leb _ l fit)))
    most' k more inside (no past) = omega arith
