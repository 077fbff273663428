-- What stands in the buffer while an attribute is written.
--     Lowest                                    the loop of a number's octets, from the last to the first: lowest_start, lowest_step, lowest_end
--     put_after                                 a number, and what is written after it
--     values_are                                the options in order, each by its bit
-- Assumes nothing.
use mathlib.Core.Path.{◌≡◌, refl, sym, ap, ◌∙◌}
use mathlib.Core.List.{List, [], ◌∷◌, ◌++◌}
use Prim.Native.Nat.{ℕ, suc, ◌+◌, ◌/◌, ◌%◌, ◌^◌, ◌≤◌}
use native.Mathlib.Nat.{add-zero, div-one, div-div-eq-div-mul, pow-suc}
use native.Mathlib.Omega.{arith}
use lib.ListN.{length, set}
use Rattle.octets.specs.Octets.{be, put, ◌&◌}
use Rattle.octets.proofs.Laws.{be_suc, length_be, put_nil, put_next, put_before, length_put, stores_put}
use Rattle.attributes.specs.Answers.{size_by}
use Rattle.attributes.specs.Options.{bit_of, size_of, present, size_in}
use Rattle.attributes.specs.Attribute.{values_octets}
use Rattle.attributes.specs.declared.options.Values.{Values}
use Rattle.attributes.proofs.Lengths.{option_is}

-- ---- a number, from its last octet to its first

pub record Lowest (d₀ : List ℕ) (at k n : ℕ) (d : List ℕ) (rest i : ℕ) : Type 0 where
  -- how many octets stand already
  pub done : ℕ
  pub room : at + k ≤ length d₀
  pub from : at ≤ i
  pub place : i + done ≡ at + k
  pub same : length d ≡ length d₀
  pub left : rest ≡ n / 256 ^ done
  pub stands : d ≡ put d₀ i (be done n)

pub lowest_start : (d : List ℕ) (at k n : ℕ) → at + k ≤ length d → Lowest d at k n d n (at + k)
unfolding be
lowest_start d at k n h = record {
  done = 0;
  room = h;
  from = omega arith;
  place = add-zero (at + k);
  same = refl;
  left = sym (div-one n);
  stands = sym (put_nil d (at + k));
}

module _ {d₀ : List ℕ} {at k n : ℕ} {d : List ℕ} {rest i : ℕ} (l : Lowest d₀ at k n d rest i) where
  pub lowest_step : (i' : ℕ) → i ≡ suc i' → at ≤ i' → Lowest d₀ at k n (set d i' (rest % 256)) (rest / 256) i'
  lowest_step i' e h =
      let x : ℕ = rest % 256 in
      let fits : i' + length (x ∷ []) ≤ length d = omega (arith, l.place, l.room, l.same) in
      let one : set d i' x ≡ put d i' (x ∷ []) = stores_put d i' (x ∷ []) fits in
      let both : set d i' x ≡ put d₀ i' ((x ∷ []) ++ be l.done n) =
      put_before d₀ i' (x ∷ []) (be l.done n) l.stands one (omega (arith, e)) (omega (arith, l.place, l.room)) in
      record {
        done = suc l.done;
        room = l.room;
        from = h;
        place = omega (arith, l.place);
        same = ap length one ∙ length_put d i' (x ∷ []) fits ∙ l.same;
        left = rw (l.left, pow-suc) (div-div-eq-div-mul n (256 ^ l.done) 256);
        stands = rw be_suc (rw (← l.left) both);
      }

  pub lowest_end : i ≤ at → d ≡ put d₀ at (be k n)
  lowest_end h =
      let here : i ≡ at = omega (arith, l.from) in
      let all : l.done ≡ k = omega (arith, l.place) in
      rw (here, all) at l.stands

-- ---- numbers one after another

-- a number, and what a later call writes where it ends
pub put_after : (l : List ℕ) (at k n : ℕ) (f : List ℕ) {m p : List ℕ} {q : ℕ} → m ≡ put l at (be k n) → q ≡ at + k → p ≡ put m q f
    → p ≡ put l at (be k n ++ f)
put_after l at k n f e h g = put_next l at (be k n) f e g (rw length_be h)

-- the options in order, each by its bit
pub values_are : (w : ℕ) (v : Values)
    → values_octets w v
    ≡ be (size_by w 0x8000) v.transit & be (size_by w 0x4000) v.stub
    & be (size_by w 0x2000) v.minimum_speed & be (size_by w 0x1000) v.maximum_speed
    & be (size_by w 0x0800) v.domain & be (size_by w 0x0400) v.node
    & be (size_by w 0x0200) v.diameter & be (size_by w 0x0100) v.time_zone
unfolding values_octets size_in size_of present bit_of
values_are w v = simp option_is
