-- Octets moved to the front of the buffer that they stand in.
--     Left           what is left of the first n octets, and where: left_of
--     moved_front    what then stands at the front
-- Assumes nothing.
use Prim.Native.Nat.{ℕ, ◌+◌, ◌-◌, ◌≤◌}
use native.Mathlib.Omega.{arith}
use mathlib.Core.Path.{◌≡◌, sym, ap, ◌∙◌}
use mathlib.Core.List.{List}
use lib.ListN.{length, take, drop, length-drop, take-append-drop}
use lib.Seq.{paste, take-paste, length-take-le, drop-append-le, take_at}
use Rattle.octets.specs.Octets.{Octets}
use Rattle.octets.proofs.Laws.{octets_take}
use Rattle.reporting.specs.Report.{taken_from}
use Rattle.reporting.specs.declared.Tally.{Tally}
use Rattle.reporting.specs.declared.Taken.{Taken}
use Rattle.reporting.proofs.Files.{left_within, left_drop, left_few}
use Rattle.reporting.specs.File.{file_of}

pub record Left (b : List ℕ) (n used : ℕ) : Type 0 where
  pub within : used ≤ n
  pub stands : take (n - used) (drop used b) ≡ (file_of (take n b)).left
  pub few : n - used ≤ 65536

pub left_of : (b : List ℕ) (n : ℕ) (t : Tally) {a : Taken} → Octets b → n ≤ length b → a ≡ taken_from t (take n b) → Left b n a.used
unfolding taken_from
left_of b n t {a} octets room is =
    let p = take n b in
    let l = length (file_of p).left in
    let long : length p ≡ n = length-take-le n b room in
    let used : a.used ≡ length p - l = ap (λ (x : Taken). x.used) is in
    let small : l ≤ length p = left_within p in
    let rest : length (drop a.used p) ≡ n - a.used = length-drop a.used p ∙ ap (λ (k : ℕ). k - a.used) long in
    record {
      within = omega (arith, used, long, small);
      stands = ap (λ (x : List ℕ). take (n - a.used) (drop a.used x)) (sym (take-append-drop n b))
          ∙ ap (take (n - a.used)) (drop-append-le a.used p (drop n b) (omega (arith, used, small)))
          ∙ take_at (drop a.used p) (drop n b) (n - a.used) rest
          ∙ ap (λ (k : ℕ). drop k p) used
          ∙ left_drop p;
      few = omega (arith, left_few p (octets_take n b octets), used, long, small);
    }

pub moved_front : (b : List ℕ) (n used : ℕ) {e : List ℕ} → n ≤ length b → Left b n used → e ≡ paste b 0 (drop used b) (n - used) → take (n - used) e ≡ (file_of (take n b)).left
moved_front b n used room l is =
    let k : n - used ≡ 0 + (n - used) = omega arith in
    ap (take (n - used)) is ∙ ap (λ (x : ℕ). take x (paste b 0 (drop used b) (n - used))) k
    ∙ take-paste b 0 (drop used b) (n - used) (omega arith) (omega (arith, room, length-drop used b))
    ∙ l.stands
