-- The report of a lent file, by what its parts give.
--     reported        the report
-- Assumes nothing.
use Prim.Native.Nat.{ℕ, ◌-◌, ◌^◌, ◌<◌, ◌≤◌}
use native.Mathlib.Omega.{arith}
use mathlib.Core.Path.{◌≡◌, refl, ap, ◌∙◌}
use mathlib.Core.Bool.{Bool, true, false}
use mathlib.Core.List.{List}
use borrow.Author.Tests.{eqb-true, eqb-false, eq-eqb, ne_eqb}
use lib.Dec.{eqb}
use lib.ListN.{length}
use Rattle.reporting.specs.File.{file_of}
use Rattle.reporting.specs.Tallies.{no_tally}
use Rattle.reporting.specs.Fraction.{mean_of}
use Rattle.reporting.specs.Report.{taken_from, report_of}
use Rattle.reporting.specs.declared.Tally.{Tally}
use Rattle.reporting.specs.declared.Taken.{Taken}
use Rattle.reporting.specs.declared.Fraction.{Fraction}
use Rattle.reporting.proofs.Files.{left_within}
use Rattle.reporting.proofs.Exact.{exact}

-- all octets are used exactly if none is left
all_used : (n l : ℕ) → l ≤ n → eqb (n - l) n ≡ eqb l 0
all_used n l h = go (eqb l 0) refl
  where
    go : (b : Bool) → eqb l 0 ≡ b → eqb (n - l) n ≡ b
    go true e = let z : l ≡ 0 = eqb-true l 0 e in eq-eqb (n - l) n (omega arith)
    go false e = ne_eqb (n - l) n (λ s. eqb-false l 0 e (omega arith))

pub reported : (o : List ℕ) {start : Tally} {t : Taken} {mean : Fraction} → length o < 2 ^ 64 → start ≡ no_tally → t ≡ taken_from start o → mean ≡ mean_of t.tally
    → record { tally = t.tally; mean = mean; whole = eqb t.used (length o) } ≡ report_of o
unfolding report_of taken_from
reported o short begun taken means =
    let e = taken ∙ ap (λ (x : Tally). taken_from x o) begun in
    let tally = ap (λ (x : Taken). x.tally) e ∙ exact o short in
    λ i. record {
      tally = tally i;
      mean = (means ∙ ap mean_of tally) i;
      whole = (ap (λ (x : Taken). eqb x.used (length o)) e ∙ all_used (length o) (length (file_of o).left) (left_within o)) i;
    }
