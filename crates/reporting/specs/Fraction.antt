-- "the mean records per accepted packed message (any kind but hello and assert) as a fraction in lowest terms (0/1 if there is none)"
-- (02, E4).
--     Divides, InLowestTerms   a divisor; that a fraction's two numbers have none in common but 1
--     gcd                      the greatest common divisor, by Euclid's rule
--     lowest                   a fraction in lowest terms
--     together, packed_totals   messages and records of two kinds, and of the four packed ones
--     mean_of                   the mean
-- That `lowest` is in lowest terms and equals the quotient is said in Claims.antt. Assumes nothing: these are definitions.
use Rattle.std.specs.Prelude.{ℕ, zero, suc, ◌*◌, ◌/◌, ◌%◌, ◌<◌, ◌≡◌, cond, eqb}
use Rattle.counters.specs.Counting.{sum}
use Rattle.counters.specs.declared.Totals.{Totals}
use Rattle.counters.specs.declared.ByKind.{ByKind}
use Rattle.reporting.specs.declared.Tally.{Tally}
use Rattle.reporting.specs.declared.Fraction.{Fraction}

pub record Divides (d n : ℕ) : Type 0 where
  pub times : ℕ
  pub is : d * times ≡ n

pub record InLowestTerms (f : Fraction) : Type 0 where
  pub positive : 0 < f.denominator
  pub common : (d : ℕ) → Divides d f.numerator → Divides d f.denominator → d ≡ 1

-- The first argument only bounds the recursion: each remainder is smaller than the one before.
unfoldable pub euclid : ℕ → ℕ → ℕ → ℕ
euclid zero a b = a
euclid (suc k) a b = cond (eqb b 0) a (euclid k b (a % b))

unfoldable pub gcd : ℕ → ℕ → ℕ
gcd a b = euclid (suc b) a b

unfoldable pub lowest : ℕ → ℕ → Fraction
lowest a b = cond (eqb b 0) (record { numerator = 0; denominator = 1 }) (record { numerator = a / gcd a b; denominator = b / gcd a b })

-- sums stay at the 64-bit maximum, as all counts do
unfoldable pub together : Totals → Totals → Totals
together a b = record { messages = sum a.messages b.messages; records = sum a.records b.records }

-- "any kind but hello and assert"
unfoldable pub packed_totals : ByKind → Totals
packed_totals t = together (together t.simple t.aggregated) (together t.null_register t.register_stop)

unfoldable pub mean_of : Tally → Fraction
mean_of t = lowest (packed_totals t.accepted).records (packed_totals t.accepted).messages
