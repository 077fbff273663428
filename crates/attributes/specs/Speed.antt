-- Link speeds (01, "Pop-Count"; RFC 6807, 3.1.1): "Speed: 6-bit exponent, 10-bit significand times 10 to it, in kbit/s."
--     size                   the speed that two octets encode, multiplied out
--     compared               two speeds "by exact size"
-- Assumes nothing: these are definitions.
use Rattle.std.specs.Prelude.{ℕ, ◌*◌, ◌/◌, ◌%◌, ◌^◌}
use Rattle.std.specs.Ordering.{nat_cmp}
use Rattle.std.specs.declared.cmp.Ordering.{Ordering}

unfoldable pub size : ℕ → ℕ
size s = s % 1024 * 10 ^ (s / 1024)

unfoldable pub compared : ℕ → ℕ → Ordering
compared s t = nat_cmp (size s) (size t)
