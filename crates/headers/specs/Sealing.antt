-- What is left in a buffer by the calls that write a header.
--     first_word      the first word of a message
--     start_sum       the sum of a message before its body
--     with_header     the header over a body of which the sum is known; nothing changes where there is no room for it
--     sealed         the message of a kind, of n octets, whose body stands from octet 4 on; nothing changes where there are not so many octets, or no
--                    message has so many
-- Assumes nothing: these are definitions.
use Rattle.std.specs.Prelude.{ℕ, ◌+◌, ◌-◌, ◌*◌, ◌&&◌, cond, List, [], ◌∷◌, leb, length, take, drop}
use Rattle.octets.specs.Octets.{be, put, ◌&◌}
use Rattle.checksum.specs.Sum.{add}
use Rattle.format.specs.Family.{Family}
use Rattle.format.specs.Header.{octet0, octet1, longest, before, message}
use Rattle.format.specs.declared.Kind.{Kind}
use Rattle.format.specs.declared.Path.{Path}

unfoldable pub first_word : Kind → ℕ
first_word k = octet0 k * 256 + octet1 k

unfoldable pub start_sum : Family → Path → Kind → ℕ → ℕ
start_sum f p k n = add (before f p n) (first_word k)

unfoldable pub with_header : Kind → ℕ → List ℕ → List ℕ
with_header k s d = cond (leb 4 (length d)) (put d 0 ((octet0 k ∷ octet1 k ∷ []) & be 2 (0xffff - s))) d

unfoldable pub sealed : Family → Path → Kind → ℕ → List ℕ → List ℕ
sealed f p k n d = cond (leb 4 n && leb n longest && leb n (length d)) (put d 0 (message f p k (take (n - 4) (drop 4 d)))) d
