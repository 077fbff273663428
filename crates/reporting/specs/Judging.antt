-- What comes of one message of a file (02, E4): "accepted is exactly what its reading call accepts with room enough".
--     entries_in     the kind and the number of entries that a message unpacks to
--     judged_as      by its kind, that of the header: what the reading call of that kind accepts, or its refusal
--     judged        by the message alone
-- That this is what the reading calls answer is said in Claims.antt. Assumes nothing: these are definitions.
use Rattle.std.specs.Prelude.{ℕ, List, length}
use Rattle.format.specs.Outcome.{Outcome, gives, ◌>>=◌, ◌>>◌}
use Rattle.format.specs.Family.{ipv4}
use Rattle.format.specs.Path.{nowhere}
use Rattle.format.specs.Header.{header}
use Rattle.format.specs.Unpacking.{Unpacked, unpacked, unpack_asserts, unpack_pairs}
use Rattle.format.specs.Reading.{Found, found}
use Rattle.format.specs.declared.Kind.{Kind}
use Rattle.format.specs.declared.Kind.TheVariants.{Hello, Assert, Simple, Aggregated, NullRegister, RegisterStop}
use Rattle.hello.specs.Hello.{read_hello}

-- "A message's records are the entries it unpacks to"
unfoldable pub entries_in : {A : Type 0} → Unpacked A → Outcome Found
entries_in (unpacked k es) = gives (found k (length es))

-- "a Hello's none"
unfoldable pub judged_as : Kind → List ℕ → Outcome Found
judged_as Hello m = do
  read_hello ipv4 nowhere m
  gives (found Hello 0)
judged_as Assert m = unpack_asserts ipv4 nowhere m >>= entries_in
judged_as Simple m = unpack_asserts ipv4 nowhere m >>= entries_in
judged_as Aggregated m = unpack_asserts ipv4 nowhere m >>= entries_in
judged_as NullRegister m = unpack_pairs ipv4 nowhere m >>= entries_in
judged_as RegisterStop m = unpack_pairs ipv4 nowhere m >>= entries_in

unfoldable pub judged : List ℕ → Outcome Found
judged m = do
  k ← header ipv4 nowhere m
  judged_as k m
