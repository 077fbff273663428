-- A Hello message, read and written (01, "Octets of a message" and "Neighbours and election"; 02, E1): the table of kinds has octet 0
-- "0x20", octet 1 "ignored", body "options".
--     Hello, hello_of             what a Hello says: "Holdtime is type 1, length 2 (absent: 105 s); DR priority type 19"
--     hello_options, options_fine  the options from octet 4 to the end; only whether they are refused
--     read_hello                  the call: 1, 2, 3, 4 of the header, then the options in octet order
--     said_in, hello_message       the message of a Hello: each option that it has
--     write_hello                 the call: 8, or the message at the front of the buffer
-- Assumes nothing: these are definitions.
use Rattle.std.specs.Prelude.{ℕ, Bool, List, length, ltb}
use Rattle.std.proofs.Math.Option.{Option, none, some}
use Rattle.format.specs.Outcome.{Outcome, gives, refuses, refuse_if, ◌>>=◌, ◌>>◌}
use Rattle.format.specs.Reader.{from}
use Rattle.format.specs.Family.{Family}
use Rattle.format.specs.Header.{header, message}
use Rattle.format.specs.Writing.{WritingCall, into_buffer}
use Rattle.format.specs.declared.Kind.{Kind}
use Rattle.format.specs.declared.Path.{Path}
use Rattle.format.specs.declared.Kind.TheVariants.{Hello as of_hello, Assert, Simple, Aggregated, NullRegister, RegisterStop}
use Rattle.hello.specs.Options.{Said, said, nothing, options, options_octets}

-- the holdtime, the DR priority if announced, and whether packing is
pub data Hello : Type 0 where
  hello : ℕ → Option ℕ → Bool → Hello

-- "absent: 105 s"
unfoldable pub holdtime_of : Option ℕ → ℕ
holdtime_of none = 105
holdtime_of (some n) = n

unfoldable pub hello_of : Said → Hello
hello_of (said h p c) = hello (holdtime_of h) p c

unfoldable pub hello_options : List ℕ → Outcome Hello
hello_options o = do
  s ← from 4 (options (length o) nothing) o
  gives (hello_of s)

-- what they say left out
unfoldable pub options_fine : List ℕ → Outcome (Unit {0})
options_fine o = do
  hello_options o
  gives tt

-- "kind not one that the call reads": 4
unfoldable pub hello_body : Kind → List ℕ → Outcome Hello
hello_body of_hello o = hello_options o
hello_body Assert o = refuses 4 0
hello_body Simple o = refuses 4 0
hello_body Aggregated o = refuses 4 0
hello_body NullRegister o = refuses 4 0
hello_body RegisterStop o = refuses 4 0

unfoldable pub read_hello : Family → Path → List ℕ → Outcome Hello
read_hello f path o = do
  k ← header f path o
  hello_body k o

-- ---- written

-- "from a router's holdtime, priority if it has one, and packing ability": holdtime is "always written"
unfoldable pub said_in : Hello → Said
said_in (hello h p c) = said (some h) p c

unfoldable pub hello_message : Family → Path → Hello → List ℕ
hello_message f path h = message f path of_hello (options_octets (said_in h))

-- "8 if the buffer is smaller than the message; there is no other"
unfoldable pub write_hello : Family → Path → Hello → List ℕ → WritingCall
write_hello f path h d = into_buffer d do
  refuse_if (ltb (length d) (length (hello_message f path h))) 8 0
  gives (hello_message f path h)
