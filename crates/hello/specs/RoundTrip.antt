-- Hellos written and read again, as a statement about calls (02, E1): "Reading it must give back exactly what went in."
--     WriteCall, Writes     a call of `write_hello` as its caller sees it, and that it keeps its contract
--     announced             what went in: a priority that is not there is not looked at, and is read as 0
--     Trip                  what holds after a call that wrote n octets
--     RoundTrip             that it holds after every such call, and that no two different Hellos are written as the same octets
-- The theorem is in proofs/RoundTrip.antt. Assumes nothing: these are definitions.
use Rattle.std.specs.Prelude.{ℕ, ◌+◌, ◌^◌, ◌<◌, ◌≡◌, cond, List, take, drop}
use Rattle.format.specs.Outcome.{gives}
use Rattle.format.specs.Family.{Family}
use Rattle.format.specs.Writing.{length_by}
use Rattle.format.specs.declared.Path.{Path}
use Rattle.hello.specs.Hello.{hello_message, read_hello, write_hello}
use Rattle.hello.specs.Answers.{hello_by, told, Unannounced}
use Rattle.hello.specs.declared.Hello.{Hello}
use Rattle.std.specs.Prelude.{Result, Ok}
use Rattle.format.specs.declared.Refusal.{Refusal}

pub record WriteCall : Type 0 where
  pub path : Path
  pub said : Hello
  pub answer : Result ℕ Refusal
  -- the buffer as it was lent, and as the call returned it
  pub lent : List ℕ
  pub returned : List ℕ

pub record Writes (f : Family) (c : WriteCall) : Type 0 where
  -- the fields hold 16 and 32 bits
  pub holdtime : c.said.holdtime < 256 ^ 2
  pub priority : c.said.priority < 256 ^ 4
  -- the contract
  pub answers : length_by c.answer ≡ (write_hello f c.path (hello_by c.said) c.lent).answer
  pub returns : c.returned ≡ (write_hello f c.path (hello_by c.said) c.lent).buffer

unfoldable pub announced : Hello → Hello
announced h = record { holdtime = h.holdtime; has_priority = h.has_priority; priority = cond h.has_priority h.priority 0; packing = h.packing }

pub record Trip (f : Family) (c : WriteCall) (n : ℕ) : Type 0 where
  -- 10, 14, 18 or 22 octets
  pub size : n ≡ 10 + cond c.said.has_priority 8 0 + cond c.said.packing 4 0
  -- the one byte form, and octets past the length stay
  pub form : take n c.returned ≡ hello_message f c.path (hello_by c.said)
  pub past : drop n c.returned ≡ drop n c.lent
  -- whatever `read_hello` answers of these n octets, with the same addresses, is what went in
  pub back : (r : Result Hello Refusal) → told r ≡ read_hello f c.path (take n c.returned) → Unannounced r → r ≡ Ok (announced c.said)

pub record RoundTrip (f : Family) : Type 0 where
  pub trip : (c : WriteCall) (n : ℕ) → Writes f c → length_by c.answer ≡ gives n → Trip f c n
  -- two calls, with any addresses and any buffers
  pub differ : (c : WriteCall) (n : ℕ) → Writes f c → length_by c.answer ≡ gives n → (c' : WriteCall) (n' : ℕ) → Writes f c' → length_by c'.answer ≡ gives n'
      → take n c.returned ≡ take n' c'.returned → announced c.said ≡ announced c'.said
