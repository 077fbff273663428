-- A call that writes octets into a lent buffer.
--     WritingCall     answer, and buffer as the call returns
--     into_buffer      the octets that a call comes to, at the buffer's front; a refusal leaves it as it was
--     length_of        what is answered of them: how many they are
--     length_by        01's number and values for each case of an answer
-- Assumes nothing: these are definitions.
use Rattle.std.specs.Prelude.{ℕ, List, length, Result, Ok, Err}
use Rattle.octets.specs.Octets.{put}
use Rattle.format.specs.Outcome.{Outcome, gives, refuses, reason_number}
use Rattle.format.specs.declared.Refusal.{Refusal}

pub record WritingCall : Type 0 where
  -- the length written
  pub answer : Outcome ℕ
  -- the lent buffer as the call returns
  pub buffer : List ℕ

unfoldable pub length_of : Outcome (List ℕ) → Outcome ℕ
length_of (gives e) = gives (length e)
length_of (refuses n p) = refuses n p

unfoldable pub into_buffer : List ℕ → Outcome (List ℕ) → WritingCall
into_buffer d (gives e) = record { answer = gives (length e); buffer = put d 0 e }
into_buffer d (refuses n p) = record { answer = refuses n p; buffer = d }

unfoldable pub length_by : Result ℕ Refusal → Outcome ℕ
length_by (Ok n) = gives n
length_by (Err r) = refuses (reason_number r.reason) r.place
