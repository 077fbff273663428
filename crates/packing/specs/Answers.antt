-- What the answers of this crate's functions mean: 01's number and values for each case.
--     packed               the answer of a packing call
--     chosen_by             the answer of a call that packs both assert forms
--     limit_of, limited     the limit as read or a refusal, and what a call asks with the entries left out
-- Assumes nothing: these are definitions.
use Rattle.std.specs.Prelude.{ℕ}
use Rattle.format.specs.Outcome.{Outcome, gives, refuses}
use Rattle.format.specs.Packing.{Due, due, Wrote, wrote, Chosen, chosen}
use Rattle.packing.specs.declared.calls.Packing.{Packing}
use Rattle.packing.specs.declared.choice.Choice.{Choice}
use Rattle.std.specs.Prelude.{Result, Ok, Err}
use Rattle.format.specs.declared.Refusal.{Refusal}
use Rattle.format.specs.Outcome.{reason_number}

unfoldable pub packed : Result Packing Refusal → Outcome Wrote
packed (Ok p) = gives (wrote p.length p.taken)
packed (Err r) = refuses (reason_number r.reason) r.place

unfoldable pub chosen_by : Result Choice Refusal → Outcome Chosen
chosen_by (Ok c) = gives (chosen c.aggregated c.length c.taken)
chosen_by (Err r) = refuses (reason_number r.reason) r.place

unfoldable pub limit_of : Result ℕ Refusal → Outcome ℕ
limit_of (Ok l) = gives l
limit_of (Err r) = refuses (reason_number r.reason) r.place

unfoldable pub limited : {A : Type 0} → Outcome (Due A) → Outcome ℕ
limited (gives (due l es)) = gives l
limited (refuses n p) = refuses n p
