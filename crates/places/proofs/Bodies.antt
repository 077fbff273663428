-- Bodies, records read singly, options and attributes: what each comes to by every rule, and that by E3's it is the one that stands now.
--     chooses_asserts, chooses_pairs, chooses_record     by the kind
--     chooses_options, chooses_attribute                 of a Hello, and of Pop-Count
-- Assumes nothing.
use Prim.Native.Nat.{ℕ, zero, suc}
use mathlib.Core.Bool.{true, false}
use mathlib.Core.List.{List}
use lib.ListN.{length}
use lib.Dec.{leb}
use Rattle.format.specs.Reader.{got, nothing_more}
use Rattle.format.specs.Family.{Family}
use Rattle.format.specs.Record.{record_at}
use Rattle.format.specs.Body.{asserts_body, pairs_body}
use Rattle.format.specs.declared.Kind.{Kind}
use Rattle.format.specs.declared.Kind.TheVariants.{Hello, Assert, Simple, Aggregated, NullRegister, RegisterStop}
use Rattle.hello.specs.Options.{Said, options}
use Rattle.attributes.specs.Attribute.{attribute}
use Rattle.places.specs.Rules.{placed, asserts_body_by, pairs_body_by, record_at_by, options_by}
use Rattle.places.proofs.Inside.{keeps_zero_reserved, keeps_assert, keeps_pair, keeps_aggregated, keeps_option, keeps_attribute}
use Rattle.places.proofs.Chosen.{Chooses, chosen_cond, chosen_continue, chooses_placed, chooses_plain, chooses_bind, chooses_then, chooses_records}

module _ {o : List ℕ} (f : Family) where
  pub chooses_asserts : (k : Kind) (at : ℕ) → Chooses o at (λ ρ. asserts_body_by ρ f k) (asserts_body f k)
  unfolding asserts_body_by asserts_body
  chooses_asserts Hello at = chooses_plain _
  chooses_asserts Assert at =
      chooses_bind _ _ (chooses_placed (keeps_assert f)) λ e next.
      chooses_then (chooses_plain nothing_more) λ end.
      chooses_plain _
  chooses_asserts Simple at =
      chooses_then (chooses_placed keeps_zero_reserved) λ next.
      chooses_records (λ at. chooses_placed (keeps_assert f)) next
  chooses_asserts Aggregated at =
      chooses_then (chooses_placed keeps_zero_reserved) λ next.
      chooses_bind _ _ (chooses_records (λ at. chooses_placed (keeps_aggregated f)) next) λ rs end.
      chooses_plain _
  chooses_asserts NullRegister at = chooses_plain _
  chooses_asserts RegisterStop at = chooses_plain _

  pub chooses_pairs : (k : Kind) (at : ℕ) → Chooses o at (λ ρ. pairs_body_by ρ f k) (pairs_body f k)
  unfolding pairs_body_by pairs_body
  chooses_pairs Hello at = chooses_plain _
  chooses_pairs Assert at = chooses_plain _
  chooses_pairs Simple at = chooses_plain _
  chooses_pairs Aggregated at = chooses_plain _
  chooses_pairs NullRegister at = chooses_records (λ at. chooses_placed (keeps_pair f false)) at
  chooses_pairs RegisterStop at = chooses_records (λ at. chooses_placed (keeps_pair f true)) at

  pub chooses_record : (k : Kind) (at : ℕ) → Chooses o at (λ ρ. record_at_by ρ f k) (record_at f k)
  unfolding record_at_by record_at
  chooses_record Hello at = chooses_plain _
  chooses_record Assert at = chooses_bind _ _ (chooses_placed (keeps_assert f)) λ e next. chooses_plain _
  chooses_record Simple at = chooses_bind _ _ (chooses_placed (keeps_assert f)) λ e next. chooses_plain _
  chooses_record Aggregated at = chooses_plain _
  chooses_record NullRegister at = chooses_bind _ _ (chooses_placed (keeps_pair f false)) λ e next. chooses_plain _
  chooses_record RegisterStop at = chooses_bind _ _ (chooses_placed (keeps_pair f true)) λ e next. chooses_plain _

module _ {o : List ℕ} where
  pub chooses_options : (n : ℕ) (s : Said) (at : ℕ) → Chooses o at (λ ρ. options_by ρ n s) (options n s)
  unfolding options_by options
  chooses_options zero s at = chooses_plain (λ o at. got s at)
  chooses_options (suc n) s at = record {
    chosen = chosen_cond (leb (length o) at) (got s at)
        (chosen_continue _ _ (chooses_placed (keeps_option s)).chosen λ s' next. (chooses_options n s' next).chosen);
  }

  pub chooses_attribute : (at : ℕ) → Chooses o at (λ ρ. placed ρ attribute) attribute
  chooses_attribute at = chooses_placed keeps_attribute
