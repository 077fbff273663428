-- `packing::record::put_group` meets its contract: stores, and the address past them.
-- Assumes nothing.
use native.Mathlib.Omega.{arith}
use mathlib.Core.List.{[], ◌∷◌}
use mathlib.Core.Path.{refl, ap₂, ◌∙◌}
use Rattle.octets.specs.Octets.{number_at, be, put}
use Rattle.octets.proofs.Laws.{stores_put, put_next}
use Rattle.format.specs.Family.{family_of}
use Rattle.format.specs.Address.{group_octets}
use Rattle.packing.proofs.record.put_group.Goals as goal

pub returns : goal.returns
unfolding group_octets
returns c =
    let a = c.args in
    let w = (family_of a.ipv6).width in
    let first = c.family_number.result ∷ 0 ∷ 0 ∷ c.mask_length.result ∷ [] in
    put_next a.d.now a.out first _ (stores_put a.d.now a.out first (omega (arith, c.requires))) c.put_octets.ensures refl
    ∙ ap₂ (λ x y. put a.d.now a.out (x ∷ 0 ∷ 0 ∷ y ∷ be w (number_at w a.e.now a.at))) c.family_number.ensures c.mask_length.ensures
