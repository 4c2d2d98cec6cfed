-- A worked cache: the weights on a tandem with a fed second link, before and after a change of the second count.
use Rattle.std.proofs.Common.{◌≡◌, [], ◌∷◌, pos, neg_ℤ, set, refl}
use Rattle.mp_model.specs.Network.{entry}
use Rattle.mp_model.specs.Pressure.{weight}
use Rattle.mp_model.specs.Worked.{fed_tandem}

before : (weight fed_tandem (entry (1 ∷ 3 ∷ [])) 1 ≡ neg_ℤ (pos 2)) × (weight fed_tandem (entry (1 ∷ 3 ∷ [])) 2 ≡ pos 3)
before = (refl, refl)

after : (weight fed_tandem (entry (set (1 ∷ 3 ∷ []) 1 0)) 1 ≡ pos 1) × (weight fed_tandem (entry (set (1 ∷ 3 ∷ []) 1 0)) 2 ≡ pos 0)
after = (refl, refl)
