-- Writes of counts into lists of signed numbers.
use Rattle.std.proofs.Common.{◌≡◌, ℕ, zero, suc, List, [], ◌∷◌, set, map, ℤ, pos, refl, ◌∙◌, ap}
use Rattle.std.specs.Prelude.{unsigned_abs}
use Rattle.mp_press.specs.Queues.{naturals, NoneNegative}

pub naturals_set : (zs : List ℤ) (i q : ℕ) → naturals (set zs i (pos q)) ≡ set (naturals zs) i q
naturals_set [] i q = refl
naturals_set (z ∷ zs) zero q = refl
naturals_set (z ∷ zs) (suc i) q = ap (λ t. unsigned_abs z ∷ t) (naturals_set zs i q)

map_set : (ns : List ℕ) (i q : ℕ) → map pos (set ns i q) ≡ set (map pos ns) i (pos q)
map_set [] i q = refl
map_set (n ∷ ns) zero q = refl
map_set (n ∷ ns) (suc i) q = ap (λ t. pos n ∷ t) (map_set ns i q)

pub none_set : (zs : List ℤ) (i q : ℕ) → NoneNegative zs → NoneNegative (set zs i (pos q))
none_set zs i q h = ap (map pos) (naturals_set zs i q) ∙ map_set (naturals zs) i q ∙ ap (λ t. set t i (pos q)) h
