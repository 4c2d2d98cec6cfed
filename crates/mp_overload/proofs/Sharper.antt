-- Sharper forms of the law of growth fail.
use Rattle.std.proofs.Common.{[], ◌∷◌, pos, ◌≤ℤ◌, arith, refl, lit≤}
use Rattle.std.specs.List.{IsDistinct}
use Rattle.std.proofs.lemmas.Int.{ints}
use Rattle.mp_model.specs.NetworkRules.{IsNetwork}
use Rattle.mp_overload.specs.Cases.{narrow, NotFaster, NotLessLost}

narrow_network : IsNetwork narrow
unfolding IsDistinct
narrow_network = record {
  shares = lit≤ tt;
  per = lit≤ tt;
  share = (lit≤ tt, tt);
  flow = (lit≤ tt, tt);
  some_stage = (lit≤ tt, tt);
  split = (refl, tt);
  from = (refl, tt);
  to = (tt, tt);
  placed = (refl, tt);
  stages = ((((tt, tt), (refl, tt)), tt), tt);
  together = (((refl, tt), tt), tt);
  way_out = ((1 ∷ [], (refl, tt)), tt);
}

-- after two periods 3 vehicles are queued, and not 4
pub not_faster : NotFaster
not_faster law = let h : pos 4 ≤ℤ pos 3 = law narrow narrow_network (λ k. 1) ((1 ∷ []) ∷ (1 ∷ []) ∷ []) in absurd (omega (arith, ints))

-- at the opening nothing is queued, and not 1
pub not_less_lost : NotLessLost
not_less_lost law = let h : pos 1 ≤ℤ pos 0 = law narrow narrow_network (λ k. 1) [] in absurd (omega (arith, ints))
