-- The two numbers of a growth.
use Rattle.std.proofs.Common.{◌≡◌, ◌*◌, ℤ, pos, List, Option, Some, None, option_map, refl, sym, ◌∙◌, ap}
use Rattle.std.proofs.lemmas.Option.{option_and_then_some, same_Some}
use Rattle.mp_model.specs.Load.{load, capacity}
use Rattle.mp_model.specs.Network.{Network}
use Rattle.mp_cert.specs.declared.types.Weighed.{Weighed}
use Rattle.mp_overload.specs.Forming.{natural_entry, growth_formed, lost_formed}
use Rattle.mp_growth.specs.declared.growing.GrowthRate.{GrowthRate}
use Rattle.mp_growth.specs.Formed.{rate_formed}

map_some : {A B : Type 0} (f : A → B) (o : Option A) (y : B) → option_map f o ≡ Some y → (x : A) × (o ≡ Some x) × (y ≡ f x)
map_some f None y e = absurd (cc)
map_some f (Some x) y e = (x, refl, sym (same_Some _ _ e))

-- where both are formed, each is
pub rate_parts : (net : Network) (p : List ℤ) (sums : Weighed) (rate : GrowthRate) → rate_formed net p sums ≡ Some rate → (growth_formed sums.load sums.served ≡ Some rate.per) × (lost_formed net p ≡ Some rate.lost)
unfolding rate_formed
rate_parts net p sums rate e =
    option_and_then_some _ (growth_formed sums.load sums.served) rate e (λ per hp e'.
    let found = map_some (λ lost. record { per = per; lost = lost }) (lost_formed net p) rate e' in
    (hp ∙ ap Some (sym (ap (λ (r : GrowthRate). r.per) found.2)), found.1 ∙ ap Some (sym (ap (λ (r : GrowthRate). r.lost) found.2))))

-- the growth is formed of the load and the capacity
pub growth_same : (net : Network) (p : List ℤ) (sums : Weighed) → sums.load ≡ pos (load net (natural_entry p)) → sums.served ≡ pos (net.per * capacity net (natural_entry p)) →
    growth_formed (pos (load net (natural_entry p))) (pos (net.per * capacity net (natural_entry p))) ≡ growth_formed sums.load sums.served
growth_same net p sums loads serves = ap (λ x. growth_formed x (pos (net.per * capacity net (natural_entry p)))) (sym loads) ∙ ap (growth_formed sums.load) (sym serves)
