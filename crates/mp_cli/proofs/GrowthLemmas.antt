-- What is told of the growth of an overloaded network, and the run that it is told of.
use Rattle.std.proofs.Common.{◌≡◌, ◌+◌, ◌++◌, ◌∷◌, ◌≤ℤ◌, ℕ, ℤ, List, [], Bool, true, false, cond, pos, Ok, Err, Some, None, refl, sym, ◌∙◌, ap, subst, arith}
use Rattle.std.proofs.lemmas.Int.{ints}
use Rattle.std.specs.Int.{int_max}
use Rattle.std.specs.Prelude.{int_lt}
use Rattle.mp_model.specs.Network.{Network, entry}
use Rattle.mp_model.specs.NetworkRules.{IsNetwork}
use Rattle.mp_model.specs.Run.{opening, advance, state_after, greatest_stages}
use Rattle.mp_model.specs.Step.{State}
use Rattle.mp_cert.specs.Weighing.{weighed}
use Rattle.mp_cert.specs.declared.types.Weighed.{Weighed}
use Rattle.mp_growth.specs.Formed.{rate_formed, least_at, GrowsTo, ComesTo}
use Rattle.mp_growth.specs.OnTrail.{IsTrail, HasNoTrail}
use Rattle.mp_growth.specs.declared.fault.GrowthFault.{GrowthFault}
use Rattle.mp_growth.specs.declared.fault.GrowthFault.TheVariants as growing
use Rattle.mp_growth.specs.declared.fault.TrailFault.{TrailFault}
use Rattle.mp_growth.specs.declared.fault.TrailFault.TheVariants as trailing
use Rattle.mp_growth.specs.declared.growing.GrowthRate.{GrowthRate}
use Rattle.mp_overload.specs.Evens.{even_arrivals, even_periods, uneven_link}
use Rattle.mp_overload.specs.Forming.{natural_entry, queues_formed, least_formed}
use Rattle.mp_overload.specs.Growing.{growth, lost_to_rounding, weighed_queues, HasGrown}
use Rattle.mp_overload.specs.Trails.{trail_period, even_run}
use Rattle.mp_overload.proofs.Accounts.{grows_along}
use Rattle.mp_overload.proofs.Evens.{even_more}
use Rattle.mp_step.specs.Standing.{Standing, Stands}
use Rattle.mp_cli.specs.declared.overloading.Told.{Told}
use Rattle.mp_cli.specs.declared.overloading.TheConstants.{PERIODS}
use Rattle.mp_cli.specs.declared.outcome.Outcome.{Outcome}
use Rattle.mp_cli.specs.Overloading.{told_run, told_queues, told_formed, told_text, growth_text, StepsGreatest, IsSo, IsUntold, WritesGrowth}
use Rattle.mp_cli.specs.Outcomes.{outcome_of_trail, outcome_of_growth}
use Rattle.mp_cli.specs.Ports.{Ports, Answers}
use Rattle.mp_cli.specs.Statuses.{HasNoFault}
use Rattle.mp_cli.specs.Verdicts.{IsShownOverloaded}

-- ---- what is told is formed in order
module _ (net : Network) (T : ℕ) (vector : List ℤ) (q : ℕ → ℕ) where
  pub told_weighed : (told : Told) → told_formed net T vector q ≡ Some told → weighed net vector ≡ None → ⊥
  unfolding told_formed
  told_weighed told so none = let no : None ≡ Some told = rw none at so in cc

  pub untold_rate : (sums : Weighed) → weighed net vector ≡ Some sums → rate_formed net vector sums ≡ None → told_formed net T vector q ≡ None
  unfolding told_formed
  untold_rate sums first none = rw (first, none) refl

  pub untold_sum : (sums : Weighed) (rate : GrowthRate) → weighed net vector ≡ Some sums → rate_formed net vector sums ≡ Some rate → queues_formed net vector q ≡ None → told_formed net T vector q ≡ None
  unfolding told_formed
  untold_sum sums rate first second none = rw (first, second, none) refl

  pub untold_least : (sums : Weighed) (rate : GrowthRate) (sum : ℤ) → weighed net vector ≡ Some sums → rate_formed net vector sums ≡ Some rate → queues_formed net vector q ≡ Some sum → least_formed T rate.per rate.lost ≡ None → told_formed net T vector q ≡ None
  unfolding told_formed
  untold_least sums rate sum first second third none = rw (first, second, third, none) refl

  pub told_is : (sums : Weighed) (rate : GrowthRate) (sum least : ℤ) → weighed net vector ≡ Some sums → rate_formed net vector sums ≡ Some rate → queues_formed net vector q ≡ Some sum → least_formed T rate.per rate.lost ≡ Some least →
      told_formed net T vector q ≡ Some (record { rate = rate; sum = sum; least = least })
  unfolding told_formed
  told_is sums rate sum least first second third last = rw (first, second, third, last) refl

-- ---- the run of even arrivals
state_more : (net : Network) (state : State) (A : List (List ℕ)) (counts : List ℕ) → state_after net state (A ++ counts ∷ []) ≡ advance net counts (state_after net state A)
state_more net state [] counts = refl
state_more net state (a ∷ A) counts = state_more net (advance net a state) A counts

end_more : (net : Network) (T : ℕ) → even_run net (T + 1) ≡ advance net (even_arrivals net (T + 1)) (even_run net T)
end_more net T = ap (state_after net (opening net)) (even_more net T) ∙ state_more net (opening net) (even_periods net T) (even_arrivals net (T + 1))

-- after i periods
pub record RanTo (net : Network) (st : Standing) (i : ℕ) : Type 0 where
  pub on : IsTrail net st
  pub stands : Stands net st (even_run net i)
  pub period : st.period ≡ i

pub ran_start : (net : Network) (st : Standing) → IsTrail net st → Stands net st (opening net) → RanTo net st 0
ran_start net st on stands = record { on = on; stands = stands; period = stands.period }

pub ran_more : (net : Network) (st new : Standing) (i : ℕ) → RanTo net st i → StepsGreatest net st new → IsTrail net new → new.period ≡ st.period + 1 → RanTo net new (i + 1)
ran_more net st new i ran steps on one =
    let last : (even_run net i).period ≡ i = sym ran.stands.period ∙ ran.period in
    record {
      on = on;
      stands = subst (Stands net new) (ap (λ n. advance net (even_arrivals net (n + 1)) (even_run net i)) last ∙ sym (end_more net i)) (steps (even_run net i) ran.stands);
      period = one ∙ ap (λ n. n + 1) ran.period;
    }

pub ran_all : (net : Network) (st : Standing) (i : ℕ) → RanTo net st i → i ≡ PERIODS → Stands net st (told_run net)
unfolding told_run
ran_all net st i ran all = subst (λ (T : ℕ). Stands net st (even_run net T)) all ran.stands

-- the stages of greatest pressure at the queues of a standing
pub steps_greatest : (net : Network) (st new : Standing) (stages : List ℕ) → stages ≡ greatest_stages net (entry st.queues) → ((state : State) → Stands net st state → Stands net new (trail_period net stages state)) → StepsGreatest net st new
steps_greatest net st new stages chosen steps state stands =
    subst (λ ss. Stands net new (trail_period net ss state)) (chosen ∙ ap (λ qs. greatest_stages net (entry qs)) stands.queues) (steps state stands)

-- ---- what is told is so
max_le : (x : ℤ) (n : ℕ) → x ≤ℤ pos n → int_max (pos 0) x ≤ℤ pos n
max_le x n h = go (int_lt x (pos 0))
  where
    go : (b : Bool) → cond b (pos 0) x ≤ℤ pos n
    go true = omega (arith, ints)
    go false = h

least_reached : (net : Network) (T : ℕ) (p q : ℕ → ℕ) → HasGrown net p T q → least_at T (growth net p) (pos (lost_to_rounding net p)) ≤ℤ pos (weighed_queues net p q)
least_reached net T p q grown = max_le _ _ grown

text_is : (net : Network) (vector : List ℤ) (told : Told) → IsSo net vector told → told_text told.rate.per told.rate.lost told.sum told.least vector ≡ growth_text net vector
text_is net vector told so =
    let p = natural_entry vector in
    let least = so.least ∙ ap (λ per. least_at PERIODS per told.rate.lost) so.per ∙ ap (λ lost. least_at PERIODS (growth net p) lost) so.lost in
    ap (λ per. told_text per told.rate.lost told.sum told.least vector) so.per ∙ ap (λ lost. told_text (growth net p) lost told.sum told.least vector) so.lost
    ∙ ap (λ sum. told_text (growth net p) (pos (lost_to_rounding net p)) sum told.least vector) so.sum
    ∙ ap (λ least. told_text (growth net p) (pos (lost_to_rounding net p)) (pos (weighed_queues net p (told_queues net))) least vector) least

pub writes_growth : (net : Network) (vector : List ℤ) (told : Told) (outcome : Outcome) (ports : Ports) → IsNetwork net → IsShownOverloaded net vector → IsSo net vector told → Answers outcome ports (told_text told.rate.per told.rate.lost told.sum told.least vector) → WritesGrowth outcome net ports vector
writes_growth net vector told outcome ports ok shown so answers = record {
  shows = shown.shows;
  none = shown.none;
  grows = grows_along net ok (natural_entry vector);
  least = least_reached net PERIODS (natural_entry vector) (told_queues net) so.grown;
  answers = subst (Answers outcome ports) (text_is net vector told so) answers;
}

-- ---- where nothing is told
pub untold_trail : (fault : TrailFault) (net : Network) (vector : List ℤ) → HasNoTrail fault (uneven_link net) → IsUntold (outcome_of_trail fault) net vector
untold_trail (trailing.Uneven link) net vector least = least
untold_trail trailing.NoMemory net vector least = tt

pub untold_growth : (fault : GrowthFault) (net : Network) (vector : List ℤ) → uneven_link net ≡ None → GrowsTo (Err fault) net vector → IsUntold (outcome_of_growth fault) net vector
untold_growth growing.Vector net vector even none = (even, none)
untold_growth growing.Growth net vector even none = (even, (none.sums, none.formed), untold_rate net PERIODS vector (told_queues net) none.sums none.formed none.is)

-- the queues of the run are those of a standing at its end
pub queues_at_end : (net : Network) (st : Standing) → Stands net st (told_run net) → (λ (k : ℕ). entry st.queues k) ≡ told_queues net
queues_at_end net st stands = ap (λ (qs : List ℕ). λ (k : ℕ). entry qs k) stands.queues

pub untold_queues : (fault : GrowthFault) (net : Network) (vector : List ℤ) (st : Standing) (rate : GrowthRate) → uneven_link net ≡ None → GrowsTo (Ok rate) net vector → Stands net st (told_run net) → ComesTo (Err fault) (queues_formed net vector (entry st.queues)) →
    IsUntold (outcome_of_growth fault) net vector
untold_queues growing.Vector net vector st rate even grows stands none = absurd none
untold_queues growing.Growth net vector st rate even grows stands none =
    let at_end = subst (λ (q : ℕ → ℕ). queues_formed net vector q ≡ None) (queues_at_end net st stands) none in
    (even, (grows.sums, grows.formed), untold_sum net PERIODS vector (told_queues net) grows.sums rate grows.formed grows.is at_end)

pub untold_last : (fault : GrowthFault) (net : Network) (vector : List ℤ) (st : Standing) (rate : GrowthRate) (sum : ℤ) → uneven_link net ≡ None → GrowsTo (Ok rate) net vector → Stands net st (told_run net) → queues_formed net vector (entry st.queues) ≡ Some sum →
    ComesTo (Err fault) (least_formed PERIODS rate.per rate.lost) → IsUntold (outcome_of_growth fault) net vector
untold_last growing.Vector net vector st rate sum even grows stands formed none = absurd none
untold_last growing.Growth net vector st rate sum even grows stands formed none =
    let at_end = subst (λ (q : ℕ → ℕ). queues_formed net vector q ≡ Some sum) (queues_at_end net st stands) formed in
    (even, (grows.sums, grows.formed), untold_least net PERIODS vector (told_queues net) grows.sums rate sum grows.formed grows.is at_end none)

pub tells : (net : Network) (vector : List ℤ) (st : Standing) (rate : GrowthRate) (sum least : ℤ) → Stands net st (told_run net) → GrowsTo (Ok rate) net vector → queues_formed net vector (entry st.queues) ≡ Some sum → least_formed PERIODS rate.per rate.lost ≡ Some least →
    told_formed net PERIODS vector (told_queues net) ≡ Some (record { rate = rate; sum = sum; least = least })
tells net vector st rate sum least stands grows formed last =
    told_is net PERIODS vector (told_queues net) grows.sums rate sum least grows.formed grows.is (subst (λ (q : ℕ → ℕ). queues_formed net vector q ≡ Some sum) (queues_at_end net st stands) formed) last

pub is_so : (net : Network) (vector : List ℤ) (st : Standing) (rate : GrowthRate) (sum least : ℤ) → Stands net st (told_run net) → st.period ≡ PERIODS → rate.per ≡ growth net (natural_entry vector) → rate.lost ≡ pos (lost_to_rounding net (natural_entry vector)) →
    sum ≡ pos (weighed_queues net (natural_entry vector) (entry st.queues)) → least ≡ least_at PERIODS rate.per rate.lost → HasGrown net (natural_entry vector) st.period (entry st.queues) → IsSo net vector (record { rate = rate; sum = sum; least = least })
is_so net vector st rate sum least stands all per lost weighs last grown = record {
  per = per;
  lost = lost;
  sum = subst (λ (q : ℕ → ℕ). sum ≡ pos (weighed_queues net (natural_entry vector) q)) (queues_at_end net st stands) weighs;
  least = last;
  grown = subst (λ (q : ℕ → ℕ). HasGrown net (natural_entry vector) PERIODS q) (queues_at_end net st stands) (subst (λ (T : ℕ). HasGrown net (natural_entry vector) T (entry st.queues)) all grown);
}

pub growth_inside : (fault : GrowthFault) → HasNoFault (outcome_of_growth fault)
growth_inside growing.Vector = record { store = λ (e : 5 ≡ 2). absurd (omega arith); ports = record { read = λ (e : 5 ≡ 10). absurd (omega arith); write = λ (e : 5 ≡ 11). absurd (omega arith) } }
growth_inside growing.Growth = record { store = λ (e : 5 ≡ 2). absurd (omega arith); ports = record { read = λ (e : 5 ≡ 10). absurd (omega arith); write = λ (e : 5 ≡ 11). absurd (omega arith) } }
