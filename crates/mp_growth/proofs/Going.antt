-- A trail opens, and goes on by one period.
use Rattle.std.proofs.Common.{◌≡◌, ℕ, ◌+◌, List, [], ◌∷◌, ◌++◌, None, sym, ◌∙◌, ap, subst}
use Rattle.mp_model.specs.Arrivals.{arrivals_of, KeepsTo, counts_of}
use Rattle.mp_model.specs.Network.{Network, link_at, fed, entry}
use Rattle.mp_model.specs.NetworkRules.{IsNetwork}
use Rattle.mp_model.specs.Run.{opening}
use Rattle.mp_model.specs.Step.{State, step}
use Rattle.mp_laws.specs.Buckets.{IsFirstAbove}
use Rattle.mp_laws.proofs.Lists.{at_in}
use Rattle.mp_step.specs.Standing.{Standing, Stands, IsOn}
use Rattle.mp_step.specs.Taken.{HasTaken}
use Rattle.mp_overload.specs.Evens.{even_arrivals, even_periods, uneven_link}
use Rattle.mp_overload.specs.Growing.{HasGrown}
use Rattle.mp_overload.specs.Trails.{trail_period}
use Rattle.mp_overload.proofs.Accounts.{on_trail}
use Rattle.mp_overload.proofs.Evens.{even_more, even_permitted}
use Rattle.mp_overload.proofs.Trails.{trail_starts, trail_more}
use Rattle.mp_growth.specs.OnTrail.{IsTrail}

-- the opening is on a trail
pub opens : (net : Network) (st : Standing) → IsNetwork net → uneven_link net ≡ None → IsOn net st → Stands net st (opening net) → HasTaken net st [] → IsTrail net st
opens net st ok even on stands taken = record {
  network = ok;
  even = even;
  on = on;
  state = opening net;
  trail = trail_starts net;
  stands = stands;
  taken = subst (λ T. HasTaken net st (even_periods net T)) (sym stands.period) taken;
}

-- no even arrivals on a trail are above a bucket
pub none_above : (net : Network) (st : Standing) (counts : List ℕ) (l : ℕ) → IsTrail net st → counts ≡ even_arrivals net (st.period + 1) → IsFirstAbove net (even_periods net st.period) counts l → ⊥
none_above net st counts l is even above =
    let all = even_permitted net is.network is.even (st.period + 1) in
    let keeps : KeepsTo net.per (link_at net l).burst (link_at net l).rate (counts_of net (even_periods net (st.period + 1)) l) =
    at_in (λ l. KeepsTo net.per (link_at net l).burst (link_at net l).rate (counts_of net (even_periods net (st.period + 1)) l)) l (fed net) above.of_fed all.windows in
    above.above (subst (λ A. KeepsTo net.per (link_at net l).burst (link_at net l).rate (counts_of net A l)) (even_more net st.period ∙ ap (λ c. even_periods net st.period ++ c ∷ []) (sym even)) keeps)

-- the step of the model under even arrivals
pub steps_on : (net : Network) (st new : Standing) (stages counts : List ℕ) → counts ≡ even_arrivals net (st.period + 1) → ((state : State) → Stands net st state → Stands net new (step net stages (arrivals_of net counts) state)) →
    (state : State) → Stands net st state → Stands net new (trail_period net stages state)
steps_on net st new stages counts even steps state stands =
    subst (λ c. Stands net new (step net stages (arrivals_of net c) state)) (even ∙ ap (λ n. even_arrivals net (n + 1)) stands.period) (steps state stands)

-- a period with even arrivals and chosen stages stays on a trail
pub goes_on : (net : Network) (st new : Standing) (stages counts : List ℕ) → IsTrail net st → counts ≡ even_arrivals net (st.period + 1) → IsOn net new → new.period ≡ st.period + 1 →
    ((A : List (List ℕ)) → HasTaken net st A → HasTaken net new (A ++ counts ∷ [])) → ((state : State) → Stands net st state → Stands net new (step net stages (arrivals_of net counts) state)) → IsTrail net new
goes_on net st new stages counts is even on one taken steps = record {
  network = is.network;
  even = is.even;
  on = on;
  state = trail_period net stages is.state;
  trail = trail_more net is.state is.trail stages;
  stands = steps_on net st new stages counts even steps is.state is.stands;
  taken = subst (HasTaken net new) (ap (λ c. even_periods net st.period ++ c ∷ []) even ∙ sym (even_more net st.period) ∙ ap (even_periods net) (sym one)) (taken (even_periods net st.period) is.taken);
}

-- the queues of a trail have grown
pub trail_grown : (net : Network) (st : Standing) → IsTrail net st → (p : ℕ → ℕ) → HasGrown net p st.period (entry st.queues)
trail_grown net st is p =
    subst (λ T. HasGrown net p T (entry st.queues)) (sym is.stands.period) (subst (λ (qs : List ℕ). HasGrown net p is.state.period (entry qs)) (sym is.stands.queues) (on_trail net is.network is.state is.trail p))
