-- What is so where a guard is found, and why none is.
use Rattle.std.proofs.Common.{◌≡◌, ℕ, List, refl, sym, subst, Err}
use Rattle.mp_laws.proofs.Lists.{AllOf-map}
use Rattle.mp_model.specs.Guard as model
use Rattle.mp_model.specs.GuardedBursts.{AreAtRest}
use Rattle.mp_model.specs.Lights.{HasSurplus}
use Rattle.mp_model.specs.Network.{Network, movement_numbers, entry}
use Rattle.mp_model.specs.NetworkRules.{IsNetwork}
use Rattle.mp_finder.specs.Finding.{finding, HasNoGuard, AreLeast, IsAsked}
use Rattle.mp_finder.specs.Giving.{GivesFinding}
use Rattle.mp_finder.specs.declared.fault.FindFault.{FindFault}
use Rattle.mp_finder.specs.declared.fault.FindFault.TheVariants as fault
use Rattle.mp_guard.proofs.RestLemmas.{no_rest}
use Rattle.mp_guard.specs.Bursts.{ComeToRest, NoneRests}
use Rattle.mp_guard.specs.GuardText.{guard_text}
use Rattle.mp_guard.specs.Surpluses.{AreSurpluses}
use Rattle.mp_guard.specs.declared.fault.BurstFault.{BurstFault}
use Rattle.mp_guard.specs.declared.fault.BurstFault.TheVariants as bursting
use Rattle.mp_guarded.proofs.Sweeps.{sweeps_least}
use Rattle.mp_guarded.specs.Sweeps.{AreLeastBursts}
use Rattle.mp_cli.specs.declared.outcome.Outcome.{Outcome}
use Rattle.mp_cli.specs.Guarding.{HasLeastBursts, WritesGuard, IsUnguarded, HasNoBursts}
use Rattle.mp_cli.specs.Outcomes.{outcome_of_finding, outcome_of_bursts}
use Rattle.mp_cli.specs.Ports.{Ports, Answers}

pub search_so : (broken : FindFault) (net : Network) (C L D : ℕ) → GivesFinding (Err broken) (finding net C L D) → (broken ≡ fault.NoRates → HasNoGuard net D) → IsUnguarded (outcome_of_finding broken) net C L D
search_so fault.NoRates net C L D gives none = (gives, none refl)
search_so fault.Sweeps net C L D gives none = (refl, gives)
search_so (fault.Overflow j) net C L D gives none = gives
search_so (fault.PivotLimit j) net C L D gives none = gives
search_so (fault.Full j) net C L D gives none = gives
search_so fault.NoMemory net C L D gives none = tt

pub no_bursts : (broken : BurstFault) (net : Network) (guard : model.Guard) (surpluses : List ℕ) → AreSurpluses net surpluses → (broken ≡ bursting.Sweeps → NoneRests net guard surpluses) → HasNoBursts (outcome_of_bursts broken) net guard
no_bursts bursting.Sweeps net guard surpluses are none = no_rest net guard surpluses are (none refl)
no_bursts bursting.NoMemory net guard surpluses are none = tt

-- bursts that come to rest are the least
least_bursts : (net : Network) → IsNetwork net → (guard : model.Guard) → model.Guards net guard → ComeToRest net guard → HasLeastBursts net guard
least_bursts net ok guard guards rest =
    let found = rest.found in
    let has = AllOf-map (λ k. model.IsSurplus net k (entry rest.surpluses k)) (λ k. HasSurplus net k (entry rest.surpluses k)) (λ k is. is.holds) (movement_numbers net) rest.are.each in
    record {
      surpluses = rest.surpluses;
      are = rest.are;
      bursts = rest.bursts;
      least = subst (AreLeastBursts net guard (entry rest.surpluses)) (sym found.found)
          (sweeps_least net ok guard guards (entry rest.surpluses) has found.sweeps (subst (AreAtRest net guard (entry rest.surpluses)) found.found found.rest));
    }

pub writes_guard : (outcome : Outcome) (net : Network) (C L D : ℕ) (ports : Ports) (guard : model.Guard) → IsNetwork net → IsAsked C L D guard → model.Guards net guard → AreLeast net D guard.rates → ComeToRest net guard → Answers outcome ports (guard_text guard) →
    WritesGuard outcome net C L D ports guard
writes_guard outcome net C L D ports guard ok asked guards least rest answers = record { numbers = asked; guards = guards; least = least; bursts = least_bursts net ok guard guards rest; answers = answers }
