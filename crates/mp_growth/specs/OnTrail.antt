-- A run under even arrivals, whatever stages the junctions show.
use Rattle.std.specs.Prelude.{◌≡◌, ℕ, None, Some, Option}
use Rattle.mp_model.specs.Network.{Network}
use Rattle.mp_model.specs.NetworkRules.{IsNetwork}
use Rattle.mp_model.specs.Step.{State}
use Rattle.mp_step.specs.Standing.{Standing, Stands, IsOn}
use Rattle.mp_step.specs.Taken.{HasTaken}
use Rattle.mp_overload.specs.Evens.{even_periods, uneven_link}
use Rattle.mp_overload.specs.Trails.{IsOnTrail}
use Rattle.mp_growth.specs.declared.fault.TrailFault.{TrailFault}
use Rattle.mp_growth.specs.declared.fault.TrailFault.TheVariants.{Uneven, NoMemory}

-- A run stands on a trail of the network where no link of it is uneven, the run stands at a state to which some choices of stages lead under even arrivals, and these are the arrivals that it has taken.
pub record IsTrail (net : Network) (st : Standing) : Type 0 where
  pub network : IsNetwork net
  pub even : uneven_link net ≡ None
  pub on : IsOn net st
  pub state : State
  pub trail : IsOnTrail net state
  pub stands : Stands net st state
  pub taken : HasTaken net st (even_periods net st.period)

-- A network has no trail where this is its least uneven link, or since memory ran out.
abbrev pub HasNoTrail : TrailFault → Option ℕ → Type 0
HasNoTrail (Uneven link) least = least ≡ Some link
HasNoTrail NoMemory least = Unit {0}
