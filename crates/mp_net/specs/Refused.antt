-- What a refusal of a network says.
use Rattle.std.specs.Prelude.{◌≡◌, Option, Some, None, Result, Ok, Err}
use Rattle.mp_net.specs.declared.fault.NetFault.{NetFault}
use Rattle.mp_net.specs.declared.fault.NetFault.TheVariants.{Rule, NoMemory}
use Rattle.mp_net.specs.declared.fault.NetRule.{NetRule}
use Rattle.mp_net.specs.declared.fault.Spot.{Spot}

-- The fault names the first rule that is broken with its first spot, or is out of memory.
abbrev pub IsFirst : Option (NetRule × Spot) → NetFault → Type 0
IsFirst broken (Rule rule spot) = broken ≡ Some (rule, spot)
IsFirst broken NoMemory = Unit {0}

-- A rule that is broken at a spot refuses, and one that is not lets pass.
abbrev pub refusal : NetRule → Option Spot → Result (Unit {0}) NetFault
refusal rule None = Ok tt
refusal rule (Some spot) = Err (Rule rule spot)
