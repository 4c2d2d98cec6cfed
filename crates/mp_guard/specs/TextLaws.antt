-- What is printed of a guard is read back.
use Rattle.std.specs.Prelude.{◌≡◌, ◌<◌, ◌^◌, length, Ok}
use Rattle.std.specs.List.{AllByRecursion}
use Rattle.mp_model.specs.Guard.{Guard, HasGuardLengths}
use Rattle.mp_model.specs.Network.{Network}
use Rattle.mp_model.specs.NetworkRules.{IsInRange}
use Rattle.mp_guard.specs.GuardText.{guard_text, guard_meaning}

-- A guard is one of a text where all its numbers are below 2^127.
pub record IsWritable (guard : Guard) : Type 0 where
  pub cycle : guard.cycle < 2 ^ 127
  pub lost : guard.lost < 2 ^ 127
  pub denominator : guard.denominator < 2 ^ 127
  pub rates : AllByRecursion (λ n. n < 2 ^ 127) guard.rates
  pub greens : AllByRecursion (λ row. AllByRecursion (λ n. n < 2 ^ 127) row) guard.greens

-- The text of a guard with the lengths of a network in range means that guard.
abbrev pub GuardTextLaw : Type 0
GuardTextLaw = (net : Network) (guard : Guard) → IsInRange net → HasGuardLengths net guard → IsWritable guard → guard_meaning net (guard_text guard) ≡ Ok guard

-- The text of such a guard has fewer than 100,000 bytes.
abbrev pub GuardLengthLaw : Type 0
GuardLengthLaw = (net : Network) (guard : Guard) → IsInRange net → HasGuardLengths net guard → IsWritable guard → length (guard_text guard) < 100000
