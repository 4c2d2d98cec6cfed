-- Worked linear systems, each computed from the stated calculation.
use Rattle.std.proofs.Common.{◌≡◌, [], ◌∷◌, pos, negsuc, refl}
use Rattle.mp_num.specs.Checked.{within}
use Rattle.mp_num.specs.Divisor.{euclid, gcd_of, divisor, divided, reduced}
use Rattle.mp_num.specs.Multiple.{lcm_of}
use Rattle.mp_num.specs.Passing.{each2, each, stepped}
use Rattle.mp_num.specs.Row.{combined_entry, combined}
use Rattle.mp_flow.specs.Answers.{Answer, Kernel, denominator, answer_at, answers, kernel_at, kernel, solved}
use Rattle.mp_flow.specs.Elimination.{negated, upright, cleared, turned, turn, eliminated}

-- 2x + y = 3 and x + 3y = 5 have the answer 4 and 7 over 5; x + 2y = 1 and 2x + 4y = 2 have the kernel -2 and 1
record AreWorkedSystems : Type 0 where
  answer : solved 2 1 ((pos 2 ∷ pos 1 ∷ pos 3 ∷ []) ∷ (pos 1 ∷ pos 3 ∷ pos 5 ∷ []) ∷ []) ≡ Answer (pos 4 ∷ pos 7 ∷ []) (pos 5)
  singular : solved 2 1 ((pos 1 ∷ pos 2 ∷ pos 1 ∷ []) ∷ (pos 2 ∷ pos 4 ∷ pos 2 ∷ []) ∷ []) ≡ Kernel (negsuc 1 ∷ pos 1 ∷ [])

worked_systems : AreWorkedSystems
unfolding within euclid gcd_of divisor divided reduced lcm_of each2 each stepped combined_entry combined denominator answer_at answers kernel_at kernel solved negated upright cleared turned turn eliminated
worked_systems = record { answer = refl; singular = refl }
