-- Worked certificates and vectors of two approaches, each computed from the stated calculation.
use Rattle.std.proofs.Common.{◌≡◌, ◌*◌, ◌^◌, List, [], ◌∷◌, ℤ, pos, negsuc, Some, None, Ok, Err, refl}
use Rattle.mp_num.specs.Checked.{within}
use Rattle.mp_num.specs.Passing.{stepped}
use Rattle.mp_model.specs.Certificate.{Cert}
use Rattle.mp_model.specs.Worked.{two_approaches, two_approaches_at, two_approaches_cert}
use Rattle.mp_cert.specs.Checking.{first_of, check_outcome}
use Rattle.mp_num.specs.Operations.{times, plus, less, summed}
use Rattle.mp_cert.specs.Rules.{at_most}
use Rattle.mp_cert.specs.Rules.{mass_holds, part_added, parts_for, served_at, inflow, coming, need, balance_holds}
use Rattle.mp_cert.specs.Weighing.{brought, load_formed, counted, weight_formed, press_added, pressed, pressure_formed, stage_taken, junction_formed, served_formed, weighed}
use Rattle.mp_cert.specs.declared.types.CertFault.TheVariants.{D, E, H, Whole, Part, Mass, Serve, Balance, Overflow}

-- a certificate with one mix
abbrev of : ℤ → ℤ → List ℤ → ℤ → List ℤ → Cert
of d e h whole parts = record { d = d; e = e; h = h; mixes = record { whole = whole; parts = parts } ∷ [] }

abbrev twice : ℤ → List ℤ
twice x = x ∷ x ∷ []

-- with one number of the certificate of the greatest slack changed, the first broken rule is that of the number
record AreWorkedFaults : Type 0 where
  none : check_outcome two_approaches two_approaches_cert ≡ Ok tt
  denominator : check_outcome two_approaches (of (pos 0) (pos 3) (twice (pos 4)) (pos 1) (twice (pos 2))) ≡ Err D
  excess : check_outcome two_approaches (of (pos 4) (pos 0) (twice (pos 4)) (pos 1) (twice (pos 2))) ≡ Err E
  rate : check_outcome two_approaches (of (pos 4) (pos 3) (pos 4 ∷ negsuc 0 ∷ []) (pos 1) (twice (pos 2))) ≡ Err (H 2)
  whole : check_outcome two_approaches (of (pos 4) (pos 3) (twice (pos 4)) (pos 0) (twice (pos 2))) ≡ Err (Whole 1)
  part : check_outcome two_approaches (of (pos 4) (pos 3) (twice (pos 4)) (pos 1) (pos 2 ∷ negsuc 0 ∷ [])) ≡ Err (Part 1 2)
  mass : check_outcome two_approaches (of (pos 4) (pos 3) (twice (pos 4)) (pos 1) (pos 3 ∷ pos 2 ∷ [])) ≡ Err (Mass 1)
  serve : check_outcome two_approaches (of (pos 4) (pos 3) (twice (pos 4)) (pos 1) (pos 2 ∷ pos 1 ∷ [])) ≡ Err (Serve 2)
  balance : check_outcome two_approaches (of (pos 4) (pos 3) (pos 3 ∷ pos 4 ∷ []) (pos 1) (twice (pos 2))) ≡ Err (Balance 1)
  products : check_outcome two_approaches (of (pos (10 ^ 38)) (pos 1) (twice (pos (10 ^ 38))) (pos 1) (twice (pos (5 * 10 ^ 37)))) ≡ Err Overflow

-- the sums of the vector 1, 1, and those that exceed 128 bits
record AreWorkedSums : Type 0 where
  weak : weighed two_approaches (twice (pos 1)) ≡ Some (record { load = pos 2; served = pos 8 })
  tight : weighed (two_approaches_at 4) (twice (pos 1)) ≡ Some (record { load = pos 8; served = pos 8 })
  overloaded : weighed (two_approaches_at 5) (twice (pos 1)) ≡ Some (record { load = pos 10; served = pos 8 })
  great : weighed two_approaches (twice (pos (10 ^ 38))) ≡ None
  great_load : weighed (two_approaches_at 5) (twice (pos (10 ^ 38))) ≡ None

worked_faults : AreWorkedFaults
unfolding within stepped first_of times plus summed at_most mass_holds part_added parts_for served_at inflow coming need balance_holds
worked_faults = record { none = refl; denominator = refl; excess = refl; rate = refl; whole = refl; part = refl; mass = refl; serve = refl; balance = refl; products = refl }

worked_sums : AreWorkedSums
unfolding within stepped times plus less summed brought load_formed counted weight_formed press_added pressed pressure_formed stage_taken junction_formed served_formed weighed
worked_sums = record { weak = refl; tight = refl; overloaded = refl; great = refl; great_load = refl }
