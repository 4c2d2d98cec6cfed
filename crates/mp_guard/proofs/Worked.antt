-- Worked guards: their texts, the rules that they break, and their bursts and bounds, each computed from the definitions.
use Rattle.std.proofs.Common.{◌≡◌, ◌*◌, ℕ, List, [], ◌∷◌, Ok, Err, arith, refl}
use Rattle.std.specs.Prelude.{codes}
use Rattle.std.specs.Fmt.{digits}
use Rattle.mp_model.specs.Guard.{Guard, red}
use Rattle.mp_model.specs.GuardedBursts.{swept, AreAtRest, guarded_bound}
use Rattle.mp_model.specs.Log.{text_of}
use Rattle.mp_model.specs.Network.{Network}
use Rattle.mp_model.specs.Worked.{two_approaches, two_approaches_from, tandem, roundabout}
use Rattle.mp_guard.specs.Checking.{IsFirstBroken, rules_of}
use Rattle.mp_guard.specs.GuardText.{guard_text, guard_meaning}
use Rattle.mp_guard.specs.declared.fault.GuardFault.{GuardFault}
use Rattle.mp_guard.specs.declared.fault.GuardFault.TheVariants.{Cycle, Lost, D, H, Green, Mass, Balance, Serve}

abbrev of : ℕ → ℕ → List ℕ → List ℕ → Guard
of cycle lost rates greens = record { cycle = cycle; lost = lost; denominator = 4; rates = rates; greens = greens ∷ [] }

abbrev one_each : List ℕ
one_each = 1 ∷ 1 ∷ []

abbrev two_guard : Guard
two_guard = of 4 0 one_each one_each

-- ---- texts
record AreWorkedTexts : Type 0 where
  printed : guard_text two_guard ≡ (text_of (codes "guard 1" ∷ codes "cycle 4" ∷ codes "lost 0" ∷ codes "d 4" ∷ codes "h 1 1" ∷ codes "green 1 1 1" ∷ []))
  read : guard_meaning two_approaches (text_of (codes "guard 1" ∷ codes "cycle 4" ∷ codes "" ∷ codes "# h" ∷ codes "lost 0" ∷ codes "d 4" ∷ codes "h 1 1" ∷ codes "green 1 1 1" ∷ [])) ≡ Ok two_guard
  missing : guard_meaning two_approaches (text_of (codes "guard 1" ∷ codes "cycle 4" ∷ codes "lost 0" ∷ codes "d 4" ∷ codes "h 1 1" ∷ [])) ≡ Err 6
  other : guard_meaning two_approaches (text_of (codes "guard 1" ∷ codes "cycle 4" ∷ codes "# h" ∷ codes "lost 0" ∷ codes "d  4" ∷ codes "h 1 1" ∷ codes "green 1 1 1" ∷ [])) ≡ Err 5
  further : guard_meaning two_approaches (text_of (codes "guard 1" ∷ codes "cycle 4" ∷ codes "lost 0" ∷ codes "d 4" ∷ codes "h 1 1" ∷ codes "green 1 1 1" ∷ codes "green 2 1" ∷ [])) ≡ Err 7

worked_texts : AreWorkedTexts
unfolding digits
worked_texts = record { printed = refl; read = refl; missing = refl; other = refl; further = refl }

-- ---- the first broken rule
abbrev Breaks : Guard → GuardFault → Type 0
Breaks guard fault = IsFirstBroken two_approaches guard (rules_of two_approaches) fault

record AreWorkedFaults : Type 0 where
  cycle : Breaks (of 0 0 one_each one_each) Cycle
  lost : Breaks (of 4 2 one_each one_each) Lost
  rate : Breaks (of 4 0 (9 ∷ 1 ∷ []) one_each) (H 1)
  green : Breaks (of 4 0 one_each (5 ∷ 1 ∷ [])) (Green 1 1)
  mass : Breaks (of 4 0 one_each (4 ∷ 1 ∷ [])) (Mass 1)
  short : Breaks (of 1 0 one_each one_each) (Mass 1)
  changes : Breaks (of 3 1 one_each one_each) (Mass 1)
  balance : Breaks (of 4 0 (0 ∷ 1 ∷ []) one_each) (Balance 1)
  serve : Breaks (of 4 0 one_each (0 ∷ 1 ∷ [])) (Serve 1)

worked_faults : AreWorkedFaults
worked_faults = record {
  cycle = record { earlier = []; later = Lost ∷ D ∷ H 1 ∷ H 2 ∷ Green 1 1 ∷ Green 1 2 ∷ Mass 1 ∷ Balance 1 ∷ Balance 2 ∷ Serve 1 ∷ Serve 2 ∷ []; order = refl; kept = tt; broken = λ t. absurd (omega (arith, t.0)) };
  lost = record { earlier = Cycle ∷ []; later = D ∷ H 1 ∷ H 2 ∷ Green 1 1 ∷ Green 1 2 ∷ Mass 1 ∷ Balance 1 ∷ Balance 2 ∷ Serve 1 ∷ Serve 2 ∷ []; order = refl; kept = ((omega arith, omega arith), tt); broken = λ t. absurd (omega (arith, t)) };
  rate = record { earlier = Cycle ∷ Lost ∷ D ∷ []; later = H 2 ∷ Green 1 1 ∷ Green 1 2 ∷ Mass 1 ∷ Balance 1 ∷ Balance 2 ∷ Serve 1 ∷ Serve 2 ∷ []; order = refl; kept = ((omega arith, omega arith), (omega arith, ((omega arith, omega arith), tt))); broken = λ t. absurd (omega (arith, t)) };
  green = record { earlier = Cycle ∷ Lost ∷ D ∷ H 1 ∷ H 2 ∷ []; later = Green 1 2 ∷ Mass 1 ∷ Balance 1 ∷ Balance 2 ∷ Serve 1 ∷ Serve 2 ∷ []; order = refl; kept = ((omega arith, omega arith), (omega arith, ((omega arith, omega arith), (omega arith, (omega arith, tt))))); broken = λ t. absurd (omega (arith, t)) };
  mass = record { earlier = Cycle ∷ Lost ∷ D ∷ H 1 ∷ H 2 ∷ Green 1 1 ∷ Green 1 2 ∷ []; later = Balance 1 ∷ Balance 2 ∷ Serve 1 ∷ Serve 2 ∷ []; order = refl; kept = ((omega arith, omega arith), (omega arith, ((omega arith, omega arith), (omega arith, (omega arith, (omega arith, (omega arith, tt))))))); broken = λ t. absurd (omega (arith, t)) };
  short = record { earlier = Cycle ∷ Lost ∷ D ∷ H 1 ∷ H 2 ∷ Green 1 1 ∷ Green 1 2 ∷ []; later = Balance 1 ∷ Balance 2 ∷ Serve 1 ∷ Serve 2 ∷ []; order = refl; kept = ((omega arith, omega arith), (omega arith, ((omega arith, omega arith), (omega arith, (omega arith, (omega arith, (omega arith, tt))))))); broken = λ t. absurd (omega (arith, t)) };
  changes = record { earlier = Cycle ∷ Lost ∷ D ∷ H 1 ∷ H 2 ∷ Green 1 1 ∷ Green 1 2 ∷ []; later = Balance 1 ∷ Balance 2 ∷ Serve 1 ∷ Serve 2 ∷ []; order = refl; kept = ((omega arith, omega arith), (omega arith, ((omega arith, omega arith), (omega arith, (omega arith, (omega arith, (omega arith, tt))))))); broken = λ t. absurd (omega (arith, t)) };
  balance = record { earlier = Cycle ∷ Lost ∷ D ∷ H 1 ∷ H 2 ∷ Green 1 1 ∷ Green 1 2 ∷ Mass 1 ∷ []; later = Balance 2 ∷ Serve 1 ∷ Serve 2 ∷ []; order = refl; kept = ((omega arith, omega arith), (omega arith, ((omega arith, omega arith), (omega arith, (omega arith, (omega arith, (omega arith, (omega arith, tt)))))))); broken = λ t. absurd (omega (arith, t)) };
  serve = record { earlier = Cycle ∷ Lost ∷ D ∷ H 1 ∷ H 2 ∷ Green 1 1 ∷ Green 1 2 ∷ Mass 1 ∷ Balance 1 ∷ Balance 2 ∷ []; later = Serve 2 ∷ []; order = refl; kept = ((omega arith, omega arith), (omega arith, ((omega arith, omega arith), (omega arith, (omega arith, (omega arith, (omega arith, (omega arith, (omega arith, (omega arith, tt)))))))))); broken = λ t. absurd (omega (arith, t.some)) };
}

-- ---- bursts, bounds and waits
record Bounds (net : Network) (guard : Guard) (surplus : ℕ) (sweeps : ℕ) (bursts : List ℕ) (first second : ℕ) (wait : ℕ) : Type 0 where
  found : swept net guard (λ k. surplus) sweeps ≡ bursts
  rest : AreAtRest net guard (λ k. surplus) bursts
  first_is : guarded_bound net guard (λ k. surplus) bursts 1 ≡ first
  second_is : guarded_bound net guard (λ k. surplus) bursts 2 ≡ second
  waits : 2 * red net guard 1 ≡ wait

abbrev tandem_guard : Guard
tandem_guard = record { cycle = 2; lost = 0; denominator = 2; rates = 1 ∷ 1 ∷ []; greens = (0 ∷ []) ∷ (0 ∷ []) ∷ [] }

abbrev roundabout_guard : Guard
roundabout_guard = record { cycle = 4; lost = 0; denominator = 100; rates = 25 ∷ 25 ∷ []; greens = (0 ∷ []) ∷ [] }

record AreWorkedBounds : Type 0 where
  approaches : Bounds two_approaches two_guard 0 1 (4 ∷ 4 ∷ []) 4 4 6
  started : Bounds (two_approaches_from 50 30) two_guard 0 1 (54 ∷ 34 ∷ []) 54 34 6
  in_line : Bounds tandem tandem_guard 0 2 (1 ∷ 1 ∷ []) 2 2 0
  in_loop : Bounds roundabout roundabout_guard 1 2 (2 ∷ 2 ∷ []) 3 3 0

worked_bounds : AreWorkedBounds
worked_bounds = record {
  approaches = record { found = refl; rest = refl; first_is = refl; second_is = refl; waits = refl };
  started = record { found = refl; rest = refl; first_is = refl; second_is = refl; waits = refl };
  in_line = record { found = refl; rest = refl; first_is = refl; second_is = refl; waits = refl };
  in_loop = record { found = refl; rest = refl; first_is = refl; second_is = refl; waits = refl };
}
