-- The status of each outcome.
use Rattle.std.specs.Prelude.{◌≡◌, ℕ}
use Rattle.mp_run.specs.declared.run.RunEnd.{RunEnd}
use Rattle.mp_run.specs.declared.run.RunEnd.TheVariants as end
use Rattle.mp_cli.specs.declared.outcome.Outcome.{Outcome}
use Rattle.mp_cli.specs.declared.outcome.Outcome.TheVariants.{Done, Run, Stale, NotAdjacent, Words, Store, Network, LongText, Text, Admitted, Critical, Overloaded, Certificate, BrokenGuard, ZeroVector, WeakVector, NoCertificate, Overflow, GrowthOverflow, PivotLimit, SweepLimit, Uneven, LongFrames, FastFrames, CyclicPlan, FullPlan, PlanOverflow, NoGuard, FullGuard, BurstLimit, Differs, Read, Write, NoMemory}

-- This is the status of a run's end.
abbrev pub run_status : RunEnd → ℕ
run_status end.Done = 0
run_status (end.Long n) = 7
run_status (end.Grammar n) = 7
run_status (end.Above n p l) = 8
run_status end.LineLimit = 9
run_status end.Read = 10
run_status end.Write = 11

-- This is the status of an outcome.
abbrev pub status_of : Outcome → ℕ
status_of Done = 0
status_of (Run how) = run_status how
status_of (Stale n j l) = 14
status_of (NotAdjacent n j l) = 14
status_of Words = 1
status_of (Store file) = 2
status_of (Network rule spot) = 3
status_of (LongText kind) = 3
status_of (Text kind n) = 3
status_of Admitted = 4
status_of (Critical against) = 4
status_of (Overloaded against) = 4
status_of (Certificate rule) = 4
status_of (BrokenGuard rule) = 4
status_of ZeroVector = 4
status_of WeakVector = 4
status_of NoCertificate = 4
status_of (Overflow place) = 5
status_of GrowthOverflow = 5
status_of PlanOverflow = 5
status_of (PivotLimit j) = 6
status_of Read = 10
status_of Write = 11
status_of NoMemory = 12
status_of (Differs n) = 13
status_of (SweepLimit e) = 15
status_of (Uneven link) = 16
status_of (CyclicPlan link) = 17
status_of (FullPlan j) = 17
status_of LongFrames = 18
status_of (FastFrames link) = 18
status_of BurstLimit = 15
status_of NoGuard = 19
status_of (FullGuard j) = 19

-- An outcome is no fault of the input or the output.
pub record HasNoPortFault (outcome : Outcome) : Type 0 where
  pub read : ¬ (status_of outcome ≡ 10)
  pub write : ¬ (status_of outcome ≡ 11)

-- An outcome is no fault of the store, the input or the output.
pub record HasNoFault (outcome : Outcome) : Type 0 where
  pub store : ¬ (status_of outcome ≡ 2)
  pub ports : HasNoPortFault outcome
