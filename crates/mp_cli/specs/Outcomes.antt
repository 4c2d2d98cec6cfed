-- How what a call answers becomes an outcome, or a word of its line.
use Rattle.std.specs.Prelude.{List, ℕ, codes, int_lt, if◌then◌else◌, Option, Some, None}
use Rattle.mp_cert.specs.declared.types.CertFault.{CertFault}
use Rattle.mp_cert.specs.declared.types.CertFault.TheVariants as fault
use Rattle.mp_cert.specs.declared.types.Weighed.{Weighed}
use Rattle.mp_flow.specs.declared.network.CalcFault.{CalcFault}
use Rattle.mp_flow.specs.declared.network.CalcFault.TheVariants as calc
use Rattle.mp_flow.specs.declared.network.Place.TheVariants as at
use Rattle.mp_drift.specs.declared.session.OpenFault.{OpenFault}
use Rattle.mp_drift.specs.declared.session.OpenFault.TheVariants as opening
use Rattle.mp_scaled.specs.declared.fault.ScaleFault.{ScaleFault}
use Rattle.mp_scaled.specs.declared.fault.ScaleFault.TheVariants as scaling
use Rattle.mp_finder.specs.declared.fault.FindFault.{FindFault}
use Rattle.mp_finder.specs.declared.fault.FindFault.TheVariants as finding
use Rattle.mp_growth.specs.declared.fault.GrowthFault.{GrowthFault}
use Rattle.mp_growth.specs.declared.fault.GrowthFault.TheVariants as growing
use Rattle.mp_growth.specs.declared.fault.TrailFault.{TrailFault}
use Rattle.mp_growth.specs.declared.fault.TrailFault.TheVariants as trailing
use Rattle.mp_frame.specs.declared.fault.FrameFault.{FrameFault}
use Rattle.mp_frame.specs.declared.fault.FrameFault.TheVariants as framing
use Rattle.mp_frame_run.specs.declared.session.FrameOpen.{FrameOpen}
use Rattle.mp_frame_run.specs.declared.session.FrameOpen.TheVariants as frames
use Rattle.mp_plan.specs.declared.fault.PlanFault.{PlanFault}
use Rattle.mp_plan.specs.declared.fault.PlanFault.TheVariants as planning
use Rattle.mp_cli.specs.declared.outcome.CertRule.{CertRule}
use Rattle.mp_cli.specs.declared.outcome.CertRule.TheVariants as rule
use Rattle.mp_cli.specs.declared.outcome.Outcome.{Outcome}
use Rattle.mp_cli.specs.declared.outcome.Outcome.TheVariants.{Certificate, Overflow, GrowthOverflow, PivotLimit, SweepLimit, Uneven, LongFrames, FastFrames, CyclicPlan, FullPlan, PlanOverflow, NoGuard, FullGuard, BurstLimit, NoMemory}
use Rattle.mp_guard.specs.declared.fault.BurstFault.{BurstFault}
use Rattle.mp_guard.specs.declared.fault.BurstFault.TheVariants as bursting

-- This is the rule that a fault names; an overflow names none.
abbrev pub broken_rule : CertFault → Option CertRule
broken_rule fault.D = Some rule.D
broken_rule fault.E = Some rule.E
broken_rule (fault.H k) = Some (rule.H k)
broken_rule (fault.Whole j) = Some (rule.Whole j)
broken_rule (fault.Part j s) = Some (rule.Part j s)
broken_rule (fault.Mass j) = Some (rule.Mass j)
broken_rule (fault.Serve k) = Some (rule.Serve k)
broken_rule (fault.Balance k) = Some (rule.Balance k)
broken_rule fault.Overflow = None

-- This is the outcome of a certificate that breaks a rule, or whose check exceeds 128 bits.
abbrev pub outcome_of_rule : Option CertRule → Outcome
outcome_of_rule (Some rule) = Certificate rule
outcome_of_rule None = Overflow at.Certificate

-- This is the outcome of a certificate that is not accepted.
abbrev pub outcome_of_fault : CertFault → Outcome
outcome_of_fault fault = outcome_of_rule (broken_rule fault)

-- This is the outcome of a calculation that has no result.
abbrev pub outcome_of_calculation : CalcFault → Outcome
outcome_of_calculation (calc.Overflow place) = Overflow place
outcome_of_calculation (calc.PivotLimit j) = PivotLimit j
outcome_of_calculation calc.NoMemory = NoMemory

-- This is the outcome of a session that was not opened.
abbrev pub outcome_of_opening : OpenFault → Outcome
outcome_of_opening (opening.Cert broken) = outcome_of_fault broken
outcome_of_opening (opening.Calc broken) = outcome_of_calculation broken
outcome_of_opening opening.NoMemory = NoMemory

-- This is the outcome of a search over a denominator that has no result.
abbrev pub outcome_of_scaling : ScaleFault → Outcome
outcome_of_scaling (scaling.Sweeps e) = SweepLimit e
outcome_of_scaling (scaling.Overflow j) = Overflow (at.Game j)
outcome_of_scaling (scaling.PivotLimit j) = PivotLimit j
outcome_of_scaling scaling.NoMemory = NoMemory

-- This is the outcome of a trail that is not made.
abbrev pub outcome_of_trail : TrailFault → Outcome
outcome_of_trail (trailing.Uneven link) = Uneven link
outcome_of_trail trailing.NoMemory = NoMemory

-- This is the outcome of a growth that is not formed.
abbrev pub outcome_of_growth : GrowthFault → Outcome
outcome_of_growth growing.Vector = Overflow at.Vector
outcome_of_growth growing.Growth = GrowthOverflow

-- This is the outcome of a frame network that there is not.
abbrev pub outcome_of_framing : FrameFault → Outcome
outcome_of_framing framing.Per = LongFrames
outcome_of_framing (framing.Rate link) = FastFrames link
outcome_of_framing framing.NoMemory = NoMemory

-- This is the outcome of a session of frames that was not opened.
abbrev pub outcome_of_frames : FrameOpen → Outcome
outcome_of_frames (frames.Cert broken) = outcome_of_fault broken
outcome_of_frames frames.Bound = Overflow at.Bound
outcome_of_frames frames.Room = Overflow at.Room
outcome_of_frames frames.NoMemory = NoMemory

-- This is the outcome of a plan that was not made.
abbrev pub outcome_of_plan : PlanFault → Outcome
outcome_of_plan (planning.Cycle link) = CyclicPlan link
outcome_of_plan planning.Flow = Overflow at.Flow
outcome_of_plan (planning.Full j) = FullPlan j
outcome_of_plan planning.Overflow = PlanOverflow
outcome_of_plan planning.NoMemory = NoMemory

-- This is the word for a vector whose load is at least what is served.
abbrev pub word_of : Weighed → List ℕ
word_of sums = if int_lt sums.served sums.load then codes "overloaded" else codes "tight"

-- This is the outcome of a search for a guard that finds none.
abbrev pub outcome_of_finding : FindFault → Outcome
outcome_of_finding finding.NoRates = NoGuard
outcome_of_finding finding.Sweeps = SweepLimit 0
outcome_of_finding (finding.Overflow j) = Overflow (at.Game j)
outcome_of_finding (finding.PivotLimit j) = PivotLimit j
outcome_of_finding (finding.Full j) = FullGuard j
outcome_of_finding finding.NoMemory = NoMemory

-- This is the outcome of bursts that are not found.
abbrev pub outcome_of_bursts : BurstFault → Outcome
outcome_of_bursts bursting.Sweeps = BurstLimit
outcome_of_bursts bursting.NoMemory = NoMemory
