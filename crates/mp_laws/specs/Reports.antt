-- The laws on runs whose junctions decide by old reports.
use Rattle.std.specs.Prelude.{◌≡◌, ◌≤◌, ℕ, ◌+◌, ◌*◌, List, map}
use Rattle.std.specs.List.{AllByRecursion}
use Rattle.mp_model.specs.Arrivals.{IsPermitted}
use Rattle.mp_model.specs.Bounds.{AreBounds, greatest_change}
use Rattle.mp_model.specs.Certificate.{Cert, Certifies}
use Rattle.mp_model.specs.Network.{Network, Junction, movement_numbers, entry}
use Rattle.mp_model.specs.NetworkRules.{IsNetwork, HasStages}
use Rattle.mp_model.specs.Pressure.{IsGreatestStageBy}
use Rattle.mp_model.specs.Reports.{Period, AllTimely, reported_run, prompt_period}
use Rattle.mp_model.specs.Run.{run}
use Rattle.mp_model.specs.Slack.{IsSlack}
use Rattle.mp_model.specs.Step.{queue}
use Rattle.mp_laws.specs.Periods.{IsPeriod, IsWithin}
use Rattle.mp_laws.specs.Stages.{IsNearlyGreatest}

-- Two numbers differ by at most d.
pub record DifferBy (d x y : ℕ) : Type 0 where
  pub up : y ≤ x + d
  pub down : x ≤ y + d

-- In a period whose arrivals keep the levels within the bursts, each queue changes by at most its greatest change.
abbrev pub ChangeLaw : Type 0
ChangeLaw = (net : Network) → IsNetwork net → (stages : List ℕ) (arrivals q phase level q' phase' level' : ℕ → ℕ) → IsPeriod net stages arrivals q phase level q' phase' level' → IsWithin net level' →
    AllByRecursion (λ k. DifferBy (greatest_change net k) (q k) (q' k)) (movement_numbers net)

-- Where the reported queues differ from those of now by at most the delay times their greatest changes, a stage that is greatest by the reports is nearly greatest.
abbrev pub ReportLaw : Type 0
ReportLaw = (net : Network) → IsNetwork net → (q r : ℕ → ℕ) → AllByRecursion (λ k. DifferBy (net.delay * greatest_change net k) (q k) (r k)) (movement_numbers net) →
    (j : Junction) → HasStages net j → (s : ℕ) → IsGreatestStageBy net q r j s → IsNearlyGreatest net q j s

-- Over permitted arrivals of any length and timely reports, each queue of each state of the run is at most its bound.
abbrev pub ReportedBoundLaw : Type 0
ReportedBoundLaw = (net : Network) → IsNetwork net → (cert : Cert) → Certifies net cert → (E D : ℕ) → IsSlack cert E D → (bounds : List ℕ) → AreBounds net E D bounds →
    (periods : List Period) → IsPermitted net (map (λ period. period.counts) periods) → AllTimely net 0 periods →
    AllByRecursion (λ state. AllByRecursion (λ k. queue state k ≤ entry bounds k) (movement_numbers net)) (reported_run net periods)

-- Where each junction decides by reports of now, the reports are timely, and the run is the one without reports.
pub record IsPrompt (net : Network) (A : List (List ℕ)) : Type 0 where
  pub timely : AllTimely net 0 (map (prompt_period net) A)
  pub run : reported_run net (map (prompt_period net) A) ≡ run net A

-- This holds of all arrivals.
abbrev pub PromptLaw : Type 0
PromptLaw = (net : Network) (A : List (List ℕ)) → IsPrompt net A
