-- The law on runs whose junctions have no reports but those of now.
use Rattle.std.specs.Prelude.{◌≡◌, ℕ, List, map}
use Rattle.mp_model.specs.Log.{period_lines, run_text}
use Rattle.mp_model.specs.Network.{Network}
use Rattle.mp_model.specs.NetworkRules.{IsNetwork}
use Rattle.mp_model.specs.ReportedLog.{reported_lines, reported_run_text}
use Rattle.mp_model.specs.Reports.{AllTimely, Period, renewed_periods}
use Rattle.mp_model.specs.StreamEnd.{stream_closed}
use Rattle.mp_model.specs.StreamPeriods.{stream_periods}

-- The lines and the text of the run by these periods are those of the run over their arrivals.
pub record HasPlainText (net : Network) (periods : List Period) : Type 0 where
  pub lines : reported_lines net periods ≡ period_lines net (map (λ period. period.counts) periods)
  pub text : reported_run_text net periods ≡ run_text net (map (λ period. period.counts) periods)

-- Where the delay is 0 this holds of all periods with timely reports; of the renewed ones, which have these arrivals; and so of what a stream closes, in whatever order junctions hear and decide in it.
pub record PromptTexts (net : Network) : Type 0 where
  pub timely : (periods : List Period) → AllTimely net 0 periods → HasPlainText net periods
  pub renewed : (A : List (List ℕ)) → reported_run_text net (renewed_periods net 0 A) ≡ run_text net A
  pub stream_lines : (text : List ℕ) → reported_lines net (stream_periods net text) ≡ period_lines net (stream_closed net text)
  pub stream_text : (text : List ℕ) → reported_run_text net (stream_periods net text) ≡ run_text net (stream_closed net text)

-- This holds of every network whose delay is 0.
abbrev pub PromptTextLaw : Type 0
PromptTextLaw = (net : Network) → IsNetwork net → net.delay ≡ 0 → PromptTexts net
