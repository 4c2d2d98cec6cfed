-- Where the delay is 0 a run by events has the text of the plain run.
use Rattle.std.proofs.Common.{◌≡◌, ◌≤◌, ℕ, ◌+◌, ◌%◌, List, [], ◌∷◌, ◌++◌, length, map, zip, arith, refl, ◌∙◌, ap, ap₂}
use Rattle.std.proofs.Math.Nat.{mod-lt}
use Rattle.std.proofs.lemmas.List.{length-map}
use Rattle.std.specs.List.{AllByRecursion}
use Rattle.mp_model.specs.Arrivals.{arrivals_of}
use Rattle.mp_model.specs.Log.{end_line, lines_from, period_line, period_lines, run_text, text_of}
use Rattle.mp_model.specs.Network.{Junction, Network, targets}
use Rattle.mp_model.specs.NetworkRules.{IsNetwork}
use Rattle.mp_model.specs.ReportedLog.{reported_lines_from}
use Rattle.mp_model.specs.Reports.{AllTimely, History, IsTimelyAge, Period, advance_by, first_history, renewed_periods}
use Rattle.mp_model.specs.Step.{State, step}
use Rattle.mp_model.specs.StreamPeriods.{stream_periods}
use Rattle.mp_laws.proofs.Lists.{AllOf-map}
use Rattle.mp_laws.proofs.PromptOrder.{prompt_state}
use Rattle.mp_laws.proofs.Renewed.{closes_periods}
use Rattle.mp_laws.proofs.Reported.{zero_stages}
use Rattle.mp_event_run.specs.Prompt.{HasPlainText, PromptTexts}

no_age : (net : Network) → net.delay ≡ 0 → (before : ℕ) (ages : List ℕ) → AllByRecursion (IsTimelyAge net before) ages → AllByRecursion (λ (n : ℕ). n ≡ 0) ages
no_age net prompt before ages timely = AllOf-map (IsTimelyAge net before) (λ (n : ℕ). n ≡ 0) (λ n t. let young = t.0 in omega arith) ages timely

-- each line is that of the plain run
plain_lines : (net : Network) → net.delay ≡ 0 → (periods : List Period) (history : History) (before : ℕ) → AllTimely net before periods → reported_lines_from net history periods ≡ lines_from net history.now (map (λ period. period.counts) periods)
plain_lines net prompt [] history before timely = refl
plain_lines net prompt (period ∷ periods) history before timely =
    let zeros = AllOf-map (AllByRecursion (IsTimelyAge net before)) (AllByRecursion (λ (n : ℕ). n ≡ 0)) (no_age net prompt before) period.ages timely.0.timely in
    let stages = zero_stages net history net.junctions period.ages timely.0.junctions zeros in
    let after : List ℕ → State = λ stages. step net stages (arrivals_of net period.counts) history.now in
    ap₂ ◌∷◌ (ap (λ stages. period_line (after stages).period period.counts stages (after stages).queues) stages)
    (plain_lines net prompt periods (advance_by net period history) (before + 1) timely.1 ∙ ap (λ stages. lines_from net (after stages) (map (λ period. period.counts) periods)) stages)

pub plain_text : (net : Network) → net.delay ≡ 0 → (periods : List Period) → AllTimely net 0 periods → HasPlainText net periods
plain_text net prompt periods timely =
    let lines = plain_lines net prompt periods (first_history net) 0 timely in
    record {
      lines = lines;
      text = ap₂ (λ (ls : List (List ℕ)) (state : State). text_of (ls ++ end_line net state ∷ [])) lines (prompt_state net prompt periods (first_history net) 0 timely);
    }

-- renewed reports are timely
mod_most : (n m : ℕ) → n % (m + 1) ≤ n
mod_most n m = omega arith

renewed_lengths : (net : Network) (before : ℕ) (js : List Junction) → AllByRecursion (λ p. length p.1 ≡ length (targets net p.0)) (zip js (map (λ j. map (λ l. before % (net.delay + 1)) (targets net j)) js))
renewed_lengths net before [] = tt
renewed_lengths net before (j ∷ js) = (length-map (targets net j) (λ l. before % (net.delay + 1)), renewed_lengths net before js)

renewed_ones : (net : Network) (before : ℕ) (ls : List ℕ) → AllByRecursion (IsTimelyAge net before) (map (λ l. before % (net.delay + 1)) ls)
renewed_ones net before [] = tt
renewed_ones net before (l ∷ ls) = let lt = mod-lt before {m = net.delay + 1} (omega arith) in ((omega arith, mod_most before net.delay), renewed_ones net before ls)

renewed_each : (net : Network) (before : ℕ) (js : List Junction) → AllByRecursion (AllByRecursion (IsTimelyAge net before)) (map (λ j. map (λ l. before % (net.delay + 1)) (targets net j)) js)
renewed_each net before [] = tt
renewed_each net before (j ∷ js) = (renewed_ones net before (targets net j), renewed_each net before js)

renewed_timely : (net : Network) (before : ℕ) (A : List (List ℕ)) → AllTimely net before (renewed_periods net before A)
renewed_timely net before [] = tt
renewed_timely net before (counts ∷ A) = (
  record { junctions = length-map net.junctions (λ j. map (λ l. before % (net.delay + 1)) (targets net j)); targets = renewed_lengths net before net.junctions; timely = renewed_each net before net.junctions },
  renewed_timely net (before + 1) A,
)

renewed_counts : (net : Network) (before : ℕ) (A : List (List ℕ)) → map (λ period. period.counts) (renewed_periods net before A) ≡ A
renewed_counts net before [] = refl
renewed_counts net before (counts ∷ A) = ap (λ B. counts ∷ B) (renewed_counts net (before + 1) A)

pub prompt_texts : (net : Network) → IsNetwork net → net.delay ≡ 0 → PromptTexts net
prompt_texts net ok prompt = record {
  timely = plain_text net prompt;
  renewed = λ A. (plain_text net prompt (renewed_periods net 0 A) (renewed_timely net 0 A)).text ∙ ap (run_text net) (renewed_counts net 0 A);
  stream_lines = λ text. let c = closes_periods net ok text in (plain_text net prompt (stream_periods net text) c.timely).lines ∙ ap (period_lines net) c.arrivals;
  stream_text = λ text. let c = closes_periods net ok text in (plain_text net prompt (stream_periods net text) c.timely).text ∙ ap (run_text net) c.arrivals;
}
