-- How a run by events ends: a stream that is read to its end is run to its end, and one above a bucket is refused as that.
use Rattle.std.proofs.Common.{◌≡◌, ℕ, List, sym, ◌∙◌, refl, ⊎_elim, inl, inr, ◌⊎◌}
use Rattle.std.specs.declared.option.Option.{Option}
use Rattle.mp_event_run.specs.declared.ends.RunEnd.{RunEnd}
use Rattle.mp_event_run.specs.declared.ends.RunEnd.TheVariants as events
use Rattle.mp_model.specs.Network.{Network}
use Rattle.mp_model.specs.NetworkRules.{IsNetwork}
use Rattle.mp_run.specs.declared.run.RunEnd.TheVariants as end
use Rattle.mp_cli.specs.declared.outcome.Outcome.{Outcome}
use Rattle.mp_cli.specs.declared.outcome.Outcome.TheVariants.{Run as Ran, Stale, NotAdjacent}
use Rattle.mp_cli.specs.Complete.{IsExcessiveStream, IsGoodStream, IsStreamAbove, IsWholeStream}
use Rattle.mp_cli.specs.Ports.{Ports}
use Rattle.mp_cli.specs.Running.{RunsTo}
use Rattle.mp_cli.specs.Statuses.{status_of}
use Rattle.mp_cli.specs.Streaming.{OnEvents, outcome_of_run}
use Rattle.mp_cli.proofs.PlainLemmas.{plain_above, plain_whole}

-- the outcome of a run is its end
pub of_run : (how : RunEnd) (P : RunEnd → Type 0) → P how → OnEvents (outcome_of_run how) P
of_run events.Done P is = is
of_run events.Read P is = is
of_run events.Write P is = is
of_run events.LineLimit P is = is
of_run (events.Long n) P is = is
of_run (events.Grammar n) P is = is
of_run (events.Above n p l) P is = is
of_run (events.Stale n j l) P is = is
of_run (events.NotAdjacent n j l) P is = is

module _ (net : Network) (head : List ℕ) (ports : Ports) where
  whole_stream : (outcome : Outcome) → (status_of outcome ≡ 10 → ⊥) → (status_of outcome ≡ 11 → ⊥) → IsWholeStream net ports.input_before → OnEvents outcome (λ how. RunsTo net head how ports) → status_of outcome ≡ 0
  whole_stream (Ran end.Done) read write s runs = refl
  whole_stream (Ran end.Read) read write s runs = absurd (read refl)
  whole_stream (Ran end.Write) read write s runs = absurd (write refl)
  whole_stream (Ran end.LineLimit) read write s runs = absurd (let no = sym (runs.says s.text s.told).is ∙ s.ends in cc)
  whole_stream (Ran (end.Long n)) read write s runs = absurd (let no = sym (runs.says s.text s.told).is ∙ s.ends in cc)
  whole_stream (Ran (end.Grammar n)) read write s runs = absurd (let no = sym (runs.says s.text s.told).is ∙ s.ends in cc)
  whole_stream (Ran (end.Above n p l)) read write s runs = absurd (let no = sym (runs.says s.text s.told).is ∙ s.ends in cc)
  whole_stream (Stale n j l) read write s runs = absurd (let no = sym (runs.says s.text s.told).is ∙ s.ends in cc)
  whole_stream (NotAdjacent n j l) read write s runs = absurd (let no = sym (runs.says s.text s.told).is ∙ s.ends in cc)
  whole_stream outcome read write s runs = absurd runs

  above_stream : (outcome : Outcome) → (status_of outcome ≡ 10 → ⊥) → (status_of outcome ≡ 11 → ⊥) → IsStreamAbove net ports.input_before → OnEvents outcome (λ how. RunsTo net head how ports) → status_of outcome ≡ 8
  above_stream (Ran (end.Above n p l)) read write s runs = refl
  above_stream (Ran end.Read) read write s runs = absurd (read refl)
  above_stream (Ran end.Write) read write s runs = absurd (write refl)
  above_stream (Ran end.Done) read write s runs = absurd (let no = sym (runs.says s.text s.told).is ∙ s.ends in cc)
  above_stream (Ran end.LineLimit) read write s runs = absurd (let no = sym (runs.says s.text s.told).is ∙ s.ends in cc)
  above_stream (Ran (end.Long n)) read write s runs = absurd (let no = sym (runs.says s.text s.told).is ∙ s.ends in cc)
  above_stream (Ran (end.Grammar n)) read write s runs = absurd (let no = sym (runs.says s.text s.told).is ∙ s.ends in cc)
  above_stream (Stale n j l) read write s runs = absurd (let no = sym (runs.says s.text s.told).is ∙ s.ends in cc)
  above_stream (NotAdjacent n j l) read write s runs = absurd (let no = sym (runs.says s.text s.told).is ∙ s.ends in cc)
  above_stream outcome read write s runs = absurd runs

  -- a good stream is run to its end
  pub good_events : (outcome : Outcome) → (status_of outcome ≡ 10 → ⊥) → (status_of outcome ≡ 11 → ⊥) → IsNetwork net → IsGoodStream net ports.input_before ⊎ IsWholeStream net ports.input_before → OnEvents outcome (λ how. RunsTo net head how ports) → status_of outcome ≡ 0
  good_events outcome read write ok (inl plain) runs = whole_stream outcome read write (plain_whole net ok ports.input_before plain) runs
  good_events outcome read write ok (inr whole) runs = whole_stream outcome read write whole runs

  -- a stream above a bucket is refused as that
  pub excessive_events : (outcome : Outcome) → (status_of outcome ≡ 10 → ⊥) → (status_of outcome ≡ 11 → ⊥) → IsNetwork net → IsExcessiveStream net ports.input_before ⊎ IsStreamAbove net ports.input_before → OnEvents outcome (λ how. RunsTo net head how ports) → status_of outcome ≡ 8
  excessive_events outcome read write ok (inl plain) runs = above_stream outcome read write (plain_above net ok ports.input_before plain) runs
  excessive_events outcome read write ok (inr above) runs = above_stream outcome read write above runs
