-- What a round shows: where its run stands, its weighed queues, the copies, what is decided, and the last stages.
use Rattle.std.specs.Prelude.{◌≡◌, ◌≤◌, ◌-◌, ℕ, List, [], ◌∷◌, length, map, Option, Some, IfSome, slice_set, slice_index_or}
use Rattle.mp_model.specs.EventCore.{Copy, Core}
use Rattle.mp_model.specs.Network.{Network, Junction, targets}
use Rattle.mp_model.specs.Step.{AreStages}
use Rattle.mp_press.specs.Weighed.{Weighed, IsCacheOf}
use Rattle.mp_step.specs.Standing.{Standing, IsOn}

-- A round shows where its run stands, the queues with what they sum to on each link, for each junction and each link that it feeds at most one copy, the stages decided in this period, and the stages of the last closed period.
pub record RoundView : Type 0 where
  pub standing : Standing
  pub weighed : Weighed
  pub copies : List (List (Option Copy))
  pub decided : List (Option ℕ)
  pub last : List ℕ

-- This is the core that a round shows.
abbrev pub core_of : RoundView → Core
core_of round = record {
  queues = round.standing.queues;
  phases = round.standing.phases;
  levels = round.standing.levels;
  period = round.standing.period;
  total_in = round.standing.total_in;
  total_out = round.standing.total_out;
  copies = round.copies;
  decided = round.decided;
  last = round.last;
}

-- There is a place for each junction, and what is decided there is a stage of the junction.
abbrev pub AreDecided : List Junction → List (Option ℕ) → Type 0
AreDecided [] [] = Unit {0}
AreDecided (j ∷ js) (d ∷ ds) = IfSome d (λ s. (1 ≤ s) × (s ≤ length j.stages)) × AreDecided js ds
AreDecided [] (d ∷ ds) = ⊥
AreDecided (j ∷ js) [] = ⊥

-- There is a place for the copy of each link that a junction feeds.
abbrev pub HasPlaces : Network → List (List (Option Copy)) → Type 0
HasPlaces net copies = map (λ row. length row) copies ≡ map (λ j. length (targets net j)) net.junctions

-- The round is one of this network: it stands on it, has its queues weighed, has a place for the copy of each link that a junction feeds, decided on stages of the junctions, and has closed the last period, if there was one, with stages of theirs.
pub record IsRoundOn (net : Network) (round : RoundView) : Type 0 where
  pub on : IsOn net round.standing
  pub cache : IsCacheOf net round.weighed
  pub counts : round.weighed.counts ≡ round.standing.queues
  pub places : HasPlaces net round.copies
  pub decided : AreDecided net.junctions round.decided
  pub last : 1 ≤ round.standing.period → AreStages net.junctions round.last

-- This is the round with a copy put at a place of junction j.
abbrev pub with_report : RoundView → ℕ → ℕ → Copy → RoundView
with_report round j place copy = record round { copies = slice_set round.copies (j - 1) (slice_set (slice_index_or round.copies (j - 1) []) place (Some copy)) }

-- This is the round with the stage of junction j decided.
abbrev pub with_stage : RoundView → ℕ → ℕ → RoundView
with_stage round j s = record round { decided = slice_set round.decided (j - 1) (Some s) }
