-- The course of a run: what it makes of a stream, as functions of the kinds of its lines.
use Rattle.std.specs.Prelude.{◌≡◌, ℕ, Bool, cond, List, ◌++◌, map}
use Rattle.std.specs.List.{AllByRecursion}
use Rattle.mp_model.specs.Network.{Network}
use Rattle.mp_model.specs.Stream.{LineKind, line_kind, without_events, raw_lines}
use Rattle.mp_model.specs.Stream.LineKind.{skipped_line, arrivals_line, long_line, bad_line, hear_line, decide_line}
use Rattle.mp_text.specs.Cutting.{ended_lines}

-- A course has the network whose lines are read, and says whether hearings and decisions are taken, which lines are permitted, which lines are written of lines of some kinds, the end line behind them, and how a line behind them is refused.
pub record Course (Refusal : Type 0) : Type 1 where
  pub net : Network
  pub takes_events : Bool
  pub Permits : List LineKind → Type 0
  pub lines : List LineKind → List (List ℕ)
  pub end_line : List LineKind → List ℕ
  pub Refuses : List LineKind → LineKind → Refusal → Type 0

-- A kind is itself where events are taken, and else a hearing or a decision is bad.
abbrev pub kind_for : {R : Type 0} → Course R → LineKind → LineKind
kind_for run kind = cond run.takes_events kind (without_events kind)

-- These are the kinds of some lines.
abbrev pub kinds_for : {R : Type 0} → Course R → List (List ℕ) → List LineKind
kinds_for run raws = map (λ raw. kind_for run (line_kind run.net raw)) raws

-- These are the kinds of the lines of a text.
abbrev pub kinds_of : {R : Type 0} → Course R → List ℕ → List LineKind
kinds_of run text = kinds_for run (raw_lines text)

-- A line is taken where it is neither too long nor bad.
abbrev pub IsTaken : LineKind → Type 0
IsTaken skipped_line = Unit {0}
IsTaken (arrivals_line counts) = Unit {0}
IsTaken (hear_line j l) = Unit {0}
IsTaken (decide_line j) = Unit {0}
IsTaken long_line = ⊥
IsTaken bad_line = ⊥

-- A text starts with lines of these kinds, each of them taken, and goes on with lines of the other kinds.
pub record StartsWith {R : Type 0} (run : Course R) (text : List ℕ) (kinds more : List LineKind) : Type 0 where
  pub lines : kinds_of run text ≡ kinds ++ more
  pub taken : AllByRecursion IsTaken kinds

-- These are the kinds of the lines of a text that a line feed ends.
abbrev pub ended_kinds : {R : Type 0} → Course R → List ℕ → List LineKind
ended_kinds run text = kinds_for run (ended_lines text)
