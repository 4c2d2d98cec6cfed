-- The events and answers of the code, as those of the event core.
use Rattle.std.specs.Prelude.{◌<◌, ◌^◌, All, ℕ, List, length, Result, Ok, Err}
use Rattle.mp_model.specs.Arrivals.{HasCounts}
use Rattle.mp_model.specs.EventCore.{Event, Answer, Core}
use Rattle.mp_model.specs.EventCore.Answer.{heard, not_adjacent, chose, stale, undecided, above_at, closed}
use Rattle.mp_model.specs.EventCore.Event.{hear, decide, close}
use Rattle.mp_model.specs.Network.{Network}
use Rattle.mp_model.specs.declared.limits.TheConstants.{MOST_LINES}
use Rattle.mp_step.specs.declared.state.AboveAt.{AboveAt as AboveAtOfStep}
use Rattle.mp_press.specs.Written.{IsAmong}
use Rattle.mp_round.specs.declared.events.Answer.{Answer as AnswerOfCode}
use Rattle.mp_round.specs.declared.events.Answer.TheVariants.{Heard, NotAdjacent, Chose, Stale, Undecided, AboveAt, Closed}
use Rattle.mp_round.specs.declared.events.Event.{Event as EventOfCode}
use Rattle.mp_round.specs.declared.events.Event.TheVariants.{Hear, Decide, Close}

-- This is what an event of the code says.
abbrev pub event_of : EventOfCode → Event
event_of (Hear j l) = hear j l
event_of (Decide j) = decide j
event_of (Close arrivals) = close arrivals.now

-- This is what an answer of the code says.
abbrev pub answer_of : AnswerOfCode → Answer
answer_of Heard = heard
answer_of (NotAdjacent j l) = not_adjacent j l
answer_of (Chose s) = chose s
answer_of (Stale j l) = stale j l
answer_of (Undecided j) = undecided j
answer_of (AboveAt l) = above_at l
answer_of Closed = closed

-- This is the answer to a close that went well, or that a link refused.
abbrev pub closing_answer : Result (Unit {0}) AboveAtOfStep → Answer
closing_answer (Ok done) = closed
closing_answer (Err above) = above_at above.link

-- A period may close with one count of at most 9 digits per fed link, where fewer than 2^48 have closed.
pub record CanClose (net : Network) (core : Core) (counts : List ℕ) : Type 0 where
  pub fits : HasCounts net counts
  pub digits : All (λ a. a < 10 ^ 9) counts
  pub period : core.period < MOST_LINES

-- An event may be applied where its junction is one of the network, and a close where the period may close.
abbrev pub CanApply : Network → Core → Event → Type 0
CanApply net core (hear j l) = IsAmong (length net.junctions) j
CanApply net core (decide j) = IsAmong (length net.junctions) j
CanApply net core (close counts) = CanClose net core counts
