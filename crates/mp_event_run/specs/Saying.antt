-- What an end of a run says of the stream, in the words of the stream alone.
use Rattle.std.specs.Prelude.{◌≡◌, ℕ, List, ◌++◌, Option, Some, None, IfSome}
use Rattle.mp_edge.specs.Outside.{Tells}
use Rattle.mp_model.specs.Log.{text_of}
use Rattle.mp_model.specs.Network.{Network}
use Rattle.mp_model.specs.ReportedLog.{reported_lines, reported_run_text}
use Rattle.mp_model.specs.StreamEnd.{StreamEnd, stream_end}
use Rattle.mp_model.specs.StreamEnd.StreamEnd.{ended, too_many, long_at, bad_at, above_in, stale_in, not_adjacent_in}
use Rattle.mp_model.specs.StreamPeriods.{stream_periods}
use Rattle.mp_event_run.specs.declared.ends.RunEnd.{RunEnd}
use Rattle.mp_event_run.specs.declared.ends.RunEnd.TheVariants.{Done, Read, Write, LineLimit, Long, Grammar, Above, Stale, NotAdjacent}

-- This is how the stream ends where a run ends so; a fault says nothing of it.
abbrev pub end_said : RunEnd → Option StreamEnd
end_said Done = Some ended
end_said Read = None
end_said Write = None
end_said LineLimit = Some too_many
end_said (Long n) = Some (long_at n)
end_said (Grammar n) = Some (bad_at n)
end_said (Above n p l) = Some (above_in n p l)
end_said (Stale n j l) = Some (stale_in n j l)
end_said (NotAdjacent n j l) = Some (not_adjacent_in n j l)

-- This is the text of a run over a stream that ends so: the lines of the periods that the stream closes, and the end line behind them where it is read to its end.
abbrev pub text_written : Network → List ℕ → StreamEnd → List ℕ
text_written net text ended = reported_run_text net (stream_periods net text)
text_written net text end = text_of (reported_lines net (stream_periods net text))

-- The stream of this text ends so, and behind the head the text of the run over it was written.
pub record EndsSo (net : Network) (head text : List ℕ) (was now : Option (List ℕ)) (end : StreamEnd) : Type 0 where
  pub is : stream_end net text ≡ end
  pub written : Tells was now (λ before after. after ≡ before ++ (head ++ text_written net text end))

-- Where the source tells a text, a run that ends without a fault says how the stream of this text ends, and behind the head the text of the run over it was written.
abbrev pub Says : Network → List ℕ → RunEnd → Option (List ℕ) → Option (List ℕ) → Option (List ℕ) → Type 0
Says net head how whole was now = (text : List ℕ) → whole ≡ Some text → IfSome (end_said how) (EndsSo net head text was now)
