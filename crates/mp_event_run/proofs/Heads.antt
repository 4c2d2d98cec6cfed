-- A head before the text of a run by events.
use Rattle.std.proofs.Common.{◌≡◌, ℕ, List, [], ◌++◌}
use Rattle.std.specs.declared.option.Option.{Option}
use Rattle.mp_edge.specs.Outside.{Tells, GainsPrefix}
use Rattle.mp_model.specs.Network.{Network}
use Rattle.mp_stream.proofs.HeadLemmas as head
use Rattle.mp_event_run.specs.Running.{course_of, run_end_of, EndsAs}
use Rattle.mp_event_run.specs.declared.ends.RunEnd.{RunEnd}
use Rattle.mp_event_run.specs.declared.ends.RunEnd.TheVariants.{Write}
use Rattle.mp_event_run.proofs.Permits.{permitted_empty}

-- a head was put before the run
pub with_head : (net : Network) (text : List ℕ) (how : RunEnd) (whole left was mid now : Option (List ℕ)) → Tells was mid (λ before after. after ≡ before ++ text) → EndsAs net [] how whole left mid now → EndsAs net text how whole left was now
with_head net text how whole left was mid now put ends = head.with_head (course_of net) text (run_end_of how) whole left was mid now put ends

-- the head itself was cut short
pub head_cut : (net : Network) (text : List ℕ) (whole was now : Option (List ℕ)) → Tells was now (GainsPrefix text) → EndsAs net text Write whole whole was now
head_cut net text whole was now cut = head.head_cut (course_of net) text whole was now (permitted_empty net) cut
