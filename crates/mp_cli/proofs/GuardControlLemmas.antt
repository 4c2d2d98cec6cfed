-- How the controller under a guard ends, and that a good input is answered to its end.
use Rattle.std.proofs.Common.{◌≡◌, ℕ, List, refl, None}
use Rattle.std.specs.declared.option.Option.{Option}
use Rattle.mp_control.specs.declared.driving.ControlEnd.{ControlEnd}
use Rattle.mp_control.specs.declared.driving.ControlEnd.TheVariants.{Done, Read, Write, LineLimit, Long, Grammar}
use Rattle.mp_control.specs.Controlling.{RefusedAt}
use Rattle.mp_guard_control.specs.Driving as guarded
use Rattle.mp_guard_control.specs.Controller.{Controller}
use Rattle.mp_model.specs.ControlLog.{InputLine}
use Rattle.mp_model.specs.ControlLog.InputLine.{long_line, bad_line}
use Rattle.mp_model.specs.Guard as model
use Rattle.mp_model.specs.Network.{Network}
use Rattle.mp_run.specs.declared.run.RunEnd.TheVariants as run
use Rattle.mp_cli.specs.declared.outcome.Outcome.{Outcome}
use Rattle.mp_cli.specs.declared.outcome.Outcome.TheVariants.{Run}
use Rattle.mp_cli.specs.Complete.{IsGoodInput}
use Rattle.mp_cli.specs.Controlling.{run_end}
use Rattle.mp_cli.specs.GuardControlling.{GuardedEnds, GuardedOn}
use Rattle.mp_cli.specs.Ports.{Ports}
use Rattle.mp_cli.specs.Statuses.{status_of}
use Rattle.mp_cli.proofs.ControlLemmas.{no_refusal, not_too_many}

-- each end says what its outcome says
pub guarded_to : (net : Network) (guard : model.Guard) (ports : Ports) (header : List ℕ) (end : ControlEnd) → GuardedEnds net guard end ports header → GuardedOn (Run (run_end end)) net guard ports header
guarded_to net guard ports header Done ends = ends
guarded_to net guard ports header Read ends = ends
guarded_to net guard ports header Write ends = ends
guarded_to net guard ports header LineLimit ends = ends
guarded_to net guard ports header (Long n) ends = ends
guarded_to net guard ports header (Grammar n) ends = ends

-- of what is read it doesn't matter what is written
refused_alone : (net : Network) (c : Controller) (line : InputLine) (n : ℕ) (left rest was now : Option (List ℕ)) → guarded.RefusedAt net c line n left rest was now → RefusedAt net line n left rest None None
refused_alone net c line n left rest was now r = record { lines = r.lines; number = r.number; few = r.few; read = r.read; written = tt }

-- a good input is answered to its end, where nothing meets a fault
pub good_guarded : (outcome : Outcome) (net : Network) (guard : model.Guard) (ports : Ports) (header : List ℕ) → (status_of outcome ≡ 10 → ⊥) → (status_of outcome ≡ 11 → ⊥) → IsGoodInput net ports.input_before → GuardedOn outcome net guard ports header → status_of outcome ≡ 0
good_guarded (Run run.Done) net guard ports header read write good ends = refl
good_guarded (Run run.Read) net guard ports header read write good ends = absurd (read refl)
good_guarded (Run run.Write) net guard ports header read write good ends = absurd (write refl)
good_guarded (Run run.LineLimit) net guard ports header read write good ends = absurd (not_too_many net ports.input_before ports.input_after None None good (record { lines = ends.lines; number = ends.number; read = ends.read; written = tt }))
good_guarded (Run (run.Long n)) net guard ports header read write good ends = absurd (no_refusal net long_line n ports.input_before ports.input_after None None good (refused_alone net _ long_line n _ _ _ _ ends))
good_guarded (Run (run.Grammar n)) net guard ports header read write good ends = absurd (no_refusal net bad_line n ports.input_before ports.input_after None None good (refused_alone net _ bad_line n _ _ _ _ ends))
good_guarded outcome net guard ports header read write good ends = absurd ends
