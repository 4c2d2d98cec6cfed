-- What `run` promises.
use Rattle.std.specs.Prelude.{ℕ, List}
use Rattle.mp_model.specs.Certificate.{Cert}
use Rattle.mp_model.specs.Log.{text_of, header_lines}
use Rattle.mp_model.specs.Network.{Network}
use Rattle.mp_event_run.specs.Running.{EndsAs}
use Rattle.mp_event_run.specs.Saying.{Says}
use Rattle.mp_event_run.specs.declared.ends.RunEnd.{RunEnd}
use Rattle.mp_cli.specs.declared.outcome.Outcome.{Outcome}
use Rattle.mp_cli.specs.Opening.{OnNetwork}
use Rattle.mp_cli.specs.Ports.{Ports}
use Rattle.mp_cli.specs.Sessions.{OnSession, OnAnySession, AtGreatest}
use Rattle.mp_cli.specs.Streaming.{OnEvents}
use Rattle.mp_cli.specs.Verdicts.{OnAdmitted}

-- The stream was run by its events to this end, behind a head; and where its text is told, the stream of this text ends so, and the text of the run over it was written.
pub record RunsTo (net : Network) (head : List ℕ) (how : RunEnd) (ports : Ports) : Type 0 where
  pub ends : EndsAs net head how ports.input_before ports.input_after ports.output_before ports.output_after
  pub says : Says net head how ports.input_before ports.output_before ports.output_after

-- The stream was run by its events to this end behind the header of the slack num/den and the bounds.
abbrev pub Streams : Outcome → Network → Ports → ℕ → ℕ → List ℕ → Type 0
Streams outcome net ports num den bounds = OnEvents outcome (λ how. RunsTo net (text_of (header_lines net num den bounds)) how ports)

-- This is what each outcome says of the run of a stream under a certificate.
abbrev pub StreamsUnder : Outcome → Network → Cert → Ports → Type 0
StreamsUnder outcome net cert ports = OnAnySession outcome net cert ports (Streams outcome net ports)

-- This is what each outcome says of `run`: on the network of the file, as it is admitted, under its certificate, the stream was run with the greatest slack.
abbrev pub Runs : Outcome → List ℕ → Ports → Type 0
Runs outcome name ports =
    OnNetwork outcome name ports (λ net.
    OnAdmitted outcome net ports (λ cert.
    OnSession outcome net cert ports (AtGreatest net (Streams outcome net ports))))
