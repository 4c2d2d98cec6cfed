-- What `control` promises.
use Rattle.std.specs.Prelude.{ℕ, List}
use Rattle.mp_model.specs.Network.{Network}
use Rattle.mp_control.specs.Controlling.{EndsAs}
use Rattle.mp_control.specs.declared.driving.ControlEnd.{ControlEnd}
use Rattle.mp_control.specs.declared.driving.ControlEnd.TheVariants.{Done, Read, Write, LineLimit, Long, Grammar}
use Rattle.mp_run.specs.declared.run.RunEnd.{RunEnd}
use Rattle.mp_run.specs.declared.run.RunEnd.TheVariants as run
use Rattle.mp_cli.specs.declared.outcome.Outcome.{Outcome}
use Rattle.mp_cli.specs.declared.outcome.Outcome.TheVariants.{Run}
use Rattle.mp_cli.specs.Opening.{OnNetwork}
use Rattle.mp_cli.specs.Ports.{Ports}

-- The end of the controller is told as that of a run.
abbrev pub run_end : ControlEnd → RunEnd
run_end Done = run.Done
run_end Read = run.Read
run_end Write = run.Write
run_end LineLimit = run.LineLimit
run_end (Long n) = run.Long n
run_end (Grammar n) = run.Grammar n

-- The controller ended so on the input and the output.
abbrev pub ControlEnds : Network → ControlEnd → Ports → Type 0
ControlEnds net end ports = EndsAs net end ports.input_before ports.input_after ports.output_before ports.output_after

-- This is what each outcome says of the controller on a network.
abbrev pub ControlsOn : Outcome → Network → Ports → Type 0
ControlsOn (Run run.Done) net ports = ControlEnds net Done ports
ControlsOn (Run run.Read) net ports = ControlEnds net Read ports
ControlsOn (Run run.Write) net ports = ControlEnds net Write ports
ControlsOn (Run run.LineLimit) net ports = ControlEnds net LineLimit ports
ControlsOn (Run (run.Long n)) net ports = ControlEnds net (Long n) ports
ControlsOn (Run (run.Grammar n)) net ports = ControlEnds net (Grammar n) ports
ControlsOn outcome net ports = ⊥

-- This is what each outcome says of `control`: on the network of the file, whatever its rates, the lines of the input were answered.
abbrev pub Controls : Outcome → List ℕ → Ports → Type 0
Controls outcome name ports = OnNetwork outcome name ports (λ net. ControlsOn outcome net ports)
