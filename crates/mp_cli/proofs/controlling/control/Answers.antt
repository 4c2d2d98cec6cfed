use Rattle.std.proofs.Common.{refl, sym, ◌∙◌, ap, inl, inr, subst}
use Rattle.mp_netfile.specs.Meaning.{file_meaning}
use Rattle.mp_run.specs.declared.run.RunEnd.{RunEnd}
use Rattle.mp_cli.specs.declared.outcome.Outcome.TheVariants.{Run}
use Rattle.mp_cli.specs.Controlling.{ControlsOn}
use Rattle.mp_cli.specs.Ports.{Ports}
use Rattle.mp_cli.specs.Statuses.{run_status}
use Rattle.mp_cli.proofs.ControlLemmas.{controls_to, read_alone, write_alone, none_stored}
use Rattle.mp_cli.proofs.OpeningLemmas.{reads_more}
use Rattle.mp_cli.proofs.controlling.control.Goals as goal

pub returns-in-Err-clause-means : goal.returns-in-Err-clause-means
returns-in-Err-clause-means g c = inl (c.in-Err.ensures.refused, record { input = refl; output = refl })

pub returns-clause-means : goal.returns-clause-means
returns-clause-means g c =
    let ports : Ports = record { files = g.St.Store.files c.args.store.now; input_before = g.In.Source.left c.args.input.now; input_after = g.In.Source.left c.control.new.input; output_before = g.Out.Sink.held c.args.out.now; output_after = g.Out.Sink.held c.control.new.out } in
    let controls = subst (λ (end : RunEnd). ControlsOn (Run end) c.in-Ok.net ports) (sym c.run_end.ensures) (controls_to c.in-Ok.net ports c.control.result c.control.ensures.ends) in
    inr (reads_more file_meaning _ _ c.in-Ok.net _ c.in-Ok.ensures.net (c.in-Ok.ensures.acceptable, controls))

pub returns-clause-store : goal.returns-clause-store
returns-clause-store g c = λ is. absurd (none_stored c.control.result (ap run_status (sym c.run_end.ensures) ∙ is))

pub returns-clause-read : goal.returns-clause-read
returns-clause-read g c = λ is. c.control.ensures.read (read_alone c.control.result (ap run_status (sym c.run_end.ensures) ∙ is))

pub returns-clause-write : goal.returns-clause-write
returns-clause-write g c = λ is. c.control.ensures.write (write_alone c.control.result (ap run_status (sym c.run_end.ensures) ∙ is))
