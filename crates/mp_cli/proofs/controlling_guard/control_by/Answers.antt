use Rattle.std.proofs.Common.{ℕ, List, refl, sym, ◌∙◌, ap, inl, inr, subst}
use Rattle.mp_run.specs.declared.run.RunEnd.{RunEnd}
use Rattle.mp_cli.specs.declared.outcome.Outcome.TheVariants.{Run}
use Rattle.mp_cli.specs.GuardControlling.{GuardedEnds, GuardedOn, header_at}
use Rattle.mp_cli.specs.Ports.{Ports}
use Rattle.mp_cli.specs.Statuses.{run_status}
use Rattle.mp_cli.proofs.ControlLemmas.{read_alone, write_alone, none_stored}
use Rattle.mp_cli.proofs.GuardControlLemmas.{guarded_to}
use Rattle.mp_cli.proofs.controlling_guard.control_by.Goals as goal

pub returns-in-Err-clause-so : goal.returns-in-Err-clause-so
returns-in-Err-clause-so g c = λ files. inl (c.in-Err.ensures.refused, record { input = refl; output = refl })

pub returns-clause-so : goal.returns-clause-so
returns-clause-so g c = λ files.
    let ports : Ports = record { files = files; input_before = g.In.Source.left c.args.input.now; input_after = g.In.Source.left c.control_guarded.new.input; output_before = g.Out.Sink.held c.args.out.now; output_after = g.Out.Sink.held c.control_guarded.new.out } in
    let net = c.args.net.now in
    let guard = c.args.guard.now in
    let found = c.in-Ok.ensures.header in
    let header = header_at net guard found.rest in
    let ends = subst (λ (text : List ℕ). GuardedEnds net guard c.control_guarded.result ports text) (c.deref.ensures.value ∙ found.is) c.control_guarded.ensures.ends in
    inr (record { guards = c.requires; rest = found.rest; keeps = c.control_guarded.ensures.kept; waits = c.control_guarded.ensures.waits; is = subst (λ (end : RunEnd). GuardedOn (Run end) net guard ports header) (sym c.run_end.ensures) (guarded_to net guard ports header c.control_guarded.result ends) })

pub returns-clause-unstored : goal.returns-clause-unstored
returns-clause-unstored g c = λ is. absurd (none_stored c.control_guarded.result (ap run_status (sym c.run_end.ensures) ∙ is))

pub returns-clause-read : goal.returns-clause-read
returns-clause-read g c = λ is. c.control_guarded.ensures.read (read_alone c.control_guarded.result (ap run_status (sym c.run_end.ensures) ∙ is))

pub returns-clause-write : goal.returns-clause-write
returns-clause-write g c = λ is. c.control_guarded.ensures.write (write_alone c.control_guarded.result (ap run_status (sym c.run_end.ensures) ∙ is))
