use Rattle.std.proofs.Common.{◌≡◌, ℕ, List, refl, inl, inr, sym, subst}
use Rattle.std.specs.declared.option.Option.{Option}
use Rattle.mp_guard.specs.GuardHeader.{guard_header}
use Rattle.mp_guard_audit.specs.Auditing.{AuditsGuarded}
use Rattle.mp_model.specs.Guard.{Guard}
use Rattle.mp_model.specs.Network.{Network}
use Rattle.mp_run.specs.declared.auditing.AuditEnd.{AuditEnd}
use Rattle.mp_cli.specs.GuardAuditing.{ComparesGuarded}
use Rattle.mp_cli.specs.Ports.{Ports}
use Rattle.mp_cli.proofs.AuditLemmas.{ended}
use Rattle.mp_cli.proofs.GuardRunLemmas.{runs_more}
use Rattle.mp_cli.proofs.auditing_guard.audit_by.Goals as goal

-- what the audit under the session's guard says of the one that was handed in
ends_so : (n net : Network) (g guard : Guard) (bounds waits : List ℕ) (result how : AuditEnd) (left rest : Option (List ℕ)) → n ≡ net → g ≡ guard → how ≡ result → AuditsGuarded n g (guard_header n g bounds waits) result left rest → AuditsGuarded net guard (guard_header net guard bounds waits) how left rest
ends_so n net g guard bounds waits result how left rest on by is ends =
    subst (λ (e : AuditEnd). AuditsGuarded net guard (guard_header net guard bounds waits) e left rest) (sym is)
    (subst (λ (gd : Guard). AuditsGuarded net gd (guard_header net gd bounds waits) result left rest) by
    (subst (λ (m : Network). AuditsGuarded m g (guard_header m g bounds waits) result left rest) on ends))

pub returns-in-Err-clause-so : goal.returns-in-Err-clause-so
returns-in-Err-clause-so g c = λ files. inl (c.in-Err.ensures.refused, record { input = refl; output = refl })

pub returns-clause-so : goal.returns-clause-so
returns-clause-so g c = λ files.
    let s = c.in-Ok.session in
    let net = c.args.net.now in
    let guard = c.args.guard.now in
    let left = g.In.Source.left c.args.input.now in
    let rest = g.In.Source.left c.audit_guarded.new.input in
    let ports : Ports = record { files = files; input_before = left; input_after = rest; output_before = g.Out.Sink.held c.args.out.now; output_after = g.Out.Sink.held c.tell_end.new.out } in
    let header = guard_header net guard s.bounds s.waits in
    let ends = ended c.tell_end.result ports (λ (how : AuditEnd). how ≡ c.audit_guarded.result) (λ (how : AuditEnd). AuditsGuarded net guard header how left rest)
    (λ how is. ends_so s.net net s.guard guard s.bounds s.waits c.audit_guarded.result how left rest c.in-Ok.ensures.net c.in-Ok.ensures.guard is c.audit_guarded.ensures.ends)
    (c.tell_end.ensures.so files left rest) in
    inr (runs_more net guard header (ComparesGuarded c.tell_end.result net guard ports) c.in-Ok.ensures.runs ends)
