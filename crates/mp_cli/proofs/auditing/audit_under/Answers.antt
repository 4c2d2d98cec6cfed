use Rattle.std.proofs.Common.{◌≡◌, ℕ, List, [], refl, inl, inr, ◌∙◌, sym, ap, subst}
use Rattle.std.specs.declared.option.Option.{Option}
use Rattle.mp_model.specs.EventCore.{core_opening}
use Rattle.mp_model.specs.Network.{Network}
use Rattle.mp_press.specs.Queues.{naturals}
use Rattle.mp_cert.specs.Views.{cert_of}
use Rattle.mp_num.specs.Fraction.{numerator, denominator}
use Rattle.mp_step.specs.Taken.{HasTaken}
use Rattle.mp_event_audit.specs.Auditing.{AuditsAs}
use Rattle.mp_run.specs.declared.auditing.AuditEnd.{AuditEnd}
use Rattle.mp_cli.specs.Ports.{Ports}
use Rattle.mp_cli.proofs.AuditLemmas.{ended}
use Rattle.mp_cli.proofs.SessionLemmas.{stood_of, opens_with}
use Rattle.mp_cli.proofs.auditing.audit_under.Goals as goal

-- what the audit of the session's network says of the one that was handed in
ends_so : (n net : Network) (num den : ℕ) (bounds : List ℕ) (result end : AuditEnd) (left rest : Option (List ℕ)) → n ≡ net → end ≡ result → AuditsAs n num den bounds result left rest → AuditsAs net num den bounds end left rest
ends_so n net num den bounds result end left rest on is ends = subst (λ (e : AuditEnd). AuditsAs net num den bounds e left rest) (sym is) (subst (λ (m : Network). AuditsAs m num den bounds result left rest) on ends)

pub audit-requires : goal.audit-requires
audit-requires g c = record {
  start = c.in-Ok.ensures.opening ∙ ap core_opening (sym c.in-Ok.ensures.net);
  taken = subst (λ (n : Network). HasTaken n c.in-Ok.session.round.standing []) (sym c.in-Ok.ensures.net) c.in-Ok.ensures.taken;
}

pub returns-in-Err-clause-so : goal.returns-in-Err-clause-so
returns-in-Err-clause-so g c = λ files. inl (c.in-Err.ensures.refused, record { input = refl; output = refl })

pub returns-clause-so : goal.returns-clause-so
returns-clause-so g c = λ files.
    let s = c.in-Ok.session in
    let net = c.args.net.now in
    let left = g.In.Source.left c.args.input.now in
    let rest = g.In.Source.left c.audit.new.input in
    let ports : Ports = record { files = files; input_before = left; input_after = rest; output_before = g.Out.Sink.held c.args.out.now; output_after = g.Out.Sink.held c.tell_end.new.out } in
    let stood = stood_of net (cert_of c.args.cert.now) s c.round.ensures.kept c.in-Ok.ensures.net c.in-Ok.ensures.checked c.in-Ok.ensures.certifies c.in-Ok.ensures.slack c.in-Ok.ensures.found in
    let ends = ended c.tell_end.result ports (λ (how : AuditEnd). how ≡ c.audit.result) (λ (how : AuditEnd). AuditsAs net (numerator s.slack) (denominator s.slack) (naturals s.bounds) how left rest)
    (λ how is. ends_so s.net net (numerator s.slack) (denominator s.slack) (naturals s.bounds) c.audit.result how left rest c.in-Ok.ensures.net is c.audit.ensures.ends)
    (c.tell_end.ensures.so files left rest) in
    inr (opens_with net (cert_of c.args.cert.now) (numerator s.slack) (denominator s.slack) (naturals s.bounds) stood _ ends)
