use Rattle.std.proofs.Common.{◌≡◌, ◌++◌, ℕ, List, [], refl, inl, inr, ◌∙◌, sym, ap, subst}
use Rattle.mp_edge.specs.Outside.{Tells, GainsPrefix}
use Rattle.mp_model.specs.EventCore.{core_opening}
use Rattle.mp_model.specs.Log.{text_of, header_lines}
use Rattle.mp_model.specs.Network.{Network}
use Rattle.mp_press.specs.Queues.{naturals}
use Rattle.mp_cert.specs.Views.{cert_of}
use Rattle.mp_num.specs.Fraction.{numerator, denominator}
use Rattle.mp_stream.proofs.HeadLemmas as headed
use Rattle.mp_event_run.specs.Running.{course_of, run_end_of, EndsAs}
use Rattle.mp_event_run.specs.declared.ends.RunEnd.{RunEnd}
use Rattle.mp_event_run.proofs.Ending.{says}
use Rattle.mp_event_run.proofs.Permits.{permitted_empty}
use Rattle.mp_cli.specs.declared.outcome.Outcome.{Outcome}
use Rattle.mp_cli.specs.Ports.{Ports}
use Rattle.mp_cli.specs.Running.{RunsTo}
use Rattle.mp_cli.specs.Streaming.{OnEvents}
use Rattle.mp_cli.proofs.EventLemmas.{of_run}
use Rattle.mp_cli.proofs.SessionLemmas.{stood_of, opens_with, header_same}
use Rattle.mp_cli.proofs.streaming.stream_under.Goals as goal

pub run_stream-requires : goal.run_stream-requires
run_stream-requires g c = record { start = c.in-Ok.ensures.opening ∙ ap core_opening (sym c.in-Ok.ensures.net) }

pub returns-in-Err-clause-so : goal.returns-in-Err-clause-so
returns-in-Err-clause-so g c = λ files. inl (c.in-Err.ensures.refused, record { input = refl; output = refl })

pub returns-in-Err-put_header-clause-so : goal.returns-in-Err-put_header-clause-so
returns-in-Err-put_header-clause-so g c = λ files.
    let session = c.in-Ok.session in
    let net = c.args.net.now in
    let left = g.In.Source.left c.args.input.now in
    let was = g.Out.Sink.held c.args.out.now in
    let now = g.Out.Sink.held c.put_header.new.out in
    let stood = stood_of net (cert_of c.args.cert.now) session c.round.ensures.kept c.in-Ok.ensures.net c.in-Ok.ensures.checked c.in-Ok.ensures.certifies c.in-Ok.ensures.slack c.in-Ok.ensures.found in
    let head = header_same c.net.result.now net c.slack.result.now session.slack c.bounds.result.now session.bounds (c.net.ensures ∙ c.in-Ok.ensures.net) c.slack.ensures c.bounds.ensures in
    let whole = text_of (header_lines net (numerator session.slack) (denominator session.slack) (naturals session.bounds)) in
    let cut = subst (λ (text : List ℕ). Tells was now (GainsPrefix text)) head c.in-Err-put_header.ensures.bytes in
    inr (opens_with net (cert_of c.args.cert.now) (numerator session.slack) (denominator session.slack) (naturals session.bounds) stood _
    (record { ends = headed.head_cut (course_of net) whole left was now (permitted_empty net) cut; says = λ text told. tt }))

pub returns-clause-so : goal.returns-clause-so
returns-clause-so g c = λ files.
    let session = c.in-Ok.session in
    let net = c.args.net.now in
    let how = c.run_stream.result in
    let left = g.In.Source.left c.args.input.now in
    let rest = g.In.Source.left c.run_stream.new.input in
    let was = g.Out.Sink.held c.args.out.now in
    let mid = g.Out.Sink.held c.put_header.new.out in
    let now = g.Out.Sink.held c.run_stream.new.out in
    let ports : Ports = record { files = files; input_before = left; input_after = rest; output_before = was; output_after = now } in
    let stood = stood_of net (cert_of c.args.cert.now) session c.round.ensures.kept c.in-Ok.ensures.net c.in-Ok.ensures.checked c.in-Ok.ensures.certifies c.in-Ok.ensures.slack c.in-Ok.ensures.found in
    let head = header_same c.net.result.now net c.slack.result.now session.slack c.bounds.result.now session.bounds (c.net.ensures ∙ c.in-Ok.ensures.net) c.slack.ensures c.bounds.ensures in
    let whole = text_of (header_lines net (numerator session.slack) (denominator session.slack) (naturals session.bounds)) in
    let told = subst (λ (text : List ℕ). Tells was mid (λ before after. after ≡ before ++ text)) head c.in_default.ensures.bytes in
    let behind = subst (λ (n : Network). EndsAs n [] how left rest mid now) c.in-Ok.ensures.net c.run_stream.ensures.ends in
    let ends : EndsAs net whole how left rest was now = headed.with_head (course_of net) whole (run_end_of how) left rest was mid now told behind in
    let runs : RunsTo net whole how ports = record { ends = ends; says = says net whole how left rest was now ends } in
    inr (opens_with net (cert_of c.args.cert.now) (numerator session.slack) (denominator session.slack) (naturals session.bounds) stood _
    (subst (λ (o : Outcome). OnEvents o (λ (end : RunEnd). RunsTo net whole end ports)) (sym c.outcome_of_run.ensures.same) (of_run how (λ (end : RunEnd). RunsTo net whole end ports) runs)))
