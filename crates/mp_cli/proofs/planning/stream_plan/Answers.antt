use Rattle.std.proofs.Common.{◌≡◌, ◌++◌, ℕ, List, [], refl, inr, ◌∙◌, ap, subst}
use Rattle.mp_edge.specs.Outside.{Tells, GainsPrefix}
use Rattle.mp_model.specs.Log.{end_line, text_of}
use Rattle.mp_model.specs.Network.{Network}
use Rattle.mp_model.specs.Plans.{Plan, plan_header, planned_after, planned_lines_from}
use Rattle.mp_model.specs.Run.{opening}
use Rattle.mp_plan_run.specs.Running.{EndsAs}
use Rattle.mp_cli.specs.Ports.{Ports}
use Rattle.mp_cli.proofs.StreamLemmas.{behind_head, head_cut, over_read, over_write, rose_behind, none_stored}
use Rattle.mp_cli.proofs.planning.stream_plan.Goals as goal

header_same : (n net : Network) (p plan : Plan) → n ≡ net → p ≡ plan → text_of (plan_header n p) ≡ text_of (plan_header net plan)
header_same n net p plan one two = ap (λ (m : Network). text_of (plan_header m p)) one ∙ ap (λ (q : Plan). text_of (plan_header net q)) two

pub returns-in-Err-clause-so : goal.returns-in-Err-clause-so
returns-in-Err-clause-so g c = λ files.
    let net = c.args.net.now in
    let plan = c.args.plan in
    let head = header_same c.net.result.now net c.plan.result.now plan (c.net.ensures ∙ c.in-Ok.ensures.net) (c.plan.ensures.value ∙ c.in-Ok.ensures.plan) in
    let cut = subst (λ (text : List ℕ). Tells (g.Out.Sink.held c.args.out.now) (g.Out.Sink.held c.put_plan_header.new.out) (GainsPrefix text)) head c.in-Err.ensures.bytes in
    let ports : Ports = record { files = files; input_before = g.In.Source.left c.args.input.now; input_after = g.In.Source.left c.args.input.now; output_before = g.Out.Sink.held c.args.out.now; output_after = g.Out.Sink.held c.put_plan_header.new.out } in
    inr (head_cut net (planned_lines_from net plan (opening net)) (λ A. end_line net (planned_after net plan (opening net) A)) (text_of (plan_header net plan)) ports refl cut)

pub returns-clause-so : goal.returns-clause-so
returns-clause-so g c = λ files.
    let session = c.in-Ok.session in
    let net = c.args.net.now in
    let plan = c.args.plan in
    let left = g.In.Source.left c.args.input.now in
    let rest = g.In.Source.left c.run_plan.new.input in
    let was = g.Out.Sink.held c.args.out.now in
    let mid = g.Out.Sink.held c.put_plan_header.new.out in
    let now = g.Out.Sink.held c.run_plan.new.out in
    let ports : Ports = record { files = files; input_before = left; input_after = rest; output_before = was; output_after = now } in
    let head = header_same c.net.result.now net c.plan.result.now plan (c.net.ensures ∙ c.in-Ok.ensures.net) (c.plan.ensures.value ∙ c.in-Ok.ensures.plan) in
    let told = subst (λ (text : List ℕ). Tells was mid (λ before after. after ≡ before ++ text)) head c.in_default-put_plan_header.ensures.bytes in
    let behind = subst (λ (p : Plan). EndsAs net p [] c.run_plan.result left rest mid now) c.in-Ok.ensures.plan (subst (λ (n : Network). EndsAs n session.plan [] c.run_plan.result left rest mid now) c.in-Ok.ensures.net c.run_plan.ensures.ends) in
    inr (behind_head net (planned_lines_from net plan (opening net)) (λ A. end_line net (planned_after net plan (opening net) A)) (text_of (plan_header net plan)) ports mid c.run_end.result c.run_plan.result c.run_end.ensures told behind)

pub returns-clause-unstored : goal.returns-clause-unstored
returns-clause-unstored g c = none_stored c.run_end.result

pub returns-clause-read : goal.returns-clause-read
returns-clause-read g c = λ is. c.run_plan.ensures.read (over_read c.run_end.result c.run_plan.result c.run_end.ensures is)

pub returns-clause-write : goal.returns-clause-write
returns-clause-write g c = λ is. rose_behind (g.Out.Sink.faults c.args.out.now) (g.Out.Sink.faults c.put_plan_header.new.out) (g.Out.Sink.faults c.run_plan.new.out) c.in_default-put_plan_header.ensures.cause.later (c.run_plan.ensures.write (over_write c.run_end.result c.run_plan.result c.run_end.ensures is))
