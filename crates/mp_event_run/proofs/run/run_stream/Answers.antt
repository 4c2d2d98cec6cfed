use Rattle.std.proofs.Common.{[], sym, subst}
use Rattle.mp_event_run.proofs.Bounding.{lines_within, stays_within, stream_stays}
use Rattle.mp_event_run.proofs.Ending.{says}
use Rattle.mp_event_run.specs.Running.{course_of}
use Rattle.mp_stream.specs.Ends as stream
use Rattle.mp_event_run.proofs.run.run_stream.Goals as goal

pub returns-clause-says : goal.returns-clause-says
returns-clause-says g c =
    let net = c.args.session.now.net in
    let whole = g.In.Source.left c.args.input.now in
    let left = g.In.Source.left c.drive.new.input in
    let was = g.Out.Sink.held c.args.out.now in
    let now = g.Out.Sink.held c.drive.new.out in
    says net [] c.run_end.result whole left was now (subst (λ end. stream.EndsAs (course_of net) [] end whole left was now) (sym c.run_end.ensures.same) c.drive.ensures.ends)

pub returns-clause-bounded : goal.returns-clause-bounded
returns-clause-bounded g c = stays_within c.args.session.now c.round.ensures.kept

pub returns-clause-within : goal.returns-clause-within
returns-clause-within g c = lines_within c.args.session.now c.round.ensures.kept

pub returns-clause-stream_within : goal.returns-clause-stream_within
returns-clause-stream_within g c = stream_stays c.args.session.now c.round.ensures.kept
