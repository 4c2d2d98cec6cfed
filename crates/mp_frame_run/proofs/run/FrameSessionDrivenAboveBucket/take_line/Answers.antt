use Rattle.std.proofs.Common.{sym, subst}
use Rattle.mp_model.specs.Stream.{without_events}
use Rattle.mp_log.specs.Kinds.{kind_read}
use Rattle.mp_stream.specs.Taking.{Takes}
use Rattle.mp_frame_run.specs.Running.{framed_course, IsBehind}
use Rattle.mp_frame_run.proofs.Courses.{room_for_period, takes_skipped}
use Rattle.mp_frame_run.proofs.run.FrameSessionDrivenAboveBucket.take_line.Goals as goal

pub close_period-requires-clause-period : goal.close_period-requires-clause-period
close_period-requires-clause-period g c = let s = c.args.self.now in room_for_period s.net s.periods s.at s.frame c.requires.room

pub returns-in-Skipped-clause-takes : goal.returns-in-Skipped-clause-takes
returns-in-Skipped-clause-takes g c =
    let s = c.args.self.now in
    let Here = IsBehind s.net s.periods s.at s.frame in
    let was = g.Out.Sink.held c.args.out.now in
    subst (λ line. Takes (framed_course s.net s.periods) Here Here (without_events (kind_read line c.args.arrivals.now)) was was) (sym c.in-Skipped.is) (takes_skipped s.net s.periods s.at s.frame was)
