use Rattle.std.proofs.Common.{sym, subst}
use Rattle.mp_model.specs.Stream.{without_events}
use Rattle.mp_log.specs.Kinds.{kind_read}
use Rattle.mp_stream.specs.Taking.{Takes}
use Rattle.mp_guard_run.specs.Running.{guarded_course, StandsBehind}
use Rattle.mp_guard_run.proofs.Courses.{room_for_period, takes_skipped}
use Rattle.mp_guard_run.proofs.run.GuardSessionDrivenAboveBucket.take_line.Goals as goal

pub close_period-requires-clause-period : goal.close_period-requires-clause-period
close_period-requires-clause-period g c = room_for_period c.args.self.now c.requires.room

pub returns-in-Skipped-clause-takes : goal.returns-in-Skipped-clause-takes
returns-in-Skipped-clause-takes g c =
    let s = c.args.self.now in
    let was = g.Out.Sink.held c.args.out.now in
    subst (λ line. Takes (guarded_course s.net s.guard) (StandsBehind s) (StandsBehind s) (without_events (kind_read line c.args.arrivals.now)) was was) (sym c.in-Skipped.is) (takes_skipped s was)
