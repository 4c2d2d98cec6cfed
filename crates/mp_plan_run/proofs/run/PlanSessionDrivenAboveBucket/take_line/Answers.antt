use Rattle.std.proofs.Common.{sym, subst}
use Rattle.mp_model.specs.Stream.{without_events}
use Rattle.mp_log.specs.Kinds.{kind_read}
use Rattle.mp_stream.specs.Taking.{Takes}
use Rattle.mp_plan_run.specs.Running.{plan_course, StandsBehind}
use Rattle.mp_plan_run.proofs.CourseLemmas.{room_for_period, takes_skipped}
use Rattle.mp_plan_run.proofs.run.PlanSessionDrivenAboveBucket.take_line.Goals as goal

pub close_period-requires-clause-period : goal.close_period-requires-clause-period
close_period-requires-clause-period g c = room_for_period c.args.self.now.net c.args.self.now.plan c.args.self.now.at c.requires.room

pub returns-in-Skipped-clause-takes : goal.returns-in-Skipped-clause-takes
returns-in-Skipped-clause-takes g c =
    let net = c.args.self.now.net in
    let plan = c.args.self.now.plan in
    let Here = StandsBehind net plan c.args.self.now.at in
    let was = g.Out.Sink.held c.args.out.now in
    subst (λ line. Takes (plan_course net plan) Here Here (without_events (kind_read line c.args.arrivals.now)) was was) (sym c.in-Skipped.is) (takes_skipped net plan c.args.self.now.at was)
