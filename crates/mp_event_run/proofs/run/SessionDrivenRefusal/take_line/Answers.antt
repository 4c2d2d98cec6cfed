use Rattle.std.proofs.Common.{refl, rules, sym, subst}
use Rattle.mp_log.specs.Kinds.{kind_read, IsOnNetwork}
use Rattle.mp_log.specs.declared.stream_line.StreamLine.TheVariants.{Hear, Decide}
use Rattle.mp_model.specs.Stream.LineKind.{hear_line, decide_line}
use Rattle.mp_stream.specs.Taking.{Takes}
use Rattle.mp_event_run.specs.Running.{course_of, StandsBehind}
use Rattle.mp_event_run.proofs.Takings.{junction_there, room_for_period, takes_skipped}
use Rattle.mp_event_run.proofs.run.SessionDrivenRefusal.take_line.Goals as goal

pub close_period-requires-clause-period : goal.close_period-requires-clause-period
close_period-requires-clause-period g c = room_for_period c.args.self.now.net c.round.ensures.kept.acceptable.network c.args.self.now.round c.requires.room

pub take_event-requires-clause-period : goal.take_event-requires-clause-period
take_event-requires-clause-period g c = room_for_period c.args.self.now.net c.round.ensures.kept.acceptable.network c.args.self.now.round c.requires.room

pub take_event-requires-in-Decide-clause-period : goal.take_event-requires-in-Decide-clause-period
take_event-requires-in-Decide-clause-period g c = room_for_period c.args.self.now.net c.round.ensures.kept.acceptable.network c.args.self.now.round c.requires.room

pub take_event-requires-clause-can : goal.take_event-requires-clause-can
take_event-requires-clause-can g c =
    let net = c.args.self.now.net in
    let there : IsOnNetwork net (Hear c.in-Hear.junction c.in-Hear.link) c.args.arrivals.now = subst (λ line. IsOnNetwork net line c.args.arrivals.now) c.in-Hear.is c.requires.network in
    junction_there net c.in-Hear.junction there.0

pub take_event-requires-in-Decide-clause-can : goal.take_event-requires-in-Decide-clause-can
take_event-requires-in-Decide-clause-can g c =
    let net = c.args.self.now.net in
    let there : IsOnNetwork net (Decide c.in-Decide.junction) c.args.arrivals.now = subst (λ line. IsOnNetwork net line c.args.arrivals.now) c.in-Decide.is c.requires.network in
    junction_there net c.in-Decide.junction there

pub returns-in-Skipped-clause-takes : goal.returns-in-Skipped-clause-takes
returns-in-Skipped-clause-takes g c =
    let net = c.args.self.now.net in
    let Here = StandsBehind net c.args.self.now.round in
    let was = g.Out.Sink.held c.args.out.now in
    subst (λ line. Takes (course_of net) Here Here (kind_read line c.args.arrivals.now) was was) (sym c.in-Skipped.is) (takes_skipped net c.args.self.now.round was)

pub returns-in-Hear-clause-takes : goal.returns-in-Hear-clause-takes
returns-in-Hear-clause-takes g c =
    let was = g.Out.Sink.held c.args.out.now in
    let takes = c.take_event.ensures.takes (hear_line c.in-Hear.junction c.in-Hear.link) refl was in
    search (rules, c.in-Hear.is)

pub returns-in-Decide-clause-takes : goal.returns-in-Decide-clause-takes
returns-in-Decide-clause-takes g c =
    let was = g.Out.Sink.held c.args.out.now in
    let takes = c.take_event-in-Decide.ensures.takes (decide_line c.in-Decide.junction) refl was in
    search (rules, c.in-Decide.is)
