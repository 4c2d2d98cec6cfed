use Rattle.std.proofs.Common.{rules, List, ℕ, subst, ◌≡◌}
use Rattle.mp_model.specs.NetworkRules.{IsAcceptable}
use Rattle.mp_event_audit.specs.Auditing.{RefutesCounts}
use Rattle.mp_event_audit.proofs.Taking.{refuted_counts, nothing_given}
use Rattle.mp_event_audit.proofs.auditing.take_logged.Goals as goal

pub returns-else-is_period-clause-takes : goal.returns-else-is_period-clause-takes
returns-else-is_period-clause-takes c = λ A stands.
    let net : c.net.result.now ≡ c.args.session.now.net = search rules in
    let counts : c.deref.result.now ≡ c.next_arrivals.new.arrivals.items = search rules in
    let ok : IsAcceptable c.args.session.now.net = subst IsAcceptable net c.shares.ensures.acceptable in
    refuted_counts c.args.session.now.net ok c.args.line.now c.args.session.now.round A stands c.next_arrivals.new.arrivals.items c.if-next_arrivals.ensures
    (subst (λ (xs : List ℕ). RefutesCounts c.args.session.now.net c.args.line.now xs c.args.session.now.round) counts c.if-is_period.ensures.closes)

pub returns-else-is_end-clause-takes : goal.returns-else-is_end-clause-takes
returns-else-is_end-clause-takes c = λ A stands.
    let net : c.net.result.now ≡ c.args.session.now.net = search rules in
    let ok : IsAcceptable c.args.session.now.net = subst IsAcceptable net c.shares.ensures.acceptable in
    nothing_given c.args.session.now.net ok c.args.line.now c.args.session.now.round A stands c.if-next_arrivals.ensures c.if-is_end.ensures
