use Rattle.std.proofs.Common.{rules, List, ℕ, subst, ◌≡◌}
use Rattle.mp_guard_audit.specs.Auditing.{RefutesCounts}
use Rattle.mp_guard_audit.proofs.LineLemmas.{refuted_counts, nothing_given}
use Rattle.mp_guard_audit.proofs.auditing.take_logged.Goals as goal

pub returns-else-is_period-clause-takes : goal.returns-else-is_period-clause-takes
returns-else-is_period-clause-takes c = λ A taken stands.
    let counts : c.deref.result.now ≡ c.next_arrivals.new.arrivals.items = search rules in
    refuted_counts c.args.session.now c.state.ensures.guarding.acceptable c.args.line.now A taken stands c.next_arrivals.new.arrivals.items c.if-next_arrivals.ensures
    (subst (λ (xs : List ℕ). RefutesCounts c.args.line.now xs c.args.session.now) counts c.if-is_period.ensures.closes)

pub returns-else-is_end-clause-takes : goal.returns-else-is_end-clause-takes
returns-else-is_end-clause-takes c = λ A taken stands. nothing_given c.args.session.now c.state.ensures.guarding.acceptable c.args.line.now A taken stands c.if-next_arrivals.ensures c.if-is_end.ensures
