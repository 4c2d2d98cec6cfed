use Rattle.std.proofs.Common.{◌≡◌, ◌≤◌, ◌^◌, ◌+◌, ◌∙◌, length, ap, subst, arith, refl, rules}
use Rattle.mp_guard_run.specs.Session.{Guarded}
use Rattle.mp_run.specs.declared.auditing.AuditEnd.TheVariants.{Differs}
use Rattle.mp_step.specs.Standing.{Standing}
use Rattle.mp_guard_audit.specs.Auditing.{AuditsGuarded}
use Rattle.mp_guard_audit.specs.Heading.{header_of}
use Rattle.mp_guard_audit.proofs.DifferLemmas.{auditing_start, auditing_more, auditing_differs, auditing_ends}
use Rattle.mp_guard_audit.proofs.LineLemmas.{same_after, holds_same}
use Rattle.mp_guard_audit.proofs.auditing.audit_periods.Goals as goal

pub loop-input-init : goal.loop-input-init
loop-input-init g c = record {
  auditing = λ whole seen. auditing_start c.args.session.now (header_of c.args.session.now) whole (g.In.Source.left c.args.input.now) c.args.cutter.now.held c.requires.behind.at c.requires.behind.taken seen;
  same = refl;
  later = search rules;
}

pub take_next-requires : goal.take_next-requires
take_next-requires g c = holds_same c.args.session.now c.loop-input.session c.loop-input.invariant.same c.requires.bounds

pub loop-input-smaller : goal.loop-input-smaller
loop-input-smaller g c = omega (arith, c.in-Period.ensures.moves.1, c.in-Period.ensures.moves.2)

pub loop-input-preserved : goal.loop-input-preserved
loop-input-preserved g c =
    let s = c.args.session.now in
    record {
      auditing = λ whole seen. auditing_more c.loop-input.session (header_of s) whole (g.In.Source.left c.loop-input.input) c.loop-input.cutter c.take_next.new.cutter (c.loop-input.invariant.auditing whole seen) (g.In.Source.left c.take_next.new.input) c.take_next.new.session c.take_next.ensures.same c.in-Period.ensures.moves c.in-Period.ensures.takes;
      same = same_after s c.loop-input.session c.take_next.new.session c.loop-input.invariant.same c.take_next.ensures.same;
      later = search rules;
    }

pub returns-in-End-clause-ends : goal.returns-in-End-clause-ends
returns-in-End-clause-ends g c =
    let s = c.args.session.now in
    let old = c.loop-input.session in
    let period : c.period-period.result ≡ old.at.period = c.period-period.ensures.value ∙ ap (λ (st : Standing). st.period) c.state.ensures.value in
    let header : c.from-header.result ≡ length (header_of s) = c.from-header.ensures ∙ c.header_lines.ensures in
    let few : old.at.period ≤ 2 ^ 48 = omega (arith, period, c.period-period.ensures.few) in
    λ whole seen.
    subst (λ (o : Guarded). AuditsGuarded o.net o.guard (header_of s) c.finish_audit.result whole (g.In.Source.left c.finish_audit.new.input)) c.loop-input.invariant.same
    (auditing_ends old (header_of s) whole (g.In.Source.left c.loop-input.input) c.loop-input.cutter c.take_next.new.cutter (c.loop-input.invariant.auditing whole seen) c.state.ensures.guarding.acceptable c.finish_audit.result (g.In.Source.left c.take_next.new.input)
    (g.In.Source.left c.finish_audit.new.input) c.take_next.new.session c.period-period.result (c.from-header.result + c.period-period.result + 1 + 1) few period (omega (arith, period, header)) c.in-End.ensures.moves c.in-End.ensures.takes c.finish_audit.ensures.ends)

pub returns-in-Other-clause-ends : goal.returns-in-Other-clause-ends
returns-in-Other-clause-ends g c =
    let s = c.args.session.now in
    let old = c.loop-input.session in
    let period : c.period-period.result ≡ old.at.period = c.period-period.ensures.value ∙ ap (λ (st : Standing). st.period) c.state.ensures.value in
    let header : c.from-header.result ≡ length (header_of s) = c.from-header.ensures ∙ c.header_lines.ensures in
    let few : old.at.period ≤ 2 ^ 48 = omega (arith, period, c.period-period.ensures.few) in
    λ whole seen.
    subst (λ (o : Guarded). AuditsGuarded o.net o.guard (header_of s) (Differs (c.from-header.result + c.period-period.result + 1)) whole (g.In.Source.left c.take_next.new.input)) c.loop-input.invariant.same
    (auditing_differs old (header_of s) whole (g.In.Source.left c.loop-input.input) c.loop-input.cutter c.take_next.new.cutter (c.loop-input.invariant.auditing whole seen) c.state.ensures.guarding.acceptable (g.In.Source.left c.take_next.new.input)
    (c.from-header.result + c.period-period.result + 1) few (omega (arith, period, header)) c.in-Other.ensures.takes)
