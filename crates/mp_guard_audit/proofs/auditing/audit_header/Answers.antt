use Rattle.std.proofs.Common.{◌≡◌, ◌<◌, ◌+◌, ◌∙◌, ℕ, [], length, get_or, sym, subst, arith, rules}
use Rattle.mp_run.proofs.DifferLemmas.{seen_start, all_seen}
use Rattle.mp_run.specs.declared.auditing.AuditEnd.TheVariants.{Differs}
use Rattle.mp_guard_audit.specs.Auditing.{AuditsGuarded}
use Rattle.mp_guard_audit.specs.Heading.{header_of}
use Rattle.mp_guard_audit.proofs.DifferLemmas.{header_differs, header_more}
use Rattle.mp_guard_audit.proofs.auditing.audit_header.Goals as goal

pub loop-i-init : goal.loop-i-init
loop-i-init g c = record {
  seen = seen_start _ c.args.cutter.now.held c.requires.held;
  later = search rules;
  size = c.header_lines-i-end.ensures;
}

pub returns-in-Other-clause-ends : goal.returns-in-Other-clause-ends
returns-in-Other-clause-ends g c =
    let s = c.args.session.now in
    let wanted : c.bytes.result.now ≡ get_or (header_of s) c.loop-i.i [] = c.bytes.ensures.value ∙ c.push_header_line.ensures.held in
    let low : c.loop-i.i < length (header_of s) = omega (arith, c.loop-i.invariant.size, c.loop-i-test.true) in
    let ends = header_differs s.net s.guard c.state.ensures.guarding.acceptable (header_of s) c.loop-i.i c.bytes.result.now (g.In.Source.left c.args.input.now) _ _ c.loop-i.cutter c.compare_next.new.cutter low wanted c.loop-i.invariant.seen c.in-Other.ensures.told in
    subst (λ (n : ℕ). AuditsGuarded s.net s.guard (header_of s) (Differs (n + 1)) (g.In.Source.left c.args.input.now) (g.In.Source.left c.compare_next.new.input)) (sym c.from.ensures) ends

pub loop-i-preserved : goal.loop-i-preserved
loop-i-preserved g c =
    let s = c.args.session.now in
    let wanted : c.bytes.result.now ≡ get_or (header_of s) c.loop-i.i [] = c.bytes.ensures.value ∙ c.push_header_line.ensures.held in
    let low : c.loop-i.i < length (header_of s) = omega (arith, c.loop-i.invariant.size, c.loop-i-test.true) in
    record {
      seen = header_more s.net s.guard c.state.ensures.guarding.acceptable (header_of s) c.loop-i.i c.bytes.result.now (g.In.Source.left c.args.input.now) _ _ c.loop-i.cutter c.compare_next.new.cutter low wanted c.loop-i.invariant.seen c.in-Same.ensures.told;
      later = search rules;
      size = c.loop-i.invariant.size;
    }

pub returns-clause-ends : goal.returns-clause-ends
returns-clause-ends g c = all_seen (header_of c.args.session.now) c.loop-i.i _ _ c.loop-i.cutter.held (omega (arith, c.loop-i.invariant.size, c.loop-i-test.false)) c.loop-i.invariant.seen
