use Rattle.std.proofs.Common.{◌<◌, ◌+◌, ◌∙◌, ℕ, ℤ, [], length, sym, ap, subst, arith, rules}
use Rattle.mp_model.specs.Network.{Network}
use Rattle.mp_model.specs.Log.{header_lines}
use Rattle.mp_num.specs.Fraction.{numerator, denominator}
use Rattle.mp_log.proofs.PutLemmas.{header_size}
use Rattle.mp_press.specs.Queues.{naturals}
use Rattle.mp_run.specs.declared.auditing.AuditEnd.TheVariants.{Differs}
use Rattle.mp_run.proofs.DifferLemmas.{seen_start, header_line_is, all_seen}
use Rattle.mp_session.proofs.Bounding.{bounds_size}
use Rattle.mp_event_audit.specs.Auditing.{AuditsAs}
use Rattle.mp_event_audit.proofs.Differing.{header_differs, header_more}
use Rattle.mp_event_audit.proofs.auditing.audit_header.Goals as goal

pub loop-i-init : goal.loop-i-init
loop-i-init g c = record {
  seen = seen_start _ c.args.cutter.now.held c.requires;
  later = search rules;
  size = c.header_lines-i-end.ensures.count 0 0 [] ∙ ap (λ (n : Network). length (header_lines n 0 0 [])) c.net-net.ensures ∙ header_size c.args.session.now.net 0 0 [];
}

pub push_header_line-requires-clause-bounds : goal.push_header_line-requires-clause-bounds
push_header_line-requires-clause-bounds g c = ap (length {A = ℤ}) c.bounds.ensures ∙ bounds_size c.args.session.now c.round.ensures.kept ∙ ap (λ (n : Network). length n.movements) (sym c.net-net.ensures)

pub returns-in-Other-clause-ends : goal.returns-in-Other-clause-ends
returns-in-Other-clause-ends g c =
    let s = c.args.session.now in
    let E : ℕ = numerator s.slack in
    let D : ℕ = denominator s.slack in
    let wanted = c.bytes.ensures.value ∙ c.push_header_line.ensures.held ∙ header_line_is s.net c.net-net.result.now E _ D _ s.bounds c.bounds.result.now c.loop-i.i c.net-net.ensures (ap numerator c.slack.ensures) (ap denominator c.slack.ensures) c.bounds.ensures in
    let low : c.loop-i.i < length (header_lines s.net E D (naturals s.bounds)) = omega (arith, header_size s.net E D (naturals s.bounds), c.loop-i.invariant.size, c.loop-i-test.true) in
    let ends = header_differs s.net c.round.ensures.kept.acceptable E D (naturals s.bounds) c.loop-i.i c.bytes.result.now (g.In.Source.left c.args.input.now) _ _ c.loop-i.cutter c.compare_next.new.cutter low wanted c.loop-i.invariant.seen c.in-Other.ensures.told in
    subst (λ (n : ℕ). AuditsAs s.net E D (naturals s.bounds) (Differs (n + 1)) (g.In.Source.left c.args.input.now) (g.In.Source.left c.compare_next.new.input)) (sym c.from.ensures) ends

pub loop-i-preserved : goal.loop-i-preserved
loop-i-preserved g c =
    let s = c.args.session.now in
    let E : ℕ = numerator s.slack in
    let D : ℕ = denominator s.slack in
    let wanted = c.bytes.ensures.value ∙ c.push_header_line.ensures.held ∙ header_line_is s.net c.net-net.result.now E _ D _ s.bounds c.bounds.result.now c.loop-i.i c.net-net.ensures (ap numerator c.slack.ensures) (ap denominator c.slack.ensures) c.bounds.ensures in
    let low : c.loop-i.i < length (header_lines s.net E D (naturals s.bounds)) = omega (arith, header_size s.net E D (naturals s.bounds), c.loop-i.invariant.size, c.loop-i-test.true) in
    record {
      seen = header_more s.net c.round.ensures.kept.acceptable E D (naturals s.bounds) c.loop-i.i c.bytes.result.now (g.In.Source.left c.args.input.now) _ _ c.loop-i.cutter c.compare_next.new.cutter low wanted c.loop-i.invariant.seen c.in-Same.ensures.told;
      later = search rules;
      size = c.loop-i.invariant.size;
    }

pub returns-clause-ends : goal.returns-clause-ends
returns-clause-ends g c =
    let s = c.args.session.now in
    let size = header_size s.net (numerator s.slack) (denominator s.slack) (naturals s.bounds) in
    all_seen (header_lines s.net (numerator s.slack) (denominator s.slack) (naturals s.bounds)) c.loop-i.i _ _ c.loop-i.cutter.held (omega (arith, size, c.loop-i.invariant.size, c.loop-i-test.false)) c.loop-i.invariant.seen
