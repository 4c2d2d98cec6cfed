use Rattle.std.proofs.Common.{◌+◌, ◌∙◌, refl, arith, rules, map, unsigned_abs}
use Rattle.std.proofs.lemmas.Result.{err_from_is_err_and}
use Rattle.mp_model.specs.Log.{header_lines}
use Rattle.mp_num.specs.Fraction.{numerator, denominator}
use Rattle.mp_log.proofs.PutLemmas.{lines_start, lines_more, lines_fail, lines_end, header_size}
use Rattle.mp_log.proofs.header.put_header.Goals as goal

pub loop-i-init : goal.loop-i-init
loop-i-init g c =
    let E = numerator c.args.slack.now in
    let D = denominator c.args.slack.now in
    let bounds = map unsigned_abs c.args.bound.now in
    record {
      put = lines_start (g.K.Sink.held c.args.out.now) (header_lines c.args.net.now E D bounds);
      later = search rules;
      size = c.header_lines-i-end.ensures.count E D bounds ∙ header_size c.args.net.now E D bounds;
    }

pub returns-in_err-put_header_line-clause-bytes : goal.returns-in_err-put_header_line-clause-bytes
returns-in_err-put_header_line-clause-bytes g c =
    let p = err_from_is_err_and c.from_residual.result c.from_residual.ensures.1 in
    let held = g.K.Sink.held in
    let E = numerator c.args.slack.now in
    let D = denominator c.args.slack.now in
    let bounds = map unsigned_abs c.args.bound.now in
    rw p.1 (lines_fail (held c.args.out.now) (held c.loop-i.out) (held c.put_header_line.new.out) (header_lines c.args.net.now E D bounds) c.loop-i.i (c.loop-i.i + 1) refl
    (omega (arith, c.loop-i-test.true, c.loop-i.invariant.size, header_size c.args.net.now E D bounds)) c.loop-i.invariant.put c.in_err-put_header_line.ensures.bytes)

pub loop-i-preserved : goal.loop-i-preserved
loop-i-preserved g c =
    let held = g.K.Sink.held in
    let E = numerator c.args.slack.now in
    let D = denominator c.args.slack.now in
    let bounds = map unsigned_abs c.args.bound.now in
    record {
      put = lines_more (held c.args.out.now) (held c.loop-i.out) (held c.put_header_line.new.out) (header_lines c.args.net.now E D bounds) c.loop-i.i (c.loop-i.i + 1) refl
          (omega (arith, c.loop-i-test.true, c.loop-i.invariant.size, header_size c.args.net.now E D bounds)) c.loop-i.invariant.put c.in_ok-put_header_line.ensures.bytes;
      later = search rules;
      size = c.loop-i.invariant.size;
    }

pub returns-clause-bytes : goal.returns-clause-bytes
returns-clause-bytes g c =
    let E = numerator c.args.slack.now in
    let D = denominator c.args.slack.now in
    let bounds = map unsigned_abs c.args.bound.now in
    lines_end (g.K.Sink.held c.args.out.now) (g.K.Sink.held c.loop-i.out) (header_lines c.args.net.now E D bounds) c.loop-i.i
    (omega (arith, c.loop-i-test.false, c.loop-i.invariant.size, header_size c.args.net.now E D bounds)) c.loop-i.invariant.put
