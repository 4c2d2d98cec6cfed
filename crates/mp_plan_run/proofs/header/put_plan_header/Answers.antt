use Rattle.std.proofs.Common.{◌+◌, refl, arith, rules}
use Rattle.std.proofs.lemmas.Result.{err_from_is_err_and}
use Rattle.mp_log.proofs.PutLemmas.{lines_start, lines_more, lines_fail, lines_end}
use Rattle.mp_model.specs.Plans.{plan_header}
use Rattle.mp_plan_run.proofs.HeadingLemmas.{header_size}
use Rattle.mp_plan_run.proofs.header.put_plan_header.Goals as goal

pub loop-i-init : goal.loop-i-init
loop-i-init g c = record {
  put = lines_start (g.K.Sink.held c.args.out.now) (plan_header c.args.net.now c.args.plan.now);
  later = search rules;
  size = c.header_lines-i-end.ensures;
}

pub returns-in_err-put_line-clause-bytes : goal.returns-in_err-put_line-clause-bytes
returns-in_err-put_line-clause-bytes g c =
    let p = err_from_is_err_and c.from_residual.result c.from_residual.ensures.1 in
    let held = g.K.Sink.held in
    rw p.1 (lines_fail (held c.args.out.now) (held c.loop-i.out) (held c.put_line.new.out) (plan_header c.args.net.now c.args.plan.now) c.loop-i.i (c.loop-i.i + 1) refl
    (omega (arith, c.loop-i-test.true, c.loop-i.invariant.size, header_size c.args.net.now c.args.plan.now)) c.loop-i.invariant.put c.in_err-put_line.ensures.bytes)

pub loop-i-preserved : goal.loop-i-preserved
loop-i-preserved g c =
    let held = g.K.Sink.held in
    record {
      put = lines_more (held c.args.out.now) (held c.loop-i.out) (held c.put_line.new.out) (plan_header c.args.net.now c.args.plan.now) c.loop-i.i (c.loop-i.i + 1) refl
          (omega (arith, c.loop-i-test.true, c.loop-i.invariant.size, header_size c.args.net.now c.args.plan.now)) c.loop-i.invariant.put c.in_ok-put_line.ensures.bytes;
      later = search rules;
      size = c.loop-i.invariant.size;
    }

pub returns-clause-bytes : goal.returns-clause-bytes
returns-clause-bytes g c =
    lines_end (g.K.Sink.held c.args.out.now) (g.K.Sink.held c.loop-i.out) (plan_header c.args.net.now c.args.plan.now) c.loop-i.i
    (omega (arith, c.loop-i-test.false, c.loop-i.invariant.size, header_size c.args.net.now c.args.plan.now)) c.loop-i.invariant.put
