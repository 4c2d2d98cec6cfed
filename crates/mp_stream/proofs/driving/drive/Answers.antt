use Rattle.std.proofs.Common.{◌+◌, ◌∙◌, arith, sym, ap, rules, subst, Result, Ok, Err}
use Rattle.mp_log.specs.Kinds.{kind_read}
use Rattle.mp_stream.specs.Taking.{TakesLine, Finishes}
use Rattle.mp_stream.specs.Ends.{EndsAs}
use Rattle.mp_stream.specs.declared.driving.End.{End}
use Rattle.mp_stream.specs.declared.runs.Stop.{Stop}
use Rattle.mp_stream.proofs.ProgressLemmas.{takes_cut, progress_line, progress_long, progress_stop, progress_failed, progress_many, progress_end}
use Rattle.mp_stream.proofs.driving.drive.Goals as goal

pub loop-turn-preserved : goal.loop-turn-preserved
loop-turn-preserved g c =
    let run = g.R.Driven.course (g.R.Driven.kept c.args.run.now) in
    let Old = g.R.Driven.Stands c.loop-turn.run in
    let New = g.R.Driven.Stands c.take_line.new.self in
    let takes = takes_cut g.R.Driven.course (g.R.Driven.kept c.loop-turn.run) (g.R.Driven.kept c.args.run.now) Old New c.net.result.now c.line.result.now c.next.new.self.line _ (Ok c.in_default.field-0) _ _
    c.loop-turn.invariant.kept c.net.ensures c.line.ensures (c.read_line-line.ensures.kind ∙ sym (ap (kind_read c.read_line-line.result) c.deref.ensures.0)) c.in_default.ensures.takes in
    record {
      progress = progress_line run Old New _ _ _ c.loop-turn.cutter c.next.new.self _ _ _ c.loop-turn.turn c.loop-turn.invariant.progress c.in-Line.ensures.told takes;
      kept = c.take_line.ensures.kept ∙ c.loop-turn.invariant.kept;
      in_later = search rules;
      out_later = search rules;
    }

pub returns-in-Err-clause-ends : goal.returns-in-Err-clause-ends
returns-in-Err-clause-ends g c =
    let run = g.R.Driven.course (g.R.Driven.kept c.args.run.now) in
    let Old = g.R.Driven.Stands c.loop-turn.run in
    let New = g.R.Driven.Stands c.take_line.new.self in
    let takes = takes_cut g.R.Driven.course (g.R.Driven.kept c.loop-turn.run) (g.R.Driven.kept c.args.run.now) Old New c.net.result.now c.line.result.now c.next.new.self.line _ (Err c.in-Err.stop) _ _
    c.loop-turn.invariant.kept c.net.ensures c.line.ensures (c.read_line-line.ensures.kind ∙ sym (ap (kind_read c.read_line-line.result) c.deref.ensures.0)) c.in-Err.ensures.takes in
    let ends = progress_stop run Old New c.in-Err.stop _ _ _ c.loop-turn.cutter c.next.new.self _ _ _ c.loop-turn.turn c.loop-turn-test.true c.loop-turn.invariant.progress c.in-Line.ensures.told takes in
    rw c.stopped.ensures.end ends

pub returns-in-End-clause-ends : goal.returns-in-End-clause-ends
returns-in-End-clause-ends g c =
    let Stands = g.R.Driven.Stands c.loop-turn.run in
    let finishes = subst (λ k. Finishes (g.R.Driven.course k) Stands c.finished.result (g.Out.Sink.held c.loop-turn.out) (g.Out.Sink.held c.finished.new.out)) c.loop-turn.invariant.kept c.finished.ensures.finishes in
    progress_end (g.R.Driven.course (g.R.Driven.kept c.args.run.now)) Stands c.finished.result _ _ _ c.loop-turn.cutter c.next.new.self _ _ _ c.loop-turn.turn (omega arith) c.loop-turn.invariant.progress c.in-End.ensures.told finishes

pub returns-in-End-next-clause-ends : goal.returns-in-End-next-clause-ends
returns-in-End-next-clause-ends g c =
    let Stands = g.R.Driven.Stands c.loop-turn.run in
    let finishes = subst (λ k. Finishes (g.R.Driven.course k) Stands c.finished-in-End-next.result (g.Out.Sink.held c.loop-turn.out) (g.Out.Sink.held c.finished-in-End-next.new.out)) c.loop-turn.invariant.kept c.finished-in-End-next.ensures.finishes in
    progress_end (g.R.Driven.course (g.R.Driven.kept c.args.run.now)) Stands c.finished-in-End-next.result _ _ _ c.loop-turn.cutter c.next-2.new.self _ _ _ c.loop-turn.turn (omega arith) c.loop-turn.invariant.progress c.in-End-next.ensures.told finishes

pub returns-in-TooLong-clause-ends : goal.returns-in-TooLong-clause-ends
returns-in-TooLong-clause-ends g c =
    progress_long (g.R.Driven.course (g.R.Driven.kept c.args.run.now)) (g.R.Driven.Stands c.loop-turn.run) _ _ _ c.loop-turn.cutter c.next.new.self _ _ c.loop-turn.turn c.loop-turn-test.true c.loop-turn.invariant.progress c.in-TooLong.ensures.told

pub returns-in-Failed-clause-ends : goal.returns-in-Failed-clause-ends
returns-in-Failed-clause-ends g c =
    progress_failed (g.R.Driven.course (g.R.Driven.kept c.args.run.now)) (g.R.Driven.Stands c.loop-turn.run) _ _ _ c.loop-turn.cutter c.next.new.self _ _ c.loop-turn.turn (omega arith) c.loop-turn.invariant.progress c.in-Failed.ensures.told

pub returns-in-Failed-next-clause-ends : goal.returns-in-Failed-next-clause-ends
returns-in-Failed-next-clause-ends g c =
    progress_failed (g.R.Driven.course (g.R.Driven.kept c.args.run.now)) (g.R.Driven.Stands c.loop-turn.run) _ _ _ c.loop-turn.cutter c.next-2.new.self _ _ c.loop-turn.turn (omega arith) c.loop-turn.invariant.progress c.in-Failed-next.ensures.told

pub returns-in-Line-next-clause-ends : goal.returns-in-Line-next-clause-ends
returns-in-Line-next-clause-ends g c =
    progress_many (g.R.Driven.course (g.R.Driven.kept c.args.run.now)) (g.R.Driven.Stands c.loop-turn.run) c.next-2.result _ _ _ c.loop-turn.cutter c.next-2.new.self _ _ c.loop-turn.turn (omega (arith, c.loop-turn-test.false, c.loop-turn.auto.turn-end)) c.in-Line-next.is c.loop-turn.invariant.progress c.next-2.ensures.told
