use Rattle.std.proofs.Common.{refl, arith, rules}
use Rattle.mp_control.proofs.AnswerLemmas.{are_answers}
use Rattle.mp_control.proofs.ProgressLemmas.{progress_start, first_cut, progress_skipped, progress_put, progress_bad, progress_long, progress_unread, progress_unwritten, progress_many, progress_end}
use Rattle.mp_control.proofs.driving.control.Goals.{in-Skipped, in-Put}
use Rattle.mp_control.proofs.driving.control.Goals as goal

pub returns-then-is_err-clause-ends : goal.returns-then-is_err-clause-ends
returns-then-is_err-clause-ends g c = first_cut c.put_text.result c.args.net.now _ _ _ (search rules) c.put_text.ensures.bytes

pub loop-turn-init : goal.loop-turn-init
loop-turn-init g c = record {
  progress = progress_start c.put_text.result c.args.net.now _ _ _ c.new-cutter.result c.new-cutter.ensures (search rules) c.put_text.ensures.bytes;
  few = omega arith;
  in_later = search rules;
  out_later = search rules;
}

pub returns-in-Bad-clause-ends : goal.returns-in-Bad-clause-ends
returns-in-Bad-clause-ends g c =
    progress_bad c.args.net.now _ _ _ c.loop-turn.cutter c.answer_next.new.cutter _ _ _ c.loop-turn.turn c.loop-turn.answers c.loop-turn-test.true c.loop-turn.invariant.progress c.in-Bad.ensures.takes c.in-Bad.ensures.answers

pub returns-in-TooLong-clause-ends : goal.returns-in-TooLong-clause-ends
returns-in-TooLong-clause-ends g c =
    progress_long c.args.net.now _ _ _ c.loop-turn.cutter c.answer_next.new.cutter _ _ _ c.loop-turn.turn c.loop-turn.answers c.loop-turn-test.true c.loop-turn.invariant.progress c.in-TooLong.ensures.takes c.in-TooLong.ensures.answers

pub returns-in-End-clause-ends : goal.returns-in-End-clause-ends
returns-in-End-clause-ends g c =
    let law = are_answers c.greatest_law.ensures c.one_stage_law.ensures c.args.net.now c.shares.ensures.acceptable.network 1 in
    progress_end c.args.net.now c.finish.result _ _ _ c.loop-turn.cutter c.answer_next.new.cutter _ _ _ _ c.loop-turn.turn c.loop-turn.answers law (omega arith) c.loop-turn.invariant.progress c.in-End.ensures.takes c.in-End.ensures.answers c.finish.ensures.finishes

pub returns-in-Unread-clause-ends : goal.returns-in-Unread-clause-ends
returns-in-Unread-clause-ends g c =
    progress_unread c.args.net.now _ _ _ c.loop-turn.cutter c.answer_next.new.cutter _ _ _ c.loop-turn.turn c.loop-turn.answers (omega arith) c.loop-turn.invariant.progress c.in-Unread.ensures.takes c.in-Unread.ensures.answers

pub returns-in-Unwritten-clause-ends : goal.returns-in-Unwritten-clause-ends
returns-in-Unwritten-clause-ends g c =
    progress_unwritten c.args.net.now _ _ _ c.loop-turn.cutter c.answer_next.new.cutter _ _ _ c.loop-turn.turn c.loop-turn.answers c.loop-turn-test.true c.loop-turn.invariant.progress c.in-Unwritten.ensures.takes c.in-Unwritten.ensures.answers

pub loop-turn-preserved : goal.loop-turn-preserved
loop-turn-preserved g c = elim c.match-answer_next.branch [
  | in-Skipped w ↦ record {
    progress = rw w.answers-is (progress_skipped c.args.net.now _ _ _ c.loop-turn.cutter c.answer_next.new.cutter _ _ _ c.loop-turn.turn c.loop-turn.answers c.loop-turn.invariant.progress w.in-Skipped.ensures.takes w.in-Skipped.ensures.answers);
    few = omega arith;
    in_later = search rules;
    out_later = search rules;
  }
  | in-Put w ↦ record {
    progress = rw w.answers-is (progress_put c.args.net.now _ _ _ c.loop-turn.cutter c.answer_next.new.cutter _ _ _ c.loop-turn.turn c.loop-turn.answers c.loop-turn.invariant.progress w.in-Put.ensures.takes w.in-Put.ensures.answers);
    few = omega arith;
    in_later = search rules;
    out_later = search rules;
  }
]

pub returns-in-End-next-clause-ends : goal.returns-in-End-next-clause-ends
returns-in-End-next-clause-ends g c =
    let law = are_answers c.greatest_law.ensures c.one_stage_law.ensures c.args.net.now c.shares.ensures.acceptable.network 1 in
    progress_end c.args.net.now c.finish-in-End-next.result _ _ _ c.loop-turn.cutter c.next.new.self _ _ _ _ c.loop-turn.turn c.loop-turn.answers law (omega arith) c.loop-turn.invariant.progress c.in-End-next.ensures.told refl c.finish-in-End-next.ensures.finishes

pub returns-in-Failed-clause-ends : goal.returns-in-Failed-clause-ends
returns-in-Failed-clause-ends g c =
    progress_unread c.args.net.now _ _ _ c.loop-turn.cutter c.next.new.self _ _ _ c.loop-turn.turn c.loop-turn.answers (omega arith) c.loop-turn.invariant.progress c.in-Failed.ensures.told refl

pub returns-in-Line-clause-ends : goal.returns-in-Line-clause-ends
returns-in-Line-clause-ends g c =
    progress_many c.args.net.now c.next.result _ _ _ c.loop-turn.cutter c.next.new.self _ _ c.loop-turn.turn c.loop-turn.answers (omega (arith, c.loop-turn-test.false, c.loop-turn.auto.turn-end)) c.in-Line.is c.loop-turn.invariant.progress c.next.ensures.told
