use Rattle.std.proofs.Common.{refl, arith, rules}
use Rattle.mp_model.specs.ControlLog.{counts_of_lines, plain_line}
use Rattle.mp_guard_control.specs.Accounts.{AreLeft, answer_by, guarded_controller}
use Rattle.mp_guard_control.proofs.AccountLemmas.{answer_is, left_counts, left_skipped}
use Rattle.mp_guard_control.proofs.KeptLemmas.{order_left}
use Rattle.mp_guard_control.proofs.ProgressLemmas.{progress_start, first_cut, progress_skipped, progress_put, progress_bad, progress_long, progress_unread, progress_unwritten, progress_many, progress_end}
use Rattle.mp_guard_control.proofs.driving.control_guarded.Goals.{in-Skipped, in-Put}
use Rattle.mp_guard_control.proofs.driving.control_guarded.Goals as goal

pub returns-then-is_err-clause-ends : goal.returns-then-is_err-clause-ends
returns-then-is_err-clause-ends g c = first_cut c.args.net.now (guarded_controller c.args.net.now c.args.guard.now c.args.header.now) c.put_text.result _ _ _ (search rules) c.put_text.ensures.bytes

pub loop-turn-init : goal.loop-turn-init
loop-turn-init g c = record {
  progress = progress_start c.args.net.now (guarded_controller c.args.net.now c.args.guard.now c.args.header.now) (AreLeft c.args.net.now c.args.guard.now c.args.owed.now) c.put_text.result _ _ _ c.new-cutter.result c.new-cutter.ensures (search rules) c.requires.opening c.put_text.ensures.bytes;
  few = omega arith;
  in_later = search rules;
  out_later = search rules;
}

pub answer_next-requires-clause-order : goal.answer_next-requires-clause-order
answer_next-requires-clause-order g c =
    let p = c.loop-turn.invariant.progress in
    order_left c.args.net.now c.shares.ensures.acceptable.network c.args.guard.now c.requires.guards c.loop-turn.owed (counts_of_lines p.lines) c.loop-turn.answers p.numbered p.kept

pub returns-in-Bad-clause-ends : goal.returns-in-Bad-clause-ends
returns-in-Bad-clause-ends g c =
    progress_bad c.args.net.now (guarded_controller c.args.net.now c.args.guard.now c.args.header.now) (AreLeft c.args.net.now c.args.guard.now c.loop-turn.owed) _ _ _ c.loop-turn.cutter c.answer_next.new.cutter _ c.loop-turn.turn c.loop-turn.answers
    (answer_by c.args.net.now c.args.guard.now c.loop-turn.answers c.loop-turn.owed) _ _ c.loop-turn-test.true c.loop-turn.invariant.progress c.in-Bad.ensures.takes c.in-Bad.ensures.answers

pub returns-in-TooLong-clause-ends : goal.returns-in-TooLong-clause-ends
returns-in-TooLong-clause-ends g c =
    progress_long c.args.net.now (guarded_controller c.args.net.now c.args.guard.now c.args.header.now) (AreLeft c.args.net.now c.args.guard.now c.loop-turn.owed) _ _ _ c.loop-turn.cutter c.answer_next.new.cutter _ c.loop-turn.turn c.loop-turn.answers
    _ _ c.loop-turn-test.true c.loop-turn.invariant.progress c.in-TooLong.ensures.takes c.in-TooLong.ensures.answers

pub returns-in-End-clause-ends : goal.returns-in-End-clause-ends
returns-in-End-clause-ends g c =
    progress_end c.args.net.now (guarded_controller c.args.net.now c.args.guard.now c.args.header.now) (AreLeft c.args.net.now c.args.guard.now c.loop-turn.owed) _ _ _ c.loop-turn.cutter c.answer_next.new.cutter _ c.loop-turn.turn c.loop-turn.answers
    c.finish.result _ _ _ (omega arith) c.loop-turn.invariant.progress c.in-End.ensures.takes c.in-End.ensures.answers c.finish.ensures.finishes

pub returns-in-Unread-clause-ends : goal.returns-in-Unread-clause-ends
returns-in-Unread-clause-ends g c =
    progress_unread c.args.net.now (guarded_controller c.args.net.now c.args.guard.now c.args.header.now) (AreLeft c.args.net.now c.args.guard.now c.loop-turn.owed) _ _ _ c.loop-turn.cutter c.answer_next.new.cutter _ c.loop-turn.turn c.loop-turn.answers
    _ _ (omega arith) c.loop-turn.invariant.progress c.in-Unread.ensures.takes c.in-Unread.ensures.answers

pub returns-in-Unwritten-clause-ends : goal.returns-in-Unwritten-clause-ends
returns-in-Unwritten-clause-ends g c =
    progress_unwritten c.args.net.now (guarded_controller c.args.net.now c.args.guard.now c.args.header.now) (AreLeft c.args.net.now c.args.guard.now c.loop-turn.owed) _ _ _ c.loop-turn.cutter c.answer_next.new.cutter _ c.loop-turn.turn c.loop-turn.answers
    (answer_by c.args.net.now c.args.guard.now c.loop-turn.answers c.loop-turn.owed) _ _ c.loop-turn-test.true
    (λ counted counts size kept. answer_is c.args.net.now c.args.guard.now counted counts c.loop-turn.answers c.loop-turn.owed size kept) c.loop-turn.invariant.progress c.in-Unwritten.ensures.takes c.in-Unwritten.ensures.answers

pub loop-turn-preserved : goal.loop-turn-preserved
loop-turn-preserved g c = elim c.match-answer_next.branch [
  | in-Skipped w ↦ record {
    progress = rw w.answers-is (progress_skipped c.args.net.now (guarded_controller c.args.net.now c.args.guard.now c.args.header.now) (AreLeft c.args.net.now c.args.guard.now c.loop-turn.owed) (AreLeft c.args.net.now c.args.guard.now c.answer_next.new.owed)
        (answer_by c.args.net.now c.args.guard.now c.loop-turn.answers c.loop-turn.owed) _ _ _ c.loop-turn.cutter c.answer_next.new.cutter _ _ _ c.loop-turn.turn c.loop-turn.answers
        (left_skipped c.args.net.now c.args.guard.now c.loop-turn.answers c.loop-turn.owed c.answer_next.new.owed (plain_line c.args.net.now c.answer_next.new.cutter.line) (w.in-Skipped.ensures.paid tt))
        c.loop-turn.invariant.progress w.in-Skipped.ensures.takes w.in-Skipped.ensures.answers);
    few = omega arith;
    in_later = search rules;
    out_later = search rules;
  }
  | in-Put w ↦ record {
    progress = rw w.answers-is (progress_put c.args.net.now (guarded_controller c.args.net.now c.args.guard.now c.args.header.now) (AreLeft c.args.net.now c.args.guard.now c.loop-turn.owed) (AreLeft c.args.net.now c.args.guard.now c.answer_next.new.owed)
        (answer_by c.args.net.now c.args.guard.now c.loop-turn.answers c.loop-turn.owed) _ _ _ c.loop-turn.cutter c.answer_next.new.cutter _ _ _ c.loop-turn.turn c.loop-turn.answers
        (λ counted counts size kept. answer_is c.args.net.now c.args.guard.now counted counts c.loop-turn.answers c.loop-turn.owed size kept)
        (left_counts c.args.net.now c.args.guard.now c.loop-turn.answers c.loop-turn.owed c.answer_next.new.owed (plain_line c.args.net.now c.answer_next.new.cutter.line) (w.in-Put.ensures.paid tt))
        c.loop-turn.invariant.progress w.in-Put.ensures.takes w.in-Put.ensures.answers);
    few = omega arith;
    in_later = search rules;
    out_later = search rules;
  }
]

pub returns-in-End-next-clause-ends : goal.returns-in-End-next-clause-ends
returns-in-End-next-clause-ends g c =
    progress_end c.args.net.now (guarded_controller c.args.net.now c.args.guard.now c.args.header.now) (AreLeft c.args.net.now c.args.guard.now c.loop-turn.owed) _ _ _ c.loop-turn.cutter c.next.new.self _ c.loop-turn.turn c.loop-turn.answers
    c.finish-in-End-next.result _ _ _ (omega arith) c.loop-turn.invariant.progress c.in-End-next.ensures.told refl c.finish-in-End-next.ensures.finishes

pub returns-in-Failed-clause-ends : goal.returns-in-Failed-clause-ends
returns-in-Failed-clause-ends g c =
    progress_unread c.args.net.now (guarded_controller c.args.net.now c.args.guard.now c.args.header.now) (AreLeft c.args.net.now c.args.guard.now c.loop-turn.owed) _ _ _ c.loop-turn.cutter c.next.new.self _ c.loop-turn.turn c.loop-turn.answers
    _ _ (omega arith) c.loop-turn.invariant.progress c.in-Failed.ensures.told refl

pub returns-in-Line-clause-ends : goal.returns-in-Line-clause-ends
returns-in-Line-clause-ends g c =
    progress_many c.args.net.now (guarded_controller c.args.net.now c.args.guard.now c.args.header.now) (AreLeft c.args.net.now c.args.guard.now c.loop-turn.owed) _ _ _ c.loop-turn.cutter c.next.new.self _ c.loop-turn.turn c.loop-turn.answers
    c.next.result _ (omega (arith, c.loop-turn-test.false, c.loop-turn.auto.turn-end)) c.in-Line.is c.loop-turn.invariant.progress c.next.ensures.told

pub returns-then-is_err-clause-kept : goal.returns-then-is_err-clause-kept
returns-then-is_err-clause-kept g c = c.controlled_law.ensures c.args.net.now c.shares.ensures.acceptable.network c.args.guard.now c.requires.guards

pub returns-in-Bad-clause-kept : goal.returns-in-Bad-clause-kept
returns-in-Bad-clause-kept g c = c.controlled_law.ensures c.args.net.now c.shares.ensures.acceptable.network c.args.guard.now c.requires.guards

pub returns-in-TooLong-clause-kept : goal.returns-in-TooLong-clause-kept
returns-in-TooLong-clause-kept g c = c.controlled_law.ensures c.args.net.now c.shares.ensures.acceptable.network c.args.guard.now c.requires.guards

pub returns-in-End-clause-kept : goal.returns-in-End-clause-kept
returns-in-End-clause-kept g c = c.controlled_law.ensures c.args.net.now c.shares.ensures.acceptable.network c.args.guard.now c.requires.guards

pub returns-in-Unread-clause-kept : goal.returns-in-Unread-clause-kept
returns-in-Unread-clause-kept g c = c.controlled_law.ensures c.args.net.now c.shares.ensures.acceptable.network c.args.guard.now c.requires.guards

pub returns-in-Unwritten-clause-kept : goal.returns-in-Unwritten-clause-kept
returns-in-Unwritten-clause-kept g c = c.controlled_law.ensures c.args.net.now c.shares.ensures.acceptable.network c.args.guard.now c.requires.guards

pub returns-in-End-next-clause-kept : goal.returns-in-End-next-clause-kept
returns-in-End-next-clause-kept g c = c.controlled_law.ensures c.args.net.now c.shares.ensures.acceptable.network c.args.guard.now c.requires.guards

pub returns-in-Failed-clause-kept : goal.returns-in-Failed-clause-kept
returns-in-Failed-clause-kept g c = c.controlled_law.ensures c.args.net.now c.shares.ensures.acceptable.network c.args.guard.now c.requires.guards

pub returns-in-Line-clause-kept : goal.returns-in-Line-clause-kept
returns-in-Line-clause-kept g c = c.controlled_law.ensures c.args.net.now c.shares.ensures.acceptable.network c.args.guard.now c.requires.guards

pub returns-then-is_err-clause-waits : goal.returns-then-is_err-clause-waits
returns-then-is_err-clause-waits g c = c.counted_wait_law.ensures c.args.net.now c.shares.ensures.acceptable.network c.args.guard.now c.requires.guards

pub returns-in-Bad-clause-waits : goal.returns-in-Bad-clause-waits
returns-in-Bad-clause-waits g c = c.counted_wait_law.ensures c.args.net.now c.shares.ensures.acceptable.network c.args.guard.now c.requires.guards

pub returns-in-TooLong-clause-waits : goal.returns-in-TooLong-clause-waits
returns-in-TooLong-clause-waits g c = c.counted_wait_law.ensures c.args.net.now c.shares.ensures.acceptable.network c.args.guard.now c.requires.guards

pub returns-in-End-clause-waits : goal.returns-in-End-clause-waits
returns-in-End-clause-waits g c = c.counted_wait_law.ensures c.args.net.now c.shares.ensures.acceptable.network c.args.guard.now c.requires.guards

pub returns-in-Unread-clause-waits : goal.returns-in-Unread-clause-waits
returns-in-Unread-clause-waits g c = c.counted_wait_law.ensures c.args.net.now c.shares.ensures.acceptable.network c.args.guard.now c.requires.guards

pub returns-in-Unwritten-clause-waits : goal.returns-in-Unwritten-clause-waits
returns-in-Unwritten-clause-waits g c = c.counted_wait_law.ensures c.args.net.now c.shares.ensures.acceptable.network c.args.guard.now c.requires.guards

pub returns-in-End-next-clause-waits : goal.returns-in-End-next-clause-waits
returns-in-End-next-clause-waits g c = c.counted_wait_law.ensures c.args.net.now c.shares.ensures.acceptable.network c.args.guard.now c.requires.guards

pub returns-in-Failed-clause-waits : goal.returns-in-Failed-clause-waits
returns-in-Failed-clause-waits g c = c.counted_wait_law.ensures c.args.net.now c.shares.ensures.acceptable.network c.args.guard.now c.requires.guards

pub returns-in-Line-clause-waits : goal.returns-in-Line-clause-waits
returns-in-Line-clause-waits g c = c.counted_wait_law.ensures c.args.net.now c.shares.ensures.acceptable.network c.args.guard.now c.requires.guards
