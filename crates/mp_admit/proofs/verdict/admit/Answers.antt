use Rattle.std.proofs.Common.{Option, sym, subst}
use Rattle.mp_flow.specs.Calculating.{flows_of}
use Rattle.mp_cert.specs.Weighing.{weighed}
use Rattle.mp_verdict.specs.Stated.{Stated, Gives}
use Rattle.mp_verdict.specs.Verdict.{Verdict as StatedVerdict, verdict}
use Rattle.mp_admit.specs.declared.score.Score.{Score}
use Rattle.mp_admit.specs.declared.verdict.Verdict.{Verdict}
use Rattle.mp_admit.specs.Scores.{scores_of}
use Rattle.mp_admit.specs.Verdicts.{verdict_of}
use Rattle.mp_admit.proofs.VerdictLemmas.{verdict_no_flows, verdict_no_game, verdict_at, some_movement, verdict_holds, verdict_exact}
use Rattle.mp_admit.proofs.verdict.admit.Goals as goal

pub returns-in-Err-clause-calculation : goal.returns-in-Err-clause-calculation
returns-in-Err-clause-calculation c = verdict_no_flows {X = Verdict} verdict_of _ (weighed c.args.net.now) c.in-Err.fault c.in-Err.ensures.calculation

pub returns-in-Err-game-clause-calculation : goal.returns-in-Err-game-clause-calculation
returns-in-Err-game-clause-calculation c =
    verdict_no_game {X = Option Score} {X' = Verdict} scores_of verdict_of _ (weighed c.args.net.now) (flows_of c.in-Ok.flows) c.in-Err-game.fault c.in-Ok.ensures.calculation c.in-Err-game.ensures.calculation

pub unreachable-requires : goal.unreachable-requires
unreachable-requires c = some_movement _ (flows_of c.in-Ok.flows) c.in-Ok-game.score c.shares-shares.ensures.acceptable c.in-Ok.ensures.balance c.in-Ok-game.ensures.calculation c.in-None.is

pub returns-clause-calculation : goal.returns-clause-calculation
returns-clause-calculation c =
    subst (λ (t : Stated StatedVerdict). Gives verdict_of c.decide.result t)
    (sym (verdict_at _ (weighed c.args.net.now) (flows_of c.in-Ok.flows) c.in-Ok-game.score c.in-Some.score c.in-Ok.ensures.calculation c.in-Ok-game.ensures.calculation c.in-Some.is)) c.decide.ensures

pub returns-clause-holds : goal.returns-clause-holds
returns-clause-holds c =
    let g : Gives verdict_of c.decide.result (verdict c.args.net.now (weighed c.args.net.now)) =
    subst (λ (t : Stated StatedVerdict). Gives verdict_of c.decide.result t)
    (sym (verdict_at _ (weighed c.args.net.now) (flows_of c.in-Ok.flows) c.in-Ok-game.score c.in-Some.score c.in-Ok.ensures.calculation c.in-Ok-game.ensures.calculation c.in-Some.is)) c.decide.ensures in
    verdict_holds _ (weighed c.args.net.now) c.decide.result c.shares-shares.ensures.acceptable.network g

pub returns-clause-exact : goal.returns-clause-exact
returns-clause-exact c =
    let g : Gives verdict_of c.decide.result (verdict c.args.net.now (weighed c.args.net.now)) =
    subst (λ (t : Stated StatedVerdict). Gives verdict_of c.decide.result t)
    (sym (verdict_at _ (weighed c.args.net.now) (flows_of c.in-Ok.flows) c.in-Ok-game.score c.in-Some.score c.in-Ok.ensures.calculation c.in-Ok-game.ensures.calculation c.in-Some.is)) c.decide.ensures in
    verdict_exact _ (weighed c.args.net.now) c.decide.result c.shares-shares.ensures.acceptable.network g
