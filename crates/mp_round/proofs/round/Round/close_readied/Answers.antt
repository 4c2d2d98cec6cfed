use Rattle.std.proofs.Common.{◌≡◌, ℕ, List, ◌+◌, ◌-◌, ◌∙◌, None, is_none, ap, arith, get_or, length, subst, sym}
use Rattle.std.specs.Prelude.{IfErr, OnErr, OnOk, Result, Ok, Err}
use Rattle.mp_laws.specs.Buckets.{IsFirstAbove}
use Rattle.mp_step.specs.Standing.{Standing}
use Rattle.mp_step.specs.Taken.{HasTaken}
use Rattle.mp_step.specs.declared.state.AboveAt.{AboveAt}
use Rattle.mp_round.specs.Advancing.{Advances}
use Rattle.mp_round.specs.Events.{closing_answer}
use Rattle.mp_round.specs.RoundView.{RoundView}
use Rattle.mp_round.proofs.Placing.{decided_count}
use Rattle.mp_round.proofs.Readying.{Readied, all_decided, performs, readies_more}
use Rattle.mp_round.proofs.round.Round.close_readied.Goals as goal

pub loop-i-preserved : goal.loop-i-preserved
loop-i-preserved c =
    let e = c.ready.ensures in
    let back : (c.loop-i.i + 1) - 1 ≡ c.loop-i.i = omega arith in
    readies_more c.args.net.now c.args.self.now c.loop-i.self c.ready.new.self c.loop-i.i c.loop-i.invariant e.on e.core e.standing e.copies e.later (ap (λ n. is_none (get_or c.ready.new.self.decided n None)) (sym back) ∙ e.decided) e.earlier

pub close_decided-requires-clause-decided : goal.close_decided-requires-clause-decided
close_decided-requires-clause-decided c =
    let net = c.args.net.now in
    let end : c.loop-i.i ≡ length net.junctions = omega (arith, c.loop-i-test.false, c.junctions-i-end.ensures.count) in
    all_decided net c.args.self.now c.loop-i.self (subst (λ n. Readied net c.args.self.now n c.loop-i.self) end c.loop-i.invariant) (decided_count net.junctions c.loop-i.self.decided c.loop-i.invariant.on.decided)

pub returns-clause-core : goal.returns-clause-core
returns-clause-core c =
    let net = c.args.net.now in
    let end : c.loop-i.i ≡ length net.junctions = omega (arith, c.loop-i-test.false, c.junctions-i-end.ensures.count) in
    performs net c.args.self.now c.loop-i.self c.close_decided.new.self c.args.arrivals.now (closing_answer c.close_decided.result) (subst (λ n. Readied net c.args.self.now n c.loop-i.self) end c.loop-i.invariant) c.close_decided.ensures.applied

pub returns-clause-stays : goal.returns-clause-stays
returns-clause-stays c = go c.close_decided.result c.close_decided.ensures.refused
  where
    go : (r : Result (Unit {0}) AboveAt) → OnErr r (c.close_decided.new.self ≡ c.loop-i.self) → OnErr r (c.close_decided.new.self.standing ≡ c.args.self.now.standing)
    go (Ok done) e = tt
    go (Err above) e = ap (λ (round : RoundView). round.standing) e ∙ c.loop-i.invariant.standing

pub returns-clause-excess : goal.returns-clause-excess
returns-clause-excess c = subst (λ (st : Standing). IfErr c.close_decided.result (λ above. (A : List (List ℕ)) → HasTaken c.args.net.now st A → IsFirstAbove c.args.net.now A c.args.arrivals.now above.link)) c.loop-i.invariant.standing c.close_decided.ensures.excess

pub returns-clause-advances : goal.returns-clause-advances
returns-clause-advances c = subst (λ (st : Standing). OnOk c.close_decided.result (Advances c.args.net.now st c.close_decided.new.self.standing c.close_decided.new.self.last c.args.arrivals.now)) c.loop-i.invariant.standing c.close_decided.ensures.advances
