use Rattle.std.proofs.Common.{◌≡◌, ◌<◌, ◌+◌, ◌-◌, [], refl, ◌∙◌, ℕ, Bool, true, false, None, Option, Some, is_none, not, ap, ap₂, arith, get_or, length, subst, sym}
use Rattle.std.proofs.lemmas.List.{get_or_default, get_or-set_same}
use Rattle.mp_model.specs.EventCore.{Copy, accepted}
use Rattle.mp_model.specs.Network.{junction_at, targets}
use Rattle.mp_round.specs.RoundView.{IsRoundOn, RoundView, core_of}
use Rattle.mp_round.proofs.Placing.{decided_count, on_stage, row_places}
use Rattle.mp_round.proofs.Readying.{Heard, hears_more, lacks_at, readies, skips}
use Rattle.mp_round.proofs.round.Round.ready.Goals as goal
use Rattle.mp_round.proofs.round.Round.ready.Goals.{then-not-is_accepted, else-not-is_accepted}

pub decided-requires : goal.decided-requires
decided-requires c = omega (arith, c.requires.junction, decided_count c.args.net.now.junctions c.args.self.now.decided c.requires.on.decided)

pub at-requires-clause-place : goal.at-requires-clause-place
at-requires-clause-place c =
    let net = c.args.net.now in
    let on = subst (IsRoundOn net) (sym c.self-in-loop-i.view_is) c.loop-i.invariant.on in
    omega (arith, row_places net c.self-in-loop-i.inside.copies c.args.j on.places c.requires.junction, ap {B = ℕ} (λ ts. length ts) c.targets-i-end.ensures)

flips : (b c : Bool) → not b ≡ c → b ≡ not c
flips true true e = cc
flips true false e = refl
flips false true e = refl
flips false false e = cc

-- whether the place has no copy that the decision accepts
same : (c : goal.Joined-not-is_accepted) → c.is_accepted.result ≡ not (lacks_at c.args.net.now c.args.self.now.standing.period c.loop-i.self.copies c.args.j c.loop-i.i)
same c =
    let net = c.args.net.now in
    let j = c.args.j in
    let i = c.loop-i.i in
    let on = subst (IsRoundOn net) (sym c.self-in-loop-i.view_is) c.loop-i.invariant.on in
    let row = get_or c.self-in-loop-i.inside.copies (j - 1) [] in
    let size = row_places net c.self-in-loop-i.inside.copies j on.places c.requires.junction in
    let targets' = ap {B = ℕ} (λ ts. length ts) c.targets-i-end.ensures in
    let period : c.period-period.result ≡ c.args.self.now.standing.period = c.period-period.ensures.value ∙ ap (λ (round : RoundView). round.standing.period) c.self.view_is in
    let read : c.at.result.now ≡ get_or (get_or c.loop-i.self.copies (j - 1) []) i None =
    c.at.ensures ∙ get_or_default row i c.at.result.now None (omega (arith, c.loop-i-test.true)) ∙ ap (λ (round : RoundView). get_or (get_or round.copies (j - 1) []) i None) c.self-in-loop-i.view_is in
    c.is_accepted.ensures ∙ ap₂ (λ delay period. not (is_none (accepted delay period c.at.result.now))) c.delay-delay.ensures period ∙ ap (λ (copy : Option Copy). not (is_none (accepted net.delay c.args.self.now.standing.period copy))) read

pub loop-i-preserved : goal.loop-i-preserved
loop-i-preserved c =
    let net = c.args.net.now in
    let first = c.args.self.now in
    let lt : c.loop-i.i < length (targets net (junction_at net c.args.j)) = omega (arith, c.loop-i-test.true, ap {B = ℕ} (λ ts. length ts) c.targets-i-end.ensures) in
    elim c.if-not-is_accepted.branch [
      | then-not-is_accepted w ↦ subst (Heard net first c.args.j (c.loop-i.i + 1)) (sym (w.self-is ∙ w.put_report.ensures)) (hears_more net first c.args.j c.requires.junction c.loop-i.self c.loop-i.i lt c.loop-i.invariant (flips _ false (sym (same c) ∙ w.if-not-is_accepted.true)))
      | else-not-is_accepted w ↦ subst (Heard net first c.args.j (c.loop-i.i + 1)) (sym w.self-is) (skips net first c.args.j c.requires.junction c.loop-i.self c.loop-i.i lt c.loop-i.invariant (flips _ true (sym (same c) ∙ w.if-not-is_accepted.false)))
    ]

is_nothing : (o : Option ℕ) → is_none o ≡ true → o ≡ None
is_nothing None e = refl
is_nothing (Some s) e = cc

pub returns-clause-core : goal.returns-clause-core
returns-clause-core c =
    let net = c.args.net.now in
    let first = c.args.self.now in
    let end : c.loop-i.i ≡ length (targets net (junction_at net c.args.j)) = omega (arith, c.loop-i-test.false, ap {B = ℕ} (λ ts. length ts) c.targets-i-end.ensures) in
    let none : get_or first.decided (c.args.j - 1) None ≡ None = is_nothing _ (flips _ false (sym c.decided.ensures ∙ c.if-decided.false)) in
    ap core_of c.fix_stage.ensures.fixed
    ∙ readies net first c.args.j c.requires.junction c.loop-i.self c.fix_stage.result (subst (λ n. Heard net first c.args.j n c.loop-i.self) end c.loop-i.invariant) none c.fix_stage.ensures.value

pub returns-clause-decided : goal.returns-clause-decided
returns-clause-decided c =
    let size = decided_count c.args.net.now.junctions c.loop-i.self.decided c.loop-i.invariant.on.decided in
    ap (λ (round : RoundView). is_none (get_or round.decided (c.args.j - 1) None)) c.fix_stage.ensures.fixed
    ∙ ap (λ (d : Option ℕ). is_none d) (get_or-set_same c.loop-i.self.decided (c.args.j - 1) (Some c.fix_stage.result) None (omega (arith, c.requires.junction)))

pub returns-clause-on : goal.returns-clause-on
returns-clause-on c = subst (IsRoundOn c.args.net.now) (sym c.fix_stage.ensures.fixed) (on_stage c.args.net.now c.loop-i.self c.args.j c.fix_stage.result c.fix_stage.ensures.stage c.loop-i.invariant.on)
