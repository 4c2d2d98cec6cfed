use Rattle.std.proofs.Common.{◌≡◌, ◌∙◌, ℕ, [], Option, Some, ap, filter, find, subst, sym}
use Rattle.mp_model.specs.GuardedRun.{IsCandidate, is_idle}
use Rattle.mp_model.specs.Network.{Junction, junction_at, stage_numbers, entry}
use Rattle.mp_press.specs.Queues.{naturals}
use Rattle.mp_press.proofs.Known.{some_stage}
use Rattle.mp_guard_run.specs.Choosing.{IsBest, fits_or, pressed}
use Rattle.mp_guard_run.specs.declared.choice.Best.{Best}
use Rattle.mp_guard_run.proofs.Bests.{chosen_is, pressed_is}
use Rattle.mp_guard_run.proofs.Orders.{some_fits, takes_candidate}
use Rattle.mp_guard_run.proofs.choice.stage_of.Goals as goal

pub unreachable-requires : goal.unreachable-requires
unreachable-requires c =
    let net = c.args.net.now in
    let guard = c.args.guard.now in
    let j : Junction = junction_at net c.args.j in
    let q : ℕ → ℕ = entry (naturals c.args.counts.now) in
    let idle : c.lowest_idle-idle.result ≡ find (is_idle j q c.args.account.now.owed) (stage_numbers j) = c.lowest_idle-idle.ensures.value ∙ ap (λ o. find (is_idle j q o) (stage_numbers j)) c.owed-2.ensures.value in
    let none : filter (fits_or guard c.args.period c.args.account.now c.lowest_idle-idle.result) (stage_numbers j) ≡ [] =
    subst (λ (b : Option Best). IsBest (pressed j c.args.presses.now) (filter (fits_or guard c.args.period c.args.account.now c.lowest_idle-idle.result) (stage_numbers j)) b) c.in-None.is c.best_of.ensures in
    some_fits guard c.requires.guards.cycle.0 j c.args.period c.args.account.now c.requires.order q (some_stage net c.requires.acceptable.network c.args.j c.requires.junction.0 c.requires.junction.1) c.lowest_idle-idle.result idle none

pub returns-clause-value : goal.returns-clause-value
returns-clause-value c =
    let net = c.args.net.now in
    let guard = c.args.guard.now in
    let j : Junction = junction_at net c.args.j in
    let q : ℕ → ℕ = entry (naturals c.args.counts.now) in
    let f : ℕ → ℕ = pressed j c.args.presses.now in
    let idle : c.lowest_idle-idle.result ≡ find (is_idle j q c.args.account.now.owed) (stage_numbers j) = c.lowest_idle-idle.ensures.value ∙ ap (λ o. find (is_idle j q o) (stage_numbers j)) c.owed-2.ensures.value in
    let best : IsBest f (filter (fits_or guard c.args.period c.args.account.now c.lowest_idle-idle.result) (stage_numbers j)) (Some c.in-Some.best) =
    subst (λ (b : Option Best). IsBest f (filter (fits_or guard c.args.period c.args.account.now c.lowest_idle-idle.result) (stage_numbers j)) b) c.in-Some.is c.best_of.ensures in
    c.kept_or.ensures ∙ chosen_is net guard j q c.args.period c.args.account.now f (pressed_is net c.requires.acceptable.network c.args.j q c.args.presses.now c.requires.presses) c.lowest_idle-idle.result c.in-Some.best.stage idle best.1

pub returns-clause-candidate : goal.returns-clause-candidate
returns-clause-candidate c =
    let net = c.args.net.now in
    let j : Junction = junction_at net c.args.j in
    let q : ℕ → ℕ = entry (naturals c.args.counts.now) in
    subst (IsCandidate c.args.guard.now j q c.args.period c.args.account.now) (sym (returns-clause-value c))
    (takes_candidate c.args.guard.now c.requires.guards.cycle.0 j c.args.period c.args.account.now c.requires.order net q (some_stage net c.requires.acceptable.network c.args.j c.requires.junction.0 c.requires.junction.1))
