use Rattle.std.proofs.Common.{◌≡◌, ◌∙◌, ap, arith, length, replicate, sym, subst, None, refl}
use Rattle.mp_round.specs.RoundView.{AreDecided}
use Rattle.mp_round.proofs.Placing.{opening_shown, places_opening, none_decided}
use Rattle.mp_round.proofs.Quiet.{idle_opening}
use Rattle.mp_round.proofs.round.Round.new.Goals as goal
use Rattle.mp_round.proofs.round.Round.new.Goals.{After-new-3}

decided : (c : After-new-3) → c.in_ok-decided.decided.items ≡ replicate (length c.args.net.now.junctions) None
decided c = c.in_ok-decided.ensures ∙ ap (λ n. replicate n None) (c.from.ensures ∙ c.junctions.ensures.count)

pub returns-clause-opening : goal.returns-clause-opening
returns-clause-opening c =
    let net = c.args.net.now in
    opening_shown net c.shares.ensures.acceptable.network c.in_ok-state.state c.in-Ok.cache c.in_ok-copies.copies c.in_ok-decided.decided.items c.new-3.result.items c.in_ok-state.ensures.on c.in_ok-state.ensures.opening c.in_ok-state.ensures.taken c.in_ok-copies.ensures (decided c) c.new-3.ensures

pub returns-clause-on : goal.returns-clause-on
returns-clause-on c =
    let net = c.args.net.now in
    record {
      on = c.in_ok-state.ensures.on;
      cache = c.in-Ok.ensures.is;
      counts = c.in-Ok.ensures.starts ∙ sym c.in_ok-state.ensures.opening.queues;
      places = places_opening net c.in_ok-copies.copies c.in_ok-copies.ensures;
      decided = subst (AreDecided net.junctions) (sym (decided c)) (none_decided net.junctions (length net.junctions) refl);
      last = λ h. absurd (omega (arith, h, c.in_ok-state.ensures.opening.period));
    }

pub invariant_of-result : goal.invariant_of-result
invariant_of-result c = λ e. idle_opening c.args.net.now c.in_ok-copies.copies c.in_ok-decided.decided.items (length c.args.net.now.junctions) c.in_ok-copies.ensures (decided c)
