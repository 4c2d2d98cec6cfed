use Rattle.std.proofs.Common.{◌≡◌, ◌+◌, ◌∙◌, ℕ, List, None, Option, ap, ap₂, arith, length, map, subst, sym, unwrap_or}
use Rattle.mp_model.specs.EventCore.{accepted, apply, first_undecided}
use Rattle.mp_model.specs.EventCore.Answer.{closed as closed_answer}
use Rattle.mp_model.specs.EventCore.Event.{close}
use Rattle.mp_model.specs.Arrivals.{arrivals_of}
use Rattle.mp_model.specs.Step.{AreStages, State, step}
use Rattle.mp_step.specs.Standing.{Stands, closed}
use Rattle.mp_round.specs.RoundView.{AreDecided, HasPlaces, IsRoundOn, RoundView, core_of}
use Rattle.mp_round.specs.Advancing.{Advances}
use Rattle.mp_round.specs.Showing.{shown_of}
use Rattle.mp_round.proofs.Closing.{closed_round, closes}
use Rattle.mp_round.proofs.Placing.{all_stages, decided_count, none_decided, none_each, places_dropped, shown_by}
use Rattle.mp_round.proofs.Quiet.{none_replicated}
use Rattle.mp_round.proofs.round.Round.close_decided.Goals as goal

pub stages_of-stages-requires : goal.stages_of-stages-requires
stages_of-stages-requires c =
    let on = subst (IsRoundOn c.args.net.now) (sym c.self.view_is) c.requires.on in
    rw c.deref.ensures.value (omega (arith, decided_count c.args.net.now.junctions c.self.inside.decided.items on.decided, c.shares.ensures.acceptable.range.junctions))

pub close_queued-requires-clause-stages : goal.close_queued-requires-clause-stages
close_queued-requires-clause-stages c =
    let net = c.args.net.now in
    let on = subst (IsRoundOn net) (sym c.self.view_is) c.requires.on in
    let none = subst (λ (round : RoundView). first_undecided 1 round.decided ≡ None) (sym c.self.view_is) c.requires.decided in
    subst (AreStages net.junctions) (sym (c.deref-2.ensures.0 ∙ c.stages_of-stages.ensures ∙ ap (map (λ (d : Option ℕ). unwrap_or d 0)) c.deref.ensures.value)) (all_stages 1 net.junctions c.self.inside.decided.items on.decided none)

pub returns-clause-applied : goal.returns-clause-applied
returns-clause-applied c =
    let net = c.args.net.now in
    let s = c.self.inside in
    let on = subst (IsRoundOn net) (sym c.self.view_is) c.requires.on in
    let stages : c.stages_of-stages.result.items ≡ map (λ (d : Option ℕ). unwrap_or d 0) s.decided.items = c.stages_of-stages.ensures ∙ ap (map (λ (d : Option ℕ). unwrap_or d 0)) c.deref.ensures.value in
    let standing : c.close_queued.new.self ≡ closed net s.state (map (λ (d : Option ℕ). unwrap_or d 0) s.decided.items) c.args.arrivals.now = c.in_ok-close_queued.ensures.closed ∙ ap (λ ss. closed net s.state ss c.args.arrivals.now) (c.deref-2.ensures.0 ∙ stages) in
    let copies : c.drop_old.new.self ≡ map (map (accepted net.delay (s.state.period + 1))) s.copies = c.drop_old.ensures ∙ ap₂ (λ delay period. map (map (accepted delay period)) s.copies) c.delay.ensures (c.period.ensures.value ∙ c.in_ok-close_queued.ensures.period) in
    let decided : c.undecide.new.decided.items ≡ map (λ j. None) net.junctions = c.undecide.ensures ∙ none_each net.junctions (length s.decided.items) (decided_count net.junctions s.decided.items on.decided) in
    let none = subst (λ (round : RoundView). first_undecided 1 round.decided ≡ None) (sym c.self.view_is) c.requires.decided in
    let shown : RoundView = shown_by c.close_queued.new.self c.renew.new.self c.drop_old.new.self c.undecide.new.decided.items c.stages_of-stages.result.items in
    let closes_as : shown_by c.close_queued.new.self c.renew.new.self c.drop_old.new.self c.undecide.new.decided.items c.stages_of-stages.result.items ≡ closed_round c.args.net.now (shown_of c.self.inside) c.renew.new.self (map (λ (d : Option ℕ). unwrap_or d 0) c.self.inside.decided.items) c.args.arrivals.now =
    ap (λ st. shown_by st c.renew.new.self c.drop_old.new.self c.undecide.new.decided.items c.stages_of-stages.result.items) standing
    ∙ ap₂ (λ cs ds. shown_by (closed net s.state (map (λ (d : Option ℕ). unwrap_or d 0) s.decided.items) c.args.arrivals.now) c.renew.new.self cs ds c.stages_of-stages.result.items) copies decided
    ∙ ap (shown_by (closed net s.state (map (λ (d : Option ℕ). unwrap_or d 0) s.decided.items) c.args.arrivals.now) c.renew.new.self (map (map (accepted net.delay (s.state.period + 1))) s.copies) (map (λ j. None) net.junctions)) stages in
    subst (λ (round : RoundView). (closed_answer, core_of shown) ≡ apply net (core_of round) (close c.args.arrivals.now)) c.self.view_is
    (ap (λ (round : RoundView). (closed_answer, core_of round)) closes_as ∙ closes net (shown_of c.self.inside) c.renew.new.self c.args.arrivals.now none c.in_ok-close_queued.ensures.within)

pub returns-clause-on : goal.returns-clause-on
returns-clause-on c =
    let net = c.args.net.now in
    let s = c.self.inside in
    let on = subst (IsRoundOn net) (sym c.self.view_is) c.requires.on in
    let none = subst (λ (round : RoundView). first_undecided 1 round.decided ≡ None) (sym c.self.view_is) c.requires.decided in
    record {
      on = c.close_queued.ensures.on;
      cache = c.renew.ensures.is;
      counts = c.renew.ensures.value ∙ c.queues.ensures.value;
      places = subst (HasPlaces net) (sym c.drop_old.ensures) (places_dropped net (accepted c.delay.result c.period.result) s.copies on.places);
      decided = subst (AreDecided net.junctions) (sym c.undecide.ensures) (none_decided net.junctions (length s.decided.items) (decided_count net.junctions s.decided.items on.decided));
      last = λ h. subst (AreStages net.junctions) (sym (c.stages_of-stages.ensures ∙ ap (map (λ (d : Option ℕ). unwrap_or d 0)) c.deref.ensures.value)) (all_stages 1 net.junctions s.decided.items on.decided none);
    }

pub invariant_of-self-2 : goal.invariant_of-self-2
invariant_of-self-2 c = λ e. record { unheard = c.is_empty-unheard.ensures e; undecided = none_replicated c.undecide.new.decided.items (length c.self.inside.decided.items) c.undecide.ensures }

pub returns-clause-advances : goal.returns-clause-advances
returns-clause-advances c =
    let net = c.args.net.now in
    let s = c.self.inside in
    subst (λ (round : RoundView). Advances net round.standing c.close_queued.new.self c.stages_of-stages.result.items c.args.arrivals.now) c.self.view_is
    (record {
      taken = c.in_ok-close_queued.ensures.taken;
      step = subst (λ (ss : List ℕ). (state : State) → Stands net s.state state → Stands net c.close_queued.new.self (step net ss (arrivals_of net c.args.arrivals.now) state)) c.deref-2.ensures.0 c.in_ok-close_queued.ensures.step;
      period = c.in_ok-close_queued.ensures.period;
    })
