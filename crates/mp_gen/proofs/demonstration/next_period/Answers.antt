use Rattle.std.proofs.Common.{ℕ, List, [], ◌∷◌, ◌++◌, subst}
use Rattle.mp_model.specs.Step.{State}
use Rattle.mp_model.specs.Run.{advance}
use Rattle.mp_laws.specs.Buckets.{IsFirstAbove}
use Rattle.mp_step.specs.Standing.{Stands}
use Rattle.mp_step.specs.Taken.{HasTaken}
use Rattle.mp_gen.proofs.Draws.{none_above}
use Rattle.mp_gen.proofs.Periods.{advances}
use Rattle.mp_gen.proofs.demonstration.next_period.Goals as goal

pub unreachable-requires : goal.unreachable-requires
unreachable-requires c =
    let net = c.args.session.now.net in
    let A = c.requires.taken.0 in
    let above = subst (λ (counts : List ℕ). IsFirstAbove net A counts c.in-Err.field-0.link) c.deref.ensures.0 (c.in-Err.ensures.excess A c.requires.taken.1) in
    none_above net A _ c.fill.new.into.items _ c.in-Err.field-0.link (c.fill.ensures.drawn A c.requires.taken.1) above

pub returns-clause-closes : goal.returns-clause-closes
returns-clause-closes c =
    let net = c.args.session.now.net in
    record {
      counts = c.fill.new.into.items;
      drawn = c.fill.ensures.drawn;
      taken = λ A taken. subst (λ (counts : List ℕ). HasTaken net c.close_all.new.self.round.standing (A ++ counts ∷ [])) c.deref.ensures.0 (c.in-Ok.ensures.advances.taken A taken);
      step = λ (state : State) stands. subst (λ (counts : List ℕ). Stands net c.close_all.new.self.round.standing (advance net counts state)) c.deref.ensures.0 (advances net c.args.session.now.round.standing c.close_all.new.self.round.standing c.close_all.new.self.round.last _ (c.in-Ok.ensures.prompt c.requires.delay) c.in-Ok.ensures.advances.step state stands);
    }
