use Rattle.std.proofs.Common.{◌≡◌, ◌+◌, ◌∙◌, ℕ, Bool, false, List, ap, ap₂, arith, length}
use Rattle.std.specs.Prelude.{slice_index_or, slice_set}
use Rattle.std.proofs.lemmas.List.Edits.{fill_by_more}
use Rattle.mp_model.specs.GuardedRun.{Account}
use Rattle.mp_guard_run.specs.Accounts.{is_green_under}
use Rattle.mp_guard_run.proofs.Places.{each_number}
use Rattle.mp_guard_run.proofs.owed.Owed.put_green.Goals as goal

pub loop-i-preserved : goal.loop-i-preserved
loop-i-preserved c =
    let net = c.args.net.now in
    let i = c.loop-i.i in
    let f : ℕ → Bool = is_green_under net c.args.guard.now c.args.self.now c.args.stages.now in
    let here : c.is_green_in.result ≡ f (i + 1) = c.is_green_in.ensures ∙ ap (λ (xs : List Account). is_green_under net c.args.guard.now xs c.args.stages.now (i + 1)) (c.deref.ensures.value ∙ c.self.view_is) in
    λ m h. ap₂ (λ n v. slice_index_or (slice_set c.loop-i.green n v) m false) c.from.ensures here ∙ fill_by_more (λ m. f (m + 1)) c.loop-i.green i false (omega (arith, c.loop-i.auto.green, c.requires.places)) c.loop-i.invariant m h

pub returns : goal.returns
returns c =
    let net = c.args.net.now in
    each_number (is_green_under net c.args.guard.now c.args.self.now c.args.stages.now) c.loop-i.green (length net.movements) false (omega (arith, c.loop-i.auto.green, c.requires.places)) (λ m lt. c.loop-i.invariant m (omega arith))
