use Rattle.std.proofs.Common.{◌+◌, ◌∙◌, ℕ, Bool, Option, ap₂, filter, subst, sym}
use Rattle.mp_model.specs.Network.{junction_at, numbers_to}
use Rattle.mp_guard_run.specs.Choosing.{IsBest, best_at, fits_or, pressed}
use Rattle.mp_guard_run.specs.declared.choice.Best.{Best}
use Rattle.mp_guard_run.proofs.Bests.{takes_next, keeps_next, skips_next}
use Rattle.mp_guard_run.proofs.choice.best_of.Goals as goal
use Rattle.mp_guard_run.proofs.choice.best_of.Goals.{then-fits+then-is_better, then-fits+else-is_better, else-fits}

pub loop-i-preserved : goal.loop-i-preserved
loop-i-preserved c =
    let f : ℕ → ℕ = pressed (junction_at c.args.net.now c.args.j) c.args.presses.now in
    let p : ℕ → Bool = fits_or c.args.guard.now c.args.period c.args.account.now c.args.idle in
    let i = c.loop-i.i in
    let b = c.loop-i.stage in
    let most = c.loop-i.most in
    let best = c.loop-i.invariant in
    elim c.if-fits.branch [
      | then-fits+then-is_better w ↦ subst (λ (o : Option Best). IsBest f (filter p (numbers_to (i + 1))) o) (sym (ap₂ best_at w.stage-is w.most-is))
          (takes_next f p i b most w.pressure-pressure.result best (sym c.fits.ensures ∙ w.if-fits.true) (sym w.is_better.ensures ∙ w.if-is_better.true) w.pressure-pressure.ensures.value)
      | then-fits+else-is_better w ↦ subst (λ (o : Option Best). IsBest f (filter p (numbers_to (i + 1))) o) (sym (ap₂ best_at w.stage-is w.most-is))
          (keeps_next f p i b most w.pressure-pressure.result best (sym c.fits.ensures ∙ w.if-fits.true) (sym w.is_better.ensures ∙ w.if-is_better.false) w.pressure-pressure.ensures.value)
      | else-fits w ↦ subst (λ (o : Option Best). IsBest f (filter p (numbers_to (i + 1))) o) (sym (ap₂ best_at w.stage-is w.most-is))
          (skips_next f p i b most 0 best (sym c.fits.ensures ∙ w.if-fits.false))
    ]
