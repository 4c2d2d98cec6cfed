use Rattle.std.proofs.Common.{[], ◌∷◌, ◌∙◌, sym}
use Rattle.std.proofs.lemmas.Bool.{false≢true}
use Rattle.mp_guard.proofs.CheckLemmas.{broken_one, placed}
use Rattle.mp_guard.specs.declared.fault.GuardFault.TheVariants.{Cycle, Lost, D}
use Rattle.mp_guard.proofs.checking.check_numbers.Goals as goal

pub returns-then-not-cycle_fits : goal.returns-then-not-cycle_fits
returns-then-not-cycle_fits c = placed c.args.net.now c.args.guard.now [] (Cycle ∷ []) (Lost ∷ D ∷ []) Cycle tt (broken_one c.args.net.now c.args.guard.now Cycle (λ kept. false≢true (sym c.if-not-cycle_fits.true ∙ c.cycle_fits.ensures.1 kept)))

pub returns-then-not-lost_fits : goal.returns-then-not-lost_fits
returns-then-not-lost_fits c = placed c.args.net.now c.args.guard.now (Cycle ∷ []) (Lost ∷ []) (D ∷ []) Lost (c.cycle_fits.ensures.0 c.if-not-cycle_fits.false, tt) (broken_one c.args.net.now c.args.guard.now Lost (λ kept. false≢true (sym c.if-not-lost_fits.true ∙ c.lost_fits.ensures.1 kept)))

pub returns-then-not-denominator_fits : goal.returns-then-not-denominator_fits
returns-then-not-denominator_fits c = placed c.args.net.now c.args.guard.now (Cycle ∷ Lost ∷ []) (D ∷ []) [] D (c.cycle_fits.ensures.0 c.if-not-cycle_fits.false, (c.lost_fits.ensures.0 c.if-not-lost_fits.false, tt)) (broken_one c.args.net.now c.args.guard.now D (λ kept. false≢true (sym c.if-not-denominator_fits.true ∙ c.denominator_fits.ensures.1 kept)))
