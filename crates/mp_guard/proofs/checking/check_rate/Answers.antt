use Rattle.std.proofs.Common.{◌∙◌, sym}
use Rattle.std.proofs.lemmas.Bool.{false≢true}
use Rattle.mp_guard.proofs.CheckLemmas.{broken_one}
use Rattle.mp_guard.specs.declared.fault.GuardFault.TheVariants.{H}
use Rattle.mp_guard.proofs.checking.check_rate.Goals as goal

pub returns-else-rate_fits : goal.returns-else-rate_fits
returns-else-rate_fits c = broken_one c.args.net.now c.args.guard.now (H c.args.k) (λ kept. false≢true (sym c.if-rate_fits.false ∙ c.rate_fits.ensures.1 kept))
