use Rattle.std.proofs.Common.{◌∙◌, sym}
use Rattle.std.proofs.lemmas.Bool.{false≢true}
use Rattle.mp_guard.proofs.CheckLemmas.{broken_one}
use Rattle.mp_guard.specs.declared.fault.GuardFault.TheVariants.{Green}
use Rattle.mp_guard.proofs.checking.check_green.Goals as goal

pub returns-else-green_fits : goal.returns-else-green_fits
returns-else-green_fits c = broken_one c.args.net.now c.args.guard.now (Green c.args.j c.args.s) (λ kept. false≢true (sym c.if-green_fits.false ∙ c.green_fits.ensures.1 kept))
