use Rattle.std.proofs.Common.{◌∙◌, sym}
use Rattle.std.proofs.lemmas.Bool.{false≢true}
use Rattle.mp_guard.proofs.CheckLemmas.{broken_one}
use Rattle.mp_guard.specs.declared.fault.GuardFault.TheVariants.{Mass}
use Rattle.mp_guard.proofs.checking.check_mass.Goals as goal

pub returns-else-greens_fit : goal.returns-else-greens_fit
returns-else-greens_fit c = broken_one c.args.net.now c.args.guard.now (Mass c.args.j) (λ kept. false≢true (sym c.if-greens_fit.false ∙ c.greens_fit.ensures.1 kept))
