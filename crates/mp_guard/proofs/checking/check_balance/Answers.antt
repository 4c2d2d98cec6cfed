use Rattle.std.proofs.Common.{◌∙◌, sym}
use Rattle.std.proofs.lemmas.Bool.{false≢true}
use Rattle.mp_guard.proofs.CheckLemmas.{broken_one}
use Rattle.mp_guard.specs.declared.fault.GuardFault.TheVariants.{Balance}
use Rattle.mp_guard.proofs.checking.check_balance.Goals as goal

pub returns-else-balance_holds : goal.returns-else-balance_holds
returns-else-balance_holds c = broken_one c.args.net.now c.args.guard.now (Balance c.args.k) (λ kept. false≢true (sym c.if-balance_holds.false ∙ c.balance_holds.ensures.1 kept))
