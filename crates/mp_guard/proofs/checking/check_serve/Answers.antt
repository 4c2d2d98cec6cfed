use Rattle.std.proofs.Common.{◌∙◌, sym}
use Rattle.std.proofs.lemmas.Bool.{false≢true}
use Rattle.mp_guard.proofs.CheckLemmas.{broken_one}
use Rattle.mp_guard.specs.declared.fault.GuardFault.TheVariants.{Serve}
use Rattle.mp_guard.proofs.checking.check_serve.Goals as goal

pub returns-else-serve_holds : goal.returns-else-serve_holds
returns-else-serve_holds c = broken_one c.args.net.now c.args.guard.now (Serve c.args.k) (λ kept. false≢true (sym c.if-serve_holds.false ∙ c.serve_holds.ensures.1 kept))
