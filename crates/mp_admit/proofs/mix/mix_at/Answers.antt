use Rattle.mp_simplex.specs.declared.Optimum.{Optimum}
use Rattle.mp_cert.specs.declared.types.Mix.{Mix}
use Rattle.mp_cert.specs.Views.{mix_of}
use Rattle.mp_admit.proofs.MixLemmas.{mixed_refused}
use Rattle.mp_admit.proofs.mix.mix_at.Goals as goal

pub returns-in-Err : goal.returns-in-Err
returns-in-Err c = mixed_refused {X = Optimum} {X' = Mix} (λ o. o) mix_of c.args.net.now c.args.rates.now c.args.j c.in-Err.fault c.in-Err.ensures.calculation
