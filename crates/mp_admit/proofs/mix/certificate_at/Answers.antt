use Rattle.std.proofs.Common.{Vec, Global, ℤ, sym, subst}
use Rattle.mp_model.specs.Certificate as model
use Rattle.mp_cert.specs.declared.types.Cert.{Cert}
use Rattle.mp_cert.specs.Views.{cert_of}
use Rattle.mp_verdict.specs.Rates.{rates_in}
use Rattle.mp_verdict.specs.Stated.{Stated, Gives}
use Rattle.mp_admit.proofs.MixLemmas.{at_refused, at_with}
use Rattle.mp_admit.proofs.mix.certificate_at.Goals as goal

pub returns-in-Err : goal.returns-in-Err
returns-in-Err c = at_refused {X = Vec ℤ Global} {X' = Cert} (λ row. rates_in row.items) cert_of _ _ _ c.in-Err.fault c.in-Err.ensures.calculation

pub returns : goal.returns
returns c =
    subst (λ (t : Stated model.Cert). Gives cert_of c.certificate_of.result t) (sym (at_with _ _ _ c.in-Ok.rates.items c.deref.result.now c.in-Ok.ensures.calculation c.deref.ensures.value)) c.certificate_of.ensures
