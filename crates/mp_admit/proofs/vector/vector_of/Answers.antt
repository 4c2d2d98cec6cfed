use Rattle.std.proofs.Common.{Vec, Global, ℤ, ◌∙◌}
use Rattle.mp_cert.specs.declared.types.Against.{Against}
use Rattle.mp_admit.proofs.VectorLemmas.{vector_found, vector_refused}
use Rattle.mp_admit.proofs.vector.vector_of.Goals as goal

pub returns-in-Ok-vector_by-clause-calculation : goal.returns-in-Ok-vector_by-clause-calculation
returns-in-Ok-vector_by-clause-calculation c =
    vector_found _ c.args.score.now c.deref.result.now c.in-Ok-vector_by.numbers.items _ (c.deref.ensures.value ∙ c.in-Ok.ensures) c.in-Ok-vector_by.ensures c.new.ensures

pub returns-clause-calculation : goal.returns-clause-calculation
returns-clause-calculation c =
    vector_refused {X = Vec ℤ Global} {X' = Against} (λ v. v.items) (λ a. a.p) _ c.args.score.now c.deref.result.now c.in-Err.fault (c.deref.ensures.value ∙ c.in-Ok.ensures) c.in-Err.ensures
