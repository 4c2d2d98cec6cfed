use Rattle.std.proofs.Common.{Vec, Global, ℤ}
use Rattle.mp_flow.specs.Calculating.{worths_of}
use Rattle.mp_admit.proofs.VectorLemmas.{no_values, no_worths, no_entries, vector_reached}
use Rattle.mp_admit.proofs.vector.vector_by.Goals as goal

pub returns-in-Err : goal.returns-in-Err
returns-in-Err c = no_values {X = Vec ℤ Global} {X' = Vec ℤ Global} (λ v. v.items) (λ v. v.items) _ _ c.in-Err.fault c.in-Err.ensures

pub returns-in-Err-adjoint : goal.returns-in-Err-adjoint
returns-in-Err-adjoint c = no_worths {X = Vec ℤ Global} (λ v. v.items) _ _ c.in-Ok.u.items c.deref.result.now c.in-Err-adjoint.fault c.in-Ok.ensures c.deref.ensures.value c.in-Err-adjoint.ensures.calculation

pub returns-in-Ok-vector_entries : goal.returns-in-Ok-vector_entries
returns-in-Ok-vector_entries c =
    vector_reached _ _ c.in-Ok.u.items c.deref.result.now c.in-Ok-vector_entries.row.items _ (worths_of c.in-Ok-adjoint.worths) c.in-Ok.ensures c.deref.ensures.value c.in-Ok-adjoint.ensures.calculation c.in-Ok-vector_entries.ensures c.reduce.ensures.value

pub returns : goal.returns
returns c =
    no_entries {X = Vec ℤ Global} {X' = Vec ℤ Global} (λ v. v.items) (λ v. v.items) _ _ c.in-Ok.u.items c.deref.result.now (worths_of c.in-Ok-adjoint.worths) c.in-Err-vector_entries.fault c.in-Ok.ensures c.deref.ensures.value c.in-Ok-adjoint.ensures.calculation c.in-Err-vector_entries.ensures
