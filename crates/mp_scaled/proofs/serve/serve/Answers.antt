use Rattle.std.proofs.Common.{◌+◌, ◌∙◌, List, sym, subst, arith}
use Rattle.mp_cert.specs.declared.types.Mix.{Mix}
use Rattle.mp_scaled.proofs.Serving.{Serving, serving_more, serving_fault}
use Rattle.mp_scaled.proofs.serve.serve.Goals as goal

pub returns-in-Err : goal.returns-in-Err
returns-in-Err c =
    serving_fault c.args.net.now c.args.d c.args.e c.args.rates.now c.loop-j.j c.loop-j.mixes.items c.deref.result.now c.loop-j.invariant (omega arith) (c.deref.ensures.value ∙ c.in-Ok.ensures) c.in-Err.fault c.in-Err.ensures

pub loop-j-preserved : goal.loop-j-preserved
loop-j-preserved c =
    subst (λ (ms : List Mix). Serving c.args.net.now c.args.d c.args.e c.args.rates.now (c.loop-j.j + 1) ms) (sym c.in-Ok-push.ensures.items)
    (serving_more c.args.net.now c.args.d c.args.e c.args.rates.now c.loop-j.j c.loop-j.mixes.items c.deref.result.now c.loop-j.invariant (omega arith) (c.deref.ensures.value ∙ c.in-Ok.ensures) c.in-Ok-Some.mix (rw c.in-Ok-Some.field-0-is at c.in-Ok-Some.ensures))
