use Rattle.std.proofs.Common.{◌++◌, ◌∷◌, [], refl}
use Rattle.std.specs.Prelude.{codes}
use Rattle.std.proofs.lemmas.Result.{err_from_is_err_and}
use Rattle.mp_edge.proofs.Told.{Tells-weaker}
use Rattle.mp_edge.proofs.Gains.{GainsPrefix-longer}
use Rattle.mp_cli.proofs.message.put_store.Goals as goal

pub returns-in_err-put-clause-bytes : goal.returns-in_err-put-clause-bytes
returns-in_err-put-clause-bytes g c =
    let p = err_from_is_err_and c.from_residual.result c.from_residual.ensures.1 in
    rw p.1 (Tells-weaker _ _ _ _ (λ before after gain. GainsPrefix-longer (codes "store ") (codes "store " ++ (c.args.name.now ++ 10 ∷ [])) before after (c.args.name.now ++ 10 ∷ [], refl) gain) c.in_err-put.ensures.bytes)
