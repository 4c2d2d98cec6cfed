use Rattle.std.proofs.Common.{◌<◌, length, map, arith, Vec, Global}
use Rattle.mp_cert.specs.declared.types.Mix.{Mix}
use Rattle.mp_cert.specs.Views.{mix_of}
use Rattle.mp_admit.proofs.MixLemmas.{mixing_refused}
use Rattle.mp_admit.proofs.mix.mixes_at.Goals as goal

pub returns-in-Err : goal.returns-in-Err
returns-in-Err c =
    let h : c.loop-j.j < length c.args.net.now.junctions = omega arith in
    mixing_refused {X = Mix} {X' = Vec Mix Global} mix_of (λ v. map mix_of v.items) _ _ _ _ c.in-Err.fault c.loop-j.invariant h c.in-Err.ensures
