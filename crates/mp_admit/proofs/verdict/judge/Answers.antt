use Rattle.std.proofs.Common.{◌≡◌, ◌≤ℤ◌, ◌∙◌, pos, ap, of_z, arith}
use Rattle.std.proofs.lemmas.Int.{ints}
use Rattle.std.specs.Int.{w128}
use Rattle.mp_cert.specs.declared.types.Cert.{Cert}
use Rattle.mp_cert.specs.Views.{cert_of}
use Rattle.mp_admit.specs.declared.verdict.Verdict.{Verdict}
use Rattle.mp_admit.specs.Verdicts.{verdict_of}
use Rattle.mp_admit.proofs.VerdictLemmas.{judged_admitted, judged_refused}
use Rattle.mp_admit.proofs.verdict.judge.Goals as goal

pub returns-in-Ok : goal.returns-in-Ok
returns-in-Ok c =
    let n : c.args.slack.num ≡ pos 0 → ⊥ = λ (e : c.args.slack.num ≡ pos 0). c.if-num-eq0.false (ap (of_z w128) (c.num-num.ensures.value ∙ e)) in
    let v = c.num-num.ensures.value in
    let f = c.if-num-lt0.false in
    let h : pos 0 ≤ℤ c.args.slack.num = grind (arith, ints) in
    judged_admitted _ _ c.args.slack c.args.against.p c.args.slack.num (cert_of c.in-Ok.cert) n h c.in-Ok.ensures

pub returns-in-Err : goal.returns-in-Err
returns-in-Err c =
    let n : c.args.slack.num ≡ pos 0 → ⊥ = λ (e : c.args.slack.num ≡ pos 0). c.if-num-eq0.false (ap (of_z w128) (c.num-num.ensures.value ∙ e)) in
    let v = c.num-num.ensures.value in
    let f = c.if-num-lt0.false in
    let h : pos 0 ≤ℤ c.args.slack.num = grind (arith, ints) in
    judged_refused {X = Cert} {X' = Verdict} cert_of verdict_of _ _ c.args.slack c.args.against.p c.args.slack.num c.in-Err.fault n h c.in-Err.ensures
