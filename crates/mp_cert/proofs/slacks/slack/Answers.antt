use Rattle.std.proofs.Common.{◌≡◌, ◌*ℤ◌, FitsSigned, to_z-of_z, rules}
use Rattle.std.specs.Int.{w128}
use Rattle.mp_cert.specs.Views.{cert_of}
use Rattle.mp_cert.proofs.SlackLemmas.{slack_of}
use Rattle.mp_cert.proofs.slacks.slack.Goals as goal

pub returns-clause-slack : goal.returns-clause-slack
returns-clause-slack c =
    let fd : FitsSigned w128 c.args.cert.now.d = search rules in
    let fe : FitsSigned w128 c.args.cert.now.e = search rules in
    let same : (c.new.result.num *ℤ c.args.cert.now.d) ≡ (c.args.cert.now.e *ℤ c.new.result.den) = simp to_z-of_z at c.new.ensures.same in
    λ sign. slack_of (cert_of c.args.cert.now) c.new.result.num c.new.result.den c.requires sign same c.new.ensures.lowest
