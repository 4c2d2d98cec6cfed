use Rattle.mp_cert.specs.Views.{cert_of}
use Rattle.mp_cert.proofs.CheckLaw.{first_fault, accepted, accepts, complete}
use Rattle.mp_cert.proofs.checking.check.Goals as goal

pub returns-clause-accepts : goal.returns-clause-accepts
returns-clause-accepts c =
    let net = c.args.net.now in
    let cert = cert_of c.args.cert.now in
    (accepted net cert c.requires c.try_rules.result c.try_rules.ensures, λ both. accepts net cert c.requires c.try_rules.result c.try_rules.ensures both.0 both.1)

pub returns-clause-first : goal.returns-clause-first
returns-clause-first c = first_fault c.args.net.now (cert_of c.args.cert.now) c.requires c.try_rules.result c.try_rules.ensures

pub returns-clause-complete : goal.returns-clause-complete
returns-clause-complete c = complete c.args.net.now (cert_of c.args.cert.now) c.requires c.try_rules.result c.try_rules.ensures
