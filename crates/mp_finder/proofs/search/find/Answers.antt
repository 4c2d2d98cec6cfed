use Rattle.std.proofs.Common.{arith}
use Rattle.std.proofs.lemmas.Int.{ints}
use Rattle.mp_cert.specs.Views.{cert_of}
use Rattle.mp_trial.specs.Trials.{Fits}
use Rattle.mp_trial.proofs.Fitting.{fits}
use Rattle.mp_finder.proofs.Finding.{finding_from}
use Rattle.mp_finder.proofs.Guarding.{rates_few}
use Rattle.mp_finder.proofs.Lacking.{found_guards, found_least, found_none, none_guards}
use Rattle.mp_finder.proofs.search.find.Goals as goal

pub find_greens-requires-clause-rules : goal.find_greens-requires-clause-rules
find_greens-requires-clause-rules c = (fits c.args.net.now c.shares-shares.ensures.acceptable.network c.args.d 0 c.requires.denominator.0 (cert_of c.in-Ok-Some.cert) (rw c.in-Ok-Some.field-0-is at c.in-Ok-Some.ensures)).0

pub find_greens-requires-clause-over : goal.find_greens-requires-clause-over
find_greens-requires-clause-over c = (fits c.args.net.now c.shares-shares.ensures.acceptable.network c.args.d 0 c.requires.denominator.0 (cert_of c.in-Ok-Some.cert) (rw c.in-Ok-Some.field-0-is at c.in-Ok-Some.ensures)).1

pub find_greens-requires-clause-excess : goal.find_greens-requires-clause-excess
find_greens-requires-clause-excess c =
    let none = (fits c.args.net.now c.shares-shares.ensures.acceptable.network c.args.d 0 c.requires.denominator.0 (cert_of c.in-Ok-Some.cert) (rw c.in-Ok-Some.field-0-is at c.in-Ok-Some.ensures)).2 in
    omega (arith, ints, none)

pub find_greens-requires-clause-few : goal.find_greens-requires-clause-few
find_greens-requires-clause-few c = rates_few c.args.net.now c.shares-shares.ensures.acceptable c.args.d c.requires.denominator.0 (omega (arith, c.requires.denominator.1)) (cert_of c.in-Ok-Some.cert) (rw c.in-Ok-Some.field-0-is at c.in-Ok-Some.ensures)

pub returns-in-Ok-Some-clause-guards : goal.returns-in-Ok-Some-clause-guards
returns-in-Ok-Some-clause-guards c =
    let t = rw c.in-Ok-Some.field-0-is at c.in-Ok-Some.ensures in
    found_guards c.args.net.now c.shares-shares.ensures.acceptable.network c.args.cycle c.args.lost c.args.d c.requires.cycle c.requires.lost (c.requires.denominator.0, omega (arith, c.requires.denominator.1)) c.find_greens.result
    (finding_from c.args.net.now c.args.cycle c.args.lost c.args.d (Fits (cert_of c.in-Ok-Some.cert)) c.find_greens.result t c.find_greens.ensures.calculation)

pub returns-in-Ok-Some-clause-least : goal.returns-in-Ok-Some-clause-least
returns-in-Ok-Some-clause-least c =
    let t = rw c.in-Ok-Some.field-0-is at c.in-Ok-Some.ensures in
    found_least c.args.net.now c.shares-shares.ensures.acceptable.network c.args.cycle c.args.lost c.args.d (cert_of c.in-Ok-Some.cert) t c.find_greens.result c.find_greens.ensures.calculation

pub returns-in-Ok-Some-clause-none : goal.returns-in-Ok-Some-clause-none
returns-in-Ok-Some-clause-none c = found_none c.args.net.now c.args.cycle c.args.lost c.args.d (cert_of c.in-Ok-Some.cert) c.find_greens.result c.find_greens.ensures.calculation

pub returns-in-Ok-None-clause-none : goal.returns-in-Ok-None-clause-none
returns-in-Ok-None-clause-none c = λ same. none_guards c.args.net.now c.shares-shares.ensures.acceptable.network c.args.d (rw c.in-Ok-None.field-0-is at c.in-Ok-None.ensures)
