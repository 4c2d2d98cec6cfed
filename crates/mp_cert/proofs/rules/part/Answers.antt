use Rattle.std.proofs.Common.{◌≡◌, length, arith, ap}
use Rattle.mp_model.specs.Network.{junction_at, junction_numbers}
use Rattle.mp_model.specs.Certificate.{mix_at}
use Rattle.mp_cert.specs.Views.{cert_of}
use Rattle.mp_laws.proofs.Lists.{at_in}
use Rattle.mp_cert.proofs.PlaceLemmas.{in_list}
use Rattle.mp_cert.proofs.rules.part.Goals as goal

pub bounds-as_slice-from : goal.bounds-as_slice-from
bounds-as_slice-from c =
    let net = c.args.net.now in
    let parts : length (mix_at (cert_of c.args.cert.now) c.args.j).parts ≡ length (junction_at net c.args.j).stages = at_in (λ j. length (mix_at (cert_of c.args.cert.now) j).parts ≡ length (junction_at net j).stages) c.args.j (junction_numbers net) (in_list (length net.junctions) c.args.j c.requires.junction.0 c.requires.junction.1) c.requires.lengths.parts in
    omega (arith, parts, ap length c.as_slice.ensures, ap length c.mix_at.ensures.parts, c.from.ensures, c.requires.stage.0, c.requires.stage.1)
