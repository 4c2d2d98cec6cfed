-- That the demonstration networks are certified.
use Rattle.std.specs.Prelude.{ℕ}
use Rattle.mp_model.specs.Certificate.{Cert, Certifies}
use Rattle.mp_gen.specs.DemoNetwork.{demo_network}

-- Some certificate certifies each demonstration network.
abbrev pub DemoCertifiedLaw : Type 0
DemoCertifiedLaw = (n : ℕ) → (cert : Cert) × Certifies (demo_network n) cert
