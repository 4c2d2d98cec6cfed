-- Worked openings, each computed from the stated calculation: certificates that the check accepts and whose bounds exceed 128 bits or have no room, and one that the check refuses.
use Rattle.std.proofs.Common.{◌≤◌, ◌+◌, ◌-◌, ◌*◌, ◌^◌, arith, ℕ, [], ◌∷◌, pos, codes, None, refl, lit≤, lit<}
use Rattle.mp_num.specs.Checked.{within}
use Rattle.mp_num.specs.Passing.{stepped}
use Rattle.mp_model.specs.Certificate.{Cert}
use Rattle.mp_model.specs.Network.{Network}
use Rattle.mp_model.specs.Worked.{two_approaches}
use Rattle.mp_cert.specs.Checking.{first_of}
use Rattle.mp_num.specs.Operations.{times, plus, summed}
use Rattle.mp_cert.specs.Rules.{at_most}
use Rattle.mp_cert.specs.Rules.{mass_holds, part_added, parts_for, served_at, inflow, coming, need, balance_holds}
use Rattle.mp_cert.specs.declared.types.CertFault.TheVariants.{Overflow}
use Rattle.mp_drift.specs.Stated.{fitting, threshold_from, greatest_from}
use Rattle.mp_drift.specs.Bounded.{HasNoRoom}
use Rattle.mp_drift.specs.Session.{IsAccepted, PassesBound, IsRefused}
use Rattle.mp_drift.specs.declared.session.OpenFault.TheVariants.{Cert as RefusesCert}

-- one approach alone, with one vehicle a period
abbrev lone : Network
lone = record {
  shares = 1;
  per = 1;
  delay = 0;
  links = record { name = codes "a"; burst = 0; rate = 1 } ∷ [];
  movements = record { name = codes "ao"; from = 1; to = None; share = 1; flow = 2; start = 0 } ∷ [];
  junctions = record { name = codes "j"; stages = (1 ∷ []) ∷ [] } ∷ [];
}

abbrev lone_cert : Cert
lone_cert = record { d = pos (2 * 10 ^ 18); e = pos 1; h = pos (2 * 10 ^ 18 + 1) ∷ []; mixes = record { whole = pos 1; parts = pos (10 ^ 18 + 1) ∷ [] } ∷ [] }

-- a certificate of two approaches: both rates h, both parts p
abbrev of : ℕ → ℕ → ℕ → ℕ → Cert
of d e h p = record { d = pos d; e = pos e; h = pos h ∷ pos h ∷ []; mixes = record { whole = pos 1; parts = pos p ∷ pos p ∷ [] } ∷ [] }

no_room : HasNoRoom lone 1 (2 * 10 ^ 18)
unfolding fitting threshold_from greatest_from
no_room = record {
  found = refl;
  bounds = (6 * 10 ^ 18) ∷ [];
  are = record { root = 6 * 10 ^ 18; is_root = record { within = lit≤ tt; most = lit< tt }; are = refl };
  no_room = λ h. not_below h.0;
}
  where
    not_below : 6 * 10 ^ 18 ≤ 2 ^ 62 → ⊥
    not_below h = omega arith

record AreWorkedOpenings : Type 0 where
  lone_accepted : IsAccepted lone lone_cert
  small_accepted : IsAccepted two_approaches (of (10 ^ 30) 1 (25 * 10 ^ 28 + 1) (125 * 10 ^ 27 + 1))
  small_bound : PassesBound two_approaches 1 (10 ^ 30)
  fine_accepted : IsAccepted two_approaches (of (4 * 10 ^ 36) (3 * 10 ^ 36 - 1) (4 * 10 ^ 36) (2 * 10 ^ 36))
  fine_bound : PassesBound two_approaches (3 * 10 ^ 36 - 1) (4 * 10 ^ 36)
  great_refused : IsRefused two_approaches (of (4 * 2 ^ 123) (3 * 2 ^ 123) (4 * 2 ^ 123) (2 * 2 ^ 123)) (RefusesCert Overflow)

worked_openings : AreWorkedOpenings
unfolding within stepped first_of times plus summed at_most mass_holds part_added parts_for served_at inflow coming need balance_holds fitting threshold_from greatest_from
worked_openings = record { lone_accepted = refl; small_accepted = refl; small_bound = refl; fine_accepted = refl; fine_bound = refl; great_refused = refl }
