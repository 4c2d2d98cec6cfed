-- The check of a certificate: its rules in order, the first of which that fails or exceeds 128 bits is reported.
use Rattle.std.specs.Prelude.{ℕ, Bool, true, false, List, [], ◌∷◌, ◌++◌, map, flat_map, Option, Some, None, Result, Ok, Err}
use Rattle.mp_model.specs.Network.{Network, junction_at, movement_numbers, junction_numbers, stage_numbers}
use Rattle.mp_model.specs.Certificate.{Cert}
use Rattle.mp_cert.specs.Rules.{holds}
use Rattle.mp_cert.specs.declared.types.CertFault.{CertFault}
use Rattle.mp_cert.specs.declared.types.CertFault.TheVariants.{D, E, H, Whole, Part, Mass, Serve, Balance, Overflow}

-- The rules on the mix of a junction are those on its whole, on the part of each stage, and on the sum of the parts.
abbrev pub mix_rules : Network → ℕ → List CertFault
mix_rules net j = Whole j ∷ map (Part j) (stage_numbers (junction_at net j)) ++ Mass j ∷ []

-- The rules of a certificate are those on its denominator, its excess and its rates, then those on the mix of each junction, then those on service and those on balance of each movement.
abbrev pub rules_of : Network → List CertFault
rules_of net =
    D ∷ E ∷ map H (movement_numbers net) ++ flat_map (mix_rules net) (junction_numbers net) ++ map Serve (movement_numbers net) ++ map Balance (movement_numbers net)

-- A rule that holds lets the check go on, one that fails is reported itself, and one that exceeds 128 bits is reported as an overflow.
abbrev pub outcome_of : CertFault → Option Bool → Result (Unit {0}) CertFault
outcome_of rule (Some true) = Ok tt
outcome_of rule (Some false) = Err rule
outcome_of rule None = Err Overflow

-- What comes later counts where nothing was reported so far; a fault is passed on unchanged.
abbrev pub after : Result (Unit {0}) CertFault → Result (Unit {0}) CertFault → Result (Unit {0}) CertFault
after (Ok done) later = later
after (Err fault) later = Err fault

-- This is the first fault of a list of tests.
unfoldable pub first_of : {X : Type 0} → (X → Result (Unit {0}) CertFault) → List X → Result (Unit {0}) CertFault
first_of test [] = Ok tt
first_of test (x ∷ xs) = after (test x) (first_of test xs)

-- One rule of a certificate is tried.
abbrev pub tried : Network → Cert → CertFault → Result (Unit {0}) CertFault
tried net cert rule = outcome_of rule (holds net cert rule)

-- The check of a certificate tries all rules in order.
abbrev pub check_outcome : Network → Cert → Result (Unit {0}) CertFault
check_outcome net cert = first_of (tried net cert) (rules_of net)
