-- The search for the greatest excess over a denominator, as a stated calculation, and what its outcomes say of the network.
use Rattle.std.specs.Prelude.{◌≡◌, ℕ, zero, suc, ◌+◌, ◌*◌, ◌/◌, if◌then◌else◌, nat_lt, List, [], ◌∷◌, min, pos, ◌≤ℤ◌}
use Rattle.mp_model.specs.Network.{Network, Movement}
use Rattle.mp_model.specs.Certificate.{Cert, Certifies}
use Rattle.mp_trial.specs.Trials.{Trial, Fits, Unfit, Endless, PassesIn, LimitIn, trial}

-- A search finds a certificate, finds that there is none, or ends with a trial: of the excess e, which doesn't end within the limit of sweeps, or at junction j, where a calculation exceeds 128 bits or comes to its limit of turns.
pub data Scaled : Type 0 where
  Found : Cert → Scaled
  NoneAt : Scaled
  SweepsAt : ℕ → Scaled
  PassesAt : ℕ → Scaled
  LimitAt : ℕ → Scaled

-- The search goes on above the excess e where its trial fits, and below it where its trial is unfit; any other trial ends the search.
abbrev pub after_trial : ℕ → Trial → (Cert → Scaled) → Scaled → Scaled
after_trial e (Fits cert) above below = above cert
after_trial e Unfit above below = below
after_trial e Endless above below = SweepsAt e
after_trial e (PassesIn j) above below = PassesAt j
after_trial e (LimitIn j) above below = LimitAt j

-- This is the excess halfway between two others, rounded down.
abbrev pub middle : ℕ → ℕ → ℕ
middle lo hi = (lo + hi) / 2

-- This is the search between an excess that fits, with its certificate, and one that doesn't, within so many halvings; as many as lie between the two are enough.
unfoldable pub halved : Network → ℕ → ℕ → ℕ → ℕ → Cert → Scaled
halved net D zero lo hi cert = Found cert
halved net D (suc halvings) lo hi cert =
    if nat_lt (lo + 1) hi
    then after_trial (middle lo hi) (trial net D (middle lo hi)) (halved net D halvings (middle lo hi) hi) (halved net D halvings lo (middle lo hi) cert)
    else Found cert

-- This is the least flow of some movements, and 0 of none.
abbrev pub least_flow : List Movement → ℕ
least_flow [] = 0
least_flow (movement ∷ []) = movement.flow
least_flow (movement ∷ other ∷ movements) = min movement.flow (least_flow (other ∷ movements))

-- This is the least excess that is too great without a trial: no rate is above the least flow.
abbrev pub too_great : Network → ℕ → ℕ
too_great net D = D * least_flow net.movements + 1

-- This is the search for the greatest excess over the denominator D: that of 1 is tried first.
unfoldable pub scaled : Network → ℕ → Scaled
scaled net D = after_trial 1 (trial net D 1) (halved net D (too_great net D) 1 (too_great net D)) NoneAt

-- A certificate has the greatest excess over the denominator D where it certifies the network over D, and no certificate of the network over D has more.
pub record HasGreatestExcess (net : Network) (D : ℕ) (cert : Cert) : Type 0 where
  pub certifies : Certifies net cert
  pub denominator : cert.d ≡ pos D
  pub greatest : (other : Cert) → Certifies net other → other.d ≡ pos D → other.e ≤ℤ cert.e

-- No certificate certifies the network over the denominator D.
abbrev pub HasNone : Network → ℕ → Type 0
HasNone net D = (cert : Cert) → Certifies net cert → ¬ (cert.d ≡ pos D)

-- The outcome of a search holds of the network where a certificate that was found has the greatest excess, and none was found only where there is none.
abbrev pub HoldsOver : Network → ℕ → Scaled → Type 0
HoldsOver net D (Found cert) = HasGreatestExcess net D cert
HoldsOver net D NoneAt = HasNone net D
HoldsOver net D (SweepsAt e) = Unit {0}
HoldsOver net D (PassesAt j) = Unit {0}
HoldsOver net D (LimitAt j) = Unit {0}
