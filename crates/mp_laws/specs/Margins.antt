-- The laws that join certificates and vectors against a network.
use Rattle.std.specs.Prelude.{◌≡◌, ℕ, ◌*◌, List, sum_by, pos, ◌+ℤ◌, ◌*ℤ◌, ◌≤ℤ◌}
use Rattle.mp_model.specs.Certificate.{Cert, MeetsRules, Certifies, Carries}
use Rattle.mp_model.specs.Load.{load, capacity, IsOverloaded, IsTight}
use Rattle.mp_model.specs.Network.{Network, movement_numbers}
use Rattle.mp_model.specs.NetworkRules.{IsNetwork}
use Rattle.mp_model.specs.Slack.{ShowsSlack, IsGreatestSlack}

-- A certificate's denominator times the margin of a vector's capacity over its load is at least its excess times the share total, the rate length and the sum of the vector.
abbrev pub MarginLaw : Type 0
MarginLaw = (net : Network) → IsNetwork net → (cert : Cert) → MeetsRules net cert → pos 0 ≤ℤ cert.e → (p : ℕ → ℕ) →
    (cert.d *ℤ pos (load net p) +ℤ cert.e *ℤ pos (net.shares * net.per * sum_by p (movement_numbers net))) ≤ℤ (cert.d *ℤ pos (net.per * capacity net p))

-- An overloaded network carries its rates under no certificate.
abbrev pub OverloadLaw : Type 0
OverloadLaw = (net : Network) → IsNetwork net → IsOverloaded net → ¬ Carries net

-- Where a vector is tight no certificate certifies the network.
abbrev pub TightLaw : Type 0
TightLaw = (net : Network) → IsNetwork net → (p : List ℕ) → IsTight net p → (cert : Cert) → ¬ Certifies net cert

-- No certificate has a slack above the one that a vector shows.
abbrev pub SlackLaw : Type 0
SlackLaw = (net : Network) → IsNetwork net → (cert : Cert) → Certifies net cert → (p : List ℕ) (E D : ℕ) → ShowsSlack net p E D → (cert.e *ℤ pos D) ≤ℤ (pos E *ℤ cert.d)

-- There is at most one greatest slack.
abbrev pub OneSlackLaw : Type 0
OneSlackLaw = (net : Network) → IsNetwork net → (E D E' D' : ℕ) → IsGreatestSlack net E D → IsGreatestSlack net E' D' → (E ≡ E') × (D ≡ D')
