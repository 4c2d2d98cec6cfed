-- Which rule is broken first, and at which spot.
use Rattle.std.specs.Prelude.{ℕ, Bool, true, false, List, [], ◌∷◌, Option, Some, None}
use Rattle.mp_net.specs.declared.fault.NetRule.{NetRule}
use Rattle.mp_net.specs.declared.fault.Section.TheVariants as section
use Rattle.mp_net.specs.declared.fault.Spot.{Spot}

-- The first spot of those where a rule is broken, in the order top, links, movements, junctions.
abbrev pub first_spot : Bool → Option ℕ → Option ℕ → Option ℕ → Option Spot
first_spot true l k j = Some (record { section = section.Top; number = 0 })
first_spot false (Some l) k j = Some (record { section = section.Link; number = l })
first_spot false None (Some k) j = Some (record { section = section.Movement; number = k })
first_spot false None None (Some j) = Some (record { section = section.Junction; number = j })
first_spot false None None None = None

-- A rule with its spot, or what comes later where it has none.
abbrev pub or_later : NetRule → Option Spot → Option (NetRule × Spot) → Option (NetRule × Spot)
or_later rule (Some spot) later = Some (rule, spot)
or_later rule None later = later

-- The first rule that is broken, with its first spot.
abbrev pub first_broken : List (NetRule × Option Spot) → Option (NetRule × Spot)
first_broken [] = None
first_broken (r ∷ rs) = or_later r.0 r.1 (first_broken rs)
