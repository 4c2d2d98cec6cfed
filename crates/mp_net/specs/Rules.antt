-- The rules of a network over its parts, in their order, each with the first spot where it is broken.
-- The number 0, and a number past the end of its list, stand for what is not there.
use Rattle.std.specs.Prelude.{List, [], ◌∷◌, Option}
use Rattle.mp_model.specs.Network.{Network}
use Rattle.mp_net.specs.NumberRules.{bad_number, bad_link_name}
use Rattle.mp_net.specs.RepeatRules.{repeated}
use Rattle.mp_net.specs.LinkRules.{unknown_link, bad_shares, no_movement_out, no_fed_link}
use Rattle.mp_net.specs.StageRules.{bad_stage, unserved}
use Rattle.mp_net.specs.WayRules.{no_way_out}
use Rattle.mp_net.specs.declared.fault.NetRule.{NetRule}
use Rattle.mp_net.specs.declared.fault.NetRule.TheVariants as rule
use Rattle.mp_net.specs.declared.fault.Spot.{Spot}

-- These are the rules from repeats on.
abbrev pub later_rules : Network → List (NetRule × Option Spot)
later_rules net =
    (rule.Repeated, repeated net) ∷ (rule.UnknownLink, unknown_link net) ∷ (rule.BadShares, bad_shares net) ∷ (rule.BadStage, bad_stage net)
    ∷ (rule.Unserved, unserved net) ∷ (rule.NoMovement, no_movement_out net) ∷ (rule.NoFedLink, no_fed_link net) ∷ (rule.NoWayOut, no_way_out net) ∷ []

-- These are the rules that a network's parts are tried for.
abbrev pub part_rules : Network → List (NetRule × Option Spot)
part_rules net = (rule.BadNumber, bad_number net) ∷ (rule.BadName, bad_link_name net) ∷ later_rules net
