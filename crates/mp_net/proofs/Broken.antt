-- Where no rule is broken, each spot is none, and the other way round.
use Rattle.std.proofs.Common.{◌≡◌, ℕ, Bool, true, false, Option, Some, None, Result, Ok, Err, OnOk, IfErr, IsOkUnless, IsTrue, is_some, not, refl, ap, ◌∙◌}
use Rattle.mp_model.specs.Network.{Network}
use Rattle.mp_net.specs.Spots.{first_spot, or_later, first_broken}
use Rattle.mp_net.specs.NumberRules.{bad_number, bad_link_name}
use Rattle.mp_net.specs.RepeatRules.{repeated}
use Rattle.mp_net.specs.LinkRules.{unknown_link, bad_shares, no_movement_out, no_fed_link}
use Rattle.mp_net.specs.StageRules.{bad_stage, unserved}
use Rattle.mp_net.specs.WayRules.{no_way_out}
use Rattle.mp_net.specs.Rules.{part_rules}
use Rattle.mp_net.specs.Refused.{refusal, IsFirst}
use Rattle.mp_net.specs.declared.fault.NetFault.{NetFault}
use Rattle.mp_net.specs.declared.fault.NetFault.TheVariants.{Rule, NoMemory}
use Rattle.mp_net.specs.declared.fault.NetRule.{NetRule}
use Rattle.mp_net.specs.declared.fault.NetRule.TheVariants as rule
use Rattle.mp_net.specs.declared.fault.Spot.{Spot}

-- no rule is broken
pub record BreaksNone (net : Network) : Type 0 where
  pub number : bad_number net ≡ None
  pub out : bad_link_name net ≡ None
  pub repeats : repeated net ≡ None
  pub unknown : unknown_link net ≡ None
  pub shares : bad_shares net ≡ None
  pub stage : bad_stage net ≡ None
  pub served : unserved net ≡ None
  pub movement : no_movement_out net ≡ None
  pub fed : no_fed_link net ≡ None
  pub way : no_way_out net ≡ None

both_none : (name : NetRule) (spot : Option Spot) (later : Option (NetRule × Spot)) → or_later name spot later ≡ None → (spot ≡ None) × (later ≡ None)
both_none name None later h = (refl, h)
both_none name (Some spot) later h = absurd (cc)

-- a rule that is not broken lets pass
pub passed : (name : NetRule) (spot : Option Spot) (r : Result (Unit {0}) NetFault) (v : Unit {0}) → r ≡ refusal name spot → r ≡ Ok v → spot ≡ None
passed name None r v e ok = refl
passed name (Some spot) r v e ok = absurd (cc)

pub breaks_none : (net : Network) → first_broken (part_rules net) ≡ None → BreaksNone net
breaks_none net h =
    let a = both_none _ (bad_number net) _ h in
    let b = both_none _ (bad_link_name net) _ a.1 in
    let c = both_none _ (repeated net) _ b.1 in
    let d = both_none _ (unknown_link net) _ c.1 in
    let e = both_none _ (bad_shares net) _ d.1 in
    let f = both_none _ (bad_stage net) _ e.1 in
    let g = both_none _ (unserved net) _ f.1 in
    let i = both_none _ (no_movement_out net) _ g.1 in
    let j = both_none _ (no_fed_link net) _ i.1 in
    let k = both_none _ (no_way_out net) _ j.1 in
    record { number = a.0; out = b.0; repeats = c.0; unknown = d.0; shares = e.0; stage = f.0; served = g.0; movement = i.0; fed = j.0; way = k.0 }

more : (name : NetRule) (spot : Option Spot) (later : Option (NetRule × Spot)) → spot ≡ None → later ≡ None → or_later name spot later ≡ None
more name spot later e h = ap (λ s. or_later name s later) e ∙ h

pub none_broken : (net : Network) → BreaksNone net → first_broken (part_rules net) ≡ None
none_broken net h =
    let k : or_later rule.NoWayOut (no_way_out net) None ≡ None = more rule.NoWayOut (no_way_out net) None h.way refl in
    let j : or_later rule.NoFedLink (no_fed_link net) _ ≡ None = more rule.NoFedLink (no_fed_link net) _ h.fed k in
    let i : or_later rule.NoMovement (no_movement_out net) _ ≡ None = more rule.NoMovement (no_movement_out net) _ h.movement j in
    let g : or_later rule.Unserved (unserved net) _ ≡ None = more rule.Unserved (unserved net) _ h.served i in
    let f : or_later rule.BadStage (bad_stage net) _ ≡ None = more rule.BadStage (bad_stage net) _ h.stage g in
    let e : or_later rule.BadShares (bad_shares net) _ ≡ None = more rule.BadShares (bad_shares net) _ h.shares f in
    let d : or_later rule.UnknownLink (unknown_link net) _ ≡ None = more rule.UnknownLink (unknown_link net) _ h.unknown e in
    let c : or_later rule.Repeated (repeated net) _ ≡ None = more rule.Repeated (repeated net) _ h.repeats d in
    let b : or_later rule.BadName (bad_link_name net) _ ≡ None = more rule.BadName (bad_link_name net) _ h.out c in
    more rule.BadNumber (bad_number net) _ h.number b

-- no spot of four
pub no_spot : (top : Bool) (l k j : Option ℕ) → first_spot top l k j ≡ None → (top ≡ false) × (l ≡ None) × (k ≡ None) × (j ≡ None)
no_spot true l k j h = absurd (cc)
no_spot false (Some l) k j h = absurd (cc)
no_spot false None (Some k) j h = absurd (cc)
no_spot false None None (Some j) h = absurd (cc)
no_spot false None None None h = (refl, refl, refl, refl)

pub spot_none : (top : Bool) (l k j : Option ℕ) → top ≡ false → l ≡ None → k ≡ None → j ≡ None → first_spot top l k j ≡ None
spot_none top l k j a b c d = rw (a, b, c, d)

pub on_ok : (r : Result (Unit {0}) NetFault) (P Q : Type 0) → (P → Q) → OnOk r P → OnOk r Q
on_ok (Ok v) P Q f h = f h
on_ok (Err e) P Q f h = tt

-- where no rule is broken, only a lack of memory refuses
pub not_by_rule : (r : Result (Unit {0}) NetFault) (broken : Option (NetRule × Spot)) → IfErr r (IsFirst broken) → broken ≡ None → IsOkUnless r NoMemory
not_by_rule (Ok v) broken h none = tt
not_by_rule (Err (Rule name spot)) broken h none = absurd (cc)
not_by_rule (Err NoMemory) broken h none = refl

-- a spot that is none, by its test
pub none_from_test : (spot : Option Spot) (b : Bool) → is_some spot ≡ not b → IsTrue b → spot ≡ None
none_from_test None b e t = refl
none_from_test (Some spot) true e t = absurd (cc)
none_from_test (Some spot) false e t = absurd (cc)

pub test_from_none : (spot : Option Spot) (b : Bool) → is_some spot ≡ not b → spot ≡ None → IsTrue b
test_from_none None true e none = refl
test_from_none None false e none = absurd (cc)
test_from_none (Some spot) b e none = absurd (cc)
