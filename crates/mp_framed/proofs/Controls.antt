-- Where sharper forms of the frame bound fail.
use Rattle.std.proofs.Common.{◌≡◌, ℕ, zero, suc, ◌≤◌, [], ◌∷◌, pos, refl, arith, lit≤, lit<}
use Rattle.std.proofs.Math.Nat.{one-dvd}
use Rattle.std.specs.List.{AllByRecursion, IsDistinct}
use Rattle.mp_laws.proofs.Cases.{le}
use Rattle.mp_laws.proofs.StartedCases.{started_acceptable}
use Rattle.mp_laws.proofs.Windows.{keeps_to}
use Rattle.mp_model.specs.Arrivals.{HasCounts, IsPermitted, StaysWithin, counts_of}
use Rattle.mp_model.specs.Certificate.{Cert, Certifies}
use Rattle.mp_model.specs.Frames.{AreFrameBounds, frame_network, framed_opening}
use Rattle.mp_model.specs.NetworkRules.{IsAcceptable}
use Rattle.mp_model.specs.Slack.{IsSlack}
use Rattle.mp_model.specs.Step.{queue}
use Rattle.mp_model.specs.Worked.{two_approaches_from}
use Rattle.mp_framed.specs.Controls.{NotFrameBoundTwoLower, NotTwiceLostBound, after_twice_lost, lane_from_six, turns}

-- the lane
lane_acceptable : IsAcceptable lane_from_six
unfolding IsDistinct
lane_acceptable = record {
  network = record {
    shares = lit≤ tt;
    per = lit≤ tt;
    share = (lit≤ tt, tt);
    flow = (lit≤ tt, tt);
    some_stage = (lit≤ tt, tt);
    split = (refl, tt);
    from = (refl, tt);
    to = (tt, tt);
    placed = (refl, tt);
    stages = ((((tt, tt), (refl, tt)), tt), tt);
    together = (((refl, tt), tt), tt);
    way_out = ((1 ∷ [], (refl, tt)), tt);
  };
  range = record {
    shares = lit≤ tt;
    per = lit≤ tt;
    links = (lit≤ tt, lit≤ tt);
    movements = (lit≤ tt, lit≤ tt);
    junctions = (lit≤ tt, lit≤ tt);
    bursts = (lit≤ tt, tt);
    rates = (lit≤ tt, tt);
    flows = (lit≤ tt, tt);
    starts = (lit≤ tt, tt);
    delay = lit≤ tt;
    stages = (lit≤ tt, tt);
    own = (lit≤ tt, tt);
    some_fed = lit≤ tt;
  };
  names = record {
    links = ((refl, refl), tt);
    movements = (refl, tt);
    junctions = (refl, tt);
    links_differ = (tt, tt);
    movements_differ = (tt, tt);
    junctions_differ = (tt, tt);
  };
}

abbrev lane_cert : Cert
lane_cert = record { d = pos 1; e = pos 1; h = pos 1 ∷ []; mixes = record { whole = pos 1; parts = pos 1 ∷ [] } ∷ [] }

lane_certified : Certifies (frame_network lane_from_six 2) lane_cert
lane_certified = record {
  rules = record {
    lengths = record { rates = refl; mixes = refl; parts = (refl, tt) };
    denominator = le 1 1 (lit≤ tt);
    rates = (le 0 1 (lit≤ tt), tt);
    wholes = (le 1 1 (lit≤ tt), tt);
    parts = ((le 0 1 (lit≤ tt), tt), tt);
    masses = (le 1 1 (lit≤ tt), tt);
    serves = (le 1 1 (lit≤ tt), tt);
    balances = (le 1 1 (lit≤ tt), tt);
  };
  excess = le 1 1 (lit≤ tt);
}

lane_slack : IsSlack lane_cert 1 1
lane_slack = record { lowest = record { denominator = lit≤ tt; coprime = (one-dvd 1, one-dvd 1, λ x a b. a) }; equal = refl }

lane_bounds : AreFrameBounds lane_from_six 2 1 1 (8 ∷ [])
lane_bounds = record { root = 6; is_root = record { within = lit≤ tt; most = lit< tt }; are = refl }

pub not_two_lower : NotFrameBoundTwoLower
not_two_lower law =
    let h : 9 ≤ 8 = (law lane_from_six lane_acceptable 2 (lit≤ tt) lane_cert lane_certified 1 1 lane_slack (8 ∷ []) lane_bounds ((1 ∷ []) ∷ []) (record { counts = (refl, tt); windows = (keeps_to 1 1 0 (1 ∷ []) (lit≤ tt, tt), tt) })).1.0.0 in
    absurd (omega arith)

-- two approaches where a change loses a whole frame
abbrev turns_cert : Cert
turns_cert = record { d = pos 2; e = pos 1; h = pos 2 ∷ pos 2 ∷ []; mixes = record { whole = pos 1; parts = pos 1 ∷ pos 1 ∷ [] } ∷ [] }

turns_certified : Certifies (frame_network (two_approaches_from 51 51) 2) turns_cert
turns_certified = record {
  rules = record {
    lengths = record { rates = refl; mixes = refl; parts = (refl, tt) };
    denominator = le 1 2 (lit≤ tt);
    rates = (le 0 2 (lit≤ tt), (le 0 2 (lit≤ tt), tt));
    wholes = (le 1 1 (lit≤ tt), tt);
    parts = ((le 0 1 (lit≤ tt), (le 0 1 (lit≤ tt), tt)), tt);
    masses = (le 2 2 (lit≤ tt), tt);
    serves = (le 2 2 (lit≤ tt), (le 2 2 (lit≤ tt), tt));
    balances = (le 8 8 (lit≤ tt), (le 8 8 (lit≤ tt), tt));
  };
  excess = le 1 1 (lit≤ tt);
}

turns_slack : IsSlack turns_cert 1 2
turns_slack = record { lowest = record { denominator = lit≤ tt; coprime = (one-dvd 1, one-dvd 2, λ x x1 x2. x1) }; equal = refl }

turns_bounds : AreFrameBounds (two_approaches_from 51 51) 2 1 2 (76 ∷ 76 ∷ [])
turns_bounds = record { root = 289; is_root = record { within = lit≤ tt; most = lit< tt }; are = refl }

turns_counts : (n : ℕ) → AllByRecursion (HasCounts (two_approaches_from 51 51)) (turns n)
turns_counts zero = tt
turns_counts (suc n) = (refl, (refl, (refl, (refl, turns_counts n))))

-- from one turn to the next the levels come back to 2 and to 0
turns_first : (n : ℕ) → StaysWithin 4 2 1 2 (counts_of (two_approaches_from 51 51) (turns n) 1)
turns_first zero = tt
turns_first (suc n) = (lit≤ tt, (lit≤ tt, (lit≤ tt, (lit≤ tt, turns_first n))))

turns_second : (n : ℕ) → StaysWithin 4 2 1 0 (counts_of (two_approaches_from 51 51) (turns n) 2)
turns_second zero = tt
turns_second (suc n) = (lit≤ tt, (lit≤ tt, (lit≤ tt, (lit≤ tt, turns_second n))))

turns_permitted : (n : ℕ) → IsPermitted (two_approaches_from 51 51) (turns (suc n))
turns_permitted n = record {
  counts = turns_counts (suc n);
  windows = (keeps_to 4 2 1 _ (lit≤ tt, (lit≤ tt, (lit≤ tt, (lit≤ tt, turns_first n)))), (keeps_to 4 2 1 _ (turns_second (suc n)), tt));
}

turns_above : queue (after_twice_lost (two_approaches_from 51 51) 2 (framed_opening (two_approaches_from 51 51)) (turns 26)).state 1 ≡ 77
turns_above = refl

pub not_twice_lost : NotTwiceLostBound
not_twice_lost law =
    let h = (law (two_approaches_from 51 51) (started_acceptable 51 51 (lit≤ tt) (lit≤ tt)) 2 (lit≤ tt) turns_cert turns_certified 1 2 turns_slack (76 ∷ 76 ∷ []) turns_bounds (turns 26) (turns_permitted 25)).0 in
    absurd (omega (arith, turns_above))
