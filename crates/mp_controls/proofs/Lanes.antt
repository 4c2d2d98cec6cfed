-- The networks that the controls are computed at meet the premises of the laws.
use Rattle.std.proofs.Common.{◌≡◌, ℕ, ◌≤◌, [], ◌∷◌, pos, refl, arith, lit≤, lit<}
use Rattle.std.proofs.lemmas.Int.{ints}
use Rattle.std.proofs.Math.Nat.{one-dvd}
use Rattle.std.specs.Int.{IsGcd}
use Rattle.std.specs.List.{IsDistinct}
use Rattle.mp_model.specs.Bounds.{AreBounds}
use Rattle.mp_model.specs.Certificate.{Cert, Certifies}
use Rattle.mp_model.specs.NetworkRules.{IsNetwork, IsAcceptable}
use Rattle.mp_model.specs.Slack.{IsSlack, IsGreatestSlack}
use Rattle.mp_model.specs.Arrivals.{IsPermitted}
use Rattle.mp_laws.proofs.Cases.{le}
use Rattle.mp_laws.proofs.Windows.{keeps_to}
use Rattle.mp_controls.specs.Lane.{lane, still_lane, still_cert, slow_lane, slow_cert, started_lane, empty_network}

pub lane_network : (per rate : ℕ) → 1 ≤ per → IsNetwork (lane per rate)
unfolding IsDistinct
lane_network per rate some = record {
  shares = lit≤ tt;
  per = some;
  share = (lit≤ tt, tt);
  flow = (lit≤ tt, tt);
  some_stage = (lit≤ tt, tt);
  split = (refl, tt);
  from = (refl, tt);
  to = (tt, tt);
  placed = (refl, tt);
  stages = ((((tt, tt), (refl, tt)), tt), tt);
  together = (((refl, tt), tt), tt);
  way_out = ((1 ∷ [], (refl, tt)), tt);
}

pub still_certified : Certifies still_lane still_cert
still_certified = record {
  rules = record {
    lengths = record { rates = refl; mixes = refl; parts = (refl, tt) };
    denominator = le 1 1 (lit≤ tt);
    rates = (le 0 1 (lit≤ tt), tt);
    wholes = (le 1 1 (lit≤ tt), tt);
    parts = ((le 0 1 (lit≤ tt), tt), tt);
    masses = (le 1 1 (lit≤ tt), tt);
    serves = (le 1 1 (lit≤ tt), tt);
    balances = (le 1 1 (lit≤ tt), tt);
  };
  excess = le 1 1 (lit≤ tt);
}

-- a slack of 1
pub one_slack : (cert : Cert) → pos 1 ≡ cert.d → pos 1 ≡ cert.e → IsSlack cert 1 1
one_slack cert d e = record { lowest = record { denominator = lit≤ tt; coprime = (one-dvd 1, one-dvd 1, λ x a b. a) }; equal = omega (arith, ints) }

pub slow_acceptable : IsAcceptable slow_lane
unfolding IsDistinct
slow_acceptable = record {
  network = lane_network 2 1 (lit≤ tt);
  range = record {
    shares = lit≤ tt;
    per = lit≤ tt;
    links = (lit≤ tt, lit≤ tt);
    movements = (lit≤ tt, lit≤ tt);
    junctions = (lit≤ tt, lit≤ tt);
    bursts = (lit≤ tt, tt);
    rates = (lit≤ tt, tt);
    flows = (lit≤ tt, tt);
    starts = (lit≤ tt, tt);
    delay = lit≤ tt;
    stages = (lit≤ tt, tt);
    own = (lit≤ tt, tt);
    some_fed = lit≤ tt;
  };
  names = record {
    links = ((refl, refl), tt);
    movements = (refl, tt);
    junctions = (refl, tt);
    links_differ = (tt, tt);
    movements_differ = (tt, tt);
    junctions_differ = (tt, tt);
  };
}

pub slow_certified : Certifies slow_lane slow_cert
slow_certified = record {
  rules = record {
    lengths = record { rates = refl; mixes = refl; parts = (refl, tt) };
    denominator = le 1 2 (lit≤ tt);
    rates = (le 0 2 (lit≤ tt), tt);
    wholes = (le 1 1 (lit≤ tt), tt);
    parts = ((le 0 2 (lit≤ tt), tt), tt);
    masses = (le 2 2 (lit≤ tt), tt);
    serves = (le 2 2 (lit≤ tt), tt);
    balances = (le 4 4 (lit≤ tt), tt);
  };
  excess = le 1 1 (lit≤ tt);
}

gcd_one_two : IsGcd 1 2 1
gcd_one_two = (one-dvd 1, one-dvd 2, λ x x1 x2. x1)

pub slow_cert_slack : IsSlack slow_cert 1 2
slow_cert_slack = record { lowest = record { denominator = lit≤ tt; coprime = gcd_one_two }; equal = refl }

pub slow_slack : IsGreatestSlack slow_lane 1 2
slow_slack = record {
  above = lit≤ tt;
  reached = (slow_cert, slow_certified, slow_cert_slack);
  shown = (1 ∷ [], record { vector = record { lengths = refl; some = lit≤ tt }; equal = refl });
}

pub slow_bounds : AreBounds slow_lane 1 2 (1 ∷ [])
slow_bounds = record { root = 2; is_root = record { within = lit≤ tt; most = lit< tt }; are = refl }

pub empty_is_network : IsNetwork empty_network
empty_is_network = record { shares = lit≤ tt; per = lit≤ tt; share = tt; flow = tt; some_stage = tt; split = tt; from = tt; to = tt; placed = tt; stages = tt; together = tt; way_out = tt }

abbrev pub empty_cert : Cert
empty_cert = record { d = pos 1; e = pos 1; h = []; mixes = [] }

pub empty_certified : Certifies empty_network empty_cert
empty_certified = record {
  rules = record { lengths = record { rates = refl; mixes = refl; parts = tt }; denominator = le 1 1 (lit≤ tt); rates = tt; wholes = tt; parts = tt; masses = tt; serves = tt; balances = tt };
  excess = le 1 1 (lit≤ tt);
}

pub slow_permitted : IsPermitted slow_lane []
slow_permitted = record { counts = tt; windows = (keeps_to 2 0 1 [] tt, tt) }

pub started_network : IsNetwork started_lane
unfolding IsDistinct
started_network = record {
  shares = lit≤ tt;
  per = lit≤ tt;
  share = (lit≤ tt, tt);
  flow = (lit≤ tt, tt);
  some_stage = (lit≤ tt, tt);
  split = (refl, tt);
  from = (refl, tt);
  to = (tt, tt);
  placed = (refl, tt);
  stages = ((((tt, tt), (refl, tt)), tt), tt);
  together = (((refl, tt), tt), tt);
  way_out = ((1 ∷ [], (refl, tt)), tt);
}

pub started_certified : Certifies started_lane still_cert
started_certified = record {
  rules = record {
    lengths = record { rates = refl; mixes = refl; parts = (refl, tt) };
    denominator = le 1 1 (lit≤ tt);
    rates = (le 0 1 (lit≤ tt), tt);
    wholes = (le 1 1 (lit≤ tt), tt);
    parts = ((le 0 1 (lit≤ tt), tt), tt);
    masses = (le 1 1 (lit≤ tt), tt);
    serves = (le 1 1 (lit≤ tt), tt);
    balances = (le 1 1 (lit≤ tt), tt);
  };
  excess = le 1 1 (lit≤ tt);
}
