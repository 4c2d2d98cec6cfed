-- Three lanes with one burst are a network with a certificate.
use Rattle.std.proofs.Common.{[], ◌∷◌, refl, lit≤, lit<}
use Rattle.std.specs.List.{IsDistinct}
use Rattle.mp_model.specs.Arrivals.{IsPermitted}
use Rattle.mp_model.specs.Bounds.{AreBounds}
use Rattle.mp_model.specs.Certificate.{Certifies}
use Rattle.mp_model.specs.NetworkRules.{IsNetwork}
use Rattle.mp_laws.proofs.Cases.{le}
use Rattle.mp_laws.proofs.Windows.{keeps_to}
use Rattle.mp_controls.specs.Lane.{three_lanes, three_lanes_cert}

pub lanes_network : IsNetwork three_lanes
unfolding IsDistinct
lanes_network = record {
  shares = lit≤ tt;
  per = lit≤ tt;
  share = (lit≤ tt, (lit≤ tt, (lit≤ tt, tt)));
  flow = (lit≤ tt, (lit≤ tt, (lit≤ tt, tt)));
  some_stage = (lit≤ tt, tt);
  split = (refl, (refl, (refl, tt)));
  from = (refl, (refl, (refl, tt)));
  to = (tt, (tt, (tt, tt)));
  placed = (refl, (refl, (refl, tt)));
  stages = (((((refl, (refl, tt)), ((refl, tt), (tt, tt))), (refl, (refl, (refl, tt)))), tt), tt);
  together = (((refl, tt), tt), (((refl, tt), tt), (((refl, tt), tt), tt)));
  way_out = ((1 ∷ [], (refl, tt)), ((2 ∷ [], (refl, tt)), ((3 ∷ [], (refl, tt)), tt)));
}

pub lanes_certified : Certifies three_lanes three_lanes_cert
lanes_certified = record {
  rules = record {
    lengths = record { rates = refl; mixes = refl; parts = (refl, tt) };
    denominator = le 1 1 (lit≤ tt);
    rates = (le 0 1 (lit≤ tt), (le 0 1 (lit≤ tt), (le 0 1 (lit≤ tt), tt)));
    wholes = (le 1 1 (lit≤ tt), tt);
    parts = ((le 0 1 (lit≤ tt), tt), tt);
    masses = (le 1 1 (lit≤ tt), tt);
    serves = (le 1 1 (lit≤ tt), (le 1 1 (lit≤ tt), (le 1 1 (lit≤ tt), tt)));
    balances = (le 1 1 (lit≤ tt), (le 1 1 (lit≤ tt), (le 1 1 (lit≤ tt), tt)));
  };
  excess = le 1 1 (lit≤ tt);
}

pub lanes_bounds : AreBounds three_lanes 1 1 (4 ∷ 3 ∷ 3 ∷ [])
lanes_bounds = record { root = 3; is_root = record { within = lit≤ tt; most = lit< tt }; are = refl }

pub lanes_permitted : IsPermitted three_lanes []
lanes_permitted = record { counts = tt; windows = (keeps_to 1 1 0 [] tt, tt) }
