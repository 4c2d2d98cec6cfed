-- Three approaches meet the premises of the bound law one lower.
use Rattle.std.proofs.Common.{[], ◌∷◌, refl, lit≤, lit<}
use Rattle.std.proofs.Math.Nat.{one-dvd, dvd-mod_iff}
use Rattle.std.specs.Int.{IsGcd}
use Rattle.std.specs.List.{IsDistinct}
use Rattle.mp_model.specs.Certificate.{Certifies}
use Rattle.mp_model.specs.NetworkRules.{IsAcceptable}
use Rattle.mp_model.specs.Slack.{IsSlack}
use Rattle.mp_laws.proofs.Cases.{le}
use Rattle.mp_laws.proofs.Windows.{keeps_to}
use Rattle.mp_controls.specs.Lane.{three_approaches, three_approaches_cert}
use Rattle.mp_controls.specs.OneLower.{ThreeApproachesCase}

three_acceptable : IsAcceptable three_approaches
unfolding IsDistinct
three_acceptable = record {
  network = record {
    shares = lit≤ tt;
    per = lit≤ tt;
    share = (lit≤ tt, (lit≤ tt, (lit≤ tt, tt)));
    flow = (lit≤ tt, (lit≤ tt, (lit≤ tt, tt)));
    some_stage = (lit≤ tt, tt);
    split = (refl, (refl, (refl, tt)));
    from = (refl, (refl, (refl, tt)));
    to = (tt, (tt, (tt, tt)));
    placed = (refl, (refl, (refl, tt)));
    stages = ((((tt, tt), (refl, tt)), (((tt, tt), (refl, tt)), (((tt, tt), (refl, tt)), tt))), tt);
    together = (((refl, tt), tt), (((refl, tt), tt), (((refl, tt), tt), tt)));
    way_out = ((1 ∷ [], (refl, tt)), ((2 ∷ [], (refl, tt)), ((3 ∷ [], (refl, tt)), tt)));
  };
  range = record {
    shares = lit≤ tt;
    per = lit≤ tt;
    links = (lit≤ tt, lit≤ tt);
    movements = (lit≤ tt, lit≤ tt);
    junctions = (lit≤ tt, lit≤ tt);
    bursts = (lit≤ tt, (lit≤ tt, (lit≤ tt, tt)));
    rates = (lit≤ tt, (lit≤ tt, (lit≤ tt, tt)));
    flows = (lit≤ tt, (lit≤ tt, (lit≤ tt, tt)));
    starts = (lit≤ tt, (lit≤ tt, (lit≤ tt, tt)));
    delay = lit≤ tt;
    stages = (lit≤ tt, tt);
    own = (lit≤ tt, tt);
    some_fed = lit≤ tt;
  };
  names = record {
    links = ((refl, refl), ((refl, refl), ((refl, refl), tt)));
    movements = (refl, (refl, (refl, tt)));
    junctions = (refl, tt);
    links_differ = ((refl, (refl, tt)), ((refl, tt), (tt, tt)));
    movements_differ = ((refl, (refl, tt)), ((refl, tt), (tt, tt)));
    junctions_differ = (tt, tt);
  };
}

three_certified : Certifies three_approaches three_approaches_cert
three_certified = record {
  rules = record {
    lengths = record { rates = refl; mixes = refl; parts = (refl, tt) };
    denominator = le 1 12 (lit≤ tt);
    rates = (le 0 8 (lit≤ tt), (le 0 8 (lit≤ tt), (le 0 8 (lit≤ tt), tt)));
    wholes = (le 1 1 (lit≤ tt), tt);
    parts = ((le 0 4 (lit≤ tt), (le 0 4 (lit≤ tt), (le 0 4 (lit≤ tt), tt))), tt);
    masses = (le 12 12 (lit≤ tt), tt);
    serves = (le 8 8 (lit≤ tt), (le 8 8 (lit≤ tt), (le 8 8 (lit≤ tt), tt)));
    balances = (le 32 32 (lit≤ tt), (le 32 32 (lit≤ tt), (le 32 32 (lit≤ tt), tt)));
  };
  excess = le 1 5 (lit≤ tt);
}

gcd_five_twelve : IsGcd 5 12 1
gcd_five_twelve = (one-dvd 5, one-dvd 12, λ x x5 x12. (dvd-mod_iff x ((dvd-mod_iff x x5).1 x12)).1 x5)

three_slack : IsSlack three_approaches_cert 5 12
three_slack = record { lowest = record { denominator = lit≤ tt; coprime = gcd_five_twelve }; equal = refl }

pub three_case : ThreeApproachesCase
three_case = record {
  worked = record {
    acceptable = three_acceptable;
    certified = three_certified;
    slack = three_slack;
    greatest = record { above = lit≤ tt; reached = (three_approaches_cert, three_certified, three_slack); shown = (1 ∷ 1 ∷ 1 ∷ [], record { vector = record { lengths = refl; some = lit≤ tt }; equal = refl }) };
    bounds_are = record { root = 157; is_root = record { within = lit≤ tt; most = lit< tt }; are = refl };
    permitted = record { counts = (refl, (refl, tt)); windows = (keeps_to 4 1 1 (1 ∷ 0 ∷ []) (lit≤ tt, (lit≤ tt, tt)), (keeps_to 4 1 1 (1 ∷ 0 ∷ []) (lit≤ tt, (lit≤ tt, tt)), (keeps_to 4 1 1 (1 ∷ 0 ∷ []) (lit≤ tt, (lit≤ tt, tt)), tt))) };
  };
  burst = (1, refl, lit≤ tt);
  three = lit≤ tt;
}
