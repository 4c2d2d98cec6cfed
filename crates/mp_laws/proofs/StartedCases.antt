-- Worked networks with start queues and old reports meet the premises of the laws.
use Rattle.std.proofs.Common.{ℕ, ◌≤◌, [], ◌∷◌, refl, lit≤, lit<}
use Rattle.std.specs.List.{IsDistinct}
use Rattle.mp_model.specs.Certificate.{Certifies}
use Rattle.mp_model.specs.NetworkRules.{IsAcceptable}
use Rattle.mp_model.specs.Worked.{two_approaches_from, two_approaches_cert, delayed_tandem, tandem_cert}
use Rattle.mp_laws.specs.Cases.{StartedCase, DelayedCase}
use Rattle.mp_laws.proofs.Cases.{le, two_case, two_slack, tandem_case, tandem_slack}

-- two approaches from any queues
pub started_acceptable : (a b : ℕ) → a ≤ 1000000 → b ≤ 1000000 → IsAcceptable (two_approaches_from a b)
unfolding IsDistinct
started_acceptable a b few few' = record {
  network = record {
    shares = lit≤ tt;
    per = lit≤ tt;
    share = (lit≤ tt, (lit≤ tt, tt));
    flow = (lit≤ tt, (lit≤ tt, tt));
    some_stage = (lit≤ tt, tt);
    split = (refl, (refl, tt));
    from = (refl, (refl, tt));
    to = (tt, (tt, tt));
    placed = (refl, (refl, tt));
    stages = ((((tt, tt), (refl, tt)), (((tt, tt), (refl, tt)), tt)), tt);
    together = (((refl, tt), tt), (((refl, tt), tt), tt));
    way_out = ((1 ∷ [], (refl, tt)), ((2 ∷ [], (refl, tt)), tt));
  };
  range = record {
    shares = lit≤ tt;
    per = lit≤ tt;
    links = (lit≤ tt, lit≤ tt);
    movements = (lit≤ tt, lit≤ tt);
    junctions = (lit≤ tt, lit≤ tt);
    bursts = (lit≤ tt, (lit≤ tt, tt));
    rates = (lit≤ tt, (lit≤ tt, tt));
    flows = (lit≤ tt, (lit≤ tt, tt));
    starts = (few, (few', tt));
    delay = lit≤ tt;
    stages = (lit≤ tt, tt);
    own = (lit≤ tt, tt);
    some_fed = lit≤ tt;
  };
  names = record {
    links = ((refl, refl), ((refl, refl), tt));
    movements = (refl, (refl, tt));
    junctions = (refl, tt);
    links_differ = ((refl, tt), (tt, tt));
    movements_differ = ((refl, tt), (tt, tt));
    junctions_differ = (tt, tt);
  };
}

started_certified : Certifies (two_approaches_from 50 30) two_approaches_cert
started_certified = record {
  rules = record {
    lengths = record { rates = refl; mixes = refl; parts = (refl, tt) };
    denominator = le 1 4 (lit≤ tt);
    rates = (le 0 4 (lit≤ tt), (le 0 4 (lit≤ tt), tt));
    wholes = (le 1 1 (lit≤ tt), tt);
    parts = ((le 0 2 (lit≤ tt), (le 0 2 (lit≤ tt), tt)), tt);
    masses = (le 4 4 (lit≤ tt), tt);
    serves = (le 4 4 (lit≤ tt), (le 4 4 (lit≤ tt), tt));
    balances = (le 16 16 (lit≤ tt), (le 16 16 (lit≤ tt), tt));
  };
  excess = le 1 3 (lit≤ tt);
}

pub started_case : StartedCase
started_case = record {
  acceptable = started_acceptable 50 30 (lit≤ tt) (lit≤ tt);
  certified = started_certified;
  slack = two_slack;
  greatest = record { above = lit≤ tt; reached = (two_approaches_cert, started_certified, two_slack); shown = (1 ∷ 1 ∷ [], record { vector = record { lengths = refl; some = lit≤ tt }; equal = refl }) };
  bounds_are = record { root = 233; is_root = record { within = lit≤ tt; most = lit< tt }; are = refl };
  permitted = record { counts = two_case.permitted.counts; windows = two_case.permitted.windows };
}

delayed_acceptable : IsAcceptable delayed_tandem
unfolding IsDistinct
delayed_acceptable = record {
  network = record {
    shares = lit≤ tt;
    per = lit≤ tt;
    share = (lit≤ tt, (lit≤ tt, tt));
    flow = (lit≤ tt, (lit≤ tt, tt));
    some_stage = (lit≤ tt, (lit≤ tt, tt));
    split = (refl, (refl, tt));
    from = (refl, (refl, tt));
    to = (refl, (tt, tt));
    placed = (refl, (refl, tt));
    stages = ((((tt, tt), (refl, tt)), tt), ((((tt, tt), (refl, tt)), tt), tt));
    together = (((refl, tt), tt), (((refl, tt), tt), tt));
    way_out = ((1 ∷ 2 ∷ [], (refl, (refl, tt))), ((2 ∷ [], (refl, tt)), tt));
  };
  range = record {
    shares = lit≤ tt;
    per = lit≤ tt;
    links = (lit≤ tt, lit≤ tt);
    movements = (lit≤ tt, lit≤ tt);
    junctions = (lit≤ tt, lit≤ tt);
    bursts = (lit≤ tt, (lit≤ tt, tt));
    rates = (lit≤ tt, (lit≤ tt, tt));
    flows = (lit≤ tt, (lit≤ tt, tt));
    starts = (lit≤ tt, (lit≤ tt, tt));
    delay = lit≤ tt;
    stages = (lit≤ tt, (lit≤ tt, tt));
    own = (lit≤ tt, (lit≤ tt, tt));
    some_fed = lit≤ tt;
  };
  names = record {
    links = ((refl, refl), ((refl, refl), tt));
    movements = (refl, (refl, tt));
    junctions = (refl, (refl, tt));
    links_differ = ((refl, tt), (tt, tt));
    movements_differ = ((refl, tt), (tt, tt));
    junctions_differ = ((refl, tt), (tt, tt));
  };
}

delayed_certified : Certifies delayed_tandem tandem_cert
delayed_certified = record {
  rules = record {
    lengths = record { rates = refl; mixes = refl; parts = (refl, (refl, tt)) };
    denominator = le 1 4 (lit≤ tt);
    rates = (le 0 3 (lit≤ tt), (le 0 4 (lit≤ tt), tt));
    wholes = (le 1 1 (lit≤ tt), (le 1 1 (lit≤ tt), tt));
    parts = ((le 0 3 (lit≤ tt), tt), ((le 0 4 (lit≤ tt), tt), tt));
    masses = (le 3 4 (lit≤ tt), (le 4 4 (lit≤ tt), tt));
    serves = (le 3 3 (lit≤ tt), (le 4 4 (lit≤ tt), tt));
    balances = (le 6 6 (lit≤ tt), (le 8 8 (lit≤ tt), tt));
  };
  excess = le 1 1 (lit≤ tt);
}

pub delayed_case : DelayedCase
delayed_case = record {
  worked = record {
    acceptable = delayed_acceptable;
    certified = delayed_certified;
    slack = tandem_slack;
    greatest = record { above = lit≤ tt; reached = (tandem_cert, delayed_certified, tandem_slack); shown = (1 ∷ 1 ∷ [], record { vector = record { lengths = refl; some = lit≤ tt }; equal = refl }) };
    bounds_are = record { root = 50; is_root = record { within = lit≤ tt; most = lit< tt }; are = refl };
    permitted = record { counts = tandem_case.permitted.counts; windows = tandem_case.permitted.windows };
  };
  timely = (
    record { junctions = refl; targets = (refl, (refl, tt)); timely = (((lit≤ tt, lit≤ tt), tt), (tt, tt)) },
    (record { junctions = refl; targets = (refl, (refl, tt)); timely = (((lit≤ tt, lit≤ tt), tt), (tt, tt)) }, (record { junctions = refl; targets = (refl, (refl, tt)); timely = (((lit≤ tt, lit≤ tt), tt), (tt, tt)) }, tt)),
  );
}
