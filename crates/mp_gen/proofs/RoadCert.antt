-- A certificate of the roads through two, three and four junctions, at each first rate of at most 39.
use Rattle.std.proofs.Common.{ℕ, ◌≤◌, ◌-◌, List, [], ◌∷◌, ◌++◌, map, ℤ, pos, refl, arith, lit≤}
use Rattle.std.specs.List.{flat_map}
use Rattle.std.proofs.lemmas.Int.{ints}
use Rattle.mp_model.specs.Certificate.{Cert, Mix, Certifies}
use Rattle.mp_model.specs.Network.{numbers_to}
use Rattle.mp_laws.proofs.Cases.{le}
use Rattle.mp_gen.specs.DemoNetwork.{road_network}

-- the same rates at each junction before the last
abbrev through_rates : ℕ → List ℤ
through_rates i = pos 21 ∷ pos 6 ∷ pos 4 ∷ pos 4 ∷ []

abbrev through_mix : ℕ → Mix
through_mix i = record { whole = pos 1; parts = pos 3 ∷ pos 1 ∷ [] }

abbrev pub road_cert : ℕ → Cert
road_cert count = record {
  d = pos 10;
  e = pos 1;
  h = flat_map through_rates (numbers_to (count - 1)) ++ pos 26 ∷ pos 6 ∷ [];
  mixes = map through_mix (numbers_to (count - 1)) ++ record { whole = pos 1; parts = pos 4 ∷ pos 2 ∷ [] } ∷ [];
}

pub two_certified : (rate : ℕ) → rate ≤ 39 → Certifies (road_network 2 rate) (road_cert 2)
two_certified rate h = record {
  rules = record {
    lengths = record { rates = refl; mixes = refl; parts = (refl, (refl, tt)) };
    denominator = le 1 10 (lit≤ tt);
    rates = (le 0 21 (lit≤ tt), (le 0 6 (lit≤ tt), (le 0 4 (lit≤ tt), (le 0 4 (lit≤ tt), (le 0 26 (lit≤ tt), (le 0 6 (lit≤ tt), tt))))));
    wholes = (le 1 1 (lit≤ tt), (le 1 1 (lit≤ tt), tt));
    parts = ((le 0 3 (lit≤ tt), (le 0 1 (lit≤ tt), tt)), ((le 0 4 (lit≤ tt), (le 0 2 (lit≤ tt), tt)), tt));
    masses = (le 4 10 (lit≤ tt), (le 6 10 (lit≤ tt), tt));
    serves = (le 21 24 (lit≤ tt), (le 6 24 (lit≤ tt), (le 4 4 (lit≤ tt), (le 4 4 (lit≤ tt), (le 26 32 (lit≤ tt), (le 6 8 (lit≤ tt), tt))))));
    balances = (omega (arith, ints), (omega (arith, ints), (le 700 800 (lit≤ tt), (le 700 800 (lit≤ tt), (le 5200 5200 (lit≤ tt), (le 1200 1200 (lit≤ tt), tt))))));
  };
  excess = le 1 1 (lit≤ tt);
}

pub three_certified : (rate : ℕ) → rate ≤ 39 → Certifies (road_network 3 rate) (road_cert 3)
three_certified rate h = record {
  rules = record {
    lengths = record { rates = refl; mixes = refl; parts = (refl, (refl, (refl, tt))) };
    denominator = le 1 10 (lit≤ tt);
    rates = (le 0 21 (lit≤ tt), (le 0 6 (lit≤ tt), (le 0 4 (lit≤ tt), (le 0 4 (lit≤ tt), (le 0 21 (lit≤ tt), (le 0 6 (lit≤ tt), (le 0 4 (lit≤ tt), (le 0 4 (lit≤ tt), (le 0 26 (lit≤ tt), (le 0 6 (lit≤ tt), tt))))))))));
    wholes = (le 1 1 (lit≤ tt), (le 1 1 (lit≤ tt), (le 1 1 (lit≤ tt), tt)));
    parts = ((le 0 3 (lit≤ tt), (le 0 1 (lit≤ tt), tt)), ((le 0 3 (lit≤ tt), (le 0 1 (lit≤ tt), tt)), ((le 0 4 (lit≤ tt), (le 0 2 (lit≤ tt), tt)), tt)));
    masses = (le 4 10 (lit≤ tt), (le 4 10 (lit≤ tt), (le 6 10 (lit≤ tt), tt)));
    serves = (le 21 24 (lit≤ tt), (le 6 24 (lit≤ tt), (le 4 4 (lit≤ tt), (le 4 4 (lit≤ tt), (le 21 24 (lit≤ tt), (le 6 24 (lit≤ tt), (le 4 4 (lit≤ tt), (le 4 4 (lit≤ tt), (le 26 32 (lit≤ tt), (le 6 8 (lit≤ tt), tt))))))))));
    balances = (omega (arith, ints), (omega (arith, ints), (le 700 800 (lit≤ tt), (le 700 800 (lit≤ tt), (le 4200 4200 (lit≤ tt), (le 1200 1200 (lit≤ tt), (le 700 800 (lit≤ tt), (le 700 800 (lit≤ tt), (le 5200 5200 (lit≤ tt), (le 1200 1200 (lit≤ tt), tt))))))))));
  };
  excess = le 1 1 (lit≤ tt);
}

pub four_certified : (rate : ℕ) → rate ≤ 39 → Certifies (road_network 4 rate) (road_cert 4)
four_certified rate h = record {
  rules = record {
    lengths = record { rates = refl; mixes = refl; parts = (refl, (refl, (refl, (refl, tt)))) };
    denominator = le 1 10 (lit≤ tt);
    rates = (le 0 21 (lit≤ tt), (le 0 6 (lit≤ tt), (le 0 4 (lit≤ tt), (le 0 4 (lit≤ tt), (le 0 21 (lit≤ tt), (le 0 6 (lit≤ tt), (le 0 4 (lit≤ tt), (le 0 4 (lit≤ tt), (le 0 21 (lit≤ tt), (le 0 6 (lit≤ tt), (le 0 4 (lit≤ tt), (le 0 4 (lit≤ tt), (le 0 26 (lit≤ tt), (le 0 6 (lit≤ tt), tt))))))))))))));
    wholes = (le 1 1 (lit≤ tt), (le 1 1 (lit≤ tt), (le 1 1 (lit≤ tt), (le 1 1 (lit≤ tt), tt))));
    parts = ((le 0 3 (lit≤ tt), (le 0 1 (lit≤ tt), tt)), ((le 0 3 (lit≤ tt), (le 0 1 (lit≤ tt), tt)), ((le 0 3 (lit≤ tt), (le 0 1 (lit≤ tt), tt)), ((le 0 4 (lit≤ tt), (le 0 2 (lit≤ tt), tt)), tt))));
    masses = (le 4 10 (lit≤ tt), (le 4 10 (lit≤ tt), (le 4 10 (lit≤ tt), (le 6 10 (lit≤ tt), tt))));
    serves = (le 21 24 (lit≤ tt), (le 6 24 (lit≤ tt), (le 4 4 (lit≤ tt), (le 4 4 (lit≤ tt), (le 21 24 (lit≤ tt), (le 6 24 (lit≤ tt), (le 4 4 (lit≤ tt), (le 4 4 (lit≤ tt), (le 21 24 (lit≤ tt), (le 6 24 (lit≤ tt), (le 4 4 (lit≤ tt), (le 4 4 (lit≤ tt), (le 26 32 (lit≤ tt), (le 6 8 (lit≤ tt), tt))))))))))))));
    balances = (omega (arith, ints), (omega (arith, ints), (le 700 800 (lit≤ tt), (le 700 800 (lit≤ tt), (le 4200 4200 (lit≤ tt), (le 1200 1200 (lit≤ tt), (le 700 800 (lit≤ tt), (le 700 800 (lit≤ tt), (le 4200 4200 (lit≤ tt), (le 1200 1200 (lit≤ tt), (le 700 800 (lit≤ tt), (le 700 800 (lit≤ tt), (le 5200 5200 (lit≤ tt), (le 1200 1200 (lit≤ tt), tt))))))))))))));
  };
  excess = le 1 1 (lit≤ tt);
}
