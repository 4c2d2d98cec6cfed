-- The roads through two, three and four junctions can be accepted.
use Rattle.std.proofs.Common.{ℕ, ◌≤◌, [], ◌∷◌, refl, arith, lit≤}
use Rattle.std.specs.Fmt.{digits}
use Rattle.std.specs.List.{IsDistinct}
use Rattle.mp_model.specs.NetworkRules.{IsNetwork, IsInRange, HasNames, IsAcceptable}
use Rattle.mp_gen.specs.DemoNetwork.{road_network}

-- the road through two junctions
two_rules : (rate : ℕ) → IsNetwork (road_network 2 rate)
unfolding IsDistinct
two_rules rate = record {
  shares = lit≤ tt;
  per = lit≤ tt;
  share = (lit≤ tt, (lit≤ tt, (lit≤ tt, (lit≤ tt, (lit≤ tt, (lit≤ tt, tt))))));
  flow = (lit≤ tt, (lit≤ tt, (lit≤ tt, (lit≤ tt, (lit≤ tt, (lit≤ tt, tt))))));
  some_stage = (lit≤ tt, (lit≤ tt, tt));
  split = (refl, (refl, (refl, (refl, tt))));
  from = (refl, (refl, (refl, (refl, (refl, (refl, tt))))));
  to = (refl, (tt, (refl, (tt, (tt, (tt, tt))))));
  placed = (refl, (refl, (refl, (refl, (refl, (refl, tt))))));
  stages = (((((refl, tt), (tt, tt)), (refl, (refl, tt))), ((((refl, tt), (tt, tt)), (refl, (refl, tt))), tt)), ((((tt, tt), (refl, tt)), (((tt, tt), (refl, tt)), tt)), tt));
  together = (((refl, (refl, tt)), ((refl, (refl, tt)), tt)), (((refl, (refl, tt)), ((refl, (refl, tt)), tt)), (((refl, tt), tt), (((refl, tt), tt), tt))));
  way_out = ((2 ∷ [], (refl, tt)), ((4 ∷ [], (refl, tt)), ((5 ∷ [], (refl, tt)), ((6 ∷ [], (refl, tt)), tt))));
}

two_range : (rate : ℕ) → rate ≤ 39 → IsInRange (road_network 2 rate)
two_range rate h = record {
  shares = lit≤ tt;
  per = lit≤ tt;
  links = (lit≤ tt, lit≤ tt);
  movements = (lit≤ tt, lit≤ tt);
  junctions = (lit≤ tt, lit≤ tt);
  bursts = (lit≤ tt, (lit≤ tt, (lit≤ tt, (lit≤ tt, tt))));
  rates = (omega arith, (lit≤ tt, (lit≤ tt, (lit≤ tt, tt))));
  flows = (lit≤ tt, (lit≤ tt, (lit≤ tt, (lit≤ tt, (lit≤ tt, (lit≤ tt, tt))))));
  starts = (lit≤ tt, (lit≤ tt, (lit≤ tt, (lit≤ tt, (lit≤ tt, (lit≤ tt, tt))))));
  delay = lit≤ tt;
  stages = (lit≤ tt, (lit≤ tt, tt));
  own = (lit≤ tt, (lit≤ tt, tt));
  some_fed = lit≤ tt;
}

two_names : (rate : ℕ) → HasNames (road_network 2 rate)
unfolding IsDistinct digits
two_names rate = record {
  links = ((refl, refl), ((refl, refl), ((refl, refl), ((refl, refl), tt))));
  movements = (refl, (refl, (refl, (refl, (refl, (refl, tt))))));
  junctions = (refl, (refl, tt));
  links_differ = ((refl, (refl, (refl, tt))), ((refl, (refl, tt)), ((refl, tt), (tt, tt))));
  movements_differ = ((refl, (refl, (refl, (refl, (refl, tt))))), ((refl, (refl, (refl, (refl, tt)))), ((refl, (refl, (refl, tt))), ((refl, (refl, tt)), ((refl, tt), (tt, tt))))));
  junctions_differ = ((refl, tt), (tt, tt));
}

pub two_acceptable : (rate : ℕ) → rate ≤ 39 → IsAcceptable (road_network 2 rate)
two_acceptable rate h = record { network = two_rules rate; range = two_range rate h; names = two_names rate }

-- the road through three junctions
three_rules : (rate : ℕ) → IsNetwork (road_network 3 rate)
unfolding IsDistinct
three_rules rate = record {
  shares = lit≤ tt;
  per = lit≤ tt;
  share = (lit≤ tt, (lit≤ tt, (lit≤ tt, (lit≤ tt, (lit≤ tt, (lit≤ tt, (lit≤ tt, (lit≤ tt, (lit≤ tt, (lit≤ tt, tt))))))))));
  flow = (lit≤ tt, (lit≤ tt, (lit≤ tt, (lit≤ tt, (lit≤ tt, (lit≤ tt, (lit≤ tt, (lit≤ tt, (lit≤ tt, (lit≤ tt, tt))))))))));
  some_stage = (lit≤ tt, (lit≤ tt, (lit≤ tt, tt)));
  split = (refl, (refl, (refl, (refl, (refl, (refl, tt))))));
  from = (refl, (refl, (refl, (refl, (refl, (refl, (refl, (refl, (refl, (refl, tt))))))))));
  to = (refl, (tt, (refl, (tt, (refl, (tt, (refl, (tt, (tt, (tt, tt))))))))));
  placed = (refl, (refl, (refl, (refl, (refl, (refl, (refl, (refl, (refl, (refl, tt))))))))));
  stages = (((((refl, tt), (tt, tt)), (refl, (refl, tt))), ((((refl, tt), (tt, tt)), (refl, (refl, tt))), tt)), (((((refl, tt), (tt, tt)), (refl, (refl, tt))), ((((refl, tt), (tt, tt)), (refl, (refl, tt))), tt)), ((((tt, tt), (refl, tt)), (((tt, tt), (refl, tt)), tt)), tt)));
  together = (((refl, (refl, tt)), ((refl, (refl, tt)), tt)), (((refl, (refl, tt)), ((refl, (refl, tt)), tt)), (((refl, (refl, tt)), ((refl, (refl, tt)), tt)), (((refl, (refl, tt)), ((refl, (refl, tt)), tt)), (((refl, tt), tt), (((refl, tt), tt), tt))))));
  way_out = ((2 ∷ [], (refl, tt)), ((4 ∷ [], (refl, tt)), ((6 ∷ [], (refl, tt)), ((8 ∷ [], (refl, tt)), ((9 ∷ [], (refl, tt)), ((10 ∷ [], (refl, tt)), tt))))));
}

three_range : (rate : ℕ) → rate ≤ 39 → IsInRange (road_network 3 rate)
three_range rate h = record {
  shares = lit≤ tt;
  per = lit≤ tt;
  links = (lit≤ tt, lit≤ tt);
  movements = (lit≤ tt, lit≤ tt);
  junctions = (lit≤ tt, lit≤ tt);
  bursts = (lit≤ tt, (lit≤ tt, (lit≤ tt, (lit≤ tt, (lit≤ tt, (lit≤ tt, tt))))));
  rates = (omega arith, (lit≤ tt, (lit≤ tt, (lit≤ tt, (lit≤ tt, (lit≤ tt, tt))))));
  flows = (lit≤ tt, (lit≤ tt, (lit≤ tt, (lit≤ tt, (lit≤ tt, (lit≤ tt, (lit≤ tt, (lit≤ tt, (lit≤ tt, (lit≤ tt, tt))))))))));
  starts = (lit≤ tt, (lit≤ tt, (lit≤ tt, (lit≤ tt, (lit≤ tt, (lit≤ tt, (lit≤ tt, (lit≤ tt, (lit≤ tt, (lit≤ tt, tt))))))))));
  delay = lit≤ tt;
  stages = (lit≤ tt, (lit≤ tt, (lit≤ tt, tt)));
  own = (lit≤ tt, (lit≤ tt, (lit≤ tt, tt)));
  some_fed = lit≤ tt;
}

three_names : (rate : ℕ) → HasNames (road_network 3 rate)
unfolding IsDistinct digits
three_names rate = record {
  links = ((refl, refl), ((refl, refl), ((refl, refl), ((refl, refl), ((refl, refl), ((refl, refl), tt))))));
  movements = (refl, (refl, (refl, (refl, (refl, (refl, (refl, (refl, (refl, (refl, tt))))))))));
  junctions = (refl, (refl, (refl, tt)));
  links_differ = ((refl, (refl, (refl, (refl, (refl, tt))))), ((refl, (refl, (refl, (refl, tt)))), ((refl, (refl, (refl, tt))), ((refl, (refl, tt)), ((refl, tt), (tt, tt))))));
  movements_differ = ((refl, (refl, (refl, (refl, (refl, (refl, (refl, (refl, (refl, tt))))))))), ((refl, (refl, (refl, (refl, (refl, (refl, (refl, (refl, tt)))))))), ((refl, (refl, (refl, (refl, (refl, (refl, (refl, tt))))))), ((refl, (refl, (refl, (refl, (refl, (refl, tt)))))), ((refl, (refl, (refl, (refl, (refl, tt))))), ((refl, (refl, (refl, (refl, tt)))), ((refl, (refl, (refl, tt))), ((refl, (refl, tt)), ((refl, tt), (tt, tt))))))))));
  junctions_differ = ((refl, (refl, tt)), ((refl, tt), (tt, tt)));
}

pub three_acceptable : (rate : ℕ) → rate ≤ 39 → IsAcceptable (road_network 3 rate)
three_acceptable rate h = record { network = three_rules rate; range = three_range rate h; names = three_names rate }

-- the road through four junctions
four_rules : (rate : ℕ) → IsNetwork (road_network 4 rate)
unfolding IsDistinct
four_rules rate = record {
  shares = lit≤ tt;
  per = lit≤ tt;
  share = (lit≤ tt, (lit≤ tt, (lit≤ tt, (lit≤ tt, (lit≤ tt, (lit≤ tt, (lit≤ tt, (lit≤ tt, (lit≤ tt, (lit≤ tt, (lit≤ tt, (lit≤ tt, (lit≤ tt, (lit≤ tt, tt))))))))))))));
  flow = (lit≤ tt, (lit≤ tt, (lit≤ tt, (lit≤ tt, (lit≤ tt, (lit≤ tt, (lit≤ tt, (lit≤ tt, (lit≤ tt, (lit≤ tt, (lit≤ tt, (lit≤ tt, (lit≤ tt, (lit≤ tt, tt))))))))))))));
  some_stage = (lit≤ tt, (lit≤ tt, (lit≤ tt, (lit≤ tt, tt))));
  split = (refl, (refl, (refl, (refl, (refl, (refl, (refl, (refl, tt))))))));
  from = (refl, (refl, (refl, (refl, (refl, (refl, (refl, (refl, (refl, (refl, (refl, (refl, (refl, (refl, tt))))))))))))));
  to = (refl, (tt, (refl, (tt, (refl, (tt, (refl, (tt, (refl, (tt, (refl, (tt, (tt, (tt, tt))))))))))))));
  placed = (refl, (refl, (refl, (refl, (refl, (refl, (refl, (refl, (refl, (refl, (refl, (refl, (refl, (refl, tt))))))))))))));
  stages = (((((refl, tt), (tt, tt)), (refl, (refl, tt))), ((((refl, tt), (tt, tt)), (refl, (refl, tt))), tt)), (((((refl, tt), (tt, tt)), (refl, (refl, tt))), ((((refl, tt), (tt, tt)), (refl, (refl, tt))), tt)), (((((refl, tt), (tt, tt)), (refl, (refl, tt))), ((((refl, tt), (tt, tt)), (refl, (refl, tt))), tt)), ((((tt, tt), (refl, tt)), (((tt, tt), (refl, tt)), tt)), tt))));
  together = (((refl, (refl, tt)), ((refl, (refl, tt)), tt)), (((refl, (refl, tt)), ((refl, (refl, tt)), tt)), (((refl, (refl, tt)), ((refl, (refl, tt)), tt)), (((refl, (refl, tt)), ((refl, (refl, tt)), tt)), (((refl, (refl, tt)), ((refl, (refl, tt)), tt)), (((refl, (refl, tt)), ((refl, (refl, tt)), tt)), (((refl, tt), tt), (((refl, tt), tt), tt))))))));
  way_out = ((2 ∷ [], (refl, tt)), ((4 ∷ [], (refl, tt)), ((6 ∷ [], (refl, tt)), ((8 ∷ [], (refl, tt)), ((10 ∷ [], (refl, tt)), ((12 ∷ [], (refl, tt)), ((13 ∷ [], (refl, tt)), ((14 ∷ [], (refl, tt)), tt))))))));
}

four_range : (rate : ℕ) → rate ≤ 39 → IsInRange (road_network 4 rate)
four_range rate h = record {
  shares = lit≤ tt;
  per = lit≤ tt;
  links = (lit≤ tt, lit≤ tt);
  movements = (lit≤ tt, lit≤ tt);
  junctions = (lit≤ tt, lit≤ tt);
  bursts = (lit≤ tt, (lit≤ tt, (lit≤ tt, (lit≤ tt, (lit≤ tt, (lit≤ tt, (lit≤ tt, (lit≤ tt, tt))))))));
  rates = (omega arith, (lit≤ tt, (lit≤ tt, (lit≤ tt, (lit≤ tt, (lit≤ tt, (lit≤ tt, (lit≤ tt, tt))))))));
  flows = (lit≤ tt, (lit≤ tt, (lit≤ tt, (lit≤ tt, (lit≤ tt, (lit≤ tt, (lit≤ tt, (lit≤ tt, (lit≤ tt, (lit≤ tt, (lit≤ tt, (lit≤ tt, (lit≤ tt, (lit≤ tt, tt))))))))))))));
  starts = (lit≤ tt, (lit≤ tt, (lit≤ tt, (lit≤ tt, (lit≤ tt, (lit≤ tt, (lit≤ tt, (lit≤ tt, (lit≤ tt, (lit≤ tt, (lit≤ tt, (lit≤ tt, (lit≤ tt, (lit≤ tt, tt))))))))))))));
  delay = lit≤ tt;
  stages = (lit≤ tt, (lit≤ tt, (lit≤ tt, (lit≤ tt, tt))));
  own = (lit≤ tt, (lit≤ tt, (lit≤ tt, (lit≤ tt, tt))));
  some_fed = lit≤ tt;
}

four_names : (rate : ℕ) → HasNames (road_network 4 rate)
unfolding IsDistinct digits
four_names rate = record {
  links = ((refl, refl), ((refl, refl), ((refl, refl), ((refl, refl), ((refl, refl), ((refl, refl), ((refl, refl), ((refl, refl), tt))))))));
  movements = (refl, (refl, (refl, (refl, (refl, (refl, (refl, (refl, (refl, (refl, (refl, (refl, (refl, (refl, tt))))))))))))));
  junctions = (refl, (refl, (refl, (refl, tt))));
  links_differ = ((refl, (refl, (refl, (refl, (refl, (refl, (refl, tt))))))), ((refl, (refl, (refl, (refl, (refl, (refl, tt)))))), ((refl, (refl, (refl, (refl, (refl, tt))))), ((refl, (refl, (refl, (refl, tt)))), ((refl, (refl, (refl, tt))), ((refl, (refl, tt)), ((refl, tt), (tt, tt))))))));
  movements_differ = ((refl, (refl, (refl, (refl, (refl, (refl, (refl, (refl, (refl, (refl, (refl, (refl, (refl, tt))))))))))))), ((refl, (refl, (refl, (refl, (refl, (refl, (refl, (refl, (refl, (refl, (refl, (refl, tt)))))))))))), ((refl, (refl, (refl, (refl, (refl, (refl, (refl, (refl, (refl, (refl, (refl, tt))))))))))), ((refl, (refl, (refl, (refl, (refl, (refl, (refl, (refl, (refl, (refl, tt)))))))))), ((refl, (refl, (refl, (refl, (refl, (refl, (refl, (refl, (refl, tt))))))))), ((refl, (refl, (refl, (refl, (refl, (refl, (refl, (refl, tt)))))))), ((refl, (refl, (refl, (refl, (refl, (refl, (refl, tt))))))), ((refl, (refl, (refl, (refl, (refl, (refl, tt)))))), ((refl, (refl, (refl, (refl, (refl, tt))))), ((refl, (refl, (refl, (refl, tt)))), ((refl, (refl, (refl, tt))), ((refl, (refl, tt)), ((refl, tt), (tt, tt))))))))))))));
  junctions_differ = ((refl, (refl, (refl, tt))), ((refl, (refl, tt)), ((refl, tt), (tt, tt))));
}

pub four_acceptable : (rate : ℕ) → rate ≤ 39 → IsAcceptable (road_network 4 rate)
four_acceptable rate h = record { network = four_rules rate; range = four_range rate h; names = four_names rate }
