-- The laws of the vector.
use Rattle.std.proofs.Common.{◌≡◌, ℕ, zero, suc, ◌+◌, ◌-◌, ◌*◌, sum_by, pos, negsuc, ◌-ℤ◌, arith}
use Rattle.std.proofs.lemmas.Int.{ints}
use Rattle.mp_model.specs.Network.{link_numbers, movement_numbers, share_of, out_of, entry}
use Rattle.mp_model.specs.Pressure.{weight, queued_downstream}
use Rattle.mp_model.specs.Load.{load, capacity}
use Rattle.mp_laws.proofs.Lists.{each_in}
use Rattle.mp_verdict.specs.Worst.{against}
use Rattle.mp_verdict.specs.VectorLaws.{FactsLaw, VectorLaw, SignLaw}
use Rattle.mp_verdict.proofs.Facts.{fact1, fact2, fact3, fact4}
use Rattle.mp_verdict.proofs.Capacity.{fact5}
use Rattle.mp_verdict.proofs.Vector.{vector_shows, shows_critical, shows_overloaded, slack_numbers}
use Rattle.mp_verdict.proofs.Reduce.{reduced_shows}

weight_numbers : (a b c : ℕ) → a ≡ b + c → pos a -ℤ pos b ≡ pos c
weight_numbers a b c e = omega (arith, ints)

pub facts : FactsLaw
facts net ok c d f g Z x flow worth = record {
  queued = each_in (λ l. sum_by (λ k. share_of net k * against net d Z x k) (out_of net l) ≡ net.shares * x l) (link_numbers net) (fact1 net ok d Z x worth);
  weights = each_in (λ k. weight net (against net d Z x) k ≡ pos (net.shares * d * Z k)) (movement_numbers net)
      (λ k h. weight_numbers (net.shares * against net d Z x k) (queued_downstream net (against net d Z x) k) (net.shares * d * Z k) (fact2 net ok d Z x worth k h));
  loaded = fact3 net ok d Z x worth c f g flow;
  summed = fact4 net ok d Z x worth c f g flow;
  passed = λ j some most outside. fact5 net ok d Z x worth (j - 1) (omega (arith, some, most)) outside;
}

pub shows : VectorLaw
shows net ok c d f g Z x j z e q flow worth worst p r = reduced_shows net ok r.factor r.some (against net d Z x) p r.at e q (vector_shows net ok c d f g Z x j z e q flow worth worst)

pub by_sign : SignLaw
by_sign net ok p long (pos zero) q some s = record { vector = record { lengths = long; some = s.some }; equal = shows_critical net (entry p) q some s }
by_sign net ok p long (pos (suc n)) q some s =
    let t = slack_numbers (pos (suc n)) q (net.per * capacity net (entry p)) (load net (entry p)) (net.shares * net.per * sum_by (entry p) (movement_numbers net)) s.equal in
    record { vector = record { lengths = long; some = s.some }; equal = omega (arith, ints, t) }
by_sign net ok p long (negsuc n) q some s = record { vector = record { lengths = long; some = s.some }; above = shows_overloaded net (entry p) n q ok.shares ok.per s }
