-- The frame network is a network, and its load is F times that of the network.
use Rattle.std.proofs.Common.{◌≡◌, ℕ, zero, suc, ◌-◌, ◌*◌, ◌≤◌, List, [], ◌∷◌, length, get_or, map, sum_by, true, IfSome, arith, refl, sym, ◌∙◌, ap, subst, mul-le-mul, mul-zero}
use Rattle.std.specs.List.{AllByRecursion}
use Rattle.std.proofs.lemmas.List.{length-map}
use Rattle.mp_laws.proofs.Sums.{sum_by-mul, sum_by-same}
use Rattle.mp_model.specs.Frames.{frame_link, frame_network}
use Rattle.mp_model.specs.Load.{load}
use Rattle.mp_model.specs.Network.{Network, Link, movement_numbers, no_link, numbers_to, from_of, to_of, out_of, has, share_of, rate_before}
use Rattle.mp_model.specs.NetworkRules.{IsTogether}
use Rattle.mp_model.specs.WayOut.{HasWayOut}
use Rattle.mp_framed.specs.Frames.{FrameNetworkLaw}

-- what holds of each link holds of each link of the frame network
over_links : (net : Network) (F : ℕ) (P : List ℕ → Type 0) → P (numbers_to (length net.links)) → P (numbers_to (length (map (frame_link F) net.links)))
over_links net F P h = subst (λ n. P (numbers_to n)) (sym (length-map net.links (frame_link F))) h

pub frame_is_network : FrameNetworkLaw
frame_is_network net ok F two =
    record {
      shares = ok.shares;
      per = let one : 1 ≤ F - 1 = omega arith in mul-le-mul one ok.per;
      share = ok.share;
      flow = ok.flow;
      some_stage = ok.some_stage;
      split = over_links net F (AllByRecursion (λ l. sum_by (share_of net) (out_of net l) ≡ net.shares)) ok.split;
      from = over_links net F (λ ls. AllByRecursion (λ k. has ls (from_of net k) ≡ true) (movement_numbers net)) ok.from;
      to = over_links net F (λ ls. AllByRecursion (λ k. IfSome (to_of net k) (λ l. has ls l ≡ true)) (movement_numbers net)) ok.to;
      placed = ok.placed;
      stages = ok.stages;
      together = over_links net F (AllByRecursion (IsTogether net)) ok.together;
      way_out = over_links net F (AllByRecursion (HasWayOut net)) ok.way_out;
    }

-- each rate is F times the rate
rate_at : (F : ℕ) (links : List Link) (i : ℕ) → (get_or (map (frame_link F) links) i no_link).rate ≡ F * (get_or links i no_link).rate
rate_at F [] i = sym (mul-zero F)
rate_at F (link ∷ links) zero = refl
rate_at F (link ∷ links) (suc i) = rate_at F links i

load_term : (F a r r' : ℕ) → r' ≡ F * r → a * r' ≡ F * (a * r)
load_term F a r r' e = omega (arith, ap (λ n. a * n) e)

pub frame_load : (net : Network) (F : ℕ) (p : ℕ → ℕ) → load (frame_network net F) p ≡ F * load net p
frame_load net F p =
    sum_by-same (λ k. p k * share_of net k * rate_before (frame_network net F) k) (λ k. F * (p k * share_of net k * rate_before net k))
    (λ k. load_term F (p k * share_of net k) (rate_before net k) (rate_before (frame_network net F) k) (rate_at F net.links (from_of net k - 1))) (movement_numbers net)
    ∙ sum_by-mul F (λ k. p k * share_of net k * rate_before net k) (movement_numbers net)
