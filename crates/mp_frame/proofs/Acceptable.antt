-- Where no fault is found, the frame network can be accepted.
use Rattle.std.proofs.Common.{◌≡◌, ℕ, zero, suc, ◌-◌, ◌*◌, ◌≤◌, Bool, true, false, cond, ◌||◌, nat_lt, List, [], ◌∷◌, length, map, filter, get_or, find, Option, Some, None, option_map, arith, refl, sym, ◌∙◌, ap, ap₂, subst, le_refl, mul-le-mul}
use Rattle.std.specs.List.{AllByRecursion, IsDistinct}
use Rattle.std.specs.Str.{bytes_eq}
use Rattle.std.proofs.lemmas.Bool.{le-ltb, lt-ltb, ltb-false, ltb-true}
use Rattle.std.proofs.lemmas.List.{length-map}
use Rattle.mp_framed.proofs.Networks.{frame_is_network}
use Rattle.mp_laws.proofs.Lists.{AllOf-map, find_none, from_numbers}
use Rattle.mp_model.specs.Frames.{frame_link, frame_network}
use Rattle.mp_model.specs.Names.{is_name, is_out}
use Rattle.mp_model.specs.Network.{Network, Link, Movement, Junction, fed, is_fed, link_at, link_numbers, no_link, numbers_to}
use Rattle.mp_model.specs.NetworkRules.{IsAcceptable}
use Rattle.mp_frame.specs.FrameNet.{frame_fault, is_fast, is_long}
use Rattle.mp_frame.specs.declared.fault.FrameFault.TheVariants.{Per, Rate}

unfaulted : (b : Bool) (o : Option ℕ) → cond b (Some Per) (option_map Rate o) ≡ None → (b ≡ false) × (o ≡ None)
unfaulted true o e = cc
unfaulted false None e = (refl, refl)
unfaulted false (Some l) e = cc

-- what holds of each framed link of a list holds of the framed list
all_mapped : (P : Link → Type 0) (F : ℕ) (links : List Link) → AllByRecursion (λ link. P (frame_link F link)) links → AllByRecursion P (map (frame_link F) links)
all_mapped P F [] h = tt
all_mapped P F (link ∷ links) h = (h.0, all_mapped P F links h.1)

names_same : (F : ℕ) (links : List Link) → map (λ link. link.name) (map (frame_link F) links) ≡ map (λ link. link.name) links
names_same F [] = refl
names_same F (link ∷ links) = ap (λ names. link.name ∷ names) (names_same F links)

-- a link is fed as before
above_same : (F rate : ℕ) → 1 ≤ F → nat_lt 0 (F * rate) ≡ nat_lt 0 rate
above_same F rate some = at (nat_lt 0 rate) refl
  where
    at : (b : Bool) → nat_lt 0 rate ≡ b → nat_lt 0 (F * rate) ≡ b
    at true e = lt-ltb 0 (F * rate) (omega (arith, mul-le-mul some (ltb-true 0 rate e)))
    at false e = let none : rate ≡ 0 = omega (arith, ltb-false 0 rate e) in le-ltb 0 (F * rate) (omega (arith, ap (λ n. F * n) none))

fed_at : (F : ℕ) → 1 ≤ F → (links : List Link) (i : ℕ) → is_fed (get_or (map (frame_link F) links) i no_link) ≡ is_fed (get_or links i no_link)
fed_at F some [] i = refl
fed_at F some (link ∷ links) zero = ap (λ b. nat_lt 0 link.burst || b) (above_same F link.rate some)
fed_at F some (link ∷ links) (suc i) = fed_at F some links i

filter_same : (p p' : ℕ → Bool) → ((k : ℕ) → p' k ≡ p k) → (ks : List ℕ) → filter p' ks ≡ filter p ks
filter_same p p' same [] = refl
filter_same p p' same (k ∷ ks) = ap₂ (λ b rest. cond b (k ∷ rest) rest) (same k) (filter_same p p' same ks)

-- the fed links are those of the network
pub fed_same : (net : Network) (F : ℕ) → 1 ≤ F → fed (frame_network net F) ≡ fed net
fed_same net F some =
    filter_same (λ l. is_fed (link_at net l)) (λ l. is_fed (link_at (frame_network net F) l)) (λ l. fed_at F some net.links (l - 1)) (link_numbers (frame_network net F))
    ∙ ap (λ n. filter (λ l. is_fed (link_at net l)) (numbers_to n)) (length-map net.links (frame_link F))

pub framed_acceptable : (net : Network) → IsAcceptable net → (F : ℕ) → 2 ≤ F → frame_fault net F ≡ None → IsAcceptable (frame_network net F)
framed_acceptable net ok F two none =
    let parts = unfaulted (is_long net F) (find (is_fast net F) (link_numbers net)) none in
    let n : length (map (frame_link F) net.links) ≡ length net.links = length-map net.links (frame_link F) in
    let slow = find_none (is_fast net F) (link_numbers net) parts.1 in
    let links = ok.range.links in
    let rates : AllByRecursion (λ (link : Link). F * link.rate ≤ 1000 * ((F - 1) * net.per)) net.links =
    from_numbers (λ (link : Link). F * link.rate ≤ 1000 * ((F - 1) * net.per)) no_link (length net.links) net.links (le_refl (length net.links))
    (AllOf-map (λ l. is_fast net F l ≡ false) (λ l. F * (link_at net l).rate ≤ 1000 * ((F - 1) * net.per)) (λ l e. ltb-false (1000 * ((F - 1) * net.per)) (F * (link_at net l).rate) e) (link_numbers net) slow) in
    let fed_some = ok.range.some_fed in
    record {
      network = frame_is_network net ok.network F two;
      range = record {
        shares = ok.range.shares;
        per = ltb-false 3600 ((F - 1) * net.per) parts.0;
        links = (omega arith, omega arith);
        movements = ok.range.movements;
        junctions = ok.range.junctions;
        bursts = all_mapped (λ link. link.burst ≤ 10000) F net.links ok.range.bursts;
        rates = all_mapped (λ link. link.rate ≤ 1000 * ((F - 1) * net.per)) F net.links rates;
        flows = ok.range.flows;
        starts = ok.range.starts;
        delay = ok.range.delay;
        stages = ok.range.stages;
        own = ok.range.own;
        some_fed = subst (λ ls. 1 ≤ length ls) (sym (fed_same net F (omega arith))) fed_some;
      };
      names = record {
        links = all_mapped (λ link. (is_name link.name ≡ true) × (is_out link.name ≡ false)) F net.links ok.names.links;
        movements = ok.names.movements;
        junctions = ok.names.junctions;
        links_differ = subst (IsDistinct bytes_eq) (sym (names_same F net.links)) ok.names.links_differ;
        movements_differ = ok.names.movements_differ;
        junctions_differ = ok.names.junctions_differ;
      };
    }

abbrev network_from : ℕ → ℕ → ℕ → List Link → List Movement → List Junction → Network
network_from shares per delay links movements junctions = record { shares = shares; per = per; delay = delay; links = links; movements = movements; junctions = junctions }

-- and so can parts that are its parts
pub parts_acceptable : (net : Network) → IsAcceptable net → (F : ℕ) → 2 ≤ F → frame_fault net F ≡ None → (shares per delay : ℕ) (links : List Link) (movements : List Movement) (junctions : List Junction) →
    shares ≡ net.shares → per ≡ (F - 1) * net.per → delay ≡ net.delay → links ≡ map (frame_link F) net.links → movements ≡ net.movements → junctions ≡ net.junctions →
    IsAcceptable (network_from shares per delay links movements junctions)
parts_acceptable net ok F two none shares per delay links movements junctions a b c d e f =
    let same : network_from shares per delay links movements junctions ≡ frame_network net F =
    ap₂ (λ s p. network_from s p delay links movements junctions) a b ∙ ap₂ (λ s ls. network_from net.shares ((F - 1) * net.per) s ls movements junctions) c d
    ∙ ap₂ (λ ms js. network_from net.shares ((F - 1) * net.per) net.delay (map (frame_link F) net.links) ms js) e f in
    subst IsAcceptable (sym same) (framed_acceptable net ok F two none)
