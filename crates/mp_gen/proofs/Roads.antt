-- Each demonstration network is one of these roads.
use Rattle.std.proofs.Common.{◌≡◌, ℕ, zero, suc, ◌+◌, ◌%◌, ◌≤◌, ◌<◌, List, [], refl, sym, ◌∙◌, ap, ap₂, subst, arith}
use Rattle.std.specs.List.{flat_map}
use Rattle.mp_model.specs.Certificate.{Cert, Certifies}
use Rattle.mp_model.specs.Network.{Network, Link, Movement, Junction, numbers_to}
use Rattle.mp_model.specs.NetworkRules.{IsAcceptable}
use Rattle.mp_gen.specs.DemoNetwork.{junction_count, first_rate, links_into, road_movements, road_junctions, road_network, demo_network}
use Rattle.mp_gen.specs.Demonstration.{greatest_queue}
use Rattle.mp_gen.proofs.RoadRules.{two_acceptable, three_acceptable, four_acceptable}
use Rattle.mp_gen.proofs.RoadCert.{road_cert, two_certified, three_certified, four_certified}

-- a number below 3 is 0, 1 or 2
below_three : (P : ℕ → Type 0) → P 0 → P 1 → P 2 → (m : ℕ) → m < 3 → P m
below_three P none one two zero low = none
below_three P none one two (suc zero) low = one
below_three P none one two (suc (suc zero)) low = two
below_three P none one two (suc (suc (suc m))) low = absurd (omega arith)

low_rate : (n : ℕ) → first_rate n ≤ 39
low_rate n = omega arith

pub demo_acceptable : (n : ℕ) → IsAcceptable (demo_network n)
demo_acceptable n =
    below_three (λ m. IsAcceptable (road_network (2 + m) (first_rate n))) (two_acceptable (first_rate n) (low_rate n)) (three_acceptable (first_rate n) (low_rate n)) (four_acceptable (first_rate n) (low_rate n)) (n % 3) (omega arith)

-- these links, movements and junctions are those of a demonstration network
pub parts_acceptable : (n count rate : ℕ) (links : List Link) (movements : List Movement) (junctions : List Junction) → count ≡ junction_count n → rate ≡ first_rate n
    → links ≡ flat_map (links_into rate) (numbers_to count) → movements ≡ road_movements count → junctions ≡ road_junctions count → IsAcceptable (record { shares = 10; per = 20; delay = 0; links = links; movements = movements; junctions = junctions })
parts_acceptable n count rate links movements junctions count_is rate_is links_are movements_are junctions_are =
    let net : Network = record { shares = 10; per = 20; delay = 0; links = links; movements = movements; junctions = junctions } in
    let same : net ≡ demo_network n =
    ap (λ (xs : List Link). record net { links = xs }) links_are ∙ ap (λ (xs : List Movement). record (road_network count rate) { movements = xs; junctions = junctions }) movements_are
    ∙ ap (λ (xs : List Junction). record (road_network count rate) { junctions = xs }) junctions_are ∙ ap₂ road_network count_is rate_is in
    subst IsAcceptable (sym same) (demo_acceptable n)

-- nothing is queued when a demonstration starts
pub none_at_start : (n : ℕ) → 0 ≡ greatest_queue (demo_network n) []
none_at_start n = below_three (λ m. 0 ≡ greatest_queue (road_network (2 + m) (first_rate n)) []) refl refl refl (n % 3) (omega arith)

pub demo_certified : (n : ℕ) → (cert : Cert) × Certifies (demo_network n) cert
demo_certified n =
    below_three (λ m. (cert : Cert) × Certifies (road_network (2 + m) (first_rate n)) cert) (road_cert 2, two_certified (first_rate n) (low_rate n)) (road_cert 3, three_certified (first_rate n) (low_rate n)) (road_cert 4, four_certified (first_rate n) (low_rate n)) (n % 3) (omega arith)
