-- What the rules on numbers say of a network.
use Rattle.std.proofs.Common.{◌≡◌, ◌||◌, ℕ, ◌*◌, ◌≤◌, Bool, true, false, nat_lt, length, Option, None, refl, arith}
use Rattle.std.specs.List.{AllByRecursion, find}
use Rattle.std.proofs.lemmas.Bool.Decides.{nat_tests}
use Rattle.mp_model.specs.Network.{Network, Link, Movement, Junction, link_at, junction_at, share_of, flow_of, start_of, no_link, no_movement, no_junction, link_numbers, movement_numbers, junction_numbers, has}
use Rattle.mp_net.specs.NumberRules.{outside, top_has_bad_number, link_has_bad_number, movement_has_bad_number, junction_has_bad_number, bad_number}
use Rattle.mp_net.proofs.Broken.{no_spot, spot_none}
use Rattle.mp_net.proofs.Lists.{none_passes, nothing_found, all_each, each_all, or_none}
use Rattle.mp_net.proofs.Places.{entries_from_numbers, entry_at}

-- the numbers of a network are in their ranges
pub record HasNumbers (net : Network) : Type 0 where
  pub shares : (1 ≤ net.shares) × (net.shares ≤ 1000)
  pub per : (1 ≤ net.per) × (net.per ≤ 3600)
  pub links : (1 ≤ length net.links) × (length net.links ≤ 128)
  pub movements : (1 ≤ length net.movements) × (length net.movements ≤ 512)
  pub junctions : (1 ≤ length net.junctions) × (length net.junctions ≤ 64)
  pub bursts : AllByRecursion (λ link. link.burst ≤ 10000) net.links
  pub rates : AllByRecursion (λ link. link.rate ≤ 1000 * net.per) net.links
  pub share : AllByRecursion (λ k. 1 ≤ share_of net k) (movement_numbers net)
  pub few_shares : AllByRecursion (λ k. share_of net k ≤ net.shares) (movement_numbers net)
  pub flow : AllByRecursion (λ k. 1 ≤ flow_of net k) (movement_numbers net)
  pub flows : AllByRecursion (λ movement. movement.flow ≤ 1000) net.movements
  pub starts : AllByRecursion (λ movement. movement.start ≤ 1000000) net.movements
  pub delay : net.delay ≤ 60
  pub some_stage : AllByRecursion (λ j. 1 ≤ length j.stages) net.junctions
  pub stages : AllByRecursion (λ j. length j.stages ≤ 16) net.junctions

within : (low high n : ℕ) → outside low high n ≡ false → (low ≤ n) × (n ≤ high)
within low high n h = let p = or_none (nat_lt n low) (nat_lt high n) h in let a : nat_lt n low ≡ false = p.0 in let b : nat_lt high n ≡ false = p.1 in (grind (arith, nat_tests), grind (arith, nat_tests))

inside : (low high n : ℕ) → low ≤ n → n ≤ high → outside low high n ≡ false
inside low high n a b = let x : nat_lt n low ≡ false = grind (arith, nat_tests) in let y : nat_lt high n ≡ false = grind (arith, nat_tests) in rw (x, y)

inside_top : (low high n : ℕ) → n ≤ high → low ≡ 0 → outside low high n ≡ false
inside_top low high n a z = inside low high n (omega arith) a

module _ (net : Network) where
  abbrev top : Bool
  top = top_has_bad_number net

  abbrev link_found : Option ℕ
  link_found = find (link_has_bad_number net) (link_numbers net)

  abbrev movement_found : Option ℕ
  movement_found = find (movement_has_bad_number net) (movement_numbers net)

  abbrev junction_found : Option ℕ
  junction_found = find (junction_has_bad_number net) (junction_numbers net)

  link_in : bad_number net ≡ None → (l : ℕ) → has (link_numbers net) l ≡ true → ((link_at net l).burst ≤ 10000) × ((link_at net l).rate ≤ 1000 * net.per)
  link_in none l h =
      let p = or_none (outside 0 10000 (link_at net l).burst) (outside 0 (1000 * net.per) (link_at net l).rate)
      (none_passes (link_has_bad_number net) (link_numbers net) l (no_spot top link_found movement_found junction_found none).1 h) in
      ((within 0 10000 (link_at net l).burst p.0).1, (within 0 (1000 * net.per) (link_at net l).rate p.1).1)

  movement_in : bad_number net ≡ None → (k : ℕ) → has (movement_numbers net) k ≡ true → (1 ≤ share_of net k) × (share_of net k ≤ net.shares) × (1 ≤ flow_of net k) × (flow_of net k ≤ 1000) × (start_of net k ≤ 1000000)
  movement_in none k h =
      let d = or_none (outside 1 net.shares (share_of net k) || outside 1 1000 (flow_of net k)) (outside 0 1000000 (start_of net k))
      (none_passes (movement_has_bad_number net) (movement_numbers net) k (no_spot top link_found movement_found junction_found none).2 h) in
      let p = or_none (outside 1 net.shares (share_of net k)) (outside 1 1000 (flow_of net k)) d.0 in
      let a = within 1 net.shares (share_of net k) p.0 in
      let b = within 1 1000 (flow_of net k) p.1 in
      (a.0, a.1, b.0, b.1, (within 0 1000000 (start_of net k) d.1).1)

  junction_in : bad_number net ≡ None → (j : ℕ) → has (junction_numbers net) j ≡ true → (1 ≤ length (junction_at net j).stages) × (length (junction_at net j).stages ≤ 16)
  junction_in none j h =
      within 1 16 (length (junction_at net j).stages) (none_passes (junction_has_bad_number net) (junction_numbers net) j (no_spot top link_found movement_found junction_found none).3 h)

  top_in : bad_number net ≡ None → ((1 ≤ net.shares) × (net.shares ≤ 1000)) × ((1 ≤ net.per) × (net.per ≤ 3600)) × (net.delay ≤ 60) × ((1 ≤ length net.links) × (length net.links ≤ 128)) × ((1 ≤ length net.movements) × (length net.movements ≤ 512)) × ((1 ≤ length net.junctions) × (length net.junctions ≤ 64))
  top_in none =
      let shares = outside 1 1000 net.shares in
      let per = outside 1 3600 net.per in
      let delay = outside 0 60 net.delay in
      let links = outside 1 128 (length net.links) in
      let movements = outside 1 512 (length net.movements) in
      let junctions = outside 1 64 (length net.junctions) in
      let d = or_none (shares || per || delay || links || movements) junctions (no_spot top link_found movement_found junction_found none).0 in
      let c = or_none (shares || per || delay || links) movements d.0 in
      let b = or_none (shares || per || delay) links c.0 in
      let e = or_none (shares || per) delay b.0 in
      let a = or_none shares per e.0 in
      (within 1 1000 net.shares a.0, within 1 3600 net.per a.1, (within 0 60 net.delay e.1).1, within 1 128 (length net.links) b.1, within 1 512 (length net.movements) c.1, within 1 64 (length net.junctions) d.1)

pub its_numbers : (net : Network) → bad_number net ≡ None → HasNumbers net
its_numbers net none =
    let top = top_in net none in
    record {
      shares = top.0;
      per = top.1;
      delay = top.2;
      links = top.3;
      movements = top.4;
      junctions = top.5;
      bursts = entries_from_numbers (λ (link : Link). link.burst ≤ 10000) net.links no_link (λ l h. (link_in net none l h).0);
      rates = entries_from_numbers (λ (link : Link). link.rate ≤ 1000 * net.per) net.links no_link (λ l h. (link_in net none l h).1);
      share = each_all (λ k. 1 ≤ share_of net k) (movement_numbers net) (λ k h. (movement_in net none k h).0);
      few_shares = each_all (λ k. share_of net k ≤ net.shares) (movement_numbers net) (λ k h. (movement_in net none k h).1);
      flow = each_all (λ k. 1 ≤ flow_of net k) (movement_numbers net) (λ k h. (movement_in net none k h).2);
      flows = entries_from_numbers (λ (movement : Movement). movement.flow ≤ 1000) net.movements no_movement (λ k h. (movement_in net none k h).3);
      starts = entries_from_numbers (λ (movement : Movement). movement.start ≤ 1000000) net.movements no_movement (λ k h. (movement_in net none k h).4);
      some_stage = entries_from_numbers (λ (j : Junction). 1 ≤ length j.stages) net.junctions no_junction (λ j h. (junction_in net none j h).0);
      stages = entries_from_numbers (λ (j : Junction). length j.stages ≤ 16) net.junctions no_junction (λ j h. (junction_in net none j h).1);
    }

neither : (a b : Bool) → a ≡ false → b ≡ false → (a || b) ≡ false
neither a b x y = rw (x, y)

pub no_bad_number : (net : Network) → HasNumbers net → bad_number net ≡ None
no_bad_number net h =
    let top : top_has_bad_number net ≡ false =
    neither _ _ (neither _ _ (neither _ _ (neither _ _ (neither _ _ (inside 1 1000 net.shares h.shares.0 h.shares.1) (inside 1 3600 net.per h.per.0 h.per.1)) (inside_top 0 60 net.delay h.delay refl)) (inside 1 128 (length net.links) h.links.0 h.links.1)) (inside 1 512 (length net.movements) h.movements.0 h.movements.1))
    (inside 1 64 (length net.junctions) h.junctions.0 h.junctions.1) in
    let links : find (link_has_bad_number net) (link_numbers net) ≡ None = nothing_found (link_has_bad_number net) (link_numbers net) (λ l i.
    neither _ _ (inside_top 0 10000 (link_at net l).burst (entry_at (λ (link : Link). link.burst ≤ 10000) net.links no_link l h.bursts i) refl)
    (inside_top 0 (1000 * net.per) (link_at net l).rate (entry_at (λ (link : Link). link.rate ≤ 1000 * net.per) net.links no_link l h.rates i) refl)) in
    let movements : find (movement_has_bad_number net) (movement_numbers net) ≡ None = nothing_found (movement_has_bad_number net) (movement_numbers net) (λ k i.
    neither _ _ (neither _ _ (inside 1 net.shares (share_of net k) (all_each (λ m. 1 ≤ share_of net m) (movement_numbers net) k h.share i) (all_each (λ m. share_of net m ≤ net.shares) (movement_numbers net) k h.few_shares i))
    (inside 1 1000 (flow_of net k) (all_each (λ m. 1 ≤ flow_of net m) (movement_numbers net) k h.flow i) (entry_at (λ (movement : Movement). movement.flow ≤ 1000) net.movements no_movement k h.flows i))) (inside_top 0 1000000 (start_of net k) (entry_at (λ (movement : Movement). movement.start ≤ 1000000) net.movements no_movement k h.starts i) refl)) in
    let junctions : find (junction_has_bad_number net) (junction_numbers net) ≡ None = nothing_found (junction_has_bad_number net) (junction_numbers net) (λ j i.
    inside 1 16 (length (junction_at net j).stages) (entry_at (λ (junction : Junction). 1 ≤ length junction.stages) net.junctions no_junction j h.some_stage i) (entry_at (λ (junction : Junction). length junction.stages ≤ 16) net.junctions no_junction j h.stages i)) in
    spot_none (top_has_bad_number net) (find (link_has_bad_number net) (link_numbers net)) (find (movement_has_bad_number net) (movement_numbers net)) (find (junction_has_bad_number net) (junction_numbers net)) top links movements junctions
