-- The rules of a guard, tried one after another.
use Rattle.std.proofs.Common.{◌≡◌, ◌↔◌, ℕ, ◌+◌, ◌-◌, ◌<◌, ◌≤◌, IsOk, List, [], ◌∷◌, ◌++◌, map, flat_map, length, take, drop, get_or, Result, Ok, Err, refl, sym, ◌∙◌, ap, subst, arith}
use Rattle.std.specs.List.{AllByRecursion}
use Rattle.std.proofs.lemmas.List.{append_assoc, append-nil, take-append-drop, drop_more, take_more, take_all}
use Rattle.std.proofs.lemmas.List.FromFn.{length-range_with_len}
use Rattle.std.proofs.lemmas.Grind.{flat_map-append}
use Rattle.mp_cert.proofs.CheckLaw.{all_split, all_join, all_map, all_unmap, all_parts, all_whole}
use Rattle.mp_cert.proofs.RunLemmas.{number_at}
use Rattle.mp_laws.proofs.Lists.{AllOf-map, at_in, at_index, each_in, from_numbers}
use Rattle.mp_model.specs.Guard.{Guard, Guards, HasGuardLengths, GreenRule, greens_at}
use Rattle.mp_model.specs.Network.{Network, numbers_to, movement_numbers, junction_numbers, stage_numbers, junction_at}
use Rattle.mp_guard.specs.Checking.{Keeps, IsFirstBroken, Tries, HasNumbers, HasRates, HasGreens, green_rules, rules_of}
use Rattle.mp_guard.specs.declared.fault.GuardFault.{GuardFault}
use Rattle.mp_guard.specs.declared.fault.GuardFault.TheVariants.{Cycle, Lost, D, H, Green, Mass, Balance, Serve}

abbrev pub Outcome : Type 0
Outcome = Result (Unit {0}) GuardFault

module _ (net : Network) (guard : Guard) where
  pub broken_one : (fault : GuardFault) → ¬ Keeps net guard fault → IsFirstBroken net guard (fault ∷ []) fault
  broken_one fault broken = record { earlier = []; later = []; order = refl; kept = tt; broken = broken }

  pub placed : (front mid back : List GuardFault) (fault : GuardFault) → AllByRecursion (Keeps net guard) front → IsFirstBroken net guard mid fault → IsFirstBroken net guard (front ++ (mid ++ back)) fault
  placed front mid back fault kept first = record {
    earlier = front ++ first.earlier;
    later = first.later ++ back;
    order = ap (λ xs. front ++ (xs ++ back)) first.order ∙ (let e : front ++ ((first.earlier ++ fault ∷ first.later) ++ back) ≡ (front ++ first.earlier) ++ fault ∷ (first.later ++ back) = simp append_assoc in e);
    kept = all_join (Keeps net guard) front first.earlier kept first.kept;
    broken = first.broken;
  }

  -- the rules of the first numbers are kept
  pub record Trying (rules : ℕ → List GuardFault) (n i : ℕ) : Type 0 where
    pub kept : AllByRecursion (Keeps net guard) (flat_map rules (take i (numbers_to n)))

  pub trying_start : (rules : ℕ → List GuardFault) (n : ℕ) → Trying rules n 0
  trying_start rules n = record { kept = tt }

  longer : (rules : ℕ → List GuardFault) (n i : ℕ) → i < n → flat_map rules (take (i + 1) (numbers_to n)) ≡ flat_map rules (take i (numbers_to n)) ++ (rules (i + 1) ++ [])
  longer rules n i within =
      ap (flat_map rules) (take_more (numbers_to n) i 0 (omega (arith, length-range_with_len 1 n)))
      ∙ flat_map-append rules (take i (numbers_to n)) (get_or (numbers_to n) i 0 ∷ [])
      ∙ ap (λ k. flat_map rules (take i (numbers_to n)) ++ (rules k ++ [])) (number_at n i within)

  pub trying_more : (rules : ℕ → List GuardFault) (n i : ℕ) → Trying rules n i → i < n → AllByRecursion (Keeps net guard) (rules (i + 1)) → Trying rules n (i + 1)
  trying_more rules n i t within here = record {
    kept = subst (AllByRecursion (Keeps net guard)) (sym (longer rules n i within))
        (all_join (Keeps net guard) (flat_map rules (take i (numbers_to n))) (rules (i + 1) ++ []) t.kept (all_join (Keeps net guard) (rules (i + 1)) [] here tt));
  }

  pub trying_fails : (rules : ℕ → List GuardFault) (n i : ℕ) (fault : GuardFault) → Trying rules n i → i < n → IsFirstBroken net guard (rules (i + 1)) fault → IsFirstBroken net guard (flat_map rules (numbers_to n)) fault
  trying_fails rules n i fault t within first =
      let whole : flat_map rules (numbers_to n) ≡ flat_map rules (take i (numbers_to n)) ++ (rules (i + 1) ++ flat_map rules (drop (i + 1) (numbers_to n))) =
      ap (flat_map rules) (sym (take-append-drop i (numbers_to n)) ∙ ap (λ rest. take i (numbers_to n) ++ rest) (drop_more (numbers_to n) i 0 (omega (arith, length-range_with_len 1 n))))
      ∙ flat_map-append rules (take i (numbers_to n)) (get_or (numbers_to n) i 0 ∷ drop (i + 1) (numbers_to n))
      ∙ ap (λ k. flat_map rules (take i (numbers_to n)) ++ (rules k ++ flat_map rules (drop (i + 1) (numbers_to n)))) (number_at n i within) in
      subst (λ rs. IsFirstBroken net guard rs fault) (sym whole) (placed (flat_map rules (take i (numbers_to n))) (rules (i + 1)) (flat_map rules (drop (i + 1) (numbers_to n))) fault t.kept first)

  pub trying_end : (rules : ℕ → List GuardFault) (n i : ℕ) → Trying rules n i → n ≤ i → AllByRecursion (Keeps net guard) (flat_map rules (numbers_to n))
  trying_end rules n i t past = subst (λ xs. AllByRecursion (Keeps net guard) (flat_map rules xs)) (take_all i (numbers_to n) (omega (arith, length-range_with_len 1 n))) t.kept

  -- the same where each number has one rule
  abbrev pub each : (ℕ → GuardFault) → ℕ → List GuardFault
  each rule = λ k. rule k ∷ []

  pub as_map : (rule : ℕ → GuardFault) (ks : List ℕ) → flat_map (each rule) ks ≡ map rule ks
  as_map rule [] = refl
  as_map rule (k ∷ ks) = ap (λ rs. rule k ∷ rs) (as_map rule ks)

  pub each_fails : (rule : ℕ → GuardFault) (n i : ℕ) (fault : GuardFault) → Trying (each rule) n i → i < n → IsFirstBroken net guard (rule (i + 1) ∷ []) fault → IsFirstBroken net guard (map rule (numbers_to n)) fault
  each_fails rule n i fault t within first = subst (λ rs. IsFirstBroken net guard rs fault) (as_map rule (numbers_to n)) (trying_fails (each rule) n i fault t within first)

  pub each_end : (rule : ℕ → GuardFault) (n i : ℕ) → Trying (each rule) n i → n ≤ i → AllByRecursion (Keeps net guard) (map rule (numbers_to n))
  each_end rule n i t past = subst (AllByRecursion (Keeps net guard)) (as_map rule (numbers_to n)) (trying_end (each rule) n i t past)

  -- ---- all rules, section by section
  abbrev Kept : List GuardFault → Type 0
  Kept rules = AllByRecursion (Keeps net guard) rules

  abbrev First : List GuardFault → GuardFault → Type 0
  First rules fault = IsFirstBroken net guard rules fault

  earlier_fails : (xs ys : List GuardFault) (fault : GuardFault) → First xs fault → First (xs ++ ys) fault
  earlier_fails xs ys fault first = placed [] xs ys fault tt first

  later_fails : (xs ys : List GuardFault) (fault : GuardFault) → Kept xs → First ys fault → First (xs ++ ys) fault
  later_fails xs ys fault kept first = subst (λ rs. First (xs ++ rs) fault) (append-nil ys) (placed xs ys [] fault kept first)

  abbrev numbers : List GuardFault
  numbers = Cycle ∷ Lost ∷ D ∷ []

  abbrev rates : List GuardFault
  rates = map H (movement_numbers net)

  abbrev greens : List GuardFault
  greens = flat_map (green_rules net) (junction_numbers net)

  abbrev masses : List GuardFault
  masses = map Mass (junction_numbers net)

  abbrev balances : List GuardFault
  balances = map Balance (movement_numbers net)

  abbrev serves : List GuardFault
  serves = map Serve (movement_numbers net)

  pub numbers_fail : (fault : GuardFault) → First numbers fault → First (rules_of net) fault
  numbers_fail fault f = earlier_fails ((((numbers ++ rates) ++ greens) ++ masses) ++ balances) serves fault (earlier_fails (((numbers ++ rates) ++ greens) ++ masses) balances fault
      (earlier_fails ((numbers ++ rates) ++ greens) masses fault (earlier_fails (numbers ++ rates) greens fault (earlier_fails numbers rates fault f))))

  pub rates_fail : (fault : GuardFault) → Kept numbers → First rates fault → First (rules_of net) fault
  rates_fail fault n f = earlier_fails ((((numbers ++ rates) ++ greens) ++ masses) ++ balances) serves fault (earlier_fails (((numbers ++ rates) ++ greens) ++ masses) balances fault
      (earlier_fails ((numbers ++ rates) ++ greens) masses fault (earlier_fails (numbers ++ rates) greens fault (later_fails numbers rates fault n f))))

  pub greens_fail : (fault : GuardFault) → Kept numbers → Kept rates → First greens fault → First (rules_of net) fault
  greens_fail fault n r f = earlier_fails ((((numbers ++ rates) ++ greens) ++ masses) ++ balances) serves fault (earlier_fails (((numbers ++ rates) ++ greens) ++ masses) balances fault
      (earlier_fails ((numbers ++ rates) ++ greens) masses fault (later_fails (numbers ++ rates) greens fault (all_join (Keeps net guard) numbers rates n r) f)))

  to_greens : Kept numbers → Kept rates → Kept greens → Kept ((numbers ++ rates) ++ greens)
  to_greens n r g = all_join (Keeps net guard) (numbers ++ rates) greens (all_join (Keeps net guard) numbers rates n r) g

  pub masses_fail : (fault : GuardFault) → Kept numbers → Kept rates → Kept greens → First masses fault → First (rules_of net) fault
  masses_fail fault n r g f = earlier_fails ((((numbers ++ rates) ++ greens) ++ masses) ++ balances) serves fault (earlier_fails (((numbers ++ rates) ++ greens) ++ masses) balances fault
      (later_fails ((numbers ++ rates) ++ greens) masses fault (to_greens n r g) f))

  to_masses : Kept numbers → Kept rates → Kept greens → Kept masses → Kept (((numbers ++ rates) ++ greens) ++ masses)
  to_masses n r g m = all_join (Keeps net guard) ((numbers ++ rates) ++ greens) masses (to_greens n r g) m

  pub balances_fail : (fault : GuardFault) → Kept numbers → Kept rates → Kept greens → Kept masses → First balances fault → First (rules_of net) fault
  balances_fail fault n r g m f = earlier_fails ((((numbers ++ rates) ++ greens) ++ masses) ++ balances) serves fault (later_fails (((numbers ++ rates) ++ greens) ++ masses) balances fault (to_masses n r g m) f)

  to_balances : Kept numbers → Kept rates → Kept greens → Kept masses → Kept balances → Kept ((((numbers ++ rates) ++ greens) ++ masses) ++ balances)
  to_balances n r g m b = all_join (Keeps net guard) (((numbers ++ rates) ++ greens) ++ masses) balances (to_masses n r g m) b

  pub rules_tried : (result : Outcome) → Kept numbers → Kept rates → Kept greens → Kept masses → Kept balances → Tries net guard serves result → Tries net guard (rules_of net) result
  rules_tried (Ok done) n r g m b s = all_join (Keeps net guard) ((((numbers ++ rates) ++ greens) ++ masses) ++ balances) serves (to_balances n r g m b) s
  rules_tried (Err fault) n r g m b s = later_fails ((((numbers ++ rates) ++ greens) ++ masses) ++ balances) serves fault (to_balances n r g m b) s

  -- ---- what kept rules say of the guard
  pub has_numbers : Kept numbers → HasNumbers guard
  has_numbers n = record { cycle = n.0; lost = n.1.0; denominator = n.1.1.0 }

  pub has_rates : Kept rates → HasRates net guard
  has_rates r = all_unmap (Keeps net guard) H (movement_numbers net) r

  pub has_greens : HasGuardLengths net guard → Kept greens → HasGreens net guard
  has_greens lengths g =
      let parts : AllByRecursion (λ j. AllByRecursion (Keeps net guard) (green_rules net j)) (junction_numbers net) = all_parts (Keeps net guard) (green_rules net) (junction_numbers net) g in
      each_in (λ j. AllByRecursion (λ n. n ≤ guard.cycle) (greens_at guard j)) (junction_numbers net) (λ j in'.
      let here : AllByRecursion (Keeps net guard) (green_rules net j) = at_in (λ j. AllByRecursion (Keeps net guard) (green_rules net j)) j (junction_numbers net) in' parts in
      let size : length (greens_at guard j) ≡ length (junction_at net j).stages = at_in (λ j. length (greens_at guard j) ≡ length (junction_at net j).stages) j (junction_numbers net) in' lengths.greens in
      from_numbers (λ n. n ≤ guard.cycle) 0 (length (junction_at net j).stages) (greens_at guard j) (omega arith) (all_unmap (Keeps net guard) (Green j) (stage_numbers (junction_at net j)) here))

  kept_greens : HasGreens net guard → Kept greens
  kept_greens has =
      all_whole (Keeps net guard) (green_rules net) (junction_numbers net)
      (AllOf-map (λ j. AllByRecursion (λ n. n ≤ guard.cycle) (greens_at guard j)) (λ j. AllByRecursion (Keeps net guard) (green_rules net j))
      (λ j all. all_map (Keeps net guard) (Green j) (stage_numbers (junction_at net j)) (each_in (GreenRule guard j) (stage_numbers (junction_at net j)) (λ s in'. at_index (λ n. n ≤ guard.cycle) 0 (greens_at guard j) (s - 1) all (omega arith))))
      (junction_numbers net) has)

  guards_of : HasGuardLengths net guard → Kept (rules_of net) → Guards net guard
  guards_of lengths all =
      let s = all_split (Keeps net guard) ((((numbers ++ rates) ++ greens) ++ masses) ++ balances) serves all in
      let b = all_split (Keeps net guard) (((numbers ++ rates) ++ greens) ++ masses) balances s.0 in
      let m = all_split (Keeps net guard) ((numbers ++ rates) ++ greens) masses b.0 in
      let g = all_split (Keeps net guard) (numbers ++ rates) greens m.0 in
      let r = all_split (Keeps net guard) numbers rates g.0 in
      record {
        lengths = lengths;
        cycle = r.0.0;
        lost = r.0.1.0;
        denominator = r.0.1.1.0;
        flows = has_rates r.1;
        greens = has_greens lengths g.1;
        masses = all_unmap (Keeps net guard) Mass (junction_numbers net) m.1;
        balances = all_unmap (Keeps net guard) Balance (movement_numbers net) b.1;
        serves = all_unmap (Keeps net guard) Serve (movement_numbers net) s.1;
      }

  kept_all : Guards net guard → Kept (rules_of net)
  kept_all guards =
      all_join (Keeps net guard) ((((numbers ++ rates) ++ greens) ++ masses) ++ balances) serves
      (to_balances (guards.cycle, (guards.lost, (guards.denominator, tt))) (all_map (Keeps net guard) H (movement_numbers net) guards.flows) (kept_greens guards.greens)
      (all_map (Keeps net guard) Mass (junction_numbers net) guards.masses) (all_map (Keeps net guard) Balance (movement_numbers net) guards.balances))
      (all_map (Keeps net guard) Serve (movement_numbers net) guards.serves)

  pub accepts : HasGuardLengths net guard → (result : Outcome) → Tries net guard (rules_of net) result → IsOk result ↔ Guards net guard
  accepts lengths (Ok done) all = (λ ok. guards_of lengths all, λ guards. refl)
  accepts lengths (Err fault) first = (
    λ ok. absurd (cc),
    λ guards. absurd (first.broken (all_split (Keeps net guard) first.earlier (fault ∷ first.later) (subst (AllByRecursion (Keeps net guard)) first.order (kept_all guards))).1.0),
  )

pub ruleset trying = (trying_start, trying_more, trying_fails, trying_end, each_fails, each_end, broken_one)
