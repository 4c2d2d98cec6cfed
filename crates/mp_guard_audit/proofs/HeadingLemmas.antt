-- The lines of a header by their places, and how short they are.
use Rattle.std.proofs.Common.{◌≡◌, ◌≤◌, ◌<◌, ◌^◌, ℕ, zero, suc, ◌+◌, ◌-◌, ◌*◌, List, [], ◌∷◌, ◌++◌, length, take, map, get_or, refl, sym, ◌∙◌, ap, subst, arith, mul-le-mul_left}
use Rattle.std.specs.Prelude.{codes, decimal}
use Rattle.std.specs.List.{All}
use Rattle.std.proofs.lemmas.Fmt.{length-decimal-le_wide}
use Rattle.std.proofs.lemmas.List.{length-append, get_or_append_left, get_or_default, take_all}
use Rattle.std.proofs.lemmas.List.Folds.{length-flat_map-take}
use Rattle.std.proofs.lemmas.List.FromFn.{get_or-map-range_with_len, length-map-range_with_len}
use Rattle.mp_cert.proofs.PlaceLemmas.{in_list}
use Rattle.mp_guard.specs.Bursts.{waits_of}
use Rattle.mp_guard.specs.GuardHeader.{number_line, wait_line}
use Rattle.mp_guard.specs.GuardText.{green_words, green_lines, guard_line, guard_lines}
use Rattle.mp_guard_run.specs.Running.{HoldsBounds}
use Rattle.mp_guard_run.specs.Session.{Guarded, IsGuarding}
use Rattle.mp_laws.proofs.Lists.{at_in, at_index}
use Rattle.mp_log.proofs.LengthLemmas.{spaced_short}
use Rattle.mp_model.specs.Guard.{Guard, Guards, FlowRule, greens_at, guarded_rate, red}
use Rattle.mp_model.specs.GuardedBursts.{guarded_bound}
use Rattle.mp_model.specs.Log.{bound_line, spaced}
use Rattle.mp_model.specs.Network.{Network, Movement, entry, flow_of, movement_numbers, no_movement}
use Rattle.mp_model.specs.NetworkRules.{IsAcceptable}
use Rattle.mp_guard_audit.specs.Heading.{header_of, header_line_at, HasNumbers}

-- ---- how long a line is
pub few_digits : (n : ℕ) → n < 10 ^ 13 → length (decimal n) ≤ 13
few_digits n low = length-decimal-le_wide 13 n (omega arith) low (omega arith)

pub spaced_few : (ns : List ℕ) → length ns ≤ 512 → All (λ n. n < 10 ^ 13) ns → length (spaced ns) ≤ 7168
spaced_few ns few small = let short = spaced_short 13 ns (λ k d low. few_digits (get_or ns k d) (small k d low)) in omega (arith, few, short)

pub room_so_far : (old now ns : List ℕ) (i : ℕ) → length ns ≤ 512 → All (λ n. n < 10 ^ 13) ns → length old ≤ 60 → i < length ns → now ≡ old ++ spaced (take i ns) → length now + 60 ≤ 16384
room_so_far old now ns i few small short within is =
    let all = spaced_few ns few small in
    let front = length-flat_map-take (λ (n : ℕ). 32 ∷ decimal n) ns i 0 within in
    omega (arith, ap (length {A = ℕ}) is, length-append old (spaced (take i ns)), front, all)

pub room_at_end : (old now ns : List ℕ) (i : ℕ) → length ns ≤ 512 → All (λ n. n < 10 ^ 13) ns → length old ≤ 60 → length ns ≤ i → now ≡ old ++ spaced (take i ns) → length now < 16384
room_at_end old now ns i few small short past is =
    let all = spaced_few ns few small in
    let whole : length (spaced (take i ns)) ≡ length (spaced ns) = ap (λ (xs : List ℕ). length (spaced xs)) (take_all i ns past) in
    omega (arith, ap (length {A = ℕ}) is, length-append old (spaced (take i ns)), whole, all)

pub rates_small : (net : Network) → IsAcceptable net → (guard : Guard) → Guards net guard → All (λ n. n < 10 ^ 13) guard.rates
rates_small net ok guard guards k d low =
    let size = guards.lengths.rates in
    let at : guarded_rate guard (k + 1) ≤ flow_of net (k + 1) * guard.denominator = at_in (FlowRule net guard) (k + 1) (movement_numbers net) (in_list (length net.movements) (k + 1) (omega arith) (omega (arith, size, low))) guards.flows in
    let flow : flow_of net (k + 1) ≤ 1000 = at_index (λ (m : Movement). m.flow ≤ 1000) no_movement net.movements ((k + 1) - 1) ok.range.flows (omega arith) in
    let product : guard.denominator * flow_of net (k + 1) ≤ guard.denominator * 1000 = mul-le-mul_left guard.denominator flow in
    let most = guards.denominator.1 in
    let back : k ≡ (k + 1) - 1 = omega arith in
    subst (λ n. n < 10 ^ 13) (sym (get_or_default guard.rates k d 0 low ∙ ap (λ i. get_or guard.rates i 0) back)) (omega (arith, at, product, most))

-- ---- where a line stands
get_right : (xs ys : List (List ℕ)) (i k : ℕ) → i ≡ length xs + k → get_or (xs ++ ys) i [] ≡ get_or ys k []
get_right [] ys i k e = ap (λ n. get_or ys n []) (omega (arith, e))
get_right (x ∷ xs) ys zero k e = absurd (omega (arith, e))
get_right (x ∷ xs) ys (suc i) k e = get_right xs ys i k (omega (arith, e))

green_count : (j : ℕ) (rows : List (List ℕ)) → length (green_lines j rows) ≡ length rows
green_count j [] = refl
green_count j (row ∷ rows) = omega (arith, green_count (j + 1) rows)

green_there : (j : ℕ) (rows : List (List ℕ)) (i : ℕ) → i < length rows → get_or (green_lines j rows) i [] ≡ guard_line (green_words (j + i)) (get_or rows i [])
green_there j [] i low = absurd (omega (arith, low))
green_there j (row ∷ rows) zero low = let same : j ≡ j + 0 = omega arith in ap (λ n. guard_line (green_words n) row) same
green_there j (row ∷ rows) (suc i) low =
    let same : j + 1 + i ≡ j + suc i = omega arith in
    green_there (j + 1) rows i (omega (arith, low)) ∙ ap (λ n. guard_line (green_words n) (get_or rows i [])) same

module _ (s : Guarded) (g : IsGuarding s) where
  abbrev firsts : List (List ℕ)
  firsts = guard_lines s.guard

  abbrev bound_lines : List (List ℕ)
  bound_lines = map (bound_line s.net s.bounds) (movement_numbers s.net)

  abbrev wait_lines : List (List ℕ)
  wait_lines = map (wait_line s.net s.waits) (movement_numbers s.net)

  first_count : length firsts ≡ 5 + length s.net.junctions
  first_count = omega (arith, green_count 1 s.guard.greens, g.guards.lengths.junctions)

  bound_count : length bound_lines ≡ length s.net.movements
  bound_count = length-map-range_with_len (bound_line s.net s.bounds) 1 (length s.net.movements)

  wait_count : length wait_lines ≡ length s.net.movements
  wait_count = length-map-range_with_len (wait_line s.net s.waits) 1 (length s.net.movements)

  pub header_count : length (header_of s) ≡ 5 + length s.net.junctions + 2 * length s.net.movements
  header_count = omega (arith, length-append (firsts ++ bound_lines) wait_lines, length-append firsts bound_lines, first_count, bound_count, wait_count)

  in_guard : (i : ℕ) → i < 5 + length s.net.junctions → header_line_at s i ≡ get_or firsts i []
  in_guard i low =
      get_or_append_left (firsts ++ bound_lines) wait_lines [] i (omega (arith, length-append firsts bound_lines, first_count, low)) ∙ get_or_append_left firsts bound_lines [] i (omega (arith, first_count, low))

  pub first_at : (i : ℕ) (line : List ℕ) → i < 5 → line ≡ get_or firsts i [] → line ≡ header_line_at s i
  first_at i line low is = is ∙ sym (in_guard i (omega (arith, low)))

  pub green_at : (i j : ℕ) (line : List ℕ) → 5 ≤ i → i < 5 + length s.net.junctions → j ≡ i - 5 + 1 → line ≡ guard_line (green_words j) (greens_at s.guard j) → line ≡ header_line_at s i
  green_at i j line past low place is =
      let k : ℕ = i - 5 in
      let here : i ≡ suc (suc (suc (suc (suc k)))) = omega (arith, past) in
      let words : 1 + k ≡ j = omega (arith, place) in
      let row : k ≡ j - 1 = omega (arith, place) in
      let there : get_or firsts i [] ≡ guard_line (green_words (1 + k)) (get_or s.guard.greens k []) =
      ap (λ n. get_or firsts n []) here ∙ green_there 1 s.guard.greens k (omega (arith, low, past, g.guards.lengths.junctions)) in
      is ∙ sym (in_guard i low ∙ there ∙ ap (λ n. guard_line (green_words n) (get_or s.guard.greens k [])) words ∙ ap (λ n. guard_line (green_words j) (get_or s.guard.greens n [])) row)

  pub bound_at : (i k : ℕ) (line : List ℕ) → 5 + length s.net.junctions ≤ i → i < 5 + length s.net.junctions + length s.net.movements → k ≡ i - (5 + length s.net.junctions) + 1 → line ≡ number_line (codes "bound ") s.net s.bounds k → line ≡ header_line_at s i
  bound_at i k line past low place is =
      is ∙ sym (get_or_append_left (firsts ++ bound_lines) wait_lines [] i (omega (arith, length-append firsts bound_lines, first_count, bound_count, low))
      ∙ get_right firsts bound_lines i (k - 1) (omega (arith, first_count, past, place))
      ∙ get_or-map-range_with_len (bound_line s.net s.bounds) 1 (length s.net.movements) (k - 1) k [] (omega (arith, past, low, place)) (omega (arith, place)))

  pub wait_at : (i k : ℕ) (line : List ℕ) → 5 + length s.net.junctions + length s.net.movements ≤ i → i < length (header_of s) → k ≡ i - (5 + length s.net.junctions + length s.net.movements) + 1 → line ≡ number_line (codes "wait ") s.net s.waits k → line ≡ header_line_at s i
  wait_at i k line past low place is =
      is ∙ sym (get_right (firsts ++ bound_lines) wait_lines i (k - 1) (omega (arith, length-append firsts bound_lines, first_count, bound_count, past, place))
      ∙ get_or-map-range_with_len (wait_line s.net s.waits) 1 (length s.net.movements) (k - 1) k [] (omega (arith, past, low, header_count, place)) (omega (arith, place)))

-- the numbers of a session that was opened
pub has_numbers : (s : Guarded) → HoldsBounds s → s.waits ≡ waits_of s.net s.guard → HasNumbers s
has_numbers s holds waits = record {
  bounds = ap length holds.are ∙ length-map-range_with_len (guarded_bound s.net s.guard (entry holds.rests.surpluses) holds.rests.bursts) 1 (length s.net.movements);
  waits = ap length waits ∙ length-map-range_with_len (λ k. 2 * red s.net s.guard k) 1 (length s.net.movements);
}

-- what the program knows of the places of a header
pub record Sizes (s : Guarded) (js ms i : ℕ) : Type 0 where
  pub junctions : js ≡ length s.net.junctions
  pub movements : ms ≡ length s.net.movements
  pub low : i < 5 + js + 2 * ms

pub sizes : (s : Guarded) → IsGuarding s → (net : Network) (js ms i : ℕ) → net ≡ s.net → js ≡ length net.junctions → ms ≡ length net.movements → i < length (header_of s) → Sizes s js ms i
sizes s g net js ms i same junctions movements low =
    let j : js ≡ length s.net.junctions = junctions ∙ ap (λ (n : Network). length n.junctions) same in
    let m : ms ≡ length s.net.movements = movements ∙ ap (λ (n : Network). length n.movements) same in
    let within : i < 5 + length s.net.junctions + 2 * length s.net.movements = subst (λ n. i < n) (header_count s g) low in
    record { junctions = j; movements = m; low = omega (arith, within, j, m) }
