-- The lines of a plan's header by their numbers.
use Rattle.std.proofs.Common.{◌≡◌, ◌≤◌, ◌<◌, ℕ, suc, ◌+◌, ◌-◌, List, [], ◌∷◌, ◌++◌, length, map, take, get_or, sym, ◌∙◌, ap, arith, decimal}
use Rattle.std.proofs.lemmas.Grind.{flat_map-append}
use Rattle.std.proofs.lemmas.List.{append_assoc, append-nil, get_or_append_left, get_or-append_right, length-append, take_more}
use Rattle.std.proofs.lemmas.List.FromFn.{get_or-map-range_with_len, length-map-range_with_len}
use Rattle.mp_model.specs.Log.{bound_line, spaced}
use Rattle.mp_model.specs.Network.{Network, junction_numbers, movement_numbers}
use Rattle.mp_model.specs.Plans.{Plan, green_line, plan_header}
use Rattle.mp_plan_run.specs.Heading.{plan_header_line}

-- one more number, with a space before it
pub spaced_more : (was line next : List ℕ) (numbers : List ℕ) (i : ℕ) → i < length numbers → line ≡ was ++ spaced (take i numbers) → next ≡ line ++ 32 ∷ decimal (get_or numbers i 0) → next ≡ was ++ spaced (take (i + 1) numbers)
spaced_more was line next numbers i within so_far more =
    more ∙ ap (λ xs. xs ++ 32 ∷ decimal (get_or numbers i 0)) so_far ∙ append_assoc was (spaced (take i numbers)) (32 ∷ decimal (get_or numbers i 0))
    ∙ ap (λ xs. was ++ xs)
    (sym (ap spaced (take_more numbers i 0 within) ∙ flat_map-append (λ n. 32 ∷ decimal n) (take i numbers) (get_or numbers i 0 ∷ []) ∙ ap (λ xs. spaced (take i numbers) ++ xs) (append-nil (32 ∷ decimal (get_or numbers i 0)))))

module _ (net : Network) (plan : Plan) where
  abbrev greens : List (List ℕ)
  greens = map (green_line plan) (junction_numbers net)

  abbrev bounds : List (List ℕ)
  bounds = map (bound_line net plan.bounds) (movement_numbers net)

  greens_size : length greens ≡ length net.junctions
  greens_size = length-map-range_with_len (green_line plan) 1 (length net.junctions)

  -- two lines, one per junction and one per movement
  pub header_size : length (plan_header net plan) ≡ length net.junctions + length net.movements + 2
  header_size = omega (arith, length-append greens bounds, greens_size, length-map-range_with_len (bound_line net plan.bounds) 1 (length net.movements))

  pub green_at : (i j : ℕ) → i ≡ j + 2 → 1 ≤ j → j ≤ length net.junctions → plan_header_line net plan i ≡ green_line plan j
  green_at i j e low high =
      let place : i - 1 ≡ suc (suc (j - 1)) = omega arith in
      ap (λ n. get_or (plan_header net plan) n []) place ∙ get_or_append_left greens bounds [] (j - 1) (omega (arith, greens_size))
      ∙ get_or-map-range_with_len (green_line plan) 1 (length net.junctions) (j - 1) j [] (omega arith) (omega arith)

  pub bound_at : (i k : ℕ) → i ≡ length net.junctions + k + 2 → 1 ≤ k → k ≤ length net.movements → plan_header_line net plan i ≡ bound_line net plan.bounds k
  bound_at i k e low high =
      let m = length net.junctions + (k - 1) in
      let place : i - 1 ≡ suc (suc m) = omega arith in
      let behind : m - length net.junctions ≡ k - 1 = omega arith in
      ap (λ n. get_or (plan_header net plan) n []) place ∙ get_or-append_right greens bounds (length net.junctions) m [] greens_size (omega arith) ∙ ap (λ n. get_or bounds n []) behind
      ∙ get_or-map-range_with_len (bound_line net plan.bounds) 1 (length net.movements) (k - 1) k [] (omega arith) (omega arith)
