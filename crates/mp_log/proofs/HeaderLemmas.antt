-- The lines of a header by their numbers.
use Rattle.std.proofs.Common.{◌≡◌, ◌≤◌, ℕ, suc, ◌+◌, ◌-◌, List, [], length, map, get_or, ap, ◌∙◌, arith}
use Rattle.std.proofs.lemmas.List.{ext_get_or}
use Rattle.std.proofs.lemmas.List.FromFn.{get_or-map-range_with_len, length-map-range_with_len}
use Rattle.mp_model.specs.Network.{Network, numbers_to}
use Rattle.mp_model.specs.Log.{bound_line, header_lines}
use Rattle.mp_log.specs.Heading.{header_line}

-- the lines by their numbers are all lines
by_number : (xs : List (List ℕ)) (n : ℕ) → n ≡ length xs → map (λ i. get_or xs (i - 1) []) (numbers_to n) ≡ xs
by_number xs n size =
    let count = length-map-range_with_len (λ i. get_or xs (i - 1) []) 1 n in
    ext_get_or [] (map (λ i. get_or xs (i - 1) []) (numbers_to n)) xs (count ∙ size) (λ i h.
    get_or-map-range_with_len (λ i. get_or xs (i - 1) []) 1 n i (i + 1) [] (omega (arith, count)) (omega arith) ∙ ap (λ j. get_or xs j []) (back i))
  where
    back : (i : ℕ) → (i + 1) - 1 ≡ i
    back i = omega arith

pub header_count : (net : Network) (E D n : ℕ) (bounds : List ℕ) → n ≡ length net.movements + 2 → n ≡ length (header_lines net E D bounds)
header_count net E D n bounds e = omega (arith, e, length-map-range_with_len (bound_line net bounds) 1 (length net.movements))

pub header_together : (net : Network) (E D n : ℕ) (bounds : List ℕ) → n ≡ length net.movements + 2 → map (header_line net E D bounds) (numbers_to n) ≡ header_lines net E D bounds
header_together net E D n bounds e = by_number (header_lines net E D bounds) n (header_count net E D n bounds e)

pub bound_at : (net : Network) (E D i k : ℕ) (bounds : List ℕ) → i ≡ k + 2 → 1 ≤ k → k ≤ length net.movements → header_line net E D bounds i ≡ bound_line net bounds k
bound_at net E D i k bounds e low high =
    let place : i - 1 ≡ suc (suc (k - 1)) = omega arith in
    ap (λ j. get_or (header_lines net E D bounds) j []) place ∙ get_or-map-range_with_len (bound_line net bounds) 1 (length net.movements) (k - 1) k [] (omega arith) (omega arith)

pub ruleset headers = (header_count, header_together, bound_at)
