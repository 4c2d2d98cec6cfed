-- Counts as the code keeps them.
use Rattle.std.proofs.Common.{◌≡◌, ◌≤◌, ◌<◌, ℕ, zero, suc, ◌+◌, ◌-◌, ◌^◌, List, [], ◌∷◌, ◌++◌, length, map, take, get_or, pos, ℤ, arith, refl, sym, ◌∙◌, ap}
use Rattle.std.specs.List.{All, AllByRecursion}
use Rattle.std.specs.Prelude.{unsigned_abs}
use Rattle.std.proofs.lemmas.List.Elements.{All-from_recursion, All-push}
use Rattle.std.proofs.lemmas.List.{take_more, map_push}
use Rattle.std.proofs.lemmas.Simd.{map-map}
use Rattle.mp_laws.proofs.Copies.{map_reads}
use Rattle.mp_model.specs.Arrivals.{count_in}
use Rattle.mp_model.specs.Network.{entry}
use Rattle.mp_press.specs.Queues.{naturals, AreCounts}

pub naturals_pos : (q : ℕ → ℕ) (ks : List ℕ) → naturals (map (λ k. pos (q k)) ks) ≡ map q ks
naturals_pos q [] = refl
naturals_pos q (k ∷ ks) = ap (λ xs. q k ∷ xs) (naturals_pos q ks)

few_map : (q : ℕ → ℕ) (ks : List ℕ) → ((k : ℕ) → q k ≤ 2 ^ 90) → AllByRecursion (λ n. n ≤ 2 ^ 90) (map q ks)
few_map q [] few = tt
few_map q (k ∷ ks) few = (few k, few_map q ks few)

pub are_counts : (q : ℕ → ℕ) (ks : List ℕ) → ((k : ℕ) → q k ≤ 2 ^ 90) → AreCounts (map (λ k. pos (q k)) ks)
are_counts q ks few = record {
  none_negative = ap (map pos) (naturals_pos q ks) ∙ map-map pos q ks;
  few = let each : All (λ n. n ≤ 2 ^ 90) (map q ks) = All-from_recursion (λ n. n ≤ 2 ^ 90) (map q ks) (few_map q ks few) in rw (naturals_pos q ks) each;
}

few_at : (ns : List ℕ) (i : ℕ) → All (λ n. n ≤ 2 ^ 85) ns → get_or ns i 0 ≤ 2 ^ 90
few_at [] i h = omega arith
few_at (n ∷ ns) zero h = let here : n ≤ 2 ^ 85 = h 0 0 (omega arith) in omega arith
few_at (n ∷ ns) (suc i) h = few_at ns i (λ j d lt. h (suc j) d (omega arith))

-- queues that a state keeps can be weighed
pub entries_few : (ns : List ℕ) → All (λ n. n ≤ 2 ^ 85) ns → (k : ℕ) → entry ns k ≤ 2 ^ 90
entries_few ns h k = few_at ns (k - 1) h

pub read_back : (zs : List ℤ) (i : ℕ) → AreCounts zs → get_or zs i (pos 0) ≡ pos (get_or (naturals zs) i 0)
read_back zs i h = ap (λ ys. get_or ys i (pos 0)) (sym h.none_negative) ∙ map_reads pos 0 (naturals zs) i

pub count_nothing : (ks : List ℕ) (k : ℕ) → count_in ks [] k ≡ 0
count_nothing [] k = refl
count_nothing (l ∷ ks) k = refl

-- one more element of a mapped list
pub map_more : {X Y : Type 0} (f : X → Y) (xs : List X) (i : ℕ) (d : X) → i < length xs → map f (take (i + 1) xs) ≡ map f (take i xs) ++ f (get_or xs i d) ∷ []
map_more f xs i d h = ap (map f) (take_more xs i d h) ∙ map_push f (take i xs) (get_or xs i d)

-- one more count
pub counts_push : (zs : List ℤ) (n : ℕ) → AreCounts zs → n ≤ 2 ^ 90 → AreCounts (zs ++ pos n ∷ [])
counts_push zs n h le =
    let more : naturals (zs ++ pos n ∷ []) ≡ naturals zs ++ n ∷ [] = map_push unsigned_abs zs (pos n) in
    record {
      none_negative = ap (map pos) more ∙ map_push pos (naturals zs) n ∙ ap (λ ys. ys ++ pos n ∷ []) h.none_negative;
      few = let each : All (λ n. n ≤ 2 ^ 90) (naturals zs ++ n ∷ []) = All-push (λ n. n ≤ 2 ^ 90) (naturals zs) n h.few le in rw more each;
    }
