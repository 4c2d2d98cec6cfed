-- Steps of loops that sum.
use Rattle.std.proofs.Common.{◌≡◌, ◌≤◌, ◌<◌, ℕ, zero, suc, ◌+◌, ◌-◌, ◌*◌, ◌^◌, List, [], ◌∷◌, ◌++◌, length, get_or, take, sum_by, arith, ◌∙◌, ap, add-one, mul-le-mul, ℤ}
use Rattle.std.specs.List.{range_with_len, All}
use Rattle.std.proofs.lemmas.List.Sums.{sum_by_more, sum_by_push}
use Rattle.mp_model.specs.Network.{numbers_to}
use Rattle.mp_press.specs.Queues.{naturals, AreCounts}

pub so_far_step : (f : ℕ → ℕ) (ks : List ℕ) (i sum v most : ℕ) → i < length ks → v ≡ f (get_or ks i 0) → v ≤ most → sum ≡ sum_by f (take i ks) → sum ≤ i * most →
    record { so_far : sum + v ≡ sum_by f (take (i + 1) ks); small : sum + v ≤ (i + 1) * most }
so_far_step f ks i sum v most h e le is few = record { so_far = omega (arith, sum_by_more f ks i 0 h); small = omega arith }

pub range_more : (a n b : ℕ) → a + n ≡ b → range_with_len a (suc n) ≡ range_with_len a n ++ b ∷ []
range_more a zero b e = let s : a ≡ b = omega arith in ap (λ x. x ∷ []) s
range_more a (suc n) b e = ap (λ xs. a ∷ xs) (range_more (a + 1) n b (omega arith))

pub numbers_more : (f : ℕ → ℕ) (i : ℕ) → sum_by f (numbers_to (i + 1)) ≡ sum_by f (numbers_to i) + f (i + 1)
numbers_more f i = ap (λ m. sum_by f (numbers_to m)) (add-one i) ∙ ap (sum_by f) (range_more 1 i (i + 1) (omega arith)) ∙ sum_by_push f (numbers_to i) (i + 1)

pub numbers_step : (f : ℕ → ℕ) (i sum v most : ℕ) → v ≡ f (i + 1) → v ≤ most → sum ≡ sum_by f (numbers_to i) → sum ≤ i * most →
    record { so_far : sum + v ≡ sum_by f (numbers_to (i + 1)); small : sum + v ≤ (i + 1) * most }
numbers_step f i sum v most e le is few = record { so_far = omega (arith, numbers_more f i); small = omega arith }

-- a share times a queue
pub product_fits : (w q : ℕ) → w ≤ 1000 → q ≤ 2 ^ 90 → w * q ≤ 1000 * 2 ^ 90
product_fits w q h k = mul-le-mul h k

-- a flow times a weight
pub press_fits : (w q b f : ℕ) → w ≤ 1000 → q ≤ 2 ^ 90 → f ≤ 1000 → f * (w * q - b) ≤ 2 ^ 110
press_fits w q b f h k l =
    let p : w * q ≤ 1000 * 2 ^ 90 = mul-le-mul h k in
    let r : w * q - b ≤ 1000 * 2 ^ 90 = omega arith in
    let t : f * (w * q - b) ≤ 1000 * (1000 * 2 ^ 90) = mul-le-mul l r in
    omega arith

-- a number of a list none of which is above the bound
pub at_most : (most : ℕ) (ns : List ℕ) (i : ℕ) → All (λ q. q ≤ most) ns → get_or ns i 0 ≤ most
at_most most [] i h = omega arith
at_most most (n ∷ ns) zero h = h 0 0 (omega arith)
at_most most (n ∷ ns) (suc i) h = at_most most ns i (λ j d lt. h (suc j) d (omega arith))

-- a queue that can be weighed
pub few_at : (zs : List ℤ) (i : ℕ) → AreCounts zs → get_or (naturals zs) i 0 ≤ 2 ^ 90
few_at zs i h = at_most (2 ^ 90) (naturals zs) i h.few
