-- Links that pass shares on: what is covered by what comes in, or by the mean of what is next, is 0 where every link has a way out.
use Rattle.std.proofs.Common.{◌≡◌, ◌≢◌, ℕ, zero, suc, ◌+◌, ◌*◌, ◌/◌, ◌<◌, ◌≤◌, refl, ap, ap₂, sym, ◌∙◌, subst, arith, inl, inr, ◌⊎◌, mul-le-mul_left}
use Rattle.std.proofs.Math.Nat.{mul-div_cancel_left}
use Rattle.std.proofs.lemmas.Bool.{cases_eq, cases_lt}

-- the sum of the values below a bound
abbrev pub sum_below : ℕ → (ℕ → ℕ) → ℕ
sum_below zero f = 0
sum_below (suc n) f = sum_below n f + f n

-- a way out of link l: a share goes out of the network, or to a link with a way out
pub data WayOut (n : ℕ) (share : ℕ → ℕ → ℕ) (outward : ℕ → ℕ) : ℕ → Type 0 where
  Leaves : (l : ℕ) → 0 < outward l → WayOut n share outward l
  Goes : (l m : ℕ) → m < n → 0 < share l m → WayOut n share outward m → WayOut n share outward l

-- the shares of each link sum up to the whole, and each link has a way out
pub record IsRouting (n whole : ℕ) (share : ℕ → ℕ → ℕ) (outward : ℕ → ℕ) : Type 0 where
  pub positive : 0 < whole
  pub all_shares : (l : ℕ) → l < n → sum_below n (share l) + outward l ≡ whole
  pub way_out : (l : ℕ) → l < n → WayOut n share outward l

pub sum-same : (n : ℕ) (f g : ℕ → ℕ) → ((k : ℕ) → k < n → f k ≡ g k) → sum_below n f ≡ sum_below n g
sum-same zero f g h = refl
sum-same (suc n) f g h = ap₂ (λ a b. a + b) (sum-same n f g (λ k l. h k (omega arith))) (h n (omega arith))

pub sum-le : (n : ℕ) (f g : ℕ → ℕ) → ((k : ℕ) → k < n → f k ≤ g k) → sum_below n f ≤ sum_below n g
sum-le zero f g h = omega arith
sum-le (suc n) f g h = omega (arith, sum-le n f g (λ k l. h k (omega arith)), h n (omega arith))

-- sums in order that are equal have equal terms
pub sum-tight : (n : ℕ) (f g : ℕ → ℕ) → ((k : ℕ) → k < n → f k ≤ g k) → sum_below n g ≤ sum_below n f → (k : ℕ) → k < n → f k ≡ g k
sum-tight zero f g h e k l = absurd (omega arith)
sum-tight (suc n) f g h e k l =
    let below : sum_below n f ≤ sum_below n g = sum-le n f g (λ k l. h k (omega arith)) in
    let last : f n ≤ g n = h n (omega arith) in
    elim (cases_eq k n) [
      | inl same ↦ rw same (omega arith)
      | inr other ↦ sum-tight n f g (λ k l. h k (omega arith)) (omega arith) k (omega arith)
    ]

pub sum-plus : (n : ℕ) (f g : ℕ → ℕ) → sum_below n (λ k. f k + g k) ≡ sum_below n f + sum_below n g
sum-plus zero f g = refl
sum-plus (suc n) f g = omega (arith, sum-plus n f g)

pub sum-none : (n : ℕ) → sum_below n (λ k. 0) ≡ 0
sum-none zero = refl
sum-none (suc n) = omega (arith, sum-none n)

-- one value that is not 0
pub sum-one : (n j : ℕ) (f : ℕ → ℕ) → j < n → ((k : ℕ) → k < n → k ≢ j → f k ≡ 0) → sum_below n f ≡ f j
sum-one zero j f l h = absurd (omega arith)
sum-one (suc n) j f l h = elim (cases_eq j n) [
  | inl e ↦ rw (sym e) (omega (arith, sum-same j f (λ k. 0) (λ k l. h k (omega arith) (omega arith)), sum-none j))
  | inr e ↦ omega (arith, sum-one n j f (omega arith) (λ k l. h k (omega arith)), h n (omega arith) (omega arith))
]

pub sum-scale : (n c : ℕ) (f : ℕ → ℕ) → sum_below n (λ k. c * f k) ≡ c * sum_below n f
sum-scale zero c f = omega arith
sum-scale (suc n) c f = omega (arith, sum-scale n c f)

pub sum-scale_right : (n c : ℕ) (f : ℕ → ℕ) → sum_below n (λ k. f k * c) ≡ sum_below n f * c
sum-scale_right zero c f = omega arith
sum-scale_right (suc n) c f = omega (arith, sum-scale_right n c f)

pub sum-swap : (m n : ℕ) (f : ℕ → ℕ → ℕ) → sum_below m (λ i. sum_below n (f i)) ≡ sum_below n (λ j. sum_below m (λ i. f i j))
sum-swap zero n f = sym (sum-none n)
sum-swap (suc m) n f = ap (λ s. s + sum_below n (f m)) (sum-swap m n f) ∙ sym (sum-plus n (λ j. sum_below m (λ i. f i j)) (f m))

zero_factor : (a b : ℕ) → 0 < a → a * b ≡ 0 → b ≡ 0
zero_factor a zero h e = refl
zero_factor (suc a) (suc b) h e = absurd (omega arith)
zero_factor zero b h e = absurd (omega arith)

pub sum-zero : (n : ℕ) (f : ℕ → ℕ) → sum_below n f ≡ 0 → (k : ℕ) → k < n → f k ≡ 0
sum-zero n f e k l = sym (sum-tight n (λ k. 0) f (λ k l. omega arith) (omega (arith, sum-none n)) k l)

-- ---- the system of the flows: no values but zeros are covered by what comes in
pub record IsTight (n whole : ℕ) (share : ℕ → ℕ → ℕ) (outward u : ℕ → ℕ) : Type 0 where
  pub no_leak : (l : ℕ) → l < n → outward l * u l ≡ 0
  pub equal : (m : ℕ) → m < n → whole * u m ≡ sum_below n (λ l. share l m * u l)

out_of : (n whole : ℕ) (share : ℕ → ℕ → ℕ) (outward u : ℕ → ℕ) → IsRouting n whole share outward → (l : ℕ) → l < n →
    sum_below n (λ m. share l m * u l) + outward l * u l ≡ whole * u l
out_of n whole share outward u r l h = omega (arith, sum-scale_right n (u l) (share l), ap (λ s. s * u l) (r.all_shares l h))

tight : (n whole : ℕ) (share : ℕ → ℕ → ℕ) (outward u : ℕ → ℕ) → IsRouting n whole share outward →
    ((m : ℕ) → m < n → whole * u m ≤ sum_below n (λ l. share l m * u l)) → IsTight n whole share outward u
tight n whole share outward u r h =
    let weight : ℕ → ℕ = λ l. whole * u l in
    let inflow : ℕ → ℕ = λ m. sum_below n (λ l. share l m * u l) in
    let outflow : ℕ → ℕ = λ l. sum_below n (λ m. share l m * u l) in
    let swapped : sum_below n inflow ≡ sum_below n outflow = sum-swap n n (λ m l. share l m * u l) in
    let in_order : sum_below n weight ≤ sum_below n inflow = sum-le n weight inflow h in
    let out_le : (l : ℕ) → l < n → outflow l ≤ weight l = λ l k. omega (arith, out_of n whole share outward u r l k) in
    let out_order : sum_below n outflow ≤ sum_below n weight = sum-le n outflow weight out_le in
    record {
      no_leak = λ l k. (let same : outflow l ≡ weight l = sum-tight n outflow weight out_le (omega arith) l k in omega (arith, out_of n whole share outward u r l k, same));
      equal = λ m k. sum-tight n weight inflow h (omega arith) m k;
    }

along : (n whole : ℕ) (share : ℕ → ℕ → ℕ) (outward u : ℕ → ℕ) → IsTight n whole share outward u → (l : ℕ) → l < n → WayOut n share outward l → u l ≡ 0
along n whole share outward u t _ h (Leaves l p) = zero_factor (outward l) (u l) p (t.no_leak l h)
along n whole share outward u t _ h (Goes l m k p w) =
    let none : u m ≡ 0 = along n whole share outward u t m k w in
    let sum : sum_below n (λ l. share l m * u l) ≡ 0 = sym (t.equal m k) ∙ ap (λ x. whole * x) none ∙ omega arith in
    zero_factor (share l m) (u l) p (sum-zero n (λ l. share l m * u l) sum l h)

pub covered_by_inflow : (n whole : ℕ) (share : ℕ → ℕ → ℕ) (outward u : ℕ → ℕ) → IsRouting n whole share outward →
    ((m : ℕ) → m < n → whole * u m ≤ sum_below n (λ l. share l m * u l)) → (l : ℕ) → l < n → u l ≡ 0
covered_by_inflow n whole share outward u r h l k = along n whole share outward u (tight n whole share outward u r h) l k (r.way_out l k)

-- ---- the system of the worths: no values but zeros are covered by the mean of the next ones
pub record IsGreatest (n : ℕ) (u : ℕ → ℕ) (top : ℕ) : Type 0 where
  pub bound : (k : ℕ) → k < n → u k ≤ top
  pub reached : (top ≡ 0) ⊎ ((l : ℕ) × (l < n) × (u l ≡ top))

pub greatest : (n : ℕ) (u : ℕ → ℕ) → (top : ℕ) × IsGreatest n u top
greatest zero u = (0, record { bound = λ k l. absurd (omega arith); reached = inl refl })
greatest (suc n) u =
    let g = greatest n u in
    elim (cases_lt g.0 (u n)) [
      | inl more ↦ (
        u n,
        record {
          bound = λ k l. (elim (cases_eq k n) [ inl same ↦ rw same (omega arith) | inr other ↦ omega (arith, g.1.bound k (omega arith)) ]);
          reached = inr (n, omega arith, refl);
        },
      )
      | inr less ↦ (
        g.0,
        record {
          bound = λ k l. (elim (cases_eq k n) [ inl same ↦ rw same less | inr other ↦ g.1.bound k (omega arith) ]);
          reached = elim g.1.reached [ inl none ↦ inl none | inr at ↦ inr (at.0, omega (arith, at.1), at.2) ];
        },
      )
    ]

mul_cancel : (a b c : ℕ) → 0 < a → a * b ≡ a * c → b ≡ c
mul_cancel a b c h e = sym (mul-div_cancel_left b h) ∙ ap (λ x. x / a) e ∙ mul-div_cancel_left c h

from_top : (n whole top : ℕ) (share : ℕ → ℕ → ℕ) (outward u : ℕ → ℕ) → IsRouting n whole share outward →
    ((l : ℕ) → l < n → whole * u l ≤ sum_below n (λ m. share l m * u m)) → ((k : ℕ) → k < n → u k ≤ top) →
    (l : ℕ) → l < n → u l ≡ top → WayOut n share outward l → top ≡ 0
from_top n whole top share outward u r h b _ k e (Leaves l p) =
    let most : sum_below n (λ m. share l m * u m) ≤ sum_below n (λ m. share l m * top) = sum-le n _ _ (λ m j. mul-le-mul_left (share l m) (b m j)) in
    let whole_is : sum_below n (λ m. share l m * top) + outward l * top ≡ whole * top = omega (arith, sum-scale_right n top (share l), ap (λ s. s * top) (r.all_shares l k)) in
    let here : whole * top ≤ sum_below n (λ m. share l m * u m) = subst (λ (x : ℕ). whole * x ≤ sum_below n (λ m. share l m * u m)) e (h l k) in
    zero_factor (outward l) top p (omega arith)
from_top n whole top share outward u r h b _ k e (Goes l m j p w) =
    let le : (m : ℕ) → m < n → share l m * u m ≤ share l m * top = λ m j. mul-le-mul_left (share l m) (b m j) in
    let whole_is : sum_below n (λ m. share l m * top) + outward l * top ≡ whole * top = omega (arith, sum-scale_right n top (share l), ap (λ s. s * top) (r.all_shares l k)) in
    let here : whole * top ≤ sum_below n (λ m. share l m * u m) = subst (λ (x : ℕ). whole * x ≤ sum_below n (λ m. share l m * u m)) e (h l k) in
    let same : share l m * u m ≡ share l m * top = sum-tight n (λ m. share l m * u m) (λ m. share l m * top) le (omega arith) m j in
    from_top n whole top share outward u r h b m j (mul_cancel (share l m) (u m) top p same) w

pub covered_by_next : (n whole : ℕ) (share : ℕ → ℕ → ℕ) (outward u : ℕ → ℕ) → IsRouting n whole share outward →
    ((l : ℕ) → l < n → whole * u l ≤ sum_below n (λ m. share l m * u m)) → (l : ℕ) → l < n → u l ≡ 0
covered_by_next n whole share outward u r h l k =
    let g = greatest n u in
    let none : g.0 ≡ 0 = elim g.1.reached [ inl none ↦ none | inr at ↦ from_top n whole g.0 share outward u r h g.1.bound at.0 at.1 at.2 (r.way_out at.0 at.1) ] in
    omega (arith, g.1.bound l k)
