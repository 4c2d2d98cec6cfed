-- The stated calculation of the check of an optimum.
use Rattle.std.specs.Prelude.{ℕ, ◌+◌, ◌*◌, ◌<◌, ℤ, pos, ◌+ℤ◌, ◌*ℤ◌, Bool, true, not, ◌&&◌, List, position, Option, Some, option_map, option_and_then, int_lt}
use Rattle.std.specs.Ordering.{int_eq}
use Rattle.std.specs.Option.{is_none}
use Rattle.mp_num.specs.Checked.{within}
use Rattle.mp_num.specs.Passing.{stepped, counting}
use Rattle.mp_num.specs.Row.{entry}
use Rattle.mp_simplex.specs.declared.Lp.{Lp}
use Rattle.mp_simplex.specs.declared.Optimum.{Optimum}
use Rattle.mp_simplex.specs.Pivoting.{negative}

-- A product is formed, and then added to a sum.
unfoldable pub product_added : ℤ → ℤ → ℤ → Option ℤ
product_added s x y = option_and_then (λ t. within (s +ℤ t)) (within (x *ℤ y))

-- A sum takes in the product of the numbers at k.
abbrev pub plus_term : (ℕ → ℤ) → (ℕ → ℤ) → ℤ → ℕ → Option ℤ
plus_term u v s k = product_added s (u k) (v k)

-- The sum of n products begins at 0.
unfoldable pub dot : ℕ → (ℕ → ℤ) → (ℕ → ℤ) → Option ℤ
dot n u v = stepped (plus_term u v) (pos 0) (counting n 0)

-- A sum is at most a product, where both are there.
abbrev pub at_most : Option ℤ → Option ℤ → Option Bool
at_most s p = option_and_then (λ s. option_map (λ p. not (int_lt p s)) p) s

-- A sum is at least a product, where both are there.
abbrev pub at_least : Option ℤ → Option ℤ → Option Bool
at_least s p = option_and_then (λ s. option_map (λ p. not (int_lt s p)) p) s

-- Row i holds where its sum is at most its right side times the denominator.
abbrev pub row_holds : ℕ → List ℤ → List ℤ → List ℤ → ℤ → ℕ → Option Bool
row_holds n a b x d i = at_most (dot n (λ k. entry a (i * n + k)) (entry x)) (within (entry b i *ℤ d))

-- Column k holds where its sum is at least its coefficient of the objective times the denominator.
abbrev pub column_holds : ℕ → ℕ → List ℤ → List ℤ → List ℤ → ℤ → ℕ → Option Bool
column_holds m n a c y e k = at_least (dot m (λ i. entry a (i * n + k)) (entry y)) (within (entry c k *ℤ e))

-- Two tests hold together; each is formed, whatever the other says.
abbrev pub both : Option Bool → Option Bool → Option Bool
both s t = option_and_then (λ s. option_map (λ t. s && t) t) s

-- A test holds besides those so far.
abbrev pub and_then : (ℕ → Option Bool) → Bool → ℕ → Option Bool
and_then f ok k = both (Some ok) (f k)

-- All tests up to a count hold; each is formed, whatever the others say.
unfoldable pub all_hold : (ℕ → Option Bool) → ℕ → Option Bool
all_hold f count = stepped (and_then f) true (counting count 0)

-- Two products are equal, where both are there.
abbrev pub same_products : Option ℤ → Option ℤ → Option Bool
same_products l r = option_and_then (λ l. option_map (λ r. int_eq l r) r) l

-- A side has the value num over den where its sum of products over d is that.
unfoldable pub has_value : ℕ → List ℤ → List ℤ → ℤ → ℤ → ℤ → Option Bool
has_value n c x d num den = option_and_then (λ s. same_products (within (s *ℤ den)) (within (num *ℤ d))) (dot n (entry c) (entry x))

-- None of a list's numbers is negative.
abbrev pub none_negative : List ℤ → Bool
none_negative x = is_none (position negative x)

-- An optimum is checked row by row and column by column, and then for its value on both sides and for its signs.
unfoldable pub checked : Lp → Optimum → Option Bool
checked lp o =
    both (both (all_hold (row_holds lp.cols lp.a lp.b o.primal o.primal_den) lp.rows) (all_hold (column_holds lp.rows lp.cols lp.a lp.c o.dual o.dual_den) lp.cols))
    (both (both (has_value lp.cols lp.c o.primal o.primal_den o.value.num o.value.den) (has_value lp.rows lp.b o.dual o.dual_den o.value.num o.value.den)) (Some (none_negative o.primal && none_negative o.dual)))

-- A list has a term at each step from a start on.
pub record HasTerms (size start step count : ℕ) : Type 0 where
  pub at : (k : ℕ) → k < count → start + k * step < size
