-- Sums of terms of a junction's movements and the values beside them.
use Rattle.std.proofs.Common.{to_z-of_z, ◌≡◌, ℕ, suc, ◌+◌, ◌-◌, ◌<◌, ◌≤◌, List, [], ◌∷◌, All, drop, get_or, length, ℤ, pos, ◌+ℤ◌, ◌*ℤ◌, ◌≤ℤ◌, Option, Some, None, option_and_then, refl, ap, sym, ◌∙◌, subst, arith}
use Rattle.std.specs.List.{AllByRecursion}
use Rattle.std.proofs.lemmas.Int.{ints}
use Rattle.std.proofs.lemmas.List.{drop_all, drop_more}
use Rattle.mp_model.specs.Sums.{int_sum_by}
use Rattle.mp_model.specs.Network.{Network, junction_at, own, stands_in, movement_numbers}
use Rattle.mp_model.specs.NetworkRules.{IsNetwork}
use Rattle.mp_laws.proofs.Lists.{each_in, filter_sub}
use Rattle.mp_flow.specs.Systems.{Flows, AreFlows}
use Rattle.mp_num.specs.Operations.{times, plus, num}
use Rattle.mp_verdict.specs.Game.{summed_beside}
use Rattle.mp_verdict.specs.Rates.{unit_need}
use Rattle.mp_admit.specs.Scores.{AreValues, AskSome}
use Rattle.mp_admit.proofs.TermLemmas.{among}
use Rattle.mp_admit.proofs.RowLemmas.{own_known}
use Rattle.mp_admit.proofs.SlackLemmas.{factors, summands, some_injective, product_least, unit_positive, over_positive}

-- a sum so far
pub record Summing (f : ℕ → ℤ → Option ℤ) (ks : List ℕ) (zs : List ℤ) (i : ℕ) (sum : ℤ) : Type 0 where
  pub rest : summed_beside f (pos 0) ks zs ≡ summed_beside f sum (drop i ks) (drop i zs)

pub summing_start : (f : ℕ → ℤ → Option ℤ) (ks : List ℕ) (zs : List ℤ) → Summing f ks zs 0 (pos 0)
summing_start f ks zs = record { rest = refl }

summed_at : (f : ℕ → ℤ → Option ℤ) (sum : ℤ) (ks : List ℕ) (zs : List ℤ) (i : ℕ) → i < length ks → i < length zs →
    summed_beside f sum (drop i ks) (drop i zs) ≡ option_and_then (λ t. summed_beside f t (drop (i + 1) ks) (drop (i + 1) zs)) (plus (Some sum) (f (get_or ks i 0) (get_or zs i (pos 0))))
unfolding summed_beside
summed_at f sum ks zs i h l = rw (drop_more ks i 0 h, drop_more zs i (pos 0) l) refl

pub summing_more : (f : ℕ → ℤ → Option ℤ) (ks : List ℕ) (zs : List ℤ) (i : ℕ) (sum next : ℤ) → Summing f ks zs i sum → i < length ks → length zs ≡ length ks → plus (Some sum) (f (get_or ks i 0) (get_or zs i (pos 0))) ≡ Some next → Summing f ks zs (i + 1) next
summing_more f ks zs i sum next s h l e = record {
  rest = s.rest ∙ summed_at f sum ks zs i h (omega (arith, l)) ∙ ap (option_and_then (λ t. summed_beside f t (drop (i + 1) ks) (drop (i + 1) zs))) e;
}

pub summing_with : (f : ℕ → ℤ → Option ℤ) (ks : List ℕ) (zs : List ℤ) (i : ℕ) (sum next n z : ℤ) → n ≡ next → Summing f ks zs i sum → i < length ks → length zs ≡ length ks → z ≡ get_or zs i (pos 0) → plus (Some sum) (f (get_or ks i 0) z) ≡ Some next → Summing f ks zs (i + 1) n
summing_with f ks zs i sum next n z w s h l same e = summing_more f ks zs i sum n s h l (ap (λ y. plus (Some sum) (f (get_or ks i 0) y)) (sym same) ∙ e ∙ ap Some (sym w))

pub summing_fails : (f : ℕ → ℤ → Option ℤ) (ks : List ℕ) (zs : List ℤ) (i : ℕ) (sum : ℤ) → Summing f ks zs i sum → i < length ks → length zs ≡ length ks → plus (Some sum) (f (get_or ks i 0) (get_or zs i (pos 0))) ≡ None → summed_beside f (pos 0) ks zs ≡ None
summing_fails f ks zs i sum s h l e = s.rest ∙ summed_at f sum ks zs i h (omega (arith, l)) ∙ ap (option_and_then (λ t. summed_beside f t (drop (i + 1) ks) (drop (i + 1) zs))) e

pub summing_end : (f : ℕ → ℤ → Option ℤ) (ks : List ℕ) (zs : List ℤ) (i : ℕ) (sum : ℤ) → Summing f ks zs i sum → length ks ≤ i → summed_beside f (pos 0) ks zs ≡ Some sum
unfolding summed_beside
summing_end f ks zs i sum s h = s.rest ∙ rw (drop_all i ks h) refl

pub ruleset summing = (to_z-of_z, own_known, summing_start, summing_more, summing_fails, summing_end)

-- a sum that is there is at least that of the values
then_some : {X Y : Type 0} (o : Option X) (go : X → Option Y) (y : Y) → option_and_then go o ≡ Some y → (x : X) × ((o ≡ Some x) × (go x ≡ Some y))
then_some None go y e = cc
then_some (Some x) go y e = (x, (refl, e))

module _ (net : Network) (flows : Flows) (ok : IsNetwork net) (a : AreFlows net flows) where
  pub summed_least : (ks : List ℕ) (zs : List ℤ) (sum s : ℤ) → AllByRecursion (λ k. (1 ≤ k) × (k ≤ length net.movements)) ks → AllByRecursion (λ z. pos 0 ≤ℤ z) zs → length zs ≡ length ks →
      summed_beside (λ k z. times (unit_need net flows k) (Some z)) sum ks zs ≡ Some s → (sum +ℤ int_sum_by (λ (z : ℤ). z) zs) ≤ℤ s
  unfolding summed_beside
  summed_least [] [] sum s k z l e = let same : sum ≡ s = cc in omega (arith, ints, same)
  summed_least [] (z ∷ zs) sum s k p l e = absurd (omega (arith, l))
  summed_least (k ∷ ks) [] sum s known p l e = absurd (omega (arith, l))
  summed_least (k ∷ ks) (z ∷ zs) sum s known p l e =
      let t = then_some (plus (Some sum) (times (unit_need net flows k) (Some z))) (λ t. summed_beside (λ k z. times (unit_need net flows k) (Some z)) t ks zs) s e in
      let parts = summands (Some sum) (times (unit_need net flows k) (Some z)) t.0 t.1.0 in
      let f = factors (unit_need net flows k) (Some z) parts.right parts.is_right in
      let one : pos 1 ≤ℤ f.left = unit_positive net flows k f.left ok a known.0 f.is_left in
      let same : z ≡ f.right = some_injective f.is_right in
      let first : sum ≡ parts.left = some_injective parts.is_left in
      let sign : pos 0 ≤ℤ f.right = subst (λ (y : ℤ). pos 0 ≤ℤ y) same p.0 in
      let more : f.right ≤ℤ (f.left *ℤ f.right) = product_least f.left f.right one sign in
      let rest : (t.0 +ℤ int_sum_by (λ (z : ℤ). z) zs) ≤ℤ s = summed_least ks zs t.0 s known.1 p.1 (omega (arith, l)) t.1.1 in
      omega (arith, ints, parts.value, f.value, same, first, more, rest)

pub own_all : (net : Network) (j : ℕ) → AllByRecursion (λ k. (1 ≤ k) × (k ≤ length net.movements)) (own net (junction_at net j))
own_all net j = each_in (λ k. (1 ≤ k) × (k ≤ length net.movements)) (own net (junction_at net j)) (λ k h. among (length net.movements) k (filter_sub (stands_in (junction_at net j)) (movement_numbers net) k h))

all_by : (zs : List ℤ) → All (λ z. pos 0 ≤ℤ z) zs → AllByRecursion (λ z. pos 0 ≤ℤ z) zs
all_by [] h = tt
all_by (z ∷ zs) h = (h 0 (pos 0) (omega arith), all_by zs (λ k u l. h (suc k) u (omega arith)))

pub of_positive : (net : Network) (flows : Flows) (j : ℕ) (zs : List ℤ) (v : ℤ) → IsNetwork net → AreFlows net flows → AreValues net j zs → AskSome zs →
    times (num net.per) (summed_beside (λ k z. times (unit_need net flows k) (Some z)) (pos 0) (own net (junction_at net j)) zs) ≡ Some v → pos 1 ≤ℤ v
of_positive net flows j zs v ok a values some e =
    let f = factors (num net.per) (summed_beside (λ k z. times (unit_need net flows k) (Some z)) (pos 0) (own net (junction_at net j)) zs) v e in
    let least = summed_least net flows ok a (own net (junction_at net j)) zs (pos 0) f.right (own_all net j) (all_by zs values.sign) values.size f.is_right in
    over_positive net (summed_beside (λ k z. times (unit_need net flows k) (Some z)) (pos 0) (own net (junction_at net j)) zs) f.right v ok f.is_right (omega (arith, ints, least, some)) e
