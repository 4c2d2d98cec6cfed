-- A demonstration has one list of arrivals for so many periods.
use Rattle.std.proofs.Common.{◌≡◌, ◌≤◌, ℕ, min, List, [], ◌∷◌, ◌++◌, length, arith, refl, sym, ◌∙◌, ap, ap₂, subst}
use Rattle.rand_pcg.specs.Lcg.{Lcg}
use Rattle.rand_pcg.specs.Pcg.{pcg32}
use Rattle.mp_model.specs.Network.{Network, fed}
use Rattle.mp_gen.specs.DemoArrivals.{wish, IsMost, IsArrival, IsDrawn, AreDrawn}

one_most : (per burst rate : ℕ) (cs : List ℕ) (m n : ℕ) → IsMost per burst rate cs m → IsMost per burst rate cs n → m ≡ n
one_most per burst rate cs m n a b =
    let below : m ≤ n = b.greatest m a.keeps in
    let above : n ≤ m = a.greatest n b.keeps in
    omega arith

one_arrival : (net : Network) (A : List (List ℕ)) (l word c d : ℕ) → IsArrival net A l word c → IsArrival net A l word d → c ≡ d
one_arrival net A l word c d a b = a.lesser ∙ ap (λ m. min (wish l word) m) (one_most _ _ _ _ a.most b.most a.is_most b.is_most) ∙ sym b.lesser

-- a period has one list of counts, and leaves one generator
pub record IsSame (counts others : List ℕ) (left other : Lcg) : Type 0 where
  pub counts_are : counts ≡ others
  pub left_is : left ≡ other

one_period : (net : Network) (A : List (List ℕ)) (ls : List ℕ) (words : Lcg) (cs ds : List ℕ) (left other : Lcg) → IsDrawn net A ls words cs left → IsDrawn net A ls words ds other → IsSame cs ds left other
one_period net A [] words [] [] left other a b = record { counts_are = refl; left_is = a ∙ sym b }
one_period net A [] words [] (d ∷ ds) left other a b = absurd b
one_period net A [] words (c ∷ cs) ds left other a b = absurd a
one_period net A (l ∷ ls) words [] ds left other a b = absurd a
one_period net A (l ∷ ls) words (c ∷ cs) [] left other a b = absurd b
one_period net A (l ∷ ls) words (c ∷ cs) (d ∷ ds) left other a b =
    let rest = one_period net A ls (pcg32 words).1 cs ds left other a.1 b.1 in
    record { counts_are = ap₂ (λ x xs. x ∷ xs) (one_arrival net A l (pcg32 words).0 c d a.0 b.0) rest.counts_are; left_is = rest.left_is }

pub one_drawn : (net : Network) (before : List (List ℕ)) (words : Lcg) (A B : List (List ℕ)) (left other : Lcg) → AreDrawn net before words A left → AreDrawn net before words B other → length A ≡ length B → A ≡ B
one_drawn net before words [] [] left other a b e = refl
one_drawn net before words [] (d ∷ B) left other a b e = absurd (omega arith)
one_drawn net before words (c ∷ A) [] left other a b e = absurd (omega arith)
one_drawn net before words (c ∷ A) (d ∷ B) left other a b e =
    let same = one_period net before (fed net) words c d a.0 b.0 a.1 b.1 in
    let b' : AreDrawn net (before ++ c ∷ []) a.0 B other =
    subst (λ (cs : List ℕ). AreDrawn net (before ++ cs ∷ []) a.0 B other) (sym same.counts_are) (subst (λ (w : Lcg). AreDrawn net (before ++ d ∷ []) w B other) (sym same.left_is) b.2) in
    ap₂ (λ x xs. x ∷ xs) same.counts_are (one_drawn net (before ++ c ∷ []) a.0 A B left other a.2 b' (omega arith))
