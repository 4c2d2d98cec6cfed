-- The loop that compares the parts of each junction with its stages.
use Rattle.std.proofs.Common.{◌≡◌, ℕ, zero, suc, ◌+◌, ◌<◌, ◌≤◌, true, false, nat_eq, List, [], ◌∷◌, ◌++◌, length, IsTrue, ◌↔◌, arith, refl, ap, sym, ◌∙◌, subst}
use Rattle.std.specs.List.{AllByRecursion, range_with_len}
use Rattle.mp_model.specs.Network.{Network, junction_at, junction_numbers, numbers_to}
use Rattle.mp_model.specs.Certificate.{Cert, mix_at}
use Rattle.mp_laws.proofs.Lists.{at_in}
use Rattle.mp_cert.proofs.PlaceLemmas.{in_list}
use Rattle.mp_cert.proofs.CheckLaw.{all_join}

abbrev pub Fits : Network → Cert → ℕ → Type 0
Fits net cert j = length (mix_at cert j).parts ≡ length (junction_at net j).stages

-- the junctions so far have a part per stage
pub record Fitting (net : Network) (cert : Cert) (j : ℕ) : Type 0 where
  pub all : AllByRecursion (Fits net cert) (numbers_to j)

numbers_more : (i n : ℕ) → range_with_len i (n + 1) ≡ range_with_len i n ++ (i + n) ∷ []
numbers_more i zero = ap (λ k. k ∷ []) (omega arith)
numbers_more i (suc n) =
    let size : suc n + 1 ≡ suc (n + 1) = omega arith in
    let last : (i + 1) + n ≡ i + suc n = omega arith in
    ap (range_with_len i) size ∙ ap (λ (ks : List ℕ). i ∷ ks) (numbers_more (i + 1) n) ∙ ap (λ k. i ∷ (range_with_len (i + 1) n ++ k ∷ [])) last

pub fitting_start : (net : Network) (cert : Cert) → Fitting net cert 0
fitting_start net cert = record { all = tt }

pub fitting_more : (net : Network) (cert : Cert) (j : ℕ) → Fitting net cert j → nat_eq (length (mix_at cert (j + 1)).parts) (length (junction_at net (j + 1)).stages) ≡ true → Fitting net cert (j + 1)
fitting_more net cert j f e =
    let here : Fits net cert (1 + j) = let turn : j + 1 ≡ 1 + j = omega arith in subst (Fits net cert) turn (grind (arith, e)) in
    record { all = subst (λ (ks : List ℕ). AllByRecursion (Fits net cert) ks) (sym (numbers_more 1 j)) (all_join (Fits net cert) (numbers_to j) ((1 + j) ∷ []) f.all (here, tt)) }

pub fitting_end : (net : Network) (cert : Cert) (n j : ℕ) → Fitting net cert j → n ≡ length net.junctions → n ≤ j → j ≤ n → IsTrue true ↔ AllByRecursion (Fits net cert) (junction_numbers net)
fitting_end net cert n j f e h l = (λ t. let same : j ≡ length net.junctions = omega (arith, e) in subst (λ m. AllByRecursion (Fits net cert) (numbers_to m)) same f.all, λ a. refl)

pub fitting_fails : (net : Network) (cert : Cert) (n j : ℕ) → n ≡ length net.junctions → j < n → nat_eq (length (mix_at cert (j + 1)).parts) (length (junction_at net (j + 1)).stages) ≡ false → IsTrue false ↔ AllByRecursion (Fits net cert) (junction_numbers net)
fitting_fails net cert n j e h t = (
  λ s. absurd (cc),
  λ a. let here : Fits net cert (j + 1) = at_in (Fits net cert) (j + 1) (junction_numbers net) (in_list (length net.junctions) (j + 1) (omega arith) (omega (arith, e))) a in absurd (grind (arith, here, t)),
)

pub ruleset fitting = (fitting_start, fitting_more, fitting_end, fitting_fails)
