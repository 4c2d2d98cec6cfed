-- Permitted arrivals, and what came before them.
use Rattle.std.proofs.Common.{◌≡◌, ℕ, List, [], ◌∷◌, ◌++◌, refl, ◌∙◌, ap, subst, append_assoc}
use Rattle.mp_model.specs.Network.{Network, fed, link_at}
use Rattle.mp_model.specs.Arrivals.{KeepsTo, counts_of, arrivals_of, IsPermitted}
use Rattle.mp_laws.specs.Buckets.{IsFirstAbove}
use Rattle.mp_laws.proofs.Lists.{at_in, each_in}
use Rattle.mp_laws.proofs.Windows.{keeps_to}

-- no arrivals are permitted
pub permitted_empty : (net : Network) → IsPermitted net []
permitted_empty net = record { counts = tt; windows = each_in _ (fed net) (λ l f. keeps_to net.per (link_at net l).burst (link_at net l).rate [] tt) }

-- what keeps to its bucket kept to it before
pub keeps_first : (per burst rate : ℕ) (cs more : List ℕ) → KeepsTo per burst rate (cs ++ more) → KeepsTo per burst rate cs
keeps_first per burst rate cs more keeps before window after e =
    keeps before window (after ++ more) (ap (λ xs. xs ++ more) e ∙ append_assoc before (window ++ after) more ∙ ap (λ xs. before ++ xs) (append_assoc window after more))

counts_before : (net : Network) (A rest : List (List ℕ)) (counts : List ℕ) (l : ℕ) → counts_of net (A ++ counts ∷ rest) l ≡ counts_of net (A ++ counts ∷ []) l ++ counts_of net rest l
counts_before net [] rest counts l = refl
counts_before net (a ∷ A) rest counts l = ap (λ cs. arrivals_of net a l ∷ cs) (counts_before net A rest counts l)

-- no link is above its bucket in permitted arrivals
pub none_above : (net : Network) (A rest : List (List ℕ)) (counts : List ℕ) (l : ℕ) → IsPermitted net (A ++ counts ∷ rest) → ¬ IsFirstAbove net A counts l
none_above net A rest counts l permitted is =
    let keeps = at_in (λ m. KeepsTo net.per (link_at net m).burst (link_at net m).rate (counts_of net (A ++ counts ∷ rest) m)) l (fed net) is.of_fed permitted.windows in
    is.above (keeps_first net.per (link_at net l).burst (link_at net l).rate (counts_of net (A ++ counts ∷ []) l) (counts_of net rest l) (subst (KeepsTo net.per (link_at net l).burst (link_at net l).rate) (counts_before net A rest counts l) keeps))
