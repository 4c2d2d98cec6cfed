-- Bursts that come to rest do so under the surpluses of the network, of which there is one list.
use Rattle.std.proofs.Common.{◌≡◌, ◌<◌, ℕ, List, length, get_or, suc, arith, sym, ◌∙◌, ap, subst}
use Rattle.std.proofs.lemmas.List.{ext_get_or}
use Rattle.mp_laws.proofs.Lists.{at_number, back_one}
use Rattle.mp_model.specs.Guard.{Guard, IsSurplus}
use Rattle.mp_model.specs.GuardedBursts.{AreAtRest, swept}
use Rattle.mp_model.specs.Network.{Network, entry}
use Rattle.mp_guard.specs.Bursts.{NoneRests, ComeToRest}
use Rattle.mp_guard.specs.Surpluses.{AreSurpluses}

same_surplus : (net : Network) (k a b : ℕ) → IsSurplus net k a → IsSurplus net k b → a ≡ b
same_surplus net k a b one other = let le = one.least b other.holds in let ge = other.least a one.holds in omega (arith, le, ge)

same_surpluses : (net : Network) (xs ys : List ℕ) → AreSurpluses net xs → AreSurpluses net ys → xs ≡ ys
same_surpluses net xs ys one other =
    ext_get_or 0 xs ys (one.count ∙ sym other.count)
    (λ i lt.
    (let within : i < length net.movements = omega (arith, lt, one.count) in
    let same =
    same_surplus net (suc i) (entry xs (suc i)) (entry ys (suc i)) (at_number (λ k. IsSurplus net k (entry xs k)) (length net.movements) i within one.each)
    (at_number (λ k. IsSurplus net k (entry ys k)) (length net.movements) i within other.each) in
    ap (λ n. get_or xs n 0) (sym (back_one i)) ∙ same ∙ ap (λ n. get_or ys n 0) (back_one i)))

-- where none of the first sweeps leaves its list as it is, the bursts don't come to rest
pub no_rest : (net : Network) (guard : Guard) (surpluses : List ℕ) → AreSurpluses net surpluses → NoneRests net guard surpluses → ComeToRest net guard → ⊥
no_rest net guard surpluses are none rest =
    let same = same_surpluses net rest.surpluses surpluses rest.are are in
    let found = rest.found in
    none found.sweeps found.few
    (subst (λ (bursts : List ℕ). AreAtRest net guard (entry surpluses) bursts) (found.found ∙ ap (λ xs. swept net guard (entry xs) found.sweeps) same)
    (subst (λ (xs : List ℕ). AreAtRest net guard (entry xs) rest.bursts) same found.rest))
