-- An answer of known stages fits.
use Rattle.std.proofs.Common.{◌≡◌, ◌≤◌, ℕ, ℤ, ◌+◌, ◌-◌, List, length, get_or, arith, subst, sym, ◌∙◌, ap}
use Rattle.std.specs.List.{All}
use Rattle.std.proofs.lemmas.List.{get_or_default}
use Rattle.mp_guard.proofs.RuleLemmas.{stages_few}
use Rattle.mp_guard_run.specs.Accounts.{AreKnown}
use Rattle.mp_guard_run.proofs.Places.{known_at}
use Rattle.mp_model.specs.Network.{Network, entry}
use Rattle.mp_model.specs.NetworkRules.{IsAcceptable}
use Rattle.mp_control.specs.Answers.{FitsAnswer}
use Rattle.mp_control.specs.Input.{AreSmall}

stages_small : (net : Network) → IsAcceptable net → (stages : List ℕ) → length stages ≡ length net.junctions → AreKnown net stages → All (λ s. s ≤ 16) stages
stages_small net ok stages size known k d low =
    let back : k ≡ (k + 1) - 1 = omega arith in
    let at = known_at net stages known (k + 1) (omega arith) (omega arith) in
    let few = stages_few net ok (k + 1) in
    let small : entry stages (k + 1) ≤ 16 = omega (arith, at.1) in
    subst (λ n. n ≤ 16) (sym (get_or_default stages k d 0 low ∙ ap (λ n. get_or stages n 0) back)) small

pub answer_fits : (net : Network) → IsAcceptable net → (counts : List ℤ) (stages : List ℕ) → AreSmall counts → length counts ≡ length net.movements → length stages ≡ length net.junctions → AreKnown net stages → FitsAnswer counts stages
answer_fits net ok counts stages small size junctions known = record {
  small = small;
  few_counts = let movements = ok.range.movements in omega (arith, movements.1);
  few_stages = let most = ok.range.junctions in omega (arith, most.1);
  stages_in = stages_small net ok stages junctions known;
}
