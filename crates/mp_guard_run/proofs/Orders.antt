-- An account in order gives a candidate, and stays in order where one is taken.
use Rattle.std.proofs.Common.{◌≡◌, ℕ, suc, ◌+◌, ◌-◌, ◌%◌, ◌≤◌, true, List, [], length, filter, find, set, Option, Some, None, arith, refl, sym, ◌∙◌, ap, subst, ⊎_elim, mul-le-mul_left, add-one}
use Rattle.std.specs.Prelude.{IfSome}
use Rattle.std.proofs.Math.Nat.{mod-lt}
use Rattle.std.proofs.lemmas.Bool.{le-leb, false≢true}
use Rattle.mp_guarded.proofs.Candidates.{candidate_of}
use Rattle.mp_guarded.proofs.Greens.{next_place, left_over, made_new}
use Rattle.mp_guarded.proofs.Runs.{taken_is}
use Rattle.mp_laws.proofs.Lists.{has_filter}
use Rattle.mp_model.specs.Guard.{Guard, GreensFit, owing}
use Rattle.mp_model.specs.GuardedChoice.{candidates_in, guarded_stage, is_candidate}
use Rattle.mp_model.specs.GuardedRun.{Account, IsCandidate, is_idle, needed_in, owed_in, paid, paying}
use Rattle.mp_model.specs.Network.{Network, Junction, has, stage_numbers}
use Rattle.mp_served.proofs.Places.{range_has}
use Rattle.mp_guard_run.specs.Accounts.{IsInOrder}
use Rattle.mp_guard_run.specs.Choosing.{fits_or}
use Rattle.mp_guard_run.proofs.Sums.{less_length, owing_without}

known_at : (P : ℕ → Type 0) (o : Option ℕ) → IfSome o P → (r : ℕ) → o ≡ Some r → P r
known_at P None h r e = cc
known_at P (Some x) h r e = let is : x ≡ r = cc in subst P is h

module _ (guard : Guard) (some : 1 ≤ guard.cycle) (j : Junction) (t : ℕ) (account : Account) (order : IsInOrder guard j t account) where
  range : (r : ℕ) → account.before ≡ Some r → (1 ≤ r) × (r ≤ length j.stages)
  range r e = known_at (λ r. (1 ≤ r) × (r ≤ length j.stages)) account.before order.known r e

  candidate_some : (counts : ℕ → ℕ) → 1 ≤ length j.stages → (s : ℕ) × IsCandidate guard j counts t account s
  candidate_some counts stages = let lt = mod-lt t {m = guard.cycle} some in candidate_of guard j counts t account order.one_each (omega arith) stages account.before refl range order.fits

  pub takes_candidate : (net : Network) (counts : ℕ → ℕ) → 1 ≤ length j.stages → IsCandidate guard j counts t account (guarded_stage net guard j counts t account)
  takes_candidate net counts stages = let c = candidate_some counts stages in taken_is net guard j counts t account range c.0 c.1

  not_none : (counts : ℕ → ℕ) → 1 ≤ length j.stages → candidates_in guard j counts t account ≡ [] → ⊥
  not_none counts stages none =
      let c = candidate_some counts stages in
      let passes : is_candidate guard j counts t account c.0 ≡ true = le-leb (needed_in guard.lost (paid guard.lost j counts account c.0) c.0 + 1 + t % guard.cycle) guard.cycle c.1.fits in
      let there : has (candidates_in guard j counts t account) c.0 ≡ true = has_filter (is_candidate guard j counts t account) c.0 (stage_numbers j) (range_has 1 (length j.stages) c.0 c.1.is_stage.0 (omega (arith, c.1.is_stage.1))) passes in
      false≢true (sym (ap (λ ks. has ks c.0) none) ∙ there)

  pub some_fits : (counts : ℕ → ℕ) → 1 ≤ length j.stages → (idle : Option ℕ) → idle ≡ find (is_idle j counts account.owed) (stage_numbers j) → filter (fits_or guard t account idle) (stage_numbers j) ≡ [] → ⊥
  some_fits counts stages idle e none = subst (λ (i : Option ℕ). filter (fits_or guard t account i) (stage_numbers j) ≡ [] → ⊥) (sym e) (not_none counts stages) none

  module _ (greens : List ℕ) (size : length greens ≡ length j.stages) (fit : GreensFit guard greens) (counts : ℕ → ℕ) (s : ℕ) (candidate : IsCandidate guard j counts t account s) where
    fits_then : needed_in guard.lost (owed_in guard.cycle greens (suc t) (paid guard.lost j counts account s)) s + suc t % guard.cycle ≤ guard.cycle
    fits_then =
        let after : List ℕ = paid guard.lost j counts account s in
        let fits = candidate.fits in
        ⊎_elim
        (λ e. subst (λ owed. needed_in guard.lost owed s + suc t % guard.cycle ≤ guard.cycle) (sym (left_over guard.cycle t some greens after e.0)) (omega (arith, e.0)))
        (λ e. subst (λ owed. needed_in guard.lost owed s + suc t % guard.cycle ≤ guard.cycle) (sym (made_new guard.cycle t some greens after e.0))
        (let at = candidate.is_stage in
        let without = owing_without greens s at.0 (omega (arith, at.1)) in
        let fewer : owing (set greens (s - 1) 0) ≤ owing greens = omega arith in
        let m = mul-le-mul_left guard.lost fewer in
        omega (arith, e.0)))
        (next_place guard.cycle t some)

    size_then : length (owed_in guard.cycle greens (suc t) (paid guard.lost j counts account s)) ≡ length j.stages
    size_then =
        let after : List ℕ = paid guard.lost j counts account s in
        ⊎_elim
        (λ e. ap length (left_over guard.cycle t some greens after e.0) ∙ less_length account.owed (paying guard.lost j counts account s) ∙ order.one_each)
        (λ e. ap length (made_new guard.cycle t some greens after e.0) ∙ size)
        (next_place guard.cycle t some)

    order_then : IsInOrder guard j (suc t) (record { owed = owed_in guard.cycle greens (suc t) (paid guard.lost j counts account s); before = Some s })
    order_then = record { one_each = size_then; known = candidate.is_stage; fits = fits_then }

    pub order_after : IsInOrder guard j (t + 1) (record { owed = owed_in guard.cycle greens (t + 1) (paid guard.lost j counts account s); before = Some s })
    order_after = subst (λ n. IsInOrder guard j n (record { owed = owed_in guard.cycle greens n (paid guard.lost j counts account s); before = Some s })) (sym (add-one t)) order_then
