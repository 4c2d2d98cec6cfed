-- A period with the flags of the movements that are green is one of the guarded run.
use Rattle.std.proofs.Common.{◌≡◌, ℕ, ◌-◌, false, cond, min, List, length, arith, sym, ◌∙◌, ap, subst}
use Rattle.std.specs.List.{AllByRecursion}
use Rattle.std.proofs.lemmas.List.FromFn.{get_or-map-range_with_len}
use Rattle.mp_laws.proofs.Lists.{each_in, in_numbers}
use Rattle.mp_model.specs.Arrivals.{arrivals_of}
use Rattle.mp_model.specs.Guard.{Guard}
use Rattle.mp_model.specs.GuardedChoice.{GuardedState, guarded_advance, guarded_stages, guarded_step, passes_under}
use Rattle.mp_model.specs.GuardedRun.{Account}
use Rattle.mp_model.specs.Network.{Network, entry, flow_of, movement_numbers}
use Rattle.mp_model.specs.Step.{State, queue}
use Rattle.mp_step.proofs.SamePasses.{step_same}
use Rattle.mp_step.specs.OpenStep.{flag, open_step, passed_open}
use Rattle.mp_step.specs.Standing.{Standing, Stands}
use Rattle.mp_guard_run.specs.Accounts.{accounts_after, green_flags, is_green_under, stages_by}

as_flags : (net : Network) (guard : Guard) (now : GuardedState) (stages : List ℕ) → AllByRecursion (λ k. passes_under net guard now stages k ≡ passed_open net (green_flags net guard now.accounts stages) (queue now.state) k) (movement_numbers net)
as_flags net guard now stages = each_in _ (movement_numbers net) (λ k h.
    let i = in_numbers (length net.movements) k h in
    let read : flag (green_flags net guard now.accounts stages) k ≡ is_green_under net guard now.accounts stages k = get_or-map-range_with_len (is_green_under net guard now.accounts stages) 1 (length net.movements) (k - 1) k false (omega (arith, i)) (omega (arith, i)) in
    ap (λ b. cond b (min (flow_of net k) (queue now.state k)) 0) (sym read))

flags_agree : (net : Network) (guard : Guard) (now : GuardedState) (counts : ℕ → ℕ) (stages arrivals : List ℕ) → (guarded_step net guard counts stages arrivals now).state ≡ open_step net (green_flags net guard now.accounts stages) (arrivals_of net arrivals) now.state
flags_agree net guard now counts stages arrivals = step_same net _ _ (as_flags net guard now stages) (arrivals_of net arrivals) now.state

module _ (net : Network) (guard : Guard) (old : Standing) (accounts : List Account) (now : GuardedState) (stands : Stands net old now.state) (paid : accounts ≡ now.accounts) (stages arrivals : List ℕ) (chosen : stages ≡ stages_by net guard (entry old.queues) old.period accounts) where
  pub stages_are : stages ≡ guarded_stages net guard (queue now.state) now
  stages_are =
      chosen ∙ ap (λ qs. stages_by net guard (entry qs) old.period accounts) stands.queues ∙ ap (λ t. stages_by net guard (queue now.state) t accounts) stands.period ∙ ap (λ xs. stages_by net guard (queue now.state) now.state.period xs) paid

  pub stands_next : (new : Standing) → ((state : State) → Stands net old state → Stands net new (open_step net (green_flags net guard accounts stages) (arrivals_of net arrivals) state)) → Stands net new (guarded_advance net guard arrivals now).state
  stands_next new closes =
      let flags = ap (λ xs. green_flags net guard xs stages) paid in
      let at : Stands net new (open_step net (green_flags net guard now.accounts stages) (arrivals_of net arrivals) now.state) = subst (λ fs. Stands net new (open_step net fs (arrivals_of net arrivals) now.state)) flags (closes now.state stands) in
      let stepped : Stands net new (guarded_step net guard (queue now.state) stages arrivals now).state = subst (Stands net new) (sym (flags_agree net guard now (queue now.state) stages arrivals)) at in
      subst (λ (ss : List ℕ). Stands net new (guarded_step net guard (queue now.state) ss arrivals now).state) stages_are stepped

  pub paid_next : (new : List Account) → new ≡ accounts_after net guard (entry old.queues) old.period accounts stages → new ≡ (guarded_advance net guard arrivals now).accounts
  paid_next new is =
      is ∙ ap (λ qs. accounts_after net guard (entry qs) old.period accounts stages) stands.queues ∙ ap (λ t. accounts_after net guard (queue now.state) t accounts stages) stands.period
      ∙ ap (λ xs. accounts_after net guard (queue now.state) now.state.period xs stages) paid ∙ ap (λ ss. accounts_after net guard (queue now.state) now.state.period now.accounts ss) stages_are
