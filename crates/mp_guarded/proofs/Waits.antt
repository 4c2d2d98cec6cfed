-- How long a movement is without green, in a play by any counts and in the guarded run.
use Rattle.std.proofs.Common.{◌≡◌, ℕ, zero, suc, ◌+◌, ◌≤◌, ◌<◌, Bool, true, false, cond, ◌||◌, List, [], ◌∷◌, ◌++◌, length, get_or, arith, refl, sym, ◌∙◌, ap, subst, ⊎_elim, le_refl}
use Rattle.std.specs.List.{AllByRecursion, list_any}
use Rattle.std.proofs.lemmas.Bool.{cases_lt, false≢true}
use Rattle.mp_laws.proofs.Lists.{at_in, each_in}
use Rattle.mp_model.specs.Guard.{Guard, Guards, GuardedServeRule, greens_at}
use Rattle.mp_model.specs.GuardedChoice.{GuardedState, guarded_advance, guarded_run, guarded_run_from}
use Rattle.mp_model.specs.GuardedRun.{Play, green_in, is_green, stage_of}
use Rattle.mp_model.specs.Lights.{greens_in}
use Rattle.mp_model.specs.Network.{Network, has, junction_at, junction_of_movement, movement_numbers}
use Rattle.mp_model.specs.NetworkRules.{IsNetwork}
use Rattle.mp_model.specs.Step.{queue}
use Rattle.mp_guarded.specs.Greens.{IsCounted}
use Rattle.mp_guarded.specs.Waits.{IsGreenWhereCounted, IsServedWithin, KeepsWaits, PlaysCandidates, is_green_from, wait_of}
use Rattle.mp_guarded.proofs.Greens.{wait_holds}
use Rattle.mp_guarded.proofs.Plays.{greens_kept}
use Rattle.mp_guarded.proofs.Runs.{account_is, keeps_until, play, run_at}
use Rattle.mp_served.proofs.Places.{junction_in}
use Rattle.mp_served.proofs.Rows.{from_none}

pub play_waits : (net : Network) → IsNetwork net → (guard : Guard) → Guards net guard → (play : Play) (T : ℕ) → ((t : ℕ) → t < T → PlaysCandidates net guard play t) → AllByRecursion (IsGreenWhereCounted net guard play T) (movement_numbers net)
play_waits net ok guard guards play T candidates = each_in (IsGreenWhereCounted net guard play T) (movement_numbers net) (λ k in' a le counted.
    let j = junction_of_movement net k in
    let serve = at_in (GuardedServeRule net guard) k (movement_numbers net) in' guards.serves in
    wait_holds guard (greens_at guard j) (junction_at net j) play.counts (stage_of play j) T (greens_kept net guard guards play T candidates j (junction_in net ok k in')) k a serve.some le counted)

-- ---- a list of states that follows a sequence
Follows : {X : Type 0} → (ℕ → X) → ℕ → List X → Type 0
Follows f s [] = Unit {0}
Follows f s (x ∷ xs) = (x ≡ f s) × Follows f (suc s) xs

front_follows : {X : Type 0} (f : ℕ → X) (s : ℕ) (row after : List X) → Follows f s (row ++ after) → Follows f s row
unfolding Follows
front_follows f s [] after h = tt
front_follows f s (x ∷ row) after h = (h.0, front_follows f (suc s) row after h.1)

-- a part of such a list follows it from its place on
part_follows : {X : Type 0} (f : ℕ → X) (s : ℕ) (before row after : List X) → Follows f s (before ++ (row ++ after)) → Follows f (s + length before) row
unfolding Follows
part_follows f s (x ∷ before) row after h = let place : suc s + length before ≡ s + length (x ∷ before) = omega arith in subst (λ n. Follows f n row) place (part_follows f (suc s) before row after h.1)
part_follows f s [] row after h = let place : s ≡ s + 0 = omega arith in subst (λ n. Follows f n row) place (front_follows f s row after h)

-- what holds of all of its states holds at all of its places
at_all : {X : Type 0} (P : X → Type 0) (f : ℕ → X) (s : ℕ) (row : List X) → Follows f s row → AllByRecursion P row → (u : ℕ) → s ≤ u → u < s + length row → P (f u)
unfolding Follows
at_all P f s [] follows all u low high = absurd (omega arith)
at_all P f s (x ∷ row) follows all u low high = ⊎_elim
    (λ (later : s < u). at_all P f (suc s) row follows.1 all.1 u later (omega arith))
    (λ (here : u ≤ s). let e : s ≡ u = omega arith in subst (λ n. P (f n)) e (subst P follows.0 all.0))
    (cases_lt s u)

-- where none of its states is green, no place is
no_greens : {X : Type 0} (green : X → Bool) (f : ℕ → X) (s : ℕ) (row : List X) → Follows f s row → list_any green row ≡ false → (u : ℕ) → s ≤ u → u < s + length row → green (f u) ≡ false
unfolding Follows
no_greens green f s [] follows none u low high = absurd (omega arith)
no_greens green f s (x ∷ row) follows none u low high =
    let parts = neither (green x) (list_any green row) none in
    ⊎_elim
    (λ (later : s < u). no_greens green f (suc s) row follows.1 parts.1 u later (omega arith))
    (λ (here : u ≤ s). let e : s ≡ u = omega arith in subst (λ n. green (f n) ≡ false) e (subst (λ y. green y ≡ false) follows.0 parts.0))
    (cases_lt s u)
  where
    neither : (a b : Bool) → (a || b) ≡ false → (a ≡ false) × (b ≡ false)
    neither true b e = absurd (false≢true (sym e))
    neither false b e = (refl, e)

none_counted : (green : ℕ → Bool) (a n : ℕ) → ((u : ℕ) → a ≤ u → u < a + n → green u ≡ false) → greens_in green a n ≡ 0
none_counted green a zero none = refl
none_counted green a (suc n) none =
    let more = none_counted green a n (λ u low high. none u low (omega arith)) in
    let last : cond {A = ℕ} (green (a + n)) 1 0 ≡ 0 = ap (λ b. cond {A = ℕ} b 1 0) (none (a + n) (omega arith) (omega arith)) in
    omega arith

-- so one of its states is green where one of its places is
some_state : {X : Type 0} (green : X → Bool) (f : ℕ → X) (s : ℕ) (row : List X) → Follows f s row → 1 ≤ greens_in (λ t. green (f t)) s (length row) → list_any green row ≡ true
some_state green f s row follows some = go (list_any green row) refl
  where
    go : (b : Bool) → list_any green row ≡ b → b ≡ true
    go true e = refl
    go false e = let none = none_counted (λ t. green (f t)) s (length row) (no_greens green f s row follows e) in absurd (omega arith)

pub same_greens : (f g : ℕ → Bool) (a n : ℕ) → ((t : ℕ) → f t ≡ g t) → greens_in f a n ≡ greens_in g a n
same_greens f g a zero same = refl
same_greens f g a (suc n) same =
    let more = same_greens f g a n same in
    let last : cond {A = ℕ} (f (a + n)) 1 0 ≡ cond {A = ℕ} (g (a + n)) 1 0 = ap (λ b. cond {A = ℕ} b 1 0) (same (a + n)) in
    omega arith

-- ---- the run
module _ (net : Network) (ok : IsNetwork net) (guard : Guard) (guards : Guards net guard) (arrivals : ℕ → List ℕ) where
  abbrev at : ℕ → GuardedState
  at t = run_at net ok guard guards arrivals t

  abbrev run_play : Play
  run_play = play net ok guard guards arrivals

  run_follows : (A : List (List ℕ)) (s : ℕ) → ((i : ℕ) → i < length A → arrivals (s + i) ≡ get_or A i []) → Follows at s (guarded_run_from net guard (at s) A)
  unfolding Follows run_at
  run_follows [] s same = (refl, tt)
  run_follows (a ∷ A) s same =
      let place : s + 0 ≡ s = omega arith in
      let here : arrivals s ≡ a = ap arrivals (sym place) ∙ same 0 (omega arith) in (
        refl,
        subst (λ x. Follows at (suc s) (guarded_run_from net guard (guarded_advance net guard x (at s)) A)) here
            (run_follows A (suc s) (λ i lt. (let next : suc s + i ≡ s + suc i = omega arith in ap arrivals next) ∙ same (suc i) (omega arith))),
      )

  green_is : (k : ℕ) → has (movement_numbers net) k ≡ true → (t : ℕ) → is_green_from net guard k (at t) ≡ green_in net guard run_play t k
  green_is k in' t =
      let j = junction_of_movement net k in
      ap (λ account. is_green guard.lost (junction_at net j) account.before (stage_of run_play j t) k) (account_is net ok guard guards arrivals t j (junction_in net ok k in'))

  served : (A : List (List ℕ)) → ((i : ℕ) → i < length A → arrivals (0 + i) ≡ get_or A i []) → (k : ℕ) → has (movement_numbers net) k ≡ true → IsServedWithin net guard k (wait_of net guard k) (guarded_run_from net guard (at 0) A)
  served A same k in' before row after parts long waiting =
      let s : ℕ = 0 + length before in
      let wait = wait_of net guard k in
      let follows : Follows at s row = part_follows at 0 before row after (subst (Follows at 0) parts (run_follows A 0 same)) in
      let counted : IsCounted run_play.counts k s (wait + 1) = λ u low high. at_all (λ now. 1 ≤ queue now.state k) at s row follows waiting u low (omega arith) in
      let some : 1 ≤ greens_in (λ t. green_in net guard run_play t k) s (wait + 1) =
      at_in (IsGreenWhereCounted net guard run_play (s + (wait + 1))) k (movement_numbers net) in' (play_waits net ok guard guards run_play (s + (wait + 1)) (λ u lt. (keeps_until net ok guard guards arrivals (s + (wait + 1)) u lt).candidates)) s (le_refl (s + (wait + 1))) counted in
      let there = same_greens (λ t. is_green_from net guard k (at t)) (λ t. green_in net guard run_play t k) s (wait + 1) (green_is k in') in
      let all : 1 ≤ greens_in (λ t. is_green_from net guard k (at t)) s (length row) =
      subst (λ n. 1 ≤ greens_in (λ t. is_green_from net guard k (at t)) s n) (sym long) (subst (λ m. 1 ≤ m) (sym there) some) in
      some_state (is_green_from net guard k) at s row follows all

pub run_waits : (net : Network) → IsNetwork net → (guard : Guard) → Guards net guard → (A : List (List ℕ)) → KeepsWaits net guard (wait_of net guard) A
unfolding run_at
run_waits net ok guard guards A = each_in (λ k. IsServedWithin net guard k (wait_of net guard k) (guarded_run net guard A)) (movement_numbers net) (served net ok guard guards (λ t. get_or A t []) A (from_none A))
