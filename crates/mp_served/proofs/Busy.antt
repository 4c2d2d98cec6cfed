-- The queue of one movement, period by period.
use Rattle.std.proofs.Common.{◌≡◌, ℕ, zero, suc, ◌+◌, ◌*◌, ◌≤◌, ◌<◌, min, Bool, true, false, cond, arith, refl, sym, ◌∙◌, ap, subst, ⊎_elim}
use Rattle.std.proofs.lemmas.Bool.{cases_lt}
use Rattle.mp_model.specs.Lights.{IsWaiting, greens_in}
use Rattle.mp_served.specs.Busy.{IsServed, Busy}
use Rattle.mp_served.specs.Busy.Busy.{nobody, since, always}

module _ (flow : ℕ) (green : ℕ → Bool) (q came : ℕ → ℕ) (served : IsServed flow green q came) where
  -- somebody has waited one period more
  wait_more : (a n : ℕ) → IsWaiting q a n → 1 ≤ q (a + n) → IsWaiting q a (suc n)
  wait_more a n waits now u low high = ⊎_elim (λ (lt : u < a + n). waits u low lt) (λ (ge : a + n ≤ u). let e : a + n ≡ u = omega arith in subst (λ v. 1 ≤ q v) e now) (cases_lt u (a + n))

  -- a period that begins with nobody, or that serves all, begins a row anew
  anew : (t : ℕ) → q (suc t) + came t ≤ came (suc t) → Busy flow green q came (suc t)
  anew t all = since t 0 (omega arith) (λ u low high. absurd (omega arith)) (omega arith)

  -- a period with somebody that its green, if it is one, does not serve whole
  goes_on : (t passes ones : ℕ) → 1 ≤ q t → passes ≡ flow * ones → ones ≡ cond {A = ℕ} (green t) 1 0 → q (suc t) + passes + came t ≡ q t + came (suc t) → Busy flow green q came t → Busy flow green q came (suc t)
  goes_on t passes ones some is one moves (nobody e) = absurd (omega arith)
  goes_on t passes ones some is one moves (since s n e waits le) =
      let here : green (s + 1 + n) ≡ green t = ap green e in
      let ones' : ones ≡ cond {A = ℕ} (green (s + 1 + n)) 1 0 = one ∙ ap (λ b. cond {A = ℕ} b 1 0) (sym here) in
      let m : flow * greens_in green (s + 1) (suc n) ≡ flow * greens_in green (s + 1) n + flow * ones = ap (λ n. flow * n) (ap (λ o. greens_in green (s + 1) n + o) (sym ones')) ∙ omega arith in
      since s (suc n) (omega arith) (wait_more (s + 1) n waits (subst (λ v. 1 ≤ q v) (sym e) some)) (omega arith)
  goes_on t passes ones some is one moves (always waits le) =
      let place : t ≡ 0 + t = omega arith in
      let one' : ones ≡ cond {A = ℕ} (green (0 + t)) 1 0 = one ∙ ap (λ u. cond {A = ℕ} (green u) 1 0) place in
      let m : flow * greens_in green 0 (suc t) ≡ flow * greens_in green 0 t + flow * ones = ap (λ n. flow * n) (ap (λ o. greens_in green 0 t + o) (sym one')) ∙ omega arith in
      always (wait_more 0 t waits (subst (λ v. 1 ≤ q v) place some)) (omega arith)

  busy_more : (t : ℕ) → Busy flow green q came t → Busy flow green q came (suc t)
  busy_more t busy = ⊎_elim
      (λ (some : 0 < q t). at (green t) refl some (served.moves t))
      (λ (none : q t ≤ 0). let m = served.moves t in anew t (omega arith))
      (cases_lt 0 (q t))
    where
      at : (b : Bool) → green t ≡ b → 0 < q t → q (suc t) + cond b (min flow (q t)) 0 + came t ≡ q t + came (suc t) → Busy flow green q came (suc t)
      at false e some m = goes_on t 0 0 (omega arith) (omega arith) (sym (ap (λ b. cond {A = ℕ} b 1 0) e)) m busy
      at true e some m = ⊎_elim
          (λ (few : q t < flow). anew t (omega arith))
          (λ (many : flow ≤ q t). goes_on t flow 1 (omega arith) (omega arith) (sym (ap (λ b. cond {A = ℕ} b 1 0) e)) (omega arith) busy)
          (cases_lt (q t) flow)

  busy_at : (t : ℕ) → Busy flow green q came t
  busy_at zero = let n = served.none in always (λ u low high. absurd (omega arith)) (omega arith)
  busy_at (suc t) = busy_more t (busy_at t)

pub is_busy : (flow : ℕ) (green : ℕ → Bool) (q came : ℕ → ℕ) → IsServed flow green q came → (t : ℕ) → Busy flow green q came t
is_busy flow green q came served t = busy_at flow green q came served t
