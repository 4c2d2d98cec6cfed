-- What a frame serves: at most one period is lost, and the queue may grow meanwhile.
use Rattle.std.proofs.Common.{◌≡◌, ◌==◌, ℕ, zero, suc, ◌+◌, ◌-◌, ◌*◌, ◌%◌, ◌≤◌, min, Bool, true, false, cond, not, ◌&&◌, arith, refl, sym, ap, subst, ne_eqb}
use Rattle.std.proofs.lemmas.Bool.{true≢false}
use Rattle.mp_laws.proofs.Drift.{cond-le}
use Rattle.mp_laws.proofs.Lists.{at_in, each_in}
use Rattle.mp_laws.specs.Periods.{phase_of}
use Rattle.mp_model.specs.Arrivals.{arrivals_of}
use Rattle.mp_model.specs.Frames.{begins, framed_passed, is_chosen, is_lost, may_pass}
use Rattle.mp_model.specs.Network.{entry, flow_of, junction_of_movement, movement_numbers}
use Rattle.mp_model.specs.Step.{queue}
use Rattle.mp_framed.proofs.Stretches.{queue_left, step_stretch, stretch_more}
use Rattle.mp_framed.specs.Frames.{NextPartLaw}

-- one period more: the first may be lost, each other one serves the flow or the queue
next_least : (m c q q' p y : ℕ) → min ((m - 1) * c) q ≤ p → q ≤ q' + p → (1 ≤ m → min c q' ≤ y) → min ((m + 1 - 1) * c) q ≤ p + y
next_least zero c q q' p y h left some = let none : min ((0 + 1 - 1) * c) q ≡ 0 = omega arith in omega arith
next_least (suc n) c q q' p y h left some =
    let y1 : min c q' ≤ y = some (omega arith) in
    let one : suc n - 1 ≡ n = omega arith in
    let two : c + n * c ≡ (suc n + 1 - 1) * c = omega (arith, ap (λ x. x * c) (back n)) in
    let a : min (n * c) q ≤ p = subst (λ x. min (x * c) q ≤ p) one h in
    let goal : min (c + n * c) q ≤ p + y = omega arith in
    subst (λ x. min x q ≤ p + y) two goal
  where
    back : (n : ℕ) → suc n + 1 - 1 ≡ n + 1
    back n = omega arith

-- a period that is not the first of its frame is lost nowhere
not_first : (m n : ℕ) → n ≡ m → 1 ≤ m → (n == 0) ≡ false
not_first m n e h = ne_eqb n 0 (λ (z : n ≡ 0). absurd (omega arith))

serves : (chosen lost : Bool) (x : ℕ) → chosen ≡ true → lost ≡ false → x ≤ cond (chosen && not lost) x 0
serves true false x a b = omega arith
serves false lost x a b = absurd (true≢false (sym a))
serves true true x a b = absurd (true≢false b)

serves_none : (chosen lost : Bool) (x : ℕ) → chosen ≡ false → cond (chosen && not lost) x 0 ≡ 0
serves_none false lost x e = refl
serves_none true lost x e = absurd (true≢false e)

no_loss : (first changed : Bool) → first ≡ false → (first && changed) ≡ false
no_loss false changed e = refl
no_loss true changed e = absurd (true≢false e)

pub next_part : NextPartLaw
next_part net ok F m frame place pass arrivals phase first_level level within part counts =
    let y = framed_passed net F frame in
    let first : ℕ → ℕ = entry frame.first in
    let few : (k : ℕ) → (y k ≤ flow_of net k) × (y k ≤ queue frame.state k) = λ k. (
      cond-le (may_pass net F frame k) (min (flow_of net k) (queue frame.state k)) (flow_of net k) (omega arith),
      cond-le (may_pass net F frame k) (min (flow_of net k) (queue frame.state k)) (queue frame.state k) (omega arith),
    ) in
    let one = step_stretch net ok y (arrivals_of net counts) frame.state level within few in
    record {
      greatest = part.greatest;
      stretch = stretch_more net ok m 1 pass arrivals y (arrivals_of net counts) first phase first_level (queue frame.state) (phase_of net frame.state) level _ _ _ part.stretch one;
      served = record {
        chosen = each_in _ (movement_numbers net) (λ k here c.
            next_least m (flow_of net k) (first k) (queue frame.state k) (pass k) (y k)
            (at_in (λ k. is_chosen net frame.stages first k ≡ true → min ((m - 1) * flow_of net k) (first k) ≤ pass k) k (movement_numbers net) here part.served.chosen c)
            (queue_left net ok m pass arrivals first phase first_level (queue frame.state) (phase_of net frame.state) level part.stretch k here)
            (λ later. serves (is_chosen net frame.stages first k) (is_lost F frame (junction_of_movement net k)) (min (flow_of net k) (queue frame.state k)) c
            (no_loss (begins F frame) (not (entry frame.before (junction_of_movement net k) == entry frame.stages (junction_of_movement net k))) (not_first m (frame.state.period % F) place later))));
        others = each_in _ (movement_numbers net) (λ k here c.
            let a = at_in (λ k. is_chosen net frame.stages first k ≡ false → pass k ≡ 0) k (movement_numbers net) here part.served.others c in
            omega (arith, serves_none (is_chosen net frame.stages first k) (is_lost F frame (junction_of_movement net k)) (min (flow_of net k) (queue frame.state k)) c));
      };
    }
