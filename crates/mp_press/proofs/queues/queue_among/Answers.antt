use Rattle.std.proofs.Common.{◌≡◌, ◌≤◌, ◌<◌, ◌∙◌, ap, sym, arith, length, get_or, ℕ, ⊎_elim, Ok, Err}
use Rattle.std.proofs.lemmas.Bool.{cases_lt}
use Rattle.std.specs.Prelude.{unsigned_abs}
use Rattle.std.proofs.lemmas.List.{length-map}
use Rattle.std.proofs.lemmas.List.Sorted.{searched}
use Rattle.mp_model.specs.Arrivals.{count_in}
use Rattle.mp_press.specs.Queues.{naturals}
use Rattle.mp_press.proofs.Among.{count_here, count_absent, absent, rising}
use Rattle.mp_press.proofs.queues.queue_among.Goals as goal

pub returns-in-Ok : goal.returns-in-Ok
returns-in-Ok c =
    let ks = c.args.ks.now in
    let zs = c.args.queues.now in
    let found = searched ks c.args.k (Ok c.in-Ok.i) c.in-Ok.ensures.position (rising ks c.requires.ascending) in
    let size : length (naturals zs) ≡ length ks = length-map zs unsigned_abs ∙ c.requires.len in
    c.queue_at.ensures ∙ sym (count_here ks (naturals zs) c.requires.distinct size c.in-Ok.i found.0) ∙ ap (count_in ks (naturals zs)) found.1

pub returns-in-Err : goal.returns-in-Err
returns-in-Err c =
    let ks = c.args.ks.now in
    let k = c.args.k in
    let at = c.in-Err.field-0 in
    let found = searched ks k (Err at) c.in-Err.ensures.position (rising ks c.requires.ascending) in
    sym (count_absent ks (naturals c.args.queues.now) k (absent ks k (λ i h e. apart i at (get_or ks i 0) k (found.1 i) (λ le. found.2 i le h) e)))
  where
    apart : (i at x k : ℕ) → (i < at → x < k) → (at ≤ i → k < x) → x ≡ k → ⊥
    apart i at x k low high e = ⊎_elim (λ (l : i < at). omega (arith, low l)) (λ (g : at ≤ i). omega (arith, high g)) (cases_lt i at)
