use Rattle.mp_num.proofs.MultipleLemmas.{lcm_positive}
use Rattle.mp_num.proofs.OutcomeLemmas.{get_or-counting, length-counting, run_cons}
use Rattle.std.proofs.Common.{◌≡◌, ◌≢◌, ℕ, zero, suc, ◌+◌, ◌-◌, ◌*◌, ◌/◌, ◌%◌, ◌<◌, ◌≤◌, List, [], ◌∷◌, ◌++◌, length, take, drop, get_or, Option, Some, None, option_map, option_and_then, ℤ, pos, ◌*ℤ◌, ◌≤ℤ◌, ◌<ℤ◌, refl, ap, ap₂, sym, ◌∙◌, subst, arith, to_z-of_z, unsigned_abs, int_div}
use Rattle.std.proofs.lemmas.Int.{ints}
use Rattle.std.proofs.lemmas.List.{drop_more, drop_all}
use Rattle.mp_num.specs.Checked.{within}
use Rattle.mp_flow.specs.Answers.{pivot_of, denominator, answer_at, answers}
use Rattle.std.proofs.lemmas.Nat.{div_below}
use Rattle.std.proofs.lemmas.List.{append-nil}
use Rattle.mp_num.specs.Passing.{each, stepped, counting}
use Rattle.mp_num.specs.Row.{rows_of}
use Rattle.mp_num.specs.Multiple.{lcm_of}
use Rattle.mp_num.proofs.TableLemmas.{entry-rows_of}
use Rattle.mp_num.proofs.PassingLemmas.{before, before_nil, before_one, each_at}

-- the denominator so far
pub record Denominating (count : ℕ) (rows : List (List ℤ)) (j : ℕ) (d : ℤ) : Type 0 where
  pub rest : denominator count rows ≡ stepped (λ d j. lcm_of d (pivot_of rows j)) d (drop j (counting count 0))
  pub positive : pos 1 ≤ℤ d

pub denominating_start : (count : ℕ) (rows : List (List ℤ)) → Denominating count rows 0 (pos 1)
unfolding denominator
denominating_start count rows = record { rest = refl; positive = omega (arith, ints) }

denominating_at : (count : ℕ) (rows : List (List ℤ)) (j : ℕ) (d : ℤ) → Denominating count rows j d → j < count →
    denominator count rows ≡ option_and_then (λ t. stepped (λ d j. lcm_of d (pivot_of rows j)) t (drop (j + 1) (counting count 0))) (lcm_of d (pivot_of rows j))
denominating_at count rows j d s h =
    let n : j < length (counting count 0) = omega (arith, length-counting count 0) in
    let at : get_or (counting count 0) j 0 ≡ j = get_or-counting count 0 j 0 h ∙ omega arith in
    s.rest ∙ ap (stepped (λ d j. lcm_of d (pivot_of rows j)) d) (drop_more (counting count 0) j 0 n ∙ ap (λ m. m ∷ drop (j + 1) (counting count 0)) at) ∙ run_cons _ d j _

pub denominating_more : (count width : ℕ) (cells : List ℤ) (height j : ℕ) (d e : ℤ) → Denominating count (rows_of height width cells) j d → j < count → count ≤ height → height ≤ width →
    lcm_of d (get_or cells (j * width + j) (pos 0)) ≡ Some e → pos 1 ≤ℤ get_or cells (j * width + j) (pos 0) → Denominating count (rows_of height width cells) (j + 1) e
denominating_more count width cells height j d e s h l m v p =
    let cell = entry-rows_of height width cells j j (omega arith) (omega arith) in
    record { rest = denominating_at count _ j d s h ∙ rw (cell, v) refl; positive = lcm_positive d _ e s.positive p v }

pub denominating_passes : (count width : ℕ) (cells : List ℤ) (height j : ℕ) (d : ℤ) → Denominating count (rows_of height width cells) j d → j < count → count ≤ height → height ≤ width →
    lcm_of d (get_or cells (j * width + j) (pos 0)) ≡ None → denominator count (rows_of height width cells) ≡ None
denominating_passes count width cells height j d s h l m v =
    let cell = entry-rows_of height width cells j j (omega arith) (omega arith) in
    denominating_at count _ j d s h ∙ rw (cell, v) refl

pub denominating_end : (count : ℕ) (rows : List (List ℤ)) (j : ℕ) (d : ℤ) → Denominating count rows j d → count ≤ j → denominator count rows ≡ Some d
unfolding stepped
denominating_end count rows j d s h = s.rest ∙ rw (drop_all j (counting count 0) (omega (arith, length-counting count 0))) refl

pub ruleset denominators = (to_z-of_z, denominating_start, denominating_more, denominating_passes, denominating_end)

-- ---- the answers
pub record Answering (n rights : ℕ) (d : ℤ) (rows : List (List ℤ)) (t : ℕ) (x : List ℤ) : Type 0 where
  pub rest : answers n rights d rows ≡ before x (each (answer_at n d rows) (drop t (counting (rights * n) 0)))

pub answering_start : (n rights : ℕ) (d : ℤ) (rows : List (List ℤ)) → Answering n rights d rows 0 []
unfolding answers
answering_start n rights d rows = record { rest = sym (before_nil _) }

answer_cell : (n rights : ℕ) (d : ℤ) (cells : List ℤ) (t : ℕ) → 0 < n → t < rights * n →
    answer_at n d (rows_of n (n + rights) cells) t ≡ within (get_or cells (t % n * (n + rights) + (n + t / n)) (pos 0) *ℤ int_div d (get_or cells (t % n * (n + rights) + t % n) (pos 0)))
unfolding answer_at
answer_cell n rights d cells t h l =
    let column : t % n < n = omega arith in
    let side : t / n < rights = div_below t n rights h l in
    rw (entry-rows_of n (n + rights) cells (t % n) (n + t / n) column (omega arith), entry-rows_of n (n + rights) cells (t % n) (t % n) column (omega arith)) refl

answering_at : (n rights : ℕ) (d : ℤ) (rows : List (List ℤ)) (t : ℕ) (x : List ℤ) → Answering n rights d rows t x → t < rights * n →
    answers n rights d rows ≡ before x (option_and_then (λ z. option_map (λ zs. z ∷ zs) (each (answer_at n d rows) (drop (t + 1) (counting (rights * n) 0)))) (answer_at n d rows t))
answering_at n rights d rows t x s h =
    let c : List ℕ = counting (rights * n) 0 in
    let l : t < length c = omega (arith, length-counting (rights * n) 0) in
    let at : get_or c t 0 ≡ t = get_or-counting (rights * n) 0 t 0 h ∙ omega arith in
    s.rest ∙ ap (before x) (each_at (answer_at n d rows) c t 0 l ∙ ap (λ m. option_and_then (λ z. option_map (λ zs. z ∷ zs) (each (answer_at n d rows) (drop (t + 1) c))) (answer_at n d rows m)) at)

pub answering_more : (n rights : ℕ) (d : ℤ) (cells : List ℤ) (t : ℕ) (x : List ℤ) (z : ℤ) → Answering n rights d (rows_of n (n + rights) cells) t x → 0 < n → t < rights * n →
    within (get_or cells (t % n * (n + rights) + (n + t / n)) (pos 0) *ℤ int_div d (get_or cells (t % n * (n + rights) + t % n) (pos 0))) ≡ Some z →
    Answering n rights d (rows_of n (n + rights) cells) (t + 1) (x ++ z ∷ [])
answering_more n rights d cells t x z s h l v = record {
  rest =
      answering_at n rights d _ t x s l ∙ rw (answer_cell n rights d cells t h l ∙ v) (before_one x z _);
}

pub answering_passes : (n rights : ℕ) (d : ℤ) (cells : List ℤ) (t : ℕ) (x : List ℤ) → Answering n rights d (rows_of n (n + rights) cells) t x → 0 < n → t < rights * n →
    within (get_or cells (t % n * (n + rights) + (n + t / n)) (pos 0) *ℤ int_div d (get_or cells (t % n * (n + rights) + t % n) (pos 0))) ≡ None →
    answers n rights d (rows_of n (n + rights) cells) ≡ None
answering_passes n rights d cells t x s h l v = answering_at n rights d _ t x s l ∙ rw (answer_cell n rights d cells t h l ∙ v) refl

pub answering_end : (n rights : ℕ) (d : ℤ) (rows : List (List ℤ)) (t : ℕ) (x : List ℤ) → Answering n rights d rows t x → rights * n ≤ t → answers n rights d rows ≡ Some x
unfolding each
answering_end n rights d rows t x s h = s.rest ∙ rw (drop_all t (counting (rights * n) 0) (omega (arith, length-counting (rights * n) 0))) (ap Some (append-nil x))

pub ruleset answering = (to_z-of_z, answering_start, answering_more, answering_passes, answering_end)
