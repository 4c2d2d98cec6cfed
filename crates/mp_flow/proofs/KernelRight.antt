use Rattle.std.proofs.Common.{◌≡◌, ◌≢◌, ℕ, zero, suc, ◌+◌, ◌-◌, ◌*◌, ◌<◌, ◌≤◌, List, [], length, take, drop, get_or, Option, Some, None, ℤ, pos, ◌+ℤ◌, ◌*ℤ◌, ◌≤ℤ◌, refl, ap, sym, ◌∙◌, subst, arith, inl, inr, ◌⊎◌, map, All, Bool, true, false, cond, not, nat_lt, position, int_eq}
use Rattle.std.proofs.lemmas.Int.{ints}
use Rattle.std.proofs.lemmas.List.{get_or-drop, length-drop, get_or-map, length-map}
use Rattle.std.proofs.lemmas.List.Elements.{All-from_get_or, All-map}
use Rattle.std.proofs.lemmas.List.Sums.{fails_before_first}
use Rattle.std.specs.List.{position_or_len}
use Rattle.std.proofs.lemmas.Option.{same_Some}
use Rattle.mp_num.specs.Divisor.{reduced}
use Rattle.mp_num.specs.Sums.{total}
use Rattle.mp_num.specs.Passing.{counting}
use Rattle.mp_num.specs.Row.{entry, applied}
use Rattle.mp_num.proofs.SumLemmas.{total-same, total-zero, total-split}
use Rattle.mp_num.proofs.RowLemmas.{reduced_multiple, eq_from_int_eq}
use Rattle.mp_num.proofs.AppliedLemmas.{solves_before_reduced}
use Rattle.mp_num.proofs.OutcomeLemmas.{each_some, length-counting, get_or-counting}
use Rattle.mp_flow.specs.Elimination.{serves, Solves, eliminated, Elimination, StuckAt, PassedAt, Through, turn, Turn, Stuck, Passed, Turned, chosen_turn, turn_of, after}
use Rattle.mp_flow.specs.Answers.{denominator, answers, answer_at, kernel_at, kernel, solved, ended, finished, answered, stuck, kernel_found, Answer, Kernel, IsKernel}
use Rattle.mp_flow.proofs.TheoremLemmas.{solves_turn}
use Rattle.mp_flow.proofs.DiagonalLemmas.{IsCleared, cleared_turn, cleared_eliminated, length_turn}
use Rattle.mp_flow.proofs.KernelLemmas.{kernel_here}
use Rattle.mp_flow.proofs.SolutionLemmas.{run_denominator, ended_answer}
use Rattle.mp_flow.proofs.SingularLemmas.{IsStuck, kernel_solves}

-- an elimination that is stuck was stuck at this column, or went on
after_stuck : (t : Turn) (j k : ℕ) (rows final : List (List ℤ)) (go : List (List ℤ) → Elimination) → after t j rows go ≡ StuckAt k final →
    ((t ≡ Stuck) × (j ≡ k) × (rows ≡ final)) ⊎ ((next : List (List ℤ)) × (t ≡ Turned next) × (go next ≡ StuckAt k final))
after_stuck Stuck j k rows final go e = inl (refl, cc, cc)
after_stuck Passed j k rows final go e = absurd (cc)
after_stuck (Turned next) j k rows final go e = inr (next, refl, e)

turn_of_stuck : (o : Option (List (List ℤ))) → turn_of o ≡ Stuck → ⊥
turn_of_stuck None e = cc
turn_of_stuck (Some rows) e = cc

chosen_stuck : (j : ℕ) (used free : List (List ℤ)) (o : Option ℕ) → chosen_turn j used free o ≡ Stuck → o ≡ None
chosen_stuck j used free None e = refl
chosen_stuck j used free (Some k) e = absurd (turn_of_stuck _ e)

zero_from_idle : (j : ℕ) (row : List ℤ) → serves j row ≡ false → entry row j ≡ pos 0
zero_from_idle j row e = go (int_eq (entry row j) (pos 0)) refl e
  where
    go : (b : Bool) → int_eq (entry row j) (pos 0) ≡ b → not b ≡ false → entry row j ≡ pos 0
    go true h f = eq_from_int_eq (entry row j) (pos 0) h
    go false h f = absurd (cc)

past_end : (m n : ℕ) → nat_lt m n ≡ false → n ≤ m
past_end m n e = grind (arith, e)

-- where no place is found, no row serves
idle_from_none : (p : List ℤ → Bool) (xs : List (List ℤ)) → position p xs ≡ None → (k : ℕ) → k < length xs → p (get_or xs k []) ≡ false
idle_from_none p xs e k l = go (nat_lt (position_or_len p xs) (length xs)) refl e
  where
    go : (b : Bool) → nat_lt (position_or_len p xs) (length xs) ≡ b → cond b (Some (position_or_len p xs)) None ≡ None → p (get_or xs k []) ≡ false
    go true h f = absurd (cc)
    go false h f = fails_before_first p xs k [] (omega (arith, past_end (position_or_len p xs) (length xs) h))

-- the free rows of a stuck column have 0 there
stuck_column : (j : ℕ) (rows : List (List ℤ)) → turn j rows ≡ Stuck → IsStuck j rows
unfolding turn
stuck_column j rows e =
    let idle = idle_from_none (serves j) (drop j rows) (chosen_stuck j (take j rows) (drop j rows) _ e) in
    record {
      none = λ r low inside. (let i : r - j < length (drop j rows) = omega (arith, length-drop j rows) in
          let at : j + (r - j) ≡ r = omega arith in
          let row : get_or (drop j rows) (r - j) [] ≡ get_or rows r [] = get_or-drop j rows (r - j) [] ∙ ap (λ n. get_or rows n []) at in
          ap (λ s. entry s j) (sym row) ∙ zero_from_idle j (get_or (drop j rows) (r - j) []) (idle (r - j) i));
    }

-- what the rows of a stuck elimination say of the first rows
pub record StuckRight (width last : ℕ) (rows : List (List ℤ)) (k : ℕ) (final : List (List ℤ)) : Type 0 where
  pub inside : k < last
  pub same_length : length final ≡ length rows
  pub cleared : IsCleared k final
  pub idle : IsStuck k final
  pub back : (y : ℕ → ℤ) → Solves width y final → Solves width y rows

pub stuck_right : (width columns j : ℕ) (rows : List (List ℤ)) (k : ℕ) (final : List (List ℤ)) → j + columns ≤ width → length rows ≡ j + columns → All (λ r. length r ≡ width) rows → IsCleared j rows →
    eliminated columns j rows ≡ StuckAt k final → StuckRight width (j + columns) rows k final
unfolding eliminated
stuck_right width zero j rows k final l n w c e = absurd (cc)
stuck_right width (suc columns) j rows k final l n w c e = elim (after_stuck (turn j rows) j k rows final (eliminated columns (j + 1)) e) [
  | inl here ↦
      (let P : ℕ → List (List ℤ) → Type 0 = λ i s. StuckRight width (j + suc columns) rows i s in
      let at_j : StuckRight width (j + suc columns) rows j rows = record { inside = omega arith; same_length = refl; cleared = c; idle = stuck_column j rows here.0; back = λ y s. s } in
      subst (λ (i : ℕ). P i final) here.1 (subst (λ (s : List (List ℤ)). P j s) here.2 at_j))
  | inr on ↦
      (let t = solves_turn width j (λ _. pos 0) rows on.0 (omega arith) w on.1 in
      let step : j + suc columns ≡ (j + 1) + columns = omega arith in
      let m : length on.0 ≡ length rows = length_turn j rows on.0 (omega arith) on.1 in
      let r = stuck_right width columns (j + 1) on.0 k final (omega arith) (m ∙ n ∙ step) t.0 (cleared_turn width j rows on.0 (omega arith) (omega arith) w c on.1) on.2 in
      record {
        inside = omega (arith, r.inside);
        same_length = r.same_length ∙ m;
        cleared = r.cleared;
        idle = r.idle;
        back = λ y s. (solves_turn width j y rows on.0 (omega arith) w on.1).1 (r.back y s);
      })
]

finished_apart : (n rights : ℕ) (rows : List (List ℤ)) (o : Option ℤ) (x : List ℤ) → finished n rights rows o ≡ Kernel x → ⊥
finished_apart n rights rows None x h = cc
finished_apart n rights rows (Some e) x h = answered_apart (n + 1) e (answers n rights e rows) x h
  where
    answered_apart : (column : ℕ) (d : ℤ) (o : Option (List ℤ)) (x : List ℤ) → answered column d o ≡ Kernel x → ⊥
    answered_apart column d None x h = cc
    answered_apart column d (Some y) x h = cc

found_kernel : (column : ℕ) (o : Option (List ℤ)) (x : List ℤ) → kernel_found column o ≡ Kernel x → o ≡ Some x
found_kernel column None x h = absurd (cc)
found_kernel column (Some y) x h = cc

stuck_kernel_is : (n j : ℕ) (rows : List (List ℤ)) (o : Option ℤ) (x : List ℤ) → stuck n j rows o ≡ Kernel x → (d : ℤ) × (o ≡ Some d) × (kernel n j d rows ≡ Some x)
stuck_kernel_is n j rows None x h = absurd (cc)
stuck_kernel_is n j rows (Some d) x h = (d, refl, found_kernel (j + 1) (kernel n j d rows) x h)

ended_kernel : (n rights : ℕ) (e : Elimination) (x : List ℤ) → ended n rights e ≡ Kernel x →
    (j : ℕ) × (final : List (List ℤ)) × (e ≡ StuckAt j final) × (d : ℤ) × (denominator j final ≡ Some d) × (kernel n j d final ≡ Some x)
ended_kernel n rights (PassedAt j) x h = absurd (cc)
ended_kernel n rights (Through rows) x h = absurd (finished_apart n rights rows (denominator n rows) x h)
ended_kernel n rights (StuckAt j rows) x h = let s = stuck_kernel_is n j rows (denominator j rows) x h in (j, rows, refl, s.0, s.1, s.2)

-- the values of a list below a bound, and 0 past it
abbrev pub padded : ℕ → List ℤ → ℕ → ℤ
padded n x k = cond (nat_lt k n) (entry x k) (pos 0)

padded-front : (n : ℕ) (x : List ℤ) (k : ℕ) → k < n → padded n x k ≡ entry x k
padded-front n x k l = let i : nat_lt k n ≡ true = grind arith in rw i refl

padded-past : (n : ℕ) (x : List ℤ) (k : ℕ) → padded n x (n + k) ≡ pos 0
padded-past n x k = let i : nat_lt (n + k) n ≡ false = grind arith in rw i refl

times_zero : (x : ℤ) → x *ℤ pos 0 ≡ pos 0
times_zero x = omega (arith, ints)

plus_zero : (x z : ℤ) → z ≡ pos 0 → x +ℤ z ≡ x
plus_zero x z e = omega (arith, ints, e)

applied-padded : (n rights : ℕ) (row x : List ℤ) → applied (n + rights) row (padded n x) ≡ total n (λ k. entry row k *ℤ entry x k)
applied-padded n rights row x =
    let f : ℕ → ℤ = λ k. entry row k *ℤ padded n x k in
    total-split n rights f
    ∙ plus_zero (total n f) (total rights (λ k. f (n + k))) (total-zero rights (λ k. f (n + k)) (λ k l. ap (λ t. entry row (n + k) *ℤ t) (padded-past n x k) ∙ times_zero (entry row (n + k))))
    ∙ total-same n f (λ k. entry row k *ℤ entry x k) (λ k l. ap (λ t. entry row k *ℤ t) (padded-front n x k l))

none_cleared : (rows : List (List ℤ)) → IsCleared 0 rows
none_cleared rows = record { diagonal = λ r l. absurd (omega arith); zeros = λ r k l. absurd (omega arith) }

positive_denominator : (j : ℕ) (rows : List (List ℤ)) (d : ℤ) → IsCleared j rows → denominator j rows ≡ Some d → pos 1 ≤ℤ d
unfolding denominator
positive_denominator j rows d c e = (run_denominator (counting j 0) rows (pos 1) d (omega (arith, ints)) (λ k l. (let m : k < j = omega (arith, length-counting j 0) in
    subst (λ (i : ℕ). pos 1 ≤ℤ entry (get_or rows i []) i) (sym (get_or-counting j 0 k 0 m ∙ omega arith)) (c.diagonal k m))) e).positive

reduced_widths : (width : ℕ) (rows : List (List ℤ)) → All (λ r. length r ≡ width) rows → All (λ r. length r ≡ width) (map reduced rows)
reduced_widths width rows w = All-map (λ r. length r ≡ width) reduced rows (λ k u l. (let m = reduced_multiple (get_or rows k u) in m.1.same_length ∙ w k u l))

not_zero : (d z : ℤ) → pos 1 ≤ℤ d → z ≡ d → z ≢ pos 0
not_zero d z h e f = absurd (omega (arith, ints, h, e, f))

-- what the calculation of a system gives as its kernel is one
pub solved_kernel : (n rights : ℕ) (rows : List (List ℤ)) (x : List ℤ) → length rows ≡ n → All (λ r. length r ≡ n + rights) rows → solved n rights rows ≡ Kernel x → IsKernel n rows x
unfolding solved Solves kernel
solved_kernel n rights rows x ln widths h =
    let a = ended_kernel n rights (eliminated n 0 (map reduced rows)) x h in
    let j : ℕ = a.0 in
    let final : List (List ℤ) = a.1 in
    let d : ℤ = a.3 in
    let first : length (map reduced rows) ≡ 0 + n = length-map rows reduced ∙ ln ∙ omega arith in
    let s = stuck_right (n + rights) n 0 (map reduced rows) j final (omega arith) first (reduced_widths (n + rights) rows widths) (none_cleared (map reduced rows)) a.2 in
    let column : j < n = omega (arith, s.inside) in
    let long : length final ≡ n = s.same_length ∙ length-map rows reduced ∙ ln in
    let Z : List ℤ → Type 0 = λ r. applied (n + rights) r (padded n x) ≡ pos 0 in
    let at_end : All Z final = All-from_get_or Z final [] (λ r l. applied-padded n rights (get_or final r []) x ∙ kernel_solves n j final x d column long s.cleared s.idle a.4 a.5 r (omega arith)) in
    let at_start : All Z (map reduced rows) = s.back (padded n x) at_end in
    let o = each_some (kernel_at j d final) (counting n 0) x a.5 in
    let here : entry x j ≡ d = same_Some _ _ (sym (ap (kernel_at j d final) (sym (get_or-counting n 0 j 0 column ∙ omega arith)) ∙ o.at j 0 (pos 0) (omega (arith, length-counting n 0))) ∙ kernel_here j d final j refl) in
    record {
      same_length = o.same_length ∙ length-counting n 0;
      some = (j, column, not_zero d (entry x j) (positive_denominator j final d s.cleared a.4) here);
      solves = λ k u l. sym (applied-padded n rights (get_or rows k u) x)
          ∙ solves_before_reduced (n + rights) (padded n x) (get_or rows k u) (subst Z (get_or-map reduced rows k u u l) (at_start k u (omega (arith, length-map rows reduced))));
    }

-- the shape of an answer
pub record IsShaped (n rights : ℕ) (x : List ℤ) (d : ℤ) : Type 0 where
  pub positive : pos 1 ≤ℤ d
  pub values : length x ≡ rights * n

pub solved_shape : (n rights : ℕ) (rows : List (List ℤ)) (x : List ℤ) (d : ℤ) → length rows ≡ n → All (λ r. length r ≡ n + rights) rows → solved n rights rows ≡ Answer x d → IsShaped n rights x d
unfolding solved answers
solved_shape n rights rows x d ln widths h =
    let a = ended_answer n rights (eliminated n 0 (map reduced rows)) x d h in
    let first : length (map reduced rows) ≡ n = length-map rows reduced ∙ ln in
    let c = cleared_eliminated (n + rights) n 0 (map reduced rows) a.0 (omega arith) (omega arith) (reduced_widths (n + rights) rows widths) (none_cleared (map reduced rows)) a.1 in
    let o = each_some (answer_at n d a.0) (counting (rights * n) 0) x a.3 in
    record {
      positive = positive_denominator n a.0 d (subst (λ (m : ℕ). IsCleared m a.0) (omega arith) c) a.2;
      values = o.same_length ∙ length-counting (rights * n) 0;
    }
