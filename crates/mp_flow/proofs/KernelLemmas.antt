use Rattle.std.proofs.Common.{◌≡◌, ◌≢◌, ℕ, zero, suc, ◌+◌, ◌-◌, ◌*◌, ◌<◌, ◌≤◌, List, [], ◌∷◌, ◌++◌, length, take, drop, get_or, map, Option, Some, None, option_map, option_and_then, ℤ, pos, ◌-ℤ◌, ◌*ℤ◌, ◌≤ℤ◌, refl, ap, ap₂, sym, ◌∙◌, subst, arith, to_z-of_z, int_div, nat_lt, nat_eq, true, false, append-nil}
use Rattle.std.proofs.lemmas.List.{drop_all}
use Rattle.mp_num.specs.Checked.{within}
use Rattle.mp_flow.specs.Answers.{kernel_at, kernel}
use Rattle.mp_num.specs.Passing.{each, counting}
use Rattle.mp_num.specs.Row.{rows_of}
use Rattle.mp_num.proofs.TableLemmas.{entry-rows_of, rows_first, rows_joined}
use Rattle.mp_num.proofs.PassingLemmas.{before, before_nil, before_one, each_at}
use Rattle.mp_num.proofs.OutcomeLemmas.{length-counting, get_or-counting}

pub kernel_later : (j : ℕ) (d : ℤ) (rows : List (List ℤ)) (i : ℕ) → j < i → kernel_at j d rows i ≡ Some (pos 0)
unfolding kernel_at
kernel_later j d rows i h = let a : nat_lt i j ≡ false = grind arith in let b : nat_eq i j ≡ false = grind arith in rw (a, b) refl

pub kernel_here : (j : ℕ) (d : ℤ) (rows : List (List ℤ)) (i : ℕ) → i ≡ j → kernel_at j d rows i ≡ Some d
unfolding kernel_at
kernel_here j d rows i h = let a : nat_lt i j ≡ false = grind arith in let b : nat_eq i j ≡ true = grind arith in rw (a, b) refl

pub kernel_earlier : (j n width : ℕ) (d : ℤ) (cells : List ℤ) (i : ℕ) → i < j → j < n → n ≤ width →
    kernel_at j d (rows_of n width cells) i ≡ option_and_then (λ v. within (pos 0 -ℤ v)) (within (get_or cells (i * width + j) (pos 0) *ℤ int_div d (get_or cells (i * width + i) (pos 0))))
unfolding kernel_at
kernel_earlier j n width d cells i h l m =
    let a : nat_lt i j ≡ true = grind arith in
    rw (a, entry-rows_of n width cells i j (omega arith) (omega arith), entry-rows_of n width cells i i (omega arith) (omega arith)) refl

pub ruleset entries = (to_z-of_z, kernel_later, kernel_here, kernel_earlier)

pub record Kernelling (n j : ℕ) (d : ℤ) (rows : List (List ℤ)) (i : ℕ) (x : List ℤ) : Type 0 where
  pub rest : kernel n j d rows ≡ before x (each (kernel_at j d rows) (drop i (counting n 0)))

pub kernelling_start : (n j : ℕ) (d : ℤ) (rows : List (List ℤ)) → Kernelling n j d rows 0 []
unfolding kernel
kernelling_start n j d rows = record { rest = sym (before_nil _) }

kernelling_at : (n j : ℕ) (d : ℤ) (rows : List (List ℤ)) (i : ℕ) (x : List ℤ) → Kernelling n j d rows i x → i < n →
    kernel n j d rows ≡ before x (option_and_then (λ z. option_map (λ zs. z ∷ zs) (each (kernel_at j d rows) (drop (i + 1) (counting n 0)))) (kernel_at j d rows i))
kernelling_at n j d rows i x s h =
    let c : List ℕ = counting n 0 in
    let l : i < length c = omega (arith, length-counting n 0) in
    let at : get_or c i 0 ≡ i = get_or-counting n 0 i 0 h ∙ omega arith in
    s.rest ∙ ap (before x) (each_at (kernel_at j d rows) c i 0 l ∙ ap (λ m. option_and_then (λ z. option_map (λ zs. z ∷ zs) (each (kernel_at j d rows) (drop (i + 1) c))) (kernel_at j d rows m)) at)

pub kernelling_more : (n j : ℕ) (d : ℤ) (rows : List (List ℤ)) (i : ℕ) (x : List ℤ) (z : ℤ) → Kernelling n j d rows i x → i < n → kernel_at j d rows i ≡ Some z → Kernelling n j d rows (i + 1) (x ++ z ∷ [])
kernelling_more n j d rows i x z s h v = record { rest = kernelling_at n j d rows i x s h ∙ rw v (before_one x z _) }

pub kernelling_passes : (n j : ℕ) (d : ℤ) (rows : List (List ℤ)) (i : ℕ) (x : List ℤ) → Kernelling n j d rows i x → i < n → kernel_at j d rows i ≡ None → kernel n j d rows ≡ None
kernelling_passes n j d rows i x s h v = kernelling_at n j d rows i x s h ∙ rw v refl

pub kernelling_end : (n j : ℕ) (d : ℤ) (rows : List (List ℤ)) (i : ℕ) (x : List ℤ) → Kernelling n j d rows i x → n ≤ i → kernel n j d rows ≡ Some x
unfolding each
kernelling_end n j d rows i x s h = s.rest ∙ rw (drop_all i (counting n 0) (omega (arith, length-counting n 0))) (ap Some (append-nil x))

pub ruleset kernels = (to_z-of_z, kernelling_start, kernelling_more, kernelling_passes, kernelling_end)

pub ruleset reducing = (rows_first, rows_joined)
