use Rattle.mp_num.proofs.PassingLemmas.{before}
use Rattle.std.proofs.Common.{◌≡◌, ℕ, zero, suc, ◌+◌, ◌-◌, ◌*◌, ◌<◌, ◌≤◌, List, [], ◌∷◌, length, take, drop, get_or, map, Option, Some, None, ℤ, pos, ◌≤ℤ◌, refl, ap, sym, ◌∙◌, subst, arith, to_z-of_z, All, length-take-le, length-drop}
use Rattle.mp_num.specs.Divisor.{reduced}
use Rattle.mp_flow.specs.Elimination.{turn, Turned, HasPivots, eliminated, Through, StuckAt, PassedAt}
use Rattle.mp_flow.specs.Answers.{denominator, answers, kernel, finished, stuck, solved, Answer, Kernel, Passes, Answers}
use Rattle.mp_flow.proofs.DiagonalLemmas.{IsCleared, cleared_turn}
use Rattle.mp_flow.proofs.SolutionLemmas.{solved_answers}
use Rattle.mp_flow.proofs.KernelRight.{solved_kernel, solved_shape}
use Rattle.std.proofs.Common.{Result, Ok, Err}
use Rattle.std.specs.Prelude.{IfOk}
use Rattle.mp_flow.specs.declared.solving.Solved.{Solved}
use Rattle.mp_flow.specs.declared.solving.SolveFault.{SolveFault}
use Rattle.mp_flow.specs.declared.solving.SolveFault.TheVariants.{Singular, Overflow, NoMemory}
use Rattle.mp_flow.specs.Meeting.{Meets, IfSingular}
use Rattle.mp_flow.specs.Answers.{IsKernel}
use Rattle.mp_flow.proofs.LoopLemmas.{Pending, pending_start, pending_more, pending_stuck, pending_passes, pending_end}
use Rattle.mp_num.specs.Row.{rows_of}
use Rattle.mp_num.proofs.TableLemmas.{entry-rows_of, length-rows_of}

pub widths-rows_of : (count width : ℕ) (cells : List ℤ) → length cells ≡ count * width → All (λ r. length r ≡ width) (rows_of count width cells)
widths-rows_of zero width cells h k d l = absurd (omega arith)
widths-rows_of (suc count) width cells h zero d l = length-take-le width cells (omega arith)
widths-rows_of (suc count) width cells h (suc k) d l = widths-rows_of count width (drop width cells) (omega (arith, length-drop width cells)) k d (omega arith)

-- the columns so far are cleared
pub record Swept (rows width j : ℕ) (cells : List ℤ) : Type 0 where
  pub cleared : IsCleared j (rows_of rows width cells)

pub swept_start : (rows width : ℕ) (cells : List ℤ) → Swept rows width 0 cells
swept_start rows width cells = record { cleared = record { diagonal = λ r l. absurd (omega arith); zeros = λ r k l. absurd (omega arith) } }

pub swept_more : (rows width j : ℕ) (cells next : List ℤ) → Swept rows width j cells → length cells ≡ rows * width → j < rows → rows ≤ width → turn j (rows_of rows width cells) ≡ Turned (rows_of rows width next) → Swept rows width (j + 1) next
swept_more rows width j cells next s h l m e = record { cleared = cleared_turn width j (rows_of rows width cells) (rows_of rows width next) (omega arith) (omega (arith, length-rows_of rows width cells)) (widths-rows_of rows width cells h) s.cleared e }

pub swept_pivots : (rows width j : ℕ) (cells : List ℤ) → Swept rows width j cells → j ≤ rows → rows ≤ width → HasPivots j width cells
swept_pivots rows width j cells s l m k h = subst (λ (t : ℤ). pos 1 ≤ℤ t) (entry-rows_of rows width cells k k (omega arith) (omega arith)) (s.cleared.diagonal k h)

pub ruleset loops = (pending_start, pending_more, pending_stuck, pending_passes, pending_end, swept_start, swept_more, swept_pivots)

-- ---- the outcome
pub stuck_none : (n j : ℕ) (rows : List (List ℤ)) → denominator j rows ≡ None → stuck n j rows (denominator j rows) ≡ Passes (j + 1)
stuck_none n j rows e = rw e refl

pub stuck_passes : (n j : ℕ) (rows : List (List ℤ)) (d : ℤ) → denominator j rows ≡ Some d → kernel n j d rows ≡ None → stuck n j rows (denominator j rows) ≡ Passes (j + 1)
stuck_passes n j rows d e k = rw (e, k) refl

pub stuck_kernel : (n j : ℕ) (rows : List (List ℤ)) (d : ℤ) (x : List ℤ) → denominator j rows ≡ Some d → kernel n j d rows ≡ Some x → stuck n j rows (denominator j rows) ≡ Kernel x
stuck_kernel n j rows d x e k = rw (e, k) refl

pub finished_none : (n rights : ℕ) (rows : List (List ℤ)) → denominator n rows ≡ None → finished n rights rows (denominator n rows) ≡ Passes (n + 1)
finished_none n rights rows e = rw e refl

pub finished_passes : (n rights : ℕ) (rows : List (List ℤ)) (d : ℤ) → denominator n rows ≡ Some d → answers n rights d rows ≡ None → finished n rights rows (denominator n rows) ≡ Passes (n + 1)
finished_passes n rights rows d e k = rw (e, k) refl

pub finished_answers : (n rights : ℕ) (rows : List (List ℤ)) (d : ℤ) (x : List ℤ) → denominator n rows ≡ Some d → answers n rights d rows ≡ Some x → finished n rights rows (denominator n rows) ≡ Answer x d
finished_answers n rights rows d x e k = rw (e, k) refl

pub ruleset ends = (to_z-of_z, stuck_none, stuck_passes, stuck_kernel, finished_none, finished_passes, finished_answers)

pub solved_stuck : (n rights j : ℕ) (rows before now : List (List ℤ)) → before ≡ map reduced rows → eliminated n 0 before ≡ StuckAt j now → solved n rights rows ≡ stuck n j now (denominator j now)
unfolding solved
solved_stuck n rights j rows before now b e = rw (← b, e) refl

pub solved_passes : (n rights j : ℕ) (rows before : List (List ℤ)) → before ≡ map reduced rows → eliminated n 0 before ≡ PassedAt j → solved n rights rows ≡ Passes (j + 1)
unfolding solved
solved_passes n rights j rows before b e = rw (← b, e) refl

pub solved_through : (n rights : ℕ) (rows before now : List (List ℤ)) → before ≡ map reduced rows → eliminated n 0 before ≡ Through now → solved n rights rows ≡ finished n rights now (denominator n now)
unfolding solved
solved_through n rights rows before now b e = rw (← b, e) refl

-- what a result of the calculation means, whatever it is
pub answers_right : (n rights : ℕ) (cells : List ℤ) (r : Result Solved SolveFault) → length cells ≡ n * (n + rights) → Meets r (solved n rights (rows_of n (n + rights) cells)) →
    IfOk r (λ s. Answers n rights (rows_of n (n + rights) cells) s.x s.d)
answers_right n rights cells (Ok s) h e = solved_answers n rights (rows_of n (n + rights) cells) s.x s.d (length-rows_of n (n + rights) cells) (widths-rows_of n (n + rights) cells h) e
answers_right n rights cells (Err f) h e = tt

pub kernel_right : (n rights : ℕ) (cells : List ℤ) (r : Result Solved SolveFault) → length cells ≡ n * (n + rights) → Meets r (solved n rights (rows_of n (n + rights) cells)) →
    IfSingular r (λ x. IsKernel n (rows_of n (n + rights) cells) x)
kernel_right n rights cells (Ok s) h e = tt
kernel_right n rights cells (Err (Singular x)) h e = solved_kernel n rights (rows_of n (n + rights) cells) x (length-rows_of n (n + rights) cells) (widths-rows_of n (n + rights) cells h) e
kernel_right n rights cells (Err (Overflow column)) h e = tt
kernel_right n rights cells (Err NoMemory) h e = tt

pub positive_right : (n rights : ℕ) (cells : List ℤ) (r : Result Solved SolveFault) → length cells ≡ n * (n + rights) → Meets r (solved n rights (rows_of n (n + rights) cells)) → IfOk r (λ s. pos 1 ≤ℤ s.d)
positive_right n rights cells (Ok s) h e = (solved_shape n rights (rows_of n (n + rights) cells) s.x s.d (length-rows_of n (n + rights) cells) (widths-rows_of n (n + rights) cells h) e).positive
positive_right n rights cells (Err f) h e = tt

pub values_right : (n rights : ℕ) (cells : List ℤ) (r : Result Solved SolveFault) → length cells ≡ n * (n + rights) → Meets r (solved n rights (rows_of n (n + rights) cells)) → IfOk r (λ s. length s.x ≡ rights * n)
values_right n rights cells (Ok s) h e = (solved_shape n rights (rows_of n (n + rights) cells) s.x s.d (length-rows_of n (n + rights) cells) (widths-rows_of n (n + rights) cells h) e).values
values_right n rights cells (Err f) h e = tt

pub ruleset solving = (solved_stuck, solved_passes, solved_through)

pub ruleset meanings = (answers_right, kernel_right, positive_right, values_right)
