-- The whole calculation in place, and what its result means.
use Rattle.std.proofs.Common.{◌≡◌, ℕ, ◌+◌, ◌<◌, List, Some, None, Result, Ok, Err, ℤ, refl, ap, ap₂, sym, ◌∙◌, subst, arith, inl, inr}
use Rattle.std.proofs.lemmas.Bool.{cases_eq}
use Rattle.mp_simplex.specs.declared.Lp.{Lp}
use Rattle.mp_simplex.specs.declared.Optimum.{Optimum}
use Rattle.mp_simplex.specs.declared.LpFault.{LpFault}
use Rattle.mp_simplex.specs.declared.LpFault.TheVariants.{Unbounded, Overflow, PivotLimit, NoMemory}
use Rattle.mp_simplex.specs.declared.table.Table.{Table}
use Rattle.mp_simplex.specs.declared.turns.Ending.{Ending}
use Rattle.mp_simplex.specs.declared.turns.Ending.TheVariants.{Best, Endless, Passed, Limited}
use Rattle.mp_simplex.specs.Pivoting.{turns}
use Rattle.mp_simplex.specs.Tableau.{basic_of}
use Rattle.mp_simplex.specs.Outcome.{first_basis, Passes, ended, maximised}
use Rattle.mp_simplex.specs.Meeting.{Meets, BeginsAtZero, IsRight, FitsProgram}
use Rattle.mp_simplex.specs.Running.{rows_in, right_in, SameShape, IsFirstTable, ended_by, HasBasis, CanRead}
use Rattle.mp_simplex.proofs.TableauFacts.{IsTableau, IsEnded}
use Rattle.mp_simplex.proofs.TurnLemmas.{turns_end}
use Rattle.mp_simplex.proofs.EndLemmas.{first_initial, first_tableau}
use Rattle.mp_simplex.proofs.ResultLemmas.{maximised_optimum, maximised_ray, optimum_greatest}

-- ---- what is left of the calculation after the turns
pub passes_at_first : (lp : Lp) (limit : ℕ) → IsFirstTable lp None → maximised lp limit ≡ Passes 0
unfolding maximised
passes_at_first lp limit e = rw e refl

pub outcome_is : (lp : Lp) (limit : ℕ) (first last : Table) (ending : Ending) → IsFirstTable lp (Some first) →
    turns limit (right_in first) first.constraints 0 (rows_in first) first.basis.items ≡ ended_by ending last → SameShape first last →
    maximised lp limit ≡ ended last.constraints last.columns (ended_by ending last)
unfolding maximised
outcome_is lp limit first last ending f e s =
    let m : last.constraints ≡ lp.rows = s.constraints ∙ f.0 in
    let n : last.columns ≡ lp.cols = s.columns ∙ f.1 in
    let begun : turns limit (right_in first) first.constraints 0 (rows_in first) first.basis.items ≡ turns limit (1 + lp.cols + lp.rows) lp.rows 0 (rows_in first) (first_basis lp.rows lp.cols) =
    ap₂ (λ right count. turns limit right count 0 (rows_in first) first.basis.items) (ap₂ (λ (n m : ℕ). 1 + n + m) f.1 f.0) f.0 ∙ ap (turns limit (1 + lp.cols + lp.rows) lp.rows 0 (rows_in first)) f.3 in
    rw f.2 (ap (ended lp.rows lp.cols) (sym begun ∙ e) ∙ ap₂ (λ m n. ended m n (ended_by ending last)) (sym m) (sym n))

pub meets_outcome : (lp : Lp) (limit : ℕ) (first last : Table) (ending : Ending) (r : Result Optimum LpFault) → IsFirstTable lp (Some first) →
    turns limit (right_in first) first.constraints 0 (rows_in first) first.basis.items ≡ ended_by ending last → SameShape first last →
    Meets r (ended last.constraints last.columns (ended_by ending last)) → Meets r (maximised lp limit)
meets_outcome lp limit first last ending r f e s h = subst (Meets r) (sym (outcome_is lp limit first last ending f e s)) h

-- ---- a last table can be read off
has_basis : (initial : List (List ℤ)) (t : Table) → IsTableau (1 + t.constraints) (right_in t) initial (rows_in t) t.basis.items → HasBasis t
has_basis initial t b = record { first = b.first; inside = inside; positive = b.positive }
  where
    low : (k : ℕ) → k ≡ 0 → k < t.width
    low k e = omega (arith, t.wide)

    inside : (r : ℕ) → r < 1 + t.constraints → basic_of t.basis.items r < t.width
    inside r l = elim (cases_eq r 0) [ inl same ↦ low (basic_of t.basis.items r) (ap (basic_of t.basis.items) same ∙ b.first) | inr other ↦ omega (arith, t.wide, b.inside r (omega arith) l) ]

can_read_end : (initial : List (List ℤ)) (t : Table) (ending : Ending) → IsEnded (1 + t.constraints) (right_in t) initial (ended_by ending t) → CanRead t ending
can_read_end initial t (Best done) h = has_basis initial t h.0
can_read_end initial t (Endless done j) h = (has_basis initial t h.0, omega (arith, t.wide, h.1.inside))
can_read_end initial t (Passed done) h = tt
can_read_end initial t Limited h = tt

pub can_read : (lp : Lp) (limit : ℕ) (first last : Table) (ending : Ending) → BeginsAtZero lp → IsFirstTable lp (Some first) →
    turns limit (right_in first) first.constraints 0 (rows_in first) first.basis.items ≡ ended_by ending last → SameShape first last → CanRead last ending
can_read lp limit first last ending b f e s =
    let start : IsTableau (1 + lp.rows) (1 + lp.cols + lp.rows) (rows_in first) (rows_in first) (first_basis lp.rows lp.cols) =
    first_tableau lp.rows lp.cols lp.a lp.b lp.c (rows_in first) (first_initial lp.rows lp.cols lp.a lp.b lp.c (rows_in first) f.2) b.at in
    let at_basis : IsTableau (1 + lp.rows) (1 + lp.cols + lp.rows) (rows_in first) (rows_in first) first.basis.items =
    subst (IsTableau (1 + lp.rows) (1 + lp.cols + lp.rows) (rows_in first) (rows_in first)) (sym f.3) start in
    let right : 1 + lp.cols + lp.rows ≡ right_in first = sym (ap₂ (λ (n m : ℕ). 1 + n + m) f.1 f.0) in
    let at_right : IsTableau (1 + lp.rows) (right_in first) (rows_in first) (rows_in first) first.basis.items =
    subst (λ (r : ℕ). IsTableau (1 + lp.rows) r (rows_in first) (rows_in first) first.basis.items) right at_basis in
    let whole : IsTableau (1 + first.constraints) (right_in first) (rows_in first) (rows_in first) first.basis.items =
    subst (λ (h : ℕ). IsTableau (1 + h) (right_in first) (rows_in first) (rows_in first) first.basis.items) (sym f.0) at_right in
    let end : IsEnded (1 + first.constraints) (right_in first) (rows_in first) (ended_by ending last) =
    subst (IsEnded (1 + first.constraints) (right_in first) (rows_in first)) e (turns_end limit (right_in first) first.constraints 0 (rows_in first) (rows_in first) first.basis.items whole) in
    let last_right : right_in first ≡ right_in last = sym (ap₂ (λ (n m : ℕ). 1 + n + m) s.columns s.constraints) in
    can_read_end (rows_in first) last ending
    (subst (λ (h : ℕ). IsEnded (1 + h) (right_in last) (rows_in first) (ended_by ending last)) (sym s.constraints)
    (subst (λ (r : ℕ). IsEnded (1 + first.constraints) r (rows_in first) (ended_by ending last)) last_right end))

-- ---- what the result means
pub means : (lp : Lp) (limit : ℕ) (r : Result Optimum LpFault) → BeginsAtZero lp → Meets r (maximised lp limit) → IsRight lp r
means lp limit (Ok best) b e = let h = maximised_optimum lp limit best b e in (h, optimum_greatest lp best h)
means lp limit (Err (Unbounded ray)) b e = maximised_ray lp limit ray b e
means lp limit (Err (Overflow pivots)) b e = tt
means lp limit (Err PivotLimit) b e = tt
means lp limit (Err NoMemory) b e = tt

-- The optimum of a program fits it, so that it can be checked.
pub optimum_fits : (lp : Lp) (best : Optimum) → IsRight lp (Ok best) → FitsProgram lp best
optimum_fits lp best h = record { primal = h.0.primal.size; dual = h.0.dual.size; primal_den = h.0.primal.positive; dual_den = h.0.dual.positive }

pub ruleset maximises = (passes_at_first, meets_outcome, can_read, means)
