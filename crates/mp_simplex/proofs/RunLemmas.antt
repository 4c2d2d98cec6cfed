-- The turns in place.
use Rattle.std.proofs.Common.{◌≡◌, ◌≢◌, ℕ, zero, suc, ◌+◌, ◌-◌, ◌*◌, ◌<◌, ◌≤◌, List, [], ◌∷◌, ◌++◌, length, take, drop, set, get_or, Option, Some, None, ℤ, pos, ◌≤ℤ◌, Bool, true, false, refl, ap, ap₂, sym, ◌∙◌, subst, arith, to_z-of_z, position, int_lt, length-take-le}
use Rattle.std.proofs.lemmas.List.{drop-take, take-take}
use Rattle.mp_num.specs.Row.{rows_of}
use Rattle.mp_num.proofs.TableLemmas.{rows_first}
use Rattle.mp_simplex.specs.declared.turns.Choice.TheVariants.{Best, Endless, Passing, Leaves}
use Rattle.mp_simplex.specs.Pivoting.{negative, entering, leaving, choice, BestAt, EndlessAt, PassedAt, Limited, moved, turns, pivoted}
use Rattle.mp_simplex.specs.declared.table.Table.{Table}
use Rattle.mp_simplex.specs.Running.{rows_in, right_in, SameShape, CanFollow}
use Rattle.mp_simplex.specs.Tableau.{row_of}
use Rattle.mp_simplex.proofs.EntryLemmas.{entry_is}
use Rattle.mp_simplex.proofs.TurnLemmas.{chosen_leaves, entering_some}

row_zero : (rows width : ℕ) (cells : List ℤ) → 0 < rows → row_of (rows_of rows width cells) 0 ≡ take width cells
row_zero rows width cells h = ap (λ s. get_or s 0 []) (rows_first rows width cells h)

pub entering_is : (m n width : ℕ) (cells : List ℤ) → width ≡ (1 + n + m) + 1 → entering (1 + n + m) (rows_of (1 + m) width cells) ≡ position negative (take (width - 1 - 1) (drop 1 cells))
unfolding entering
entering_is m n width cells e =
    let w : width ≡ 1 + (1 + n + m) = omega arith in
    let k : 1 + n + m - 1 ≡ width - 1 - 1 = omega arith in
    ap (λ row. position negative (take (1 + n + m - 1) (drop 1 row))) (row_zero (1 + m) width cells (omega arith) ∙ ap (λ n. take n cells) w)
    ∙ ap (λ s. position negative (take (1 + n + m - 1) s)) (drop-take 1 (1 + n + m) cells)
    ∙ ap (position negative) (take-take (1 + n + m - 1) (1 + n + m) (drop 1 cells) (omega arith) ∙ ap (λ n. take n (drop 1 cells)) k)

pub ruleset enterings = (to_z-of_z, entering_is)

pub choice_best : (right count : ℕ) (rows : List (List ℤ)) (basis : List ℕ) → entering right rows ≡ None → choice right count rows basis ≡ Best
unfolding choice
choice_best right count rows basis e = rw e refl

pub choice_passing : (right count : ℕ) (rows : List (List ℤ)) (basis : List ℕ) (k : ℕ) → entering right rows ≡ Some k → leaving (k + 1) right count rows basis ≡ None → choice right count rows basis ≡ Passing
unfolding choice
choice_passing right count rows basis k e l = rw (e, l) refl

pub choice_endless : (right count : ℕ) (rows : List (List ℤ)) (basis : List ℕ) (k : ℕ) → entering right rows ≡ Some k → leaving (k + 1) right count rows basis ≡ Some None → choice right count rows basis ≡ Endless (k + 1)
unfolding choice
choice_endless right count rows basis k e l = rw (e, l) refl

pub choice_leaves : (right count : ℕ) (rows : List (List ℤ)) (basis : List ℕ) (k i : ℕ) → entering right rows ≡ Some k → leaving (k + 1) right count rows basis ≡ Some (Some i) → choice right count rows basis ≡ Leaves i (k + 1)
unfolding choice
choice_leaves right count rows basis k i e l = rw (e, l) refl

pub entering_below : (width right : ℕ) (rows : List (List ℤ)) (k : ℕ) → width ≡ right + 1 → entering right rows ≡ Some k → k + 1 < width
entering_below width right rows k w e = omega (arith, (entering_some right rows k e).inside)

pub can_follow : (t : Table) (k i : ℕ) → t.width ≡ right_in t + 1 → entering (right_in t) (rows_in t) ≡ Some k → leaving (k + 1) (right_in t) t.constraints (rows_in t) t.basis.items ≡ Some (Some i) → CanFollow t (Leaves i (k + 1))
can_follow t k i w e l =
    let c = chosen_leaves (right_in t) t.constraints i (k + 1) (rows_in t) t.basis.items (choice_leaves (right_in t) t.constraints (rows_in t) t.basis.items k i e l) in
    (c.least.inside, omega (arith, c.enters.inside), c.least.positive)

pub ruleset choices = (choice_best, choice_passing, choice_endless, choice_leaves, entering_below, can_follow)

pub ruleset pivots = (entry_is)

-- ---- the loop: what is left gives what the whole gives
pub record Turning (limit : ℕ) (old : Table) (done : ℕ) (now : Table) : Type 0 where
  pub rest : turns limit (right_in old) old.constraints 0 (rows_in old) old.basis.items ≡ turns (limit - done) (right_in now) now.constraints done (rows_in now) now.basis.items
  pub within : done ≤ limit
  pub shape : SameShape old now

pub turning_start : (limit : ℕ) (old : Table) → Turning limit old 0 old
turning_start limit old = record {
  rest = ap (λ n. turns n (right_in old) old.constraints 0 (rows_in old) old.basis.items) (omega arith);
  within = omega arith;
  shape = record { constraints = refl; columns = refl; width = refl };
}

turn_best : (left right count done : ℕ) (rows : List (List ℤ)) (basis : List ℕ) → choice right count rows basis ≡ Best → turns left right count done rows basis ≡ BestAt done rows basis
unfolding turns
turn_best zero right count done rows basis e = rw e refl
turn_best (suc left) right count done rows basis e = rw e refl

turn_endless : (left right count done j : ℕ) (rows : List (List ℤ)) (basis : List ℕ) → choice right count rows basis ≡ Endless j → turns left right count done rows basis ≡ EndlessAt done j rows basis
unfolding turns
turn_endless zero right count done j rows basis e = rw e refl
turn_endless (suc left) right count done j rows basis e = rw e refl

turn_passes : (left right count done : ℕ) (rows : List (List ℤ)) (basis : List ℕ) → choice right count rows basis ≡ Passing → turns left right count done rows basis ≡ PassedAt done
unfolding turns
turn_passes zero right count done rows basis e = rw e refl
turn_passes (suc left) right count done rows basis e = rw e refl

turn_limited : (right count done i j : ℕ) (rows : List (List ℤ)) (basis : List ℕ) → choice right count rows basis ≡ Leaves i j → turns 0 right count done rows basis ≡ Limited
unfolding turns
turn_limited right count done i j rows basis e = rw e refl

turn_pivots : (left right count done i j : ℕ) (rows : List (List ℤ)) (basis : List ℕ) → choice right count rows basis ≡ Leaves i j →
    turns (suc left) right count done rows basis ≡ moved done (λ next. turns left right count (done + 1) next (set basis i j)) (pivoted i j rows)
unfolding turns
turn_pivots left right count done i j rows basis e = rw e refl

pub turning_best : (limit : ℕ) (old : Table) (done : ℕ) (now : Table) → Turning limit old done now → choice (right_in now) now.constraints (rows_in now) now.basis.items ≡ Best →
    turns limit (right_in old) old.constraints 0 (rows_in old) old.basis.items ≡ BestAt done (rows_in now) now.basis.items
turning_best limit old done now s e = s.rest ∙ turn_best (limit - done) (right_in now) now.constraints done (rows_in now) now.basis.items e

pub turning_endless : (limit : ℕ) (old : Table) (done j : ℕ) (now : Table) → Turning limit old done now → choice (right_in now) now.constraints (rows_in now) now.basis.items ≡ Endless j →
    turns limit (right_in old) old.constraints 0 (rows_in old) old.basis.items ≡ EndlessAt done j (rows_in now) now.basis.items
turning_endless limit old done j now s e = s.rest ∙ turn_endless (limit - done) (right_in now) now.constraints done j (rows_in now) now.basis.items e

pub turning_passes : (limit : ℕ) (old : Table) (done : ℕ) (now : Table) → Turning limit old done now → choice (right_in now) now.constraints (rows_in now) now.basis.items ≡ Passing →
    turns limit (right_in old) old.constraints 0 (rows_in old) old.basis.items ≡ PassedAt done
turning_passes limit old done now s e = s.rest ∙ turn_passes (limit - done) (right_in now) now.constraints done (rows_in now) now.basis.items e

pub turning_limited : (limit : ℕ) (old : Table) (done i j : ℕ) (now : Table) → Turning limit old done now → choice (right_in now) now.constraints (rows_in now) now.basis.items ≡ Leaves i j → done ≡ limit →
    turns limit (right_in old) old.constraints 0 (rows_in old) old.basis.items ≡ Limited
turning_limited limit old done i j now s e h =
    let z : limit - done ≡ 0 = omega arith in
    s.rest ∙ ap (λ n. turns n (right_in now) now.constraints done (rows_in now) now.basis.items) z ∙ turn_limited (right_in now) now.constraints done i j (rows_in now) now.basis.items e

turning_at : (limit : ℕ) (old : Table) (done i j : ℕ) (now : Table) → Turning limit old done now → choice (right_in now) now.constraints (rows_in now) now.basis.items ≡ Leaves i j → done ≢ limit →
    turns limit (right_in old) old.constraints 0 (rows_in old) old.basis.items ≡
    moved done (λ next. turns (limit - (done + 1)) (right_in now) now.constraints (done + 1) next (set now.basis.items i j)) (pivoted i j (rows_in now))
turning_at limit old done i j now s e h =
    let z : limit - done ≡ suc (limit - (done + 1)) = omega (arith, s.within) in
    s.rest ∙ ap (λ n. turns n (right_in now) now.constraints done (rows_in now) now.basis.items) z ∙ turn_pivots (limit - (done + 1)) (right_in now) now.constraints done i j (rows_in now) now.basis.items e

pub turning_fails : (limit : ℕ) (old : Table) (done i j : ℕ) (now : Table) → Turning limit old done now → choice (right_in now) now.constraints (rows_in now) now.basis.items ≡ Leaves i j → done ≢ limit →
    pivoted i j (rows_in now) ≡ None → turns limit (right_in old) old.constraints 0 (rows_in old) old.basis.items ≡ PassedAt done
turning_fails limit old done i j now s e h p = turning_at limit old done i j now s e h ∙ rw p refl

-- The shape of a table goes on through a pivot.
pub shape_on : (old now next : Table) → SameShape old now → SameShape now next → SameShape old next
shape_on old now next s t = record { constraints = t.constraints ∙ s.constraints; columns = t.columns ∙ s.columns; width = t.width ∙ s.width }

pub turning_more : (limit : ℕ) (old : Table) (done i j : ℕ) (now next : Table) → Turning limit old done now → choice (right_in now) now.constraints (rows_in now) now.basis.items ≡ Leaves i j → done ≢ limit →
    pivoted i j (rows_in now) ≡ Some (rows_in next) → next.basis.items ≡ set now.basis.items i j → SameShape now next → Turning limit old (done + 1) next
turning_more limit old done i j now next s e h p b t = record {
  rest =
      turning_at limit old done i j now s e h ∙ rw (p, ← b)
      (ap₂ (λ right count. turns (limit - (done + 1)) right count (done + 1) (rows_in next) next.basis.items) (ap₂ (λ (n m : ℕ). 1 + n + m) (sym t.columns) (sym t.constraints)) (sym t.constraints));
  within = omega (arith, s.within);
  shape = shape_on old now next s.shape t;
}

pub turning_shape : (limit : ℕ) (old : Table) (done : ℕ) (now : Table) → Turning limit old done now → SameShape old now
turning_shape limit old done now s = s.shape

pub ruleset runs = (turning_start, turning_best, turning_endless, turning_passes, turning_limited, turning_fails, turning_more, turning_shape, shape_on)
