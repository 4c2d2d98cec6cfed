-- what the turns keep, and what their end means
use Rattle.std.proofs.Common.{◌≡◌, ℕ, zero, suc, ◌+◌, ◌-◌, ◌<◌, ◌≤◌, List, length, take, drop, set, get_or, Option, Some, None, ℤ, pos, ◌≤ℤ◌, ◌<ℤ◌, Bool, true, false, refl, ap, sym, ◌∙◌, subst, arith, inl, inr, nat_lt, position, length-drop}
use Rattle.std.specs.List.{position_or_len}
use Rattle.std.proofs.lemmas.Int.{ints}
use Rattle.std.proofs.lemmas.List.{get_or-take, get_or-drop, length-take}
use Rattle.std.proofs.lemmas.List.Quantifiers.{position-Some}
use Rattle.std.proofs.lemmas.List.Sums.{fails_before_first}
use Rattle.mp_num.specs.Row.{entry}
use Rattle.mp_num.proofs.OutcomeLemmas.{bool_cases}
use Rattle.mp_simplex.specs.declared.turns.Choice.{Choice}
use Rattle.mp_simplex.specs.declared.turns.Choice.TheVariants.{Best, Endless, Passing, Leaves}
use Rattle.mp_simplex.specs.Pivoting.{negative, entering, leaving, leaving_choice, entering_choice, choice, Ended, Limited, follow, moved, turns, pivoted}
use Rattle.mp_simplex.specs.Tableau.{row_of}
use Rattle.mp_simplex.proofs.PivotLemmas.{pivot_keeps}
use Rattle.mp_simplex.proofs.RatioLemmas.{LeastBelow, leaving_some}
use Rattle.mp_simplex.proofs.TableauFacts.{IsTableau, IsLeast, IsBest, IsEndless, IsEnded}

pub position_none : {X : Type 0} (p : X → Bool) (xs : List X) (k : ℕ) (d : X) → position p xs ≡ None → k < length xs → p (get_or xs k d) ≡ false
position_none p xs k d e h = elim (bool_cases (nat_lt (position_or_len p xs) (length xs))) [
  | inl early ↦ absurd (found (position_or_len p xs) (rw early at e))
  | inr late ↦ fails_before_first p xs k d (grind (arith, late))
]
  where
    found : (k : ℕ) → Some k ≡ None → ⊥
    found k e = cc

-- the variable that enters
pub record Enters (right : ℕ) (rows : List (List ℤ)) (j : ℕ) : Type 0 where
  pub above : 1 ≤ j
  pub inside : j < right
  pub gains : entry (row_of rows 0) j <ℤ pos 0

negative_true : (x : ℤ) → negative x ≡ true → x <ℤ pos 0
negative_true x e = omega (arith, ints, e)

negative_false : (x : ℤ) → negative x ≡ false → pos 0 ≤ℤ x
negative_false x e = omega (arith, ints, e)

variable_at : (right : ℕ) (row : List ℤ) (k : ℕ) → k < right - 1 → get_or (take (right - 1) (drop 1 row)) k (pos 0) ≡ entry row (k + 1)
variable_at right row k h = get_or-take (right - 1) (drop 1 row) k (pos 0) h ∙ get_or-drop 1 row k (pos 0) ∙ ap (λ m. get_or row m (pos 0)) (omega arith)

pub entering_some : (right : ℕ) (rows : List (List ℤ)) (k : ℕ) → entering right rows ≡ Some k → Enters right rows (k + 1)
unfolding entering
entering_some right rows k e =
    let xs : List ℤ = take (right - 1) (drop 1 (row_of rows 0)) in
    let f = position-Some negative xs k (pos 0) e in
    let n : k < right - 1 = omega (arith, f.0, length-take (right - 1) (drop 1 (row_of rows 0))) in
    record { above = omega arith; inside = omega arith; gains = negative_true _ (ap negative (sym (variable_at right (row_of rows 0) k n)) ∙ f.1) }

pub entering_none : (right : ℕ) (rows : List (List ℤ)) → length (row_of rows 0) ≡ right + 1 → entering right rows ≡ None → IsBest right rows
unfolding entering
entering_none right rows w e = record {
  at = λ k one h.
      (let i : ℕ = k - 1 in
      let n : i < right - 1 = omega arith in
      let back : i + 1 ≡ k = omega arith in
      let xs : List ℤ = take (right - 1) (drop 1 (row_of rows 0)) in
      let inside : i < length xs = omega (arith, length-take (right - 1) (drop 1 (row_of rows 0)), length-drop 1 (row_of rows 0)) in
      negative_false _ (ap negative (ap (λ m. entry (row_of rows 0) m) (sym back) ∙ sym (variable_at right (row_of rows 0) i n)) ∙ position_none negative xs i (pos 0) e inside));
}

-- what a choice says
pub record Chosen (right count i j : ℕ) (rows : List (List ℤ)) : Type 0 where
  pub enters : Enters right rows j
  pub least : IsLeast (1 + count) right j rows i

choice_best : (right count : ℕ) (rows : List (List ℤ)) (basis : List ℕ) (o : Option ℕ) → entering_choice (λ j. leaving j right count rows basis) o ≡ Best → o ≡ None
choice_best right count rows basis None e = refl
choice_best right count rows basis (Some k) e = absurd (refuted (k + 1) (leaving (k + 1) right count rows basis) e)
  where
    refuted : (j : ℕ) (o : Option (Option ℕ)) → leaving_choice j o ≡ Best → ⊥
    refuted j None e = cc
    refuted j (Some None) e = cc
    refuted j (Some (Some i)) e = cc

leaves_parts : (i j k : ℕ) (o : Option (Option ℕ)) → leaving_choice k o ≡ Leaves i j → (k ≡ j) × (o ≡ Some (Some i))
leaves_parts i j k None e = absurd (cc)
leaves_parts i j k (Some None) e = absurd (cc)
leaves_parts i j k (Some (Some r)) e = let same : r ≡ i = cc in (cc, ap (λ n. Some (Some n)) same)

endless_parts : (j k : ℕ) (o : Option (Option ℕ)) → leaving_choice k o ≡ Endless j → (k ≡ j) × (o ≡ Some None)
endless_parts j k None e = absurd (cc)
endless_parts j k (Some None) e = (cc, refl)
endless_parts j k (Some (Some r)) e = absurd (cc)

choice_leaves : (right count i j : ℕ) (rows : List (List ℤ)) (basis : List ℕ) (o : Option ℕ) → entering_choice (λ j. leaving j right count rows basis) o ≡ Leaves i j →
    (k : ℕ) × (o ≡ Some k) × (k + 1 ≡ j) × (leaving (k + 1) right count rows basis ≡ Some (Some i))
choice_leaves right count i j rows basis None e = absurd (cc)
choice_leaves right count i j rows basis (Some k) e = let p = leaves_parts i j (k + 1) (leaving (k + 1) right count rows basis) e in (k, refl, p.0, p.1)

choice_endless : (right count j : ℕ) (rows : List (List ℤ)) (basis : List ℕ) (o : Option ℕ) → entering_choice (λ j. leaving j right count rows basis) o ≡ Endless j →
    (k : ℕ) × (o ≡ Some k) × (k + 1 ≡ j) × (leaving (k + 1) right count rows basis ≡ Some None)
choice_endless right count j rows basis None e = absurd (cc)
choice_endless right count j rows basis (Some k) e = let p = endless_parts j (k + 1) (leaving (k + 1) right count rows basis) e in (k, refl, p.0, p.1)

pub chosen_best : (right count : ℕ) (rows : List (List ℤ)) (basis : List ℕ) → length (row_of rows 0) ≡ right + 1 → choice right count rows basis ≡ Best → IsBest right rows
unfolding choice
chosen_best right count rows basis w e = entering_none right rows w (choice_best right count rows basis (entering right rows) e)

pub chosen_leaves : (right count i j : ℕ) (rows : List (List ℤ)) (basis : List ℕ) → choice right count rows basis ≡ Leaves i j → Chosen right count i j rows
unfolding choice
chosen_leaves right count i j rows basis e =
    let c = choice_leaves right count i j rows basis (entering right rows) e in
    let l : IsLeast (1 + count) right (c.0 + 1) rows i = leaving_some (c.0 + 1) right count rows basis (Some i) c.3 in
    record { enters = subst (Enters right rows) c.2 (entering_some right rows c.0 c.1); least = subst (λ (m : ℕ). IsLeast (1 + count) right m rows i) c.2 l }

pub chosen_endless : (right count j : ℕ) (rows : List (List ℤ)) (basis : List ℕ) → choice right count rows basis ≡ Endless j → IsEndless (1 + count) right j rows
unfolding choice
chosen_endless right count j rows basis e =
    let c = choice_endless right count j rows basis (entering right rows) e in
    let s = entering_some right rows c.0 c.1 in
    let l : LeastBelow (c.0 + 1) right rows (1 + count) None = leaving_some (c.0 + 1) right count rows basis None c.3 in
    let P : ℕ → Type 0 = λ m. IsEndless (1 + count) right m rows in
    subst P c.2 (record { above = s.above; inside = s.inside; gains = s.gains; free = l })

follow_end : (right count done : ℕ) (initial rows : List (List ℤ)) (basis : List ℕ) (go : ℕ → ℕ → Ended) (c : Choice) → IsTableau (1 + count) right initial rows basis → choice right count rows basis ≡ c →
    ((i j : ℕ) → Chosen right count i j rows → IsEnded (1 + count) right initial (go i j)) → IsEnded (1 + count) right initial (follow c done rows basis go)
follow_end right count done initial rows basis go Best t e h = (t, chosen_best right count rows basis (t.widths 0 (omega arith)) e)
follow_end right count done initial rows basis go (Endless j) t e h = (t, chosen_endless right count j rows basis e)
follow_end right count done initial rows basis go Passing t e h = tt
follow_end right count done initial rows basis go (Leaves i j) t e h = h i j (chosen_leaves right count i j rows basis e)

moved_end : (height right done : ℕ) (initial : List (List ℤ)) (go : List (List ℤ) → Ended) (o : Option (List (List ℤ))) → ((next : List (List ℤ)) → o ≡ Some next → IsEnded height right initial (go next)) →
    IsEnded height right initial (moved done go o)
moved_end height right done initial go None h = tt
moved_end height right done initial go (Some next) h = h next refl

pub turns_end : (left right count done : ℕ) (initial rows : List (List ℤ)) (basis : List ℕ) → IsTableau (1 + count) right initial rows basis → IsEnded (1 + count) right initial (turns left right count done rows basis)
unfolding turns
turns_end zero right count done initial rows basis t = follow_end right count done initial rows basis (λ i j. Limited) (choice right count rows basis) t refl (λ i j c. tt)
turns_end (suc left) right count done initial rows basis t =
    follow_end right count done initial rows basis (λ i j. moved done (λ next. turns left right count (done + 1) next (set basis i j)) (pivoted i j rows)) (choice right count rows basis) t refl
    (λ i j c. moved_end (1 + count) right done initial (λ next. turns left right count (done + 1) next (set basis i j)) (pivoted i j rows)
    (λ next e. turns_end left right count (done + 1) initial next (set basis i j) (pivot_keeps (1 + count) right j i initial rows next basis t c.least c.enters.above c.enters.inside e)))
