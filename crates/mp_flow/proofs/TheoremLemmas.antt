use Rattle.mp_num.proofs.AppliedLemmas.{solves_before_combining}
use Rattle.mp_num.specs.Row.{applied}
use Rattle.std.proofs.Common.{◌≡◌, ℕ, zero, suc, ◌+◌, ◌<◌, ◌≤◌, List, [], ◌∷◌, ◌++◌, length, take, drop, get_or, Option, Some, None, ℤ, pos, ◌-ℤ◌, ◌*ℤ◌, ◌≤ℤ◌, negsuc, add-one, refl, ap, sym, ◌∙◌, subst, arith, remove, true, int_lt, inl, inr, All}
use Rattle.std.proofs.lemmas.Int.{ints}
use Rattle.std.proofs.lemmas.List.{take-append-drop, get_or_append_left, get_or-append-add, drop_more, length-append, get_or_past}
use Rattle.std.proofs.lemmas.Bool.{cases_lt}
use Rattle.std.proofs.lemmas.List.Elements.{All-append, All-same, All-cons, All-head, All-tail, All-take, All-drop}
use Rattle.std.proofs.lemmas.List.Quantifiers.{position-Some}
use Rattle.std.proofs.lemmas.Option.{option_and_then_some, same_Some}
use Rattle.mp_num.proofs.CheckedLemmas.{within_some}
use Rattle.mp_num.proofs.Ring.{diff_of, differences, diff-eq, pos_diff}
use Rattle.mp_flow.specs.Elimination.{serves, upright, negated, cleared, turned, turn, turn_of, chosen_turn, Turn, Stuck, Passed, Turned, Solves, Elimination, Through, eliminated, after}
use Rattle.mp_flow.proofs.ColumnLemmas.{upright_positive, apart_from_serves}
use Rattle.mp_num.specs.Passing.{each}
use Rattle.mp_num.specs.Row.{entry, combined}
use Rattle.mp_num.proofs.SumLemmas.{total-same, total-scale}
use Rattle.mp_num.proofs.RowLemmas.{combined_some}
use Rattle.mp_num.proofs.OutcomeLemmas.{option_map_some, bool_cases, each_some}

pub all_back : (f : List ℤ → Option (List ℤ)) (R P Q : List ℤ → Type 0) (xs ys : List (List ℤ)) → each f xs ≡ Some ys → All R xs → All Q ys →
    ((x y : List ℤ) → R x → f x ≡ Some y → Q y → P x) → All P xs
all_back f R P Q xs ys e all_r all_q back = λ k d h.
    let o = each_some f xs ys e in
    back (get_or xs k d) (get_or ys k []) (all_r k d h) (o.at k d [] h) (all_q k [] (omega (arith, o.same_length)))

pub all_forth : (f : List ℤ → Option (List ℤ)) (R Q : List ℤ → Type 0) (xs ys : List (List ℤ)) → each f xs ≡ Some ys → All R xs →
    ((x y : List ℤ) → R x → f x ≡ Some y → Q y) → All Q ys
all_forth f R Q xs ys e all_r forth = λ k d h.
    let o = each_some f xs ys e in
    forth (get_or xs k []) (get_or ys k d) (all_r k [] (omega (arith, o.same_length))) (o.at k [] d (omega (arith, o.same_length)))

-- a column that went through
pub record Turning (j : ℕ) (rows next : List (List ℤ)) : Type 0 where
  pub place : ℕ
  pub pivot : List ℤ
  pub above : List (List ℤ)
  pub below : List (List ℤ)
  pub inside : place < length (drop j rows)
  pub serving : serves j (get_or (drop j rows) place []) ≡ true
  pub upright_is : upright j (get_or (drop j rows) place []) ≡ Some pivot
  pub above_is : each (combined j pivot) (take j rows) ≡ Some above
  pub below_is : each (combined j pivot) (remove (drop j rows) place) ≡ Some below
  pub next_is : next ≡ above ++ (pivot ∷ below)

turn_of_turned : (o : Option (List (List ℤ))) (next : List (List ℤ)) → turn_of o ≡ Turned next → o ≡ Some next
turn_of_turned None next e = absurd (cc)
turn_of_turned (Some rows) next e = cc

chosen_turned : (j : ℕ) (used free next : List (List ℤ)) (o : Option ℕ) → chosen_turn j used free o ≡ Turned next →
    (k : ℕ) × (o ≡ Some k) × (turned j used (get_or free k []) (remove free k) ≡ Some next)
chosen_turned j used free next None e = absurd (cc)
chosen_turned j used free next (Some k) e = (k, refl, turn_of_turned _ next e)

pub turning : (j : ℕ) (rows next : List (List ℤ)) → turn j rows ≡ Turned next → Turning j rows next
unfolding turn turned cleared
turning j rows next e =
    let c = chosen_turned j (take j rows) (drop j rows) next _ e in
    let at = position-Some (serves j) (drop j rows) c.0 [] c.1 in
    option_and_then_some _ (upright j (get_or (drop j rows) c.0 [])) next c.2 (λ pivot hp e'.
    option_and_then_some _ (each (combined j pivot) (take j rows)) next e' (λ above ha e''.
    option_map_some _ (each (combined j pivot) (remove (drop j rows) c.0)) next e'' (λ below hb q.
    record { place = c.0; pivot = pivot; above = above; below = below; inside = at.0; serving = at.1; upright_is = hp; above_is = ha; below_is = hb; next_is = q })))

all_left : (P : List ℤ → Type 0) (xs ys : List (List ℤ)) → All P (xs ++ ys) → All P xs
all_left P xs ys h = λ k d l. subst P (get_or_append_left xs ys d k l) (h k d (omega (arith, length-append xs ys)))

all_right : (P : List ℤ → Type 0) (xs ys : List (List ℤ)) → All P (xs ++ ys) → All P ys
all_right P xs ys h = λ k d l. subst P (get_or-append-add xs ys k d) (h (length xs + k) d (omega (arith, length-append xs ys)))

all_insert : (P : List ℤ → Type 0) (xs : List (List ℤ)) (k : ℕ) → k < length xs → All P (remove xs k) → P (get_or xs k []) → All P xs
all_insert P xs k l rest here =
    let whole : xs ≡ take k xs ++ (get_or xs k [] ∷ drop (k + 1) xs) = sym (take-append-drop k xs) ∙ ap (λ s. take k xs ++ s) (drop_more xs k [] l) in
    let after : All P (drop (k + 1) xs) = subst (λ (n : ℕ). All P (drop n xs)) (sym (add-one k)) (all_right P (take k xs) (drop (suc k) xs) rest) in
    All-same P xs _ whole (All-append P (take k xs) (get_or xs k [] ∷ drop (k + 1) xs) (all_left P (take k xs) (drop (suc k) xs) rest) (All-cons P (get_or xs k []) (drop (k + 1) xs) here after))

neg_law : (x y : ℤ) → (pos 0 -ℤ x) *ℤ y ≡ negsuc 0 *ℤ (x *ℤ y)
neg_law x y = rw (pos_diff 0, diff_of x, diff_of y, diff_of (negsuc 0)) (simp differences (diff-eq _ _ _ _ (omega arith)))

neg_zero : (t : ℤ) → negsuc 0 *ℤ t ≡ pos 0 → t ≡ pos 0
neg_zero t e = omega (arith, ints)

-- a row and the row set upright have one length and are solved by the same values
pub upright_solves : (width j : ℕ) (y : ℕ → ℤ) (row pivot : List ℤ) → upright j row ≡ Some pivot → (length pivot ≡ length row) × (applied width pivot y ≡ pos 0 → applied width row y ≡ pos 0)
unfolding upright negated
upright_solves width j y row pivot e = elim (bool_cases (int_lt (entry row j) (pos 0))) [
  | inl below ↦
      let r = each_some _ row pivot (rw below at e) in
      let at : (k : ℕ) → entry pivot k ≡ pos 0 -ℤ entry row k = λ k. elim (cases_lt k (length row)) [
        | inl in_row ↦ within_some _ _ (r.at k (pos 0) (pos 0) in_row)
        | inr past ↦ rw (get_or_past pivot k (pos 0) (omega (arith, r.same_length)), get_or_past row k (pos 0) past) refl
      ] in (
        r.same_length,
        λ h. neg_zero _ (sym (total-scale width (negsuc 0) (λ k. entry row k *ℤ y k))
            ∙ total-same width _ _ (λ k _. sym (ap (λ t. t *ℤ y k) (at k) ∙ neg_law (entry row k) (y k))) ∙ h),
      )
  | inr above ↦ let same : row ≡ pivot = same_Some _ _ (rw above at e) in (ap length (sym same), λ h. ap (λ r. applied width r y) same ∙ h)
]

pub solves_turn : (width j : ℕ) (y : ℕ → ℤ) (rows next : List (List ℤ)) → j < width → All (λ r. length r ≡ width) rows → turn j rows ≡ Turned next →
    All (λ r. length r ≡ width) next × (Solves width y next → Solves width y rows)
unfolding Solves
solves_turn width j y rows next in_row widths e =
    let t = turning j rows next e in
    let W : List ℤ → Type 0 = λ r. length r ≡ width in
    let Z : List ℤ → Type 0 = λ r. applied width r y ≡ pos 0 in
    let free = drop j rows in
    let chosen = get_or free t.place [] in
    let used_widths : All W (take j rows) = All-take W j rows widths in
    let free_widths : All W free = All-drop W j rows widths in
    let rest_widths : All W (remove free t.place) = All-append W (take t.place free) (drop (suc t.place) free) (All-take W t.place free free_widths) (All-drop W (suc t.place) free free_widths) in
    let u = upright_solves width j y chosen t.pivot t.upright_is in
    let chosen_width : length chosen ≡ width = free_widths t.place [] t.inside in
    let pivot_width : length t.pivot ≡ width = u.0 ∙ chosen_width in
    let positive : pos 1 ≤ℤ entry t.pivot j = upright_positive j chosen t.pivot (omega arith) (apart_from_serves j chosen t.serving) t.upright_is in
    let forth : (x y : List ℤ) → W x → combined j t.pivot x ≡ Some y → W y = λ x out wx h.
    (let c = combined_some j t.pivot x out (wx ∙ sym pivot_width) positive h in c.3.same_length ∙ wx) in
    let back : Z t.pivot → (x y : List ℤ) → W x → combined j t.pivot x ≡ Some y → Z y → Z x = λ hp x out wx h ho.
    (let c = combined_some j t.pivot x out (wx ∙ sym pivot_width) positive h in solves_before_combining width j y t.pivot x out c.0 c.1 c.2 c.3 hp ho) in (
      All-same W next _ t.next_is (All-append W t.above (t.pivot ∷ t.below) (all_forth _ W W (take j rows) t.above t.above_is used_widths forth)
          (All-cons W t.pivot t.below pivot_width (all_forth _ W W (remove free t.place) t.below t.below_is rest_widths forth))),
      λ solves.
          (let parts : All Z (t.above ++ (t.pivot ∷ t.below)) = All-same Z _ next (sym t.next_is) solves in
          let hp : Z t.pivot = All-head Z t.pivot t.below (all_right Z t.above (t.pivot ∷ t.below) parts) in
          let used : All Z (take j rows) = all_back _ W Z Z (take j rows) t.above t.above_is used_widths (all_left Z t.above (t.pivot ∷ t.below) parts) (back hp) in
          let rest : All Z (remove free t.place) = all_back _ W Z Z (remove free t.place) t.below t.below_is rest_widths (All-tail Z t.pivot t.below (all_right Z t.above (t.pivot ∷ t.below) parts)) (back hp) in
          let whole : All Z free = all_insert Z free t.place t.inside rest (u.1 hp) in
          All-same Z rows _ (sym (take-append-drop j rows)) (All-append Z (take j rows) free used whole)),
    )

pub after_through : (t : Turn) (j : ℕ) (rows final : List (List ℤ)) (go : List (List ℤ) → Elimination) → after t j rows go ≡ Through final →
    (next : List (List ℤ)) × (t ≡ Turned next) × (go next ≡ Through final)
after_through Stuck j rows final go e = absurd (cc)
after_through Passed j rows final go e = absurd (cc)
after_through (Turned next) j rows final go e = (next, refl, e)

pub solves_eliminated : (width columns j : ℕ) (y : ℕ → ℤ) (rows final : List (List ℤ)) → j + columns ≤ width → All (λ r. length r ≡ width) rows → eliminated columns j rows ≡ Through final →
    Solves width y final → Solves width y rows
unfolding eliminated
solves_eliminated width zero j y rows final l w e s = let same : rows ≡ final = cc in subst (Solves width y) (sym same) s
solves_eliminated width (suc columns) j y rows final l w e s =
    let a = after_through (turn j rows) j rows final (eliminated columns (j + 1)) e in
    let t = solves_turn width j y rows a.0 (omega arith) w a.1 in
    t.1 (solves_eliminated width columns (j + 1) y a.0 final (omega arith) t.0 a.2 s)
