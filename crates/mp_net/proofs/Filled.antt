-- Tables that a loop fills, and the search for the junction of a movement.
use Rattle.std.proofs.Common.{◌≡◌, ◌≤◌, ◌<◌, ℕ, ◌+◌, ◌-◌, List, [], ◌∷◌, ◌++◌, length, map, get_or, zero, suc, arith, sym, ◌∙◌, ap, subst, refl, true, false, drop, length-append, inl, inr}
use Rattle.std.proofs.Math.Nat.{eq-or-lt_of_le}
use Rattle.std.proofs.Math.ListN.{get_or-append}
use Rattle.std.proofs.lemmas.List.{length-map, get_or_push, drop_more}
use Rattle.mp_model.specs.Network.{stands_in, first_holder}
use Rattle.mp_net.specs.Parts.{junction_of}
use Rattle.mp_net.specs.Rows.{IsTable}
use Rattle.mp_net.specs.declared.parts.JunctionPart.{JunctionPart}

-- the rows of the numbers below i stand
pub record FilledTo {X : Type 0} (IsRow : ℕ → X → Type 0) (i : ℕ) (rows : List X) : Type 0 where
  pub count : length rows + 1 ≡ i
  pub each : (k : ℕ) → 1 ≤ k → k < i → (other : X) → IsRow k (get_or rows (k - 1) other)

pub FilledTo-start : {X : Type 0} (IsRow : ℕ → X → Type 0) (rows : List X) → rows ≡ [] → FilledTo IsRow 1 rows
FilledTo-start IsRow rows e = record { count = ap (λ xs. length xs + 1) e; each = λ k low high other. absurd (omega arith) }

pub FilledTo-more : {X : Type 0} (IsRow : ℕ → X → Type 0) (i : ℕ) (rows more : List X) (row : X) → FilledTo IsRow i rows → more ≡ rows ++ row ∷ [] → IsRow i row → FilledTo IsRow (i + 1) more
FilledTo-more {X} IsRow i rows more row filled e is = record {
  count = omega (arith, filled.count, ap length e, length-append rows (row ∷ []));
  each = λ k low high other.
      elim (eq-or-lt_of_le {n = k} {m = i} (omega arith)) [
        | inl last ↦
            let place : length rows ≡ k - 1 = omega (arith, filled.count) in
            let here : get_or more (k - 1) other ≡ row = ap (λ xs. get_or xs (k - 1) other) e ∙ get_or_push rows row other (k - 1) place in
            subst (IsRow k) (sym here) (subst (λ n. IsRow n row) (sym last) is)
        | inr before ↦
            let here : get_or more (k - 1) other ≡ get_or rows (k - 1) other = ap (λ xs. get_or xs (k - 1) other) e ∙ get_or-append rows (row ∷ []) other (k - 1) (omega (arith, filled.count)) in
            subst (IsRow k) (sym here) (filled.each k low before other)
      ];
}

pub FilledTo-end : {X Y Z : Type 0} (IsRow : ℕ → X → Type 0) (i : ℕ) (of : Y → Z) (entries : List Y) (rows : List X) → FilledTo IsRow i rows → i ≡ length entries + 1 → IsTable IsRow (length (map of entries)) rows
FilledTo-end IsRow i of entries rows filled last = record {
  count = omega (arith, filled.count, length-map entries of);
  each = λ k low high other. filled.each k low (omega (arith, length-map entries of)) other;
}

pub ruleset filled = (FilledTo-start, FilledTo-more, FilledTo-end)

-- no junction below number j holds the movement
pub record HeldFrom (js : List JunctionPart) (k j : ℕ) : Type 0 where
  pub same : first_holder 1 (map junction_of js) k ≡ first_holder j (map junction_of (drop (j - 1) js)) k

pub HeldFrom-start : (js : List JunctionPart) (k : ℕ) → HeldFrom js k 1
HeldFrom-start js k = record { same = refl }

pub HeldFrom-more : (js : List JunctionPart) (k j : ℕ) (part : JunctionPart) → HeldFrom js k j → 1 ≤ j → j ≤ length js → part ≡ get_or js (j - 1) part → stands_in (junction_of part) k ≡ false → HeldFrom js k (j + 1)
HeldFrom-more js k j part held some within here other =
    let rest = drop_more js (j - 1) part (omega arith) in
    let e : j - 1 + 1 ≡ j + 1 - 1 = omega arith in
    let next : suc j ≡ j + 1 = omega arith in
    record { same = held.same ∙ rw (rest, ← here, other, e, next) refl }

pub HeldFrom-hit : (js : List JunctionPart) (k j : ℕ) (part : JunctionPart) → HeldFrom js k j → 1 ≤ j → j ≤ length js → part ≡ get_or js (j - 1) part → stands_in (junction_of part) k ≡ true → j ≡ first_holder 1 (map junction_of js) k
HeldFrom-hit js k j part held some within here holds =
    let rest = drop_more js (j - 1) part (omega arith) in
    sym (held.same ∙ rw (rest, ← here, holds) refl)

pub HeldFrom-none : (js : List JunctionPart) (k j : ℕ) → HeldFrom js k j → j ≡ length js + 1 → 0 ≡ first_holder 1 (map junction_of js) k
HeldFrom-none js k j held past = sym (held.same ∙ rw (none js (j - 1) (omega arith)) refl)
  where
    none : (xs : List JunctionPart) (n : ℕ) → length xs ≡ n → drop n xs ≡ []
    none [] zero e = refl
    none [] (suc n) e = refl
    none (x ∷ xs) zero e = absurd (omega arith)
    none (x ∷ xs) (suc n) e = none xs n (omega arith)

pub ruleset holders = (HeldFrom-start, HeldFrom-more, HeldFrom-hit, HeldFrom-none)

-- rows that hold one fact hold another that it gives
pub FilledTo-map : {X : Type 0} (P Q : ℕ → X → Type 0) (i : ℕ) (rows : List X) → FilledTo P i rows → ((k : ℕ) (row : X) → P k row → Q k row) → FilledTo Q i rows
FilledTo-map P Q i rows filled gives = record { count = filled.count; each = λ k low high other. gives k (get_or rows (k - 1) other) (filled.each k low high other) }
