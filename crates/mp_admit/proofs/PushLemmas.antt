-- Loops that push the values of a calculation one by one.
use Rattle.std.proofs.Common.{to_z-of_z, ◌≡◌, ℕ, suc, ◌+◌, ◌-◌, ◌<◌, ◌≤◌, List, [], ◌∷◌, ◌++◌, Option, Some, None, option_map, option_and_then, drop, get_or, length, refl, ap, sym, ◌∙◌, arith, ℤ}
use Rattle.std.proofs.lemmas.List.{drop_all, append-nil, length-append}
use Rattle.std.proofs.lemmas.List.FromFn.{length-range_with_len, get_or-range_with_len}
use Rattle.mp_num.specs.Passing.{each}
use Rattle.mp_num.proofs.PassingLemmas.{before_one, each_at}
use Rattle.mp_model.specs.Network.{numbers_to}
use Rattle.mp_flow.specs.declared.network.Place.{Place}
use Rattle.mp_verdict.specs.Stated.{Reached, PassesAt, at_place}
use Rattle.mp_admit.specs.Lists.{before}

-- what was there before and is still to come
pub record Pushing (f : ℕ → Option ℤ) (xs : List ℕ) (old : List ℤ) (t : ℕ) (now : List ℤ) : Type 0 where
  pub rest : before old (each f xs) ≡ before now (each f (drop t xs))
  pub size : length now ≡ length old + t

pub pushing_start : (f : ℕ → Option ℤ) (xs : List ℕ) (old : List ℤ) → Pushing f xs old 0 old
pushing_start f xs old = record { rest = refl; size = omega arith }

pub pushing_more : (f : ℕ → Option ℤ) (xs : List ℕ) (old : List ℤ) (t k : ℕ) (now : List ℤ) (z : ℤ) → Pushing f xs old t now → t < length xs → k ≡ get_or xs t 0 → f k ≡ Some z → Pushing f xs old (t + 1) (now ++ z ∷ [])
pushing_more f xs old t k now z s h e v = record {
  rest =
      s.rest ∙ ap (before now) (each_at f xs t 0 h ∙ ap (option_and_then (λ z. option_map (λ zs. z ∷ zs) (each f (drop (t + 1) xs)))) (ap f (sym e) ∙ v)) ∙ before_one now z _;
  size = omega (arith, length-append now (z ∷ []), s.size);
}

pub pushing_fails : (place : Place) (f : ℕ → Option ℤ) (xs : List ℕ) (old : List ℤ) (t k : ℕ) (now : List ℤ) → Pushing f xs old t now → t < length xs → k ≡ get_or xs t 0 → f k ≡ None → at_place place (before old (each f xs)) ≡ PassesAt place
pushing_fails place f xs old t k now s h e v =
    ap (at_place place) (s.rest ∙ ap (before now) (each_at f xs t 0 h ∙ ap (option_and_then (λ z. option_map (λ zs. z ∷ zs) (each f (drop (t + 1) xs)))) (ap f (sym e) ∙ v)))

pub pushing_end : (place : Place) (f : ℕ → Option ℤ) (xs : List ℕ) (old : List ℤ) (t : ℕ) (now : List ℤ) → Pushing f xs old t now → length xs ≤ t → at_place place (before old (each f xs)) ≡ Reached now
unfolding each
pushing_end place f xs old t now s h = let e : before old (each f xs) ≡ Some now = s.rest ∙ rw (drop_all t xs h) (ap Some (append-nil now)) in ap (at_place place) e

-- the same over the numbers from 1 on
pub number_at : (n t : ℕ) → t < n → t + 1 ≡ get_or (numbers_to n) t 0
number_at n t h = omega (arith, get_or-range_with_len 1 n t 0 h)

pub record Numbering (f : ℕ → Option ℤ) (n : ℕ) (old : List ℤ) (t : ℕ) (now : List ℤ) : Type 0 where
  pub push : Pushing f (numbers_to n) old t now

pub numbering_start : (f : ℕ → Option ℤ) (n : ℕ) (old : List ℤ) → Numbering f n old 0 old
numbering_start f n old = record { push = pushing_start f (numbers_to n) old }

pub numbering_more : (f : ℕ → Option ℤ) (n : ℕ) (old : List ℤ) (t : ℕ) (now : List ℤ) (z : ℤ) → Numbering f n old t now → t < n → f (t + 1) ≡ Some z → Numbering f n old (t + 1) (now ++ z ∷ [])
numbering_more f n old t now z s h v = record { push = pushing_more f (numbers_to n) old t (t + 1) now z s.push (omega (arith, length-range_with_len 1 n)) (number_at n t h) v }

pub numbering_fails : (place : Place) (f : ℕ → Option ℤ) (n : ℕ) (old : List ℤ) (t : ℕ) (now : List ℤ) → Numbering f n old t now → t < n → f (t + 1) ≡ None → at_place place (before old (each f (numbers_to n))) ≡ PassesAt place
numbering_fails place f n old t now s h v = pushing_fails place f (numbers_to n) old t (t + 1) now s.push (omega (arith, length-range_with_len 1 n)) (number_at n t h) v

pub numbering_end : (place : Place) (f : ℕ → Option ℤ) (n : ℕ) (old : List ℤ) (t : ℕ) (now : List ℤ) → Numbering f n old t now → n ≤ t → at_place place (before old (each f (numbers_to n))) ≡ Reached now
numbering_end place f n old t now s h = pushing_end place f (numbers_to n) old t now s.push (omega (arith, length-range_with_len 1 n))

pub numbering_size : (f : ℕ → Option ℤ) (n : ℕ) (old : List ℤ) (t : ℕ) (now : List ℤ) → Numbering f n old t now → n ≤ t → t ≤ n → length now ≡ length old + n
numbering_size f n old t now s h i = omega (arith, s.push.size)

pub ruleset numbering = (to_z-of_z, numbering_start, numbering_more, numbering_fails, numbering_end, numbering_size)

pub ruleset pushing = (to_z-of_z, pushing_start, pushing_more, pushing_fails, pushing_end)

-- the same from nothing
before_nil : (o : Option (List ℤ)) → before [] o ≡ o
before_nil None = refl
before_nil (Some ys) = refl

pub filling_fails : (place : Place) (f : ℕ → Option ℤ) (n t : ℕ) (now : List ℤ) → Numbering f n [] t now → t < n → f (t + 1) ≡ None → at_place place (each f (numbers_to n)) ≡ PassesAt place
filling_fails place f n t now s h v = ap (at_place place) (sym (before_nil (each f (numbers_to n)))) ∙ numbering_fails place f n [] t now s h v

pub filling_end : (place : Place) (f : ℕ → Option ℤ) (n t : ℕ) (now : List ℤ) → Numbering f n [] t now → n ≤ t → at_place place (each f (numbers_to n)) ≡ Reached now
filling_end place f n t now s h = ap (at_place place) (sym (before_nil (each f (numbers_to n)))) ∙ numbering_end place f n [] t now s h

pub ruleset filling = (to_z-of_z, numbering_start, numbering_more, filling_fails, filling_end)
