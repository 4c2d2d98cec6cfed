use Rattle.std.proofs.Common.{to_z-of_z, ◌≡◌, ℕ, ◌+◌, ◌<◌, ◌≤◌, List, [], ◌∷◌, ◌++◌, Option, Some, None, option_map, option_and_then, take, drop, set, get_or, length, refl, ap, sym, ◌∙◌, arith, append-nil, append_assoc, subst}
use Rattle.std.proofs.lemmas.List.{drop_more, take_more_set, drop-set-lt, take_all, drop_all}
use Rattle.mp_num.specs.Passing.{each, each2, counting}
use Rattle.mp_num.proofs.OutcomeLemmas.{length-counting, get_or-counting}

-- the list so far, put before what a calculation gives
abbrev pub before : {X : Type 0} → List X → Option (List X) → Option (List X)
before done rest = option_map (λ ys. done ++ ys) rest

pub before_nil : {X : Type 0} (o : Option (List X)) → before [] o ≡ o
before_nil None = refl
before_nil (Some ys) = refl

pub before_one : {X : Type 0} (done : List X) (z : X) (o : Option (List X)) → before done (option_map (λ zs. z ∷ zs) o) ≡ before (done ++ z ∷ []) o
before_one done z None = refl
before_one done z (Some ys) = ap Some (sym (append_assoc done (z ∷ []) ys))

-- the calculation in place: what stands is what the whole gives
pub record Standing {X Y : Type 0} (f : X → Y → Option X) (old : List X) (ys : List Y) (k : ℕ) (now : List X) : Type 0 where
  pub rest : each2 f old ys ≡ before (take k now) (each2 f (drop k now) (drop k ys))

pub standing_start : {X Y : Type 0} (f : X → Y → Option X) (old : List X) (ys : List Y) → Standing f old ys 0 old
standing_start f old ys = record { rest = sym (before_nil (each2 f old ys)) }

each2_cons : {X Y Z : Type 0} (f : X → Y → Option Z) (x : X) (xs : List X) (y : Y) (ys : List Y) → each2 f (x ∷ xs) (y ∷ ys) ≡ option_and_then (λ z. option_map (λ zs. z ∷ zs) (each2 f xs ys)) (f x y)
unfolding each2
each2_cons f x xs y ys = refl

each2_at : {X Y Z : Type 0} (f : X → Y → Option Z) (xs : List X) (ys : List Y) (k : ℕ) (d : X) (e : Y) → k < length xs → k < length ys →
    each2 f (drop k xs) (drop k ys) ≡ option_and_then (λ z. option_map (λ zs. z ∷ zs) (each2 f (drop (k + 1) xs) (drop (k + 1) ys))) (f (get_or xs k d) (get_or ys k e))
each2_at f xs ys k d e h l = rw (drop_more xs k d h, drop_more ys k e l) (each2_cons f _ _ _ _)

pub standing_more : {X Y : Type 0} (f : X → Y → Option X) (old : List X) (ys : List Y) (k : ℕ) (now : List X) (d : X) (e : Y) (z : X) →
    Standing f old ys k now → k < length now → k < length ys → f (get_or now k d) (get_or ys k e) ≡ Some z → Standing f old ys (k + 1) (set now k z)
standing_more f old ys k now d e z s h l v = record {
  rest =
      s.rest ∙ ap (before (take k now)) (each2_at f now ys k d e h l ∙ ap (option_and_then (λ z. option_map (λ zs. z ∷ zs) (each2 f (drop (k + 1) now) (drop (k + 1) ys)))) v)
      ∙ before_one (take k now) z (each2 f (drop (k + 1) now) (drop (k + 1) ys))
      ∙ sym (rw (take_more_set now k z h, drop-set-lt (k + 1) now k z (omega arith)) refl);
}

pub standing_fails : {X Y : Type 0} (f : X → Y → Option X) (old : List X) (ys : List Y) (k : ℕ) (now : List X) (d : X) (e : Y) →
    Standing f old ys k now → k < length now → k < length ys → f (get_or now k d) (get_or ys k e) ≡ None → each2 f old ys ≡ None
standing_fails f old ys k now d e s h l v =
    s.rest ∙ ap (before (take k now)) (each2_at f now ys k d e h l ∙ ap (option_and_then (λ z. option_map (λ zs. z ∷ zs) (each2 f (drop (k + 1) now) (drop (k + 1) ys)))) v)

pub standing_end : {X Y : Type 0} (f : X → Y → Option X) (old : List X) (ys : List Y) (k : ℕ) (now : List X) →
    Standing f old ys k now → length now ≤ k → each2 f old ys ≡ Some now
unfolding each2
standing_end f old ys k now s h =
    s.rest ∙ rw (drop_all k now h, take_all k now h) (ap Some (append-nil now))

-- the same for one list
pub record Going {X : Type 0} (f : X → Option X) (old : List X) (k : ℕ) (now : List X) : Type 0 where
  pub rest : each f old ≡ before (take k now) (each f (drop k now))

pub going_start : {X : Type 0} (f : X → Option X) (old : List X) → Going f old 0 old
going_start f old = record { rest = sym (before_nil (each f old)) }

each_cons : {X Z : Type 0} (f : X → Option Z) (x : X) (xs : List X) → each f (x ∷ xs) ≡ option_and_then (λ z. option_map (λ zs. z ∷ zs) (each f xs)) (f x)
unfolding each
each_cons f x xs = refl

pub each_at : {X Z : Type 0} (f : X → Option Z) (xs : List X) (k : ℕ) (d : X) → k < length xs →
    each f (drop k xs) ≡ option_and_then (λ z. option_map (λ zs. z ∷ zs) (each f (drop (k + 1) xs))) (f (get_or xs k d))
each_at f xs k d h = rw (drop_more xs k d h) (each_cons f _ _)

pub going_more : {X : Type 0} (f : X → Option X) (old : List X) (k : ℕ) (now : List X) (d z : X) →
    Going f old k now → k < length now → f (get_or now k d) ≡ Some z → Going f old (k + 1) (set now k z)
going_more f old k now d z s h v = record {
  rest =
      s.rest ∙ ap (before (take k now)) (each_at f now k d h ∙ ap (option_and_then (λ z. option_map (λ zs. z ∷ zs) (each f (drop (k + 1) now)))) v)
      ∙ before_one (take k now) z (each f (drop (k + 1) now))
      ∙ sym (rw (take_more_set now k z h, drop-set-lt (k + 1) now k z (omega arith)) refl);
}

pub going_fails : {X : Type 0} (f : X → Option X) (old : List X) (k : ℕ) (now : List X) (d : X) →
    Going f old k now → k < length now → f (get_or now k d) ≡ None → each f old ≡ None
going_fails f old k now d s h v =
    s.rest ∙ ap (before (take k now)) (each_at f now k d h ∙ ap (option_and_then (λ z. option_map (λ zs. z ∷ zs) (each f (drop (k + 1) now)))) v)

pub going_end : {X : Type 0} (f : X → Option X) (old : List X) (k : ℕ) (now : List X) →
    Going f old k now → length now ≤ k → each f old ≡ Some now
unfolding each
going_end f old k now s h =
    s.rest ∙ rw (drop_all k now h, take_all k now h) (ap Some (append-nil now))

pub ruleset going = (to_z-of_z, going_start, going_more, going_fails, going_end)

pub ruleset standing = (to_z-of_z, standing_start, standing_more, standing_fails, standing_end)

-- values pushed one by one: what was there before, and what is still to come
pub record Pushing {X : Type 0} (f : ℕ → Option X) (count start : ℕ) (old : List X) (t : ℕ) (now : List X) : Type 0 where
  pub rest : before old (each f (counting count start)) ≡ before now (each f (drop t (counting count start)))

pub pushing_start : {X : Type 0} (f : ℕ → Option X) (count start : ℕ) (old : List X) → Pushing f count start old 0 old
pushing_start f count start old = record { rest = refl }

counting_at : {X : Type 0} (f : ℕ → Option X) (count start t : ℕ) → t < count →
    each f (drop t (counting count start)) ≡ option_and_then (λ z. option_map (λ zs. z ∷ zs) (each f (drop (t + 1) (counting count start)))) (f (start + t))
counting_at f count start t h =
    each_at f (counting count start) t 0 (omega (arith, length-counting count start))
    ∙ ap (λ k. option_and_then (λ z. option_map (λ zs. z ∷ zs) (each f (drop (t + 1) (counting count start)))) (f k)) (get_or-counting count start t 0 h)

pub pushing_more : {X : Type 0} (f : ℕ → Option X) (count start : ℕ) (old : List X) (t k : ℕ) (now : List X) (z : X) → Pushing f count start old t now → t < count → k ≡ start + t → f k ≡ Some z → Pushing f count start old (t + 1) (now ++ z ∷ [])
pushing_more f count start old t k now z s h e v = record {
  rest =
      s.rest ∙ ap (before now) (counting_at f count start t h ∙ ap (option_and_then (λ z. option_map (λ zs. z ∷ zs) (each f (drop (t + 1) (counting count start))))) (ap f (sym e) ∙ v)) ∙ before_one now z _;
}

pub pushing_passes : {X : Type 0} (f : ℕ → Option X) (count start : ℕ) (old : List X) (t k : ℕ) (now : List X) → Pushing f count start old t now → t < count → k ≡ start + t → f k ≡ None → before old (each f (counting count start)) ≡ None
pushing_passes f count start old t k now s h e v =
    s.rest ∙ ap (before now) (counting_at f count start t h ∙ ap (option_and_then (λ z. option_map (λ zs. z ∷ zs) (each f (drop (t + 1) (counting count start))))) (ap f (sym e) ∙ v))

pub pushing_end : {X : Type 0} (f : ℕ → Option X) (count start : ℕ) (old : List X) (t : ℕ) (now : List X) → Pushing f count start old t now → count ≤ t → before old (each f (counting count start)) ≡ Some now
unfolding each
pushing_end f count start old t now s h = s.rest ∙ rw (drop_all t (counting count start) (omega (arith, length-counting count start))) (ap Some (append-nil now))
