-- A period of a frame, from the flags that the code makes.
use Rattle.std.proofs.Common.{◌≡◌, ◌==◌, ℕ, ◌+◌, ◌-◌, ◌%◌, ◌≤◌, Bool, true, false, cond, not, ◌&&◌, List, [], ◌∷◌, length, map, refl, sym, ◌∙◌, ap, ap₂, subst, arith, eqb-true}
use Rattle.std.specs.List.{AllByRecursion}
use Rattle.std.proofs.Math.Nat.{mod-add-mod, mod-eq_of_lt}
use Rattle.std.proofs.lemmas.List.FromFn.{get_or-map-range_with_len}
use Rattle.mp_frame.proofs.Flags.{flags_agree}
use Rattle.mp_frame.specs.Flags.{frame_flags}
use Rattle.mp_laws.proofs.Lists.{each_in, in_numbers}
use Rattle.mp_model.specs.Arrivals.{arrivals_of}
use Rattle.mp_model.specs.Frames.{FramedState, begins, framed_advance, framed_opening, framed_step, in_frame, is_chosen, may_pass}
use Rattle.mp_model.specs.Network.{Network, entry, junction_of_movement, movement_numbers}
use Rattle.mp_model.specs.Run.{greatest_stages, opening}
use Rattle.mp_model.specs.Step.{State, queue}
use Rattle.mp_step.specs.OpenStep.{flag, open_step}
use Rattle.mp_step.specs.Standing.{Standing, Stands}
use Rattle.mp_frame_run.specs.FrameNow.{FrameNow, StandsFramed, begins_at, first_flags}

-- the framed state of a frame that begins
abbrev fresh : Network → FramedState → FramedState
fresh net now = record { state = now.state; first = now.state.queues; stages = greatest_stages net (queue now.state); before = now.stages }

pub same_state : (net : Network) (F : ℕ) (now : FramedState) → (in_frame net F now).state ≡ now.state
same_state net F now = at (begins F now)
  where
    at : (b : Bool) → (cond b (fresh net now) now).state ≡ now.state
    at true = refl
    at false = refl

-- a period with the flags of its frame leads on
advanced : (net : Network) (F : ℕ) (st new : Standing) (frame next : FrameNow) (counts : List ℕ) (passing : List Bool) (now : FramedState) →
    StandsFramed net F st frame now → ((state : State) → Stands net st state → Stands net new (open_step net passing (arrivals_of net counts) state)) →
    passing ≡ frame_flags net F (in_frame net F now) → next.stages ≡ (in_frame net F now).stages → next.before ≡ (in_frame net F now).before → next.first ≡ (in_frame net F (framed_advance net F counts now)).first →
    StandsFramed net F new next (framed_advance net F counts now)
advanced net F st new frame next counts passing now on closes flags stages before first =
    let f : FramedState = in_frame net F now in
    let same : (framed_step net F counts f).state ≡ open_step net passing (arrivals_of net counts) now.state =
    flags_agree net F f counts ∙ ap (λ ps. open_step net ps (arrivals_of net counts) f.state) (sym flags) ∙ ap (open_step net passing (arrivals_of net counts)) (same_state net F now) in
    record {
      stands = subst (λ (s : State). Stands net new s) (sym same) (closes now.state on.stands);
      first = first;
      stages = stages;
      before = before;
    }

-- a frame begins in the model where it begins in the code
begins_is : (net : Network) (F : ℕ) (st : Standing) (now : FramedState) → Stands net st now.state → begins F now ≡ begins_at F st
begins_is net F st now on = ap (λ p. p % F == 0) (sym on.period)

begun : (net : Network) (F : ℕ) (now : FramedState) → begins F now ≡ true → in_frame net F now ≡ fresh net now
begun net F now e = ap (λ b. cond b (fresh net now) now) e

within : (net : Network) (F : ℕ) (now : FramedState) → begins F now ≡ false → in_frame net F now ≡ now
within net F now e = ap (λ b. cond b (fresh net now) now) e

-- no frame begins behind the first period of another
pub second_is_within : (F p q : ℕ) → 2 ≤ F → (p % F == 0) ≡ true → q ≡ p + 1 → (q % F == 0) ≡ false
second_is_within F p q two e next = at (q % F == 0) refl
  where
    rest : q % F ≡ 1
    rest =
        let none : p % F ≡ 0 = eqb-true (p % F) 0 e in
        ap (λ n. n % F) next ∙ sym (mod-add-mod p F 1) ∙ ap (λ n. (n + 1) % F) none ∙ mod-eq_of_lt (omega arith)

    at : (b : Bool) → (q % F == 0) ≡ b → (q % F == 0) ≡ false
    at true e = absurd (omega (arith, rest, eqb-true (q % F) 0 e))
    at false e = e

pub second : (F : ℕ) (st new : Standing) → 2 ≤ F → begins_at F st ≡ true → new.period ≡ st.period + 1 → begins_at F new ≡ false
second F st new two e next = second_is_within F st.period new.period two e next

and_turn : (a b c : Bool) → c ≡ true → (a && b) ≡ (a && not (c && not b))
and_turn a true true e = refl
and_turn a false true e = refl
and_turn a b false e = absurd (cc (e))

same_map : (f g : ℕ → Bool) (ks : List ℕ) → AllByRecursion (λ k. f k ≡ g k) ks → map f ks ≡ map g ks
same_map f g [] all = refl
same_map f g (k ∷ ks) all = ap₂ (λ b bs. b ∷ bs) all.0 (same_map f g ks all.1)

-- the flags of the first period of a frame
first_flags_are : (net : Network) (F : ℕ) (before stages first : List ℕ) (chosen : List Bool) (frame : FramedState) → begins F frame ≡ true →
    chosen ≡ map (is_chosen net stages (entry first)) (movement_numbers net) → before ≡ frame.before → stages ≡ frame.stages → first ≡ frame.first → first_flags net before stages chosen ≡ frame_flags net F frame
first_flags_are net F before stages first chosen frame e chosen_is before_is stages_is first_is =
    same_map (λ k. flag chosen k && entry before (junction_of_movement net k) == entry stages (junction_of_movement net k)) (may_pass net F frame) (movement_numbers net)
    (each_in _ (movement_numbers net) (λ k h.
    let i = in_numbers (length net.movements) k h in
    let j = junction_of_movement net k in
    let read : flag chosen k ≡ is_chosen net frame.stages (entry frame.first) k =
    ap (λ cs. flag cs k) chosen_is ∙ get_or-map-range_with_len (is_chosen net stages (entry first)) 1 (length net.movements) (k - 1) k false (omega (arith, i)) (omega (arith, i)) ∙ ap₂ (λ ss q. is_chosen net ss (entry q) k) stages_is first_is in
    let keeps : (entry before j == entry stages j) ≡ (entry frame.before j == entry frame.stages j) = ap₂ (λ bs ss. entry bs j == entry ss j) before_is stages_is in
    ap₂ (λ a b. a && b) read keeps ∙ and_turn (is_chosen net frame.stages (entry frame.first) k) (entry frame.before j == entry frame.stages j) (begins F frame) e))

-- the first period of a frame
pub first_leads : (net : Network) (F : ℕ) (st new : Standing) (frame next : FrameNow) (counts stages : List ℕ) (chosen : List Bool) → 2 ≤ F → begins_at F st ≡ true → frame.first ≡ st.queues →
    stages ≡ greatest_stages net (entry frame.first) → chosen ≡ map (is_chosen net stages (entry frame.first)) (movement_numbers net) →
    ((state : State) → Stands net st state → Stands net new (open_step net (first_flags net frame.stages stages chosen) (arrivals_of net counts) state)) →
    next ≡ record { first = frame.first; stages = stages; before = frame.stages } →
    (now : FramedState) → StandsFramed net F st frame now → StandsFramed net F new next (framed_advance net F counts now)
first_leads net F st new frame next counts stages chosen two e fresh_is stages_are chosen_is closes next_is now on =
    let b : begins F now ≡ true = begins_is net F st now on.stands ∙ e in
    let is : in_frame net F now ≡ fresh net now = begun net F now b in
    let first : frame.first ≡ now.state.queues = fresh_is ∙ on.stands.queues in
    let same : stages ≡ (fresh net now).stages = stages_are ∙ ap (λ q. greatest_stages net (entry q)) first in
    let flags : first_flags net frame.stages stages chosen ≡ frame_flags net F (fresh net now) = first_flags_are net F frame.stages stages frame.first chosen (fresh net now) b chosen_is on.stages same first in
    let after : begins F (framed_advance net F counts now) ≡ false = second_is_within F now.state.period ((in_frame net F now).state.period + 1) two b (ap (λ s. s.period + 1) (same_state net F now)) in
    advanced net F st new frame next counts (first_flags net frame.stages stages chosen) now on closes
    (flags ∙ ap (frame_flags net F) (sym is))
    (ap (λ n. n.stages) next_is ∙ same ∙ ap (λ f. f.stages) (sym is))
    (ap (λ n. n.before) next_is ∙ on.stages ∙ ap (λ f. f.before) (sym is))
    (ap (λ n. n.first) next_is ∙ first ∙ ap (λ f. f.first) (sym is) ∙ ap (λ f. f.first) (sym (within net F (framed_advance net F counts now) after)))

-- the flags of a further period of a frame
next_flags_are : (net : Network) (F : ℕ) (frame : FramedState) → begins F frame ≡ false → map (is_chosen net frame.stages (entry frame.first)) (movement_numbers net) ≡ frame_flags net F frame
next_flags_are net F frame e =
    same_map (is_chosen net frame.stages (entry frame.first)) (may_pass net F frame) (movement_numbers net)
    (each_in _ (movement_numbers net) (λ k h. let j = junction_of_movement net k in all_kept (is_chosen net frame.stages (entry frame.first) k) (not (entry frame.before j == entry frame.stages j)) (begins F frame) e))
  where
    all_kept : (a b c : Bool) → c ≡ false → a ≡ (a && not (c && b))
    all_kept true b false e = refl
    all_kept false b false e = refl
    all_kept a b true e = absurd (cc (e))

-- a further period of a frame, behind which another may begin
pub next_leads : (net : Network) (F : ℕ) (st new : Standing) (frame next : FrameNow) (counts : List ℕ) (chosen : List Bool) → begins_at F st ≡ false →
    chosen ≡ map (is_chosen net frame.stages (entry frame.first)) (movement_numbers net) →
    ((state : State) → Stands net st state → Stands net new (open_step net chosen (arrivals_of net counts) state)) →
    next.stages ≡ frame.stages → next.before ≡ frame.before → (begins_at F new ≡ true → next.first ≡ new.queues) → (begins_at F new ≡ false → next.first ≡ frame.first) →
    (now : FramedState) → StandsFramed net F st frame now → StandsFramed net F new next (framed_advance net F counts now)
next_leads net F st new frame next counts chosen e chosen_is closes stages before renewed stays now on =
    let b : begins F now ≡ false = begins_is net F st now on.stands ∙ e in
    let is : in_frame net F now ≡ now = within net F now b in
    let first : frame.first ≡ now.first = on.first ∙ ap (λ f. f.first) is in
    let flags : chosen ≡ frame_flags net F (in_frame net F now) = chosen_is ∙ ap₂ (λ ss q. map (is_chosen net ss (entry q)) (movement_numbers net)) on.stages first ∙ next_flags_are net F now b ∙ ap (frame_flags net F) (sym is) in
    let same : (framed_advance net F counts now).state ≡ open_step net chosen (arrivals_of net counts) now.state =
    flags_agree net F (in_frame net F now) counts ∙ ap (λ ps. open_step net ps (arrivals_of net counts) (in_frame net F now).state) (sym flags) ∙ ap (open_step net chosen (arrivals_of net counts)) (same_state net F now) in
    let stands : Stands net new (framed_advance net F counts now).state = subst (λ (s : State). Stands net new s) (sym same) (closes now.state on.stands) in
    let ends : begins F (framed_advance net F counts now) ≡ begins_at F new = begins_is net F new (framed_advance net F counts now) stands in
    advanced net F st new frame next counts chosen now on closes flags
    (stages ∙ on.stages ∙ ap (λ f. f.stages) (sym is))
    (before ∙ on.before ∙ ap (λ f. f.before) (sym is))
    (at (begins_at F new) refl ends stands is first)
  where
    at : (b : Bool) → begins_at F new ≡ b → begins F (framed_advance net F counts now) ≡ begins_at F new → Stands net new (framed_advance net F counts now).state → in_frame net F now ≡ now → frame.first ≡ now.first →
        next.first ≡ (in_frame net F (framed_advance net F counts now)).first
    at true here ends stands is first = renewed here ∙ stands.queues ∙ ap (λ f. f.first) (sym (begun net F (framed_advance net F counts now) (ends ∙ here)))
    at false here ends stands is first = stays here ∙ first ∙ ap (λ f. f.first) (sym is) ∙ ap (λ f. f.first) (sym (within net F (framed_advance net F counts now) (ends ∙ here)))

-- before the first period
pub opens : (net : Network) (F : ℕ) (st : Standing) (frame : FrameNow) → Stands net st (opening net) → frame ≡ record { first = (opening net).queues; stages = map (λ j. 0) net.junctions; before = map (λ j. 0) net.junctions } → StandsFramed net F st frame (framed_opening net)
opens net F st frame on is = record {
  stands = on;
  first = ap (λ f. f.first) is ∙ at (begins F (framed_opening net));
  stages = ap (λ f. f.stages) is;
  before = ap (λ f. f.before) is;
}
  where
    at : (b : Bool) → (opening net).queues ≡ (cond b (fresh net (framed_opening net)) (framed_opening net)).first
    at true = refl
    at false = refl
