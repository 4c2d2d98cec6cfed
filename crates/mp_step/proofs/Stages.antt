-- What stands in a list after the writes of the stages.
use Rattle.std.proofs.Common.{◌≡◌, ◌≤◌, ◌<◌, ℕ, zero, suc, ◌+◌, Bool, true, false, cond, ◌||◌, ◌&&◌, List, [], ◌∷◌, length, get_or, drop, zip, replicate, arith, refl, sym, ◌∙◌, ap, add-one, drop-cons, slice_index_or}
use Rattle.std.specs.List.{AllByRecursion, list_any}
use Rattle.mp_model.specs.Network.{Network, Junction, has, no_junction, stage_at, entry}
use Rattle.mp_model.specs.Step.{AreStages}
use Rattle.mp_model.specs.NetworkRules.{IsNetwork}
use Rattle.mp_press.proofs.Known.{stage_known}
use Rattle.mp_press.proofs.Writes.{length-written, entry-written, cond-same}
use Rattle.mp_press.specs.Written.{IsAmong, written}
use Rattle.mp_step.specs.Settled.{written_stages}

pub length-written_stages : (f : ℕ → ℕ) (js : List Junction) (stages xs : List ℕ) → length (written_stages f js stages xs) ≡ length xs
length-written_stages f [] stages xs = refl
length-written_stages f (j ∷ js) [] xs = refl
length-written_stages f (j ∷ js) (s ∷ stages) xs = length-written_stages f js stages (written f (stage_at j s) xs) ∙ length-written f (stage_at j s) xs

cond-or : (a b : Bool) (x y : ℕ) → cond b x (cond a x y) ≡ cond (a || b) x y
cond-or true b x y = cond-same b x
cond-or false b x y = refl

pub entry-written_stages : (f : ℕ → ℕ) (js : List Junction) (stages xs : List ℕ) (n k : ℕ) → length xs ≡ n → AllByRecursion (λ j. (s : ℕ) → AllByRecursion (IsAmong n) (stage_at j s)) js → 1 ≤ k → k ≤ n →
    entry (written_stages f js stages xs) k ≡ cond (list_any (λ p. has (stage_at p.0 p.1) k) (zip js stages)) (f k) (entry xs k)
entry-written_stages f [] stages xs n k size known h l = refl
entry-written_stages f (j ∷ js) [] xs n k size known h l = refl
entry-written_stages f (j ∷ js) (s ∷ stages) xs n k size known h l =
    entry-written_stages f js stages (written f (stage_at j s) xs) n k (length-written f (stage_at j s) xs ∙ size) known.1 h l
    ∙ ap (cond (list_any (λ p. has (stage_at p.0 p.1) k) (zip js stages)) (f k)) (entry-written f (stage_at j s) xs n k size (known.0 s) h l)
    ∙ cond-or (has (stage_at j s) k) (list_any (λ p. has (stage_at p.0 p.1) k) (zip js stages)) (f k) (entry xs k)

pub drop_junction : (js : List Junction) (i : ℕ) → i < length js → drop i js ≡ slice_index_or js i no_junction ∷ drop (i + 1) js
drop_junction js i h = drop-cons js i no_junction h ∙ ap (λ t. slice_index_or js i no_junction ∷ drop t js) (sym (add-one i))

pub written_stages_more : (f : ℕ → ℕ) (js : List Junction) (stages xs : List ℕ) (i s : ℕ) → i < length js → i < length stages → s ≡ get_or stages i 0 →
    written_stages f (drop i js) (drop i stages) xs ≡ written_stages f (drop (i + 1) js) (drop (i + 1) stages) (written f (stage_at (slice_index_or js i no_junction) s) xs)
written_stages_more f js stages xs i s h k e =
    ap (λ t. written_stages f t (drop i stages) xs) (drop_junction js i h)
    ∙ ap (λ t. written_stages f (slice_index_or js i no_junction ∷ drop (i + 1) js) t xs) (drop-cons stages i 0 k ∙ ap (λ t. get_or stages i 0 ∷ drop t stages) (sym (add-one i)))
    ∙ ap (λ t. written_stages f (drop (i + 1) js) (drop (i + 1) stages) (written f (stage_at (slice_index_or js i no_junction) t) xs)) (sym e)

pub get_or-replicate : (n i : ℕ) → let z : ℕ = 0 in get_or (replicate n z) i z ≡ z
get_or-replicate zero i = refl
get_or-replicate (suc n) zero = refl
get_or-replicate (suc n) (suc i) = get_or-replicate n i

pub cond-and : (a b : Bool) (x : ℕ) → cond a (cond b x 0) 0 ≡ cond (a && b) x 0
cond-and true b x = refl
cond-and false b x = refl

-- one stage per junction
pub stages_count : (js : List Junction) (ss : List ℕ) → AreStages js ss → length ss ≡ length js
stages_count [] [] h = refl
stages_count [] (s ∷ ss) h = absurd h
stages_count (j ∷ js) [] h = absurd h
stages_count (j ∷ js) (s ∷ ss) h = ap suc (stages_count js ss h.1)

pub stages_at : (js : List Junction) (ss : List ℕ) → AreStages js ss → (i : ℕ) → i < length js → (1 ≤ get_or ss i 0) × (get_or ss i 0 ≤ length (get_or js i no_junction).stages)
stages_at [] ss h i lt = absurd (omega arith)
stages_at (j ∷ js) [] h i lt = absurd h
stages_at (j ∷ js) (s ∷ ss) h zero lt = h.0
stages_at (j ∷ js) (s ∷ ss) h (suc i) lt = stages_at js ss h.1 i (omega arith)

all_places : (P : Junction → Type 0) (js : List Junction) → ((i : ℕ) → i < length js → P (get_or js i no_junction)) → AllByRecursion P js
all_places P [] f = tt
all_places P (j ∷ js) f = (f 0 (omega arith), all_places P js (λ i lt. f (suc i) (omega arith)))

-- the stages of all junctions hold movements
pub stages_of_all : (net : Network) → IsNetwork net → AllByRecursion (λ j. (s : ℕ) → AllByRecursion (IsAmong (length net.movements)) (stage_at j s)) net.junctions
stages_of_all net ok = all_places (λ j. (s : ℕ) → AllByRecursion (IsAmong (length net.movements)) (stage_at j s)) net.junctions (λ i h s. stage_known net ok i s)
