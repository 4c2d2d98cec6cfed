-- Where no name stands twice, each is found at its number.
use Rattle.std.proofs.Common.{◌≡◌, ℕ, ◌+◌, ◌-◌, ◌≤◌, ◌<◌, zero, suc, true, false, List, [], ◌∷◌, length, map, get_or, Some, unwrap_or, refl, ap, ◌∙◌, arith}
use Rattle.std.specs.List.{position_from, IsDistinct}
use Rattle.std.specs.Str.{bytes_eq}
use Rattle.std.proofs.lemmas.List.{length-map, get_or-map}
use Rattle.std.proofs.lemmas.Map.Keys.{IsDistinct-head, IsDistinct-tail}
use Rattle.std.proofs.lemmas.Slice.Eq.{bytes_eq-Decides}
use Rattle.mp_model.specs.Network.{Link, Movement, Network, no_link, no_movement, link_at, movement_at}
use Rattle.mp_netfile.specs.Meaning.{number_of}
use Rattle.mp_netfile.specs.Numbered.{IsLink, IsMovement}
use Rattle.mp_netfile.proofs.Spotless.{at}

bytes_eq-self : (xs : List ℕ) → bytes_eq xs xs ≡ true
bytes_eq-self xs = (bytes_eq-Decides xs xs).1 refl

position_at : (names : List (List ℕ)) (a i : ℕ) → i < length names → ((j : ℕ) → j < i → bytes_eq (get_or names j []) (get_or names i []) ≡ false)
    → position_from (λ other. bytes_eq other (get_or names i [])) a names ≡ Some (a + i)
position_at [] a i below new = absurd (omega arith)
position_at (n ∷ names) a zero below new = let e : a + 0 ≡ a = omega arith in rw (bytes_eq-self n, e)
position_at (n ∷ names) a (suc i) below new =
    let e : a + suc i ≡ a + 1 + i = omega arith in
    rw (new zero (omega arith), e) (position_at names (a + 1) i (omega arith) (λ j h. new (suc j) (omega arith)))

distinct_before : (names : List (List ℕ)) (j i : ℕ) → IsDistinct bytes_eq names → j < i → i < length names → bytes_eq (get_or names j []) (get_or names i []) ≡ false
distinct_before [] j i apart before below = absurd (omega arith)
distinct_before (n ∷ names) j zero apart before below = absurd (omega arith)
distinct_before (n ∷ names) zero (suc i) apart before below = at (λ y. bytes_eq n y ≡ false) names i [] (IsDistinct-head bytes_eq n names apart) (omega arith)
distinct_before (n ∷ names) (suc j) (suc i) apart before below = distinct_before names j i (IsDistinct-tail bytes_eq n names apart) (omega arith) (omega arith)

known : (names : List (List ℕ)) (i : ℕ) → IsDistinct bytes_eq names → i < length names → number_of names (get_or names i []) ≡ i + 1
known names i apart below =
    let found : position_from (λ other. bytes_eq other (get_or names i [])) 1 names ≡ Some (1 + i) = position_at names 1 i below (λ j before. distinct_before names j i apart before below) in
    ap (λ o. unwrap_or o 0) found ∙ omega arith

known_at : {A : Type 0} (named : A → List ℕ) (xs : List A) (k : ℕ) (d : A) → IsDistinct bytes_eq (map named xs) → 1 ≤ k → k ≤ length xs → number_of (map named xs) (named (get_or xs (k - 1) d)) ≡ k
known_at named xs k d apart low high =
    let below : k - 1 < length (map named xs) = omega (arith, length-map xs named) in
    let here : get_or (map named xs) (k - 1) [] ≡ named (get_or xs (k - 1) d) = get_or-map named xs (k - 1) d [] (omega arith) in
    rw (← here) (known (map named xs) (k - 1) apart below ∙ omega arith)

pub link_known : (net : Network) (l : ℕ) → IsDistinct bytes_eq (map (λ link. link.name) net.links) → IsLink net l → number_of (map (λ link. link.name) net.links) (link_at net l).name ≡ l
link_known net l apart there = known_at (λ (link : Link). link.name) net.links l no_link apart there.0 there.1

pub movement_known : (net : Network) (k : ℕ) → IsDistinct bytes_eq (map (λ movement. movement.name) net.movements) → IsMovement net k → number_of (map (λ movement. movement.name) net.movements) (movement_at net k).name ≡ k
movement_known net k apart there = known_at (λ (movement : Movement). movement.name) net.movements k no_movement apart there.0 there.1
