-- Chains of movements, and the bounds that they lead to.
use Rattle.std.proofs.Common.{◌≡◌, ◌==◌, ℕ, zero, suc, ◌+◌, ◌-◌, ◌*◌, ◌≤◌, ◌<◌, Bool, true, false, ◌||◌, List, [], ◌∷◌, ◌++◌, length, map, IfSome, Option, Some, None, unwrap_or, arith, refl, sym, ◌∙◌, ap, subst, eqb-true}
use Rattle.std.proofs.lemmas.Bool.{false≢true}
use Rattle.std.proofs.lemmas.Map.Steps.{length-le_from_distinct_below}
use Rattle.std.specs.List.{AllByRecursion, IsDistinct, list_any}
use Rattle.mp_laws.proofs.Lists.{at_in, each_in, filter_has, filter_sub, in_numbers, numbered}
use Rattle.mp_laws.proofs.Sums.{sum_by-same_at}
use Rattle.mp_laws.proofs.Order.{map-same}
use Rattle.mp_model.specs.GuardedBursts.{quotient_up}
use Rattle.mp_model.specs.Network.{Network, burst_before, entry, from_of, goes_to, has, into_link, link_numbers, movement_numbers, out_of, share_of, start_of, to_of}
use Rattle.mp_model.specs.NetworkRules.{IsNetwork}
use Rattle.mp_model.specs.Plans.{IsOnCycle, Lead, flow_before, planned_bound}
use Rattle.mp_planned.specs.Bounds.{ArePlannedBounds, HasOneList, formed_bounds}

-- ---- the links of a chain
abbrev Known : Network → List ℕ → Type 0
Known net ks = AllByRecursion (λ k. has (movement_numbers net) k ≡ true) ks

abbrev visits : Network → ℕ → List ℕ → List ℕ
visits net l [] = l ∷ []
visits net l (k ∷ ks) = l ∷ visits net (unwrap_or (to_of net k) 0) ks

visits_length : (net : Network) (l : ℕ) (ks : List ℕ) → length (visits net l ks) ≡ suc (length ks)
visits_length net l [] = refl
visits_length net l (k ∷ ks) = ap suc (visits_length net (unwrap_or (to_of net k) 0) ks)

apart : (l : ℕ) (xs : List ℕ) → list_any (λ x. l == x) xs ≡ false → AllByRecursion (λ x. (l == x) ≡ false) xs
apart l [] h = tt
apart l (x ∷ xs) h = go (l == x) refl (apart l xs) h
  where
    go : (b : Bool) → (l == x) ≡ b → (list_any (λ x. l == x) xs ≡ false → AllByRecursion (λ x. (l == x) ≡ false) xs) → (b || list_any (λ x. l == x) xs) ≡ false → AllByRecursion (λ x. (l == x) ≡ false) (x ∷ xs)
    go true e more h = absurd (false≢true (sym h))
    go false e more h = (e, more h)

-- some of the chain leads to each link that it visits
pub record LeadsTo (net : Network) (l m : ℕ) : Type 0 where
  pub movements : List ℕ
  pub known : Known net movements
  pub lead : Lead net l movements m

part_leads : (net : Network) (l : ℕ) (ks : List ℕ) (m n : ℕ) → Known net ks → Lead net l ks m → list_any (λ x. n == x) (visits net l ks) ≡ true → LeadsTo net l n
part_leads net l [] m n known lead in' = go (n == l) refl in'
  where
    go : (b : Bool) → (n == l) ≡ b → (b || false) ≡ true → LeadsTo net l n
    go true e h = record { movements = []; known = tt; lead = sym (eqb-true n l e) }
    go false e h = absurd (false≢true h)
part_leads net l (k ∷ ks) m n known lead in' =
    let next = lead.1 in
    let target : unwrap_or (to_of net k) 0 ≡ next = ap (λ (o : Option ℕ). unwrap_or o 0) lead.2 in
    go (n == l) refl (λ h. part_leads net next ks m n known.1 lead.3 (sym (ap (λ x. list_any (λ x. n == x) (visits net x ks)) target) ∙ h)) in'
  where
    go : (b : Bool) → (n == l) ≡ b → (list_any (λ x. n == x) (visits net (unwrap_or (to_of net k) 0) ks) ≡ true → LeadsTo net lead.1 n) → (b || list_any (λ x. n == x) (visits net (unwrap_or (to_of net k) 0) ks)) ≡ true → LeadsTo net l n
    go true e later h = record { movements = []; known = tt; lead = sym (eqb-true n l e) }
    go false e later h = let p = later h in record { movements = k ∷ p.movements; known = (known.0, p.known); lead = (lead.0, lead.1, lead.2, p.lead) }

module _ (net : Network) (ok : IsNetwork net) (none : (l : ℕ) → ¬ IsOnCycle net l) where
  -- no link is visited twice
  visits_distinct : (l : ℕ) (ks : List ℕ) (m : ℕ) → Known net ks → Lead net l ks m → IsDistinct ◌==◌ (visits net l ks)
  unfolding IsDistinct
  visits_distinct l [] m known lead = (tt, tt)
  visits_distinct l (k ∷ ks) m known lead =
      let next = lead.1 in
      let target : unwrap_or (to_of net k) 0 ≡ next = ap (λ (o : Option ℕ). unwrap_or o 0) lead.2 in
      let rest = visits_distinct next ks m known.1 lead.3 in (
        apart l (visits net (unwrap_or (to_of net k) 0) ks) (go (list_any (λ x. l == x) (visits net (unwrap_or (to_of net k) 0) ks)) refl),
        subst (λ x. IsDistinct ◌==◌ (visits net x ks)) (sym target) rest,
      )
    where
      go : (b : Bool) → list_any (λ x. l == x) (visits net (unwrap_or (to_of net k) 0) ks) ≡ b → list_any (λ x. l == x) (visits net (unwrap_or (to_of net k) 0) ks) ≡ false
      go false e = e
      go true e =
          let target : unwrap_or (to_of net k) 0 ≡ lead.1 = ap (λ (o : Option ℕ). unwrap_or o 0) lead.2 in
          let p = part_leads net lead.1 ks m l known.1 lead.3 (sym (ap (λ x. list_any (λ x. l == x) (visits net x ks)) target) ∙ e) in
          absurd (none l (record { movements = k ∷ p.movements; some = omega arith; known = (known.0, p.known); back = (lead.0, lead.1, lead.2, p.lead) }))

  -- each of them is a link of the network
  visits_low : (l : ℕ) (ks : List ℕ) (m : ℕ) → has (link_numbers net) l ≡ true → Known net ks → Lead net l ks m → (q : ℕ) → list_any (λ x. q == x) (visits net l ks) ≡ true → q < length net.links + 1
  visits_low l ks m here known lead q in' = go (part_leads net l ks m q known lead in')
    where
      ends : (l : ℕ) (ks : List ℕ) (m : ℕ) → has (link_numbers net) l ≡ true → Known net ks → Lead net l ks m → has (link_numbers net) m ≡ true
      ends l [] m here known lead = subst (λ x. has (link_numbers net) x ≡ true) lead here
      ends l (k ∷ ks) m here known lead =
          ends lead.1 ks m (subst (λ (o : Option ℕ). IfSome o (λ l. has (link_numbers net) l ≡ true)) lead.2 (at_in (λ k. IfSome (to_of net k) (λ l. has (link_numbers net) l ≡ true)) k (movement_numbers net) known.0 ok.to)) known.1 lead.3

      go : LeadsTo net l q → q < length net.links + 1
      go p = let i = in_numbers (length net.links) q (ends l p.movements q here p.known p.lead) in omega (arith, i.1)

  -- so a chain has at most as many movements as there are links
  chain_short : (l : ℕ) (ks : List ℕ) (m : ℕ) → has (link_numbers net) l ≡ true → Known net ks → Lead net l ks m → length ks ≤ length net.links
  chain_short l ks m here known lead =
      let few = length-le_from_distinct_below (visits net l ks) (length net.links + 1) (visits_distinct l ks m known lead) (visits_low l ks m here known lead) in
      let size = visits_length net l ks in
      omega arith

-- ---- chains of a length
abbrev NoChain : Network → ℕ → ℕ → Type 0
NoChain net n l = (m : ℕ) (ks : List ℕ) → has (link_numbers net) m ≡ true → length ks ≡ n → Known net ks → Lead net m ks l → ⊥

lead_append : (net : Network) (l : ℕ) (ks : List ℕ) (m k n : ℕ) → Lead net l ks m → from_of net k ≡ m → to_of net k ≡ Some n → Lead net l (ks ++ k ∷ []) n
lead_append net l [] m k n lead from to = (from ∙ sym lead, n, to, refl)
lead_append net l (i ∷ ks) m k n lead from to = (lead.0, lead.1, lead.2, lead_append net lead.1 ks m k n lead.3 from to)

known_append : (net : Network) (ks : List ℕ) (k : ℕ) → Known net ks → has (movement_numbers net) k ≡ true → Known net (ks ++ k ∷ [])
known_append net [] k known in' = (in', tt)
known_append net (i ∷ ks) k known in' = (known.0, known_append net ks k known.1 in')

length_append : (ks : List ℕ) (k : ℕ) → length (ks ++ k ∷ []) ≡ suc (length ks)
length_append [] k = refl
length_append (i ∷ ks) k = ap suc (length_append ks k)

goes_is : (o : Option ℕ) (l : ℕ) → goes_to o l ≡ true → o ≡ Some l
goes_is None l e = absurd (false≢true e)
goes_is (Some m) l e = ap (λ x. Some x) (sym (eqb-true l m e))

-- ---- bounds formed again and again
module _ (net : Network) (ok : IsNetwork net) (f : List ℕ) (d cycle : ℕ) where
  again : List ℕ → List ℕ
  again b = map (planned_bound net f d cycle b) (movement_numbers net)

  formed : ℕ → List ℕ → List ℕ
  formed zero b = b
  formed (suc n) b = again (formed n b)

  again_at : (b : List ℕ) (k : ℕ) → has (movement_numbers net) k ≡ true → entry (again b) k ≡ planned_bound net f d cycle b k
  unfolding again
  again_at b k in' = numbered (planned_bound net f d cycle b) (length net.movements) k in'

  bound_same : (b c : List ℕ) (k : ℕ) → AllByRecursion (λ j. entry b j ≡ entry c j) (into_link net (from_of net k)) → planned_bound net f d cycle b k ≡ planned_bound net f d cycle c k
  bound_same b c k same = ap (λ s. bound_of s) (sum_by-same_at (entry b) (entry c) (into_link net (from_of net k)) same)
    where
      bound_of : ℕ → ℕ
      bound_of s = start_of net k + quotient_up (share_of net k * ((burst_before net k + s) * d * net.per + flow_before net f k * cycle) + d * net.per * length (out_of net (from_of net k)) * (net.shares - 1)) (net.shares * net.per * d)

  -- where no chain is so long, it does not matter from what they were formed
  settled : (n : ℕ) (b c : List ℕ) (k : ℕ) → has (movement_numbers net) k ≡ true → NoChain net n (from_of net k) → entry (formed n b) k ≡ entry (formed n c) k
  unfolding formed
  settled zero b c k in' none = absurd (none (from_of net k) [] (at_in (λ k. has (link_numbers net) (from_of net k) ≡ true) k (movement_numbers net) in' ok.from) refl tt refl)
  settled (suc n) b c k in' none =
      again_at (formed n b) k in'
      ∙ bound_same (formed n b) (formed n c) k (each_in (λ j. entry (formed n b) j ≡ entry (formed n c) j) (into_link net (from_of net k)) (λ j in''.
      let known : has (movement_numbers net) j ≡ true = filter_sub (λ k. goes_to (to_of net k) l) (movement_numbers net) j in'' in
      let to : to_of net j ≡ Some l = goes_is (to_of net j) l (filter_has (λ k. goes_to (to_of net k) l) (movement_numbers net) j in'') in
      settled n b c j known (λ m ks here size all lead. none m (ks ++ j ∷ []) here (length_append ks j ∙ ap suc size) (known_append net ks j all known) (lead_append net m ks (from_of net j) j l lead refl to))))
      ∙ sym (again_at (formed n c) k in')
    where
      l : ℕ
      l = from_of net k

  module _ (none : (l : ℕ) → ¬ IsOnCycle net l) where
    no_chain : (l : ℕ) → NoChain net (suc (length net.links)) l
    no_chain l m ks here size known lead = let short = chain_short net ok none m ks l here known lead in absurd (omega arith)

    all_settled : (b c : List ℕ) → again (formed (suc (length net.links)) b) ≡ again (formed (suc (length net.links)) c)
    unfolding again
    all_settled b c = map_same (movement_numbers net) (λ k in'. bound_same (formed (suc (length net.links)) b) (formed (suc (length net.links)) c) k (each_in (λ j. entry (formed (suc (length net.links)) b) j ≡ entry (formed (suc (length net.links)) c) j) (into_link net (from_of net k)) (λ j in''.
        settled (suc (length net.links)) b c j (filter_sub (λ i. goes_to (to_of net i) (from_of net k)) (movement_numbers net) j in'') (no_chain (from_of net j)))))
      where
        map_same : (xs : List ℕ) → ((k : ℕ) → has xs k ≡ true → planned_bound net f d cycle (formed (suc (length net.links)) b) k ≡ planned_bound net f d cycle (formed (suc (length net.links)) c) k) →
            map (planned_bound net f d cycle (formed (suc (length net.links)) b)) xs ≡ map (planned_bound net f d cycle (formed (suc (length net.links)) c)) xs
        map_same xs same = map-same _ _ xs (each_in _ xs same)

    -- forming once more before or behind is the same
    turned : (n : ℕ) (b : List ℕ) → again (formed n b) ≡ formed n (again b)
    unfolding formed
    turned zero b = refl
    turned (suc n) b = ap again (turned n b)

    formed_last : (n : ℕ) (b : List ℕ) → formed (suc n) b ≡ again (formed n b)
    unfolding formed
    formed_last n b = refl

    fixed : (n : ℕ) (b : List ℕ) → b ≡ again b → b ≡ formed n b
    unfolding formed
    fixed zero b e = refl
    fixed (suc n) b e = e ∙ ap again (fixed n b e)

    settled_list : (b : List ℕ) → formed (suc (suc (length net.links))) b ≡ again (formed (suc (suc (length net.links))) b)
    settled_list b = sym (ap again (formed_last (suc (length net.links)) b ∙ turned (suc (length net.links)) b) ∙ all_settled (again b) b ∙ sym (formed_last (suc (length net.links)) b))

    formed_same : (n : ℕ) (b : List ℕ) → formed_bounds net f d cycle n b ≡ formed n b
    unfolding formed again
    formed_same zero b = refl
    formed_same (suc n) b = ap again (formed_same n b)

    settled_are : (b : List ℕ) → ArePlannedBounds net f d cycle (formed_bounds net f d cycle (suc (suc (length net.links))) b)
    unfolding again
    settled_are b =
        formed_same (suc (suc (length net.links))) b ∙ settled_list b ∙ ap again (sym (formed_same (suc (suc (length net.links))) b))

    the_bounds : List ℕ
    the_bounds = again (formed (suc (length net.links)) [])

    one_list : HasOneList net f d cycle
    unfolding again the_bounds
    one_list = record {
      bounds = the_bounds;
      are = all_settled [] (again []) ∙ ap again (sym (turned (suc (length net.links)) []));
      only = λ others are. fixed (suc (suc (length net.links))) others are ∙ formed_last (suc (length net.links)) others ∙ all_settled others [];
    }

pub one_list_of : (net : Network) → IsNetwork net → ((l : ℕ) → ¬ IsOnCycle net l) → (f : List ℕ) (d cycle : ℕ) → HasOneList net f d cycle
one_list_of net ok none f d cycle = one_list net ok f d cycle none

pub settled_of : (net : Network) → IsNetwork net → ((l : ℕ) → ¬ IsOnCycle net l) → (f : List ℕ) (d cycle : ℕ) (b : List ℕ) → ArePlannedBounds net f d cycle (formed_bounds net f d cycle (length net.links + 2) b)
settled_of net ok none f d cycle b =
    let e : suc (suc (length net.links)) ≡ length net.links + 2 = omega arith in
    subst (λ n. ArePlannedBounds net f d cycle (formed_bounds net f d cycle n b)) e (settled_are net ok f d cycle none b)
