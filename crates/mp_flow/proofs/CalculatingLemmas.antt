-- The results of solving a network's systems.
use Rattle.std.proofs.Common.{◌≡◌, ℕ, ◌+◌, ◌*◌, List, length, take, drop, Some, Result, Ok, Err, ℤ, pos, ◌≤ℤ◌, refl, ap, ap₂, sym, ◌∙◌, subst, inl, inr, All}
use Rattle.std.specs.Prelude.{IfOk}
use Rattle.mp_model.specs.Network.{Network}
use Rattle.mp_model.specs.NetworkRules.{IsNetwork}
use Rattle.mp_num.specs.Row.{rows_of}
use Rattle.mp_flow.specs.declared.solving.Rows.{Rows}
use Rattle.mp_flow.specs.declared.solving.Solved.{Solved}
use Rattle.mp_flow.specs.declared.solving.SolveFault.{SolveFault}
use Rattle.mp_flow.specs.declared.solving.SolveFault.TheVariants as Solving
use Rattle.mp_flow.specs.declared.network.Place.{Place}
use Rattle.mp_flow.specs.declared.network.Place.TheVariants.{Flow, Adjoint}
use Rattle.mp_flow.specs.declared.network.CalcFault.{CalcFault}
use Rattle.mp_flow.specs.declared.network.FlowPair.{FlowPair}
use Rattle.mp_flow.specs.declared.network.Flow.{Flow as FlowList}
use Rattle.mp_flow.specs.Answers.{solved, Answers, IsKernel}
use Rattle.mp_flow.specs.Meeting.{Meets, IfSingular}
use Rattle.mp_flow.specs.Calculating.{HoldsRows, flows_of, worths_of, Gives, IsMoved, Splits, list_of, IsRegular, IsAnswer, AnsweredAt}
use Rattle.mp_flow.specs.Systems.{flow_rows, worth_rows, Flows, flows_from, stated_flows, worths_from, stated_worths, AreFlows, AreWorths, AreOnlyFlows, AreOnlyWorths}
use Rattle.mp_flow.proofs.BalanceLemmas.{flow_kernel, flows_right, flows_only, worth_kernel, worths_right, worths_only}

-- a regular system is not singular
pub regular_outcome : (rows : Rows) (r : Result Solved SolveFault) → IsRegular rows → IfSingular r (λ x. IsKernel rows.n (list_of rows) x) → IfSingular r (λ x. ⊥)
regular_outcome rows (Ok s) h k = tt
regular_outcome rows (Err (Solving.Singular x)) h k = h.no_kernel x k
regular_outcome rows (Err (Solving.Overflow column)) h k = tt
regular_outcome rows (Err Solving.NoMemory) h k = tt

-- what an outcome means at its place
pub answered_at : (place : Place) (n rights : ℕ) (rows : List (List ℤ)) (r : Result Solved SolveFault) (moved : Result Solved CalcFault) → IsMoved place r moved → Meets r (solved n rights rows) →
    IfOk r (λ s. pos 1 ≤ℤ s.d) → IfOk r (λ s. length s.x ≡ rights * n) → IfOk r (λ s. Answers n rights rows s.x s.d) → AnsweredAt place n rights rows moved
answered_at place n rights rows (Ok s) moved m e p v a = let P : Result Solved CalcFault → Type 0 = AnsweredAt place n rights rows in
    subst P (sym m) (record { stated = e; positive = p; values = v; answers = a })
answered_at place n rights rows (Err (Solving.Singular x)) moved m e p v a = absurd m
answered_at place n rights rows (Err (Solving.Overflow column)) moved m e p v a = let P : Result Solved CalcFault → Type 0 = AnsweredAt place n rights rows in
    subst P (sym m) (inl (refl, (column, e)))
answered_at place n rights rows (Err Solving.NoMemory) moved m e p v a = let P : Result Solved CalcFault → Type 0 = AnsweredAt place n rights rows in
    subst P (sym m) (inr refl)

pub ruleset moving = (regular_outcome, answered_at)

list_held : (rows : Rows) (n rights : ℕ) (list : List (List ℤ)) → HoldsRows rows n rights list → list_of rows ≡ list
list_held rows n rights list h = ap₂ (λ n m. rows_of n (n + m) rows.cells.items) h.count h.sides ∙ h.cells

-- the system of the flows is regular
pub flow_regular : (net : Network) (rows : Rows) → IsNetwork net → HoldsRows rows (length net.links) 2 (flow_rows net) → IsRegular rows
flow_regular net rows ok h = record { no_kernel = λ x k. flow_kernel net ok x (held x k) }
  where
    held : (x : List ℤ) → IsKernel rows.n (list_of rows) x → IsKernel (length net.links) (flow_rows net) x
    held x k = let P : ℕ → List (List ℤ) → Type 0 = λ n list. IsKernel n list x in
        subst (P (length net.links)) (list_held rows (length net.links) 2 (flow_rows net) h) (subst (λ (n : ℕ). P n (list_of rows)) h.count k)

pub worth_regular : (net : Network) (u : List ℤ) (rows : Rows) → IsNetwork net → HoldsRows rows (length net.links) 1 (worth_rows net u) → IsRegular rows
worth_regular net u rows ok h = record { no_kernel = λ x k. worth_kernel net ok u x (held x k) }
  where
    held : (x : List ℤ) → IsKernel rows.n (list_of rows) x → IsKernel (length net.links) (worth_rows net u) x
    held x k = let P : ℕ → List (List ℤ) → Type 0 = λ n list. IsKernel n list x in
        subst (P (length net.links)) (list_held rows (length net.links) 1 (worth_rows net u) h) (subst (λ (n : ℕ). P n (list_of rows)) h.count k)

-- what was answered for the cells is answered for the rows
pub held_answered : (place : Place) (rows : Rows) (n rights : ℕ) (list : List (List ℤ)) (r : Result Solved CalcFault) → HoldsRows rows n rights list → AnsweredAt place rows.n rows.rights (list_of rows) r → AnsweredAt place n rights list r
held_answered place rows n rights list r h a =
    subst (λ (s : List (List ℤ)). AnsweredAt place n rights s r) (list_held rows n rights list h)
    (subst (λ (m : ℕ). AnsweredAt place n m (list_of rows) r) h.sides (subst (λ (m : ℕ). AnsweredAt place m rows.rights (list_of rows) r) h.count a))

-- ---- the flows
pub flows_stated : (net : Network) (s : Solved) (r : Result FlowPair CalcFault) → IsAnswer (length net.links) 2 (flow_rows net) s → Splits (length net.links) s r → Gives Flow flows_of r (stated_flows net)
unfolding stated_flows
flows_stated net s (Ok p) a e =
    let made : flows_of p ≡ record { rate = take (length net.links) s.x; unit = drop (length net.links) s.x; d = s.d } = same_flows e.0 e.1 e.2 in
    ap (flows_from (length net.links)) a.stated ∙ ap Some (sym made)
  where
    same_flows : {rate rate' unit unit' : List ℤ} {d d' : ℤ} → rate ≡ rate' → unit ≡ unit' → d ≡ d' → (let f : Flows = record { rate = rate; unit = unit; d = d } in f) ≡ record { rate = rate'; unit = unit'; d = d' }
    same_flows a b c = cc
flows_stated net s (Err fault) a e = inr e

pub flows_balance : (net : Network) (s : Solved) (r : Result FlowPair CalcFault) → IsNetwork net → IsAnswer (length net.links) 2 (flow_rows net) s → Splits (length net.links) s r → IfOk r (λ p. AreFlows net (flows_of p))
flows_balance net s (Ok p) ok a e =
    let P : List ℤ → List ℤ → ℤ → Type 0 = λ rate unit d. AreFlows net (record { rate = rate; unit = unit; d = d }) in
    subst (λ (t : List ℤ). P t p.unit p.d) (sym e.0) (subst (λ (t : List ℤ). P (take (length net.links) s.x) t p.d) (sym e.1) (subst (λ (t : ℤ). P (take (length net.links) s.x) (drop (length net.links) s.x) t) (sym e.2)
    (flows_right net ok s.x s.d a.positive a.values a.answers)))
flows_balance net s (Err fault) ok a e = tt

pub flows_refused : (net : Network) (fault : CalcFault) → AnsweredAt Flow (length net.links) 2 (flow_rows net) (Err fault) → Gives Flow flows_of (Err fault) (stated_flows net)
unfolding stated_flows
flows_refused net fault (inl p) = inl (p.0, ap (flows_from (length net.links)) p.1.1)
flows_refused net fault (inr m) = inr m

-- ---- the worths
pub worths_stated : (net : Network) (u : List ℤ) (s : Solved) (f : FlowList) → IsAnswer (length net.links) 1 (worth_rows net u) s → f.x ≡ s.x → f.d ≡ s.d → stated_worths net u ≡ Some (worths_of f)
unfolding stated_worths
worths_stated net u s f a ex ed = ap worths_from a.stated ∙ ap₂ (λ x d. Some (record { x = x; d = d })) (sym ex) (sym ed)

pub worths_balance : (net : Network) (u : List ℤ) (s : Solved) → IsNetwork net → length u ≡ length net.links → All (λ v. pos 0 ≤ℤ v) u → IsAnswer (length net.links) 1 (worth_rows net u) s → AreWorths net u (record { x = s.x; d = s.d })
worths_balance net u s ok fits signs a = worths_right net ok u s.x s.d fits signs a.positive a.values a.answers

pub worths_refused : (net : Network) (u : List ℤ) (fault : CalcFault) → AnsweredAt Adjoint (length net.links) 1 (worth_rows net u) (Err fault) → Gives Adjoint worths_of (Err fault) (stated_worths net u)
unfolding stated_worths
worths_refused net u fault (inl p) = inl (p.0, ap worths_from p.1.1)
worths_refused net u fault (inr m) = inr m

pub flows_one : (net : Network) (r : Result FlowPair CalcFault) → IsNetwork net → IfOk r (λ p. AreFlows net (flows_of p)) → IfOk r (λ p. AreOnlyFlows net (flows_of p))
flows_one net (Ok p) ok a = flows_only net ok (flows_of p) a
flows_one net (Err fault) ok a = tt

pub worths_one : (net : Network) (u : List ℤ) (s : Solved) → IsNetwork net → AreWorths net u (record { x = s.x; d = s.d }) → AreOnlyWorths net u (record { x = s.x; d = s.d })
worths_one net u s ok a = worths_only net ok u (record { x = s.x; d = s.d }) a

pub ruleset calculating = (flow_regular, worth_regular, held_answered, flows_stated, flows_balance, flows_refused, worths_stated, worths_balance, worths_refused, flows_one, worths_one)
