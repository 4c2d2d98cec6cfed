-- The loops that make the rows of a network's systems.
use Rattle.std.proofs.Common.{◌≡◌, ◌==◌, ℕ, zero, suc, ◌+◌, ◌-◌, ◌*◌, ◌^◌, ◌<◌, ◌≤◌, Bool, true, false, cond, List, [], ◌∷◌, ◌++◌, length, map, filter, sum_by, get_or, take, drop, ℤ, pos, refl, ap, ap₂, sym, ◌∙◌, subst, arith, take_all, append_assoc}
use Rattle.std.specs.List.{AllByRecursion, range_with_len}
use Rattle.std.proofs.lemmas.List.{append-nil, length-append, length-map}
use Rattle.std.proofs.lemmas.List.Sums.{sum_by_more}
use Rattle.std.proofs.lemmas.List.FromFn.{length-range_with_len, map-range_with_len_more}
use Rattle.mp_model.specs.Network.{Network, link_numbers, movement_numbers, from_of, to_of, into_link, out_of, goes_to, has}
use Rattle.mp_laws.proofs.Lists.{all_in, filter_sub, in_numbers}
use Rattle.mp_num.specs.Row.{rows_of}
use Rattle.mp_num.proofs.TableLemmas.{rows_of-append}
use Rattle.mp_flow.specs.Systems.{flow_cell, flow_row, flow_rows, worth_cell, worth_row, worth_rows}

-- a sum of numbers below 2^32 over the first entries of a list
pub record Summing (f : ℕ → ℕ) (xs : List ℕ) (i sum : ℕ) : Type 0 where
  pub value : sum ≡ sum_by f (take i xs)
  pub small : sum ≤ i * 2 ^ 32

pub summing_start : (f : ℕ → ℕ) (xs : List ℕ) → Summing f xs 0 0
summing_start f xs = record { value = refl; small = omega arith }

pub summing_more : (f : ℕ → ℕ) (xs : List ℕ) (i sum v : ℕ) → Summing f xs i sum → i < length xs → v ≡ f (get_or xs i 0) → v < 2 ^ 32 → Summing f xs (i + 1) (sum + v)
summing_more f xs i sum v s h e small = record {
  value = omega (arith, s.value, e, sum_by_more f xs i 0 h);
  small = omega (arith, s.small, small);
}

pub summing_end : (f : ℕ → ℕ) (xs : List ℕ) (i sum : ℕ) → Summing f xs i sum → length xs ≤ i → sum ≡ sum_by f xs
summing_end f xs i sum s h = s.value ∙ ap (sum_by f) (take_all i xs h)

element : (xs : List ℕ) (i : ℕ) → i < length xs → has xs (get_or xs i 0) ≡ true
element xs i h = All-from xs (λ x. has xs x ≡ true) (all_in xs) i h
  where
    All-from : (xs : List ℕ) (P : ℕ → Type 0) → AllByRecursion P xs → (i : ℕ) → i < length xs → P (get_or xs i 0)
    All-from [] P a i h = absurd (omega arith)
    All-from (x ∷ xs) P a zero h = a.0
    All-from (x ∷ xs) P a (suc i) h = All-from xs P a.1 i (omega arith)

in_range : (net : Network) (k : ℕ) → has (movement_numbers net) k ≡ true → (1 ≤ k) × (k ≤ length net.movements)
in_range net k h = let range = in_numbers (length net.movements) k h in (range.0, omega (arith, range.1))

pub movement_into : (net : Network) (l : ℕ) (xs : List ℕ) (i : ℕ) → xs ≡ into_link net l → i < length xs → (1 ≤ get_or xs i 0) × (get_or xs i 0 ≤ length net.movements)
movement_into net l xs i e h = in_range net (get_or xs i 0) (filter_sub (λ k. goes_to (to_of net k) l) (movement_numbers net) (get_or xs i 0) (subst (λ (ks : List ℕ). has ks (get_or xs i 0) ≡ true) e (element xs i h)))

pub movement_out : (net : Network) (l : ℕ) (xs : List ℕ) (i : ℕ) → xs ≡ out_of net l → i < length xs → (1 ≤ get_or xs i 0) × (get_or xs i 0 ≤ length net.movements)
movement_out net l xs i e h = in_range net (get_or xs i 0) (filter_sub (λ k. from_of net k == l) (movement_numbers net) (get_or xs i 0) (subst (λ (ks : List ℕ). has ks (get_or xs i 0) ≡ true) e (element xs i h)))

pub ruleset summing = (summing_start, summing_more, summing_end, movement_into, movement_out)

-- the cells of a row so far
pub record Lining (f : ℕ → ℤ) (old : List ℤ) (m : ℕ) (now : List ℤ) : Type 0 where
  pub cells : now ≡ old ++ map f (range_with_len 1 m)

pub lining_start : (f : ℕ → ℤ) (old : List ℤ) → Lining f old 0 old
lining_start f old = record { cells = sym (append-nil old) }

pub lining_more : (f : ℕ → ℤ) (old : List ℤ) (m : ℕ) (now : List ℤ) (z : ℤ) → Lining f old m now → z ≡ f (m + 1) → Lining f old (m + 1) (now ++ z ∷ [])
lining_more f old m now z s e = record {
  cells =
      ap₂ (λ a b. a ++ b ∷ []) s.cells e ∙ append_assoc old (map f (range_with_len 1 m)) (f (m + 1) ∷ [])
      ∙ ap (λ t. old ++ t) (sym (map-range_with_len_more f 1 m (m + 1) (omega arith)));
}

pub lining_end : (f : ℕ → ℤ) (old : List ℤ) (n m : ℕ) (now : List ℤ) → Lining f old m now → n ≤ m → m ≤ n → now ≡ old ++ map f (range_with_len 1 n)
lining_end f old n m now s h l = s.cells ∙ ap (λ k. old ++ map f (range_with_len 1 k)) (omega arith)

pub ruleset cells = (lining_start, lining_more, lining_end, append_assoc)

-- the rows so far
pub record Stacking (f : ℕ → List ℤ) (width l : ℕ) (cells : List ℤ) : Type 0 where
  pub size : length cells ≡ l * width
  pub rows : rows_of l width cells ≡ map f (range_with_len 1 l)

stacking_start : (f : ℕ → List ℤ) (width : ℕ) → Stacking f width 0 []
stacking_start f width = record { size = omega arith; rows = refl }

stacking_more : (f : ℕ → List ℤ) (width l : ℕ) (cells : List ℤ) → Stacking f width l cells → length (f (l + 1)) ≡ width → Stacking f width (l + 1) (cells ++ f (l + 1))
stacking_more f width l cells s h = record {
  size = omega (arith, length-append cells (f (l + 1)), s.size, h);
  rows = rows_of-append l 1 width cells (f (l + 1)) s.size ∙ ap₂ (λ a b. a ++ b) s.rows (one_row (f (l + 1)) h) ∙ sym (map-range_with_len_more f 1 l (l + 1) (omega arith));
}
  where
    one_row : (row : List ℤ) → length row ≡ width → rows_of 1 width row ≡ row ∷ []
    one_row row e = ap (λ r. r ∷ []) (take_all width row (omega arith))

-- the rows of the flows so far
pub record FlowStack (net : Network) (l : ℕ) (cells : List ℤ) : Type 0 where
  pub stack : Stacking (flow_row net) (length net.links + 2) l cells

pub flow_stack_start : (net : Network) → FlowStack net 0 []
flow_stack_start net = record { stack = stacking_start (flow_row net) (length net.links + 2) }

length-flow_row : (net : Network) (l : ℕ) → length (flow_row net l) ≡ length net.links + 2
unfolding flow_row
length-flow_row net l = length-append (map (flow_cell net l) (link_numbers net)) _ ∙ ap (λ n. n + 2) (length-map (link_numbers net) (flow_cell net l) ∙ length-range_with_len 1 (length net.links))

pub flow_stack_more : (net : Network) (l : ℕ) (cells now : List ℤ) → FlowStack net l cells → now ≡ cells ++ flow_row net (l + 1) → FlowStack net (l + 1) now
flow_stack_more net l cells now s e = record {
  stack = let P : List ℤ → Type 0 = Stacking (flow_row net) (length net.links + 2) (l + 1) in
      subst P (sym e) (stacking_more (flow_row net) (length net.links + 2) l cells s.stack (length-flow_row net (l + 1)));
}

pub flow_stack_size : (net : Network) (n l : ℕ) (cells : List ℤ) → FlowStack net l cells → n ≡ length net.links → n ≤ l → l ≤ n → length cells ≡ length net.links * (length net.links + 2)
flow_stack_size net n l cells s e h i = s.stack.size ∙ ap (λ k. k * (length net.links + 2)) (omega (arith, e))

pub flow_stack_rows : (net : Network) (n l : ℕ) (cells : List ℤ) → FlowStack net l cells → n ≡ length net.links → n ≤ l → l ≤ n → rows_of (length net.links) (length net.links + 2) cells ≡ flow_rows net
unfolding flow_rows
flow_stack_rows net n l cells s e h i = let same : length net.links ≡ l = omega (arith, e) in
    ap (λ k. rows_of k (length net.links + 2) cells) same ∙ s.stack.rows ∙ ap (λ k. map (flow_row net) (range_with_len 1 k)) (sym same)

pub ruleset flow_stacks = (flow_stack_start, flow_stack_more, flow_stack_size, flow_stack_rows)

-- the rows of the worths so far
pub record WorthStack (net : Network) (u : List ℤ) (l : ℕ) (cells : List ℤ) : Type 0 where
  pub stack : Stacking (worth_row net u) (length net.links + 1) l cells

pub worth_stack_start : (net : Network) (u : List ℤ) → WorthStack net u 0 []
worth_stack_start net u = record { stack = stacking_start (worth_row net u) (length net.links + 1) }

length-worth_row : (net : Network) (u : List ℤ) (l : ℕ) → length (worth_row net u l) ≡ length net.links + 1
unfolding worth_row
length-worth_row net u l = length-append (map (worth_cell net l) (link_numbers net)) _ ∙ ap (λ n. n + 1) (length-map (link_numbers net) (worth_cell net l) ∙ length-range_with_len 1 (length net.links))

pub worth_stack_more : (net : Network) (u : List ℤ) (l : ℕ) (cells now : List ℤ) → WorthStack net u l cells → now ≡ cells ++ worth_row net u (l + 1) → WorthStack net u (l + 1) now
worth_stack_more net u l cells now s e = record {
  stack = let P : List ℤ → Type 0 = Stacking (worth_row net u) (length net.links + 1) (l + 1) in
      subst P (sym e) (stacking_more (worth_row net u) (length net.links + 1) l cells s.stack (length-worth_row net u (l + 1)));
}

pub worth_stack_size : (net : Network) (u : List ℤ) (n l : ℕ) (cells : List ℤ) → WorthStack net u l cells → n ≡ length net.links → n ≤ l → l ≤ n → length cells ≡ length net.links * (length net.links + 1)
worth_stack_size net u n l cells s e h i = s.stack.size ∙ ap (λ k. k * (length net.links + 1)) (omega (arith, e))

pub worth_stack_rows : (net : Network) (u : List ℤ) (n l : ℕ) (cells : List ℤ) → WorthStack net u l cells → n ≡ length net.links → n ≤ l → l ≤ n → rows_of (length net.links) (length net.links + 1) cells ≡ worth_rows net u
unfolding worth_rows
worth_stack_rows net u n l cells s e h i = let same : length net.links ≡ l = omega (arith, e) in
    ap (λ k. rows_of k (length net.links + 1) cells) same ∙ s.stack.rows ∙ ap (λ k. map (worth_row net u) (range_with_len 1 k)) (sym same)

pub ruleset worth_stacks = (worth_stack_start, worth_stack_more, worth_stack_size, worth_stack_rows)
