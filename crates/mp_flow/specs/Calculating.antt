-- What the code's calculations over a network come to.
use Rattle.std.specs.Prelude.{◌≡◌, ◌≤ℤ◌, ◌⊎◌, ℕ, ◌+◌, ◌*◌, ℤ, pos, List, length, take, drop, Option, Some, None, Result, Ok, Err, vec_len}
use Rattle.mp_num.specs.Row.{rows_of}
use Rattle.mp_flow.specs.declared.solving.Rows.{Rows}
use Rattle.mp_flow.specs.declared.solving.Solved.{Solved}
use Rattle.mp_flow.specs.declared.solving.SolveFault.{SolveFault}
use Rattle.mp_flow.specs.declared.solving.SolveFault.TheVariants as Solving
use Rattle.mp_flow.specs.declared.network.Place.{Place}
use Rattle.mp_flow.specs.declared.network.CalcFault.{CalcFault}
use Rattle.mp_flow.specs.declared.network.CalcFault.TheVariants as Calculating
use Rattle.mp_flow.specs.declared.network.FlowPair.{FlowPair}
use Rattle.mp_flow.specs.declared.network.Flow.{Flow}
use Rattle.mp_flow.specs.Answers.{solved, Answer, Passes, Answers, IsKernel}
use Rattle.mp_flow.specs.Systems.{Flows, Worths}

-- The rows of a system are kept as one list of cells.
pub record HoldsRows (rows : Rows) (n rights : ℕ) (list : List (List ℤ)) : Type 0 where
  pub count : rows.n ≡ n
  pub sides : rows.rights ≡ rights
  pub size : vec_len rows.cells ≡ n * (n + rights)
  pub cells : rows_of n (n + rights) rows.cells.items ≡ list

-- These are the flows that a pair of lists holds.
abbrev pub flows_of : FlowPair → Flows
flows_of p = record { rate = p.rate; unit = p.unit; d = p.d }

-- These are the worths that a list holds.
abbrev pub worths_of : Flow → Worths
worths_of f = record { x = f.x; d = f.d }

-- A result gives what a calculation states: the value, or its place where it exceeds 128 bits; or memory ran out.
abbrev pub Gives : {X Y : Type 0} → Place → (X → Y) → Result X CalcFault → Option Y → Type 0
Gives place seen (Ok x) stated = stated ≡ Some (seen x)
Gives place seen (Err fault) stated = ((fault ≡ Calculating.Overflow place) × (stated ≡ None)) ⊎ (fault ≡ Calculating.NoMemory)

-- The outcome of a system is moved to a place: an answer stays, and a column where it exceeds 128 bits becomes the place.
abbrev pub IsMoved : Place → Result Solved SolveFault → Result Solved CalcFault → Type 0
IsMoved place (Ok s) moved = moved ≡ Ok s
IsMoved place (Err (Solving.Singular kernel)) moved = ⊥
IsMoved place (Err (Solving.Overflow column)) moved = moved ≡ Err (Calculating.Overflow place)
IsMoved place (Err Solving.NoMemory) moved = moved ≡ Err Calculating.NoMemory

-- The answers of two right sides are split after the first n, or memory ran out.
abbrev pub Splits : ℕ → Solved → Result FlowPair CalcFault → Type 0
Splits n s (Ok p) = (p.rate ≡ take n s.x) × (p.unit ≡ drop n s.x) × (p.d ≡ s.d)
Splits n s (Err fault) = fault ≡ Calculating.NoMemory

-- The rows of a system, read from its cells.
abbrev pub list_of : Rows → List (List ℤ)
list_of rows = rows_of rows.n (rows.n + rows.rights) rows.cells.items

-- A system is regular where it has no kernel.
pub record IsRegular (rows : Rows) : Type 0 where
  pub no_kernel : (x : List ℤ) → IsKernel rows.n (list_of rows) x → ⊥

-- An answer of a system is the one of the stated calculation, over a denominator of at least 1, and answers every row.
pub record IsAnswer (n rights : ℕ) (rows : List (List ℤ)) (s : Solved) : Type 0 where
  pub stated : solved n rights rows ≡ Answer s.x s.d
  pub positive : pos 1 ≤ℤ s.d
  pub values : length s.x ≡ rights * n
  pub answers : Answers n rights rows s.x s.d

-- A regular system is answered at a place: with its answer, or with the place where the calculation exceeds 128 bits; or memory ran out.
abbrev pub AnsweredAt : Place → ℕ → ℕ → List (List ℤ) → Result Solved CalcFault → Type 0
AnsweredAt place n rights rows (Ok s) = IsAnswer n rights rows s
AnsweredAt place n rights rows (Err fault) = ((fault ≡ Calculating.Overflow place) × ((column : ℕ) × (solved n rights rows ≡ Passes column))) ⊎ (fault ≡ Calculating.NoMemory)
