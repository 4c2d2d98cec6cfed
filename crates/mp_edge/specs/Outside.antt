-- What the calls of a source, a sink and a store do to what they tell, and when they may fail.
use Rattle.std.specs.Prelude.{◌≡◌, ◌≤◌, ◌↔◌, ℕ, ◌+◌, ◌-◌, ◌^◌, min, List, [], ◌∷◌, ◌++◌, take, ⊤, Result, None, Some, OnErr, MatchResult, IfSome, IsSomeAnd, nat_eq, if◌then◌else◌}
use Rattle.std.specs.Cmp.Lexicographic.{pointwise}
use Rattle.std.specs.declared.option.Option.{Option}

-- A last count is the greatest number of 64 bits, where a count stays.
abbrev pub LAST_COUNT : ℕ
LAST_COUNT = 2 ^ 64 - 1

-- A next count is the count one later, or the last count.
abbrev pub next_count : ℕ → ℕ
next_count n = min (n + 1) LAST_COUNT

-- A count rose when it is higher now than before, or stands at its last value.
abbrev pub Rose : ℕ → ℕ → Type 0
Rose before now = next_count before ≤ now

-- A call has its cause when the count of faults did not fall, and rose where the answer is an error.
pub record HasCause {T E : Type 0} (before now : ℕ) (result : Result T E) : Type 0 where
  pub later : before ≤ now
  pub failed : OnErr result (Rose before now)

-- A call tells when what was told before it is told after it, the two related as stated.
abbrev pub Tells : {X : Type 0} → Option X → Option X → (X → X → Type 0) → Type 0
Tells None new R = ⊤
Tells (Some x) new R = (y : _) × (new ≡ Some y) × R x y

-- A taken front is the first n bytes of the buffer, with the rest left, and is empty exactly where nothing was left before.
pub record TakesFront (old new : List ℕ) (buf : List ℕ) (n : ℕ) : Type 0 where
  pub front : old ≡ take n buf ++ new
  pub at_end : (n ≡ 0) ↔ (old ≡ [])

-- A take removes the front that it gives, and an error leaves what is left as it was.
abbrev pub Takes : {E : Type 0} → Result ℕ E → List ℕ → List ℕ → List ℕ → Type 0
Takes result buf old new = MatchResult result (λ n. TakesFront old new buf n) (λ _. new ≡ old)

-- A prefix is a list that some rest completes to the whole.
abbrev pub IsPrefix : List ℕ → List ℕ → Type 0
IsPrefix front all = (rest : List ℕ) × (all ≡ front ++ rest)

-- A gain of a prefix is a prefix of the bytes behind what was there.
abbrev pub GainsPrefix : List ℕ → List ℕ → List ℕ → Type 0
GainsPrefix bytes old new = (part : List ℕ) × IsPrefix part bytes × (new ≡ old ++ part)

-- A put appends all bytes, and an error has appended a prefix of them.
abbrev pub Puts : {T E : Type 0} → Result T E → List ℕ → List ℕ → List ℕ → Type 0
Puts result bytes old new = MatchResult result (λ _. new ≡ old ++ bytes) (λ _. GainsPrefix bytes old new)

-- A named file is the first of the files of that name, by its bytes.
abbrev pub file_named : List (List ℕ × List ℕ) → List ℕ → Option (List ℕ)
file_named [] name = None
file_named (file ∷ files) name = if pointwise nat_eq file.0 name then Some file.1 else file_named files name

-- A fact of a file holds when the files are not told, or one has that name and the fact is true of its bytes.
abbrev pub OfFile : Option (List (List ℕ × List ℕ)) → List ℕ → (List ℕ → Type 0) → Type 0
OfFile files name P = IfSome files (λ fs. IsSomeAnd (file_named fs name) P)
