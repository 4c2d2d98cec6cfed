-- The objects in memory, as their callers see them.
use Rattle.std.specs.Prelude.{ℕ, List, [], ◌∷◌, Bool, ◌==◌, if◌then◌else◌, min, length, take, ◌-◌, nat_le, nat_lt, is_some, ◌||◌, None, Some, map}
use Rattle.std.specs.declared.option.Option.{Option}
use Rattle.std.specs.String.{string_bytes}
use Rattle.std.specs.declared.string.String.{String}
use Rattle.std.specs.declared.vec.Vec.{Vec}
use Rattle.std.specs.List.{list_any}
use Rattle.mp_edge.specs.Outside.{next_count, file_named}

-- A source in memory has bytes left, a greatest piece, the numbers of the calls that fail, the number of the last call, and a count of faults.
pub record SourceState : Type 0 where
  pub left : List ℕ
  pub piece : ℕ
  pub fails : List ℕ
  pub calls : ℕ
  pub faults : ℕ

-- A sink in memory holds bytes, and has a room for them, the calls that fail with what each keeps, the number of the last call, and a count of faults.
pub record SinkState : Type 0 where
  pub held : List ℕ
  pub room : ℕ
  pub fails : List (ℕ × ℕ)
  pub calls : ℕ
  pub faults : ℕ

-- A store in memory has files by name, the numbers of the calls that fail, the number of the last call, and a count of faults.
pub record StoreState : Type 0 where
  pub files : List (List ℕ × List ℕ)
  pub fails : List ℕ
  pub calls : ℕ
  pub faults : ℕ

-- A listed call is one whose number is among those that fail.
abbrev pub is_listed : List ℕ → ℕ → Bool
is_listed fails number = list_any (λ k. k == number) fails

-- A kept count is what the first entry of that number says that its failing call keeps.
abbrev pub kept_by : List (ℕ × ℕ) → ℕ → Option ℕ
kept_by [] number = None
kept_by (entry ∷ entries) number = if entry.0 == number then Some entry.1 else kept_by entries number

-- An added part is as many bytes as the entry and the free room allow, or without an entry all bytes where they fit and none where they do not.
abbrev pub added_by : Option ℕ → ℕ → List ℕ → List ℕ
added_by (Some kept) free bytes = take (min kept free) bytes
added_by None free bytes = if nat_le (length bytes) free then bytes else []

-- The next put adds the part for its number and for the room that is left.
abbrev pub added : SinkState → List ℕ → List ℕ
added sink bytes = added_by (kept_by sink.fails (next_count sink.calls)) (sink.room - length sink.held) bytes

-- The next put fails when it is listed, or the bytes do not fit the room that is left.
abbrev pub put_fails : SinkState → List ℕ → Bool
put_fails sink bytes = is_some (kept_by sink.fails (next_count sink.calls)) || nat_lt (sink.room - length sink.held) (length bytes)

-- The files that a store is made from are its names and bytes.
abbrev pub names_and_bytes : {A B : Type 0} → List (String A × Vec ℕ B) → List (List ℕ × List ℕ)
names_and_bytes files = map (λ file. (string_bytes file.0, file.1.items)) files

-- A found file is the first of that name, unless the call of that number is listed.
abbrev pub file_found : List (List ℕ × List ℕ) → List ℕ → ℕ → List ℕ → Option (List ℕ)
file_found files fails number name = if is_listed fails number then None else file_named files name

-- The next read finds the file of that name, unless it is listed.
abbrev pub next_found : StoreState → List ℕ → Option (List ℕ)
next_found store name = file_found store.files store.fails (next_count store.calls) name
