-- What a decision asks of the copies that the junctions have.
use Rattle.std.specs.Prelude.{ℕ, ◌-◌, Bool, List, [], Option, is_none, slice_index_or}
use Rattle.mp_model.specs.Arrivals.{count_in}
use Rattle.mp_model.specs.EventCore.{Copy, accepted, copy_beside, counts_in}
use Rattle.mp_model.specs.Network.{Network, from_of, junction_at, out_of, targets}

-- This is the copy that junction j has of link l, if it has one.
abbrev pub copy_in : Network → List (List (Option Copy)) → ℕ → ℕ → Option Copy
copy_in net copies j l = copy_beside (targets net (junction_at net j)) (slice_index_or copies (j - 1) []) l

-- Junction j has no copy of link l that a decision of this period accepts.
abbrev pub is_lacking : Network → ℕ → List (List (Option Copy)) → ℕ → ℕ → Bool
is_lacking net period copies j l = is_none (accepted net.delay period (copy_in net copies j l))

-- This is the queue of movement k by the copy that junction j has of its link.
abbrev pub seen_in : Network → List (List (Option Copy)) → ℕ → ℕ → ℕ
seen_in net copies j k = count_in (out_of net (from_of net k)) (counts_in (copy_in net copies j (from_of net k))) k
