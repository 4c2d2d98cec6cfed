-- The split of vehicles among the shares of a link, where the shares have the places from 0 on.
use Rattle.std.specs.Prelude.{◌≡◌, ◌≤◌, ◌<◌, ℕ, suc, ◌+◌, ◌-◌, ◌*◌, List, length, sum, slice_index, ℤ, All}
use Rattle.std.specs.List.{range_with_len}
use Rattle.mp_model.specs.Split.{split_counts, first_greatest, credit_of}

-- A split has its shares, and a phase: how many vehicles of the present round have joined.
pub record Split : Type 0 where
  pub shares : List ℕ
  pub phase : ℕ

-- These are the places of the shares.
abbrev pub places_of : List ℕ → List ℕ
places_of shares = range_with_len 0 (length shares)

-- This is how many of the first n vehicles joined share i.
abbrev pub counts : List ℕ → ℕ → ℕ → ℕ
counts shares n i = split_counts (sum shares) (slice_index shares) (places_of shares) n i

-- This is the share that the vehicle after the first n joins: the one that then has the greatest credit, and the lowest place on ties.
abbrev pub joins : List ℕ → ℕ → ℕ
joins shares n = first_greatest (λ i. credit_of (sum shares) (slice_index shares i) (suc n) (counts shares n i)) (places_of shares)

-- This is how many of the n vehicles after the first `phase` ones join share i.
abbrev pub gained : List ℕ → ℕ → ℕ → ℕ → ℕ
gained shares phase n i = counts shares (phase + n) i - counts shares phase i

-- This is the credit of share i after the first `phase` vehicles.
abbrev pub credit_at : List ℕ → ℕ → ℕ → ℤ
credit_at shares phase i = credit_of (sum shares) (slice_index shares i) phase (counts shares phase i)

-- These are the counts of the first vehicles, row after row: row n, for each n below the rows, says how many of the first n vehicles joined each share.
pub record AreJoined (shares : List ℕ) (rows : ℕ) (joined : List ℕ) : Type 0 where
  pub size : length joined ≡ rows * length shares
  pub each : (n i : ℕ) → n < rows → i < length shares → slice_index joined (n * length shares + i) ≡ counts shares n i

-- A table has the counts of a round.
pub record IsTable (shares : List ℕ) (total : ℕ) (joined : List ℕ) : Type 0 where
  pub sums : sum shares ≡ total
  pub some : 1 ≤ total
  pub most : total ≤ 1000
  pub few : length shares ≤ 1000
  pub each : All (λ w. w ≤ 1000) shares
  pub table : AreJoined shares total joined
