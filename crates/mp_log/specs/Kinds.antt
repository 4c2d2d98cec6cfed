-- What the answer to a line of a stream says of it.
use Rattle.std.specs.Prelude.{◌<◌, ◌^◌, ◌&&◌, ℕ, nat_le, cond, List, Option, None, Some, IsTrue}
use Rattle.std.specs.List.{All}
use Rattle.mp_model.specs.Arrivals.{HasCounts}
use Rattle.mp_model.specs.Network.{Network, has, junction_numbers, link_numbers}
use Rattle.mp_model.specs.Stream.{LineKind}
use Rattle.mp_model.specs.Stream.LineKind.{skipped_line, arrivals_line, hear_line, decide_line, bad_line}
use Rattle.mp_log.specs.declared.stream_line.StreamLine.{StreamLine}
use Rattle.mp_log.specs.declared.stream_line.StreamLine.TheVariants.{Skipped, Arrivals, Hear, Decide, Bad}

-- A number from 1 to the most is kept, and no other.
abbrev pub number_to : ℕ → Option ℕ → Option ℕ
number_to most None = None
number_to most (Some n) = cond (nat_le 1 n && nat_le n most) (Some n) None

-- This is the kind of a line that has this answer and, where it has some, these counts.
abbrev pub kind_read : StreamLine → List ℕ → LineKind
kind_read Skipped counts = skipped_line
kind_read Arrivals counts = arrivals_line counts
kind_read (Hear j l) counts = hear_line j l
kind_read (Decide j) counts = decide_line j
kind_read Bad counts = bad_line

-- The counts of arrivals are one per fed link, each below 10^9, and junction and link of an event are of the network.
abbrev pub IsOnNetwork : Network → StreamLine → List ℕ → Type 0
IsOnNetwork net Skipped counts = Unit {0}
IsOnNetwork net Arrivals counts = HasCounts net counts × All (λ a. a < 10 ^ 9) counts
IsOnNetwork net (Hear j l) counts = IsTrue (has (junction_numbers net) j) × IsTrue (has (link_numbers net) l)
IsOnNetwork net (Decide j) counts = IsTrue (has (junction_numbers net) j)
IsOnNetwork net Bad counts = Unit {0}
