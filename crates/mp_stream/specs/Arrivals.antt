-- Runs over lines of arrivals alone.
use Rattle.std.specs.Prelude.{◌≡◌, ◌+◌, ℕ, false, List, [], ◌∷◌, length}
use Rattle.mp_model.specs.Arrivals.{IsPermitted}
use Rattle.mp_model.specs.Network.{Network}
use Rattle.mp_model.specs.Stream.{LineKind, arrivals_of_kinds}
use Rattle.mp_model.specs.Stream.LineKind.{arrivals_line}
use Rattle.mp_laws.specs.Buckets.{IsFirstAbove}
use Rattle.mp_stream.specs.Course.{Course, StartsWith}
use Rattle.mp_stream.specs.declared.arrivals.AboveBucket.{AboveBucket}
use Rattle.mp_stream.specs.declared.arrivals.ArrivalsEnd.{ArrivalsEnd}
use Rattle.mp_stream.specs.declared.arrivals.ArrivalsEnd.TheVariants.{Done, Read, Write, LineLimit, Long, Grammar, Above}
use Rattle.mp_stream.specs.declared.driving.End.{End}
use Rattle.mp_stream.specs.declared.driving.End.TheVariants as end

-- Behind lines of these kinds the line gives the arrivals of this period, and in it the link is the least that does not keep to its bucket.
pub record IsAbove (net : Network) (kinds : List LineKind) (kind : LineKind) (why : AboveBucket) : Type 0 where
  pub counts : List ℕ
  pub is : kind ≡ arrivals_line counts
  pub period : why.period ≡ length (arrivals_of_kinds kinds) + 1
  pub first : IsFirstAbove net (arrivals_of_kinds kinds) counts why.link

-- A run over lines of arrivals alone takes no events, lines are permitted where their arrivals are, and what it writes is a function of the arrivals.
abbrev pub arrivals_course : Network → (List (List ℕ) → List (List ℕ)) → (List (List ℕ) → List ℕ) → Course AboveBucket
arrivals_course net lines end_line = record {
  net = net;
  takes_events = false;
  Permits = λ kinds. IsPermitted net (arrivals_of_kinds kinds);
  lines = λ kinds. lines (arrivals_of_kinds kinds);
  end_line = λ kinds. end_line (arrivals_of_kinds kinds);
  Refuses = IsAbove net;
}

-- A text starts with lines of these kinds, each of them skipped or of arrivals, and goes on with lines of the other kinds.
abbrev pub StartsWithArrivals : Network → List ℕ → List LineKind → List LineKind → Type 0
StartsWithArrivals net text kinds more = StartsWith (arrivals_course net (λ A. []) (λ A. [])) text kinds more

-- The lines of a text before line n are taken and their arrivals are permitted, line n gives the arrivals of period p, and in it l is the least link that does not keep to its bucket.
pub record IsAboveAt (net : Network) (text : List ℕ) (n p l : ℕ) : Type 0 where
  pub kinds : List LineKind
  pub counts : List ℕ
  pub more : List LineKind
  pub number : n ≡ length kinds + 1
  pub period : p ≡ length (arrivals_of_kinds kinds) + 1
  pub lines : StartsWithArrivals net text kinds (arrivals_line counts ∷ more)
  pub permitted : IsPermitted net (arrivals_of_kinds kinds)
  pub above : IsFirstAbove net (arrivals_of_kinds kinds) counts l

-- This is the end of a run over lines of arrivals alone as that of any run over a stream.
abbrev pub stream_end : ArrivalsEnd → End AboveBucket
stream_end Done = end.Done
stream_end Read = end.Read
stream_end Write = end.Write
stream_end LineLimit = end.LineLimit
stream_end (Long n) = end.Long n
stream_end (Grammar n) = end.Bad n
stream_end (Above n p l) = end.Refused n (record { period = p; link = l })
