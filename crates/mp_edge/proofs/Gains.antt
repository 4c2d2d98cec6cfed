-- Prefixes, and what a sink gained over puts in a row.
use Rattle.std.proofs.Common.{◌≡◌, ℕ, List, [], ◌++◌, refl, sym, ◌∙◌, ap}
use Rattle.std.proofs.lemmas.List.{append_assoc, append-nil}
use Rattle.mp_edge.specs.Outside.{IsPrefix, GainsPrefix}

pub IsPrefix-same : (all : List ℕ) → IsPrefix all all
IsPrefix-same all = ([], sym (append-nil all))

pub IsPrefix-none : (all : List ℕ) → IsPrefix [] all
IsPrefix-none all = (all, refl)

pub IsPrefix-then : (front mid all : List ℕ) → IsPrefix front mid → IsPrefix mid all → IsPrefix front all
IsPrefix-then front mid all p q = (p.0 ++ q.0, q.1 ∙ ap (λ xs. xs ++ q.0) p.1 ∙ append_assoc front p.0 q.0)

pub IsPrefix-behind : (before front all : List ℕ) → IsPrefix front all → IsPrefix (before ++ front) (before ++ all)
IsPrefix-behind before front all p = (p.0, ap (λ xs. before ++ xs) p.1 ∙ sym (append_assoc before front p.0))

-- nothing was put
pub GainsPrefix-none : (bytes old : List ℕ) → GainsPrefix bytes old old
GainsPrefix-none bytes old = ([], IsPrefix-none bytes, sym (append-nil old))

-- all was put
pub GainsPrefix-all : (bytes old new : List ℕ) → new ≡ old ++ bytes → GainsPrefix bytes old new
GainsPrefix-all bytes old new put = (bytes, IsPrefix-same bytes, put)

-- a prefix of the front is one of the whole
pub GainsPrefix-longer : (front all old new : List ℕ) → IsPrefix front all → GainsPrefix front old new → GainsPrefix all old new
GainsPrefix-longer front all old new p g = (g.0, IsPrefix-then g.0 front all g.1 p, g.2)

-- all of the first bytes were put, and then a prefix of more
pub GainsPrefix-then : (bytes more old mid new : List ℕ) → mid ≡ old ++ bytes → GainsPrefix more mid new → GainsPrefix (bytes ++ more) old new
GainsPrefix-then bytes more old mid new put g =
    (bytes ++ g.0, IsPrefix-behind bytes g.0 more g.1, g.2 ∙ ap (λ xs. xs ++ g.0) put ∙ append_assoc old bytes g.0)
