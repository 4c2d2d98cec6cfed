-- What holds of the score after some junctions.
use Rattle.std.proofs.Common.{◌≡◌, ◌≤◌, ℕ, [], pos, ◌≤ℤ◌, unsigned_abs, Option, Some, None}
use Rattle.std.specs.List.{AllByRecursion}
use Rattle.mp_model.specs.Network.{Network, junction_at, own}
use Rattle.mp_num.specs.Fraction.{IsLowest}
use Rattle.mp_flow.specs.Systems.{Flows}
use Rattle.mp_verdict.specs.Worst.{IsWorst}
use Rattle.mp_verdict.specs.Game.{Score}
use Rattle.mp_verdict.proofs.Plain.{values_of, CarriesAt}
use Rattle.mp_verdict.proofs.RatesAt.{d_of, f_of, g_of}

abbrev pub weights_of : Network → Score → ℕ → ℕ
weights_of net st = values_of (own net (junction_at net st.junction)) st.values

-- the score is that of a worst junction, and the first n junctions carry its slack
pub record IsSound (net : Network) (flows : Flows) (n : ℕ) (st : Score) : Type 0 where
  pub whole : ℕ
  pub lowest : IsLowest st.slack.num st.slack.den
  pub worst : IsWorst net (d_of flows) (f_of flows) (g_of flows) st.junction (weights_of net st) whole st.slack.num (unsigned_abs st.slack.den)
  pub values : AllByRecursion (λ z. pos 0 ≤ℤ z) st.values
  pub carries : (i : ℕ) → 1 ≤ i → i ≤ n → CarriesAt net (d_of flows) (f_of flows) (g_of flows) st.slack.num (unsigned_abs st.slack.den) (junction_at net i)

-- with no score yet, none of the first n junctions has a movement
abbrev pub IsSoundAt : Network → Flows → ℕ → Option Score → Type 0
IsSoundAt net flows n None = (i : ℕ) → 1 ≤ i → i ≤ n → own net (junction_at net i) ≡ []
IsSoundAt net flows n (Some st) = IsSound net flows n st
