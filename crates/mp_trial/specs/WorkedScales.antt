-- The search over small denominators on the worked networks.
use Rattle.std.specs.Prelude.{◌≡◌, [], ◌∷◌, pos}
use Rattle.mp_model.specs.Worked.{two_approaches, two_approaches_cert, tandem, tandem_cert, roundabout, roundabout_cert}
use Rattle.mp_trial.specs.Search.{Found, NoneAt, scaled}

-- The worked networks have the certificates of their greatest slacks over the denominators of these; over 2 the two approaches have one of slack 1/2, and over 1 none.
pub record AreWorkedScales : Type 0 where
  pub four : scaled two_approaches 4 ≡ Found two_approaches_cert
  pub two : scaled two_approaches 2 ≡ Found (record { d = pos 2; e = pos 1; h = pos 2 ∷ pos 2 ∷ []; mixes = record { whole = pos 1; parts = pos 1 ∷ pos 1 ∷ [] } ∷ [] })
  pub one : scaled two_approaches 1 ≡ NoneAt
  pub queues : scaled tandem 4 ≡ Found tandem_cert
  pub circle : scaled roundabout 8 ≡ Found roundabout_cert
