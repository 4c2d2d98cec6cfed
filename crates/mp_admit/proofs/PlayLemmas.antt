-- The turns of a junction, one after the other.
use Rattle.std.proofs.Common.{to_z-of_z, ◌≡◌, ℕ, suc, ◌+◌, ◌-◌, ◌<◌, ◌≤◌, Result, Ok, Err, refl, ap, sym, ◌∙◌, subst, arith}
use Rattle.mp_model.specs.Network.{Network}
use Rattle.mp_flow.specs.Systems.{Flows}
use Rattle.mp_flow.specs.declared.network.CalcFault.{CalcFault}
use Rattle.mp_verdict.specs.Game.{Score, Turn, Carried, Lowered, turn, after_turn, played}
use Rattle.mp_verdict.specs.declared.TheConstants.{TURN_LIMIT}
use Rattle.mp_verdict.specs.Stated.{Stated, Reached, then, Gives}
use Rattle.mp_admit.specs.declared.score.Score.{Score as Kept}
use Rattle.mp_admit.specs.declared.turns.Turn.{Turn as KeptTurn}
use Rattle.mp_admit.specs.declared.turns.Turn.TheVariants as kept
use Rattle.mp_admit.specs.Turns.{turn_of, Falls}
use Rattle.mp_admit.specs.Scores.{score_of, StandsIn}
use Rattle.mp_admit.proofs.FaultLemmas.{fault_then}

-- what is left gives what the whole gives; there are more rounds than turns
pub record Playing (net : Network) (flows : Flows) (j : ℕ) (whole : Stated Score) (turns : ℕ) (score : Kept) : Type 0 where
  pub rounds : ℕ
  pub enough : turns < rounds
  pub rest : whole ≡ played net flows j rounds turns (score_of score)
  pub stands : StandsIn net score

pub playing_start : (net : Network) (flows : Flows) (j turns : ℕ) (score : Kept) → turns ≡ TURN_LIMIT → StandsIn net score → Playing net flows j (played net flows j (TURN_LIMIT + 1) TURN_LIMIT (score_of score)) turns score
playing_start net flows j turns score e s = record { rounds = TURN_LIMIT + 1; enough = omega (arith, e); rest = ap (λ t. played net flows j (TURN_LIMIT + 1) t (score_of score)) (sym e); stands = s }

step : (net : Network) (flows : Flows) (j : ℕ) (whole : Stated Score) (turns : ℕ) (score : Kept) → (p : Playing net flows j whole turns score) →
    whole ≡ then (turn net flows j turns score.slack) (λ t. after_turn (score_of score) t (played net flows j (p.rounds - 1)))
unfolding played
step net flows j whole turns score p = p.rest ∙ ap (λ k. played net flows j k turns (score_of score)) (let e : p.rounds ≡ suc (p.rounds - 1) = (let m = p.enough in omega arith) in e)

pub playing_carried : (net : Network) (flows : Flows) (j : ℕ) (whole : Stated Score) (turns : ℕ) (score : Kept) → Playing net flows j whole turns score → turn net flows j turns score.slack ≡ Reached Carried → whole ≡ Reached (score_of score)
playing_carried net flows j whole turns score p e = step net flows j whole turns score p ∙ rw e refl

pub playing_fault : {X X' : Type 0} (seen : X → Turn) (seen' : X' → Score) (net : Network) (flows : Flows) (j : ℕ) (whole : Stated Score) (turns : ℕ) (score : Kept) (fault : CalcFault) → Playing net flows j whole turns score → Gives seen (Err fault) (turn net flows j turns score.slack) → Gives seen' (Err fault) whole
playing_fault seen seen' net flows j whole turns score fault p g = fault_then seen seen' fault (turn net flows j turns score.slack) _ whole (step net flows j whole turns score p) g

pub playing_more : (net : Network) (flows : Flows) (j : ℕ) (whole : Stated Score) (turns left : ℕ) (score next : Kept) → Playing net flows j whole turns score → turn net flows j turns score.slack ≡ Reached (Lowered left (score_of next)) → left < turns → StandsIn net next → Playing net flows j whole left next
playing_more net flows j whole turns left score next p e l s = record {
  rounds = p.rounds - 1;
  enough = (let m = p.enough in omega arith);
  rest = step net flows j whole turns score p ∙ rw e refl;
  stands = s;
}

pub carried_by : (net : Network) (flows : Flows) (j : ℕ) (whole : Stated Score) (turns : ℕ) (score : Kept) (t : KeptTurn) → Playing net flows j whole turns score → t ≡ kept.Carried → turn net flows j turns score.slack ≡ Reached (turn_of t) → whole ≡ Reached (score_of score)
carried_by net flows j whole turns score t p s e = playing_carried net flows j whole turns score p (e ∙ ap (λ t. Reached (turn_of t)) s)

pub lowered_by : (net : Network) (flows : Flows) (j : ℕ) (whole : Stated Score) (turns left : ℕ) (score next : Kept) (t : KeptTurn) → Playing net flows j whole turns score → t ≡ kept.Lowered left next → turn net flows j turns score.slack ≡ Reached (turn_of t) → Falls net turns t → Playing net flows j whole left next
lowered_by net flows j whole turns left score next t p s e f =
    let f' : (left < turns) × StandsIn net next = subst (λ (u : KeptTurn). Falls net turns u) s f in
    playing_more net flows j whole turns left score next p (e ∙ ap (λ t. Reached (turn_of t)) s) f'.0 f'.1

pub ruleset playing = (to_z-of_z, playing_start)
