-- Two approaches by frames of three periods meet the premises of the bound.
use Rattle.std.proofs.Common.{[], ◌∷◌, refl, lit≤, lit<}
use Rattle.std.proofs.Math.Nat.{one-dvd, dvd-mod_iff}
use Rattle.std.specs.Int.{IsGcd}
use Rattle.mp_laws.proofs.Cases.{le, two_case}
use Rattle.mp_laws.proofs.StartedCases.{started_acceptable}
use Rattle.mp_model.specs.Certificate.{Certifies}
use Rattle.mp_model.specs.Frames.{frame_network}
use Rattle.mp_model.specs.Slack.{IsSlack}
use Rattle.mp_model.specs.Worked.{two_approaches_from}
use Rattle.mp_framed.specs.Cases.{FramedCase, framed_cert}

gcd_five_eight : IsGcd 5 8 1
gcd_five_eight = (one-dvd 5, one-dvd 8, λ x x5 x8. let x3 = (dvd-mod_iff x x5).1 x8 in let x2 = (dvd-mod_iff x x3).1 x5 in (dvd-mod_iff x x2).1 x3)

certified : Certifies (frame_network (two_approaches_from 60 30) 3) framed_cert
certified = record {
  rules = record {
    lengths = record { rates = refl; mixes = refl; parts = (refl, tt) };
    denominator = le 1 8 (lit≤ tt);
    rates = (le 0 8 (lit≤ tt), (le 0 8 (lit≤ tt), tt));
    wholes = (le 1 1 (lit≤ tt), tt);
    parts = ((le 0 4 (lit≤ tt), (le 0 4 (lit≤ tt), tt)), tt);
    masses = (le 8 8 (lit≤ tt), tt);
    serves = (le 8 8 (lit≤ tt), (le 8 8 (lit≤ tt), tt));
    balances = (le 64 64 (lit≤ tt), (le 64 64 (lit≤ tt), tt));
  };
  excess = le 1 5 (lit≤ tt);
}

slack : IsSlack framed_cert 5 8
slack = record { lowest = record { denominator = lit≤ tt; coprime = gcd_five_eight }; equal = refl }

pub framed_case : FramedCase
framed_case = record {
  acceptable = started_acceptable 60 30 (lit≤ tt) (lit≤ tt);
  certified = certified;
  slack = slack;
  greatest = record { above = lit≤ tt; reached = (framed_cert, certified, slack); shown = (1 ∷ 1 ∷ [], record { vector = record { lengths = refl; some = lit≤ tt }; equal = refl }) };
  bounds_are = record { root = 268; is_root = record { within = lit≤ tt; most = lit< tt }; are = refl };
  permitted = record { counts = two_case.permitted.counts; windows = two_case.permitted.windows };
}
