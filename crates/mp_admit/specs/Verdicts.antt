-- The verdict, as the code keeps it.
use Rattle.mp_cert.specs.Views.{cert_of}
use Rattle.mp_verdict.specs.Verdict.{Verdict, Admitted, Critical, Overloaded}
use Rattle.mp_admit.specs.declared.verdict.Verdict.{Verdict as Kept}
use Rattle.mp_admit.specs.declared.verdict.Verdict.TheVariants as kept

-- This is the verdict that the code keeps.
abbrev pub verdict_of : Kept → Verdict
verdict_of (kept.Admitted cert against slack) = Admitted (cert_of cert) against.p slack
verdict_of (kept.Critical against) = Critical against.p
verdict_of (kept.Overloaded against) = Overloaded against.p
