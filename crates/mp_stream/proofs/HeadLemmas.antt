-- A head before the text of a run.
use Rattle.std.proofs.Common.{◌≡◌, ◌≤◌, ◌^◌, ℕ, List, [], ◌++◌, refl, ◌∙◌, ap, arith, inl, inr}
use Rattle.std.specs.declared.option.Option.{Option}
use Rattle.std.proofs.lemmas.List.{append_assoc}
use Rattle.mp_edge.specs.Outside.{Tells, GainsPrefix}
use Rattle.mp_edge.proofs.Told.{Tells-weaker, Tells-then, Tells-same}
use Rattle.mp_edge.proofs.Gains.{GainsPrefix-longer, GainsPrefix-then}
use Rattle.mp_model.specs.Log.{text_of}
use Rattle.mp_model.specs.Stream.{LineKind}
use Rattle.mp_stream.specs.Course.{Course}
use Rattle.mp_stream.specs.Ends.{EndsAs, whole_text, WritesPart, RefusedAt, StopsWriting}
use Rattle.mp_stream.specs.declared.driving.End.{End}
use Rattle.mp_stream.specs.declared.driving.End.TheVariants.{Done, Read, Write, LineLimit, Long, Bad, Refused}
use Rattle.mp_stream.proofs.LineLemmas.{leaves_empty, front_whole}

behind_head : (head text : List ℕ) (was mid now : Option (List ℕ)) → Tells was mid (λ before after. after ≡ before ++ head) → Tells mid now (λ before after. after ≡ before ++ text) → Tells was now (λ before after. after ≡ before ++ (head ++ text))
behind_head head text was mid now put written = Tells-then _ _ _ _ _ _ (λ before middle after w e. e ∙ ap (λ xs. xs ++ text) w ∙ append_assoc before head text) put written

cut_behind_head : (head text : List ℕ) (was mid now : Option (List ℕ)) → Tells was mid (λ before after. after ≡ before ++ head) → Tells mid now (GainsPrefix text) → Tells was now (GainsPrefix (head ++ text))
cut_behind_head head text was mid now put cut = Tells-then _ _ _ _ _ _ (λ before middle after w gain. GainsPrefix-then head text before middle after w gain) put cut

module _ {R : Type 0} (run : Course R) (head : List ℕ) where
  part_behind : (kinds : List LineKind) (whole left was mid now : Option (List ℕ)) → Tells was mid (λ before after. after ≡ before ++ head) → WritesPart run [] kinds whole left mid now → WritesPart run head kinds whole left was now
  part_behind kinds whole left was mid now put (inl cut) = inl (cut_behind_head head (text_of (run.lines kinds)) was mid now put cut)
  part_behind kinds whole left was mid now put (inr cut) = inr (cut.0, cut_behind_head head (whole_text run kinds) was mid now put cut.1)

  abbrev refused_behind : (kind : LineKind) (n : ℕ) (whole left was mid now : Option (List ℕ)) → Tells was mid (λ before after. after ≡ before ++ head) → RefusedAt run [] kind n whole left mid now → RefusedAt run head kind n whole left was now
  refused_behind kind n whole left was mid now put refused = record {
    kinds = refused.kinds;
    number = refused.number;
    few = refused.few;
    permitted = refused.permitted;
    read = refused.read;
    written = behind_head head (text_of (run.lines refused.kinds)) was mid now put refused.written;
  }

  -- a head was put before the run
  pub with_head : (end : End R) (whole left was mid now : Option (List ℕ)) → Tells was mid (λ before after. after ≡ before ++ head) → EndsAs run [] end whole left mid now → EndsAs run head end whole left was now
  with_head Done whole left was mid now put ends = record {
    kinds = ends.kinds;
    few = ends.few;
    permitted = ends.permitted;
    read = ends.read;
    written = behind_head head (whole_text run ends.kinds) was mid now put ends.written;
  }
  with_head Read whole left was mid now put ends = record {
    kinds = ends.kinds;
    few = ends.few;
    permitted = ends.permitted;
    read = ends.read;
    written = behind_head head (text_of (run.lines ends.kinds)) was mid now put ends.written;
  }
  with_head Write whole left was mid now put ends = record {
    kinds = ends.kinds;
    few = ends.few;
    permitted = ends.permitted;
    read = ends.read;
    written = part_behind ends.kinds whole left was mid now put ends.written;
  }
  with_head LineLimit whole left was mid now put ends = record {
    kinds = ends.kinds;
    number = ends.number;
    permitted = ends.permitted;
    read = ends.read;
    written = behind_head head (text_of (run.lines ends.kinds)) was mid now put ends.written;
  }
  with_head (Long n) whole left was mid now put ends = refused_behind _ n whole left was mid now put ends
  with_head (Bad n) whole left was mid now put ends = refused_behind _ n whole left was mid now put ends
  with_head (Refused n refusal) whole left was mid now put ends = record {
    kind = ends.kind;
    at = refused_behind ends.kind n whole left was mid now put ends.at;
    refused = ends.refused;
  }

  -- the head itself was cut short
  pub head_cut : (whole was now : Option (List ℕ)) → run.Permits [] → Tells was now (GainsPrefix head) → StopsWriting run head whole whole was now
  head_cut whole was now permitted cut = record {
    kinds = [];
    few = omega arith;
    permitted = permitted;
    read = Tells-same whole _ (λ text. ([], front_whole run text [] text [] (λ k d l. absurd (omega arith)) (leaves_empty run text)));
    written = inl (Tells-weaker _ _ _ _ (λ before after gain. GainsPrefix-longer head (head ++ text_of (run.lines [])) before after (text_of (run.lines []), refl) gain) cut);
  }
