use Rattle.mp_event_run.proofs.Prompting.{prompt_texts}
use Rattle.mp_event_run.proofs.laws.prompt_text_law.Goals as goal

pub returns : goal.returns
returns c = prompt_texts
