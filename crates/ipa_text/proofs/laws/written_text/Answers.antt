use Rattle.ipa_text.proofs.SpellingLemmas.{ended_lines, ended_texts}
use Rattle.ipa_text.proofs.laws.written_text.Goals as goal

pub returns : goal.returns
returns c = record { lines = ended_lines; texts = ended_texts }
