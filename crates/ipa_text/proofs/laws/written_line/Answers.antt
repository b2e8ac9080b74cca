use Rattle.ipa_text.proofs.SpellingLemmas.{written_is_cut, written_texts_are, written_kinds_are}
use Rattle.ipa_text.proofs.laws.written_line.Goals as goal

pub returns : goal.returns
returns c = record { cut = written_is_cut; texts = written_texts_are; kinds = written_kinds_are }
