use Rattle.ipa_text.proofs.CutLemmas.{has_answer, one_cut, one_bad_byte, cut_or_bad}
use Rattle.ipa_text.proofs.laws.one_cut.Goals as goal

pub returns : goal.returns
returns c = record { answer = has_answer; tokens = one_cut; bad_byte = one_bad_byte; apart = cut_or_bad }
