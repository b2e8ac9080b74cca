use Rattle.ipa_text.proofs.NumberLemmas.{printed_is_read, read_is_printed}
use Rattle.ipa_text.proofs.laws.one_spelling.Goals as goal

pub returns : goal.returns
returns c = record { printed = printed_is_read; read = read_is_printed }
