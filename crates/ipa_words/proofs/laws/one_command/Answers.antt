use Rattle.ipa_words.proofs.OneCommand.{one-command}
use Rattle.ipa_words.proofs.laws.one_command.Goals as goal

pub returns : goal.returns
returns c = λ texts one other h k. one-command texts one other h k
