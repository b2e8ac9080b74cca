use Rattle.ipa_words.proofs.Words.{generate-none}
use Rattle.ipa_words.proofs.commands.generate.Goals as goal

pub returns-in_err-number : goal.returns-in_err-number
returns-in_err-number c = rw c.from_residual.ensures (generate-none c.args.number.now c.in_err-number.ensures)
