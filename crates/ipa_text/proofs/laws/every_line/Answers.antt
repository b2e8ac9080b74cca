use Rattle.ipa_text.proofs.EveryLineLemmas.{each_line, every_line, up_to_last, in_order}
use Rattle.ipa_text.proofs.LineTextLemmas.{texts_are}
use Rattle.ipa_text.proofs.laws.every_line.Goals as goal

pub returns : goal.returns
returns c = record { each = each_line; every = every_line; last = up_to_last; texts = texts_are; in_order = in_order }
