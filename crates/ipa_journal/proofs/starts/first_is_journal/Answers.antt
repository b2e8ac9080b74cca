use Rattle.ipa_journal.proofs.StartLemmas.{begins_from}
use Rattle.ipa_journal.proofs.starts.first_is_journal.Goals as goal

pub returns : goal.returns
returns c =
    let taken = rw (c.text.ensures, c.new-words.ensures) at c.take_text.ensures in
    begins_from c.one_cut.ensures.tokens c.args.text.now c.args.tokens.now c.take_text.result c.take_text.new.words c.requires.cut taken
