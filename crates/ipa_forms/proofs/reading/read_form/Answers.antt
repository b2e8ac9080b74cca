use Rattle.std.proofs.Common.{sym, ◌∙◌}
use Rattle.ipa_forms.specs.Words.{words_in}
use Rattle.ipa_forms.proofs.FormLemmas.{no_keyword, form_read}
use Rattle.ipa_forms.proofs.reading.read_form.Goals as goal

pub returns-in_default : goal.returns-in_default
returns-in_default c =
    let none = rw c.new-words.ensures at c.in_default.ensures in
    no_keyword (words_in c.args.line.now c.args.tokens.now) none

pub returns : goal.returns
returns c =
    form_read c.in-Some.keyword (words_in c.args.line.now c.args.tokens.now) c.take_keyword.new.words (sym c.new-words.ensures ∙ c.in-Some.ensures) c.read_line.result c.read_line.ensures
