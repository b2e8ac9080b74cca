use Rattle.ipa_forms.proofs.LiteralLemmas.{none_fails}
use Rattle.ipa_forms.proofs.reading.members.LiteralFormMember.read.Goals as goal

pub returns-in_default : goal.returns-in_default
returns-in_default c =
    let none = rw c.in_default.is at c.in_ok-predicate.ensures in
    none_fails c.args.words.now c.take_text.new.words c.if-take_text.ensures none
