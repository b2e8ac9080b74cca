use Rattle.std.proofs.Common.{sym, ◌∙◌}
use Rattle.ipa_forms.proofs.OneForm.{same_form}
use Rattle.ipa_forms.proofs.form_laws.one_form.Goals as goal

pub returns : goal.returns
returns c = λ line ts f g said also. same_form f g (sym said.words_are ∙ also.words_are)
