use Rattle.std.proofs.Common.{ap, ◌∙◌}
use Rattle.ipa_spec.specs.FaultlessFits.{parts_of-faultless, IsFit-from_faultless}
use Rattle.ipa_names.specs.Meaning.{specification_of}
use Rattle.ipa_canonical.proofs.DeclaredBack.{declared_named}
use Rattle.ipa_canonical.proofs.SameForms.{same_names}
use Rattle.ipa_canonical.proofs.PartsBack.{specification_back}
use Rattle.ipa_canonical.proofs.rereading.declares_itself.Goals as goal

pub returns : goal.returns
returns c = λ s h.
    ap specification_of (declared_named s)
    ∙ specification_back s (IsFit-from_faultless s h.faultless) (parts_of-faultless s h.faultless) h.shaped h.named (same_names c.one_form.ensures c.reads_back.ensures.form)
