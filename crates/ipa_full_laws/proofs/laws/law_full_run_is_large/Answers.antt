use Rattle.ipa_settings.specs.DocumentSettings.{setting_of}
use Rattle.ipa_full_laws.proofs.Documents.{document-setup}
use Rattle.ipa_full_laws.proofs.laws.law_full_run_is_large.Goals as goal

pub returns : goal.returns
returns c = λ bytes document number fates reads accepted met.
    c.law_full_is_large.ensures (setting_of document) document.setup.sessions document.setup.replicas number met.after
    fates (c.faultless_parts_are_fit.ensures document.spec (c.document_faultless.ensures bytes document reads))
    (document-setup document accepted (c.kept_by_type.ensures.setup document.setup) (c.kept_by_type.ensures.base document)
    (c.kept_by_type.ensures.fitting document))
    met.full
