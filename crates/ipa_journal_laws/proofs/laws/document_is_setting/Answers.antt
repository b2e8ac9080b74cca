use Rattle.ipa_journal_laws.proofs.DocumentSettings.{document_setting, setup_counted}
use Rattle.ipa_journal_laws.proofs.laws.document_is_setting.Goals as goal

pub returns : goal.returns
returns c = record {
  setting = λ bytes document reads.
      document_setting bytes document reads (c.document_faultless.ensures bytes document reads) (c.kept_by_type.ensures.setup document.setup);
  requests = λ setup.
      setup_counted setup.universe.sizes setup.elements setup.replicas setup.sessions (c.kept_by_type.ensures.setup setup);
}
