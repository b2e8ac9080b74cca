use Rattle.ipa_reader.proofs.SoundDocuments.{document_faultless}
use Rattle.ipa_reader.proofs.document_laws.document_faultless.Goals as goal

pub returns : goal.returns
returns c = document_faultless c.is_faultless.ensures
