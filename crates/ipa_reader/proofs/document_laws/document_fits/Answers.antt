use Rattle.ipa_reader.proofs.document_laws.document_fits.Goals as goal

pub returns : goal.returns
returns c = λ bytes document reads. document.fitting
