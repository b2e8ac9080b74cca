use Rattle.ipa_reader.proofs.document_laws.kept_by_type.Goals as goal

pub returns : goal.returns
returns c = record { setup = λ s. s.fits; base = λ d. d.kept; fitting = λ d. d.fitting }
