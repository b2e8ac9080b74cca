use Rattle.ipa_canonical.proofs.rereading.document_read_back.Goals as goal

pub returns : goal.returns
returns c = λ bytes document reads. c.is_read_back.ensures.either document.spec (c.fit_to_print.ensures bytes document reads)
