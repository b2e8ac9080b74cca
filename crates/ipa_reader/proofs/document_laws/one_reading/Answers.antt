use Rattle.ipa_reader.proofs.OneLine.{AreOne}
use Rattle.ipa_reader.proofs.OneReading.{documents_one, refusals_one, readings_apart}
use Rattle.ipa_reader.proofs.document_laws.one_reading.Goals as goal

pub returns : goal.returns
returns c =
    let one : AreOne = record { tokens = c.one_cut.ensures.tokens; apart = c.one_cut.ensures.apart; forms = c.one_form.ensures } in
    record {
      documents = documents_one one;
      refusals = refusals_one one;
      apart = readings_apart one;
    }
