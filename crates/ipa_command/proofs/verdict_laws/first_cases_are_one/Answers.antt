use Rattle.ipa_command.proofs.verdict_laws.first_cases_are_one.Goals as goal

pub returns : goal.returns
returns c = record {
  documents = c.one_reading.ensures.documents;
  refusals = c.one_reading.ensures.refusals;
  apart = c.one_reading.ensures.apart;
  faultless = c.document_faultless.ensures;
  analysis = c.one_analysis.ensures.analysis;
  too_wide = c.one_refusal.ensures.too_wide;
}
