use Rattle.ipa_journal_laws.proofs.Lawful.{lawful_writable}
use Rattle.ipa_journal_laws.proofs.laws.lawful_end_reads_back.Goals as goal

pub returns : goal.returns
returns c = record {
  writable = λ d sizes base requests entries outcomes last set own wide counted end.
      lawful_writable d.spec sizes d.elements d.sessions set base requests entries outcomes last own wide counted end;
  reads = λ d sizes base requests entries outcomes last set own wide counted end.
      c.end_reads_back.ensures.reads d sizes entries outcomes last set
      (lawful_writable d.spec sizes d.elements d.sessions set base requests entries outcomes last own wide counted end);
}
