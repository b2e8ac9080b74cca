use Rattle.ipa_journal_commands.proofs.verdict_laws.journals_are_one.Goals as goal

pub returns : goal.returns
returns c = record {
  journal = c.one_journal.ensures.journal;
  line = c.one_journal.ensures.line;
  apart = c.one_journal.ensures.apart;
}
