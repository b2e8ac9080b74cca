use Rattle.ipa_journal.proofs.OneReading.{same_journal, one_number, read_or_refused}
use Rattle.ipa_journal.proofs.journal_laws.one_journal.Goals as goal

pub returns : goal.returns
returns c =
    let one = c.one_cut.ensures.tokens in
    let apart = c.one_cut.ensures.apart in
    record {
      journal = same_journal one;
      line = one_number one apart;
      apart = read_or_refused one apart;
    }
