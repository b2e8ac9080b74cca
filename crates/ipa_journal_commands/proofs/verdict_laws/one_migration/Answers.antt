use Rattle.ipa_journal_commands.proofs.OneJournal.{one-migration}
use Rattle.ipa_journal_commands.proofs.verdict_laws.one_migration.Goals as goal

pub returns : goal.returns
returns c bytes text other status end h k =
    one-migration c.first_cases_are_one.ensures c.journals_are_one.ensures bytes status end text other h k
