use Rattle.std.proofs.Common.{sym, subst}
use Rattle.ipa_gate.specs.Settings.{SettingParts}
use Rattle.ipa_audit.specs.Steps.{AreAsked}
use Rattle.ipa_journal_commands.proofs.JournalLemmas.{asked-each}
use Rattle.ipa_journal_commands.proofs.auditing.verdict_of.Goals as goal

pub audit-requires-clause-asked : goal.audit-requires-clause-asked
audit-requires-clause-asked c =
    subst (λ (s : SettingParts). AreAsked s c.args.document.now.setup.sessions) (sym c.in_ok-setting.ensures)
    (asked-each c.args.document.now c.requires.fits)
