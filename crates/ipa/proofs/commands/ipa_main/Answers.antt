use Rattle.std.proofs.Common.{refl}
use Rattle.ipa_words.specs.declared.commands.Command.TheVariants.{Check, Repair, Simulate, Generate, Audit, Migrate}
use Rattle.ipa.specs.Obeying.Obeys.{nameless}
use Rattle.ipa.proofs.Doing.{as-named, plainly, running, saying}
use Rattle.ipa.proofs.commands.ipa_main.Goals as goal

pub returns-in-Some-Check-clause-obeys : goal.returns-in-Some-Check-clause-obeys
returns-in-Some-Check-clause-obeys g c =
    as-named _ _ _ _ _ _ _ Check c.in-Some-Check.field-0 c.in-Some-Check.ensures c.in-Some-Check.field-0-is (plainly _ _ _ _ _ _ c.check_command.ensures c.plain.ensures.status c.plain.ensures.nothing refl)

pub returns-in-Some-Repair-clause-obeys : goal.returns-in-Some-Repair-clause-obeys
returns-in-Some-Repair-clause-obeys g c =
    as-named _ _ _ _ _ _ _ Repair c.in-Some-Repair.field-0 c.in-Some-Repair.ensures c.in-Some-Repair.field-0-is (plainly _ _ _ _ _ _ c.repair_command.ensures c.plain-in-Some-Repair.ensures.status c.plain-in-Some-Repair.ensures.nothing refl)

pub returns-in-Some-Simulate-clause-obeys : goal.returns-in-Some-Simulate-clause-obeys
returns-in-Some-Simulate-clause-obeys g c =
    as-named _ _ _ _ _ _ _ (Simulate c.in-Some-Simulate.number _) c.in-Some-Simulate.field-0 c.in-Some-Simulate.ensures c.in-Some-Simulate.field-0-is (running _ _ _ _ _ _ _ c.simulate_command.ensures.run c.simulated.ensures.status c.simulated.ensures.handed)

pub returns-in-Some-Generate-clause-obeys : goal.returns-in-Some-Generate-clause-obeys
returns-in-Some-Generate-clause-obeys g c =
    as-named _ _ _ _ _ _ _ (Generate c.in-Some-Generate.number) c.in-Some-Generate.field-0 c.in-Some-Generate.ensures c.in-Some-Generate.field-0-is (refl, running _ _ _ _ _ _ _ c.generate_command.ensures.run c.simulated-in-Some-Generate.ensures.status c.simulated-in-Some-Generate.ensures.handed)

pub returns-in-Some-Audit-clause-obeys : goal.returns-in-Some-Audit-clause-obeys
returns-in-Some-Audit-clause-obeys g c =
    as-named _ _ _ _ _ _ _ Audit c.in-Some-Audit.field-0 c.in-Some-Audit.ensures c.in-Some-Audit.field-0-is (plainly _ _ _ _ _ _ c.audit_command.ensures c.plain-in-Some-Audit.ensures.status c.plain-in-Some-Audit.ensures.nothing refl)

pub returns-in-Some-Migrate-clause-obeys : goal.returns-in-Some-Migrate-clause-obeys
returns-in-Some-Migrate-clause-obeys g c =
    as-named _ _ _ _ _ _ _ Migrate c.in-Some-Migrate.field-0 c.in-Some-Migrate.ensures c.in-Some-Migrate.field-0-is (plainly _ _ _ _ _ _ c.migrate_command.ensures c.plain-in-Some-Migrate.ensures.status c.plain-in-Some-Migrate.ensures.nothing refl)

pub returns-in-None-clause-obeys : goal.returns-in-None-clause-obeys
returns-in-None-clause-obeys g c =
    nameless c.in-None.ensures (saying _ _ _ _ _ (rw c.as_bytes.ensures.value at c.write_text.ensures.said) c.write_text.ensures.count c.plain-in-None.ensures.status c.plain-in-None.ensures.nothing refl refl)
