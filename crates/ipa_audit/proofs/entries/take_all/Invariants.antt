use Rattle.std.proofs.Common.{◌≡◌, take}
use Rattle.ipa_audit.specs.Steps.{AreAppended}
use Rattle.ipa_audit.proofs.entries.take_all.Given as goal

abbrev pub invariant-loop-entry : goal.invariant-loop-entry
invariant-loop-entry l = record {
  setting : l.log.setting ≡ l.fn.log.setting;
  taken : AreAppended l.fn.log.setting (take l.entry-index l.lines) l.log.entries;
}
