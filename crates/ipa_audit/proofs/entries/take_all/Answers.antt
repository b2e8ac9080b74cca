use Rattle.std.proofs.Common.{◌∙◌}
use Rattle.ipa_audit.proofs.EntryLemmas.{appended_more}
use Rattle.ipa_audit.proofs.entries.take_all.Goals as goal

pub loop-entry-preserved : goal.loop-entry-preserved
loop-entry-preserved c = record {
  setting = c.take.ensures.setting ∙ c.loop-entry.invariant.setting;
  taken = appended_more c.args.log.now.setting c.loop-entry.log.setting c.loop-entry.invariant.setting c.args.lines.now
      c.loop-entry.entry-index _ c.loop-entry-test.true c.loop-entry.log.entries c.loop-entry.invariant.taken
      c.take.new.log.entries (rw c.in_default.is at c.in_ok-fault.ensures.fault);
}
