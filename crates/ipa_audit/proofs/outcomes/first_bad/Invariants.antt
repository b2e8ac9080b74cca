use Rattle.std.proofs.Common.{take}
use Rattle.ipa_audit.specs.Journals.{requests_of}
use Rattle.ipa_audit.specs.Steps.{AreCounted, AreGoodUpTo}
use Rattle.ipa_audit.proofs.outcomes.first_bad.Given as goal

abbrev pub invariant-loop-place : goal.invariant-loop-place
invariant-loop-place l = record {
  counted : AreCounted (take l.place l.outs) l.counts;
  good : AreGoodUpTo l.setting (requests_of l.sessions) l.index.entries l.outs l.place;
}
