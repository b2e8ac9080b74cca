use Rattle.std.proofs.Common.{◌≡◌, None, take, drop}
use Rattle.ipa_logic.specs.Facts.{IsRising}
use Rattle.ipa_journal.specs.Meaning.{rises_from}
use Rattle.ipa_journal.proofs.FactLemmas.{IsBelow}
use Rattle.ipa_journal.proofs.facts.risen.Given as goal

-- the facts so far are the state, and it is left whether the others rise behind the last
abbrev pub invariant-loop-fact : goal.invariant-loop-fact
invariant-loop-fact l = record {
  state : l.state ≡ take l.fact-index l.facts;
  below : IsBelow l.last (take l.fact-index l.facts);
  rising : IsRising (take l.fact-index l.facts);
  left : rises_from None l.facts ≡ rises_from l.last (drop l.fact-index l.facts);
}
