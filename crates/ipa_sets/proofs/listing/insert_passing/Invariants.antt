use Rattle.std.proofs.Common.{◌≡◌, ◌&&◌, ◌||◌, take}
use Rattle.ipa_logic.specs.Facts.{has, IsRising}
use Rattle.ipa_logic.specs.declared.facts.Fact.{Fact}
use Rattle.ipa_sets.proofs.listing.insert_passing.Given as goal

abbrev pub invariant-loop-fact : goal.invariant-loop-fact
invariant-loop-fact g l = record {
  rising : IsRising l.state;
  facts : (f : Fact) → has l.state f ≡ ((has (take l.fact-index l.facts) f && g.T.Test.passes l.test f) || has l.fn.state f);
}
