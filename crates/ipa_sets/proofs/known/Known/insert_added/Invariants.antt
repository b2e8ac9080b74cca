use Rattle.std.proofs.Common.{◌≡◌, ℕ, ◌+◌, map}
use Rattle.ipa_sets.specs.Knowns.{HasPlaces}
use Rattle.ipa_sets.proofs.EffectLemmas.{AreKnown}
use Rattle.ipa_sets.proofs.known.Known.insert_added.Given as goal

abbrev pub invariant-loop-place : goal.invariant-loop-place
invariant-loop-place g l = record {
  known : AreKnown l.spec l.tx l.fn.self.facts.items l.self.facts.items l.place;
  truths : l.fn.self.truths.items ≡ map (g.T.Test.passes l.test) l.fn.self.facts.items →
      l.self.truths.items ≡ map (g.T.Test.passes l.test) l.self.facts.items;
  left : (n : ℕ) → HasPlaces (n + l.place) l.fn.self → HasPlaces n l.self;
}
