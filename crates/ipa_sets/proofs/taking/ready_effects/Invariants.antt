use Rattle.std.proofs.Common.{◌≡◌, true}
use Rattle.ipa_logic.specs.Facts.{has}
use Rattle.ipa_logic.specs.declared.facts.Fact.{Fact}
use Rattle.ipa_sets.specs.Filings.{IsRoomier, AreReadied}
use Rattle.ipa_sets.proofs.taking.ready_effects.Given as goal

abbrev pub invariant-loop-place : goal.invariant-loop-place
invariant-loop-place l = record {
  ready : AreReadied l.spec l.tx l.filed.lists l.known l.place;
  roomier : IsRoomier l.initial.filed.lists l.filed.lists;
  kept : (f : Fact) → has l.initial.known f ≡ true → has l.known f ≡ true;
}
