use Rattle.std.proofs.Common.{length, sym, ◌∙◌, ap, subst}
use Rattle.ipa_logic.specs.Facts.{IsRising}
use Rattle.ipa_sets.proofs.PlaceLemmas.{none-rising}
use Rattle.ipa_sets.proofs.known.Known.new.Goals as goal

pub invariant_of-result : goal.invariant_of-result
invariant_of-result c = record {
  rising = subst IsRising (sym c.new.ensures.items) none-rising;
  even = ap length c.new-2.ensures.items ∙ sym (ap length c.new.ensures.items);
}
