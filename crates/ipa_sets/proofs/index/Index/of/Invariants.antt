use Rattle.std.proofs.Common.{◌≡◌, take}
use Rattle.ipa_sets.specs.Indexes.{IsIndexOf}
use Rattle.ipa_sets.proofs.index.Index.of.Given as goal

abbrev pub invariant-loop-tx : goal.invariant-loop-tx
invariant-loop-tx l = record {
  entries : l.index.entries ≡ take l.tx-index l.tx-items;
  indexed : IsIndexOf l.spec l.index;
}
