use Rattle.std.proofs.Common.{rules, arith, false}
use Rattle.std.proofs.lemmas.List.Sorted.{IsPartitionPoint-from_clause}
use Rattle.ipa_sets.specs.Fitting.{is_within}
use Rattle.ipa_sets.proofs.FittingLemmas.{within-down}
use Rattle.ipa_sets.proofs.PlaceLemmas.{parted}
use Rattle.ipa_sets.proofs.fitting.place_before.Goals as goal

pub returns : goal.returns
returns c =
    let point = IsPartitionPoint-from_clause (is_within false c.args.pattern.now) c.args.facts.now c.partition_point.result
    c.partition_point.ensures.partitioned
    (parted (is_within false c.args.pattern.now) (within-down false c.args.pattern.now) c.args.facts.now c.requires)
    (λ a r q k. search rules) in
    record {
      within = c.partition_point.ensures.bound;
      before = λ k d l. point.0 k d (omega arith) l;
      after = λ k d a l. point.1 k d a l;
    }
