use Rattle.std.proofs.Common.{rules, arith}
use Rattle.std.specs.Ordering.{is_lt}
use Rattle.std.proofs.lemmas.List.Sorted.{IsPartitionPoint-from_clause}
use Rattle.ipa_logic.specs.Facts.{fact_cmp}
use Rattle.ipa_logic.specs.declared.facts.Fact.{Fact}
use Rattle.ipa_sets.proofs.PlaceLemmas.{parted, before-down}
use Rattle.ipa_sets.proofs.known.place_of.Goals as goal

pub returns : goal.returns
returns c =
    let point = IsPartitionPoint-from_clause (λ (g : Fact). is_lt (fact_cmp g c.args.fact.now)) c.args.facts.now c.partition_point.result
    c.partition_point.ensures.partitioned
    (parted (λ (g : Fact). is_lt (fact_cmp g c.args.fact.now)) (before-down c.args.fact.now) c.args.facts.now c.requires)
    (λ a r q k. search rules) in
    record {
      within = c.partition_point.ensures.bound;
      before = λ k d l. point.0 k d (omega arith) l;
      after = λ k d a l. point.1 k d a l;
    }
