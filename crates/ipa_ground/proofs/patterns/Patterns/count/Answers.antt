use Rattle.std.proofs.Common.{arith, ◌==◌}
use Rattle.std.proofs.lemmas.List.Sums.{count_by-le-length}
use Rattle.ipa_ground.proofs.CountLemmas.{counts-none, counts-more, counts-fit, counts-all}
use Rattle.ipa_ground.proofs.patterns.Patterns.count.Goals as goal

pub loop-sort-init : goal.loop-sort-init
loop-sort-init c = counts-none _ _

pub ways-count-requires : goal.ways-count-requires
ways-count-requires c = record {
  few = omega (arith, c.variables_of.ensures, count_by-le-length (λ other. other == c.loop-sort.sort) c.args.sorts.now);
  used = c.requires.constants.most c.loop-sort.sort;
}

pub overflow_mul-count : goal.overflow_mul-count
overflow_mul-count c = omega (arith, counts-fit _ _ _ _ c.requires.few (counts-more _ _ _ _ _ _ c.variables_of.ensures c.ways-count.ensures.value c.ways-count.ensures.bound c.loop-sort.invariant))

pub loop-sort-preserved : goal.loop-sort-preserved
loop-sort-preserved c = counts-more _ _ _ _ _ _ c.variables_of.ensures c.ways-count.ensures.value c.ways-count.ensures.bound c.loop-sort.invariant

pub returns : goal.returns
returns c = counts-all _ _ _ _ c.requires.constants c.requires.sorts (omega arith) c.loop-sort.invariant
