use Rattle.std.proofs.Common.{length, arith, ap, ◌∙◌}
use Rattle.ipa_ground.proofs.PlaceLemmas.{starts-count}
use Rattle.ipa_ground.proofs.numbering.fact_count.Goals as goal

pub offset_bounds-starts-len : goal.offset_bounds-starts-len
offset_bounds-starts-len c =
    let few = c.spec_is_fit.ensures.fit.predicate_count in
    let same = ap length c.predicates.ensures in
    omega (arith, c.len.ensures)

pub bounds-starts-len : goal.bounds-starts-len
bounds-starts-len c =
    let few = c.spec_is_fit.ensures.fit.predicate_count in
    let same = ap length c.predicates.ensures in
    omega (arith, c.len.ensures)

pub returns : goal.returns
returns c = starts-count _ _ _ _ c.starts-starts.ensures (c.len.ensures ∙ ap length c.predicates.ensures)
