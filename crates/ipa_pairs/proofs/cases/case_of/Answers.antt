use Rattle.std.proofs.Common.{refl, sym, subst, arith}
use Rattle.ipa_ground.specs.Places.{AreSmall}
use Rattle.ipa_reduction.specs.Cases.{constant_counts, triple_sorts}
use Rattle.ipa_pairs.specs.Openness.{IsOverCase}
use Rattle.ipa_pairs.specs.Patterned.{classes_of}
use Rattle.ipa_pairs.proofs.CaseLemmas.{case-is, over-case, pattern-len, pattern-sizes}
use Rattle.ipa_pairs.proofs.cases.case_of.Goals as goal

pub args_from-requires-clause-len : goal.args_from-requires-clause-len
args_from-requires-clause-len c =
    let few = c.patterns_of_triples_fit.ensures.few c.args.spec.now c.args.left c.args.right c.args.number c.args.clause.now c.spec_is_fit.ensures.fit c.requires.declared in
    omega (arith, few, pattern-len (constant_counts c.args.spec.now) (triple_sorts c.args.spec.now c.args.left c.args.right c.args.clause.now) c.args.pattern.now c.requires.pattern)

pub args_from-requires-2-clause-len : goal.args_from-requires-2-clause-len
args_from-requires-2-clause-len c =
    let few = c.patterns_of_triples_fit.ensures.few c.args.spec.now c.args.left c.args.right c.args.number c.args.clause.now c.spec_is_fit.ensures.fit c.requires.declared in
    omega (arith, few, pattern-len (constant_counts c.args.spec.now) (triple_sorts c.args.spec.now c.args.left c.args.right c.args.clause.now) c.args.pattern.now c.requires.pattern)

pub args_from-requires-3-clause-len : goal.args_from-requires-3-clause-len
args_from-requires-3-clause-len c =
    let few = c.patterns_of_triples_fit.ensures.few c.args.spec.now c.args.left c.args.right c.args.number c.args.clause.now c.spec_is_fit.ensures.fit c.requires.declared in
    omega (arith, few, pattern-len (constant_counts c.args.spec.now) (triple_sorts c.args.spec.now c.args.left c.args.right c.args.clause.now) c.args.pattern.now c.requires.pattern)

pub overflow_cast-len : goal.overflow_cast-len
overflow_cast-len c = omega (arith, c.len.ensures, c.spec_is_fit.ensures.fit.variable_count c.args.number c.args.clause.now c.requires.declared)

pub args_from-requires-3-clause-few : goal.args_from-requires-3-clause-few
args_from-requires-3-clause-few c = omega (arith, c.len.ensures, c.spec_is_fit.ensures.fit.variable_count c.args.number c.args.clause.now c.requires.declared)

pub returns-clause-over : goal.returns-clause-over
returns-clause-over c =
    subst (IsOverCase c.args.spec.now c.args.clause.now)
    (sym (case-is c.args.spec.now c.args.left c.args.right c.args.clause.now c.args.pattern.now c.requires.pattern
    c.sort_count-of_left.result c.sort_count-of_right.result c.len.result c.sort_count-of_left.ensures.value c.sort_count-of_right.ensures.value c.len.ensures
    c.args_from.result c.args_from-2.result c.args_from-3.result c.args_from.ensures c.args_from-2.ensures c.args_from-3.ensures _ refl))
    (over-case c.args.spec.now c.args.left c.args.right c.args.clause.now (classes_of c.args.pattern.now)
    (c.patterns_of_triples_fit.ensures.arguments c.args.spec.now c.args.left c.args.right c.args.number c.args.clause.now (classes_of c.args.pattern.now)
    c.spec_is_fit.ensures.fit c.requires.declared c.requires.pattern.is_pattern))

pub returns-clause-small : goal.returns-clause-small
returns-clause-small c =
    subst AreSmall (sym (pattern-sizes (constant_counts c.args.spec.now) (triple_sorts c.args.spec.now c.args.left c.args.right c.args.clause.now) c.args.pattern.now c.requires.pattern))
    (c.patterns_of_triples_fit.ensures.small c.args.spec.now c.args.left c.args.right c.args.number c.args.clause.now (classes_of c.args.pattern.now)
    c.spec_is_fit.ensures.fit c.requires.declared c.requires.pattern.is_pattern)
