use Rattle.std.proofs.Common.{◌≡◌, ◌∙◌, sym, subst, length, rules, true}
use Rattle.ipa_ground.specs.Patterns.{AreConstants, AreSorts, patterns}
use Rattle.ipa_logic.specs.Conflicts.{is_live}
use Rattle.ipa_pairs.proofs.WidthLemmas.{wide_at}
use Rattle.ipa_pairs.proofs.width.wide_count_on.Goals as goal

pub triple_sorts-sorts-requires : goal.triple_sorts-sorts-requires
triple_sorts-sorts-requires c =
    let fit = c.spec_is_fit.ensures.fit in
    record { few = c.patterns_of_triples_fit.ensures.few c.args.spec.now c.args.left c.args.right c.args.number c.args.clause.now fit c.requires }

pub count-count-requires-clause-sorts : goal.count-count-requires-clause-sorts
count-count-requires-clause-sorts c =
    let fit = c.spec_is_fit.ensures.fit in
    subst AreSorts (sym (c.as_slice.ensures ∙ c.triple_sorts-sorts.ensures))
    (c.patterns_of_triples_fit.ensures.sorts c.args.spec.now c.args.left c.args.right c.args.number c.args.clause.now fit c.requires)

pub count-count-requires-clause-constants : goal.count-count-requires-clause-constants
count-count-requires-clause-constants c =
    subst AreConstants (sym c.constant_counts-constants.ensures)
    (c.patterns_of_triples_fit.ensures.constants c.args.spec.now c.spec_is_fit.ensures.fit)

pub returns-then-count-gt-MOST_PATTERNS : goal.returns-then-count-gt-MOST_PATTERNS
returns-then-count-gt-MOST_PATTERNS c =
    let live : is_live c.args.spec.now c.args.left c.args.right c.args.clause.now ≡ true = search rules in
    wide_at c.args.spec.now c.args.left c.args.right c.args.number c.args.clause.now c.count-count.result c.requires live
    (c.count-count.ensures
    ∙ (λ i. length (patterns (c.constant_counts-constants.ensures i) ((c.as_slice.ensures ∙ c.triple_sorts-sorts.ensures) i))))
    c.if-count-gt-MOST_PATTERNS.true
