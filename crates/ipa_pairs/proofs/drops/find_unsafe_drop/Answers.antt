use Rattle.std.proofs.Common.{◌≡◌, Some, sym, ◌∙◌, subst, slice_get, rules}
use Rattle.std.proofs.lemmas.Bool.{false≢true}
use Rattle.std.proofs.lemmas.Option.{MatchOption-at_none, MatchOption-at_some}
use Rattle.ipa_ground.specs.Patterns.{AreConstants, AreSorts}
use Rattle.ipa_reduction.specs.Cases.{constant_counts, drop_sorts, DropBreaksOn}
use Rattle.ipa_pairs.proofs.TriedLemmas.{Tried, tried-here, tried-next}
use Rattle.ipa_pairs.proofs.ReportLemmas.{reported-drop, no-break}
use Rattle.ipa_pairs.proofs.drops.find_unsafe_drop.Goals as goal

pub returns-then-not-can_break : goal.returns-then-not-can_break
returns-then-not-can_break c =
    let declared : slice_get c.args.spec.now.clauses c.args.number ≡ Some c.in-Some-get.clause.now = search rules in
    record {
      of = c.requires.of;
      found = λ breaks. false≢true (sym c.if-not-can_break.true ∙ (c.can_break.ensures
          ∙ c.breaking_drops_falsify.ensures.clauses c.args.spec.now c.args.bound c.args.number c.in-Some-get.clause.now declared breaks));
    }

pub drop_sorts-sorts-requires : goal.drop_sorts-sorts-requires
drop_sorts-sorts-requires c =
    let declared : slice_get c.args.spec.now.clauses c.args.number ≡ Some c.in-Some-get.clause.now = search rules in
    record { few = c.patterns_of_drops_fit.ensures.few c.args.spec.now c.args.bound c.args.number c.in-Some-get.clause.now c.spec_is_fit.ensures.fit declared }

pub new-patterns-requires-clause-sorts : goal.new-patterns-requires-clause-sorts
new-patterns-requires-clause-sorts c =
    let declared : slice_get c.args.spec.now.clauses c.args.number ≡ Some c.in-Some-get.clause.now = search rules in
    subst AreSorts (sym (c.as_slice.ensures ∙ c.drop_sorts-sorts.ensures))
    (c.patterns_of_drops_fit.ensures.sorts c.args.spec.now c.args.bound c.args.number c.in-Some-get.clause.now c.spec_is_fit.ensures.fit declared)

pub new-patterns-requires-clause-constants : goal.new-patterns-requires-clause-constants
new-patterns-requires-clause-constants c =
    subst AreConstants (sym c.constant_counts-constants.ensures)
    (c.patterns_of_drops_fit.ensures.constants c.args.spec.now c.spec_is_fit.ensures.fit)

pub drop_break_on-requires-clause-pattern : goal.drop_break_on-requires-clause-pattern
drop_break_on-requires-clause-pattern c =
    let On = DropBreaksOn c.args.spec.now c.args.bound c.in-Some.declared.now c.in-Some-get.clause.now in
    let sorts = drop_sorts c.args.spec.now c.args.bound c.in-Some-get.clause.now in
    tried-here On (constant_counts c.args.spec.now) sorts c.in-Some-next.pattern c.next.new.self (subst (Tried On (constant_counts c.args.spec.now) sorts) c.in-Some-next.ensures c.loop-pattern.invariant.0)

pub loop-pattern-preserved : goal.loop-pattern-preserved
loop-pattern-preserved c =
    let On = DropBreaksOn c.args.spec.now c.args.bound c.in-Some.declared.now c.in-Some-get.clause.now in
    let sorts = drop_sorts c.args.spec.now c.args.bound c.in-Some-get.clause.now in (
      tried-next On (constant_counts c.args.spec.now) sorts c.in-Some-next.pattern c.next.new.self (subst (Tried On (constant_counts c.args.spec.now) sorts) c.in-Some-next.ensures c.loop-pattern.invariant.0)
          (MatchOption-at_none _ _ c.in-None.is c.in_ok-drop_break_on.ensures.found),
      c.drop_break_on.ensures.of,
    )

pub returns-in-Some-2 : goal.returns-in-Some-2
returns-in-Some-2 c =
    let bound : slice_get c.args.spec.now.bounds c.args.bound ≡ Some c.in-Some.declared.now = search rules in
    let declared : slice_get c.args.spec.now.clauses c.args.number ≡ Some c.in-Some-get.clause.now = search rules in
    let On = DropBreaksOn c.args.spec.now c.args.bound c.in-Some.declared.now c.in-Some-get.clause.now in
    let sorts = drop_sorts c.args.spec.now c.args.bound c.in-Some-get.clause.now in
    let found = MatchOption-at_some _ _ _ c.in-Some-2.is c.in_ok-drop_break_on.ensures.found in
    record {
      of = c.drop_break_on.ensures.of;
      found = (
        reported-drop c.args.spec.now c.in-Some-2.found c.args.bound c.args.number found.1.0 found.1.1 c.in-Some.declared.now c.in-Some-get.clause.now bound declared c.in-Some-next.pattern c.next.new.self
            (subst (Tried On (constant_counts c.args.spec.now) sorts) c.in-Some-next.ensures c.loop-pattern.invariant.0) found.0,
        found.1,
      );
    }

pub returns : goal.returns
returns c =
    let bound : slice_get c.args.spec.now.bounds c.args.bound ≡ Some c.in-Some.declared.now = search rules in
    let declared : slice_get c.args.spec.now.clauses c.args.number ≡ Some c.in-Some-get.clause.now = search rules in
    record {
      of = c.loop-pattern.invariant.1;
      found = λ breaks. no-break c.args.spec.now c.args.bound c.in-Some.declared.now c.in-Some-get.clause.now c.loop-pattern.patterns c.loop-pattern.invariant.0 c.in_default-next.ensures.0
          (c.unsafe_drops_are_on_patterns.ensures.some c.args.spec.now c.args.bound c.args.number c.in-Some.declared.now c.in-Some-get.clause.now c.spec_is_fit.ensures.fit bound declared breaks);
    }
