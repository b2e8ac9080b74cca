use Rattle.std.proofs.Common.{◌≡◌, Some, sym, ◌∙◌, subst, slice_get, rules}
use Rattle.std.proofs.lemmas.Bool.{false≢true}
use Rattle.std.proofs.lemmas.Option.{MatchOption-at_none, MatchOption-at_some}
use Rattle.ipa_ground.specs.Patterns.{AreConstants, AreSorts}
use Rattle.ipa_reduction.specs.Cases.{constant_counts, triple_sorts, ConflictOn}
use Rattle.ipa_pairs.proofs.TriedLemmas.{Tried, tried-here, tried-next}
use Rattle.ipa_pairs.proofs.ReportLemmas.{reported-here, no-conflict}
use Rattle.ipa_pairs.proofs.triples.find_conflict.Goals as goal

pub returns-then-not-is_live : goal.returns-then-not-is_live
returns-then-not-is_live c =
    let declared : slice_get c.args.spec.now.clauses c.args.number ≡ Some c.in-Some.clause.now = search rules in
    record {
      of = c.requires.of;
      found = λ conflict. false≢true (sym c.if-not-is_live.true ∙ (c.is_live.ensures
          ∙ c.conflicts_are_live.ensures c.args.spec.now c.args.left c.args.right c.args.number c.in-Some.clause.now declared conflict));
    }

pub triple_sorts-sorts-requires : goal.triple_sorts-sorts-requires
triple_sorts-sorts-requires c =
    let declared : slice_get c.args.spec.now.clauses c.args.number ≡ Some c.in-Some.clause.now = search rules in
    record { few = c.patterns_of_triples_fit.ensures.few c.args.spec.now c.args.left c.args.right c.args.number c.in-Some.clause.now c.spec_is_fit.ensures.fit declared }

pub new-patterns-requires-clause-sorts : goal.new-patterns-requires-clause-sorts
new-patterns-requires-clause-sorts c =
    let declared : slice_get c.args.spec.now.clauses c.args.number ≡ Some c.in-Some.clause.now = search rules in
    subst AreSorts (sym (c.as_slice.ensures ∙ c.triple_sorts-sorts.ensures))
    (c.patterns_of_triples_fit.ensures.sorts c.args.spec.now c.args.left c.args.right c.args.number c.in-Some.clause.now c.spec_is_fit.ensures.fit declared)

pub new-patterns-requires-clause-constants : goal.new-patterns-requires-clause-constants
new-patterns-requires-clause-constants c =
    subst AreConstants (sym c.constant_counts-constants.ensures)
    (c.patterns_of_triples_fit.ensures.constants c.args.spec.now c.spec_is_fit.ensures.fit)

pub conflict_on-requires-clause-pattern : goal.conflict_on-requires-clause-pattern
conflict_on-requires-clause-pattern c =
    let In = ConflictOn c.args.spec.now c.args.left c.args.right c.in-Some.clause.now in
    let sorts = triple_sorts c.args.spec.now c.args.left c.args.right c.in-Some.clause.now in
    tried-here In (constant_counts c.args.spec.now) sorts c.in-Some-next.pattern c.next.new.self (subst (Tried In (constant_counts c.args.spec.now) sorts) c.in-Some-next.ensures c.loop-pattern.invariant.0)

pub returns-in-Some-2 : goal.returns-in-Some-2
returns-in-Some-2 c =
    let declared : slice_get c.args.spec.now.clauses c.args.number ≡ Some c.in-Some.clause.now = search rules in
    let In = ConflictOn c.args.spec.now c.args.left c.args.right c.in-Some.clause.now in
    let sorts = triple_sorts c.args.spec.now c.args.left c.args.right c.in-Some.clause.now in
    let found = MatchOption-at_some _ _ _ c.in-Some-2.is c.in_ok-conflict_on.ensures.found in
    record {
      of = c.conflict_on.ensures.of;
      found = (
        reported-here c.args.spec.now c.args.left c.args.right c.args.number c.in-Some.clause.now c.in-Some-next.pattern c.next.new.self c.in-Some-2.conflict declared
            (subst (Tried In (constant_counts c.args.spec.now) sorts) c.in-Some-next.ensures c.loop-pattern.invariant.0) found.0 found.1,
        found.1,
      );
    }

pub loop-pattern-preserved : goal.loop-pattern-preserved
loop-pattern-preserved c =
    let In = ConflictOn c.args.spec.now c.args.left c.args.right c.in-Some.clause.now in
    let sorts = triple_sorts c.args.spec.now c.args.left c.args.right c.in-Some.clause.now in (
      tried-next In (constant_counts c.args.spec.now) sorts c.in-Some-next.pattern c.next.new.self (subst (Tried In (constant_counts c.args.spec.now) sorts) c.in-Some-next.ensures c.loop-pattern.invariant.0)
          (MatchOption-at_none _ _ c.in-None.is c.in_ok-conflict_on.ensures.found),
      c.conflict_on.ensures.of,
    )

pub returns : goal.returns
returns c =
    let declared : slice_get c.args.spec.now.clauses c.args.number ≡ Some c.in-Some.clause.now = search rules in
    record {
      of = c.loop-pattern.invariant.1;
      found = λ conflict. no-conflict c.args.spec.now c.args.left c.args.right c.in-Some.clause.now c.loop-pattern.patterns c.loop-pattern.invariant.0 c.in_default-next.ensures.0
          (c.conflicts_are_on_patterns.ensures.some c.args.spec.now c.args.left c.args.right c.args.number c.in-Some.clause.now c.spec_is_fit.ensures.fit declared conflict);
    }
