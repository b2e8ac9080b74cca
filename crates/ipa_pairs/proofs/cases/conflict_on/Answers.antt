use Rattle.std.proofs.Common.{◌≡◌, ℕ, ◌<◌, List, length, Some, refl, ap, ◌∙◌, subst, arith, slice_get}
use Rattle.std.specs.Prelude.{slice_index_or}
use Rattle.std.proofs.lemmas.Option.{MatchOption-at_none, MatchOption-at_some, slice_get-get_or}
use Rattle.ipa_spec.specs.declared.clauses.Literal.{Literal}
use Rattle.ipa_pairs.specs.Examples.{hidden_facts}
use Rattle.ipa_pairs.specs.Openness.{IsOpen}
use Rattle.ipa_pairs.specs.Patterned.{classes_of}
use Rattle.ipa_pairs.proofs.ConflictLemmas.{closed-case, passed-more, passed-all, first-example}
use Rattle.ipa_pairs.proofs.cases.conflict_on.Goals as goal

-- the literal at a place of the loop
literal-at : (items literals : List Literal) (k : ℕ) (d : Literal) → items ≡ literals → k < length items → slice_get literals k ≡ Some (slice_index_or items k d)
literal-at items literals k d same l = subst (λ (ls : List Literal). slice_get ls k ≡ Some (slice_index_or items k d)) same (slice_get-get_or items k d l)

pub returns-then-not-is_open : goal.returns-then-not-is_open
returns-then-not-is_open c = record {
  of = c.requires.of;
  found = closed-case c.args.spec.now c.args.left c.args.right c.args.clause.now (classes_of c.args.pattern.now) c.case_of-case.result c.as_slice.result.now c.is_open.result c.case_of-case.ensures.value c.as_slice.ensures c.is_open.ensures c.if-not-is_open.true;
}

pub losing_states-requires-clause-literal : goal.losing_states-requires-clause-literal
losing_states-requires-clause-literal c = record { place = c.loop-place.place; there = literal-at c.as_slice-literal-items.result.now c.args.clause.now.literals c.loop-place.place _ c.as_slice-literal-items.ensures c.loop-place-test.true }

pub overflow_cast-result : goal.overflow_cast-result
overflow_cast-result c =
    let few = c.spec_is_fit.ensures.fit.literal_count c.args.number c.args.clause.now c.requires.declared in
    omega (arith, few, c.loop-place-test.true, ap length c.as_slice-literal-items.ensures)

pub returns-in-Some-2 : goal.returns-in-Some-2
returns-in-Some-2 c = record {
  of = c.place_of.ensures.of;
  found = (
    first-example c.args.spec.now c.args.left c.args.right c.args.clause.now (classes_of c.args.pattern.now) c.case_of-case.result c.case_of-case.ensures.value c.args.number c.loop-place.place _ c.case_of-case.ensures.over
        (subst (IsOpen c.args.spec.now c.case_of-case.result) c.as_slice.ensures (c.is_open.ensures.0 c.if-not-is_open.false))
        (literal-at c.as_slice-literal-items.result.now c.args.clause.now.literals c.loop-place.place _ c.as_slice-literal-items.ensures c.loop-place-test.true)
        c.loop-place.invariant c.in-Some-2.states (MatchOption-at_some _ _ _ c.in-Some-2.is c.in_ok-states.ensures) c.in_ok-hidden.hidden
        (c.in_ok-hidden.ensures ∙ ap (λ (ls : List Literal). hidden_facts c.args.spec.now c.case_of-case.result.left c.case_of-case.result.right c.case_of-case.result.left_args c.case_of-case.result.right_args c.case_of-case.result.values ls) c.as_slice-in-Some-2.ensures),
    refl,
  );
}

pub loop-place-preserved : goal.loop-place-preserved
loop-place-preserved c =
    passed-more c.args.spec.now c.case_of-case.result c.args.clause.now.literals c.loop-place.place _ c.loop-place.invariant
    (literal-at c.as_slice-literal-items.result.now c.args.clause.now.literals c.loop-place.place _ c.as_slice-literal-items.ensures c.loop-place-test.true)
    (MatchOption-at_none _ _ c.in_default-2.is c.in_ok-states.ensures)

pub returns : goal.returns
returns c = record {
  of = c.place_of.ensures.of;
  found = passed-all c.args.spec.now c.args.left c.args.right c.args.clause.now (classes_of c.args.pattern.now) c.case_of-case.result c.loop-place.place c.case_of-case.ensures.value c.loop-place.invariant
      (omega (arith, c.loop-place-test.false, ap length c.as_slice-literal-items.ensures));
}
