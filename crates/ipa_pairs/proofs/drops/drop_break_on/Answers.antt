use Rattle.std.proofs.Common.{◌≡◌, ℕ, List, Some, refl, ap, ◌∙◌, slice_get, rules}
use Rattle.std.proofs.lemmas.Option.{MatchOption-at_none, MatchOption-at_some}
use Rattle.ipa_spec.specs.declared.specification.Specification.{Specification}
use Rattle.ipa_spec.specs.declared.bounds.Bound.{Bound}
use Rattle.ipa_spec.specs.declared.clauses.Clause.{Clause}
use Rattle.ipa_spec.specs.declared.clauses.Literal.{Literal}
use Rattle.ipa_pairs.specs.Asked.{asks_of_drop}
use Rattle.ipa_pairs.specs.Patterned.{classes_of}
use Rattle.ipa_pairs.specs.declared.asking.Asked.{Asked}
use Rattle.ipa_pairs.specs.declared.drops.DropCase.{DropCase}
use Rattle.ipa_pairs.proofs.GroundedLemmas.{grounded-models}
use Rattle.ipa_pairs.proofs.BreakLemmas.{asks_at, spared-break, impossible-break, no-state, first-break, facts-of-drop}
use Rattle.ipa_pairs.proofs.drops.drop_break_on.Goals as goal

-- what is asked, of the clause's literals
asks-are : (s : Specification) (n : ℕ) (b : Bound) (c : Clause) (classes : List ℕ) (case : DropCase) (literals : List Literal) → literals ≡ c.literals → (items slice : List Asked)
    → items ≡ asks_of_drop s n b case.args case.values literals → slice ≡ items → slice ≡ asks_at s n b c classes case
asks-are s n b c classes case literals same items slice items_are slice_is =
    slice_is ∙ (items_are ∙ ap (λ (ls : List Literal). asks_of_drop s n b case.args case.values ls) same)

pub returns-then-not-falsifies_some : goal.returns-then-not-falsifies_some
returns-then-not-falsifies_some c = record {
  of = c.requires.of;
  found = spared-break c.args.spec.now c.args.bound c.args.declared.now c.args.clause.now (classes_of c.args.pattern.now) c.drop_case_of-case.result c.drop_case_of-case.ensures.value
      c.as_slice-literals.result.now c.as_slice-literals.ensures c.falsifies_some.result c.falsifies_some.ensures c.if-not-falsifies_some.true
      (c.breaking_drops_falsify.ensures.patterns c.args.spec.now c.args.bound c.args.number c.args.declared.now c.args.clause.now (classes_of c.args.pattern.now) c.requires.clause);
}

pub returns-in-None : goal.returns-in-None
returns-in-None c = record {
  of = c.requires.of;
  found = impossible-break c.args.spec.now c.args.bound c.args.declared.now c.args.clause.now (classes_of c.args.pattern.now) c.drop_case_of-case.result c.drop_case_of-case.ensures.value c.as_slice.result.now (asks-are c.args.spec.now c.args.bound c.args.declared.now c.args.clause.now (classes_of c.args.pattern.now) c.drop_case_of-case.result c.as_slice-literals.result.now c.as_slice-literals.ensures c.in_ok-asks.asks.items c.as_slice.result.now c.in_ok-asks.ensures c.as_slice.ensures.value)
      (MatchOption-at_none _ _ c.in-None.is c.in_ok-demands_of.ensures);
}

pub first-requires-clause-facts : goal.first-requires-clause-facts
first-requires-clause-facts c =
    let there : slice_get c.place_of.new.grounded c.in_ok-at.at ≡ Some c.in-Some-get.grounding.now = search rules in
    facts-of-drop c.args.spec.now c.args.bound c.args.declared.now c.args.clause.now (classes_of c.args.pattern.now) c.drop_case_of-case.result c.spec_is_fit.ensures.fit c.args.number c.requires.bound c.requires.clause c.drop_case_of-case.ensures.over c.as_slice.result.now (asks-are c.args.spec.now c.args.bound c.args.declared.now c.args.clause.now (classes_of c.args.pattern.now) c.drop_case_of-case.result c.as_slice-literals.result.now c.as_slice-literals.ensures c.in_ok-asks.asks.items c.as_slice.result.now c.in_ok-asks.ensures c.as_slice.ensures.value)
    c.in-Some.demands c.as_slice-2.result.now c.as_slice-2.ensures (MatchOption-at_some _ _ _ c.in-Some.is c.in_ok-demands_of.ensures) c.in-Some-get.grounding.now.models (grounded-models c.args.spec.now c.drop_case_of-case.result.universe c.place_of.new.grounded c.in_ok-at.at c.in-Some-get.grounding.now there c.in_ok-at.ensures.place)

pub returns-in-None-2 : goal.returns-in-None-2
returns-in-None-2 c =
    let there : slice_get c.place_of.new.grounded c.in_ok-at.at ≡ Some c.in-Some-get.grounding.now = search rules in
    record {
      of = c.place_of.ensures.of;
      found = no-state c.args.spec.now c.args.bound c.args.declared.now c.args.clause.now (classes_of c.args.pattern.now) c.drop_case_of-case.result c.drop_case_of-case.ensures.value c.as_slice.result.now (asks-are c.args.spec.now c.args.bound c.args.declared.now c.args.clause.now (classes_of c.args.pattern.now) c.drop_case_of-case.result c.as_slice-literals.result.now c.as_slice-literals.ensures c.in_ok-asks.asks.items c.as_slice.result.now c.in_ok-asks.ensures c.as_slice.ensures.value)
          c.in-Some.demands c.as_slice-2.result.now c.as_slice-2.ensures (MatchOption-at_some _ _ _ c.in-Some.is c.in_ok-demands_of.ensures) c.in-Some-get.grounding.now.models (grounded-models c.args.spec.now c.drop_case_of-case.result.universe c.place_of.new.grounded c.in_ok-at.at c.in-Some-get.grounding.now there c.in_ok-at.ensures.place)
          (MatchOption-at_none _ _ c.in-None-2.is c.in_ok-first.ensures);
    }

pub returns : goal.returns
returns c =
    let there : slice_get c.place_of.new.grounded c.in_ok-at.at ≡ Some c.in-Some-get.grounding.now = search rules in
    record {
      of = c.place_of.ensures.of;
      found = (
        first-break c.args.spec.now c.args.bound c.args.declared.now c.args.clause.now (classes_of c.args.pattern.now) c.drop_case_of-case.result c.drop_case_of-case.ensures.value c.args.number c.requires.bound c.drop_case_of-case.ensures.over c.as_slice.result.now (asks-are c.args.spec.now c.args.bound c.args.declared.now c.args.clause.now (classes_of c.args.pattern.now) c.drop_case_of-case.result c.as_slice-literals.result.now c.as_slice-literals.ensures c.in_ok-asks.asks.items c.as_slice.result.now c.in_ok-asks.ensures c.as_slice.ensures.value)
            c.in-Some.demands c.as_slice-2.result.now c.as_slice-2.ensures (MatchOption-at_some _ _ _ c.in-Some.is c.in_ok-demands_of.ensures) c.in-Some-get.grounding.now.models (grounded-models c.args.spec.now c.drop_case_of-case.result.universe c.place_of.new.grounded c.in_ok-at.at c.in-Some-get.grounding.now there c.in_ok-at.ensures.place) c.in-Some-2.before
            (MatchOption-at_some _ _ _ c.in-Some-2.is c.in_ok-first.ensures),
        (refl, refl),
      );
    }
