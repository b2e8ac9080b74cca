use Rattle.std.proofs.Common.{◌≡◌, ℕ, List, ◌++◌, map, sym, ap, ◌∙◌, subst}
use Rattle.std.proofs.lemmas.Option.{MatchOption-at_none, MatchOption-at_some}
use Rattle.ipa_spec.specs.Actions.{sorts_of_vars}
use Rattle.ipa_spec.specs.declared.specification.Specification.{Specification}
use Rattle.ipa_logic.specs.Facts.{has}
use Rattle.ipa_logic.specs.declared.facts.Fact.{Fact}
use Rattle.ipa_ground.specs.Enumeration.{facts_over}
use Rattle.ipa_models.specs.Models.{AreFacts}
use Rattle.ipa_models.specs.declared.demands.Demand.{Demand}
use Rattle.ipa_pairs.specs.Asked.{AnswersEach, AreOfFacts, IsGathered}
use Rattle.ipa_pairs.specs.declared.asking.Asked.{Asked}
use Rattle.ipa_pairs.proofs.FittingLemmas.{fitting-answers, of-facts, first-answer}
use Rattle.ipa_pairs.proofs.fitting.first_fitting.Goals as goal

-- what is asked, over the facts of the models
asks-are : (m s : Specification) → m ≡ s → (universe : List ℕ) (facts : List Fact) → facts ≡ facts_over m.predicates universe → (needs lits : List Asked) (g : Fact → Asked) (items slice : List Asked)
    → items ≡ (map g facts ++ needs) ++ lits → slice ≡ items → slice ≡ (map g (facts_over s.predicates universe) ++ needs) ++ lits
asks-are m s same universe facts facts_are needs lits g items slice items_are slice_is =
    slice_is ∙ (items_are ∙ ap (λ (fs : List Fact). (map g fs ++ needs) ++ lits) (facts_are ∙ ap (λ (x : Specification). facts_over x.predicates universe) same))

pub returns-in-None : goal.returns-in-None
returns-in-None c =
    let asks_are = asks-are c.args.models.now.spec c.args.spec.now c.requires.spec c.args.models.now.universe _ c.facts.ensures _ _ _ _ _ c.in_ok-asks.ensures c.as_slice.ensures.value in
    λ state h. MatchOption-at_none _ _ c.in-None.is c.in_ok-demands_of.ensures (has state) (subst (AnswersEach (has state)) (sym asks_are)
    (fitting-answers c.args.spec.now c.spec_is_fit.ensures.fit c.args.models.now.universe c.args.action c.args.args.now c.args.values.now (sorts_of_vars c.args.clause.now.vars) c.args.literal.now c.args.wanted
    (c.spec_is_fit.ensures.fit.literals c.requires.declared.place c.requires.literal.place c.args.clause.now c.args.literal.now c.requires.declared.there c.requires.literal.there)
    c.requires.values c.requires.args state h))

pub first-requires-clause-facts : goal.first-requires-clause-facts
first-requires-clause-facts c =
    let asks_are = asks-are c.args.models.now.spec c.args.spec.now c.requires.spec c.args.models.now.universe _ c.facts.ensures _ _ _ _ _ c.in_ok-asks.ensures c.as_slice.ensures.value in
    let gathered = MatchOption-at_some _ _ _ c.in-Some.is c.in_ok-demands_of.ensures in
    subst (λ (x : Specification). AreFacts x c.args.models.now.universe c.as_slice-in-Some.result.now) (sym c.requires.spec)
    (subst (λ (d : List Demand). AreFacts c.args.spec.now c.args.models.now.universe d) (sym c.as_slice-in-Some.ensures)
    (gathered.facts c.args.spec.now c.args.models.now.universe (subst (AreOfFacts c.args.spec.now c.args.models.now.universe) (sym asks_are)
    (of-facts c.args.spec.now c.spec_is_fit.ensures.fit c.args.models.now.universe c.args.action c.args.args.now c.args.values.now (sorts_of_vars c.args.clause.now.vars) c.args.literal.now c.args.wanted
    (c.spec_is_fit.ensures.fit.literals c.requires.declared.place c.requires.literal.place c.args.clause.now c.args.literal.now c.requires.declared.there c.requires.literal.there)
    c.requires.values c.requires.args c.requires.universe))))

pub returns : goal.returns
returns c =
    let asks_are = asks-are c.args.models.now.spec c.args.spec.now c.requires.spec c.args.models.now.universe _ c.facts.ensures _ _ _ _ _ c.in_ok-asks.ensures c.as_slice.ensures.value in
    let gathered = MatchOption-at_some _ _ _ c.in-Some.is c.in_ok-demands_of.ensures in
    first-answer c.args.models.now.spec c.args.spec.now c.requires.spec c.spec_is_fit.ensures.fit c.args.models.now.universe c.args.action c.args.args.now c.args.values.now (sorts_of_vars c.args.clause.now.vars) c.args.literal.now c.args.wanted
    (c.spec_is_fit.ensures.fit.literals c.requires.declared.place c.requires.literal.place c.args.clause.now c.args.literal.now c.requires.declared.there c.requires.literal.there)
    c.requires.values c.requires.args c.in-Some.demands c.as_slice-in-Some.result.now c.as_slice-in-Some.ensures (subst (λ (a : List Asked). IsGathered a c.in-Some.demands) asks_are gathered) c.args.clause.now.literals c.first.result c.first.ensures
