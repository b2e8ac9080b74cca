use Rattle.std.proofs.Common.{List, ◌+◌, take, sym, ◌∙◌, subst}
use Rattle.std.proofs.lemmas.List.{take_more, take_all}
use Rattle.ipa_spec.specs.declared.specification.Specification.{Specification}
use Rattle.ipa_logic.specs.Facts.{IsStateOf}
use Rattle.ipa_logic.specs.declared.facts.Fact.{Fact}
use Rattle.ipa_history.specs.Values.{value_of}
use Rattle.ipa_history.specs.Histories.{IsHistory}
use Rattle.ipa_history.specs.declared.history.Tx.{Tx}
use Rattle.ipa_sets.specs.FactSets.{true_facts, IsFactsOf}
use Rattle.ipa_sets.specs.FactSetLaws.{facts-state}
use Rattle.ipa_world.proofs.EndLemmas.{no_tx, history-take, if_ok}
use Rattle.ipa_world.proofs.ending.last_facts.Goals as goal

pub loop-tx-preserved : goal.loop-tx-preserved
loop-tx-preserved c =
    let more = take_more c.args.entries.now c.loop-tx.tx-index no_tx c.loop-tx-test.true in
    subst (λ (xs : List Tx). IsFactsOf c.spec-spec.result.now c.args.setting.now.base xs c.take.new.self) (sym more)
    (c.in_ok-take.ensures.taken c.args.setting.now.base (take c.loop-tx.tx-index c.args.entries.now) c.loop-tx.invariant
    (subst (λ (xs : List Tx). IsHistory xs) more (history-take (c.loop-tx.tx-index + 1) c.args.entries.now c.requires)))

pub returns : goal.returns
returns c =
    let same = c.spec-spec.ensures.spec ∙ c.accepted.ensures.spec in
    let whole : IsFactsOf c.spec-spec.result.now c.args.setting.now.base c.args.entries.now c.loop-tx.facts =
    subst (λ (xs : List Tx). IsFactsOf c.spec-spec.result.now c.args.setting.now.base xs c.loop-tx.facts)
    (take_all c.loop-tx.tx-index c.args.entries.now c.loop-tx-test.false) c.loop-tx.invariant in
    let state = subst (λ (s : Specification). IsStateOf (value_of s c.args.setting.now.base c.args.entries.now)
    (true_facts c.loop-tx.facts)) same
    (facts-state c.spec-spec.result.now c.args.setting.now.base c.args.entries.now c.loop-tx.facts whole) in
    if_ok c.state.result c.state.ensures
    (λ x is. subst (λ (y : List Fact). IsStateOf (value_of c.args.setting.now.spec c.args.setting.now.base
    c.args.entries.now) y) (sym is) state)
