use Rattle.std.proofs.Common.{◌≡◌, ◌<◌, true, length, sym, ◌∙◌}
use Rattle.std.proofs.lemmas.Bool.{false≢true}
use Rattle.ipa_logic.specs.Facts.{IsStateOf}
use Rattle.ipa_logic.specs.declared.facts.Fact.{Fact}
use Rattle.ipa_history.specs.Values.{value_of}
use Rattle.ipa_sets.specs.AtCuts.{facts_of}
use Rattle.ipa_audit.proofs.FinalLemmas.{state_all, declared_all, final_is, final_true, final_in}
use Rattle.ipa_audit.proofs.finals.is_final.Goals as goal

pub returns-then-not-branch : goal.returns-then-not-branch
returns-then-not-branch c =
    let s = c.args.spec.now in
    let base = c.args.base.now in
    let h = c.args.index.now.entries in
    let n = length s.predicates in
    let state : IsStateOf (value_of s base h) (facts_of c.at-view.result) =
    state_all s c.spec_is_fit.ensures.fit c.args._universe.now.sizes base h c.requires.legal c.clock.result
    (c.clock.ensures s c.requires.indexed) (facts_of c.at-view.result)
    (c.at-view.ensures.state s c.requires.indexed) in
    let declared : (f : Fact) → value_of s base h f ≡ true → f.predicate < n =
    declared_all s c.spec_is_fit.ensures.fit c.args._universe.now.sizes base h c.requires.legal in (
      λ x. absurd (false≢true x),
      λ is. sym c.if-not-branch.true ∙ c.in_ok-are_true.ensures.1
          (final_true n (value_of s base h) (facts_of c.at-view.result) c.args.last.now state declared is),
    )

pub returns : goal.returns
returns c =
    let s = c.args.spec.now in
    let base = c.args.base.now in
    let h = c.args.index.now.entries in
    let n = length s.predicates in
    let state : IsStateOf (value_of s base h) (facts_of c.at-view.result) =
    state_all s c.spec_is_fit.ensures.fit c.args._universe.now.sizes base h c.requires.legal c.clock.result
    (c.clock.ensures s c.requires.indexed) (facts_of c.at-view.result)
    (c.at-view.ensures.state s c.requires.indexed) in
    let declared : (f : Fact) → value_of s base h f ≡ true → f.predicate < n =
    declared_all s c.spec_is_fit.ensures.fit c.args._universe.now.sizes base h c.requires.legal in (
      λ x. final_is n (value_of s base h) (facts_of c.at-view.result) c.args.last.now state declared
          c.stands_in_order.ensures (c.in_ok-are_true.ensures.0 c.if-not-branch.false) (c.are_all_in.ensures.0 x),
      λ is. c.are_all_in.ensures.1
          (final_in n (value_of s base h) (facts_of c.at-view.result) c.args.last.now state declared is),
    )
