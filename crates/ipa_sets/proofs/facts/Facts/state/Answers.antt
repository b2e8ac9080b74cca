use Rattle.std.proofs.Common.{◌≡◌, ◌&&◌, ◌||◌, ◌∙◌, ap, List}
use Rattle.ipa_logic.specs.Facts.{has}
use Rattle.ipa_logic.specs.declared.facts.Fact.{Fact}
use Rattle.ipa_sets.specs.FactSets.{truth_of}
use Rattle.ipa_sets.proofs.ListingLemmas.{state-listed}
use Rattle.ipa_sets.proofs.facts.Facts.state.Goals as goal

pub returns : goal.returns
returns c =
    let v = c.args.self.now in
    let base : c.as_slice.result.now ≡ v.base = c.as_slice.ensures.value ∙ c.in_ok-to_vec.ensures in
    state-listed (truth_of v) v.base v.known.facts.items c.insert_passing.new.state c.insert_passing-2.new.state
    c.stands_in_order.ensures v.known.rising c.insert_passing-2.ensures.rising
    (λ f. c.in_ok-insert_passing.ensures.facts f ∙ (λ i. (has (base i) f && truth_of v f) || has (c.new-state.ensures i) f))
    (λ f. c.in_ok-insert_passing-2.ensures.facts f
    ∙ ap (λ (xs : List Fact). (has xs f && truth_of v f) || has c.insert_passing.new.state f) c.as_slice-2.ensures)
