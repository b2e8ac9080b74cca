use Rattle.std.proofs.Common.{Bool, List, cond, Some, None, slice_get, sym, ◌∙◌, ap}
use Rattle.ipa_logic.specs.declared.facts.Fact.{Fact}
use Rattle.ipa_sets.specs.Places.{is_at}
use Rattle.ipa_sets.proofs.PlaceLemmas.{has-split}
use Rattle.ipa_sets.proofs.TruthLemmas.{told-at}
use Rattle.ipa_sets.proofs.known.Known.truth.Goals as goal

pub returns-then-is_at : goal.returns-then-is_at
returns-then-is_at c t told =
    let has_it = has-split c.args.fact.now c.args.self.now.facts.items c.as_slice-facts.result.now c.place_of-place.result
    c.as_slice-facts.ensures.value c.args.self.now.rising c.place_of-place.ensures c.is_at.result c.is_at.ensures in
    let at = told-at t c.args.self.now.facts.items c.args.self.now.truths.items c.place_of-place.result c.args.fact.now told
    (ap (λ (xs : List Fact). is_at xs c.place_of-place.result c.args.fact.now) (sym c.as_slice-facts.ensures.value)
    ∙ (sym c.is_at.ensures ∙ c.if-is_at.true)) in
    c.truth_at.ensures ∙ (ap (λ (bs : List Bool). slice_get bs c.place_of-place.result) c.as_slice.ensures.value
    ∙ (at ∙ sym (ap (λ (b : Bool). cond b (Some (t c.args.fact.now)) None) (sym has_it ∙ c.if-is_at.true))))

pub returns-else-is_at : goal.returns-else-is_at
returns-else-is_at c t told =
    let has_it = has-split c.args.fact.now c.args.self.now.facts.items c.as_slice-facts.result.now c.place_of-place.result
    c.as_slice-facts.ensures.value c.args.self.now.rising c.place_of-place.ensures c.is_at.result c.is_at.ensures in
    sym (ap (λ (b : Bool). cond b (Some (t c.args.fact.now)) None) (sym has_it ∙ c.if-is_at.false))
