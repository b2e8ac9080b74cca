use Rattle.std.proofs.Common.{◌≡◌, ◌||◌, true, false, refl, sym, ◌∙◌}
use Rattle.std.proofs.lemmas.Bool.{or_left, or_right}
use Rattle.ipa_logic.specs.Facts.{has}
use Rattle.ipa_sets.specs.FactSets.{truth_of}
use Rattle.ipa_sets.specs.FactSetLaws.{told-of}
use Rattle.ipa_sets.specs.Listings.{rising-listed}
use Rattle.ipa_sets.proofs.ListingLemmas.{listed-not, listed-passes}
use Rattle.ipa_sets.proofs.TruthLemmas.{told-known, told-unknown}
use Rattle.ipa_sets.proofs.facts.FactsView.holds.Goals as goal

pub returns-in-Some-clause-value : goal.returns-in-Some-clause-value
returns-in-Some-clause-value c =
    let v = c.args.self.now in
    let known = told-known (has v.known.facts.items c.args.fact.now) c.in-Some.truth (truth_of v c.args.fact.now)
    (c.in-Some.ensures (truth_of v) (told-of v)) in
    listed-passes (truth_of v) v.base v.known.facts.items c.args.fact.now true
    (sym (or_right (has v.base c.args.fact.now) (has v.known.facts.items c.args.fact.now) known.0)) refl c.in-Some.truth known.1

pub returns-in-Some-clause-rising : goal.returns-in-Some-clause-rising
returns-in-Some-clause-rising c = let v = c.args.self.now in
    rising-listed (truth_of v) v.base v.known.facts.items v.rising v.known.rising

pub returns-then-holds-clause-value : goal.returns-then-holds-clause-value
returns-then-holds-clause-value c = let v = c.args.self.now in
    listed-passes (truth_of v) v.base v.known.facts.items c.args.fact.now true
    (sym (or_left (has v.base c.args.fact.now) (has v.known.facts.items c.args.fact.now) (sym c.holds.ensures.value ∙ c.if-holds.true))) refl
    c.is_true_by_rows.result c.is_true_by_rows.ensures

pub returns-then-holds-clause-rising : goal.returns-then-holds-clause-rising
returns-then-holds-clause-rising c = let v = c.args.self.now in
    rising-listed (truth_of v) v.base v.known.facts.items v.rising v.known.rising

pub returns-else-holds-clause-value : goal.returns-else-holds-clause-value
returns-else-holds-clause-value c =
    let v = c.args.self.now in
    let base : has v.base c.args.fact.now ≡ false = sym c.holds.ensures.value ∙ c.if-holds.false in
    let known = told-unknown (has v.known.facts.items c.args.fact.now) (truth_of v c.args.fact.now)
    (c.in-None.ensures (truth_of v) (told-of v)) in
    c.if-holds.false ∙ listed-not (truth_of v) v.base v.known.facts.items c.args.fact.now false
    (λ i. sym base i || sym known i) refl

pub returns-else-holds-clause-rising : goal.returns-else-holds-clause-rising
returns-else-holds-clause-rising c = let v = c.args.self.now in
    rising-listed (truth_of v) v.base v.known.facts.items v.rising v.known.rising
