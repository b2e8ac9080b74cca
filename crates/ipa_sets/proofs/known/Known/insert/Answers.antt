use Rattle.std.proofs.Common.{◌≡◌, ◌+◌, Bool, List, map, sym, ◌∙◌, ap}
use Rattle.std.specs.List.{insert}
use Rattle.std.proofs.lemmas.Bool.{false≢true}
use Rattle.ipa_logic.specs.Facts.{has}
use Rattle.ipa_logic.specs.declared.facts.Fact.{Fact}
use Rattle.ipa_sets.proofs.PlaceLemmas.{has-split, there-has, put-has}
use Rattle.ipa_sets.proofs.RowLemmas.{on-ok}
use Rattle.ipa_sets.proofs.TruthLemmas.{told-insert}
use Rattle.ipa_sets.proofs.known.Known.insert.Goals as goal

pub returns-then-is_at-clause-facts : goal.returns-then-is_at-clause-facts
returns-then-is_at-clause-facts g c = there-has c.args.fact c.args.self.now.facts.items c.as_slice-facts.result.now c.place_of-place.result
    c.as_slice-facts.ensures.value c.args.self.now.rising c.place_of-place.ensures c.is_at.result c.is_at.ensures c.if-is_at.true

pub returns-in_err-reserve-clause-ready : goal.returns-in_err-reserve-clause-ready
returns-in_err-reserve-clause-ready g c h = absurd (false≢true (sym c.if-is_at.false
    ∙ (has-split c.args.fact c.args.self.now.facts.items c.as_slice-facts.result.now c.place_of-place.result
    c.as_slice-facts.ensures.value c.args.self.now.rising c.place_of-place.ensures c.is_at.result c.is_at.ensures ∙ h)))

pub returns-clause-facts : goal.returns-clause-facts
returns-clause-facts g c = on-ok c.insert_at.result (λ f.
    ap (λ (xs : List Fact). has xs f)
    (c.insert_at.ensures.facts ∙ ap (λ (xs : List Fact). insert xs c.place_of-place.result c.args.fact) c.reserve.ensures.facts)
    ∙ put-has c.args.fact c.args.self.now.facts.items c.as_slice-facts.result.now c.place_of-place.result
    c.as_slice-facts.ensures.value c.args.self.now.rising c.place_of-place.ensures c.is_at.result c.is_at.ensures c.if-is_at.false f)

pub returns-clause-truths : goal.returns-clause-truths
returns-clause-truths g c told =
    let facts : c.insert_at.new.self.facts.items ≡ insert c.args.self.now.facts.items c.place_of-place.result c.args.fact
    = c.insert_at.ensures.facts ∙ ap (λ (xs : List Fact). insert xs c.place_of-place.result c.args.fact) c.reserve.ensures.facts in
    c.insert_at.ensures.truths
    ∙ (ap (λ (bs : List Bool). insert bs c.place_of-place.result c.passes.result) c.reserve.ensures.truths
    ∙ (ap (λ (b : Bool). insert c.args.self.now.truths.items c.place_of-place.result b) c.passes.ensures
    ∙ (told-insert (g.T.Test.passes c.args.test.now) c.args.self.now.facts.items c.args.self.now.truths.items c.place_of-place.result
    c.args.fact told ∙ sym (ap (map (g.T.Test.passes c.args.test.now)) facts))))

pub returns-clause-left : goal.returns-clause-left
returns-clause-left g c n h = c.insert_at.ensures.left n (c.reserve.ensures.kept (n + 1) h)
