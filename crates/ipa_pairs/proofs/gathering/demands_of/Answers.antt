use Rattle.std.proofs.Common.{◌+◌, List, [], ◌∷◌, ◌++◌, take, sym, ap, ◌∙◌, subst}
use Rattle.std.proofs.lemmas.List.{take_more}
use Rattle.ipa_pairs.specs.Asked.{IsGathered}
use Rattle.ipa_pairs.specs.declared.asking.Asked.{Asked}
use Rattle.ipa_pairs.proofs.GatherLemmas.{gathered-nothing, gathered-fact}
use Rattle.ipa_pairs.proofs.gathering.demands_of.Goals as goal
use Rattle.ipa_pairs.proofs.gathering.demands_of.Goals.{in-Nothing, in-OfFact+in_ok-push-in-OfFact}

pub loop-asked-preserved : goal.loop-asked-preserved
loop-asked-preserved c =
    let so_far = take c.loop-asked.asked-index c.args.asks.now in
    let more = take_more c.args.asks.now c.loop-asked.asked-index _ c.loop-asked-test.true in
    elim c.match-asked.branch [
      | in-Nothing w ↦ (
          let asks = more ∙ ap (λ (x : Asked). so_far ++ x ∷ []) w.in-Nothing.is in
          subst (IsGathered (take (c.loop-asked.asked-index + 1) c.args.asks.now)) (sym w.demands-is)
          (subst (λ (xs : List Asked). IsGathered xs c.loop-asked.demands) (sym asks) (gathered-nothing so_far c.loop-asked.demands c.loop-asked.invariant)))
      | in-OfFact+in_ok-push-in-OfFact w ↦ (
          let asks = more ∙ ap (λ (x : Asked). so_far ++ x ∷ []) w.in-OfFact.is in
          subst (IsGathered (take (c.loop-asked.asked-index + 1) c.args.asks.now)) (sym (w.demands-is ∙ w.in_ok-push-in-OfFact.ensures.ok))
          (subst (λ (xs : List Asked). IsGathered xs (c.loop-asked.demands ++ w.in-OfFact.demand ∷ [])) (sym asks) (gathered-fact so_far c.loop-asked.demands w.in-OfFact.demand c.loop-asked.invariant)))
    ]
