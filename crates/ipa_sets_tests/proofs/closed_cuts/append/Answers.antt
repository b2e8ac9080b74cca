use Rattle.std.proofs.Common.{List, [], ◌∷◌, ◌++◌, refl, subst}
use Rattle.ipa_history.specs.Histories.{IsHistory}
use Rattle.ipa_history.specs.PushLaws.{IsHistory-push}
use Rattle.ipa_history.specs.declared.history.Tx.{Tx}
use Rattle.ipa_sets_tests.proofs.closed_cuts.append.Goals as goal

pub take-requires-clause-next : goal.take-requires-clause-next
take-requires-clause-next c =
    let follows = IsHistory-push c.history-seen.result.now c.as_slice-formed.ensures.formed c.args.tx.now (c.if-not-can_follow.ensures.0 refl) in
    subst (λ (h : List Tx). IsHistory (h ++ c.args.tx.now ∷ [])) c.history-seen.ensures follows
