use Rattle.std.proofs.Common.{List, [], ◌∷◌, ◌++◌, sym, ◌∙◌, ap, subst}
use Rattle.ipa_history.specs.Histories.{is_before}
use Rattle.ipa_history.specs.EffectLaws.{Order}
use Rattle.ipa_history.specs.NextLaws.{Order-push}
use Rattle.ipa_history.specs.declared.history.Tx.{Tx}
use Rattle.ipa_history.proofs.legality.states_around.Goals as goal

pub state_of-requires-2 : goal.state_of-requires-2
state_of-requires-2 c = subst (λ (ms : List Tx). Order is_before ms)
    (sym (c.as_slice-2.ensures.value ∙ (c.in_ok-push.ensures.items
    ∙ ap (λ (ms : List Tx). ms ++ c.args.tx.now ∷ []) c.in_ok-members.ensures.members)))
    (Order-push c.args.history.now c.args.tx.now (record { below = c.requires.closed.below; own = sym c.requires.next }) c.in_ok-members.ensures.order)
