use Rattle.std.proofs.Common.{sym, ◌∙◌, subst, List}
use Rattle.ipa_history.specs.Histories.{is_before}
use Rattle.ipa_history.specs.EffectLaws.{Order}
use Rattle.ipa_history.specs.declared.history.Tx.{Tx}
use Rattle.ipa_history.proofs.states.state_at_plain.Goals as goal

pub state_of-requires : goal.state_of-requires
state_of-requires c = subst (λ (ms : List Tx). Order is_before ms)
    (sym (c.as_slice.ensures.value ∙ c.in_ok-members.ensures.members)) c.in_ok-members.ensures.order
