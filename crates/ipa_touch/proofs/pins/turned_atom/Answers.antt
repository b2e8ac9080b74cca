use Rattle.std.proofs.Common.{sym, ap, ◌∙◌}
use Rattle.ipa_spec.specs.declared.clauses.Literal.{Literal}
use Rattle.ipa_logic.specs.Truth.{fact_of}
use Rattle.ipa_touch.specs.Turns.{turns}
use Rattle.ipa_touch.proofs.PinLemmas.{gives-matches}
use Rattle.ipa_touch.proofs.pins.turned_atom.Goals as goal

pub returns-then-effect-2 : goal.returns-then-effect-2
returns-then-effect-2 c s args v h = gives-matches s args c.args.effect.now (fact_of s v c.in-Fails.atom)
    (sym (ap (λ (l : Literal). turns s args v l c.args.effect.now) c.in-Fails.is) ∙ h)
