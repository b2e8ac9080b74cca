use Rattle.std.proofs.Common.{◌≡◌, true, sym, ◌∙◌, subst}
use Rattle.std.proofs.lemmas.Option.{same_Some}
use Rattle.ipa_spec.specs.declared.clauses.Clause.{Clause}
use Rattle.ipa_logic.specs.Conflicts.{is_live}
use Rattle.ipa_logic.specs.TouchLaws.{Conflict-live}
use Rattle.ipa_reduction.proofs.laws.conflicts_are_live.Goals as goal

pub returns : goal.returns
returns c = λ s left right k clause g h.
    subst (λ (d : Clause). is_live s left right d ≡ true) (same_Some h.clause clause (sym h.declared ∙ g)) (Conflict-live s left right k h)
