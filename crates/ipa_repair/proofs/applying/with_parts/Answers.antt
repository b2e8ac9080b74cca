use Rattle.std.proofs.Common.{◌≡◌, MatchOption}
use Rattle.ipa_spec.specs.Limits.{IsFaultless}
use Rattle.ipa_spec.specs.declared.specification.Specification.{Specification}
use Rattle.ipa_repair.proofs.ApplyLemmas.{same_parts}
use Rattle.ipa_repair.proofs.applying.with_parts.Goals as goal

pub returns : goal.returns
returns c =
    same_parts (λ (p : Specification). MatchOption c.specified.result (IsFaultless p → ⊥) (λ next. (next ≡ p) × IsFaultless p))
    c.args.spec.now _ _ c.args.predicates _ c.args.operations _
    c.in_ok-sorts.ensures c.in_ok-constants.ensures c.in_ok-clauses.ensures c.in_ok-bounds.ensures c.specified.ensures
