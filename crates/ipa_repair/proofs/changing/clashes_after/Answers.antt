use Rattle.std.proofs.Common.{subst}
use Rattle.ipa_spec.specs.declared.specification.Specification.{Specification}
use Rattle.ipa_pairs.specs.Width.{IsNarrow, IsDeclared}
use Rattle.ipa_repair.proofs.changing.clashes_after.Goals as goal

pub returns-then-not-is_narrow : goal.returns-then-not-is_narrow
returns-then-not-is_narrow c = subst (λ (x : Specification). IsNarrow x (IsDeclared x) → ⊥) c.new-search.ensures c.if-not-is_narrow.ensures

pub returns : goal.returns
returns c = (subst (λ (x : Specification). IsNarrow x (IsDeclared x)) c.new-search.ensures c.if-not-is_narrow.ensures, c.in_ok-after.ensures)
