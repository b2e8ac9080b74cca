use Rattle.std.proofs.Common.{◌≡◌, ◌++◌, take}
use Rattle.std.specs.List.{flat_map}
use Rattle.ipa_forms.specs.Layout.{text_of}
use Rattle.ipa_canonical.specs.Canonical.{clause_form}
use Rattle.ipa_canonical.proofs.canonical.write_clauses.Given as goal

abbrev pub invariant-loop-clause : goal.invariant-loop-clause
invariant-loop-clause l = l.page ≡ l.initial.page ++ flat_map (λ x. text_of (clause_form l.spec x)) (take l.clause-index l.clauses)
