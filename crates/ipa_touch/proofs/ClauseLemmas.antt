-- A clause that is kept before the action and not after it.
use Rattle.std.proofs.Common.{◌≡◌, ℕ, ◌≤◌, Bool, true, false, List, length, ◌∙◌, ap, Option, None, Some, take, slice_get}
use Rattle.std.proofs.lemmas.List.{take_all}
use Rattle.std.specs.Option.{MatchOption}
use Rattle.ipa_spec.specs.Actions.{sorts_of_vars}
use Rattle.ipa_spec.specs.declared.specification.Specification.{Specification}
use Rattle.ipa_spec.specs.declared.clauses.Literal.{Literal}
use Rattle.ipa_spec.specs.declared.clauses.Clause.{Clause}
use Rattle.ipa_spec.specs.declared.operations.Action.{Action}
use Rattle.ipa_logic.specs.Conflicts.{falsifies_some}
use Rattle.ipa_logic.specs.Facts.{Universe}
use Rattle.ipa_logic.specs.Touches.{plain_application}
use Rattle.ipa_logic.specs.Truth.{instance_true, IsValues, Keeps, KeepsClause}
use Rattle.ipa_logic.specs.declared.facts.Fact.{Fact}
use Rattle.ipa_touch.specs.Turns.{is_touched}
use Rattle.ipa_touch.specs.Searches.{Improves, IsFirstFailed}
use Rattle.ipa_touch.proofs.BestLemmas.{first-best}
use Rattle.ipa_touch.proofs.TouchLemmas.{literals-falsified, literals-touched}

module _ (s : Specification) (action : Action) (args : List ℕ) (t : Fact → Bool) (universe : Universe) (c : Clause) where
  -- the test of the instances of the clause after the action
  abbrev passes : List ℕ → Bool
  passes v = instance_true s (plain_application s action args t) v c

  -- an instance of a clause that was kept, and that is not true after the action, has a literal that the action makes false
  pub broken-falsified : KeepsClause s universe t c → (v : List ℕ) → IsValues universe c v → passes v ≡ false → falsifies_some s action args v c.literals ≡ true
  broken-falsified kept v over fails = literals-falsified s action args v t c.literals (kept.instances v over) fails

  -- the first values under which a clause that was kept is not true after the action are the best of those that are touched
  pub values-broken : (items : List Literal) (i : ℕ) (best : Option (List ℕ)) → items ≡ c.literals → length items ≤ i → KeepsClause s universe t c
      → Improves passes universe (sorts_of_vars c.vars) (λ v. is_touched s action args v (take i items)) None best
      → MatchOption best (KeepsClause s universe (plain_application s action args t) c) (IsFirstFailed passes universe (sorts_of_vars c.vars))
  values-broken items i best same all kept improves = as-kept best
      (first-best passes universe (sorts_of_vars c.vars) (λ v. is_touched s action args v (take i items)) best improves
      (λ v failed. ap (is_touched s action args v) (take_all i items all ∙ same)
      ∙ literals-touched s action args v c.literals (broken-falsified kept v failed.over failed.fails)))
    where
      as-kept : (best : Option (List ℕ)) → MatchOption best ((v : List ℕ) → IsValues universe c v → passes v ≡ true) (IsFirstFailed passes universe (sorts_of_vars c.vars))
          → MatchOption best (KeepsClause s universe (plain_application s action args t) c) (IsFirstFailed passes universe (sorts_of_vars c.vars))
      as-kept None h = record { instances = h }
      as-kept (Some r) h = h

-- touched instances suffice
pub instance-falsified : (s : Specification) (universe : Universe) (action : Action) (args values : List ℕ) (t : Fact → Bool) (k : ℕ) (c : Clause) →
    Keeps s universe t → slice_get s.clauses k ≡ Some c → IsValues universe c values →
    instance_true s (plain_application s action args t) values c ≡ false → falsifies_some s action args values c.literals ≡ true
instance-falsified s universe action args values t k c kept declared over fails =
    broken-falsified s action args t universe c (kept.clauses k c declared) values over fails
