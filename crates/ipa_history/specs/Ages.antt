-- How young a fact is where some transactions are known, and the drop that is due at a cut.
--
--   age_of_tx t         the size of a transaction, one more than its cut has members, and its origin
--   greater_age a b     the greater of two ages
--   no_age              the age of a fact that none touches
--   age_of s ms f       the greatest age among the maximal effects on the fact that are adds
--   age_at s h c f      the age at a cut of a history
--   IsDropAt s base h c n fact   the drop of bound n and this fact is due at a cut of a history
use Rattle.std.specs.Prelude.{ℕ, ◌+◌, List, filter, if◌then◌else◌}
use Rattle.std.specs.List.{fold, sum}
use Rattle.std.specs.Ordering.{is_lt}
use Rattle.ipa_clock.specs.declared.cut.Cut.{Cut}
use Rattle.ipa_spec.specs.declared.specification.Specification.{Specification}
use Rattle.ipa_logic.specs.Facts.{IsStateOf}
use Rattle.ipa_logic.specs.DueDrops.{age_cmp, IsDueDrop}
use Rattle.ipa_logic.specs.declared.facts.Age.{Age}
use Rattle.ipa_logic.specs.declared.facts.Fact.{Fact}
use Rattle.ipa_history.specs.Histories.{members_of}
use Rattle.ipa_history.specs.Values.{is_maximal_add, value_at}
use Rattle.ipa_history.specs.declared.history.Tx.{Tx}

-- the size of a transaction, which is one more than its cut has members, and its origin
abbrev pub age_of_tx : Tx → Age
age_of_tx t = record { size = sum t.cut.counts + 1; origin = t.dot.origin }

-- the greater of two ages, by size and then by origin
abbrev pub greater_age : Age → Age → Age
greater_age a b = if is_lt (age_cmp a b) then b else a

-- the age of a fact that no transaction touches
abbrev pub no_age : Age
no_age = record { size = 0; origin = 0 }

-- the greatest age among the transactions whose effect on the fact is maximal and an add
abbrev pub age_of : Specification → List Tx → Fact → Age
age_of s members f = fold (λ age t. greater_age age (age_of_tx t)) no_age (filter (is_maximal_add s members f) members)

-- the age at a cut of a history
abbrev pub age_at : Specification → List Tx → Cut → Fact → Age
age_at s h c f = age_of s (members_of h c) f

-- the drop of bound n and this fact is due at a cut of a history: in its state, where each true fact has its age
pub record IsDropAt (s : Specification) (base : List Fact) (h : List Tx) (c : Cut) (n : ℕ) (fact : Fact) : Type 0 where
  pub state : List Fact
  pub at : IsStateOf (value_at s base h c) state
  pub due : IsDueDrop s.bounds state (age_at s h c) n fact
