-- Literals that an action turns false.
--
--   holds_after s action args state f       the fact is true in the state after the action
--   passes_after s action args state c v    the instance of the clause with these values is true in it
--   turns s args v l e                      the effect turns the literal false: it takes the fact of a plain literal,
--                                           or gives that of a denied one
--   is_turned s action args v l             one of the action's effects does
--   is_touched s action args v literals     one of its effects turns one of the literals false
use Rattle.std.specs.Prelude.{ℕ, Bool, false, List}
use Rattle.std.specs.List.{list_any}
use Rattle.ipa_spec.specs.Actions.{effects_of}
use Rattle.ipa_spec.specs.declared.specification.Specification.{Specification}
use Rattle.ipa_spec.specs.declared.clauses.Literal.{Literal}
use Rattle.ipa_spec.specs.declared.clauses.Literal.TheVariants.{Holds, Fails, Same, Differ}
use Rattle.ipa_spec.specs.declared.clauses.Clause.{Clause}
use Rattle.ipa_spec.specs.declared.operations.Effect.{Effect}
use Rattle.ipa_spec.specs.declared.operations.Action.{Action}
use Rattle.ipa_logic.specs.Facts.{has}
use Rattle.ipa_logic.specs.Truth.{fact_of, instance_true}
use Rattle.ipa_logic.specs.Touches.{takes, gives, plain_application}
use Rattle.ipa_logic.specs.declared.facts.Fact.{Fact}

-- the fact is true in the state after the action
abbrev pub holds_after : Specification → Action → List ℕ → List Fact → Fact → Bool
holds_after s action args state = plain_application s action args (has state)

-- the instance of the clause with these values is true in the state after the action
abbrev pub passes_after : Specification → Action → List ℕ → List Fact → Clause → List ℕ → Bool
passes_after s action args state c values = instance_true s (holds_after s action args state) values c

-- the effect turns the literal false: it takes the fact of a plain literal, or gives that of a denied one
abbrev pub turns : Specification → List ℕ → List ℕ → Literal → Effect → Bool
turns s args values (Holds a) e = takes s args (fact_of s values a) e
turns s args values (Fails a) e = gives s args (fact_of s values a) e
turns s args values (Same v w) e = false
turns s args values (Differ v w) e = false

-- one of the action's effects turns the literal false
abbrev pub is_turned : Specification → Action → List ℕ → List ℕ → Literal → Bool
is_turned s action args values l = list_any (turns s args values l) (effects_of s action)

-- one of the action's effects turns one of the literals false
abbrev pub is_touched : Specification → Action → List ℕ → List ℕ → List Literal → Bool
is_touched s action args values literals = list_any (is_turned s action args values) literals
