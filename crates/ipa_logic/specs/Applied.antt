-- The state after an action, made of the state before.
--
--   given_facts s action args      the facts that the action's adds give, in the order of its effects
--   with_all fs state              these facts and the others, each put in its place
--   kept_facts s action args state   the facts that the action does not remove
--   applied s action args state    the true facts after the action, in order, where the state has those before
--
-- That it is the state after the action, and the only one, is shown in AppliedLaws.
use Rattle.std.specs.Prelude.{ℕ, not, List, [], ◌∷◌, filter, map}
use Rattle.std.specs.BTreeSet.{insert_key}
use Rattle.ipa_spec.specs.Actions.{effects_of}
use Rattle.ipa_spec.specs.declared.specification.Specification.{Specification}
use Rattle.ipa_spec.specs.declared.operations.Action.{Action}
use Rattle.ipa_spec.specs.declared.operations.Effect.{Effect}
use Rattle.ipa_logic.specs.Facts.{fact_cmp}
use Rattle.ipa_logic.specs.Touches.{fact_given, removes}
use Rattle.ipa_logic.specs.declared.facts.Fact.{Fact}

-- the facts that the adds among some effects give, in their order
abbrev pub facts_given : Specification → List Effect → List ℕ → List Fact
facts_given s effects args = map (fact_given s args) (filter (λ e. e.add) effects)

-- the facts that the action's adds give, in the order of its effects
abbrev pub given_facts : Specification → Action → List ℕ → List Fact
given_facts s action args = facts_given s (effects_of s action) args

-- these facts and the others, each put in its place
abbrev pub with_all : List Fact → List Fact → List Fact
with_all [] state = state
with_all (f ∷ fs) state = insert_key fact_cmp (with_all fs state) f

-- the facts that the action does not remove
abbrev pub kept_facts : Specification → Action → List ℕ → List Fact → List Fact
kept_facts s action args state = filter (λ f. not (removes s action args f)) state

-- the true facts after the action, in order, where the state has those before
abbrev pub applied : Specification → Action → List ℕ → List Fact → List Fact
applied s action args state = with_all (given_facts s action args) (with_all (kept_facts s action args state) [])
