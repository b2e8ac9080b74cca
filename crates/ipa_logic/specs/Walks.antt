-- Walks through the true facts of a predicate.
--
--   facts_after state p after   the true facts of predicate p above `after`, or all of them, in order
--   facts_from state p next     this fact, if there is one, and the true facts of predicate p above it
use Rattle.std.specs.Prelude.{ℕ, ◌&&◌, ◌==◌, List, [], ◌∷◌, filter, Option, Some, None}
use Rattle.ipa_logic.specs.Views.{is_above}
use Rattle.ipa_logic.specs.declared.facts.Fact.{Fact}

-- the true facts of predicate p above `after`, or all of them, in order
abbrev pub facts_after : List Fact → ℕ → Option Fact → List Fact
facts_after state p after = filter (λ f. (f.predicate == p) && is_above after f) state

-- this fact, if there is one, and the true facts of predicate p above it
abbrev pub facts_from : List Fact → ℕ → Option Fact → List Fact
facts_from state p None = []
facts_from state p (Some next) = next ∷ facts_after state p (Some next)
