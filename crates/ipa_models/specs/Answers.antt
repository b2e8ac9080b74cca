-- The state that an assignment stands for.
--
--   StandsFor facts a state   the state's facts are those of the list that the assignment makes true
use Rattle.std.specs.Prelude.{Bool, List}
use Rattle.ipa_logic.specs.Facts.{IsStateOf}
use Rattle.ipa_logic.specs.declared.facts.Fact.{Fact}
use Rattle.ipa_ground.specs.Grounding.{test_of}

-- the state's facts are those of the list that the assignment makes true
abbrev pub StandsFor : List Fact → List Bool → List Fact → Type 0
StandsFor facts a state = IsStateOf (test_of 6 a facts) state
