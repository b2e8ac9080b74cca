-- The facts of a predicate, place by place.
--
--   with_rest fact at rest         the fact with these elements from a place on
--   facts_with fact at sizes       the facts that go on from the place with an element below each size
--   facts_below fact at n sizes    those whose element in the place is below n
use Rattle.std.specs.Prelude.{ℕ, List, map}
use Rattle.ipa_logic.specs.declared.facts.Fact.{Fact}
use Rattle.ipa_ground.specs.Enumeration.{branches, tuples}
use Rattle.ipa_ground.specs.Instances.{filled}

-- the fact with these elements from a place on
abbrev pub with_rest : Fact → ℕ → List ℕ → Fact
with_rest fact at rest = record { predicate = fact.predicate; args = filled at fact.args rest }

-- the facts that go on from the place with an element below each size, in order
abbrev pub facts_with : Fact → ℕ → List ℕ → List Fact
facts_with fact at sizes = map (with_rest fact at) (tuples sizes)

-- the facts that go on with an element below n, and behind it with one below each size, in order
abbrev pub facts_below : Fact → ℕ → ℕ → List ℕ → List Fact
facts_below fact at n sizes = map (with_rest fact at) (branches n (λ _. tuples sizes))
