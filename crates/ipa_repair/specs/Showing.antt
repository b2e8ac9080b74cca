-- The triples in conflict, without their examples.
--
--   clash left right k           two actions, in this order, and a clause
--   IsClash s c                  they conflict
--   AreClashes s cs              the triples are those in conflict
--   is_of left right c           the triple is of these actions, in this order
--   is_on left right k c         and on this clause
--   clashes_of_pair, clashes_of_left, all_clashes   the triples of a pair, of a left action, and all, in order
--   AreJudged s next told        of each clause it is told whether its literals pass the test that they are judged the same
use Rattle.std.specs.Prelude.{◌≡◌, ℕ, Bool, ◌&&◌, ◌==◌, List, [], ◌∷◌, length, slice_get, Some}
use Rattle.std.specs.List.{list_all, flat_map}
use Rattle.ipa_spec.specs.declared.specification.Specification.{Specification}
use Rattle.ipa_spec.specs.declared.operations.Action.{Action}
use Rattle.ipa_logic.specs.Conflicts.{Conflict}
use Rattle.ipa_ground.specs.Enumeration.{numbers, IsListed}
use Rattle.ipa_pairs.specs.Told.{AreTold}
use Rattle.ipa_pairs.specs.declared.analysis.Conflict.{Conflict as Example}
use Rattle.ipa_repair.specs.Candidates.{same_action}
use Rattle.ipa_repair.specs.Greedy.{action_count, action_at}
use Rattle.ipa_repair.specs.Unchanged.{same_judgement}
use Rattle.ipa_repair.specs.declared.clashes.Clash.{Clash}

-- two actions, in this order, and a clause
abbrev pub clash : Action → Action → ℕ → Clash
clash left right k = record { left = left; right = right; clause = k }

-- the triple of an example
abbrev pub clash_of : Example → Clash
clash_of e = clash e.left e.right e.clause

-- the two actions conflict on the clause
abbrev pub IsClash : Specification → Clash → Type 0
IsClash s c = Conflict s c.left c.right c.clause

-- the triples are those in conflict
pub record AreClashes (s : Specification) (cs : List Clash) : Type 0 where
  pub each : (k : ℕ) (c : Clash) → slice_get cs k ≡ Some c → IsClash s c
  pub complete : (left right : Action) (k : ℕ) → Conflict s left right k → IsListed cs (clash left right k)

-- the triple is of these two actions, in this order
abbrev pub is_of : Action → Action → Clash → Bool
is_of left right c = same_action c.left left && same_action c.right right

-- and it is on this clause
abbrev pub is_on : Action → Action → ℕ → Clash → Bool
is_on left right k c = is_of left right c && (c.clause == k)

-- the triples of two actions, by clause
abbrev pub clashes_of_pair : Specification → Action → Action → List Clash
clashes_of_pair s left right = flat_map (λ k. clash left right k ∷ []) (numbers (length s.clauses))

-- the triples with this action on the left, by right and clause
abbrev pub clashes_of_left : Specification → Action → List Clash
clashes_of_left s left = flat_map (λ j. clashes_of_pair s left (action_at s j)) (numbers (action_count s))

-- all triples, by left, right and clause
abbrev pub all_clashes : Specification → List Clash
all_clashes s = flat_map (λ i. clashes_of_left s (action_at s i)) (numbers (action_count s))

-- of each clause, in its place, it is told whether its literals pass the test that they are judged the same
abbrev pub AreJudged : Specification → Specification → List Bool → Type 0
AreJudged s next told = AreTold s.clauses (λ c. list_all (same_judgement s next) c.literals) told
