-- The greedy repair of a specification.
--
--   action_at s place          the action in a place: operations first and then drops, each in declared order
--   pairs_of s                 the pairs of actions, first not after second, by the first and then the second
--   PairConflicts s p          the two actions conflict on some clause, in some order
--   AreConflicting s ps        the pairs that do, in order
--   Lessens s parts            afterwards no live triple is too wide, and fewer pairs conflict
--   LessensNothing s p         no offer of the pair does that
--   TakesOffer s step next     of the step's pair the first offer that does is applied
--   IsStep s step next         of the first pair that has such an offer
--   Reaches s steps end        some steps lead from the one specification to the other
--   IsAtEnd s                  no pair has such an offer
--   IsRepaired s r             the steps from s to the end, and how it ends
use Rattle.std.specs.Prelude.{◌≡◌, ℕ, ◌-◌, ◌<◌, suc, nat_lt, nat_le, List, [], ◌∷◌, length, slice_get, Some, if◌then◌else◌, ◌+◌}
use Rattle.std.specs.List.{All, flat_map}
use Rattle.ipa_spec.specs.declared.specification.Specification.{Specification}
use Rattle.ipa_spec.specs.declared.operations.Action.{Action}
use Rattle.ipa_spec.specs.declared.operations.Action.TheVariants.{Op, Drop}
use Rattle.ipa_logic.specs.Acceptance.{IsAccepted}
use Rattle.ipa_ground.specs.Enumeration.{numbers}
use Rattle.ipa_pairs.specs.Width.{IsNarrow, IsDeclared}
use Rattle.ipa_pairs.specs.Analyses.{IsRejected}
use Rattle.ipa_pairs.specs.declared.analysis.Analysis.{Analysis}
use Rattle.ipa_repair.specs.Chosen.{AreThose}
use Rattle.ipa_repair.specs.Applying.{applied}
use Rattle.ipa_repair.specs.Candidates.{Clashes}
use Rattle.ipa_repair.specs.Offers.{AreOffers}
use Rattle.ipa_repair.specs.declared.candidates.Candidate.{Candidate}
use Rattle.ipa_repair.specs.declared.candidates.Offer.{Offer}
use Rattle.ipa_repair.specs.declared.pairs.Pair.{Pair}
use Rattle.ipa_repair.specs.declared.steps.RepairStep.{RepairStep}
use Rattle.ipa_repair.specs.declared.steps.Repaired.{Repaired}
use Rattle.ipa_repair.specs.declared.steps.Repaired.TheVariants.{Done, Stuck}

-- how many actions there are
abbrev pub action_count : Specification → ℕ
action_count s = length s.operations + length s.bounds

-- the action in a place among all: operations first and then drops, each in declared order
abbrev pub action_at : Specification → ℕ → Action
action_at s place = if nat_lt place (length s.operations) then Op place else Drop (place - length s.operations)

-- the pair of two actions
abbrev pub pair : Action → Action → Pair
pair left right = record { left = left; right = right }

-- the pair of the actions in two places, where the first is not after the second
abbrev pub pair_if : Specification → ℕ → ℕ → List Pair
pair_if s i j = if nat_le i j then pair (action_at s i) (action_at s j) ∷ [] else []

-- the pairs with this action first, in the order of the second
abbrev pub pairs_from : Specification → ℕ → List Pair
pairs_from s i = flat_map (pair_if s i) (numbers (action_count s))

-- the pairs of actions, the first not after the second, ordered by the first and then the second
abbrev pub pairs_of : Specification → List Pair
pairs_of s = flat_map (pairs_from s) (numbers (action_count s))

-- the two actions conflict on some clause, in some order
pub record PairConflicts (s : Specification) (p : Pair) : Type 0 where
  pub clause : ℕ
  pub clashes : Clashes s p.left p.right clause

-- the pairs that conflict, in order
abbrev pub AreConflicting : Specification → List Pair → Type 0
AreConflicting s ps = AreThose (PairConflicts s) (pairs_of s) ps

-- after these candidates no live triple is too wide, and fewer pairs conflict
pub record Lessens (s : Specification) (parts : List Candidate) : Type 0 where
  pub narrow : IsNarrow (applied s parts) (IsDeclared (applied s parts))
  pub before : List Pair
  pub are_before : AreConflicting s before
  pub after : List Pair
  pub are_after : AreConflicting (applied s parts) after
  pub fewer : length after < length before

-- no offer of the pair lessens the number of conflicting pairs
pub record LessensNothing (s : Specification) (p : Pair) : Type 0 where
  pub offers : List Offer
  pub are : AreOffers s p.left p.right offers
  pub none : All (λ o. Lessens s o.parts → ⊥) offers

-- the step holds all offers of its pair, and the first of them that lessens the number of conflicting pairs is applied,
-- which is named by its place, counted from 1
pub record TakesOffer (s : Specification) (step : RepairStep) (next : Specification) : Type 0 where
  pub are : AreOffers s step.left step.right step.offers
  pub earlier : ℕ
  pub counted : step.applied ≡ suc earlier
  pub offer : Offer
  pub there : slice_get step.offers earlier ≡ Some offer
  pub lessens : Lessens s offer.parts
  pub first : (n : ℕ) (o : Offer) → n < earlier → slice_get step.offers n ≡ Some o → Lessens s o.parts → ⊥
  pub leads : next ≡ applied s offer.parts

-- the step is of the first conflicting pair that has such an offer
pub record IsStep (s : Specification) (step : RepairStep) (next : Specification) : Type 0 where
  pub conflicting : List Pair
  pub are : AreConflicting s conflicting
  pub earlier : ℕ
  pub there : slice_get conflicting earlier ≡ Some (pair step.left step.right)
  pub first : (n : ℕ) (p : Pair) → n < earlier → slice_get conflicting n ≡ Some p → LessensNothing s p
  pub takes : TakesOffer s step next

-- a step, and what follows it
pub record StepThen (s : Specification) (step : RepairStep) (Onwards : Specification → Type 0) : Type 0 where
  pub next : Specification
  pub step_is : IsStep s step next
  pub onwards : Onwards next

-- the steps lead from the one specification to the other, one after the other
unfoldable pub Leads : List RepairStep → Specification → Specification → Type 0
Leads [] end s = s ≡ end
Leads (step ∷ steps) end s = StepThen s step (Leads steps end)

pub record Reaches (s : Specification) (steps : List RepairStep) (end : Specification) : Type 0 where
  pub leads : Leads steps end s

-- no conflicting pair has an offer that lessens their number
pub record IsAtEnd (s : Specification) : Type 0 where
  pub conflicting : List Pair
  pub are : AreConflicting s conflicting
  pub none : All (LessensNothing s) conflicting

-- the greedy rule ends in an accepted specification
pub record IsDone (s accepted : Specification) (steps : List RepairStep) : Type 0 where
  pub reached : Reaches s steps accepted
  pub is_accepted : IsAccepted accepted

-- the greedy rule ends with a conflict, or with no conflict and a drop that is not safe
pub record IsStuck (s end : Specification) (steps : List RepairStep) (analysis : Analysis) : Type 0 where
  pub reached : Reaches s steps end
  pub at_end : IsAtEnd end
  pub rejected : IsRejected end analysis

-- the steps of the greedy repair, and how it ends
abbrev pub IsRepaired : Specification → Repaired → Type 0
IsRepaired s (Done accepted steps) = IsDone s accepted steps
IsRepaired s (Stuck end steps analysis) = IsStuck s end steps analysis
