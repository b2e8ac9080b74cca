-- The first example on a pattern, from the literals that were gone through.
--
--   closed-case          a case that is not open is no conflict
--   passed-more          one literal more that cannot be lost
--   passed-all           where no literal can be lost, there is no conflict
--   first-example        the first literal that can be lost gives the first example
use Rattle.std.proofs.Common.{◌≡◌, ◌↔◌, ℕ, ◌+◌, ◌<◌, ◌≤◌, Bool, true, false, List, length, Some, refl, sym, ◌∙◌, subst, arith, inl, inr, slice_get}
use Rattle.std.proofs.lemmas.Bool.{false≢true, cases_lt}
use Rattle.std.proofs.lemmas.Option.{same_Some, slice_get_within}
use Rattle.ipa_spec.specs.declared.specification.Specification.{Specification}
use Rattle.ipa_spec.specs.declared.clauses.Clause.{Clause}
use Rattle.ipa_spec.specs.declared.clauses.Literal.{Literal}
use Rattle.ipa_spec.specs.declared.operations.Action.{Action}
use Rattle.ipa_logic.specs.declared.facts.Fact.{Fact}
use Rattle.ipa_reduction.specs.Cases.{ConflictOn}
use Rattle.ipa_pairs.specs.Examples.{IsFirstExampleOn, hidden_facts}
use Rattle.ipa_pairs.specs.Openness.{case_of, IsOverCase, IsOpen, HasNoStates, AreFirstStates}
use Rattle.ipa_pairs.specs.declared.analysis.Conflict.{Conflict as Example}
use Rattle.ipa_pairs.specs.declared.cases.Case.{Case}
use Rattle.ipa_pairs.specs.declared.cases.States.{States}
use Rattle.ipa_pairs.proofs.LossLemmas.{open-from, loss-from, conflict-from}

-- none of the literals before this one can be lost
abbrev pub ArePassed : Specification → Case → List Literal → ℕ → Type 0
ArePassed s case literals n = (k : ℕ) (m : Literal) → k < n → slice_get literals k ≡ Some m → HasNoStates s case m

-- one literal more that cannot be lost
pub passed-more : (s : Specification) (case : Case) (literals : List Literal) (n : ℕ) (x : Literal) → ArePassed s case literals n → slice_get literals n ≡ Some x → HasNoStates s case x → ArePassed s case literals (n + 1)
passed-more s case literals n x passed at none k m l e = elim (cases_lt k n) [
  | inl before ↦ passed k m before e
  | inr here ↦ (
      let same : k ≡ n = omega arith in
      subst (HasNoStates s case) (same_Some x m (sym at ∙ subst (λ (j : ℕ). slice_get literals j ≡ Some m) same e)) none)
]

-- the example of a case, with these states
abbrev pub example_of : Action → Action → ℕ → Case → ℕ → List Fact → List Fact → List Fact → Example
example_of left right number case place after_left after_right hidden = record {
  left = left;
  right = right;
  clause = number;
  universe = case.universe;
  left_args = case.left_args;
  right_args = case.right_args;
  values = case.values;
  after_left = after_left;
  after_right = after_right;
  lost = place;
  hidden = hidden;
}

module _ (s : Specification) (left right : Action) (c : Clause) (classes : List ℕ) where
  abbrev here : Case
  here = case_of s left right c classes

  -- a case that is not open is no conflict
  pub closed-case : (case : Case) (literals : List Literal) (is : Bool) → case ≡ here → literals ≡ c.literals → ((is ≡ true) ↔ IsOpen s case literals) → is ≡ false → ConflictOn s left right c classes → ⊥
  closed-case case literals is case_is literals_is tested closed h =
      let opened : IsOpen s here c.literals = open-from s c here h.place h.after_left h.after_right h.conflict in
      let found : is ≡ true = tested.1 (subst (λ (k : Case). IsOpen s k literals) (sym case_is) (subst (λ (ls : List Literal). IsOpen s here ls) (sym literals_is) opened)) in
      false≢true (sym closed ∙ found)

  -- where no literal can be lost, there is no conflict
  pub passed-all : (case : Case) (n : ℕ) → case ≡ here → ArePassed s case c.literals n → length c.literals ≤ n → ConflictOn s left right c classes → ⊥
  passed-all case n case_is passed past h =
      let within : h.place < length c.literals = slice_get_within c.literals h.place h.conflict.lost h.conflict.lost_at in
      (subst (λ (k : Case). HasNoStates s k h.conflict.lost) case_is (passed h.place h.conflict.lost (omega arith) h.conflict.lost_at)).none h.after_left h.after_right
      (loss-from s c here h.place h.after_left h.after_right h.conflict.lost h.conflict.lost_at h.conflict)

  -- the first literal that can be lost gives the first example of the case
  first-here : (number place : ℕ) (m : Literal) → IsOverCase s c here → IsOpen s here c.literals → slice_get c.literals place ≡ Some m → ArePassed s here c.literals place → (states : States) → AreFirstStates s here c.literals m states
      → (hidden : List Fact) → hidden ≡ hidden_facts s left right here.left_args here.right_args here.values c.literals
      → IsFirstExampleOn s c classes (example_of left right number here place states.after_left states.after_right hidden)
  first-here number place m over opened at passed states first hidden hidden_is = record {
    example = record {
      universe = refl;
      left_args = refl;
      right_args = refl;
      values = refl;
      shows = conflict-from s c here place states.after_left states.after_right m at over opened (record { can_be_lost = first.can_be_lost; left = first.left.fits; right = first.right.fits });
      hidden = hidden_is;
    };
    first_lost = λ k l r before h. (passed k h.lost before h.lost_at).none l r (loss-from s c here k l r h.lost h.lost_at h);
    first_left = λ l h earlier. first.left.first l (loss-from s c here place l states.after_right m at h).left earlier;
    first_right = λ r h earlier. first.right.first r (loss-from s c here place states.after_left r m at h).right earlier;
  }

  pub first-example : (case : Case) → case ≡ here → (number place : ℕ) (m : Literal) → IsOverCase s c case → IsOpen s case c.literals → slice_get c.literals place ≡ Some m → ArePassed s case c.literals place
      → (states : States) → AreFirstStates s case c.literals m states → (hidden : List Fact) → hidden ≡ hidden_facts s case.left case.right case.left_args case.right_args case.values c.literals
      → IsFirstExampleOn s c classes (example_of left right number case place states.after_left states.after_right hidden)
  first-example case case_is = subst (λ (k : Case). (number place : ℕ) (m : Literal) → IsOverCase s c k → IsOpen s k c.literals → slice_get c.literals place ≡ Some m → ArePassed s k c.literals place
      → (states : States) → AreFirstStates s k c.literals m states → (hidden : List Fact) → hidden ≡ hidden_facts s k.left k.right k.left_args k.right_args k.values c.literals
      → IsFirstExampleOn s c classes (example_of left right number k place states.after_left states.after_right hidden)) (sym case_is) first-here
