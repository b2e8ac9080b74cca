-- What a request is answered at a cut.
--
--   next_operation s cut origin op args   the next transaction of the origin at the cut
--   is_shown predicate places f           the fact is of the predicate, and has the elements wanted in its places
--   shown_at s base h cut predicate places f   the fact is true at the cut and shown
--   IsAnswer s universe base h cut origin request answer   the answer of the request at the cut
use Rattle.std.specs.Prelude.{◌≡◌, ℕ, ◌+◌, Bool, ◌&&◌, List, length, Option}
use Rattle.ipa_clock.specs.declared.cut.Cut.{Cut}
use Rattle.ipa_clock.specs.Cut.{count_of}
use Rattle.ipa_spec.specs.Actions.{sorts_of}
use Rattle.ipa_spec.specs.declared.specification.Specification.{Specification}
use Rattle.ipa_spec.specs.declared.operations.Action.TheVariants.{Op}
use Rattle.ipa_logic.specs.Facts.{Universe, IsStateOf}
use Rattle.ipa_logic.specs.declared.facts.Fact.{Fact}
use Rattle.ipa_logic.specs.declared.facts.Request.{Request}
use Rattle.ipa_logic.specs.declared.facts.Request.TheVariants.{Do, Show}
use Rattle.ipa_matching.specs.Matches.{is_match}
use Rattle.ipa_history.specs.Values.{value_at}
use Rattle.ipa_history.specs.Legality.{IsLegal, IsIllegal}
use Rattle.ipa_history.specs.declared.history.Tx.{Tx}
use Rattle.ipa_history.specs.declared.answers.Answer.{Answer}
use Rattle.ipa_history.specs.declared.answers.Answer.TheVariants.{Commit, Refused, Shown}

-- the next transaction of the origin at the cut
abbrev pub next_operation : Specification → Cut → ℕ → ℕ → List ℕ → Tx
next_operation s cut origin op args = record {
  dot = record { origin = origin; number = count_of cut origin + 1 };
  cut = cut;
  action = Op op;
  args = args;
  count = length (sorts_of s (Op op));
}

-- the fact is of the predicate, and has the elements wanted in its places
abbrev pub is_shown : ℕ → List (Option ℕ) → Fact → Bool
is_shown predicate places f = is_match predicate places f

-- the fact is true at the cut, and one that was asked for
abbrev pub shown_at : Specification → List Fact → List Tx → Cut → ℕ → List (Option ℕ) → Fact → Bool
shown_at s base h cut predicate places f = value_at s base h cut f && is_shown predicate places f

-- an operation is committed under the origin's next number, and is legal there
pub record IsCommitted (s : Specification) (universe : Universe) (base : List Fact) (h : List Tx) (t : Tx)
    (number : ℕ) : Type 0 where
  pub numbered : number ≡ t.dot.number
  pub legal : IsLegal s universe base h t

-- what an operation is answered
abbrev pub IsAnswerOfDo : Specification → Universe → List Fact → List Tx → Tx → Answer → Type 0
IsAnswerOfDo s universe base h t (Commit number) = IsCommitted s universe base h t number
IsAnswerOfDo s universe base h t (Refused reason) = IsIllegal s universe base h t reason
IsAnswerOfDo s universe base h t (Shown state) = ⊥

-- what a question for facts is answered: the facts that are true at the cut and were asked for
abbrev pub IsAnswerOfShow : Specification → List Fact → List Tx → Cut → ℕ → List (Option ℕ) → Answer → Type 0
IsAnswerOfShow s base h cut predicate places (Commit number) = ⊥
IsAnswerOfShow s base h cut predicate places (Refused reason) = ⊥
IsAnswerOfShow s base h cut predicate places (Shown state) = IsStateOf (shown_at s base h cut predicate places) state

-- the answer of the request at the cut
abbrev pub IsAnswer : Specification → Universe → List Fact → List Tx → Cut → ℕ → Request → Answer → Type 0
IsAnswer s universe base h cut origin (Do op args) answer =
    IsAnswerOfDo s universe base h (next_operation s cut origin op args) answer
IsAnswer s universe base h cut origin (Show predicate places) answer =
    IsAnswerOfShow s base h cut predicate places answer
