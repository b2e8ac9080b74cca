-- How many entries sessions can make.
--
--   is_do request          the request is one to do an operation
--   do_count requests      how many such requests the sessions have, by their lists of requests
--   most_entries n facts asked     the most entries of n sessions, over a base of so many facts, with so many such requests
--   IsAsked requests i k   request k of session i is one to do an operation
--   AreAsked requests outcomes h   the members of a history are of these sessions; each operation is the commit of an
--                          outcome, and each commit answers a request to do an operation
use Rattle.std.specs.Prelude.{◌≡◌, ℕ, ◌+◌, ◌*◌, ◌<◌, Bool, true, false, List, length, sum_by, count_by}
use Rattle.ipa_logic.specs.declared.facts.Request.{Request}
use Rattle.ipa_logic.specs.declared.facts.Request.TheVariants.{Do, Show}
use Rattle.ipa_history.specs.Histories.{IsMember}
use Rattle.ipa_history.specs.LawfulEnds.{IsAt, IsNamedBy}
use Rattle.ipa_history.specs.declared.history.Tx.{Tx}
use Rattle.ipa_history.specs.declared.answers.Answer.TheVariants.{Commit}
use Rattle.ipa_history.specs.declared.outcomes.Outcome.{Outcome}
use Rattle.ipa_lift.specs.FewDrops.{is_operation}

-- the request is one to do an operation
abbrev pub is_do : Request → Bool
is_do (Do op args) = true
is_do (Show predicate places) = false

-- how many such requests the sessions have
abbrev pub do_count : List (List Request) → ℕ
do_count requests = sum_by (λ asked. count_by is_do asked) requests

-- an operation for each such request, and of each session a drop for each fact of the base and each of an operation's
-- twelve adds
abbrev pub most_entries : ℕ → ℕ → ℕ → ℕ
most_entries sessions facts asked = asked + sessions * (facts + 12 * asked)

-- request k of session i is one to do an operation
pub record IsAsked (requests : List (List Request)) (i k : ℕ) : Type 0 where
  pub op : ℕ
  pub args : List ℕ
  pub at : IsAt requests i k (Do op args)

-- the members are of the sessions, each operation is the commit of an outcome, and each commit answers such a request
pub record AreAsked (requests : List (List Request)) (outcomes : List (List Outcome)) (h : List Tx) : Type 0 where
  pub origins : (t : Tx) → IsMember h t → t.dot.origin < length requests
  pub named : (t : Tx) → IsMember h t → is_operation t ≡ true → IsNamedBy outcomes t
  pub asked : (i k number : ℕ) (o : Outcome) → IsAt outcomes i k o → o.answer ≡ Commit number → IsAsked requests i k
