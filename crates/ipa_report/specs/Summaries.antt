-- The summary of a run of a generated document: how much was done in it.
--
--   is_drop t                the transaction is a drop
--   is_refused o, is_shown o     the outcome is a refusal, or shows facts
--   answers_in is_one outcomes   how many outcomes of all sessions are of a kind
--   counted word n           the line of a word and a number
--   entries_text, outcomes_text     the lines of the transactions, and of the outcomes
--   summary_text n end       the six lines, for the document with number n and the end of the run
use Rattle.std.specs.Prelude.{ℕ, Bool, true, false, List, ◌++◌, codes, length, count_by}
use Rattle.std.specs.List.{sum_by}
use Rattle.std.specs.Fmt.{decimal}
use Rattle.ipa_spec.specs.declared.operations.Action.{Action}
use Rattle.ipa_spec.specs.declared.operations.Action.TheVariants.{Op, Drop}
use Rattle.ipa_history.specs.declared.history.Tx.{Tx}
use Rattle.ipa_history.specs.declared.answers.Answer.{Answer}
use Rattle.ipa_history.specs.declared.answers.Answer.TheVariants.{Commit, Refused, Shown}
use Rattle.ipa_history.specs.declared.outcomes.Outcome.{Outcome}
use Rattle.ipa_history.specs.declared.outcomes.SimEnd.{SimEnd}

-- the action is a drop
abbrev pub drops : Action → Bool
drops (Op number) = false
drops (Drop number) = true

-- the transaction is a drop
abbrev pub is_drop : Tx → Bool
is_drop t = drops t.action

-- the answer is a refusal
abbrev pub refuses : Answer → Bool
refuses (Commit number) = false
refuses (Refused reason) = true
refuses (Shown facts) = false

-- the answer shows facts
abbrev pub shows : Answer → Bool
shows (Commit number) = false
shows (Refused reason) = false
shows (Shown facts) = true

-- the outcome is a refusal
abbrev pub is_refused : Outcome → Bool
is_refused o = refuses o.answer

-- the outcome shows facts
abbrev pub is_shown : Outcome → Bool
is_shown o = shows o.answer

-- how many outcomes of all sessions are of a kind
abbrev pub answers_in : (Outcome → Bool) → List (List Outcome) → ℕ
answers_in is_one outcomes = sum_by (λ list. count_by is_one list) outcomes

-- the line of a word and a number
abbrev pub counted : List ℕ → ℕ → List ℕ
counted word n = word ++ decimal n ++ codes "\n"

-- how many transactions there are, and how many of them are drops
abbrev pub entries_text : List Tx → List ℕ
entries_text entries =
    counted (codes "transactions ") (length entries) ++ counted (codes "drops ") (count_by is_drop entries)

-- how many outcomes are refusals, and how many show facts
abbrev pub outcomes_text : List (List Outcome) → List ℕ
outcomes_text outcomes =
    counted (codes "refused ") (answers_in is_refused outcomes) ++ counted (codes "shown ") (answers_in is_shown outcomes)

-- the six lines: the number of the document, what the entries and the outcomes have, and how many facts are true in the end
abbrev pub summary_text : ℕ → SimEnd → List ℕ
summary_text number end =
    counted (codes "generated ") number ++ entries_text end.entries ++ outcomes_text end.outcomes
    ++ counted (codes "final ") (length end.last)
