-- What a journal and the sessions' work say, as the definition of a lawful end takes it.
--
--   requests_of sessions       the lists of requests, one a session
--   txs_of lines               the transactions of the `tx` lines, in order
--   is_of session o            the `out` line is the session's
--   lines_of session outs      the session's `out` lines, in order
--   outcome_of o               the outcome that an `out` line tells of
--   outcomes_of session outs   the session's outcomes
--   outcomes_by requests outs  the lists of outcomes, one for each list of requests
use Rattle.std.specs.Prelude.{ℕ, ◌+◌, Bool, ◌==◌, List, [], ◌∷◌, map, filter}
use Rattle.ipa_logic.specs.declared.facts.Request.{Request}
use Rattle.ipa_history.specs.declared.history.Tx.{Tx}
use Rattle.ipa_history.specs.declared.outcomes.Outcome.{Outcome}
use Rattle.ipa_reader.specs.declared.sessions.SessionWork.{SessionWork}
use Rattle.ipa_journal.specs.declared.journal.TxLine.{TxLine}
use Rattle.ipa_journal.specs.declared.journal.OutLine.{OutLine}

-- the lists of requests, one a session
abbrev pub requests_of : List SessionWork → List (List Request)
requests_of sessions = map (λ work. work.requests) sessions

-- the transactions of the lines, in order
abbrev pub txs_of : List TxLine → List Tx
txs_of lines = map (λ line. line.tx) lines

-- the line is the session's
abbrev pub is_of : ℕ → OutLine → Bool
is_of session o = o.session == session

-- the session's lines, in order
abbrev pub lines_of : ℕ → List OutLine → List OutLine
lines_of session outs = filter (is_of session) outs

-- the outcome that a line tells of
abbrev pub outcome_of : OutLine → Outcome
outcome_of o = record { cut = o.cut; answer = o.answer }

-- the session's outcomes, in order
abbrev pub outcomes_of : ℕ → List OutLine → List Outcome
outcomes_of session outs = map outcome_of (lines_of session outs)

-- those of the sessions from `first` on, one list for each list of requests
abbrev pub outcomes_from : ℕ → List (List Request) → List OutLine → List (List Outcome)
outcomes_from first [] outs = []
outcomes_from first (asked ∷ later) outs = outcomes_of first outs ∷ outcomes_from (first + 1) later outs

-- the lists of outcomes, one for each list of requests
abbrev pub outcomes_by : List (List Request) → List OutLine → List (List Outcome)
outcomes_by requests outs = outcomes_from 0 requests outs
