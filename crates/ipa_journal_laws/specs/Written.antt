-- The journal that a written text reads as.
--
-- Its first line stands on the line `first`. The three lines before the transactions come first, and each transaction
-- and each outcome has a line.
--
--   tx_lines number txs          transactions, of which the first stands on the line of this number
--   out_at number o              the outcome on the line of this number
--   out_lines number os          outcomes, of which the first stands on the line of this number
--   out_of_session i k o         the outcome in place k of session i, on no line yet
--   session_outs i k os          the outcomes of session i, of which the first has place k, on no lines yet
--   all_outs i oss               the outcomes of sessions, of which the first is session i
--   txs_of journal               the transactions without the numbers of their lines
--   written first txs outs last  the journal of these transactions, outcomes and final facts
use Rattle.std.specs.Prelude.{ℕ, ◌+◌, List, [], ◌∷◌, ◌++◌, length, map}
use Rattle.ipa_logic.specs.declared.facts.Fact.{Fact}
use Rattle.ipa_history.specs.declared.history.Tx.{Tx}
use Rattle.ipa_history.specs.declared.outcomes.Outcome.{Outcome}
use Rattle.ipa_journal.specs.declared.journal.Journal.{Journal}
use Rattle.ipa_journal.specs.declared.journal.OutLine.{OutLine}
use Rattle.ipa_journal.specs.declared.journal.TxLine.{TxLine}

abbrev pub tx_lines : ℕ → List Tx → List TxLine
tx_lines number [] = []
tx_lines number (t ∷ ts) = record { line = number; tx = t } ∷ tx_lines (number + 1) ts

abbrev pub out_at : ℕ → OutLine → OutLine
out_at number o = record {
  line = number;
  session = o.session;
  place = o.place;
  cut = o.cut;
  answer = o.answer;
}

abbrev pub out_lines : ℕ → List OutLine → List OutLine
out_lines number [] = []
out_lines number (o ∷ os) = out_at number o ∷ out_lines (number + 1) os

abbrev pub out_of_session : ℕ → ℕ → Outcome → OutLine
out_of_session i k o = record { line = 0; session = i; place = k; cut = o.cut; answer = o.answer }

abbrev pub session_outs : ℕ → ℕ → List Outcome → List OutLine
session_outs i k [] = []
session_outs i k (o ∷ os) = out_of_session i k o ∷ session_outs i (k + 1) os

abbrev pub all_outs : ℕ → List (List Outcome) → List OutLine
all_outs i [] = []
all_outs i (os ∷ oss) = session_outs i 0 os ++ all_outs (i + 1) oss

abbrev pub txs_of : Journal → List Tx
txs_of journal = map (λ l. l.tx) journal.transactions

abbrev pub written : ℕ → List Tx → List OutLine → List Fact → Journal
written first txs outs last = record {
  transactions = tx_lines (first + 3) txs;
  outcomes = out_lines (first + 3 + length txs) outs;
  last = last;
  last_line = first + 3 + length txs + length outs;
}
