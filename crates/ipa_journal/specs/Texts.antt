-- The text of a journal.
--
--   head_text s n                  the lines before the first transaction, of version 2, for n sessions
--   tx_text s es n t               a transaction's line
--   answers_text s es n i k os     the lines of outcomes of session i, of which the first stands in place k
--   outcomes_text s es n i oss     the lines of the outcomes of sessions, of which the first is session i
--   tail_text s es last            the final facts and the end
--   end_text s es n entries outcomes last   the text of the end of a run
--   content_text s es n journal    the text of what was read
use Rattle.std.specs.Prelude.{ℕ, ◌+◌, List, [], ◌∷◌, ◌++◌}
use Rattle.std.specs.List.{flat_map}
use Rattle.ipa_spec.specs.declared.names.Name.{Name}
use Rattle.ipa_spec.specs.declared.specification.Specification.{Specification}
use Rattle.ipa_logic.specs.declared.facts.Fact.{Fact}
use Rattle.ipa_history.specs.declared.history.Tx.{Tx}
use Rattle.ipa_history.specs.declared.outcomes.Outcome.{Outcome}
use Rattle.ipa_journal.specs.Pieces.{text_of}
use Rattle.ipa_journal.specs.Naming.{tx_pieces, out_pieces, final_pieces, bounds_pieces}
use Rattle.ipa_journal.specs.declared.keywords.Keyword.TheVariants as keys
use Rattle.ipa_journal.specs.declared.pieces.Piece.TheVariants.{Key, Number}
use Rattle.ipa_journal.specs.declared.journal.Journal.{Journal}
use Rattle.ipa_journal.specs.declared.journal.TxLine.{TxLine}
use Rattle.ipa_journal.specs.declared.journal.OutLine.{OutLine}

abbrev pub head_text : Specification → ℕ → List ℕ
head_text s n =
    text_of (Key keys.Journal ∷ Number 2 ∷ []) ++ text_of (Key keys.Sessions ∷ Number n ∷ [])
    ++ text_of (bounds_pieces s.bounds)

abbrev pub tx_text : Specification → List (List Name) → ℕ → Tx → List ℕ
tx_text s es n t = text_of (tx_pieces s es n t)

abbrev pub answers_text : Specification → List (List Name) → ℕ → ℕ → ℕ → List Outcome → List ℕ
answers_text s es n i k [] = []
answers_text s es n i k (o ∷ os) = text_of (out_pieces s es n i k o.cut o.answer) ++ answers_text s es n i (k + 1) os

abbrev pub outcomes_text : Specification → List (List Name) → ℕ → ℕ → List (List Outcome) → List ℕ
outcomes_text s es n i [] = []
outcomes_text s es n i (os ∷ oss) = answers_text s es n i 0 os ++ outcomes_text s es n (i + 1) oss

abbrev pub tail_text : Specification → List (List Name) → List Fact → List ℕ
tail_text s es last = text_of (final_pieces s es last) ++ text_of (Key keys.End ∷ [])

abbrev pub end_text : Specification → List (List Name) → ℕ → List Tx → List (List Outcome) → List Fact → List ℕ
end_text s es n entries outcomes last =
    head_text s n ++ flat_map (tx_text s es n) entries ++ outcomes_text s es n 0 outcomes ++ tail_text s es last

abbrev pub tx_line_text : Specification → List (List Name) → ℕ → TxLine → List ℕ
tx_line_text s es n l = tx_text s es n l.tx

abbrev pub out_line_text : Specification → List (List Name) → ℕ → OutLine → List ℕ
out_line_text s es n o = text_of (out_pieces s es n o.session o.place o.cut o.answer)

abbrev pub content_text : Specification → List (List Name) → ℕ → Journal → List ℕ
content_text s es n j =
    head_text s n ++ flat_map (tx_line_text s es n) j.transactions ++ flat_map (out_line_text s es n) j.outcomes
    ++ tail_text s es j.last
