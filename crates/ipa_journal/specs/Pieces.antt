-- The pieces that the lines of a journal are written of, and how they are laid out.
--
--   keyword_text k     the bytes of a keyword
--   piece_text p       what is written of a piece
--   gap_text p         the space before a piece that is not the first: none before names in parentheses
--   line_text ps       the pieces with their spaces
--   text_of ps         the same, ended by a line feed
use Rattle.std.specs.Prelude.{ℕ, List, [], ◌∷◌, ◌++◌, codes}
use Rattle.std.specs.List.{flat_map}
use Rattle.std.specs.Fmt.{decimal}
use Rattle.ipa_forms.specs.Layout.{name_text, listed_text}
use Rattle.ipa_journal.specs.declared.keywords.Keyword.{Keyword}
use Rattle.ipa_journal.specs.declared.keywords.Keyword.TheVariants as keys
use Rattle.ipa_journal.specs.declared.pieces.Piece.{Piece}
use Rattle.ipa_journal.specs.declared.pieces.Piece.TheVariants.{Key, Word, Number, Group}

abbrev pub keyword_text : Keyword → List ℕ
keyword_text keys.Journal = codes "journal"
keyword_text keys.Sessions = codes "sessions"
keyword_text keys.Bounds = codes "bounds"
keyword_text keys.Greatest = codes "greatest"
keyword_text keys.Youngest = codes "youngest"
keyword_text keys.Nothing = codes "none"
keyword_text keys.Tx = codes "tx"
keyword_text keys.Cut = codes "cut"
keyword_text keys.Do = codes "do"
keyword_text keys.Drop = codes "drop"
keyword_text keys.Out = codes "out"
keyword_text keys.Commit = codes "commit"
keyword_text keys.Refused = codes "refused"
keyword_text keys.Shown = codes "shown"
keyword_text keys.Within = codes "within"
keyword_text keys.Need = codes "need"
keyword_text keys.Clause = codes "clause"
keyword_text keys.Over = codes "over"
keyword_text keys.Final = codes "final"
keyword_text keys.End = codes "end"

abbrev pub piece_text : Piece → List ℕ
piece_text (Key k) = keyword_text k
piece_text (Word n) = name_text n
piece_text (Number n) = decimal n
piece_text (Group ns) = listed_text name_text ns

abbrev pub gap_text : Piece → List ℕ
gap_text (Key k) = codes " "
gap_text (Word n) = codes " "
gap_text (Number n) = codes " "
gap_text (Group ns) = []

abbrev pub line_text : List Piece → List ℕ
line_text [] = []
line_text (first ∷ later) = piece_text first ++ flat_map (λ p. gap_text p ++ piece_text p) later

abbrev pub text_of : List Piece → List ℕ
text_of pieces = line_text pieces ++ codes "\n"
