-- A written journal is read back.
--
--   text_with s es n ts os last   the text of transactions, outcomes and final facts
--   reads_with                    it reads as they are
--   content_reads                 so does the content of a journal
--   end_reads                     so does the end of a run
use Rattle.std.proofs.Common.{◌≡◌, ℕ, ◌+◌, List, [], ◌∷◌, ◌++◌, length, map, refl, sym, ap, subst, ◌∙◌, append_assoc}
use Rattle.std.specs.List.{flat_map, AllByRecursion}
use Rattle.std.proofs.lemmas.List.Concat.{flat_map-append}
use Rattle.std.proofs.lemmas.List.Elements.{recursion_from_All}
use Rattle.std.proofs.lemmas.List.Folds.{flat_map-map}
use Rattle.ipa_text.specs.Spellings.{ended}
use Rattle.ipa_spec.specs.declared.names.Name.{Name}
use Rattle.ipa_spec.specs.declared.specification.Specification.{Specification}
use Rattle.ipa_logic.specs.declared.facts.Fact.{Fact}
use Rattle.ipa_history.specs.declared.history.Tx.{Tx}
use Rattle.ipa_history.specs.declared.outcomes.Outcome.{Outcome}
use Rattle.ipa_journal.specs.Pieces.{line_text, text_of}
use Rattle.ipa_journal.specs.Naming.{tx_pieces, out_pieces, final_pieces, bounds_pieces}
use Rattle.ipa_journal.specs.Texts.{head_text, tx_text, out_line_text, answers_text, outcomes_text, tail_text, end_text, content_text}
use Rattle.ipa_journal.specs.Readings.{context_of, ReadsAs}
use Rattle.ipa_journal.specs.declared.journal.Journal.{Journal}
use Rattle.ipa_journal.specs.declared.journal.OutLine.{OutLine}
use Rattle.ipa_journal.specs.declared.journal.TxLine.{TxLine}
use Rattle.ipa_journal.specs.declared.keywords.Keyword.TheVariants as keys
use Rattle.ipa_journal.specs.declared.pieces.Piece.{Piece}
use Rattle.ipa_journal.specs.declared.pieces.Piece.TheVariants.{Key, Number}
use Rattle.ipa_journal.specs.declared.standing.Place.TheVariants as places
use Rattle.ipa_journal_laws.specs.Writable.{IsSetting, IsWritable, IsWritableTx, IsWritableOut}
use Rattle.ipa_journal_laws.specs.Written.{tx_lines, out_lines, session_outs, all_outs, txs_of, written}
use Rattle.ipa_journal_laws.proofs.Spelled.{IsPrinted, Cuts}
use Rattle.ipa_journal_laws.proofs.Lined.{AreLines, Texts, said_of, ended_lines, said_lines, all_said}
use Rattle.ipa_journal_laws.proofs.Numbers.{tx_line, out_line, final_line, bounds_line, journal_line, sessions_line, end_line}
use Rattle.ipa_journal_laws.proofs.Chain.{standing, lines, all_read}

module _ (s : Specification) (es : List (List Name)) (n : ℕ) where
  abbrev pub text_with : List Tx → List OutLine → List Fact → List ℕ
  text_with ts os last = head_text s n ++ flat_map (tx_text s es n) ts ++ flat_map (out_line_text s es n) os ++ tail_text s es last

  -- pieces of lines, mapped and with others behind them
  flat_lines : {X : Type 0} (of : X → List Piece) (xs : List X) (later : List (List Piece)) →
      flat_map text_of (map of xs ++ later) ≡ flat_map (λ x. text_of (of x)) xs ++ flat_map text_of later
  flat_lines of xs later =
      flat_map-append text_of (map of xs) later ∙ ap (λ t. t ++ flat_map text_of later) (flat_map-map text_of of xs)

  abbrev out_of_line : OutLine → List Piece
  out_of_line o = out_pieces s es n o.session o.place o.cut o.answer

six : (a b c d e f : List ℕ) → a ++ (b ++ (c ++ (d ++ (e ++ f)))) ≡ ((((a ++ b) ++ c) ++ d) ++ e) ++ f
six a b c d e f = simp append_assoc

module _ (s : Specification) (sizes : List ℕ) (es : List (List Name)) (n : ℕ) (set : IsSetting s sizes es n) (first : ℕ) where
  abbrev end_pieces : List Fact → List (List Piece)
  end_pieces last = final_pieces s es last ∷ (Key keys.End ∷ []) ∷ []

  lines_text : (ts : List Tx) (os : List OutLine) (last : List Fact) →
      flat_map text_of (lines s sizes es n set first ts os last) ≡ text_with s es n ts os last
  lines_text ts os last =
      let head : List ℕ → List ℕ = λ t. text_of (Key keys.Journal ∷ Number 2 ∷ []) ++ (text_of (Key keys.Sessions ∷ Number n ∷ []) ++ (text_of (bounds_pieces s.bounds) ++ t)) in
      let entries = flat_lines s es n (tx_pieces s es n) ts (map (out_of_line s es n) os ++ end_pieces last) in
      let outs = flat_lines s es n (out_of_line s es n) os (end_pieces last) in
      ap head (entries ∙ ap (λ t. flat_map (tx_text s es n) ts ++ t) outs)
      ∙ six (text_of (Key keys.Journal ∷ Number 2 ∷ [])) (text_of (Key keys.Sessions ∷ Number n ∷ [])) (text_of (bounds_pieces s.bounds)) (flat_map (tx_text s es n) ts) (flat_map (out_line_text s es n) os) (tail_text s es last)

  outs_lines : (os : List OutLine) → AllByRecursion (IsWritableOut s sizes n) os → (last : List Fact) →
      AreLines (map (out_of_line s es n) os ++ end_pieces last)
  outs_lines [] h last = (final_line s es last, (end_line, tt))
  outs_lines (o ∷ os) h last = (out_line s es sizes n set.sessions o h.0, outs_lines os h.1 last)

  txs_lines : (ts : List Tx) → AllByRecursion (IsWritableTx s sizes n) ts → (later : List (List Piece)) → AreLines later →
      AreLines (map (tx_pieces s es n) ts ++ later)
  txs_lines [] h later k = k
  txs_lines (t ∷ ts) h later k = (tx_line s es sizes n set.sessions t h.0, txs_lines ts h.1 later k)

  all_lines : (ts : List Tx) → AllByRecursion (IsWritableTx s sizes n) ts → (os : List OutLine) →
      AllByRecursion (IsWritableOut s sizes n) os → (last : List Fact) → AreLines (lines s sizes es n set first ts os last)
  all_lines ts h os k last =
      (journal_line, (sessions_line n set.sessions, (bounds_line s.bounds, txs_lines ts h (map (out_of_line s es n) os ++ end_pieces last) (outs_lines os k last))))

  module _ (printed : IsPrinted) (cuts : Cuts) (texts : Texts printed) where
    pub reads_with : (ts : List Tx) (os : List OutLine) (last : List Fact) → IsWritable s sizes n ts os last →
        ReadsAs (context_of s es n first) (text_with s es n ts os last) (written first ts os last)
    reads_with ts os last h =
        let txs = recursion_from_All (IsWritableTx s sizes n) ts h.transactions in
        let outs = recursion_from_All (IsWritableOut s sizes n) os h.outcomes in
        let pss = lines s sizes es n set first ts os last in
        let are = all_lines ts txs os outs last in
        let there : ReadsAs (context_of s es n first) (ended (map line_text pss)) (written first ts os last) = record {
          standing = standing places.Done (tx_lines (first + 3) ts) (out_lines (first + 3 + length ts) os) last (first + 3 + length ts + length os);
          read = record {
            said = said_of 1 0 pss;
            lines_are = said_lines printed texts pss are;
            each = all_said printed texts cuts pss are;
            standing_is = all_read s sizes es n set first ts txs os outs last h.last_facts 0;
          };
          done = refl;
          journal_is = record { transactions = refl; outcomes = refl; last = refl; last_line = refl };
        } in
        subst (λ bytes. ReadsAs (context_of s es n first) bytes (written first ts os last)) (ended_lines pss ∙ lines_text ts os last) there

    content_same : (j : Journal) → content_text s es n j ≡ text_with s es n (txs_of j) j.outcomes j.last
    content_same j =
        ap (λ t. head_text s n ++ t ++ flat_map (out_line_text s es n) j.outcomes ++ tail_text s es j.last) (sym (flat_map-map (tx_text s es n) (λ (l : TxLine). l.tx) j.transactions))

    pub content_reads : (j : Journal) → IsWritable s sizes n (txs_of j) j.outcomes j.last →
        ReadsAs (context_of s es n first) (content_text s es n j) (written first (txs_of j) j.outcomes j.last)
    content_reads j h =
        subst (λ bytes. ReadsAs (context_of s es n first) bytes (written first (txs_of j) j.outcomes j.last)) (sym (content_same j)) (reads_with (txs_of j) j.outcomes j.last h)

    session_text : (i k : ℕ) (os : List Outcome) → answers_text s es n i k os ≡ flat_map (out_line_text s es n) (session_outs i k os)
    session_text i k [] = refl
    session_text i k (o ∷ os) = ap (λ t. text_of (out_pieces s es n i k o.cut o.answer) ++ t) (session_text i (k + 1) os)

    sessions_text : (i : ℕ) (oss : List (List Outcome)) → outcomes_text s es n i oss ≡ flat_map (out_line_text s es n) (all_outs i oss)
    sessions_text i [] = refl
    sessions_text i (os ∷ oss) =
        (λ t. session_text i 0 os t ++ sessions_text (i + 1) oss t)
        ∙ sym (flat_map-append (out_line_text s es n) (session_outs i 0 os) (all_outs (i + 1) oss))

    pub end_reads : (ts : List Tx) (oss : List (List Outcome)) (last : List Fact) → IsWritable s sizes n ts (all_outs 0 oss) last →
        ReadsAs (context_of s es n first) (end_text s es n ts oss last) (written first ts (all_outs 0 oss) last)
    end_reads ts oss last h =
        let same : end_text s es n ts oss last ≡ text_with s es n ts (all_outs 0 oss) last =
        ap (λ t. head_text s n ++ flat_map (tx_text s es n) ts ++ t ++ tail_text s es last) (sessions_text 0 oss) in
        subst (λ bytes. ReadsAs (context_of s es n first) bytes (written first ts (all_outs 0 oss) last)) (sym same) (reads_with ts (all_outs 0 oss) last h)
