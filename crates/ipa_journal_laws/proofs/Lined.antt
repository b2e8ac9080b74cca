-- A text of lines of pieces has just those lines, and each has the parts of its pieces.
--
--   IsLineOf ps             the pieces make a line: neither blank nor a comment
--   AreLines pss            the same of each
--   said_of number start pss   the lines with their parts, of which the first has this number and starts here
use Rattle.std.proofs.Common.{◌≡◌, ℕ, ◌+◌, Bool, true, false, cond, List, [], ◌∷◌, ◌++◌, length, map, refl, sym, ap, subst, ◌∙◌}
use Rattle.std.specs.List.{filter, flat_map, list_all, AllByRecursion, All}
use Rattle.std.specs.Str.Lines.{strip_carriage_return}
use Rattle.std.proofs.lemmas.List.Elements.{All-from_recursion}
use Rattle.std.proofs.lemmas.List.Folds.{flat_map-map}
use Rattle.ipa_text.specs.Lines.{has_content, line_at, lines_of, numbered}
use Rattle.ipa_text.specs.Lines.{line_text as text_at}
use Rattle.ipa_text.specs.Spellings.{ended, HasNoLineFeed}
use Rattle.ipa_text.specs.declared.numbering.Line.{Line}
use Rattle.ipa_journal.specs.Pieces.{line_text, text_of}
use Rattle.ipa_journal.specs.Parts.{HasParts}
use Rattle.ipa_journal.specs.Readings.{Said, IsSaid}
use Rattle.ipa_journal.specs.declared.pieces.Piece.{Piece}
use Rattle.ipa_journal_laws.proofs.LineBytes.{is_shown, bytes_of-shown, no_line_feed, nothing_stripped}
use Rattle.ipa_journal_laws.proofs.Spelled.{part_of, HaveNumbers, IsPrinted, Cuts, spelled_line, line_bytes, line_readable, has_parts}

pub record IsLineOf (ps : List Piece) : Type 0 where
  pub numbers : HaveNumbers ps
  pub content : has_content (line_text ps) ≡ true

abbrev pub AreLines : List (List Piece) → Type 0
AreLines pss = AllByRecursion IsLineOf pss

abbrev pub said_of : ℕ → ℕ → List (List Piece) → List Said
said_of number start [] = []
said_of number start (ps ∷ pss) =
    record {
      line = record { number = number; start = start; end = start + length (line_text ps) };
      parts = map part_of ps;
    } ∷ said_of (number + 1) (start + length (line_text ps) + 1) pss

pub ended_lines : (pss : List (List Piece)) → ended (map line_text pss) ≡ flat_map text_of pss
ended_lines pss = flat_map-map (λ t. t ++ 10 ∷ []) line_text pss

module _ (printed : IsPrinted) where
  shown : (ps : List Piece) → HaveNumbers ps → list_all is_shown (line_text ps) ≡ true
  shown ps h = ap (λ bytes. list_all is_shown bytes) (sym (line_bytes ps)) ∙ bytes_of-shown false (spelled_line ps) (line_readable printed ps h)

  stripped : (ps : List Piece) → HaveNumbers ps → strip_carriage_return (line_text ps) ≡ line_text ps
  stripped ps h = nothing_stripped (line_text ps) (shown ps h)

  no_feeds : (pss : List (List Piece)) → AreLines pss → AllByRecursion HasNoLineFeed (map line_text pss)
  no_feeds [] h = tt
  no_feeds (ps ∷ pss) h = (no_line_feed (line_text ps) (shown ps h.0.numbers), no_feeds pss h.1)

  one_line : (number start : ℕ) (ps : List Piece) → IsLineOf ps →
      line_at number start (strip_carriage_return (line_text ps)) ≡ record { number = number; start = start; end = start + length (line_text ps) } ∷ []
  one_line number start ps h =
      ap (line_at number start) (stripped ps h.numbers)
      ∙ ap (λ b. cond b (record { number = number; start = start; end = start + length (line_text ps) } ∷ []) []) h.content

  lines_said : (number start : ℕ) (pss : List (List Piece)) → AreLines pss →
      map (λ x. x.line) (said_of number start pss) ≡ numbered number start (map line_text pss)
  lines_said number start [] h = refl
  lines_said number start (ps ∷ pss) h =
      ap (λ ls. record { number = number; start = start; end = start + length (line_text ps) } ∷ ls) (lines_said (number + 1) (start + length (line_text ps) + 1) pss h.1)
      ∙ ap (λ ls. ls ++ numbered (number + 1) (start + length (line_text ps) + 1) (map line_text pss)) (sym (one_line number start ps h.0))

  kept : (b : Bool) (text line : List ℕ) (later : List (List ℕ)) → b ≡ true → text ≡ line → cond b (text ∷ later) later ≡ line ∷ later
  kept true text line later e h = ap (λ t. t ∷ later) h
  kept false text line later e h = cc

  all_kept : (pss : List (List Piece)) → AreLines pss →
      filter has_content (map strip_carriage_return (map line_text pss)) ≡ map line_text pss
  all_kept [] h = refl
  all_kept (ps ∷ pss) h =
      let same = stripped ps h.0.numbers in
      kept (has_content (strip_carriage_return (line_text ps))) (strip_carriage_return (line_text ps)) (line_text ps) (filter has_content (map strip_carriage_return (map line_text pss))) (ap has_content same ∙ h.0.content) same
      ∙ ap (λ later. line_text ps ∷ later) (all_kept pss h.1)

  each_said : Cuts → (bytes : List ℕ) (number start : ℕ) (pss : List (List Piece)) → AreLines pss →
      map (text_at bytes) (map (λ x. x.line) (said_of number start pss)) ≡ map line_text pss →
      AllByRecursion (IsSaid bytes) (said_of number start pss)
  each_said cuts bytes number start [] h e = tt
  each_said cuts bytes number start (ps ∷ pss) h e =
      let line : Line = record { number = number; start = start; end = start + length (line_text ps) } in
      let head : text_at bytes line ≡ line_text ps = cc in
      (subst (λ t. HasParts t (map part_of ps)) (sym head) (has_parts printed cuts ps h.0.numbers), each_said cuts bytes (number + 1) (start + length (line_text ps) + 1) pss h.1 (cc))

  -- what is known of texts of lines that are each ended by a line feed
  pub record Texts : Type 0 where
    pub lines : (texts : List (List ℕ)) → All HasNoLineFeed texts → lines_of (ended texts) ≡ numbered 1 0 texts
    pub texts : (texts : List (List ℕ)) → All HasNoLineFeed texts →
        map (text_at (ended texts)) (lines_of (ended texts)) ≡ filter has_content (map strip_carriage_return texts)

  pub said_lines : Texts → (pss : List (List Piece)) → AreLines pss →
      map (λ x. x.line) (said_of 1 0 pss) ≡ lines_of (ended (map line_text pss))
  said_lines known pss h =
      lines_said 1 0 pss h ∙ sym (known.lines (map line_text pss) (All-from_recursion HasNoLineFeed (map line_text pss) (no_feeds pss h)))

  pub all_said : Texts → Cuts → (pss : List (List Piece)) → AreLines pss →
      All (IsSaid (ended (map line_text pss))) (said_of 1 0 pss)
  all_said known cuts pss h =
      let bytes = ended (map line_text pss) in
      let texts = known.texts (map line_text pss) (All-from_recursion HasNoLineFeed (map line_text pss) (no_feeds pss h)) in
      All-from_recursion (IsSaid bytes) (said_of 1 0 pss)
      (each_said cuts bytes 1 0 pss h (ap (map (text_at bytes)) (said_lines known pss h) ∙ texts ∙ all_kept pss h))
