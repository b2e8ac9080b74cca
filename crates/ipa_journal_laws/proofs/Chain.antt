-- Line after line of a written journal is read.
--
--   Goes c i pss st next   these lines, of which the first stands i lines behind the first of all, lead from st to next
--   standing               what is read, by its parts
--   lines s es n ..        the lines of a whole journal
--   all_read               they are read from the first to the last
use Rattle.std.proofs.Common.{◌≡◌, ℕ, suc, ◌+◌, ◌-◌, true, ◌==◌, cond, List, [], ◌∷◌, ◌++◌, length, map, None, Some, refl, sym, ap, subst, ◌∙◌, append_assoc, append-nil, arith}
use Rattle.std.specs.List.{AllByRecursion, fold, zip, list_all}
use Rattle.std.specs.Option.{option_map}
use Rattle.std.proofs.lemmas.Bool.{and_from, eq-eqb}
use Rattle.ipa_spec.specs.declared.names.Name.{Name}
use Rattle.ipa_spec.specs.declared.bounds.Bound.{Bound}
use Rattle.ipa_spec.specs.declared.bounds.Pick.{Pick}
use Rattle.ipa_spec.specs.declared.bounds.Pick.TheVariants.{Greatest, Youngest}
use Rattle.ipa_spec.specs.declared.specification.Specification.{Specification}
use Rattle.ipa_logic.specs.Facts.{IsState}
use Rattle.ipa_logic.specs.declared.facts.Fact.{Fact}
use Rattle.ipa_history.specs.declared.history.Tx.{Tx}
use Rattle.ipa_journal.specs.Pieces.{line_text}
use Rattle.ipa_journal.specs.Naming.{tx_pieces, out_pieces, final_pieces, pick_key, pick_piece, bounds_pieces}
use Rattle.ipa_journal.specs.Order.{start, moved, with_tx, with_out, with_final, says_pick, is_bounds, next_standing}
use Rattle.ipa_journal.specs.Parts.{is_said}
use Rattle.ipa_journal.specs.Readings.{Context, context_of, with_said}
use Rattle.ipa_journal.specs.declared.keywords.Keyword.TheVariants as keys
use Rattle.ipa_journal.specs.declared.journal.OutLine.{OutLine}
use Rattle.ipa_journal.specs.declared.journal.TxLine.{TxLine}
use Rattle.ipa_journal.specs.declared.pieces.Piece.{Piece}
use Rattle.ipa_journal.specs.declared.pieces.Piece.TheVariants.{Key, Number}
use Rattle.ipa_journal.specs.declared.standing.Version.TheVariants.{Two}
use Rattle.ipa_journal.specs.declared.standing.Place.{Place}
use Rattle.ipa_journal.specs.declared.standing.Place.TheVariants as places
use Rattle.ipa_journal.specs.declared.standing.Standing.{Standing}
use Rattle.ipa_journal_laws.specs.Writable.{IsSetting, IsWritableTx, IsWritableOut}
use Rattle.ipa_journal_laws.specs.Written.{tx_lines, out_at, out_lines}
use Rattle.ipa_journal_laws.proofs.Spelled.{keyword_name, part_of}
use Rattle.ipa_journal_laws.proofs.Lined.{said_of}
use Rattle.ipa_journal_laws.proofs.Facts.{state_back}
use Rattle.ipa_journal_laws.proofs.TxBack.{tx_back}
use Rattle.ipa_journal_laws.proofs.OutBack.{out_back}

abbrev pub Goes : Context → ℕ → List (List Piece) → Standing → Standing → Type 0
Goes c i pss st next = (at : ℕ) → fold (with_said c) (Some st) (said_of (i + 1) at pss) ≡ Some next

module _ (c : Context) where
  goes_on : (i : ℕ) (ps : List Piece) (pss : List (List Piece)) (st behind next : Standing) →
      next_standing c.spec c.elements c.sessions (c.first + i) st (map part_of ps) ≡ Some behind →
      Goes c (i + 1) pss behind next → Goes c i (ps ∷ pss) st next
  goes_on i ps pss st behind next here later at =
      let number : c.first + (i + 1 - 1) ≡ c.first + i = omega arith in
      let rest = said_of (i + 1 + 1) (at + length (line_text ps) + 1) pss in
      ap (λ k. fold (with_said c) (next_standing c.spec c.elements c.sessions k st (map part_of ps)) rest) number
      ∙ ap (λ o. fold (with_said c) o rest) here
      ∙ later (at + length (line_text ps) + 1)

abbrev pub standing : Place → List TxLine → List OutLine → List Fact → ℕ → Standing
standing place txs outs last line =
    record { place = place; transactions = txs; outcomes = outs; last = last; last_line = line }

-- outcomes may stand here
abbrev pub MayAnswer : Place → Type 0
MayAnswer places.Entries = Unit {0}
MayAnswer places.Outcomes = Unit {0}
MayAnswer _ = ⊥

pick_said : (pick : Pick) → is_said (pick_key pick) (keyword_name (pick_key pick)) ≡ true
pick_said Greatest = refl
pick_said Youngest = refl

picks_said : (bs : List Bound) → list_all (λ x. says_pick x.0 x.1) (zip (map part_of (map (λ b. pick_piece b.pick) bs)) bs) ≡ true
picks_said [] = refl
picks_said (b ∷ bs) = and_from (is_said (pick_key b.pick) (keyword_name (pick_key b.pick))) _ (pick_said b.pick) (picks_said bs)

picks_many : (bs : List Bound) → length (map part_of (map (λ b. pick_piece b.pick) bs)) ≡ length bs
picks_many [] = refl
picks_many (b ∷ bs) = ap suc (picks_many bs)

bounds_said : (s : Specification) (bs : List Bound) → s.bounds ≡ bs → is_bounds s (map part_of (bounds_pieces bs)) ≡ true
bounds_said s [] e = ap (λ bs. is_bounds (record s { bounds = bs }) (map part_of (bounds_pieces []))) e
bounds_said s (b ∷ bs) e =
    ap (λ all. is_bounds (record s { bounds = all }) (map part_of (bounds_pieces (b ∷ bs)))) e
    ∙ and_from (length (map part_of (map (λ b. pick_piece b.pick) (b ∷ bs))) == length (b ∷ bs)) _
    (eq-eqb (length (map part_of (map (λ b. pick_piece b.pick) (b ∷ bs)))) (length (b ∷ bs)) (picks_many (b ∷ bs))) (picks_said (b ∷ bs))

module _ (s : Specification) (sizes : List ℕ) (es : List (List Name)) (n : ℕ) (set : IsSetting s sizes es n) (first : ℕ) where
  abbrev here : Context
  here = context_of s es n first

  abbrev end_lines : List Fact → List (List Piece)
  end_lines last = final_pieces s es last ∷ (Key keys.End ∷ []) ∷ []

  abbrev out_of_line : OutLine → List Piece
  out_of_line o = out_pieces s es n o.session o.place o.cut o.answer

  abbrev out_pieces_all : List OutLine → List Fact → List (List Piece)
  out_pieces_all outs last = map out_of_line outs ++ end_lines last

  final_read : (place : Place) → MayAnswer place → (number : ℕ) (txs : List TxLine) (outs : List OutLine) (last : List Fact) →
      IsState s sizes last → next_standing s es n number (standing place txs outs [] 0) (map part_of (final_pieces s es last)) ≡ Some (standing places.End txs outs last number)
  final_read places.Entries may number txs outs last h = ap (option_map (with_final (standing places.Entries txs outs [] 0) number)) (state_back s sizes es n set last h)
  final_read places.Outcomes may number txs outs last h = ap (option_map (with_final (standing places.Outcomes txs outs [] 0) number)) (state_back s sizes es n set last h)
  final_read places.Head may number txs outs last h = absurd may
  final_read (places.Sessions v) may number txs outs last h = absurd may
  final_read places.Bounds may number txs outs last h = absurd may
  final_read places.End may number txs outs last h = absurd may
  final_read places.Done may number txs outs last h = absurd may

  out_read : (place : Place) → MayAnswer place → (number : ℕ) (txs : List TxLine) (outs : List OutLine) (o : OutLine) →
      IsWritableOut s sizes n o → next_standing s es n number (standing place txs outs [] 0) (map part_of (out_of_line o)) ≡ Some (standing places.Outcomes txs (outs ++ out_at number o ∷ []) [] 0)
  out_read places.Entries may number txs outs o h = ap (option_map (with_out (standing places.Entries txs outs [] 0))) (out_back s sizes es n set number o h)
  out_read places.Outcomes may number txs outs o h = ap (option_map (with_out (standing places.Outcomes txs outs [] 0))) (out_back s sizes es n set number o h)
  out_read places.Head may number txs outs o h = absurd may
  out_read (places.Sessions v) may number txs outs o h = absurd may
  out_read places.Bounds may number txs outs o h = absurd may
  out_read places.End may number txs outs o h = absurd may
  out_read places.Done may number txs outs o h = absurd may

  outs_read : (os : List OutLine) → AllByRecursion (IsWritableOut s sizes n) os → (place : Place) → MayAnswer place → (i : ℕ) (txs : List TxLine) (outs : List OutLine) (last : List Fact) →
      IsState s sizes last → Goes here i (out_pieces_all os last) (standing place txs outs [] 0) (standing places.Done txs (outs ++ out_lines (first + i) os) last (first + i + length os))
  outs_read [] h place may i txs outs last final =
      let outs_same : outs ≡ outs ++ [] = sym (append-nil outs) in
      let line : first + i ≡ first + i + 0 = omega arith in
      subst (λ all. Goes here i (end_lines last) (standing place txs outs [] 0) (standing places.Done txs all last (first + i + 0))) outs_same
      (subst (λ k. Goes here i (end_lines last) (standing place txs outs [] 0) (standing places.Done txs outs last k)) line
      (goes_on here i (final_pieces s es last) ((Key keys.End ∷ []) ∷ []) (standing place txs outs [] 0) (standing places.End txs outs last (first + i)) (standing places.Done txs outs last (first + i))
      (final_read place may (first + i) txs outs last final)
      (goes_on here (i + 1) (Key keys.End ∷ []) [] (standing places.End txs outs last (first + i)) (standing places.Done txs outs last (first + i)) (standing places.Done txs outs last (first + i)) refl (λ at. refl))))
  outs_read (o ∷ os) h place may i txs outs last final =
      let behind = outs ++ out_at (first + i) o ∷ [] in
      let rest = outs_read os h.1 places.Outcomes tt (i + 1) txs behind last final in
      let next : first + (i + 1) ≡ first + i + 1 = omega arith in
      let all : behind ++ out_lines (first + (i + 1)) os ≡ outs ++ out_lines (first + i) (o ∷ os) =
      append_assoc outs (out_at (first + i) o ∷ []) (out_lines (first + (i + 1)) os)
      ∙ ap (λ k. outs ++ (out_at (first + i) o ∷ out_lines k os)) next in
      let line : first + (i + 1) + length os ≡ first + i + length (o ∷ os) = omega arith in
      let moved_on = subst (λ k. Goes here (i + 1) (out_pieces_all os last) (standing places.Outcomes txs behind [] 0) (standing places.Done txs (outs ++ out_lines (first + i) (o ∷ os)) last k)) line
      (subst (λ outcomes. Goes here (i + 1) (out_pieces_all os last) (standing places.Outcomes txs behind [] 0) (standing places.Done txs outcomes last (first + (i + 1) + length os))) all rest) in
      goes_on here i (out_of_line o) (out_pieces_all os last) (standing place txs outs [] 0) (standing places.Outcomes txs behind [] 0) (standing places.Done txs (outs ++ out_lines (first + i) (o ∷ os)) last (first + i + length (o ∷ os)))
      (out_read place may (first + i) txs outs o h.0) moved_on

  abbrev entry_lines : List Tx → List OutLine → List Fact → List (List Piece)
  entry_lines ts os last = map (tx_pieces s es n) ts ++ out_pieces_all os last

  txs_read : (ts : List Tx) → AllByRecursion (IsWritableTx s sizes n) ts → (os : List OutLine) → AllByRecursion (IsWritableOut s sizes n) os → (i : ℕ) (txs : List TxLine) (last : List Fact) →
      IsState s sizes last → Goes here i (entry_lines ts os last) (standing places.Entries txs [] [] 0)
      (standing places.Done (txs ++ tx_lines (first + i) ts) (out_lines (first + i + length ts) os) last (first + i + length ts + length os))
  txs_read [] h os k i txs last final =
      let txs_same : txs ≡ txs ++ [] = sym (append-nil txs) in
      let line : first + i ≡ first + i + 0 = omega arith in
      subst (λ all. Goes here i (out_pieces_all os last) (standing places.Entries txs [] [] 0) (standing places.Done all (out_lines (first + i + 0) os) last (first + i + 0 + length os))) txs_same
      (subst (λ j. Goes here i (out_pieces_all os last) (standing places.Entries txs [] [] 0) (standing places.Done txs (out_lines j os) last (j + length os))) line
      (outs_read os k places.Entries tt i txs [] last final))
  txs_read (t ∷ ts) h os k i txs last final =
      let behind : List TxLine = txs ++ record { line = first + i; tx = t } ∷ [] in
      let rest = txs_read ts h.1 os k (i + 1) behind last final in
      let next : first + (i + 1) ≡ first + i + 1 = omega arith in
      let all : behind ++ tx_lines (first + (i + 1)) ts ≡ txs ++ tx_lines (first + i) (t ∷ ts) =
      append_assoc txs (record { line = first + i; tx = t } ∷ []) (tx_lines (first + (i + 1)) ts)
      ∙ ap (λ j. txs ++ (record { line = first + i; tx = t } ∷ tx_lines j ts)) next in
      let line : first + (i + 1) + length ts ≡ first + i + length (t ∷ ts) = omega arith in
      let moved_on = subst (λ j. Goes here (i + 1) (entry_lines ts os last) (standing places.Entries behind [] [] 0) (standing places.Done (txs ++ tx_lines (first + i) (t ∷ ts)) (out_lines j os) last (j + length os))) line
      (subst (λ transactions. Goes here (i + 1) (entry_lines ts os last) (standing places.Entries behind [] [] 0) (standing places.Done transactions (out_lines (first + (i + 1) + length ts) os) last (first + (i + 1) + length ts + length os))) all rest) in
      goes_on here i (tx_pieces s es n t) (entry_lines ts os last) (standing places.Entries txs [] [] 0) (standing places.Entries behind [] [] 0) (standing places.Done (txs ++ tx_lines (first + i) (t ∷ ts)) (out_lines (first + i + length (t ∷ ts)) os) last (first + i + length (t ∷ ts) + length os))
      (ap (option_map (with_tx (standing places.Entries txs [] [] 0) (first + i))) (tx_back s sizes es n set t h.0)) moved_on

  -- the lines of a whole journal
  abbrev pub lines : List Tx → List OutLine → List Fact → List (List Piece)
  lines ts os last =
      (Key keys.Journal ∷ Number 2 ∷ []) ∷ (Key keys.Sessions ∷ Number n ∷ []) ∷ bounds_pieces s.bounds ∷ entry_lines ts os last

  pub all_read : (ts : List Tx) → AllByRecursion (IsWritableTx s sizes n) ts → (os : List OutLine) → AllByRecursion (IsWritableOut s sizes n) os → (last : List Fact) →
      IsState s sizes last → Goes here 0 (lines ts os last) start
      (standing places.Done (tx_lines (first + 3) ts) (out_lines (first + 3 + length ts) os) last (first + 3 + length ts + length os))
  all_read ts h os k last final =
      let next = standing places.Done (tx_lines (first + 3) ts) (out_lines (first + 3 + length ts) os) last (first + 3 + length ts + length os) in
      goes_on here 0 (Key keys.Journal ∷ Number 2 ∷ []) ((Key keys.Sessions ∷ Number n ∷ []) ∷ bounds_pieces s.bounds ∷ entry_lines ts os last) start (standing (places.Sessions Two) [] [] [] 0) next refl
      (goes_on here 1 (Key keys.Sessions ∷ Number n ∷ []) (bounds_pieces s.bounds ∷ entry_lines ts os last) (standing (places.Sessions Two) [] [] [] 0) (standing places.Bounds [] [] [] 0) next
      (ap (λ b. option_map (moved (standing (places.Sessions Two) [] [] [] 0)) (cond b (Some places.Bounds) None)) (eq-eqb n n refl))
      (goes_on here 2 (bounds_pieces s.bounds) (entry_lines ts os last) (standing places.Bounds [] [] [] 0) (standing places.Entries [] [] [] 0) next
      (ap (λ b. option_map (moved (standing places.Bounds [] [] [] 0)) (cond b (Some places.Entries) None)) (bounds_said s s.bounds refl))
      (txs_read ts h os k 3 [] last final)))
