-- The lines of a journal have numbers below 2 ^ 32, and begin with keywords.
--
--   head_lines, tx_line, out_line, final_line, end_line   each is a line
use Rattle.std.proofs.Common.{ℕ, zero, suc, ◌<◌, ◌≤◌, ◌^◌, List, [], ◌∷◌, ◌++◌, map, take, Option, None, Some, refl, arith}
use Rattle.std.specs.List.{slice_get, slice_index, flat_map}
use Rattle.std.specs.Option.{option_map_or}
use Rattle.ipa_spec.specs.declared.names.Name.{Name}
use Rattle.ipa_spec.specs.declared.bounds.Bound.{Bound}
use Rattle.ipa_spec.specs.declared.operations.Action.{Action}
use Rattle.ipa_spec.specs.declared.operations.Action.TheVariants.{Op, Drop}
use Rattle.ipa_spec.specs.declared.specification.Specification.{Specification}
use Rattle.ipa_logic.specs.declared.facts.Fact.{Fact}
use Rattle.ipa_history.specs.declared.history.Tx.{Tx}
use Rattle.ipa_history.specs.declared.reasons.Reason.{Reason}
use Rattle.ipa_history.specs.declared.reasons.Reason.TheVariants.{NotWithin, Need, Clause as Breaks, Over, NotTheDrop}
use Rattle.ipa_history.specs.declared.answers.Answer.{Answer}
use Rattle.ipa_history.specs.declared.answers.Answer.TheVariants.{Commit, Refused, Shown}
use Rattle.ipa_journal.specs.Naming.{declared_word, fact_pieces, facts_pieces, action_word, action_pieces, tx_pieces, reason_pieces, answer_pieces, out_pieces, final_pieces, pick_piece, bounds_pieces}
use Rattle.ipa_journal.specs.declared.keywords.Keyword.TheVariants as keys
use Rattle.ipa_journal.specs.declared.journal.OutLine.{OutLine}
use Rattle.ipa_journal.specs.declared.pieces.Piece.{Piece}
use Rattle.ipa_journal.specs.declared.pieces.Piece.TheVariants.{Key, Word, Number, Group}
use Rattle.ipa_journal_laws.specs.Writable.{IsWritableReason, IsWritableAnswer, IsWritableTx, IsWritableOut}
use Rattle.ipa_journal_laws.proofs.Spelled.{HaveNumbers}
use Rattle.ipa_journal_laws.proofs.Lined.{IsLineOf}

both : (ps qs : List Piece) → HaveNumbers ps → HaveNumbers qs → HaveNumbers (ps ++ qs)
both [] qs h k = k
both (p ∷ ps) qs h k = (h.0, both ps qs h.1 k)

counts_have : (n : ℕ) (counts : List ℕ) → ((k : ℕ) → slice_index counts k < 2 ^ 32) → HaveNumbers (map Number (take n counts))
counts_have zero counts h = tt
counts_have (suc n) [] h = tt
counts_have (suc n) (k ∷ counts) h = (h 0, counts_have n counts (λ j. h (suc j)))

word_has : {X : Type 0} (name_of : X → Name) (o : Option X) → HaveNumbers (option_map_or (λ x. Word (name_of x) ∷ []) o [])
word_has name_of None = tt
word_has name_of (Some x) = (tt, tt)

module _ (s : Specification) (es : List (List Name)) where
  group_behind : (ps : List Piece) (names : List Name) → HaveNumbers ps → HaveNumbers (ps ++ Group names ∷ [])
  group_behind ps names h = both ps (Group names ∷ []) h (tt, tt)

  fact_has : (f : Fact) → HaveNumbers (fact_pieces s es f)
  fact_has f = group_behind (declared_word (λ p. p.name) s.predicates f.predicate) _ (word_has (λ p. p.name) (slice_get s.predicates f.predicate))

  facts_flat : (fs : List Fact) → HaveNumbers (flat_map (fact_pieces s es) fs)
  facts_flat [] = tt
  facts_flat (f ∷ fs) = both (fact_pieces s es f) (flat_map (fact_pieces s es) fs) (fact_has f) (facts_flat fs)

  facts_have : (fs : List Fact) → HaveNumbers (facts_pieces s es fs)
  facts_have [] = (tt, tt)
  facts_have (f ∷ fs) = facts_flat (f ∷ fs)

  action_has : (action : Action) (args : List ℕ) → HaveNumbers (action_pieces s es action args)
  action_has (Op k) args = group_behind (action_word s (Op k)) _ (tt, word_has (λ o. o.name) (slice_get s.operations k))
  action_has (Drop k) args = group_behind (action_word s (Drop k)) _ (tt, word_has (λ b. b.name) (slice_get s.bounds k))

  pub tx_line : (sizes : List ℕ) (n : ℕ) → n ≤ 16 → (t : Tx) → IsWritableTx s sizes n t → IsLineOf (tx_pieces s es n t)
  tx_line sizes n few t h = record {
    numbers = (tt, (omega (arith, h.origin, few), (h.number, (tt, both (map Number (take n t.cut.counts)) (action_pieces s es t.action t.args) (counts_have n t.cut.counts h.cut.counts) (action_has t.action t.args)))));
    content = refl;
  }

  reason_has : (sizes : List ℕ) (r : Reason) → IsWritableReason s sizes r → HaveNumbers (reason_pieces s es r)
  reason_has sizes (NotWithin k) h = (tt, word_has (λ b. b.name) (slice_get s.bounds k))
  reason_has sizes (Need k) h = (tt, (omega (arith, h), tt))
  reason_has sizes (Breaks b) h = (tt, group_behind (declared_word (λ c. c.name) s.clauses b.clause) _ (word_has (λ c. c.name) (slice_get s.clauses b.clause)))
  reason_has sizes (Over k) h = (tt, word_has (λ b. b.name) (slice_get s.bounds k))
  reason_has sizes NotTheDrop h = (tt, tt)

  answer_has : (sizes : List ℕ) (a : Answer) → IsWritableAnswer s sizes a → HaveNumbers (answer_pieces s es a)
  answer_has sizes (Commit number) h = (tt, (h, tt))
  answer_has sizes (Refused r) h = (tt, reason_has sizes r h)
  answer_has sizes (Shown state) h = (tt, facts_have state)

  pub out_line : (sizes : List ℕ) (n : ℕ) → n ≤ 16 → (o : OutLine) → IsWritableOut s sizes n o → IsLineOf (out_pieces s es n o.session o.place o.cut o.answer)
  out_line sizes n few o h = record {
    numbers = (tt, (omega (arith, h.session, few), (h.place, (tt, both (map Number (take n o.cut.counts)) (answer_pieces s es o.answer) (counts_have n o.cut.counts h.cut.counts) (answer_has sizes o.answer h.answer)))));
    content = refl;
  }

  pub final_line : (last : List Fact) → IsLineOf (final_pieces s es last)
  final_line last = record { numbers = (tt, facts_have last); content = refl }

picks_have : (bs : List Bound) → HaveNumbers (map (λ c. pick_piece c.pick) bs)
picks_have [] = tt
picks_have (b ∷ bs) = (tt, picks_have bs)

pub bounds_line : (bs : List Bound) → IsLineOf (bounds_pieces bs)
bounds_line [] = record { numbers = (tt, (tt, tt)); content = refl }
bounds_line (b ∷ bs) = record { numbers = (tt, picks_have (b ∷ bs)); content = refl }

pub journal_line : IsLineOf (Key keys.Journal ∷ Number 2 ∷ [])
journal_line = record { numbers = (tt, (omega arith, tt)); content = refl }

pub sessions_line : (n : ℕ) → n ≤ 16 → IsLineOf (Key keys.Sessions ∷ Number n ∷ [])
sessions_line n few = record { numbers = (tt, (omega (arith, few), tt)); content = refl }

pub end_line : IsLineOf (Key keys.End ∷ [])
end_line = record { numbers = (tt, tt); content = refl }
