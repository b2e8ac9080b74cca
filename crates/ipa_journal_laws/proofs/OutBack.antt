-- The line of an outcome means the outcome.
--
--   reason_back   why an operation was refused is read back
--   answer_back   what a request was answered is read back
--   out_back      an outcome is read back, with the number of its line
use Rattle.std.proofs.Common.{◌≡◌, ℕ, ◌+◌, ◌-◌, ◌<◌, ◌≤◌, true, ◌&&◌, cond, nat_le, List, [], ◌∷◌, ◌++◌, length, map, take, drop, Option, None, Some, refl, ap, subst, ◌∙◌, arith}
use Rattle.std.specs.List.{slice_get}
use Rattle.std.specs.Option.{option_map, option_map_or}
use Rattle.std.proofs.lemmas.Bool.{and_from, le-leb, ne_eqb}
use Rattle.std.proofs.lemmas.List.{length-map, map-append}
use Rattle.ipa_spec.specs.Actions.{sorts_of_vars}
use Rattle.ipa_spec.specs.declared.names.Name.{Name}
use Rattle.ipa_spec.specs.declared.specification.Specification.{Specification}
use Rattle.ipa_logic.specs.Truth.{IsOver}
use Rattle.ipa_logic.specs.declared.facts.Broken.{Broken}
use Rattle.ipa_history.specs.declared.reasons.Reason.{Reason}
use Rattle.ipa_history.specs.declared.reasons.Reason.TheVariants.{NotWithin, Need, Clause as Breaks, Over, NotTheDrop}
use Rattle.ipa_history.specs.declared.answers.Answer.{Answer}
use Rattle.ipa_history.specs.declared.answers.Answer.TheVariants.{Commit, Refused, Shown}
use Rattle.ipa_journal.specs.Naming.{four_of, clause_sorts, elements_in, reason_pieces, answer_pieces, out_pieces}
use Rattle.ipa_journal.specs.Meaning.{values_in, bound_at, broken_with, clause_broken, reason_in, answer_in, place_of, head_of, out_head, out_of, out_in, origin_at, counts_in}
use Rattle.ipa_journal.specs.Parts.{number_at, is_key}
use Rattle.ipa_journal.specs.declared.keywords.Keyword.TheVariants as keys
use Rattle.ipa_journal.specs.declared.journal.OutLine.{OutLine}
use Rattle.ipa_journal.specs.declared.parts.Part.{Part}
use Rattle.ipa_journal.specs.declared.parts.Part.TheVariants as parts
use Rattle.ipa_journal.specs.declared.pieces.Piece.{Piece}
use Rattle.ipa_journal.specs.declared.pieces.Piece.TheVariants.{Key, Word, Number, Group}
use Rattle.ipa_journal_laws.specs.Writable.{IsSetting, IsInstance, IsWritableReason, IsWritableAnswer, IsWritableOut}
use Rattle.ipa_journal_laws.specs.Written.{out_at}
use Rattle.ipa_journal_laws.proofs.Spelled.{part_of}
use Rattle.ipa_journal_laws.proofs.Named.{item_at, position_named}
use Rattle.ipa_journal_laws.proofs.Values.{values_back}
use Rattle.ipa_journal_laws.proofs.Facts.{fits, own_names, state_back}
use Rattle.ipa_journal_laws.proofs.TxBack.{count_parts, count_parts-length, firsts, counts_back, counts_taken, counts_many, origin_back, behind_counts}

need_back : (k : ℕ) → k < 6 → cond (nat_le 1 (k + 1) && nat_le (k + 1) 6) (Some (Need (k + 1 - 1))) None ≡ Some (Need k)
need_back k l =
    ap (λ b. cond b (Some (Need (k + 1 - 1))) None) (and_from (nat_le 1 (k + 1)) (nat_le (k + 1) 6) (le-leb 1 (k + 1) (omega arith)) (le-leb (k + 1) 6 (omega arith)))
    ∙ ap (λ j. Some (Need j)) (omega arith)

place_back : (k : ℕ) → place_of (Some (k + 1)) ≡ Some k
place_back k =
    ap (λ b. cond b None (Some (k + 1 - 1))) (ne_eqb (k + 1) 0 (λ e. omega (arith, e)))
    ∙ ap Some (omega arith)

module _ (s : Specification) (sizes : List ℕ) (es : List (List Name)) (n : ℕ) (set : IsSetting s sizes es n) where
  -- a word, and the name of a bound
  bound_word : (k : ℕ) → k < length s.bounds → (first : Piece) →
      bound_at s (map part_of (first ∷ option_map_or (λ x. Word x.name ∷ []) (slice_get s.bounds k) [])) ≡ Some k
  bound_word k l first =
      let it = item_at s.bounds k l in
      ap (λ o. bound_at s (map part_of (first ∷ option_map_or (λ x. Word x.name ∷ []) o []))) it.1
      ∙ position_named (λ b. b.name) s.bounds k it.0 it.1 (own_names s sizes es n set).bound_names

  instance_back : (b : Broken) → IsInstance s sizes b →
      reason_in s es (map part_of (reason_pieces s es (Breaks b))) ≡ Some (Breaks b)
  instance_back b h =
      let fit = fits s sizes es n set in
      let sorts : List ℕ = sorts_of_vars h.clause.vars in
      let names = elements_in es (clause_sorts s b.clause) b.values in
      let named = position_named (λ c. c.name) s.clauses b.clause h.clause h.declared (own_names s sizes es n set).clause_names in
      let four : clause_sorts s b.clause ≡ four_of sorts = ap (λ o. four_of (option_map_or (λ c. sorts_of_vars c.vars) o [])) h.declared in
      let count : length sorts ≤ 4 = omega (arith, fit.variable_count b.clause h.clause h.declared, length-map h.clause.vars (λ v. v.sort)) in
      let back = values_back es set.apart b.values sorts count
      (λ k sort at. let known = fit.variable_sort b.clause k sort h.clause h.declared at in omega (arith, known, fit.sort_count))
      (subst (λ u. IsOver u sorts b.values) set.sizes_are h.values) in
      ap (λ o. reason_in s es (map part_of (Key keys.Clause ∷ option_map_or (λ x. Word x.name ∷ []) o [] ++ Group names ∷ []))) h.declared
      ∙ ap (clause_broken s es names) named
      ∙ ap (λ l. option_map (broken_with b.clause) (values_in es l (elements_in es l b.values))) four
      ∙ ap (option_map (broken_with b.clause)) back.means

  pub reason_back : (r : Reason) → IsWritableReason s sizes r → reason_in s es (map part_of (reason_pieces s es r)) ≡ Some r
  reason_back (NotWithin k) h = ap (option_map NotWithin) (bound_word k h (Key keys.Within))
  reason_back (Need k) h = need_back k h
  reason_back (Breaks b) h = instance_back b h
  reason_back (Over k) h = ap (option_map Over) (bound_word k h (Key keys.Over))
  reason_back NotTheDrop h = refl

  pub answer_back : (a : Answer) → IsWritableAnswer s sizes a → answer_in s es (map part_of (answer_pieces s es a)) ≡ Some a
  answer_back (Commit number) h = refl
  answer_back (Refused r) h = ap (option_map Refused) (reason_back r h)
  answer_back (Shown state) h = ap (option_map Shown) (state_back s sizes es n set state h)

  out_said : (number : ℕ) (ps : List Part) (session place : Option ℕ) (counts : Option (List ℕ)) (answer : Option Answer) →
      nat_le (4 + n) (length ps) ≡ true → is_key ps 3 keys.Cut ≡ true → origin_at n ps 1 ≡ session →
      place_of (number_at ps 2) ≡ place → counts_in (take n (drop 4 ps)) ≡ counts →
      answer_in s es (drop (4 + n) ps) ≡ answer → out_in s es n number ps ≡ out_of number (head_of session place counts) answer
  out_said number ps session place counts answer long key es-said ep ec ea =
      ap (λ b. cond b (out_of number (out_head n ps) (answer_in s es (drop (4 + n) ps))) None) (and_from (nat_le (4 + n) (length ps)) (is_key ps 3 keys.Cut) long key)
      ∙ (λ i. out_of number (head_of (es-said i) (ep i) (ec i)) (ea i))

  pub out_back : (number : ℕ) (o : OutLine) → IsWritableOut s sizes n o →
      out_in s es n number (map part_of (out_pieces s es n o.session o.place o.cut o.answer)) ≡ Some (out_at number o)
  out_back number o h =
      let counts = take n o.cut.counts in
      let later : List Part = map part_of (answer_pieces s es o.answer) in
      let head : List Part → List Part = λ ps. part_of (Key keys.Out) ∷ parts.Number (o.session + 1) ∷ parts.Number (o.place + 1) ∷ part_of (Key keys.Cut) ∷ ps in
      let whole : map part_of (out_pieces s es n o.session o.place o.cut o.answer) ≡ head (count_parts counts ++ later) = ap head (map-append part_of (map Number counts) (answer_pieces s es o.answer)) in
      let many = counts_many n set.sessions o.cut h.cut later in
      let long : 4 + n ≤ length (head (count_parts counts ++ later)) = omega (arith, many) in
      ap (out_in s es n number) whole
      ∙ out_said number (head (count_parts counts ++ later)) (Some o.session) (Some o.place) (Some o.cut.counts) (Some o.answer)
      (le-leb (4 + n) (length (head (count_parts counts ++ later))) long) refl (origin_back n o.session h.session) (place_back o.place)
      (ap counts_in (counts_taken n set.sessions o.cut h.cut later) ∙ counts_back n set.sessions o.cut h.cut)
      (ap (answer_in s es) (behind_counts s sizes es n set (part_of (Key keys.Out)) (parts.Number (o.session + 1)) (parts.Number (o.place + 1)) (part_of (Key keys.Cut)) (count_parts counts) later (count_parts-length counts ∙ firsts n set.sessions o.cut h.cut)) ∙ answer_back o.answer h.answer)
