-- What is read can be written.
--
--   IsKept st      what stands so far can be written
--   read_writable  so can what a journal says
use Rattle.std.proofs.Common.{◌≡◌, ℕ, Bool, true, false, cond, List, [], ◌∷◌, ◌++◌, map, drop, Option, None, Some, refl, sym, subst, ◌∙◌}
use Rattle.std.specs.List.{fold, All, AllByRecursion}
use Rattle.std.specs.Option.{option_map}
use Rattle.std.proofs.lemmas.List.Elements.{All-from_recursion, recursion_from_All}
use Rattle.std.proofs.lemmas.Option.{same_Some}
use Rattle.ipa_text.specs.Lines.{line_text}
use Rattle.ipa_logic.specs.Facts.{IsState}
use Rattle.ipa_journal.specs.Meaning.{state_in, tx_in, out_in}
use Rattle.ipa_journal.specs.Order.{start, moved, with_tx, with_out, with_final, next_place, final_standing, result_standing, next_at}
use Rattle.ipa_journal.specs.Parts.{is_key}
use Rattle.ipa_journal.specs.Readings.{Context, Said, with_said, number_of, IsSaid, ReadsAs}
use Rattle.ipa_journal.specs.declared.keywords.Keyword.TheVariants as keys
use Rattle.ipa_journal.specs.declared.journal.Journal.{Journal}
use Rattle.ipa_journal.specs.declared.journal.TxLine.{TxLine}
use Rattle.ipa_journal.specs.declared.parts.Part.{Part}
use Rattle.ipa_journal.specs.declared.standing.Place.{Place}
use Rattle.ipa_journal.specs.declared.standing.Place.TheVariants as places
use Rattle.ipa_journal.specs.declared.standing.Standing.{Standing}
use Rattle.ipa_journal_laws.specs.Writable.{IsSetting, IsWritable, IsWritableTx, IsWritableOut}
use Rattle.ipa_journal_laws.specs.Written.{txs_of}
use Rattle.ipa_journal_laws.proofs.Cases.{cond_some, mapped_some}
use Rattle.ipa_journal_laws.proofs.FactsOf.{no_facts, state_of}
use Rattle.ipa_journal_laws.proofs.OutOf.{out_writable}
use Rattle.ipa_journal_laws.proofs.Small.{AreSmall, small_parts}
use Rattle.ipa_journal_laws.proofs.TxOf.{tx_writable}

one_more : {X : Type 0} (P : X → Type 0) (xs : List X) (x : X) → AllByRecursion P xs → P x → AllByRecursion P (xs ++ x ∷ [])
one_more P [] x h p = (p, tt)
one_more P (y ∷ xs) x h p = (h.0, one_more P xs x h.1 p)

mapped_all : {X Y : Type 0} (P : Y → Type 0) (of : X → Y) (xs : List X) → AllByRecursion (λ x. P (of x)) xs → AllByRecursion P (map of xs)
mapped_all P of [] h = tt
mapped_all P of (x ∷ xs) h = (h.0, mapped_all P of xs h.1)

module _ (c : Context) (sizes : List ℕ) (set : IsSetting c.spec sizes c.elements c.sessions) where
  record IsKept (st : Standing) : Type 0 where
    transactions : AllByRecursion (λ (l : TxLine). IsWritableTx c.spec sizes c.sessions l.tx) st.transactions
    outcomes : AllByRecursion (IsWritableOut c.spec sizes c.sessions) st.outcomes
    last : IsState c.spec sizes st.last

  kept_start : IsKept start
  kept_start = record { transactions = tt; outcomes = tt; last = no_facts c.spec sizes c.elements c.sessions set }

  kept_moved : (place : Option Place) (st next : Standing) → IsKept st → option_map (moved st) place ≡ Some next → IsKept next
  kept_moved place st next h e =
      let mapped = mapped_some (moved st) place next e in
      let there : IsKept (moved st mapped.0) = record { transactions = h.transactions; outcomes = h.outcomes; last = h.last } in
      subst IsKept mapped.2 there

  kept_final : (number : ℕ) (st next : Standing) (ps : List Part) → IsKept st →
      final_standing c.spec c.elements number st ps ≡ Some next → IsKept next
  kept_final number st next ps h e =
      let found = cond_some (is_key ps 0 keys.Final) (option_map (with_final st number) (state_in c.spec c.elements (drop 1 ps))) next e in
      let mapped = mapped_some (with_final st number) (state_in c.spec c.elements (drop 1 ps)) next found.1 in
      let there : IsKept (with_final st number mapped.0) = record {
        transactions = h.transactions;
        outcomes = h.outcomes;
        last = state_of c.spec sizes c.elements c.sessions set (drop 1 ps) mapped.0 mapped.1;
      } in
      subst IsKept mapped.2 there

  kept_result : (b : Bool) (number : ℕ) (st next : Standing) (ps : List Part) → AreSmall ps → IsKept st →
      cond b (option_map (with_out st) (out_in c.spec c.elements c.sessions number ps)) (final_standing c.spec c.elements number st ps) ≡ Some next → IsKept next
  kept_result true number st next ps small h e =
      let mapped = mapped_some (with_out st) (out_in c.spec c.elements c.sessions number ps) next e in
      let there : IsKept (with_out st mapped.0) = record {
        transactions = h.transactions;
        outcomes = one_more (IsWritableOut c.spec sizes c.sessions) st.outcomes mapped.0 h.outcomes (out_writable c.spec sizes c.elements c.sessions set number ps mapped.0 small mapped.1);
        last = h.last;
      } in
      subst IsKept mapped.2 there
  kept_result false number st next ps small h e = kept_final number st next ps h e

  kept_entry : (b : Bool) (number : ℕ) (st next : Standing) (ps : List Part) → AreSmall ps → IsKept st →
      cond b (option_map (with_tx st number) (tx_in c.spec c.elements c.sessions ps)) (result_standing c.spec c.elements c.sessions number st ps) ≡ Some next → IsKept next
  kept_entry true number st next ps small h e =
      let mapped = mapped_some (with_tx st number) (tx_in c.spec c.elements c.sessions ps) next e in
      let there : IsKept (with_tx st number mapped.0) = record {
        transactions = one_more (λ (l : TxLine). IsWritableTx c.spec sizes c.sessions l.tx) st.transactions (record { line = number; tx = mapped.0 }) h.transactions (tx_writable c.spec sizes c.elements c.sessions set ps mapped.0 small mapped.1);
        outcomes = h.outcomes;
        last = h.last;
      } in
      subst IsKept mapped.2 there
  kept_entry false number st next ps small h e = kept_result (is_key ps 0 keys.Out) number st next ps small h e

  kept_at : (place : Place) (number : ℕ) (st next : Standing) (ps : List Part) → AreSmall ps → IsKept st →
      next_at place c.spec c.elements c.sessions number st ps ≡ Some next → IsKept next
  kept_at places.Head number st next ps small h e = kept_moved (next_place c.spec c.sessions places.Head ps) st next h e
  kept_at (places.Sessions v) number st next ps small h e = kept_moved (next_place c.spec c.sessions (places.Sessions v) ps) st next h e
  kept_at places.Bounds number st next ps small h e = kept_moved (next_place c.spec c.sessions places.Bounds ps) st next h e
  kept_at places.Entries number st next ps small h e = kept_entry (is_key ps 0 keys.Tx) number st next ps small h e
  kept_at places.Outcomes number st next ps small h e = kept_result (is_key ps 0 keys.Out) number st next ps small h e
  kept_at places.End number st next ps small h e = kept_moved (next_place c.spec c.sessions places.End ps) st next h e
  kept_at places.Done number st next ps small h e = kept_moved (next_place c.spec c.sessions places.Done ps) st next h e

  nothing_behind : (xs : List Said) → fold (with_said c) None xs ≡ None
  nothing_behind [] = refl
  nothing_behind (x ∷ xs) = nothing_behind xs

  kept_all : (bytes : List ℕ) (xs : List Said) (o : Option Standing) (next : Standing) → AllByRecursion (IsSaid bytes) xs →
      ((st : Standing) → o ≡ Some st → IsKept st) → fold (with_said c) o xs ≡ Some next → IsKept next
  kept_all bytes [] o next each h e = h next e
  kept_all bytes (x ∷ xs) None next each h e = absurd (let none : None ≡ Some next = sym (nothing_behind xs) ∙ e in cc)
  kept_all bytes (x ∷ xs) (Some st) next each h e =
      kept_all bytes xs (with_said c (Some st) x) next each.1
      (λ behind is. kept_at st.place (number_of c x.line) st behind x.parts (small_parts (line_text bytes x.line) x.parts each.0) (h st refl) is) e

  pub read_writable : (bytes : List ℕ) (j : Journal) → ReadsAs c bytes j → IsWritable c.spec sizes c.sessions (txs_of j) j.outcomes j.last
  read_writable bytes j h =
      let read = h.read in
      let kept = kept_all bytes read.said (Some start) h.standing (recursion_from_All (IsSaid bytes) read.said read.each)
      (λ st is. subst IsKept (same_Some start st is) kept_start) read.standing_is in
      let txs = mapped_all (IsWritableTx c.spec sizes c.sessions) (λ (l : TxLine). l.tx) h.standing.transactions kept.transactions in
      let all = All-from_recursion (IsWritableTx c.spec sizes c.sessions) (map (λ (l : TxLine). l.tx) h.standing.transactions) txs in
      let outs = All-from_recursion (IsWritableOut c.spec sizes c.sessions) h.standing.outcomes kept.outcomes in
      record {
        transactions = subst (λ ls. All (IsWritableTx c.spec sizes c.sessions) (map (λ (l : TxLine). l.tx) ls)) (sym h.journal_is.transactions) all;
        outcomes = subst (All (IsWritableOut c.spec sizes c.sessions)) (sym h.journal_is.outcomes) outs;
        last_facts = subst (IsState c.spec sizes) (sym h.journal_is.last) kept.last;
      }
