-- What the parts of an outcome's line mean is an outcome that can be written.
--
--   reason_writable, answer_writable, out_writable   of a reason, an answer and an outcome
use Rattle.std.proofs.Common.{◌≡◌, ℕ, zero, suc, ◌+◌, ◌-◌, ◌<◌, ◌≤◌, ◌^◌, Bool, true, false, ◌&&◌, ◌==◌, cond, nat_le, List, [], length, take, drop, Option, None, Some, refl, sym, ap, subst, ◌∙◌, arith}
use Rattle.std.specs.Prelude.{option_and_then}
use Rattle.std.specs.Option.{option_map, option_map_or}
use Rattle.std.proofs.lemmas.Bool.{and_parts, leb-true, ne_eqb}
use Rattle.std.proofs.lemmas.List.{length-map}
use Rattle.std.proofs.lemmas.Option.{same_Some}
use Rattle.ipa_spec.specs.Actions.{sorts_of_vars}
use Rattle.ipa_spec.specs.Faults.{same_name}
use Rattle.ipa_spec.specs.declared.names.Name.{Name}
use Rattle.ipa_spec.specs.declared.specification.Specification.{Specification}
use Rattle.ipa_logic.specs.Truth.{IsOver}
use Rattle.ipa_history.specs.declared.reasons.Reason.{Reason}
use Rattle.ipa_history.specs.declared.reasons.Reason.TheVariants.{NotWithin, Need, Over, NotTheDrop}
use Rattle.ipa_history.specs.declared.answers.Answer.{Answer}
use Rattle.ipa_history.specs.declared.answers.Answer.TheVariants.{Commit, Refused, Shown}
use Rattle.ipa_journal.specs.Naming.{four_of, clause_sorts}
use Rattle.ipa_journal.specs.Meaning.{values_in, bound_named, clause_named, bound_at, need_of, need_reason, broken_with, clause_broken, clause_said, clause_reason, drop_reason, reason_in, commit_in, answer_in, state_in, place_of, head_of, out_head, out_with, out_of, out_in, origin_at, counts_in}
use Rattle.ipa_journal.specs.Parts.{word_at, number_at, group_at, is_key}
use Rattle.ipa_journal.specs.declared.keywords.Keyword.TheVariants as keys
use Rattle.ipa_journal.specs.declared.answers.OutHead.{OutHead}
use Rattle.ipa_journal.specs.declared.journal.OutLine.{OutLine}
use Rattle.ipa_journal.specs.declared.parts.Part.{Part}
use Rattle.ipa_journal_laws.specs.Writable.{IsSetting, IsInstance, IsWritableReason, IsWritableAnswer, IsWritableOut}
use Rattle.ipa_journal_laws.proofs.Cases.{cond_some, mapped_some, chosen_some, position_within}
use Rattle.ipa_journal_laws.proofs.Facts.{fits}
use Rattle.ipa_journal_laws.proofs.FactsOf.{state_of}
use Rattle.ipa_journal_laws.proofs.Named.{item_at}
use Rattle.ipa_journal_laws.proofs.Small.{AreSmall, small_take, small_drop, number_small}
use Rattle.ipa_journal_laws.proofs.TxOf.{cut_of, origin_within, counts_part}
use Rattle.ipa_journal_laws.proofs.ValuesOf.{values_over}

-- the number of a place, written from 1, is below 2 ^ 32
place_small : (ps : List Part) (o : Option ℕ) (place : ℕ) → AreSmall ps → number_at ps 2 ≡ o → place_of o ≡ Some place → place + 1 < 2 ^ 32
place_small ps None place small at e = cc
place_small ps (Some zero) place small at e = cc
place_small ps (Some (suc k)) place small at e =
    let below = number_small ps 2 (suc k) small at in
    let some : (suc k == 0) ≡ false = ne_eqb (suc k) 0 (λ z. omega (arith, z)) in
    let less : Some (suc k - 1) ≡ Some place = sym (ap (λ b. cond b None (Some (suc k - 1))) some) ∙ e in
    omega (arith, below, same_Some (suc k - 1) place less)

record HeadParts (a b : Option ℕ) (c : Option (List ℕ)) (h : OutHead) : Type 0 where
  session : a ≡ Some h.session
  place : b ≡ Some h.place
  counts : c ≡ Some h.cut.counts

head_parts : (a b : Option ℕ) (c : Option (List ℕ)) (h : OutHead) → head_of a b c ≡ Some h → HeadParts a b c h
head_parts None b c h e = cc
head_parts (Some i) None c h e = cc
head_parts (Some i) (Some k) None h e = cc
head_parts (Some i) (Some k) (Some counts) h e =
    let same = same_Some _ h e in
    record {
      session = ap (λ u. Some u.session) same;
      place = ap (λ u. Some u.place) same;
      counts = ap (λ u. Some u.cut.counts) same;
    }

out_parts : (number : ℕ) (a : Option OutHead) (b : Option Answer) (o : OutLine) → out_of number a b ≡ Some o →
    (head : OutHead) × (answer : Answer) × (a ≡ Some head) × (b ≡ Some answer) × (out_with number head answer ≡ o)
out_parts number None b o e = cc
out_parts number (Some head) None o e = cc
out_parts number (Some head) (Some answer) o e = (head, answer, refl, refl, same_Some (out_with number head answer) o e)

module _ (s : Specification) (sizes : List ℕ) (es : List (List Name)) (n : ℕ) (set : IsSetting s sizes es n) where
  bound_within : (ps : List Part) (k : ℕ) → bound_at s ps ≡ Some k → k < length s.bounds
  bound_within ps k e =
      let found = cond_some (length ps == 2) (option_and_then (bound_named s) (word_at ps 1)) k e in
      let word = chosen_some (bound_named s) (word_at ps 1) k found.1 in
      position_within (λ b. same_name b.name word.0) s.bounds k word.2

  need_within : (o : Option ℕ) (r : Reason) → need_of o ≡ Some r → IsWritableReason s sizes r
  need_within None r e = cc
  need_within (Some k) r e =
      let found = cond_some (nat_le 1 k && nat_le k 6) (Some (Need (k - 1))) r e in
      let bounds = and_parts (nat_le 1 k) (nat_le k 6) found.0 in
      subst (IsWritableReason s sizes) (same_Some (Need (k - 1)) r found.1) (omega (arith, leb-true 1 k bounds.0, leb-true k 6 bounds.1))

  instance_of : (o : Option ℕ) (w : Name) (ns : List Name) (r : Reason) → clause_named s w ≡ o → clause_broken s es ns o ≡ Some r → IsWritableReason s sizes r
  instance_of None w ns r named e = cc
  instance_of (Some k) w ns r named e =
      let fit = fits s sizes es n set in
      let it = item_at s.clauses k (position_within (λ c. same_name c.name w) s.clauses k named) in
      let mapped = mapped_some (broken_with k) (values_in es (clause_sorts s k) ns) r e in
      let sorts : List ℕ = sorts_of_vars it.0.vars in
      let four : clause_sorts s k ≡ four_of sorts = ap (λ o. four_of (option_map_or (λ c. sorts_of_vars c.vars) o [])) it.1 in
      let means = ap (λ l. values_in es l ns) (sym four) ∙ mapped.1 in
      let count : length sorts ≤ 4 = omega (arith, fit.variable_count k it.0 it.1, length-map it.0.vars (λ v. v.sort)) in
      let over = values_over es sorts count
      (λ j sort at. let below = fit.variable_sort k j sort it.0 it.1 at in omega (arith, below, fit.sort_count)) ns mapped.0 means in
      let here : IsInstance s sizes (record { clause = k; values = mapped.0 }) = record {
        clause = it.0;
        declared = it.1;
        values = subst (λ u. IsOver u sorts mapped.0) (sym set.sizes_are) over.over;
      } in
      subst (IsWritableReason s sizes) mapped.2 here

  clause_of : (w : Option Name) (ns : Option (List Name)) (r : Reason) → clause_said s es w ns ≡ Some r → IsWritableReason s sizes r
  clause_of None ns r e = cc
  clause_of (Some w) None r e = cc
  clause_of (Some w) (Some ns) r e = instance_of (clause_named s w) w ns r refl e

  bound_reason : (of : ℕ → Reason) → ((k : ℕ) → k < length s.bounds → IsWritableReason s sizes (of k)) → (ps : List Part) (r : Reason) →
      option_map of (bound_at s ps) ≡ Some r → IsWritableReason s sizes r
  bound_reason of is ps r e =
      let mapped = mapped_some of (bound_at s ps) r e in
      subst (IsWritableReason s sizes) mapped.2 (is mapped.0 (bound_within ps mapped.0 mapped.1))

  reason_by : (within need clause over : Bool) (ps : List Part) (r : Reason) →
      cond within (option_map NotWithin (bound_at s ps)) (cond need (need_reason ps) (cond clause (clause_reason s es ps) (cond over (option_map Over (bound_at s ps)) (drop_reason ps)))) ≡ Some r →
      IsWritableReason s sizes r
  reason_by true need clause over ps r e = bound_reason NotWithin (λ k l. l) ps r e
  reason_by false true clause over ps r e =
      need_within (number_at ps 1) r (cond_some (length ps == 2) (need_of (number_at ps 1)) r e).1
  reason_by false false true over ps r e =
      clause_of (word_at ps 1) (group_at ps 2) r (cond_some (length ps == 3) (clause_said s es (word_at ps 1) (group_at ps 2)) r e).1
  reason_by false false false true ps r e = bound_reason Over (λ k l. l) ps r e
  reason_by false false false false ps r e =
      let found = cond_some (is_key ps 0 keys.Drop && length ps == 1) (Some NotTheDrop) r e in
      subst (IsWritableReason s sizes) (same_Some NotTheDrop r found.1) tt

  reason_writable : (ps : List Part) (r : Reason) → reason_in s es ps ≡ Some r → IsWritableReason s sizes r
  reason_writable ps r e = reason_by (is_key ps 0 keys.Within) (is_key ps 0 keys.Need) (is_key ps 0 keys.Clause) (is_key ps 0 keys.Over) ps r e

  answer_by : (commit refused shown : Bool) (ps : List Part) (a : Answer) → AreSmall ps →
      cond commit (commit_in ps) (cond refused (option_map Refused (reason_in s es (drop 1 ps))) (cond shown (option_map Shown (state_in s es (drop 1 ps))) None)) ≡ Some a →
      IsWritableAnswer s sizes a
  answer_by true refused shown ps a small e =
      let found = cond_some (length ps == 2) (option_map Commit (number_at ps 1)) a e in
      let mapped = mapped_some Commit (number_at ps 1) a found.1 in
      subst (IsWritableAnswer s sizes) mapped.2 (number_small ps 1 mapped.0 small mapped.1)
  answer_by false true shown ps a small e =
      let mapped = mapped_some Refused (reason_in s es (drop 1 ps)) a e in
      subst (IsWritableAnswer s sizes) mapped.2 (reason_writable (drop 1 ps) mapped.0 mapped.1)
  answer_by false false true ps a small e =
      let mapped = mapped_some Shown (state_in s es (drop 1 ps)) a e in
      subst (IsWritableAnswer s sizes) mapped.2 (state_of s sizes es n set (drop 1 ps) mapped.0 mapped.1)
  answer_by false false false ps a small e = cc

  answer_writable : (ps : List Part) (a : Answer) → AreSmall ps → answer_in s es ps ≡ Some a → IsWritableAnswer s sizes a
  answer_writable ps a small e = answer_by (is_key ps 0 keys.Commit) (is_key ps 0 keys.Refused) (is_key ps 0 keys.Shown) ps a small e

  pub out_writable : (number : ℕ) (ps : List Part) (o : OutLine) → AreSmall ps → out_in s es n number ps ≡ Some o → IsWritableOut s sizes n o
  out_writable number ps o small e =
      let counts = take n (drop 4 ps) in
      let found = cond_some (nat_le (4 + n) (length ps) && is_key ps 3 keys.Cut) (out_of number (out_head n ps) (answer_in s es (drop (4 + n) ps))) o e in
      let long = (and_parts (nat_le (4 + n) (length ps)) (is_key ps 3 keys.Cut) found.0).0 in
      let parts = out_parts number (out_head n ps) (answer_in s es (drop (4 + n) ps)) o found.1 in
      let head = head_parts (origin_at n ps 1) (place_of (number_at ps 2)) (counts_in counts) parts.0 parts.2 in
      let there : IsWritableOut s sizes n (out_with number parts.0 parts.1) = record {
        session = origin_within n (number_at ps 1) parts.0.session head.session;
        place = place_small ps (number_at ps 2) parts.0.place small refl head.place;
        cut = cut_of n set.sessions counts parts.0.cut.counts (small_take n (drop 4 ps) (small_drop 4 ps small)) (counts_part n ps long) head.counts;
        answer = answer_writable (drop (4 + n) ps) parts.1 (small_drop (4 + n) ps small) parts.3;
      } in
      subst (IsWritableOut s sizes n) parts.4 there
