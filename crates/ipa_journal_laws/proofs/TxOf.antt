-- What the parts of a transaction's line mean is a transaction that can be written.
--
--   cut_of   the counts that are read are those of a cut of n origins
--   tx_of    so is the transaction
use Rattle.std.proofs.Common.{◌≡◌, ℕ, zero, suc, ◌+◌, ◌-◌, ◌<◌, ◌≤◌, ◌^◌, Bool, true, false, ◌&&◌, ◌==◌, cond, nat_le, List, [], ◌∷◌, ◌++◌, length, map, take, drop, replicate, Option, None, Some, refl, sym, ap, subst, arith}
use Rattle.std.specs.List.{slice_index, list_all}
use Rattle.std.proofs.lemmas.Bool.{and_parts, leb-true}
use Rattle.std.proofs.lemmas.List.{length-append, length-map, length-drop, length-take-le, length-replicate}
use Rattle.std.proofs.lemmas.Option.{same_Some}
use Rattle.ipa_spec.specs.Actions.{IsAction, sorts_of}
use Rattle.ipa_spec.specs.Faults.{same_name}
use Rattle.ipa_spec.specs.declared.names.Name.{Name}
use Rattle.ipa_spec.specs.declared.operations.Action.{Action}
use Rattle.ipa_spec.specs.declared.operations.Action.TheVariants.{Op, Drop}
use Rattle.ipa_spec.specs.declared.specification.Specification.{Specification}
use Rattle.ipa_logic.specs.Truth.{IsOver, IsArguments}
use Rattle.ipa_history.specs.declared.history.Tx.{Tx}
use Rattle.ipa_journal.specs.Naming.{action_sorts}
use Rattle.ipa_journal.specs.Meaning.{values_in, operation_named, bound_named, origin_of, origin_at, is_number, count_in, counts_in, done_with, operation_done, drop_done, done_said, done_in, tx_of, tx_in}
use Rattle.ipa_journal.specs.Parts.{word_at, number_at, group_at, is_key}
use Rattle.ipa_journal.specs.declared.keywords.Keyword.TheVariants as keys
use Rattle.ipa_journal.specs.declared.parts.Part.{Part}
use Rattle.ipa_journal.specs.declared.parts.Part.TheVariants.{Word, Number, Group}
use Rattle.ipa_journal.specs.declared.transactions.Done.{Done}
use Rattle.ipa_journal_laws.specs.Writable.{IsSetting, IsCutOf, IsWritableTx}
use Rattle.ipa_journal_laws.proofs.Cases.{cond_some, mapped_some, position_within}
use Rattle.ipa_journal_laws.proofs.Facts.{fits}
use Rattle.ipa_journal_laws.proofs.Small.{IsSmall, AreSmall, small_take, small_drop, number_small}
use Rattle.ipa_journal_laws.proofs.ValuesOf.{values_over}

zero_small : (m k : ℕ) → slice_index (replicate m 0) k < 2 ^ 32
zero_small zero k = omega arith
zero_small (suc m) zero = omega arith
zero_small (suc m) (suc k) = zero_small m k

zero_there : (m k : ℕ) → slice_index (replicate m 0) k ≡ 0
zero_there zero k = refl
zero_there (suc m) zero = refl
zero_there (suc m) (suc k) = zero_there m k

count_small : (p : Part) → IsSmall p → count_in p < 2 ^ 32
count_small (Word w) h = omega arith
count_small (Number k) h = h
count_small (Group ns) h = omega arith

counts_small : (ps : List Part) (m k : ℕ) → AreSmall ps → slice_index (map count_in ps ++ replicate m 0) k < 2 ^ 32
counts_small [] m k h = zero_small m k
counts_small (p ∷ ps) m zero h = count_small p h.0
counts_small (p ∷ ps) m (suc k) h = counts_small ps m k h.1

counts_past : (ps : List Part) (m k : ℕ) → length ps ≤ k → slice_index (map count_in ps ++ replicate m 0) k ≡ 0
counts_past [] m k l = zero_there m k
counts_past (p ∷ ps) m zero l = absurd (omega arith)
counts_past (p ∷ ps) m (suc k) l = counts_past ps m k (omega arith)

-- the counts of n origins
pub cut_of : (n : ℕ) → n ≤ 16 → (ps : List Part) (counts : List ℕ) → AreSmall ps → length ps ≡ n →
    counts_in ps ≡ Some counts → IsCutOf n (record { counts = counts })
cut_of n few ps counts small many e =
    let found = cond_some (list_all is_number ps) (Some (map count_in ps ++ replicate (16 - length ps) 0)) counts e in
    let all : IsCutOf n (record { counts = map count_in ps ++ replicate (16 - length ps) 0 }) = record {
      width = omega (arith, length-append (map count_in ps) (replicate (16 - length ps) 0), length-map ps count_in, length-replicate {A = ℕ} (16 - length ps) 0, many, few);
      counts = λ k. counts_small ps (16 - length ps) k small;
      none_past = λ k past. counts_past ps (16 - length ps) k (omega (arith, many, past));
    } in
    subst (λ cs. IsCutOf n (record { counts = cs })) (same_Some (map count_in ps ++ replicate (16 - length ps) 0) counts found.1) all

pub origin_within : (n : ℕ) (o : Option ℕ) (origin : ℕ) → origin_of n o ≡ Some origin → origin < n
origin_within n None origin e = cc
origin_within n (Some k) origin e =
    let found = cond_some (nat_le 1 k && nat_le k n) (Some (k - 1)) origin e in
    let bounds = and_parts (nat_le 1 k) (nat_le k n) found.0 in
    omega (arith, leb-true 1 k bounds.0, leb-true k n bounds.1, same_Some (k - 1) origin found.1)

-- the parts of the counts are n
pub counts_part : (n : ℕ) (ps : List Part) → nat_le (4 + n) (length ps) ≡ true → length (take n (drop 4 ps)) ≡ n
counts_part n ps h =
    let long = leb-true (4 + n) (length ps) h in
    length-take-le n (drop 4 ps) (omega (arith, long, length-drop 4 ps))

record TxParts (a b : Option ℕ) (c : Option (List ℕ)) (d : Option Done) (t : Tx) : Type 0 where
  origin : a ≡ Some t.dot.origin
  number : b ≡ Some t.dot.number
  counts : c ≡ Some t.cut.counts
  done : d ≡ Some (record { action = t.action; args = t.args; count = t.count })

tx_parts : (a b : Option ℕ) (c : Option (List ℕ)) (d : Option Done) (t : Tx) → tx_of a b c d ≡ Some t → TxParts a b c d t
tx_parts None b c d t e = cc
tx_parts (Some o) None c d t e = cc
tx_parts (Some o) (Some k) None d t e = cc
tx_parts (Some o) (Some k) (Some counts) None t e = cc
tx_parts (Some o) (Some k) (Some counts) (Some done) t e =
    let same = same_Some _ t e in
    record {
      origin = ap (λ u. Some u.dot.origin) same;
      number = ap (λ u. Some u.dot.number) same;
      counts = ap (λ u. Some u.cut.counts) same;
      done = ap (λ u. Some (record { action = u.action; args = u.args; count = u.count })) same;
    }

module _ (s : Specification) (sizes : List ℕ) (es : List (List Name)) (n : ℕ) (set : IsSetting s sizes es n) where
  pub record IsDone (d : Done) : Type 0 where
    pub action : IsAction s d.action
    pub args : IsArguments s sizes d.action d.args
    pub count : d.count ≡ length (sorts_of s d.action)

  done_over : (action : Action) (ns : List Name) (values : List ℕ) → IsAction s action →
      values_in es (action_sorts s action) ns ≡ Some values → IsDone (done_with action (length ns) values)
  done_over action ns values known means =
      let fit = fits s sizes es n set in
      let over = values_over es (sorts_of s action) (fit.argument_count action)
      (λ k sort at. let below = fit.argument_sort action k sort at in omega (arith, below, fit.sort_count)) ns values means in
      record {
        action = known;
        args = subst (λ u. IsOver u (sorts_of s action) values) (sym set.sizes_are) over.over;
        count = over.count;
      }

  operation_is : (o : Option ℕ) (w : Name) (ns : List Name) (d : Done) → operation_named s w ≡ o → operation_done s es ns o ≡ Some d → IsDone d
  operation_is None w ns d named e = cc
  operation_is (Some k) w ns d named e =
      let mapped = mapped_some (done_with (Op k) (length ns)) (values_in es (action_sorts s (Op k)) ns) d e in
      subst IsDone mapped.2 (done_over (Op k) ns mapped.0 (position_within (λ o. same_name o.name w) s.operations k named) mapped.1)

  drop_is : (o : Option ℕ) (w : Name) (ns : List Name) (d : Done) → bound_named s w ≡ o → drop_done s es ns o ≡ Some d → IsDone d
  drop_is None w ns d named e = cc
  drop_is (Some k) w ns d named e =
      let mapped = mapped_some (done_with (Drop k) (length ns)) (values_in es (action_sorts s (Drop k)) ns) d e in
      subst IsDone mapped.2 (done_over (Drop k) ns mapped.0 (position_within (λ b. same_name b.name w) s.bounds k named) mapped.1)

  action_is : (a b : Bool) (w : Name) (ns : List Name) (d : Done) →
      cond a (operation_done s es ns (operation_named s w)) (cond b (drop_done s es ns (bound_named s w)) None) ≡ Some d → IsDone d
  action_is true b w ns d e = operation_is (operation_named s w) w ns d refl e
  action_is false true w ns d e = drop_is (bound_named s w) w ns d refl e
  action_is false false w ns d e = cc

  done_is_said : (ps : List Part) (w : Option Name) (ns : Option (List Name)) (d : Done) → done_said s es ps w ns ≡ Some d → IsDone d
  done_is_said ps None ns d e = cc
  done_is_said ps (Some w) None d e = cc
  done_is_said ps (Some w) (Some ns) d e = action_is (is_key ps 0 keys.Do) (is_key ps 0 keys.Drop) w ns d e

  done_of : (ps : List Part) (d : Done) → done_in s es ps ≡ Some d → IsDone d
  done_of ps d e =
      let found = cond_some (length ps == 3) (done_said s es ps (word_at ps 1) (group_at ps 2)) d e in
      done_is_said ps (word_at ps 1) (group_at ps 2) d found.1

  pub tx_writable : (ps : List Part) (t : Tx) → AreSmall ps → tx_in s es n ps ≡ Some t → IsWritableTx s sizes n t
  tx_writable ps t small e =
      let counts = take n (drop 4 ps) in
      let found = cond_some (nat_le (4 + n) (length ps) && is_key ps 3 keys.Cut) (tx_of (origin_at n ps 1) (number_at ps 2) (counts_in counts) (done_in s es (drop (4 + n) ps))) t e in
      let long = (and_parts (nat_le (4 + n) (length ps)) (is_key ps 3 keys.Cut) found.0).0 in
      let parts = tx_parts (origin_at n ps 1) (number_at ps 2) (counts_in counts) (done_in s es (drop (4 + n) ps)) t found.1 in
      let done = done_of (drop (4 + n) ps) (record { action = t.action; args = t.args; count = t.count }) parts.done in
      record {
        origin = origin_within n (number_at ps 1) t.dot.origin parts.origin;
        number = number_small ps 2 t.dot.number small parts.number;
        cut = cut_of n set.sessions counts t.cut.counts (small_take n (drop 4 ps) (small_drop 4 ps small)) (counts_part n ps long) parts.counts;
        action = done.action;
        args = done.args;
        count = done.count;
      }
