-- Rows of a table.
use Rattle.std.proofs.Common.{◌≡◌, ℕ, ◌+◌, ◌<◌, ◌≤◌, Bool, true, false, ◌&&◌, ◌||◌, cond, List, [], ◌∷◌, ◌++◌, length, take, refl, sym, ◌∙◌, ap, subst, arith, Option, Some, None, inl, inr}
use Rattle.std.specs.Prelude.{◌==◌, nat_lt, replicate, slice_index_or, slice_set, unwrap_or, is_some, Result, Ok, Err, OnOk, OnErr}
use Rattle.std.specs.List.{fold}
use Rattle.std.specs.Option.{option_map_or}
use Rattle.std.specs.Ordering.{is_eq}
use Rattle.std.proofs.lemmas.Bool.{cases_eq, eqb-true, eq-eqb, false_from_ne_true, false≢true, and_from, ltb-true, lt-ltb}
use Rattle.std.proofs.lemmas.Bool.Decides.{nat_tests}
use Rattle.std.proofs.lemmas.List.{get_or-replicate, get_or-set_same, get_or-set_other, take_more}
use Rattle.std.proofs.lemmas.List.FromFn.{fill_by_all, length-map-range_with_len}
use Rattle.ipa_spec.specs.declared.operations.Effect.{Effect}
use Rattle.ipa_spec.specs.declared.specification.Specification.{Specification}
use Rattle.ipa_logic.specs.Facts.{fact_cmp}
use Rattle.ipa_logic.specs.FactLaws.{same-turned, fact_itself}
use Rattle.ipa_logic.specs.Touches.{gives, fact_given}
use Rattle.ipa_logic.specs.declared.facts.Fact.{Fact}
use Rattle.ipa_history.specs.declared.history.Tx.{Tx}
use Rattle.ipa_sets.specs.KeyLaws.{key_eq-same, key_eq-itself, key_cmp-eq}
use Rattle.ipa_sets.specs.Keys.{key_cmp, key_eq, key_of}
use Rattle.ipa_sets.specs.Lasts.{tx_at, last_of}
use Rattle.ipa_sets.specs.RowLaws.{origin-at}
use Rattle.ipa_sets.specs.Shapes.{has_shape, AreMet}
use Rattle.ipa_sets.specs.Rows.{RowTable, row_at, no_row, has_row, row_in, later, later_row, last_of_keys, last_from, lasts_of_rows, later_last, raised, put_in}
use Rattle.ipa_sets.specs.declared.keys.Key.{Key}
use Rattle.ipa_sets.specs.declared.lasts.Last.{Last}
use Rattle.ipa_sets.specs.declared.patterns.Pattern.{Pattern}
use Rattle.ipa_sets.specs.declared.shapes.Shapes.{Shapes}
use Rattle.ipa_sets.proofs.FillLemmas.{AreFilled}

-- a row with a transaction put into it
pub set-row : (row : List (Option Tx)) (t : Tx) (place : ℕ) → place ≡ t.dot.origin → length row ≡ 16 → t.dot.origin < 16 → (o : ℕ) →
    tx_at (slice_set row place (Some t)) o ≡ put_in true t row o
set-row row t place e long l o = elim (cases_eq o place) [
  | inl same ↦ ap (tx_at (slice_set row place (Some t))) same
      ∙ (get_or-set_same row place (Some t) None (omega (arith, l, long, e))
      ∙ sym (ap (λ (b : Bool). cond b (Some t) (tx_at row o)) (eq-eqb o t.dot.origin (same ∙ e))))
  | inr other ↦ get_or-set_other row place o (Some t) None other
      ∙ sym (ap (λ (b : Bool). cond b (Some t) (tx_at row o))
      (false_from_ne_true (o == t.dot.origin) (λ h. other (eqb-true o t.dot.origin h ∙ sym e))))
]

-- a table with a row that has a transaction put into it
pub put-row : (old new : RowTable) (key : Key) (t : Tx) (row : List (Option Tx)) →
    ((q : Key) → row_at new q ≡ cond (key_eq key q) (Some row) (row_at old q)) →
    ((o : ℕ) → tx_at row o ≡ put_in true t (row_in old key) o) →
    (k : Key) (o : ℕ) → tx_at (row_in new k) o ≡ put_in (key_eq key k) t (row_in old k) o
put-row old new key t row updates put k o = ap (λ (x : Option (List (Option Tx))). tx_at (unwrap_or x no_row) o) (updates k)
    ∙ by_key (key_eq key k) refl
  where
    by_key : (b : Bool) → key_eq key k ≡ b → tx_at (unwrap_or (cond b (Some row) (row_at old k)) no_row) o ≡ put_in b t (row_in old k) o
    by_key true e = subst (λ (q : Key). tx_at row o ≡ put_in true t (row_in old q) o) (key_eq-same key k e) (put o)
    by_key false e = refl

-- a table with the same rows has the same
pub has-same : (old new : RowTable) → ((k : Key) → row_at new k ≡ row_at old k) → (k : Key) →
    has_row old k ≡ true → has_row new k ≡ true
has-same old new same k h = ap (λ (x : Option (List (Option Tx))). is_some x) (same k) ∙ h

pub row-same : (old new : RowTable) → ((k : Key) → row_at new k ≡ row_at old k) → (k : Key) → row_in new k ≡ row_in old k
row-same old new same k = ap (λ (x : Option (List (Option Tx))). unwrap_or x no_row) (same k)

-- the row of a key without one is that without a transaction
pub absent-row : (table : RowTable) (key : Key) → has_row table key ≡ false → no_row ≡ row_in table key
absent-row table key none = by_row (row_at table key) none
  where
    by_row : (x : Option (List (Option Tx))) → is_some x ≡ false → no_row ≡ unwrap_or x no_row
    by_row None h = refl
    by_row (Some row) h = absurd (false≢true (sym h))

-- the same key has the same row
pub same-row : (table : RowTable) (key k : Key) → key_eq key k ≡ true → has_row table k ≡ has_row table key
same-row table key k h = ap (has_row table) (sym (key_eq-same key k h))

-- where a row is put under a key
module _ (old new : RowTable) (key : Key) (row : List (Option Tx))
    (updates : (q : Key) → row_at new q ≡ cond (key_eq key q) (Some row) (row_at old q)) where
  -- the table has the rows that it had
  pub put-kept : (k : Key) → has_row old k ≡ true → has_row new k ≡ true
  put-kept k h = ap (λ (x : Option (List (Option Tx))). is_some x) (updates k) ∙ by_key (key_eq key k)
    where
      by_key : (b : Bool) → is_some (cond b (Some row) (row_at old k)) ≡ true
      by_key true = refl
      by_key false = h

  -- it has one for the key
  pub put-made : (k : Key) → key_eq key k ≡ true → has_row new k ≡ true
  put-made k h = ap (λ (x : Option (List (Option Tx))). is_some x) (updates k)
      ∙ ap (λ (b : Bool). is_some (cond b (Some row) (row_at old k))) h

  -- and each row stays, where the one that is put was there
  pub put-same : row ≡ row_in old key → (k : Key) → row_in new k ≡ row_in old k
  put-same is k = ap (λ (x : Option (List (Option Tx))). unwrap_or x no_row) (updates k) ∙ by_key (key_eq key k) refl
    where
      by_key : (b : Bool) → key_eq key k ≡ b → unwrap_or (cond b (Some row) (row_at old k)) no_row ≡ row_in old k
      by_key true e = is ∙ ap (λ (q : Key). row_in old q) (key_eq-same key k e)
      by_key false e = refl

  -- and the shapes that have the key's have each
  pub put-met : (shapes more : Shapes) → AreMet (has_row old) shapes → (key.adds ≡ false → has_shape more key.pattern ≡ true) →
      ((p : Pattern) → has_shape shapes p ≡ true → has_shape more p ≡ true) → AreMet (has_row new) more
  put-met shapes more met here kept k there removes = by_key (key_eq key k) refl
    where
      by_key : (b : Bool) → key_eq key k ≡ b → has_shape more k.pattern ≡ true
      by_key true e = let same = key_eq-same key k e in
          subst (λ (q : Key). has_shape more q.pattern ≡ true) same (here (ap (λ (q : Key). q.adds) same ∙ removes))
      by_key false e = kept k.pattern (met k (sym (ap (λ (x : Option (List (Option Tx))). is_some x)
          (updates k ∙ ap (λ (b : Bool). cond b (Some row) (row_at old k)) e)) ∙ there) removes)

-- where it is absent there is no row
pub absent-none : (table : RowTable) (key : Key) → row_at table key ≡ None →
    has_row table key ≡ true → ⊥
absent-none table key none h = false≢true (sym (ap (λ (x : Option (List (Option Tx))). is_some x) none) ∙ h)

-- the row of the key of an effect
pub put-keyed : (s : Specification) (args : List ℕ) (e : Effect) (x : Option Effect) (key k : Key) → Some e ≡ x → key ≡ key_of s args e →
    key_eq key k ≡ option_map_or (λ e. is_eq (key_cmp (key_of s args e) k)) x false
put-keyed s args e x key k is same = ap (λ (q : Key). key_eq q k) same ∙ (sym (key_cmp-eq (key_of s args e) k)
    ∙ ap (λ (y : Option Effect). option_map_or (λ e. is_eq (key_cmp (key_of s args e) k)) y false) is)

-- the key of an effect is one of its keys
pub keyed-itself : (s : Specification) (args : List ℕ) (e : Effect) (x : Option Effect) (key : Key) → Some e ≡ x → key ≡ key_of s args e →
    option_map_or (λ e. is_eq (key_cmp (key_of s args e) key)) x false ≡ true
keyed-itself s args e x key is same = sym (put-keyed s args e x key key is same) ∙ key_eq-itself key

-- an add gives its fact
pub given-itself : (s : Specification) (args : List ℕ) (given : Fact) (e : Effect) (x : Option Effect) → Some e ≡ x →
    e.add ≡ true → given ≡ fact_given s args e → option_map_or (gives s args given) x false ≡ true
given-itself s args given e x is add same =
    ap (λ (y : Option Effect). option_map_or (gives s args given) y false) (sym is)
    ∙ and_from e.add (is_eq (fact_cmp (fact_given s args e) given)) add
    (subst (λ (g : Fact). is_eq (fact_cmp (fact_given s args e) g) ≡ true) (sym same) (fact_itself (fact_given s args e)))

-- the fact that an effect adds
pub given-known : (s : Specification) (args : List ℕ) (f given : Fact) (e : Effect) (x : Option Effect) (old : Bool) → Some e ≡ x →
    e.add ≡ true → given ≡ fact_given s args e → (is_eq (fact_cmp f given) || old) ≡ (option_map_or (gives s args f) x false || old)
given-known s args f given e x old is add same =
    ap (λ (g : Fact). is_eq (fact_cmp f g) || old) same
    ∙ (ap (λ (b : Bool). b || old) (same-turned f (fact_given s args e)
    ∙ sym (ap (λ (b : Bool). b && is_eq (fact_cmp (fact_given s args e) f)) add))
    ∙ ap (λ (y : Option Effect). option_map_or (gives s args f) y false || old) is)

-- what is not an add gives no fact
pub given-none : (s : Specification) (args : List ℕ) (f : Fact) (e : Effect) (x : Option Effect) (old : Bool) → Some e ≡ x →
    e.add ≡ false → old ≡ (option_map_or (gives s args f) x false || old)
given-none s args f e x old is add = sym (ap (λ (y : Option Effect). option_map_or (gives s args f) y false || old) (sym is)
    ∙ ap (λ (b : Bool). (b && is_eq (fact_cmp (fact_given s args e) f)) || old) add)

-- what holds, holds where there is no error
pub on-ok : {A B : Type 0} {P : Type 0} (r : Result A B) → P → OnOk r P
on-ok (Ok a) p = p
on-ok (Err e) p = tt

-- what holds after an error holds
pub on-err : {A B : Type 0} {P : Type 0} (r : Result A B) → P → OnErr r P
on-err (Ok a) p = tt
on-err (Err e) p = p

-- one more of the keys whose rows are joined
fold-last : {A B : Type 0} (f : B → A → B) (b : B) (xs : List A) (x : A) → fold f b (xs ++ x ∷ []) ≡ f (fold f b xs) x
fold-last f b [] x = refl
fold-last f b (y ∷ ys) x = fold-last f (f b y) ys x

later-none : (x : Option Last) → x ≡ later_last x None
later-none None = refl
later-none (Some m) = refl

-- with the row without a transaction they stay as they are
pub raised-none : (lasts : List (Option Last)) → length lasts ≡ 16 → lasts ≡ raised lasts no_row
unfolding raised
raised-none lasts wide = fill_by_all (λ (o : ℕ). later_last (last_of lasts o) (tx_at no_row o)) lasts 16 None wide
    (λ o less. later-none (last_of lasts o) ∙ ap (later_last (last_of lasts o)) (sym (get_or-replicate 16 o None None less)))

-- the last of an add, of a remove and of another one
later-from : (a r x : Option Tx) → later_last (last_from a r) x ≡ last_from a (later r x)
later-from None None None = refl
later-from None None (Some x) = refl
later-from None (Some r) None = refl
later-from None (Some r) (Some x) = by_order (nat_lt r.dot.number x.dot.number)
  where
    by_order : (b : Bool) → cond b (Some (record { tx = x; adds = false })) (Some (record { tx = r; adds = false }))
        ≡ last_from None (cond b (Some x) (Some r))
    by_order true = refl
    by_order false = refl
later-from (Some a) None None = refl
later-from (Some a) None (Some x) = refl
later-from (Some a) (Some r) None = by_order (nat_lt a.dot.number r.dot.number)
  where
    by_order : (b : Bool) → later_last (cond b (Some (record { tx = r; adds = false })) (Some (record { tx = a; adds = true }))) None
        ≡ cond b (Some (record { tx = r; adds = false })) (Some (record { tx = a; adds = true }))
    by_order true = refl
    by_order false = refl
later-from (Some a) (Some r) (Some x) = before (nat_lt a.dot.number r.dot.number)
    ∙ (choose (nat_lt a.dot.number r.dot.number) (nat_lt r.dot.number x.dot.number) (nat_lt a.dot.number x.dot.number)
    (Some (record { tx = x; adds = false })) (Some (record { tx = r; adds = false })) (Some (record { tx = a; adds = true }))
    (less-along a.dot.number r.dot.number x.dot.number) (more-along a.dot.number r.dot.number x.dot.number)
    ∙ sym (after (nat_lt r.dot.number x.dot.number)))
  where
    less-along : (a b c : ℕ) → nat_lt a b ≡ true → nat_lt b c ≡ true → nat_lt a c ≡ true
    less-along a b c h k = let l = ltb-true a b h in let m = ltb-true b c k in lt-ltb a c (omega (arith, l, m))

    more-along : (a b c : ℕ) → nat_lt a b ≡ false → nat_lt b c ≡ false → nat_lt a c ≡ false
    more-along a b c h k = grind (arith, nat_tests)

    choose : (p q t : Bool) (x r a : Option Last) → (p ≡ true → q ≡ true → t ≡ true) → (p ≡ false → q ≡ false → t ≡ false) →
        cond p (cond q x r) (cond t x a) ≡ cond q (cond t x a) (cond p r a)
    choose true true true x r a h k = refl
    choose true true false x r a h k = absurd (false≢true (h refl refl))
    choose true false t x r a h k = refl
    choose false true t x r a h k = refl
    choose false false true x r a h k = absurd (false≢true (sym (k refl refl)))
    choose false false false x r a h k = refl

    before : (p : Bool) → later_last (cond p (Some (record { tx = r; adds = false })) (Some (record { tx = a; adds = true }))) (Some x)
        ≡ cond p (later_last (Some (record { tx = r; adds = false })) (Some x)) (later_last (Some (record { tx = a; adds = true })) (Some x))
    before true = refl
    before false = refl

    after : (q : Bool) → last_from (Some a) (cond q (Some x) (Some r)) ≡ cond q (last_from (Some a) (Some x)) (last_from (Some a) (Some r))
    after true = refl
    after false = refl

-- so the last effects may be made later row by row
raised-rows : (added one other : List (Option Tx)) → raised (lasts_of_rows added one) other ≡ lasts_of_rows added (later_row one other)
unfolding raised lasts_of_rows later_row
raised-rows added one other = fill_by_all (λ (o : ℕ). last_from (tx_at added o) (tx_at (later_row one other) o))
    (raised (lasts_of_rows added one) other) 16 None
    (length-map-range_with_len (λ (o : ℕ). later_last (last_of (lasts_of_rows added one) o) (tx_at other o)) 0 16)
    (λ o less. origin-at (λ (o : ℕ). later_last (last_of (lasts_of_rows added one) o) (tx_at other o)) o less
    ∙ (ap (λ (m : Option Last). later_last m (tx_at other o))
    (origin-at (λ (o : ℕ). last_from (tx_at added o) (tx_at one o)) o less)
    ∙ (later-from (tx_at added o) (tx_at one o) (tx_at other o)
    ∙ sym (ap (last_from (tx_at added o)) (origin-at (λ (o : ℕ). later (tx_at one o) (tx_at other o)) o less)))))

pub lasts-more : (table : RowTable) (added : List (Option Tx)) (ks : List Key) (i : ℕ) (d : Key) (lasts next : List (Option Last))
    → i < length ks → lasts ≡ lasts_of_rows added (last_of_keys table (take i ks))
    → next ≡ raised lasts (row_in table (slice_index_or ks i d)) → next ≡ lasts_of_rows added (last_of_keys table (take (i + 1) ks))
lasts-more table added ks i d lasts next l e n = n ∙ (ap (λ (m : List (Option Last)). raised m (row_in table (slice_index_or ks i d))) e
    ∙ (raised-rows added (last_of_keys table (take i ks)) (row_in table (slice_index_or ks i d))
    ∙ ap (lasts_of_rows added) (sym (fold-last (λ (r : List (Option Tx)) (k : Key). later_row r (row_in table k)) no_row (take i ks) (slice_index_or ks i d))
    ∙ ap (last_of_keys table) (sym (take_more ks i d l)))))

-- the adds of a row
pub adds-filled : (row : List (Option Tx)) (lasts : List (Option Last)) (i : ℕ) → 16 ≤ i
    → AreFilled (λ (o : ℕ). last_from (tx_at row o) None) 16 lasts i → lasts ≡ lasts_of_rows row no_row
unfolding lasts_of_rows
adds-filled row lasts i l is = fill_by_all (λ (o : ℕ). last_from (tx_at row o) (tx_at no_row o)) lasts 16 None is.wide
    (λ o less. is.below o None (omega (arith, less, l))
    ∙ ap (last_from (tx_at row o)) (sym (get_or-replicate 16 o None None less)))

-- of none
pub adds-none : replicate 16 None ≡ lasts_of_rows no_row no_row
unfolding lasts_of_rows
adds-none = refl
