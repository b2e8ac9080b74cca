-- Loops over the effects of an action.
use Rattle.std.proofs.Common.{◌≡◌, ℕ, zero, suc, ◌+◌, ◌≤◌, Bool, true, false, ◌&&◌, ◌||◌, cond, List, [], ◌∷◌, length, take, refl, sym, ◌∙◌, ap, arith, Option, Some, None, slice_get, inl, inr}
use Rattle.std.specs.Prelude.{◌==◌}
use Rattle.std.specs.List.{list_any}
use Rattle.std.specs.Option.{option_map_or}
use Rattle.std.specs.Ordering.{is_eq}
use Rattle.std.proofs.Math.Bool.{or-false}
use Rattle.std.proofs.lemmas.Bool.{false≢true, or_cases, or_left, or_right}
use Rattle.std.proofs.lemmas.List.{take_all}
use Rattle.ipa_spec.specs.Actions.{effects_of, drop_effects}
use Rattle.ipa_spec.specs.Fits.{IsFit}
use Rattle.ipa_spec.specs.declared.bounds.Bound.{Bound}
use Rattle.ipa_spec.specs.declared.operations.Action.{Action}
use Rattle.ipa_spec.specs.declared.operations.Action.TheVariants.{Op, Drop}
use Rattle.ipa_spec.specs.declared.operations.Effect.{Effect}
use Rattle.ipa_spec.specs.declared.operations.Operation.{Operation}
use Rattle.ipa_spec.specs.declared.specification.Specification.{Specification}
use Rattle.ipa_logic.specs.Facts.{has}
use Rattle.ipa_logic.specs.Touches.{gives}
use Rattle.ipa_logic.specs.declared.facts.Fact.{Fact}
use Rattle.ipa_history.specs.Values.{adds_fact}
use Rattle.ipa_history.specs.declared.history.Tx.{Tx}
use Rattle.ipa_sets.specs.Keys.{key_cmp, key_of, has_key}
use Rattle.ipa_sets.specs.Lasts.{tx_at}
use Rattle.ipa_sets.specs.Rows.{RowTable, spare, has_row, row_in, put_in}
use Rattle.ipa_sets.specs.declared.keys.Key.{Key}

-- one more of a list that may pass
any-step : {X : Type 0} (p : X → Bool) (xs : List X) (i : ℕ) →
    list_any p (take (suc i) xs) ≡ (list_any p (take i xs) || option_map_or p (slice_get xs i) false)
any-step p [] zero = refl
any-step p [] (suc i) = refl
any-step p (x ∷ xs) zero = or-false (p x)
any-step p (x ∷ xs) (suc i) = by_head (p x) (any-step p xs i)
  where
    by_head : (b : Bool) → list_any p (take (suc i) xs) ≡ (list_any p (take i xs) || option_map_or p (slice_get xs i) false)
        → (b || list_any p (take (suc i) xs)) ≡ ((b || list_any p (take i xs)) || option_map_or p (slice_get xs i) false)
    by_head true e = refl
    by_head false e = e

pub any-more : {X : Type 0} (p : X → Bool) (xs : List X) (i : ℕ) →
    list_any p (take (i + 1) xs) ≡ (list_any p (take i xs) || option_map_or p (slice_get xs i) false)
any-more p xs i = let e : i + 1 ≡ suc i = omega arith in rw e (any-step p xs i)

-- what passes at a place passes
pub any-at : {X : Type 0} (p : X → Bool) (xs : List X) (i : ℕ) → option_map_or p (slice_get xs i) false ≡ true →
    list_any p xs ≡ true
any-at p [] zero h = h
any-at p [] (suc i) h = h
any-at p (x ∷ xs) zero h = or_left (p x) (list_any p xs) h
any-at p (x ∷ xs) (suc i) h = or_right (p x) (list_any p xs) (any-at p xs i h)

-- nothing passes among none
pub any-none : {X : Type 0} (p : X → Bool) (xs : List X) → list_any p (take 0 xs) ≡ true → ⊥
any-none p [] h = false≢true h
any-none p (x ∷ xs) h = false≢true h

-- an action has at most 12 effects
pub effects-few : (s : Specification) → IsFit s → (action : Action) → length (effects_of s action) ≤ 12
effects-few s fit (Op n) = by_operation (slice_get s.operations n) refl
  where
    by_operation : (x : Option Operation) → slice_get s.operations n ≡ x → length (option_map_or (λ o. o.effects) x []) ≤ 12
    by_operation None e = omega arith
    by_operation (Some o) e = fit.effect_count n o e
effects-few s fit (Drop n) = by_bound (slice_get s.bounds n) refl
  where
    by_bound : (x : Option Bound) → slice_get s.bounds n ≡ x → length (option_map_or (drop_effects s.predicates) x []) ≤ 12
    by_bound None e = omega arith
    by_bound (Some b) e = let few = fit.remove_count n b e in omega (arith, few)

-- a transaction with some of its effects put into the rows of their keys
pub record ArePut (s : Specification) (t : Tx) (old new : RowTable) (i : ℕ) : Type 0 where
  pub rows : (k : Key) (o : ℕ) → tx_at (row_in new k) o
      ≡ put_in (list_any (λ e. is_eq (key_cmp (key_of s t.args e) k)) (take i (effects_of s t.action))) t (row_in old k) o
  pub kept : (k : Key) → has_row old k ≡ true → has_row new k ≡ true
  pub room : spare old ≤ spare new + i

put-twice : (a b here : Bool) (t : Tx) (x : Option Tx) → cond (b && here) (Some t) (cond (a && here) (Some t) x) ≡ cond ((a || b) && here) (Some t) x
put-twice true true true t x = refl
put-twice true true false t x = refl
put-twice true false true t x = refl
put-twice true false false t x = refl
put-twice false true true t x = refl
put-twice false true false t x = refl
put-twice false false here t x = refl

pub put-more : (s : Specification) (t : Tx) (old mid new : RowTable) (i : ℕ) → ArePut s t old mid i
    → ((k : Key) (o : ℕ) → tx_at (row_in new k) o
    ≡ put_in (option_map_or (λ e. is_eq (key_cmp (key_of s t.args e) k)) (slice_get (effects_of s t.action) i) false) t (row_in mid k) o)
    → ((k : Key) → has_row mid k ≡ true → has_row new k ≡ true)
    → spare mid ≤ spare new + 1 → ArePut s t old new (i + 1)
put-more s t old mid new i was put kept room = record {
  rows = λ k o. put k o
      ∙ (ap (λ (x : Option Tx). cond (option_map_or (λ e. is_eq (key_cmp (key_of s t.args e) k)) (slice_get (effects_of s t.action) i) false
      && (o == t.dot.origin)) (Some t) x) (was.rows k o)
      ∙ (put-twice (list_any (λ e. is_eq (key_cmp (key_of s t.args e) k)) (take i (effects_of s t.action)))
      (option_map_or (λ e. is_eq (key_cmp (key_of s t.args e) k)) (slice_get (effects_of s t.action) i) false)
      (o == t.dot.origin) t (tx_at (row_in old k) o)
      ∙ ap (λ (b : Bool). cond (b && (o == t.dot.origin)) (Some t) (tx_at (row_in old k) o))
      (sym (any-more (λ e. is_eq (key_cmp (key_of s t.args e) k)) (effects_of s t.action) i))));
  kept = λ k h. kept k (was.kept k h);
  room = let low = was.room in omega (arith, low, room);
}

pub put-all : (s : Specification) (t : Tx) (old new : RowTable) (i : ℕ) → length (effects_of s t.action) ≤ i
    → ArePut s t old new i → (k : Key) (o : ℕ) → tx_at (row_in new k) o ≡ put_in (has_key s k t) t (row_in old k) o
put-all s t old new i few are k o = are.rows k o
    ∙ ap (λ (es : List Effect). put_in (list_any (λ e. is_eq (key_cmp (key_of s t.args e) k)) es) t (row_in old k) o)
    (take_all i (effects_of s t.action) few)

-- a table with a row for the key of each of some effects, and the same in each row
pub record AreMade (s : Specification) (t : Tx) (old new : RowTable) (i : ℕ) : Type 0 where
  pub made : (k : Key) → list_any (λ e. is_eq (key_cmp (key_of s t.args e) k)) (take i (effects_of s t.action)) ≡ true
      → has_row new k ≡ true
  pub same : (k : Key) → row_in new k ≡ row_in old k
  pub kept : (k : Key) → has_row old k ≡ true → has_row new k ≡ true
  pub room : spare old ≤ spare new + i

pub made-none : (s : Specification) (t : Tx) (table : RowTable) → AreMade s t table table 0
made-none s t table = record {
  made = λ k h. absurd (any-none (λ e. is_eq (key_cmp (key_of s t.args e) k)) (effects_of s t.action) h);
  same = λ k. refl;
  kept = λ k h. h;
  room = omega arith;
}

pub made-more : (s : Specification) (t : Tx) (old mid new : RowTable) (i : ℕ) → AreMade s t old mid i
    → ((k : Key) → option_map_or (λ e. is_eq (key_cmp (key_of s t.args e) k)) (slice_get (effects_of s t.action) i) false ≡ true
    → has_row new k ≡ true)
    → ((k : Key) → row_in new k ≡ row_in mid k) → ((k : Key) → has_row mid k ≡ true → has_row new k ≡ true)
    → spare mid ≤ spare new + 1 → AreMade s t old new (i + 1)
made-more s t old mid new i was made same kept room = record {
  made = λ k h. elim (or_cases (list_any (λ e. is_eq (key_cmp (key_of s t.args e) k)) (take i (effects_of s t.action)))
      (option_map_or (λ e. is_eq (key_cmp (key_of s t.args e) k)) (slice_get (effects_of s t.action) i) false)
      (sym (any-more (λ e. is_eq (key_cmp (key_of s t.args e) k)) (effects_of s t.action) i) ∙ h)) [
        | inl before ↦ kept k (was.made k before)
        | inr here ↦ made k here
      ];
  same = λ k. same k ∙ was.same k;
  kept = λ k h. kept k (was.kept k h);
  room = let low = was.room in omega (arith, low, room);
}

pub made-all : (s : Specification) (t : Tx) (old new : RowTable) (i : ℕ) → length (effects_of s t.action) ≤ i
    → AreMade s t old new i → (k : Key) → has_key s k t ≡ true → has_row new k ≡ true
made-all s t old new i few are k h = are.made k
    (ap (λ (es : List Effect). list_any (λ e. is_eq (key_cmp (key_of s t.args e) k)) es) (take_all i (effects_of s t.action) few) ∙ h)

-- the facts that some of the effects add are known
pub record AreKnown (s : Specification) (t : Tx) (old new : List Fact) (i : ℕ) : Type 0 where
  pub facts : (f : Fact) → has new f ≡ (list_any (gives s t.args f) (take i (effects_of s t.action)) || has old f)

either-more : (a b c : Bool) → (b || (a || c)) ≡ ((a || b) || c)
either-more true true c = refl
either-more true false c = refl
either-more false true c = refl
either-more false false c = refl

pub known-more : (s : Specification) (t : Tx) (old mid new : List Fact) (i : ℕ) → AreKnown s t old mid i
    → ((f : Fact) → has new f ≡ (option_map_or (gives s t.args f) (slice_get (effects_of s t.action) i) false || has mid f))
    → AreKnown s t old new (i + 1)
known-more s t old mid new i was more = record {
  facts = λ f. more f
      ∙ (ap (λ (b : Bool). option_map_or (gives s t.args f) (slice_get (effects_of s t.action) i) false || b) (was.facts f)
      ∙ (either-more (list_any (gives s t.args f) (take i (effects_of s t.action)))
      (option_map_or (gives s t.args f) (slice_get (effects_of s t.action) i) false) (has old f)
      ∙ ap (λ (b : Bool). b || has old f) (sym (any-more (gives s t.args f) (effects_of s t.action) i))));
}

pub known-all : (s : Specification) (t : Tx) (old new : List Fact) (i : ℕ) → length (effects_of s t.action) ≤ i
    → AreKnown s t old new i → (f : Fact) → has new f ≡ (adds_fact s f t || has old f)
known-all s t old new i few are f = are.facts f
    ∙ ap (λ (es : List Effect). list_any (gives s t.args f) es || has old f) (take_all i (effects_of s t.action) few)
