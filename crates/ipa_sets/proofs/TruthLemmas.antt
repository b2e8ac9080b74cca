-- Truths that are told of facts.
use Rattle.std.proofs.Common.{◌≡◌, ℕ, zero, suc, ◌+◌, ◌<◌, ◌≤◌, Bool, true, false, ◌&&◌, ◌||◌, cond, List, [], ◌∷◌, length, map, take, refl, sym, ◌∙◌, ap, subst, arith, Option, Some, None, slice_get, inl, inr}
use Rattle.std.specs.Prelude.{◌==◌, slice_index, slice_index_or}
use Rattle.std.specs.List.{list_any, fold, insert, AllByRecursion}
use Rattle.std.specs.Option.{option_map_or}
use Rattle.std.specs.Ordering.{is_eq}
use Rattle.std.proofs.lemmas.Bool.{cases_Bool, both_ways, false_from_ne_true, false≢true, or_cases, and_from, eq-eqb}
use Rattle.std.proofs.lemmas.List.{take_all}
use Rattle.ipa_spec.specs.Actions.{effects_of}
use Rattle.ipa_spec.specs.declared.operations.Effect.{Effect}
use Rattle.ipa_spec.specs.declared.specification.Specification.{Specification}
use Rattle.ipa_logic.specs.Facts.{has}
use Rattle.ipa_logic.specs.FactLaws.{same_fact}
use Rattle.ipa_logic.specs.declared.facts.Fact.{Fact}
use Rattle.ipa_history.specs.MemberLaws.{found, any_from}
use Rattle.ipa_history.specs.declared.history.Tx.{Tx}
use Rattle.ipa_sets.specs.Fitting.{fits_at, fits, concerns, IsTold, TellsAnew, truth_in}
use Rattle.ipa_sets.specs.KeyLaws.{key_cmp-same}
use Rattle.ipa_sets.specs.Keys.{key_cmp, key_of, has_key, add_key, remove_keys}
use Rattle.ipa_sets.specs.Lasts.{tx_at, value_by_lasts}
use Rattle.ipa_sets.specs.Places.{is_at}
use Rattle.ipa_sets.specs.Rows.{RowTable, by_origin, no_row, row_in, later, later_row, removing_row, last_from, lasts_of_rows, lasts_in, put_in}
use Rattle.ipa_sets.specs.declared.keys.Key.{Key}
use Rattle.ipa_sets.proofs.EffectLemmas.{any-more}

-- where all facts are told the truths are those of all
told-each : (test : Fact → Bool) (facts : List Fact) (i : ℕ) (d : Fact) → i < length facts →
    slice_index_or (map test facts) i false ≡ test (slice_index_or facts i d)
told-each test [] i d l = absurd (omega arith)
told-each test (f ∷ facts) zero d l = refl
told-each test (f ∷ facts) (suc i) d l = told-each test facts i d (omega arith)

all-told : (test : Fact → Bool) (facts : List Fact) (truths : List Bool) (d : Fact) → length truths ≡ length facts →
    ((i : ℕ) → i < length facts → slice_index_or truths i false ≡ test (slice_index_or facts i d)) → truths ≡ map test facts
all-told test [] [] d e t = refl
all-told test [] (b ∷ truths) d e t = absurd (omega (arith, e))
all-told test (f ∷ facts) [] d e t = absurd (omega (arith, e))
all-told test (f ∷ facts) (b ∷ truths) d e t =
    let head : b ≡ test f = t 0 (omega arith) in
    let tail = all-told test facts truths d (omega (arith, e)) (λ i l. t (suc i) (omega arith)) in
    λ i. head i ∷ tail i

-- nothing is told yet
pub tells-none : (test : Fact → Bool) (facts : List Fact) (these : Fact → Bool) (truths : List Bool) →
    ((f : Fact) → these f ≡ true → ⊥) → TellsAnew test facts these truths truths
tells-none test facts these truths none = record {
  long = refl;
  kept = λ i t. t;
  told = λ i d l h. absurd (none (slice_index_or facts i d) h);
}

-- the same is told of facts of the same test
pub tells-same : (test : Fact → Bool) (facts : List Fact) (these those : Fact → Bool) (old new : List Bool) →
    ((f : Fact) → those f ≡ true → these f ≡ true) → TellsAnew test facts these old new → TellsAnew test facts those old new
tells-same test facts these those old new from tells = record {
  long = tells.long;
  kept = tells.kept;
  told = λ i d l h. tells.told i d l (from (slice_index_or facts i d) h);
}

-- and of more facts after it
pub tells-more : (test : Fact → Bool) (facts : List Fact) (these those : Fact → Bool) (old mid new : List Bool) →
    TellsAnew test facts these old mid → TellsAnew test facts those mid new →
    TellsAnew test facts (λ f. these f || those f) old new
tells-more test facts these those old mid new one two = record {
  long = two.long ∙ one.long;
  kept = λ i t. two.kept i (one.kept i t);
  told = λ i d l h. elim (or_cases (these (slice_index_or facts i d)) (those (slice_index_or facts i d)) h) [
    | inl before ↦ two.kept i (one.told i d l before)
    | inr here ↦ two.told i d l here
  ];
}

-- where the facts of which nothing is told keep their truth, the truths are those of all
pub told-all : (test was : Fact → Bool) (facts : List Fact) (these : Fact → Bool) (old new : List Bool) →
    length old ≡ length facts → old ≡ map was facts → ((f : Fact) → these f ≡ false → test f ≡ was f) →
    TellsAnew test facts these old new → new ≡ map test facts
told-all test was facts these old new even told stays tells =
    all-told test facts new (record { predicate = 0; args = [] }) (tells.long ∙ even)
    (λ i l. let t = at i l in t.at (record { predicate = 0; args = [] }) l)
  where
    at : (i : ℕ) → i < length facts → IsTold test facts new i
    at i l = elim (cases_Bool (these (slice_index_or facts i (record { predicate = 0; args = [] })))) [
      | inl here ↦ tells.told i (record { predicate = 0; args = [] }) l here
      | inr other ↦ tells.kept i (record {
        at = λ d m. ap (λ (bs : List Bool). slice_index_or bs i false) told
            ∙ (told-each was facts i (record { predicate = 0; args = [] }) l
            ∙ (sym (stays (slice_index_or facts i (record { predicate = 0; args = [] })) other)
            ∙ (sym (told-each test facts i (record { predicate = 0; args = [] }) l) ∙ told-each test facts i d l)));
      })
    ]

-- truths are those of a test that is the same
pub told-same : (test was : Fact → Bool) (facts : List Fact) (truths : List Bool) → truths ≡ map was facts →
    ((f : Fact) → test f ≡ was f) → truths ≡ map test facts
told-same test was facts truths told same = told ∙ (λ i. map (λ f. sym (same f) i) facts)

-- a truth put in beside its fact
pub told-insert : (test : Fact → Bool) (facts : List Fact) (truths : List Bool) (i : ℕ) (f : Fact) → truths ≡ map test facts →
    insert truths i (test f) ≡ map test (insert facts i f)
told-insert test facts truths i f told = ap (λ (bs : List Bool). insert bs i (test f)) told ∙ map-insert facts i
  where
    map-insert : (facts : List Fact) (i : ℕ) → insert (map test facts) i (test f) ≡ map test (insert facts i f)
    map-insert [] zero = refl
    map-insert [] (suc i) = refl
    map-insert (g ∷ facts) zero = refl
    map-insert (g ∷ facts) (suc i) = ap (λ (bs : List Bool). test g ∷ bs) (map-insert facts i)

-- the truth at the place of a fact
pub told-at : (test : Fact → Bool) (facts : List Fact) (truths : List Bool) (i : ℕ) (f : Fact) → truths ≡ map test facts →
    is_at facts i f ≡ true → slice_get truths i ≡ Some (test f)
told-at test facts truths i f told here = ap (λ (bs : List Bool). slice_get bs i) told ∙ at-map facts i here
  where
    at-map : (facts : List Fact) (i : ℕ) → is_at facts i f ≡ true → slice_get (map test facts) i ≡ Some (test f)
    at-map [] zero h = absurd (false≢true h)
    at-map [] (suc i) h = absurd (false≢true h)
    at-map (g ∷ facts) zero h = ap (λ (x : Fact). Some (test x)) (same_fact g f h)
    at-map (g ∷ facts) (suc i) h = at-map facts i h

-- the effects up to one, and those at it
pub concerns-more : (s : Specification) (t : Tx) (i : ℕ) (f : Fact) →
    list_any (λ e. fits (key_of s t.args e).pattern f) (take (i + 1) (effects_of s t.action)) ≡ true →
    (list_any (λ e. fits (key_of s t.args e).pattern f) (take i (effects_of s t.action))
    || option_map_or (λ e. fits (key_of s t.args e).pattern f) (slice_get (effects_of s t.action) i) false) ≡ true
concerns-more s t i f h = sym (any-more (λ (e : Effect). fits (key_of s t.args e).pattern f) (effects_of s t.action) i) ∙ h

pub concerns-all : (s : Specification) (t : Tx) (i : ℕ) (f : Fact) → length (effects_of s t.action) ≤ i →
    concerns s t f ≡ true → list_any (λ e. fits (key_of s t.args e).pattern f) (take i (effects_of s t.action)) ≡ true
concerns-all s t i f few h =
    ap (λ (es : List Effect). list_any (λ e. fits (key_of s t.args e).pattern f) es) (take_all i (effects_of s t.action) few) ∙ h

-- the keys over a fact have patterns that it fits
fits-own : (xs : List ℕ) (i : ℕ) → fits_at (slice_index_or (map (λ x. Some x) xs) i None) (slice_index xs i) ≡ true
fits-own [] i = refl
fits-own (x ∷ xs) zero = eq-eqb x x refl
fits-own (x ∷ xs) (suc i) = fits-own xs i

module _ (f : Fact) where
  fits-places : (x y z : Option ℕ) → fits_at x (slice_index f.args 0) ≡ true → fits_at y (slice_index f.args 1) ≡ true →
      fits_at z (slice_index f.args 2) ≡ true → fits (record { predicate = f.predicate; places = x ∷ y ∷ z ∷ [] }) f ≡ true
  fits-places x y z a b c = and_from (f.predicate == f.predicate) (fits_at x (slice_index f.args 0)
      && (fits_at y (slice_index f.args 1) && fits_at z (slice_index f.args 2))) (eq-eqb f.predicate f.predicate refl)
      (and_from (fits_at x (slice_index f.args 0)) (fits_at y (slice_index f.args 1) && fits_at z (slice_index f.args 2)) a
      (and_from (fits_at y (slice_index f.args 1)) (fits_at z (slice_index f.args 2)) b c))

  abbrev own_fits : ℕ → Bool
  own_fits i = fits_at (slice_index_or (map (λ x. Some x) f.args) i None) (slice_index f.args i)

  fits-add : fits (add_key f).pattern f ≡ true
  fits-add = and_from (f.predicate == f.predicate) (own_fits 0 && (own_fits 1 && own_fits 2))
      (eq-eqb f.predicate f.predicate refl) (and_from (own_fits 0) (own_fits 1 && own_fits 2) (fits-own f.args 0)
      (and_from (own_fits 1) (own_fits 2) (fits-own f.args 1) (fits-own f.args 2)))

  fits-removes : AllByRecursion (λ k. fits k.pattern f ≡ true) (remove_keys f)
  fits-removes =
      let a = eq-eqb (slice_index f.args 0) (slice_index f.args 0) refl in
      let b = eq-eqb (slice_index f.args 1) (slice_index f.args 1) refl in
      let c = eq-eqb (slice_index f.args 2) (slice_index f.args 2) refl in
      let x = Some (slice_index f.args 0) in let y = Some (slice_index f.args 1) in let z = Some (slice_index f.args 2) in (
        fits-places x y z a b c,
        (
          fits-places x y None a b refl,
          (
            fits-places x None z a refl c,
            (
              fits-places x None None a refl refl,
              (
                fits-places None y z refl b c,
                (
                  fits-places None y None refl b refl,
                  (
                    fits-places None None z refl refl c,
                    (fits-places None None None refl refl refl, tt),
                  ),
                ),
              ),
            ),
          ),
        ),
      )

  module _ (old new : RowTable) (same : (k : Key) → fits k.pattern f ≡ true → (o : ℕ) → tx_at (row_in new k) o ≡ tx_at (row_in old k) o) where
    removing-same : (ks : List Key) → AllByRecursion (λ k. fits k.pattern f ≡ true) ks → (row : List (Option Tx)) →
        fold (λ row k. later_row row (row_in new k)) row ks ≡ fold (λ row k. later_row row (row_in old k)) row ks
    unfolding later_row
    removing-same [] all row = refl
    removing-same (k ∷ ks) all row =
        removing-same ks all.1 (later_row row (row_in new k))
        ∙ (λ i. fold (λ row k. later_row row (row_in old k)) (by_origin (λ o. later (tx_at row o) (same k all.0 o i))) ks)

    -- a fact has the same last effects where the rows of the keys that it fits have the same
    lasts-same : lasts_in new f ≡ lasts_in old f
    unfolding lasts_in lasts_of_rows removing_row
    lasts-same =
        let removed = removing-same (remove_keys f) fits-removes no_row in
        λ i. by_origin (λ o. last_from (same (add_key f) fits-add o i) (tx_at (removed i) o))

    pub truth-same : (adds_win : List Bool) (start : List Fact) → truth_in adds_win start new f ≡ truth_in adds_win start old f
    unfolding truth_in
    truth-same adds_win start = ap (value_by_lasts (slice_index_or adds_win f.predicate false) (has start f)) lasts-same

-- a transaction that does not concern a fact has no key that it fits
unconcerned : (s : Specification) (t : Tx) (f : Fact) → concerns s t f ≡ false → (k : Key) → fits k.pattern f ≡ true → has_key s k t ≡ false
unconcerned s t f none k fit = false_from_ne_true (has_key s k t) (λ h.
    let g = found (λ (e : Effect). is_eq (key_cmp (key_of s t.args e) k)) (effects_of s t.action) h in
    both_ways (concerns s t f) none (any_from (λ (e : Effect). fits (key_of s t.args e).pattern f) (effects_of s t.action) g.one g.member
    (subst (λ (q : Key). fits q.pattern f ≡ true) (sym (key_cmp-same (key_of s t.args g.one) k g.passes)) fit)))

-- so its truth stays where the transaction is put into its rows
pub truth-stays : (s : Specification) (t : Tx) (f : Fact) (old new : RowTable) (adds_win : List Bool) (start : List Fact) →
    ((k : Key) (o : ℕ) → tx_at (row_in new k) o ≡ put_in (has_key s k t) t (row_in old k) o) → concerns s t f ≡ false →
    truth_in adds_win start new f ≡ truth_in adds_win start old f
truth-stays s t f old new adds_win start put none = truth-same f old new
    (λ k fit o. put k o ∙ ap (λ (b : Bool). put_in b t (row_in old k) o) (unconcerned s t f none k fit)) adds_win start

-- and where the rows are the same
pub truth-rows : (old new : RowTable) (adds_win : List Bool) (start : List Fact) → ((k : Key) → row_in new k ≡ row_in old k) → (f : Fact) →
    truth_in adds_win start new f ≡ truth_in adds_win start old f
truth-rows old new adds_win start same f = truth-same f old new
    (λ k fit o. ap (λ (row : List (Option Tx)). tx_at row o) (same k)) adds_win start

-- what is told of a fact tells whether it is known
pub told-known : (b x y : Bool) → Some x ≡ cond b (Some y) None → (b ≡ true) × (x ≡ y)
told-known true x y h = (refl, cc)
told-known false x y h = absurd cc

pub told-unknown : (b y : Bool) → None ≡ cond b (Some y) None → b ≡ false
told-unknown true y h = absurd cc
told-unknown false y h = refl
