-- Places in lists of facts in order.
use Rattle.std.proofs.Common.{◌≡◌, ℕ, zero, suc, ◌<◌, ◌≤◌, Bool, true, false, not, ◌&&◌, ◌||◌, cond, List, [], ◌∷◌, length, find, refl, sym, ◌∙◌, ap, subst, arith, Option, Some, None, slice_get, inl, inr}
use Rattle.std.specs.Prelude.{◌==◌, nat_lt, slice_index_or}
use Rattle.std.specs.List.{AllByRecursion, insert}
use Rattle.std.specs.List.Sorted.{IsStrictlySortedBy, IsPartitionedBy}
use Rattle.std.specs.Ordering.{is_eq, is_lt, nat_cmp, ordering_then, match_ordering}
use Rattle.std.specs.declared.cmp.Ordering.{Ordering}
use Rattle.std.specs.declared.cmp.Ordering.TheVariants.{Less, Equal, Greater}
use Rattle.std.specs.Cmp.Lexicographic.{slice_cmp}
use Rattle.std.specs.Set.{sorted_merge}
use Rattle.std_collections.proofs.SortedSets.{sorted_merged, merge_is_union}
use Rattle.std.proofs.Math.Bool.{or-false, or_comm}
use Rattle.std.proofs.lemmas.Bool.{not-true, not_from_false, cases_lt, cases_eq, cases_Bool, both_ways, false_from_ne_true, or_cases, false≢true, eqb-true, eq-eqb, lt-ltb, ltb-true}
use Rattle.std.proofs.lemmas.Bool.Decides.{nat_tests}
use Rattle.ipa_logic.specs.Facts.{fact_cmp, has, IsRising}
use Rattle.ipa_logic.specs.FactLaws.{fact_cmp_total, same_fact, same-turned}
use Rattle.ipa_logic.specs.OrderLaws.{Less-from_lt, lt-trans}
use Rattle.ipa_logic.specs.Views.{is_above, is_left}
use Rattle.ipa_logic.specs.declared.facts.Fact.{Fact}
use Rattle.ipa_sets.specs.Places.{IsSplit, is_at, is_passed, next_at}

-- what holds of each fact of a list holds of the one at a place
at-all : (P : Fact → Type 0) (xs : List Fact) (j : ℕ) (d : Fact) → AllByRecursion P xs → j < length xs → P (slice_index_or xs j d)
at-all P [] j d a l = absurd (omega arith)
at-all P (x ∷ xs) zero d a l = a.0
at-all P (x ∷ xs) (suc j) d a l = at-all P xs j d a.1 (omega arith)

-- facts of a list in order are in order
in-order : (xs : List Fact) → IsRising xs → (i j : ℕ) (d : Fact) → i < j → j < length xs →
    fact_cmp (slice_index_or xs i d) (slice_index_or xs j d) ≡ Less
unfolding IsStrictlySortedBy
in-order [] r i j d l m = absurd (omega arith)
in-order (x ∷ xs) r i zero d l m = absurd (omega arith)
in-order (x ∷ xs) r zero (suc j) d l m = at-all (λ y. fact_cmp x y ≡ Less) xs j d r.0 (omega arith)
in-order (x ∷ xs) r (suc i) (suc j) d l m = in-order xs r.1 i j d (omega arith) (omega arith)

-- a test that passes what is before a fact that it passes parts a list in order
pub parted : (q : Fact → Bool) → ((f g : Fact) → fact_cmp f g ≡ Less → q g ≡ true → q f ≡ true) → (xs : List Fact) → IsRising xs → IsPartitionedBy q xs
parted q down xs r i j d l m h = elim (cases_eq i j) [
  | inl same ↦ subst (λ (k : ℕ). q (slice_index_or xs k d) ≡ true) (sym same) h
  | inr other ↦ down (slice_index_or xs i d) (slice_index_or xs j d) (in-order xs r i j d (omega (arith, l, other)) m) h
]

-- coming before a fact is such a test
pub before-down : (x f g : Fact) → fact_cmp f g ≡ Less → is_lt (fact_cmp g x) ≡ true → is_lt (fact_cmp f x) ≡ true
before-down x f g e h = lt-trans fact_cmp_total f g x (ap is_lt e) h

-- a fact before another has no greater predicate
then-greater : (a b : ℕ) (r : Ordering) → b < a → ordering_then (nat_cmp a b) r ≡ Less → ⊥
then-greater a b r l e =
    let g : nat_cmp a b ≡ Greater = grind (arith, nat_tests) in
    let n : Greater ≡ Less = sym (ap (λ (o : Ordering). ordering_then o r) g) ∙ e in
    absurd cc

pub predicates-rise : (f g : Fact) → fact_cmp f g ≡ Less → f.predicate ≤ g.predicate
predicates-rise f g e = elim (cases_lt g.predicate f.predicate) [
  | inl less ↦ absurd (then-greater f.predicate g.predicate (slice_cmp nat_cmp f.args g.args) less e)
  | inr more ↦ more
]

differs : (a b : ℕ) → (a ≡ b → ⊥) → (a == b) ≡ false
differs a b n = false_from_ne_true (a == b) (λ h. n (eqb-true a b h))

-- being passed is such a test too
pub passed-down : (p : ℕ) (after : Option Fact) (f g : Fact) → fact_cmp f g ≡ Less → is_passed p after g ≡ true → is_passed p after f ≡ true
passed-down p after f g e h = by_predicate (g.predicate == p) refl h
  where
    low : f.predicate ≤ g.predicate
    low = predicates-rise f g e

    lesser : f.predicate < p → is_passed p after f ≡ true
    lesser l = ap (λ (b : Bool). cond b (not (is_above after f)) (nat_lt f.predicate p))
        (differs f.predicate p (λ s. absurd (omega (arith, l, s)))) ∙ lt-ltb f.predicate p l

    still : (a : Option Fact) → not (is_above a g) ≡ true → not (is_above a f) ≡ true
    still None n = n
    still (Some a) n = not_from_false (is_lt (fact_cmp a f)) (false_from_ne_true (is_lt (fact_cmp a f))
        (λ t. both_ways (is_lt (fact_cmp a g)) (not-true (is_lt (fact_cmp a g)) n) (lt-trans fact_cmp_total a f g t (ap is_lt e))))

    by_predicate : (b : Bool) → (g.predicate == p) ≡ b → cond b (not (is_above after g)) (nat_lt g.predicate p) ≡ true → is_passed p after f ≡ true
    by_predicate true k n = elim (cases_Bool (f.predicate == p)) [
      | inl here ↦ ap (λ (b : Bool). cond b (not (is_above after f)) (nat_lt f.predicate p)) here ∙ still after n
      | inr other ↦
          let same : g.predicate ≡ p = eqb-true g.predicate p k in
          let apart : f.predicate ≡ p → ⊥ = (λ s. both_ways (f.predicate == p) other (eq-eqb f.predicate p s)) in
          lesser (omega (arith, low, same, apart))
    ]
    by_predicate false k n = let l : g.predicate < p = ltb-true g.predicate p n in lesser (omega (arith, low, l))

-- what follows the head of a list in order
above-all : (x : Fact) (xs : List Fact) (f : Fact) → AllByRecursion (λ y. fact_cmp x y ≡ Less) xs → has xs f ≡ true → fact_cmp x f ≡ Less
above-all x [] f a h = absurd (false≢true h)
above-all x (y ∷ ys) f a h = elim (or_cases (is_eq (fact_cmp f y)) (has ys f) h) [
  | inl same ↦ subst (λ (z : Fact). fact_cmp x z ≡ Less) (sym (same_fact f y same)) a.0
  | inr among ↦ above-all x ys f a.1 among
]

-- a fact is in the list where it stands at the place
has-at : (f : Fact) (xs : List Fact) (i : ℕ) → IsRising xs → IsSplit (λ g. is_lt (fact_cmp g f)) xs i → has xs f ≡ is_at xs i f
unfolding IsStrictlySortedBy
has-at f [] i r s = refl
has-at f (x ∷ xs) zero r s =
    let none : has xs f ≡ false = false_from_ne_true (has xs f)
    (λ h. both_ways (is_lt (fact_cmp x f)) (s.after 0 x (omega arith) (omega arith)) (ap is_lt (above-all x xs f r.0 h))) in
    ap (λ (b : Bool). is_eq (fact_cmp f x) || b) none ∙ (or-false (is_eq (fact_cmp f x)) ∙ same-turned f x)
has-at f (x ∷ xs) (suc i) r s =
    let less : fact_cmp x f ≡ Less = Less-from_lt (fact_cmp x f) (s.before 0 x (omega arith)) in
    let other : is_eq (fact_cmp f x) ≡ false = same-turned f x ∙ ap is_eq less in
    let within = s.within in
    ap (λ (b : Bool). b || has xs f) other ∙ has-at f xs i r.1 (record {
      within = omega (arith, within);
      before = λ k d l. s.before (suc k) d (omega arith);
      after = λ k d a l. s.after (suc k) d (omega arith) (omega arith);
    })

greater : (r : Ordering) → is_lt r ≡ false → is_eq r ≡ false → r ≡ Greater
greater Less h g = absurd (false≢true (sym h))
greater Equal h g = absurd (false≢true (sym g))
greater Greater h g = refl

-- a fact put at its place is merged into the list
put-merge : (y : Fact) (xs : List Fact) (i : ℕ) → IsSplit (λ g. is_lt (fact_cmp g y)) xs i → is_at xs i y ≡ false →
    insert xs i y ≡ sorted_merge fact_cmp true xs (y ∷ [])
put-merge y [] zero s n = refl
put-merge y [] (suc i) s n = let within = s.within in absurd (omega (arith, within))
put-merge y (x ∷ xs) zero s n = sym (ap (λ (r : Ordering). match_ordering r (x ∷ sorted_merge fact_cmp true xs (y ∷ []))
    (x ∷ sorted_merge fact_cmp true xs []) (y ∷ x ∷ xs)) (greater (fact_cmp x y) (s.after 0 x (omega arith) (omega arith)) n))
put-merge y (x ∷ xs) (suc i) s n =
    let within = s.within in
    ap (λ (ys : List Fact). x ∷ ys) (put-merge y xs i (record {
      within = omega (arith, within);
      before = λ k d l. s.before (suc k) d (omega arith);
      after = λ k d a l. s.after (suc k) d (omega arith) (omega arith);
    }) n)
    ∙ sym (ap (λ (r : Ordering). match_ordering r (x ∷ sorted_merge fact_cmp true xs (y ∷ []))
    (x ∷ sorted_merge fact_cmp true xs []) (y ∷ x ∷ xs)) (Less-from_lt (fact_cmp x y) (s.before 0 x (omega arith))))

pub none-rising : IsRising []
unfolding IsStrictlySortedBy
none-rising = tt

one-rising : (y : Fact) → IsRising (y ∷ [])
unfolding IsStrictlySortedBy
one-rising y = (tt, tt)

module _ (y : Fact) (xs view : List Fact) (i : ℕ) (e : view ≡ xs) (r : IsRising xs) (s : IsSplit (λ g. is_lt (fact_cmp g y)) view i) where
  here : IsSplit (λ g. is_lt (fact_cmp g y)) xs i
  here = subst (λ (v : List Fact). IsSplit (λ g. is_lt (fact_cmp g y)) v i) e s

  at-here : (b : Bool) → b ≡ is_at view i y → is_at xs i y ≡ b
  at-here b h = ap (λ (v : List Fact). is_at v i y) (sym e) ∙ sym h

  -- the fact is in the list where it stands at the place
  pub has-split : (b : Bool) → b ≡ is_at view i y → b ≡ has xs y
  has-split b h = sym (has-at y xs i r here ∙ at-here b h)

  -- put there it is in the list, which stays in order
  pub put-rising : (b : Bool) → b ≡ is_at view i y → b ≡ false → (ok : Bool) → IsRising (cond ok (insert xs i y) xs)
  put-rising b h n true = subst IsRising (sym (put-merge y xs i here (at-here b h ∙ n)))
      (sorted_merged fact_cmp_total true xs (y ∷ []) r (one-rising y))
  put-rising b h n false = r

  pub put-has : (b : Bool) → b ≡ is_at view i y → b ≡ false → (g : Fact) → has (insert xs i y) g ≡ (is_eq (fact_cmp g y) || has xs g)
  put-has b h n g = ap (λ (v : List Fact). has v g) (put-merge y xs i here (at-here b h ∙ n))
      ∙ (merge_is_union fact_cmp_total xs (y ∷ []) g
      ∙ (ap (λ (c : Bool). has xs g || c) (or-false (is_eq (fact_cmp g y))) ∙ or_comm (has xs g) (is_eq (fact_cmp g y))))

  -- where it is there already nothing changes
  pub there-has : (b : Bool) → b ≡ is_at view i y → b ≡ true → (g : Fact) → has xs g ≡ (is_eq (fact_cmp g y) || has xs g)
  there-has b h t g = by_test (is_eq (fact_cmp g y)) refl
    where
      by_test : (c : Bool) → is_eq (fact_cmp g y) ≡ c → has xs g ≡ (c || has xs g)
      by_test true k = ap (has xs) (same_fact g y k) ∙ (sym (has-split b h) ∙ t)
      by_test false k = refl

-- no fact of a greater predicate is left
none-left : (p : ℕ) (after : Option Fact) (x : Fact) (xs : List Fact) → p < x.predicate → AllByRecursion (λ y. fact_cmp x y ≡ Less) xs → find (is_left p after) xs ≡ None
none-left p after x [] l a = refl
none-left p after x (y ∷ ys) l a =
    let low = predicates-rise x y a.0 in
    let gone : (y.predicate == p) ≡ false = differs y.predicate p (λ s. absurd (omega (arith, low, l, s))) in
    ap (λ (b : Bool). cond (b && is_above after y) (Some y) (find (is_left p after) ys)) gone ∙ none-left p after x ys l a.1

-- the next fact is the one at the place, if it is of the predicate
next-split : (p : ℕ) (after : Option Fact) (xs : List Fact) (i : ℕ) → IsRising xs → IsSplit (is_passed p after) xs i →
    find (is_left p after) xs ≡ next_at p (slice_get xs i)
unfolding IsStrictlySortedBy
next-split p after [] i r s = refl
next-split p after (x ∷ xs) zero r s = by_predicate (x.predicate == p) refl (s.after 0 x (omega arith) (omega arith))
  where
    by_predicate : (b : Bool) → (x.predicate == p) ≡ b → cond b (not (is_above after x)) (nat_lt x.predicate p) ≡ false
        → cond (b && is_above after x) (Some x) (find (is_left p after) xs) ≡ cond b (Some x) None
    by_predicate true k n = ap (λ (c : Bool). cond c (Some x) (find (is_left p after) xs)) (shown (is_above after x) n)
      where
        shown : (c : Bool) → not c ≡ false → c ≡ true
        shown true h = refl
        shown false h = sym h
    by_predicate false k n =
        let other : x.predicate ≡ p → ⊥ = (λ e. both_ways (x.predicate == p) k (eq-eqb x.predicate p e)) in
        let more : x.predicate < p → ⊥ = (λ l. both_ways (nat_lt x.predicate p) n (lt-ltb x.predicate p l)) in
        none-left p after x xs (omega (arith, other, more)) r.0
next-split p after (x ∷ xs) (suc i) r s =
    let within = s.within in
    ap (λ (c : Bool). cond c (Some x) (find (is_left p after) xs)) (gone (x.predicate == p) (is_above after x) (s.before 0 x (omega arith)))
    ∙ next-split p after xs i r.1 (record {
      within = omega (arith, within);
      before = λ k d l. s.before (suc k) d (omega arith);
      after = λ k d a l. s.after (suc k) d (omega arith) (omega arith);
    })
  where
    gone : (b c : Bool) → cond b (not c) (nat_lt x.predicate p) ≡ true → (b && c) ≡ false
    gone true true h = sym h
    gone true false h = refl
    gone false c h = refl

pub next-place : (p : ℕ) (after : Option Fact) (xs view : List Fact) (i : ℕ) → view ≡ xs → IsRising xs → IsSplit (is_passed p after) view i →
    (r : Option Fact) → r ≡ next_at p (slice_get view i) → r ≡ find (is_left p after) xs
next-place p after xs view i e rises s r h = h ∙ (ap (λ (v : List Fact). next_at p (slice_get v i)) e
    ∙ sym (next-split p after xs i rises (subst (λ (v : List Fact). IsSplit (is_passed p after) v i) e s)))
