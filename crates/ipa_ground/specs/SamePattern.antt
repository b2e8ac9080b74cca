-- For all elements of the variables there is exactly one pattern with the same equalities.
--
--   class-within                a variable's class is in use after all
--   class-taken                 a class in use was so from the start, or is that of some variable
--   pattern_for                 there is a pattern whose classes stand for the elements
--   one-renamed                 there is only one
--   pattern-within, pattern-constants   a variable's class is in use, and so are those of the constants
use Rattle.std.proofs.Common.{◌≡◌, ℕ, zero, suc, ◌+◌, ◌<◌, ◌≤◌, ◌≢◌, Bool, true, false, ◌==◌, cond, List, [], ◌∷◌, length, Some, refl, sym, ap, ◌∙◌, subst, arith, inl, inr, ◌⊎◌, slice_get}
use Rattle.std.specs.List.{slice_index}
use Rattle.std.proofs.lemmas.Bool.{cases_lt, cases_eq, eq-eqb, ne_eqb, cond-true, cond-false}
use Rattle.std.proofs.lemmas.Option.{same_Some}
use Rattle.ipa_logic.specs.Facts.{Universe, size_of}
use Rattle.ipa_ground.specs.ClassLaws.{AreSortsOf, length-opened, opened-in_use, size-opened, size-other, size-grows, size-after}
use Rattle.ipa_ground.specs.Patterns.{AreConstants, AreSorts, opened, IsPatternFrom, IsPattern, used_after, pattern_universe, Renames, IsTaken, PatternFor}

-- the classes in use stand for different elements
abbrev pub AreApart : Universe → (ℕ → ℕ → ℕ) → Type 0
AreApart used to = (sort c d : ℕ) → c < size_of used sort → d < size_of used sort → to sort c ≡ to sort d → c ≡ d

-- the classes stand for elements: those in use stand for theirs already, each variable's class for its element, and the classes of a sort for different elements
pub record RenamesFrom (used : Universe) (before : ℕ → ℕ → ℕ) (sorts classes : List ℕ) (element : ℕ → ℕ) : Type 0 where
  pub to : ℕ → ℕ → ℕ
  pub extends : (sort class : ℕ) → class < size_of used sort → to sort class ≡ before sort class
  pub places : (i sort : ℕ) → slice_get sorts i ≡ Some sort → to sort (slice_index classes i) ≡ element i
  pub apart : AreApart (used_after used sorts classes) to

-- a variable's class is in use after it
pub class-opened : (used : Universe) (sort class : ℕ) → sort < length used → class ≤ size_of used sort → class < size_of (opened used sort class) sort
class-opened used sort class inside l = elim (cases_lt class (size_of used sort)) [
  | inl in_use ↦ (let stays : size_of (opened used sort class) sort ≡ size_of used sort = ap (λ (u : Universe). size_of u sort) (opened-in_use used sort class in_use) in omega arith)
  | inr new ↦ (let grows : size_of (opened used sort class) sort ≡ size_of used sort + 1 = size-opened used sort class inside (omega arith) in omega arith)
]

-- and after all
pub class-within : (used : Universe) (sorts classes : List ℕ) → AreSortsOf used sorts → IsPatternFrom used sorts classes → (i sort : ℕ) → slice_get sorts i ≡ Some sort → slice_index classes i < size_of (used_after used sorts classes) sort
class-within used [] classes h p i sort e = cc
class-within used (s ∷ sorts) [] h p i sort e = absurd p
class-within used (s ∷ sorts) (class ∷ classes) h p zero sort e =
    let here = class-opened used s class (h 0 s refl) p.0 in
    let later = size-after (opened used s class) sorts classes s (λ j q f. omega (arith, length-opened used s class, h (suc j) q f)) p.1 in
    subst (λ (q : ℕ). class < size_of (used_after (opened used s class) sorts classes) q) (same_Some s sort e) (omega arith)
class-within used (s ∷ sorts) (class ∷ classes) h p (suc i) sort e =
    class-within (opened used s class) sorts classes (λ j q f. omega (arith, length-opened used s class, h (suc j) q f)) p.1 i sort e

-- a class in use after all was in use before, or is that of some variable
pub class-taken : (used : Universe) (sorts classes : List ℕ) → AreSortsOf used sorts → IsPatternFrom used sorts classes → (sort class : ℕ) → class < size_of (used_after used sorts classes) sort
    → (class < size_of used sort) ⊎ IsTaken sorts classes sort class
class-taken used [] [] h p sort class l = inl l
class-taken used [] (c ∷ classes) h p sort class l = absurd p
class-taken used (s ∷ sorts) [] h p sort class l = absurd p
class-taken used (s ∷ sorts) (c ∷ classes) h p sort class l =
    elim (class-taken (opened used s c) sorts classes (λ j q f. omega (arith, length-opened used s c, h (suc j) q f)) p.1 sort class l) [
      | inr taken ↦ inr (record { place = suc taken.place; of_sort = taken.of_sort; is = taken.is })
      | inl opened_now ↦ elim (cases_eq sort s) [
        | inr differs ↦ inl (omega (arith, size-other used s c sort differs))
        | inl same ↦ elim (cases_lt class (size_of used sort)) [
          | inl before ↦ inl before
          | inr new ↦ (let now : class < size_of (opened used s c) s = subst (λ (q : ℕ). class < size_of (opened used s c) q) same opened_now in
              let was : size_of used s ≤ class = subst (λ (q : ℕ). size_of used q ≤ class) same new in
              elim (cases_lt c (size_of used s)) [
                | inl in_use ↦ absurd (let stays : size_of (opened used s c) s ≡ size_of used s = ap (λ (u : Universe). size_of u s) (opened-in_use used s c in_use) in omega arith)
                | inr ge ↦ (let grows : size_of (opened used s c) s ≡ size_of used s + 1 = size-opened used s c (h 0 s refl) (omega (arith, p.0)) in
                    inr (record { place = 0; of_sort = ap (λ (q : ℕ). Some q) (sym same); is = omega (arith, p.0) }))
              ])
        ]
      ]
    ]

-- a class for an element of a sort, and what the classes stand for then
record ClassFor (used : Universe) (before : ℕ → ℕ → ℕ) (s x : ℕ) : Type 0 where
  class : ℕ
  within : class ≤ size_of used s
  next : ℕ → ℕ → ℕ
  keeps : (sort d : ℕ) → d < size_of used sort → next sort d ≡ before sort d
  gives : next s class ≡ x
  apart : AreApart (opened used s class) next

-- a class below n stands for the element, or none does
find_class : (of : ℕ → ℕ) (n x : ℕ) → ((c : ℕ) × (c < n) × (of c ≡ x)) ⊎ ((c : ℕ) → c < n → of c ≡ x → ⊥)
find_class of zero x = inr (λ c l e. omega arith)
find_class of (suc n) x = elim (find_class of n x) [
  | inl found ↦ inl (found.0, omega (arith, found.1), found.2)
  | inr none ↦ elim (cases_eq (of n) x) [
    | inl here ↦ inl (n, omega arith, here)
    | inr differs ↦ inr (λ c l e. elim (cases_lt c n) [ inl lt ↦ none c lt e | inr ge ↦ differs (let same : n ≡ c = omega arith in ap of same ∙ e) ])
  ]
]

-- what the classes stand for when one class of a sort stands for a new element
renamed : (ℕ → ℕ → ℕ) → ℕ → ℕ → ℕ → ℕ → ℕ → ℕ
renamed before s c x sort d = cond (sort == s) (cond (d == c) x (before sort d)) (before sort d)

renamed-here : (before : ℕ → ℕ → ℕ) (s c x sort d : ℕ) → sort ≡ s → d ≡ c → renamed before s c x sort d ≡ x
unfolding renamed
renamed-here before s c x sort d e f = cond-true (sort == s) _ _ (eq-eqb sort s e) ∙ cond-true (d == c) x _ (eq-eqb d c f)

renamed-class : (before : ℕ → ℕ → ℕ) (s c x sort d : ℕ) → d ≢ c → renamed before s c x sort d ≡ before sort d
unfolding renamed
renamed-class before s c x sort d n = ap (λ (b : Bool). cond (sort == s) (cond b x (before sort d)) (before sort d)) (ne_eqb d c n) ∙ same (sort == s)
  where
    same : (b : Bool) → cond b (before sort d) (before sort d) ≡ before sort d
    same true = refl
    same false = refl

renamed-sort : (before : ℕ → ℕ → ℕ) (s c x sort d : ℕ) → sort ≢ s → renamed before s c x sort d ≡ before sort d
unfolding renamed
renamed-sort before s c x sort d n = cond-false (sort == s) _ (before sort d) (ne_eqb sort s n)

-- the new class stands for an element for which none stood
new-apart : (used : Universe) (before : ℕ → ℕ → ℕ) (s x : ℕ) → s < length used → AreApart used before → ((c : ℕ) → c < size_of used s → before s c ≡ x → ⊥)
    → (c d : ℕ) → c < size_of (opened used s (size_of used s)) s → d < size_of (opened used s (size_of used s)) s
    → renamed before s (size_of used s) x s c ≡ renamed before s (size_of used s) x s d → c ≡ d
new-apart used before s x inside apart none c d l m e =
    let grows : size_of (opened used s (size_of used s)) s ≡ size_of used s + 1 = size-opened used s (size_of used s) inside refl in
    elim (cases_eq c (size_of used s)) [
      | inl c_new ↦ elim (cases_eq d (size_of used s)) [
        | inl d_new ↦ c_new ∙ sym d_new
        | inr d_old ↦ absurd (none d (omega arith) (sym (renamed-class before s (size_of used s) x s d d_old) ∙ (sym e ∙ renamed-here before s (size_of used s) x s c refl c_new)))
      ]
      | inr c_old ↦ elim (cases_eq d (size_of used s)) [
        | inl d_new ↦ absurd (none c (omega arith) (sym (renamed-class before s (size_of used s) x s c c_old) ∙ (e ∙ renamed-here before s (size_of used s) x s d refl d_new)))
        | inr d_old ↦ apart s c d (omega arith) (omega arith) (sym (renamed-class before s (size_of used s) x s c c_old) ∙ (e ∙ renamed-class before s (size_of used s) x s d d_old))
      ]
    ]

class_for : (used : Universe) (before : ℕ → ℕ → ℕ) (s x : ℕ) → s < length used → AreApart used before → ClassFor used before s x
class_for used before s x inside apart = elim (find_class (before s) (size_of used s) x) [
  | inl found ↦ record {
    class = found.0;
    within = omega (arith, found.1);
    next = before;
    keeps = λ sort d l. refl;
    gives = found.2;
    apart = subst (λ (u : Universe). AreApart u before) (sym (opened-in_use used s found.0 found.1)) apart;
  }
  | inr none ↦ record {
    class = size_of used s;
    within = omega arith;
    next = renamed before s (size_of used s) x;
    keeps = λ sort d l. elim (cases_eq sort s) [
      | inl same ↦ renamed-class before s (size_of used s) x sort d (let below : d < size_of used s = subst (λ (q : ℕ). d < size_of used q) same l in omega arith)
      | inr other ↦ renamed-sort before s (size_of used s) x sort d other
    ];
    gives = renamed-here before s (size_of used s) x s (size_of used s) refl refl;
    apart = λ sort c d l m e. elim (cases_eq sort s) [
      | inl same ↦ (let at : ℕ → Type 0 = λ q. c < size_of (opened used s (size_of used s)) q → d < size_of (opened used s (size_of used s)) q
          → renamed before s (size_of used s) x q c ≡ renamed before s (size_of used s) x q d → c ≡ d in
          subst at (sym same) (new-apart used before s x inside apart none c d) l m e)
      | inr other ↦ (let stays : size_of (opened used s (size_of used s)) sort ≡ size_of used sort = size-other used s (size_of used s) sort other in
          apart sort c d (omega arith) (omega arith) (sym (renamed-sort before s (size_of used s) x sort c other) ∙ (e ∙ renamed-sort before s (size_of used s) x sort d other)))
    ];
  }
]

-- a pattern from here on, whose classes stand for the elements
record PatternFrom (used : Universe) (before : ℕ → ℕ → ℕ) (sorts : List ℕ) (element : ℕ → ℕ) : Type 0 where
  classes : List ℕ
  is_pattern : IsPatternFrom used sorts classes
  renames : RenamesFrom used before sorts classes element

-- a class, and a pattern from there on
with_class : (used : Universe) (before : ℕ → ℕ → ℕ) (s : ℕ) (sorts : List ℕ) (element : ℕ → ℕ) → s < length used → (first : ClassFor used before s (element 0))
    → PatternFrom (opened used s first.class) first.next sorts (λ i. element (suc i)) → PatternFrom used before (s ∷ sorts) element
with_class used before s sorts element inside first rest = record {
  classes = first.class ∷ rest.classes;
  is_pattern = (first.within, rest.is_pattern);
  renames = record {
    to = rest.renames.to;
    extends = λ sort class l. rest.renames.extends sort class (let grows = size-grows used s first.class sort inside first.within in omega arith) ∙ first.keeps sort class l;
    places = at;
    apart = rest.renames.apart;
  };
}
  where
    at : (i sort : ℕ) → slice_get (s ∷ sorts) i ≡ Some sort → rest.renames.to sort (slice_index (first.class ∷ rest.classes) i) ≡ element i
    at zero sort e = subst (λ (q : ℕ). rest.renames.to q first.class ≡ element 0) (same_Some s sort e)
        (rest.renames.extends s first.class (class-opened used s first.class inside first.within) ∙ first.gives)
    at (suc i) sort e = rest.renames.places i sort e

pattern_from : (used : Universe) (before : ℕ → ℕ → ℕ) (sorts : List ℕ) (element : ℕ → ℕ) → AreSortsOf used sorts → AreApart used before → PatternFrom used before sorts element
pattern_from used before [] element h apart = record {
  classes = [];
  is_pattern = tt;
  renames = record { to = before; extends = λ sort class l. refl; places = λ i sort e. cc; apart = apart };
}
pattern_from used before (s ∷ sorts) element h apart =
    let first = class_for used before s (element 0) (h 0 s refl) apart in
    with_class used before s sorts element (h 0 s refl) first
    (pattern_from (opened used s first.class) first.next sorts (λ i. element (suc i)) (λ j q f. omega (arith, length-opened used s first.class, h (suc j) q f)) first.apart)

-- variables of the eight sorts are of the constants' sorts
sorts-constants : (constants : Universe) (sorts : List ℕ) → AreConstants constants → AreSorts sorts →
    AreSortsOf constants sorts
sorts-constants constants sorts are h i sort e = omega (arith, are.width, h.below i sort e)

-- a class of a pattern that is no constant's is that of some variable
pub pattern-taken : (constants : Universe) (sorts classes : List ℕ) → AreConstants constants → AreSorts sorts →
    IsPattern constants sorts classes → (sort class : ℕ) → size_of constants sort ≤ class →
    class < size_of (pattern_universe constants sorts classes) sort → IsTaken sorts classes sort class
pattern-taken constants sorts classes are h p sort class past l =
    elim (class-taken constants sorts classes (sorts-constants constants sorts are h) p sort class l) [
      | inl before ↦ absurd (omega arith)
      | inr taken ↦ taken
    ]

-- there is a pattern whose classes stand for the elements
pub pattern_for : (constants : Universe) (sorts elements : List ℕ) → AreConstants constants → AreSorts sorts →
    PatternFor constants sorts elements
pattern_for constants sorts elements are h =
    let from = pattern_from constants (λ _ class. class) sorts (slice_index elements)
    (sorts-constants constants sorts are h) (λ sort c d l m e. e) in
    record {
      classes = from.classes;
      is_pattern = from.is_pattern;
      renames = record {
        to = from.renames.to;
        fixed = from.renames.extends;
        places = from.renames.places;
        apart = from.renames.apart;
        taken = pattern-taken constants sorts from.classes are h from.is_pattern;
      };
    }

-- what opened a class of a sort, where it was not in use before
opened-new : (used : Universe) (s d sort class : ℕ) → s < length used → d ≤ size_of used s → size_of used sort ≤ class → class < size_of (opened used s d) sort → (sort ≡ s) × (class ≡ d)
opened-new used s d sort class inside within new l = elim (cases_eq sort s) [
  | inr other ↦ absurd (let stays : size_of (opened used s d) sort ≡ size_of used sort = size-other used s d sort other in omega arith)
  | inl same ↦ (let now : class < size_of (opened used s d) s = subst (λ (q : ℕ). class < size_of (opened used s d) q) same l in
      let was : size_of used s ≤ class = subst (λ (q : ℕ). size_of used q ≤ class) same new in
      elim (cases_lt d (size_of used s)) [
        | inl in_use ↦ absurd (let stays : size_of (opened used s d) s ≡ size_of used s = ap (λ (u : Universe). size_of u s) (opened-in_use used s d in_use) in omega arith)
        | inr ge ↦ (let grows : size_of (opened used s d) s ≡ size_of used s + 1 = size-opened used s d inside (omega arith) in (same, omega arith))
      ])
]

-- two patterns whose classes stand for the same elements begin with the same class
same-class : (used : Universe) (before : ℕ → ℕ → ℕ) (s c d : ℕ) (sorts p q : List ℕ) (element : ℕ → ℕ) → AreSortsOf used (s ∷ sorts) → IsPatternFrom used (s ∷ sorts) (c ∷ p) → IsPatternFrom used (s ∷ sorts) (d ∷ q)
    → RenamesFrom used before (s ∷ sorts) (c ∷ p) element → RenamesFrom used before (s ∷ sorts) (d ∷ q) element → c ≡ d
same-class used before s c d sorts p q element h is_p is_q r t =
    let grows_p = size-after used (s ∷ sorts) (c ∷ p) s h is_p in
    let grows_q = size-after used (s ∷ sorts) (d ∷ q) s h is_q in
    elim (cases_lt c (size_of used s)) [
      | inl c_used ↦ t.apart s c d (omega arith) (class-within used (s ∷ sorts) (d ∷ q) h is_q 0 s refl) (t.extends s c c_used ∙ (sym (r.extends s c c_used) ∙ (r.places 0 s refl ∙ sym (t.places 0 s refl))))
      | inr c_new ↦ elim (cases_lt d (size_of used s)) [
        | inl d_used ↦ r.apart s c d (class-within used (s ∷ sorts) (c ∷ p) h is_p 0 s refl) (omega arith) (r.places 0 s refl ∙ (sym (t.places 0 s refl) ∙ (t.extends s d d_used ∙ sym (r.extends s d d_used))))
        | inr d_new ↦ omega (arith, is_p.0, is_q.0)
      ]
    ]

-- after the first class both stand for elements as the first one does
renames-rest : (used : Universe) (before : ℕ → ℕ → ℕ) (s c d : ℕ) (sorts p q : List ℕ) (element : ℕ → ℕ) → s < length used → c ≡ d → d ≤ size_of used s
    → (r : RenamesFrom used before (s ∷ sorts) (c ∷ p) element) → RenamesFrom used before (s ∷ sorts) (d ∷ q) element → RenamesFrom (opened used s d) r.to sorts q (λ i. element (suc i))
renames-rest used before s c d sorts p q element inside same within r t = record {
  to = t.to;
  extends = λ sort class l. elim (cases_lt class (size_of used sort)) [
    | inl old ↦ t.extends sort class old ∙ sym (r.extends sort class old)
    | inr new ↦ (let is = opened-new used s d sort class inside within new l in
        (λ i. t.to (is.0 i) (is.1 i)) ∙ (t.places 0 s refl ∙ (sym (r.places 0 s refl) ∙ (ap (r.to s) same ∙ (λ i. r.to (sym is.0 i) (sym is.1 i))))))
  ];
  places = λ i sort e. t.places (suc i) sort e;
  apart = t.apart;
}

-- two patterns whose classes stand for the same elements are one
same_renamed : (used : Universe) (before : ℕ → ℕ → ℕ) (sorts p q : List ℕ) (element : ℕ → ℕ) → AreSortsOf used sorts → IsPatternFrom used sorts p → IsPatternFrom used sorts q
    → RenamesFrom used before sorts p element → RenamesFrom used before sorts q element → p ≡ q
same_renamed used before [] [] [] element h is_p is_q r t = refl
same_renamed used before [] [] (d ∷ q) element h is_p is_q r t = absurd is_q
same_renamed used before [] (c ∷ p) q element h is_p is_q r t = absurd is_p
same_renamed used before (s ∷ sorts) [] q element h is_p is_q r t = absurd is_p
same_renamed used before (s ∷ sorts) (c ∷ p) [] element h is_p is_q r t = absurd is_q
same_renamed used before (s ∷ sorts) (c ∷ p) (d ∷ q) element h is_p is_q r t =
    let first : c ≡ d = same-class used before s c d sorts p q element h is_p is_q r t in
    let later : RenamesFrom (opened used s d) r.to sorts q (λ i. element (suc i)) = renames-rest used before s c d sorts p q element (h 0 s refl) first is_q.0 r t in
    let at_c : RenamesFrom (opened used s c) r.to sorts q (λ i. element (suc i)) = subst (λ (k : ℕ). RenamesFrom (opened used s k) r.to sorts q (λ i. element (suc i))) (sym first) later in
    let q_at_c : IsPatternFrom (opened used s c) sorts q = subst (λ (k : ℕ). IsPatternFrom (opened used s k) sorts q) (sym first) is_q.1 in
    let rest : p ≡ q = same_renamed (opened used s c) r.to sorts p q (λ i. element (suc i)) (λ j k f. omega (arith, length-opened used s c, h (suc j) k f)) is_p.1 q_at_c
    (record { to = r.to; extends = λ sort class l. refl; places = λ i sort e. r.places (suc i) sort e; apart = r.apart }) at_c in
    λ i. first i ∷ rest i

-- a pattern's classes as those that go on from the constants'
from-constants : (constants : Universe) (sorts classes elements : List ℕ) → Renames constants sorts classes elements →
    RenamesFrom constants (λ _ class. class) sorts classes (slice_index elements)
from-constants constants sorts classes elements r =
    record { to = r.to; extends = r.fixed; places = r.places; apart = r.apart }

-- two patterns whose classes stand for the same elements are one
pub one-renamed : (constants : Universe) (sorts p q elements : List ℕ) → AreConstants constants → AreSorts sorts →
    IsPattern constants sorts p → IsPattern constants sorts q → Renames constants sorts p elements →
    Renames constants sorts q elements → p ≡ q
one-renamed constants sorts p q elements are h is_p is_q r t =
    same_renamed constants (λ _ class. class) sorts p q (slice_index elements) (sorts-constants constants sorts are h)
    is_p is_q (from-constants constants sorts p elements r) (from-constants constants sorts q elements t)

-- a variable's class is in use
pub pattern-within : (constants : Universe) (sorts classes : List ℕ) → AreConstants constants → AreSorts sorts →
    IsPattern constants sorts classes → (i sort : ℕ) → slice_get sorts i ≡ Some sort →
    slice_index classes i < size_of (pattern_universe constants sorts classes) sort
pattern-within constants sorts classes are h p i sort e =
    class-within constants sorts classes (sorts-constants constants sorts are h) p i sort e

-- no constant's class is given up
pub pattern-constants : (constants : Universe) (sorts classes : List ℕ) → AreConstants constants → AreSorts sorts →
    IsPattern constants sorts classes → (sort : ℕ) →
    size_of constants sort ≤ size_of (pattern_universe constants sorts classes) sort
pattern-constants constants sorts classes are h p sort =
    size-after constants sorts classes sort (sorts-constants constants sorts are h) p
