-- Classes in use, as variables take theirs one after the other.
use Rattle.std.proofs.Common.{◌≡◌, ℕ, ◌+◌, ◌-◌, ◌<◌, ◌≤◌, ◌≢◌, List, [], ◌∷◌, ◌++◌, length, take, refl, sym, ap, ◌∙◌, subst, arith, inl, inr, set}
use Rattle.std.specs.List.{slice_index}
use Rattle.std.proofs.lemmas.Bool.{cases_lt}
use Rattle.std.proofs.lemmas.List.{take_more, take-set-le, length-take-le, set-set, set-get_or, get_or-set_same, get_or-set_other, take-take, get_or-take}
use Rattle.ipa_ground.proofs.PatternOrder.{limit_at, IsRaised, AreNewest, later-raised, later-newest}
use Rattle.ipa_logic.specs.Facts.{Universe, size_of}
use Rattle.ipa_ground.specs.Patterns.{opened, used_after}
use Rattle.ipa_ground.specs.ClassLaws.{length-opened, opened-same, opened-other, size-after_most}
use Rattle.ipa_ground.specs.Cursors.{IsAt, IsCursor, IsOfVariables, IsSameButUsed, IsBehind, sorts_in, classes_in}
use Rattle.ipa_ground.specs.PatternValues.{left, later}
use Rattle.ipa_ground.specs.declared.cursor.Cursor.{Cursor}

-- one variable more
used_after-push : (used : Universe) (sorts classes : List ℕ) (sort class : ℕ) → length classes ≡ length sorts → used_after used (sorts ++ sort ∷ []) (classes ++ class ∷ []) ≡ opened (used_after used sorts classes) sort class
used_after-push used [] [] sort class e = refl
used_after-push used [] (c ∷ classes) sort class e = absurd (omega (arith, e))
used_after-push used (s ∷ sorts) [] sort class e = absurd (omega (arith, e))
used_after-push used (s ∷ sorts) (c ∷ classes) sort class e = used_after-push (opened used s c) sorts classes sort class (omega (arith, e))

module _ (constants : Universe) where
  -- the classes in use behind the first n variables, of arrays
  abbrev pub used_at : List ℕ → List ℕ → ℕ → Universe
  used_at sorts classes n = used_after constants (take n sorts) (take n classes)

  used_at-more : (sorts classes : List ℕ) (n : ℕ) → n < length sorts → n < length classes → used_at sorts classes (n + 1) ≡ opened (used_at sorts classes n) (slice_index sorts n) (slice_index classes n)
  used_at-more sorts classes n l m =
      (λ i. used_after constants (take_more sorts n 0 l i) (take_more classes n 0 m i))
      ∙ used_after-push constants (take n sorts) (take n classes) (slice_index sorts n) (slice_index classes n) (length-take-le n classes (omega arith) ∙ sym (length-take-le n sorts (omega arith)))

  -- the variable at the place takes its class
  pub at-opened : (sorts classes limits : List ℕ) (used : Universe) (n : ℕ) → n < length sorts → n < length classes → IsAt constants sorts classes limits used n
      → slice_index limits n ≡ size_of used (slice_index sorts n) → slice_index classes n ≤ slice_index limits n
      → IsAt constants sorts classes limits (opened used (slice_index sorts n) (slice_index classes n)) (n + 1)
  at-opened sorts classes limits used n l m h limit class = record {
    limit = λ j below. elim (cases_lt j n) [
      | inl before ↦ h.limit j before
      | inr here ↦ (let same : j ≡ n = omega arith in
          subst (λ (k : ℕ). slice_index limits k ≡ size_of (used_at sorts classes k) (slice_index sorts k)) (sym same) (limit ∙ ap (λ (u : Universe). size_of u (slice_index sorts n)) h.used_is))
    ];
    class = λ j below. elim (cases_lt j n) [
      | inl before ↦ h.class j before
      | inr here ↦ (let same : j ≡ n = omega arith in subst (λ (k : ℕ). slice_index classes k ≤ slice_index limits k) (sym same) class)
    ];
    used_is = ap (λ (u : Universe). opened u (slice_index sorts n) (slice_index classes n)) h.used_is ∙ sym (used_at-more sorts classes n l m);
  }

  -- and gives it back
  pub at-closed : (sorts classes limits : List ℕ) (used : Universe) (n : ℕ) → n < length sorts → n < length classes → IsAt constants sorts classes limits used (n + 1) → IsAt constants sorts classes limits (used_at sorts classes n) n
  at-closed sorts classes limits used n l m h = record { limit = λ j below. h.limit j (omega arith); class = λ j below. h.class j (omega arith); used_is = refl }

  -- what stands from a place on does not count before it
  pub at-set_class : (sorts classes limits : List ℕ) (used : Universe) (n i x : ℕ) → n ≤ i → IsAt constants sorts classes limits used n → IsAt constants sorts (set classes i x) limits used n
  at-set_class sorts classes limits used n i x l h = record {
    limit = λ j below. h.limit j below ∙ ap (λ cs. size_of (used_after constants (take j sorts) cs) (slice_index sorts j)) (sym (take-set-le j classes i x (omega arith)));
    class = λ j below. (let other : j ≢ i = omega arith in subst (λ (k : ℕ). k ≤ slice_index limits j) (sym (get_or-set_other classes i j x 0 other)) (h.class j below));
    used_is = h.used_is ∙ ap (used_after constants (take n sorts)) (sym (take-set-le n classes i x l));
  }

  pub at-set_limit : (sorts classes limits : List ℕ) (used : Universe) (n i x : ℕ) → n ≤ i → IsAt constants sorts classes limits used n → IsAt constants sorts classes (set limits i x) used n
  at-set_limit sorts classes limits used n i x l h = record {
    limit = λ j below. (let other : j ≢ i = omega arith in get_or-set_other limits i j x 0 other ∙ h.limit j below);
    class = λ j below. (let other : j ≢ i = omega arith in subst (λ (k : ℕ). slice_index classes j ≤ k) (sym (get_or-set_other limits i j x 0 other)) (h.class j below));
    used_is = h.used_is;
  }

  -- the start
  pub at-none : (sorts classes limits : List ℕ) → IsAt constants sorts classes limits constants 0
  at-none sorts classes limits = record {
    limit = λ j l. absurd (omega arith);
    class = λ j l. absurd (omega arith);
    used_is = refl;
  }

  -- `close` gives a new class back
  pub closed-same : (used now : Universe) (sort class : ℕ) → sort < length used → class ≡ size_of used sort → now ≡ opened used sort class → set now sort (size_of now sort - 1) ≡ used
  closed-same used now sort class l e is =
      let opens : now ≡ set used sort (size_of used sort + 1) = is ∙ opened-same used sort class e in
      let size : size_of now sort ≡ size_of used sort + 1 = ap (λ (u : Universe). size_of u sort) opens ∙ get_or-set_same used sort (size_of used sort + 1) 0 l in
      (λ i. set (opens i) sort (size i - 1))
      ∙ (ap (set (set used sort (size_of used sort + 1)) sort) (omega arith)
      ∙ (set-set used sort (size_of used sort + 1) (size_of used sort) ∙ set-get_or used sort 0))

  -- no sort has more classes in use than it has constants and there are variables
  pub at-bound : (sorts classes limits : List ℕ) (used : Universe) (n sort : ℕ) → n ≤ length sorts →
      IsAt constants sorts classes limits used n → size_of used sort ≤ size_of constants sort + n
  at-bound sorts classes limits used n sort l h =
      let bound = size-after_most constants (take n sorts) (take n classes) sort in
      let long : length (take n sorts) ≡ n = length-take-le n sorts l in
      let same : size_of used sort ≡ size_of (used_at sorts classes n) sort = ap (λ (u : Universe). size_of u sort) h.used_is in
      omega arith

  length-after : (used : Universe) (sorts classes : List ℕ) → length (used_after used sorts classes) ≡ length used
  length-after used [] classes = refl
  length-after used (s ∷ sorts) [] = refl
  length-after used (s ∷ sorts) (c ∷ classes) = length-after (opened used s c) sorts classes ∙ length-opened used s c

  -- `open` where the class is new, and where it is not
  pub open-new : (sorts classes limits : List ℕ) (used : Universe) (n : ℕ) → n < length sorts → n < length classes → IsAt constants sorts classes limits used n
      → slice_index limits n ≡ size_of used (slice_index sorts n) → slice_index classes n ≡ slice_index limits n
      → IsAt constants sorts classes limits (set used (slice_index sorts n) (size_of used (slice_index sorts n) + 1)) (n + 1)
  open-new sorts classes limits used n l m h limit new =
      subst (λ (u : Universe). IsAt constants sorts classes limits u (n + 1)) (opened-same used (slice_index sorts n) (slice_index classes n) (new ∙ limit)) (at-opened sorts classes limits used n l m h limit (omega arith))

  pub open-old : (sorts classes limits : List ℕ) (used : Universe) (n : ℕ) → n < length sorts → n < length classes → IsAt constants sorts classes limits used n
      → slice_index limits n ≡ size_of used (slice_index sorts n) → slice_index classes n ≤ slice_index limits n → (slice_index classes n ≡ slice_index limits n → ⊥)
      → IsAt constants sorts classes limits used (n + 1)
  open-old sorts classes limits used n l m h limit class old =
      subst (λ (u : Universe). IsAt constants sorts classes limits u (n + 1)) (opened-other used (slice_index sorts n) (slice_index classes n) (λ e. old (e ∙ sym limit))) (at-opened sorts classes limits used n l m h limit class)

  -- `close` likewise
  pub close-new : (sorts classes limits : List ℕ) (used : Universe) (n : ℕ) → n < length sorts → n < length classes → slice_index sorts n < length constants → IsAt constants sorts classes limits used (n + 1)
      → slice_index classes n ≡ slice_index limits n → IsAt constants sorts classes limits (set used (slice_index sorts n) (size_of used (slice_index sorts n) - 1)) n
  close-new sorts classes limits used n l m inside h new =
      subst (λ (u : Universe). IsAt constants sorts classes limits u n)
      (sym (closed-same (used_at sorts classes n) used (slice_index sorts n) (slice_index classes n) (omega (arith, length-after constants (take n sorts) (take n classes)))
      (new ∙ h.limit n (omega arith)) (h.used_is ∙ used_at-more sorts classes n l m)))
      (at-closed sorts classes limits used n l m h)

  pub close-old : (sorts classes limits : List ℕ) (used : Universe) (n : ℕ) → n < length sorts → n < length classes → IsAt constants sorts classes limits used (n + 1)
      → (slice_index classes n ≡ slice_index limits n → ⊥) → IsAt constants sorts classes limits used n
  close-old sorts classes limits used n l m h old =
      subst (λ (u : Universe). IsAt constants sorts classes limits u n)
      (sym (h.used_is ∙ (used_at-more sorts classes n l m ∙ opened-other (used_at sorts classes n) (slice_index sorts n) (slice_index classes n) (λ e. old (e ∙ sym (h.limit n (omega arith)))))))
      (at-closed sorts classes limits used n l m h)

  -- a class that is counted as in use is there
  pub close-some : (sorts classes limits : List ℕ) (used : Universe) (n : ℕ) → n < length sorts → n < length classes → slice_index sorts n < length constants → IsAt constants sorts classes limits used (n + 1)
      → slice_index classes n ≡ slice_index limits n → 1 ≤ size_of used (slice_index sorts n)
  close-some sorts classes limits used n l m inside h new =
      let opens : used ≡ set (used_at sorts classes n) (slice_index sorts n) (size_of (used_at sorts classes n) (slice_index sorts n) + 1)
      = h.used_is ∙ (used_at-more sorts classes n l m ∙ opened-same (used_at sorts classes n) (slice_index sorts n) (slice_index classes n) (new ∙ h.limit n (omega arith))) in
      let size : size_of used (slice_index sorts n) ≡ size_of (used_at sorts classes n) (slice_index sorts n) + 1
      = ap (λ (u : Universe). size_of u (slice_index sorts n)) opens
      ∙ get_or-set_same (used_at sorts classes n) (slice_index sorts n) (size_of (used_at sorts classes n) (slice_index sorts n) + 1) 0 (omega (arith, length-after constants (take n sorts) (take n classes))) in
      omega arith

  -- the limit at a place of the first variables is that of the arrays
  pub limit-of : (sorts classes limits : List ℕ) (used : Universe) (len j : ℕ) → IsAt constants sorts classes limits used len → j < len → slice_index limits j ≡ limit_at constants (take len sorts) (take len classes) j
  limit-of sorts classes limits used len j h l =
      h.limit j l ∙ (λ i. size_of (used_after constants (sym (take-take j len sorts (omega arith)) i) (sym (take-take j len classes (omega arith)) i)) (sym (get_or-take len sorts j 0 l) i))

  -- the raised classes
  pub raised-from : (sorts classes limits ns : List ℕ) (used : Universe) (len place : ℕ) → len ≤ length sorts → len ≤ length classes → len ≤ length ns → IsAt constants sorts classes limits used len → place < len
      → ((j : ℕ) → j < place → slice_index ns j ≡ slice_index classes j) → slice_index ns place ≡ slice_index classes place + 1 → ((j : ℕ) → place < j → j < len → slice_index ns j ≡ 0)
      → ((j : ℕ) → place < j → j < len → slice_index classes j ≡ slice_index limits j) → IsRaised constants (take len sorts) (take len classes) (take len ns) place
  raised-from sorts classes limits ns used len place ls lc ln h within same up anew newest =
      let long : length (take len sorts) ≡ len = length-take-le len sorts ls in
      record {
        wide = length-take-le len classes lc ∙ sym long;
        also_wide = length-take-le len ns ln ∙ sym long;
        within = omega arith;
        same = λ j l. get_or-take len classes j 0 (omega arith) ∙ (sym (same j l) ∙ sym (get_or-take len ns j 0 (omega arith)));
        raised = get_or-take len ns place 0 within ∙ (up ∙ ap (λ n. n + 1) (sym (get_or-take len classes place 0 within)));
        anew = λ j l m. get_or-take len ns j 0 (omega arith) ∙ anew j l (omega arith);
        newest = λ j l m. get_or-take len classes j 0 (omega arith) ∙ (newest j l (omega arith) ∙ limit-of sorts classes limits used len j h (omega arith));
      }

  -- classes that are all the newest
  pub newest-from : (sorts classes limits : List ℕ) (used : Universe) (len : ℕ) → len ≤ length sorts → len ≤ length classes → IsAt constants sorts classes limits used len
      → ((j : ℕ) → j < len → slice_index classes j ≡ slice_index limits j) → AreNewest constants (take len sorts) (take len classes)
  newest-from sorts classes limits used len ls lc h newest =
      let long : length (take len sorts) ≡ len = length-take-le len sorts ls in
      record {
        wide = length-take-le len classes lc ∙ sym long;
        newest = λ j l. get_or-take len classes j 0 (omega arith) ∙ (newest j (omega arith) ∙ limit-of sorts classes limits used len j h (omega arith));
      }

-- the variables from a place on have had their first classes, up to another place
pub record IsAnew (old new : Cursor) (from place : ℕ) : Type 0 where
  pub cursor : IsCursor new
  pub variables : IsOfVariables old new
  pub reached : from ≤ place
  pub within : place ≤ new.len
  pub at : IsAt new.constants new.sorts new.classes new.limits new.universe.sizes place
  pub before : (j : ℕ) → j < from → slice_index new.classes j ≡ slice_index old.classes j
  pub anew : (j : ℕ) → from ≤ j → j < place → slice_index new.classes j ≡ 0

-- the classes from a place on are the newest, and have been counted back
pub record IsBack (old new : Cursor) (place : ℕ) : Type 0 where
  pub cursor : IsCursor new
  pub same : IsSameButUsed old new
  pub within : place ≤ old.len
  pub at : IsAt new.constants new.sorts new.classes new.limits new.universe.sizes place
  pub newest : (j : ℕ) → place ≤ j → j < old.len → slice_index old.classes j ≡ slice_index old.limits j

-- the cursor with the class at a place raised, and those behind it anew, stands at the next pattern
pub raise-behind : (old new : Cursor) (place : ℕ) (raised : List ℕ) → IsCursor old → IsAt old.constants old.sorts old.classes old.limits old.universe.sizes old.len → IsCursor new → new.sorts ≡ old.sorts → new.len ≡ old.len
    → IsAt new.constants new.sorts new.classes new.limits new.universe.sizes new.len → place < old.len → raised ≡ set old.classes place (slice_index old.classes place + 1) → ((j : ℕ) → j < place + 1 → slice_index new.classes j ≡ slice_index raised j) → ((j : ℕ) → place + 1 ≤ j → j < new.len → slice_index new.classes j ≡ 0)
    → ((j : ℕ) → place + 1 ≤ j → j < old.len → slice_index old.classes j ≡ slice_index old.limits j) → IsBehind old new
raise-behind old new place raised is at is_new sorts len at_new within is_raised before anew newest = record {
  at = at_new;
  next = later-raised old.constants (sorts_in old) (classes_in old) (take old.len new.classes) place
      (raised-from old.constants old.sorts old.classes old.limits new.classes old.universe.sizes old.len place (omega (arith, is.few, is.sorts_width)) (omega (arith, is.few, is.classes_width)) (omega (arith, is.few, is_new.classes_width)) at within
      (λ j l. (let other : j ≢ place = omega arith in before j (omega arith) ∙ (ap (λ cs. slice_index cs j) is_raised ∙ get_or-set_other old.classes place j (slice_index old.classes place + 1) 0 other)))
      (before place (omega arith) ∙ (ap (λ cs. slice_index cs place) is_raised ∙ get_or-set_same old.classes place (slice_index old.classes place + 1) 0 (omega (arith, is.few, is.classes_width))))
      (λ j l m. anew j (omega arith) (omega (arith, len)))
      (λ j l m. newest j (omega arith) m))
      ∙ ap (λ n. left old.constants (sorts_in old) (take n new.classes)) (sym len);
}

-- behind the last pattern come no more
pub none-behind : (old : Cursor) → IsCursor old → IsAt old.constants old.sorts old.classes old.limits old.universe.sizes old.len
    → ((j : ℕ) → 0 ≤ j → j < old.len → slice_index old.classes j ≡ slice_index old.limits j) → later old.constants (sorts_in old) (classes_in old) ≡ []
none-behind old is at newest = later-newest old.constants (sorts_in old) (classes_in old)
    (newest-from old.constants old.sorts old.classes old.limits old.universe.sizes old.len (omega (arith, is.few, is.sorts_width)) (omega (arith, is.few, is.classes_width)) at (λ j l. newest j (omega arith) l))
