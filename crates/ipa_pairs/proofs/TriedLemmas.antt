-- Patterns that are gone through in order.
--
--   Tried P constants sorts to_come   P holds of no pattern before those to come
--   tried-first                at first all are to come
--   tried-here                 the first one to come is a pattern, and P holds of none before it
--   tried-next                 where P does not hold of it, it is passed
--   tried-all                  where none is to come, P holds of no pattern
use Rattle.std.proofs.Common.{◌≡◌, ℕ, zero, suc, true, List, [], ◌∷◌, ◌++◌, take, replicate, map, Some, refl, sym, ap, ◌∙◌, subst, inl, inr, ◌⊎◌, slice_get}
use Rattle.std.specs.List.Sorted.{IsStrictlySortedBy}
use Rattle.std.specs.Ordering.{nat_cmp, is_lt, ordering_reverse}
use Rattle.std.specs.Cmp.{tied_itself}
use Rattle.std.specs.Cmp.Lexicographic.{slice_cmp, nat_list_cmp_total}
use Rattle.std.specs.declared.cmp.Ordering.TheVariants.{Less}
use Rattle.std.proofs.Math.Seq.{take-append_seam}
use Rattle.std.proofs.lemmas.Bool.{false≢true}
use Rattle.std.proofs.lemmas.List.{append_assoc, append-nil}
use Rattle.std.proofs.lemmas.Option.{same_Some}
use Rattle.ipa_logic.specs.Facts.{Universe}
use Rattle.ipa_ground.specs.Enumeration.{IsListed}
use Rattle.ipa_ground.specs.ListLaws.{Listed-append_right, listed_in, Rises-head, Rises-tail}
use Rattle.ipa_ground.specs.Patterns.{IsPattern, patterns, padded}
use Rattle.ipa_ground.specs.PatternLaws.{Listed-patterns, listed_pattern, Rises-patterns, length-pattern_from}
use Rattle.ipa_ground.specs.PatternValues.{pattern_of, is_before}
use Rattle.ipa_ground.specs.declared.patterns.Pattern.{Pattern}
use Rattle.ipa_pairs.specs.Patterned.{classes_of, IsPatternOf}

-- of the patterns, those to come are the last, and P holds of none before them
pub record Tried (P : List ℕ → Type 0) (constants : Universe) (sorts : List ℕ) (to_come : List Pattern) : Type 0 where
  pub passed : List (List ℕ)
  pub rest : List (List ℕ)
  pub split : passed ++ rest ≡ patterns constants sorts
  pub coming : to_come ≡ map (pattern_of constants sorts) rest
  pub none : (classes : List ℕ) → IsListed passed classes → P classes → ⊥

-- P holds of no pattern before this one
pub record IsFirstOf (P : List ℕ → Type 0) (constants : Universe) (sorts classes : List ℕ) : Type 0 where
  pub first : (earlier : List ℕ) → IsPattern constants sorts earlier → is_before earlier classes ≡ true → P earlier → ⊥

-- the classes of a pattern's value are the pattern's
pub classes_of-pattern_of : (constants : Universe) (sorts classes : List ℕ) → IsPattern constants sorts classes → classes_of (pattern_of constants sorts classes) ≡ classes
classes_of-pattern_of constants sorts classes p =
    ap (λ (n : ℕ). take n (padded classes)) (sym (length-pattern_from constants sorts classes p)) ∙ take-append_seam classes (replicate _ 0)

-- nothing is before itself, and of two the one is before the other at most
not_before : (a b : List ℕ) → slice_cmp nat_cmp a b ≡ Less → is_before b a ≡ true → ⊥
not_before a b l h = false≢true (sym (ap is_lt (nat_list_cmp_total.antisymm b a ∙ ap ordering_reverse l)) ∙ h)

not_before_itself : (a : List ℕ) → is_before a a ≡ true → ⊥
not_before_itself a h = false≢true (sym (ap is_lt (tied_itself nat_list_cmp_total a)) ∙ h)

module _ (P : List ℕ → Type 0) (constants : Universe) (sorts : List ℕ) where
  -- at first all are to come
  pub tried-first : Tried P constants sorts (map (pattern_of constants sorts) (patterns constants sorts))
  tried-first = record { passed = []; rest = patterns constants sorts; split = refl; coming = refl; none = λ classes h p. none h.place h.there }
    where
      none : {classes : List ℕ} (k : ℕ) → slice_get [] k ≡ Some classes → ⊥
      none k e = cc

  -- the first list of classes to come, of which the value is
  record IsNext (t : List Pattern) (p : Pattern) (more : List Pattern) (h : Tried P constants sorts t) : Type 0 where
    classes : List ℕ
    later : List (List ℕ)
    rest_is : h.rest ≡ classes ∷ later
    is : p ≡ pattern_of constants sorts classes
    coming : more ≡ map (pattern_of constants sorts) later

  next-of : (p : Pattern) (more : List Pattern) (h : Tried P constants sorts (p ∷ more)) → IsNext (p ∷ more) p more h
  next-of p more h = by h.rest refl h.coming
    where
      by : (rest : List (List ℕ)) → h.rest ≡ rest → p ∷ more ≡ map (pattern_of constants sorts) rest → IsNext (p ∷ more) p more h
      by [] e c = cc
      by (classes ∷ later) e c = record { classes = classes; later = later; rest_is = e; is = cc; coming = cc }

  next-listed : (p : Pattern) (more : List Pattern) (h : Tried P constants sorts (p ∷ more)) → (n : IsNext (p ∷ more) p more h) → IsPattern constants sorts n.classes
  next-listed p more h n = listed_pattern constants sorts n.classes (subst (λ (xs : List (List ℕ)). IsListed xs n.classes) h.split
      (Listed-append_right h.passed h.rest n.classes (subst (λ (xs : List (List ℕ)). IsListed xs n.classes) (sym n.rest_is) (record { place = 0; there = refl }))))

  -- the first one to come is a pattern
  pub tried-here : (p : Pattern) (more : List Pattern) → Tried P constants sorts (p ∷ more) → IsPatternOf constants sorts p
  tried-here p more h =
      let n = next-of p more h in
      let is_pattern = next-listed p more h n in
      let same : classes_of p ≡ n.classes = ap classes_of n.is ∙ classes_of-pattern_of constants sorts n.classes is_pattern in
      record {
        is_pattern = subst (IsPattern constants sorts) (sym same) is_pattern;
        is = n.is ∙ ap (pattern_of constants sorts) (sym same);
      }

  -- P holds of none before it
  pub tried-before : (p : Pattern) (more : List Pattern) → Tried P constants sorts (p ∷ more) → IsFirstOf P constants sorts (classes_of p)
  tried-before p more h =
      let n = next-of p more h in
      let same : classes_of p ≡ n.classes = ap classes_of n.is ∙ classes_of-pattern_of constants sorts n.classes (next-listed p more h n) in
      record {
        first = λ earlier is b. before n earlier (subst (λ (c : List ℕ). is_before earlier c ≡ true) same b)
            (listed_in h.passed h.rest earlier (subst (λ (xs : List (List ℕ)). IsListed xs earlier) (sym h.split) (Listed-patterns constants sorts earlier is)));
      }
    where
      rises : (xs ys : List (List ℕ)) → IsStrictlySortedBy (slice_cmp nat_cmp) (xs ++ ys) → IsStrictlySortedBy (slice_cmp nat_cmp) ys
      rises [] ys r = r
      rises (x ∷ xs) ys r = rises xs ys (Rises-tail (slice_cmp nat_cmp) x (xs ++ ys) r)

      within : (classes : List ℕ) (later : List (List ℕ)) (earlier : List ℕ) → IsStrictlySortedBy (slice_cmp nat_cmp) (classes ∷ later) → is_before earlier classes ≡ true → (k : ℕ) → slice_get (classes ∷ later) k ≡ Some earlier → ⊥
      within classes later earlier r b zero e = not_before_itself classes (subst (λ (c : List ℕ). is_before c classes ≡ true) (sym (same_Some classes earlier e)) b)
      within classes later earlier r b (suc k) e = not_before classes earlier (Rises-head (slice_cmp nat_cmp) classes later r earlier (record { place = k; there = e })) b

      before : (n : IsNext (p ∷ more) p more h) (earlier : List ℕ) → is_before earlier n.classes ≡ true → IsListed h.passed earlier ⊎ IsListed h.rest earlier → P earlier → ⊥
      before n earlier b (inl l) holds = h.none earlier l holds
      before n earlier b (inr l) holds =
          let r : IsStrictlySortedBy (slice_cmp nat_cmp) h.rest = rises h.passed h.rest (subst (IsStrictlySortedBy (slice_cmp nat_cmp)) (sym h.split) (Rises-patterns constants sorts)) in
          within n.classes n.later earlier (subst (IsStrictlySortedBy (slice_cmp nat_cmp)) n.rest_is r) b l.place (subst (λ (xs : List (List ℕ)). slice_get xs l.place ≡ Some earlier) n.rest_is l.there)

  -- where P does not hold of it, it is passed
  pub tried-next : (p : Pattern) (more : List Pattern) → Tried P constants sorts (p ∷ more) → (P (classes_of p) → ⊥) → Tried P constants sorts more
  tried-next p more h none =
      let n = next-of p more h in
      let same : classes_of p ≡ n.classes = ap classes_of n.is ∙ classes_of-pattern_of constants sorts n.classes (next-listed p more h n) in
      record {
        passed = h.passed ++ n.classes ∷ [];
        rest = n.later;
        split = append_assoc h.passed (n.classes ∷ []) n.later ∙ (ap (λ (xs : List (List ℕ)). h.passed ++ xs) (sym n.rest_is) ∙ h.split);
        coming = n.coming;
        none = λ classes l. passed-none n.classes (subst (λ (c : List ℕ). P c → ⊥) same none) classes (listed_in h.passed (n.classes ∷ []) classes l);
      }
    where
      only : (c classes : List ℕ) (k : ℕ) → slice_get (c ∷ []) k ≡ Some classes → c ≡ classes
      only c classes zero e = same_Some c classes e
      only c classes (suc k) e = cc

      passed-none : (c : List ℕ) → (P c → ⊥) → (classes : List ℕ) → IsListed h.passed classes ⊎ IsListed (c ∷ []) classes → P classes → ⊥
      passed-none c none classes (inl l) holds = h.none classes l holds
      passed-none c none classes (inr l) holds = none (subst P (sym (only c classes l.place l.there)) holds)

  -- where none is to come, P holds of no pattern
  pub tried-all : (classes : List ℕ) → Tried P constants sorts [] → IsPattern constants sorts classes → P classes → ⊥
  tried-all classes h is holds = by h.rest refl h.coming
    where
      by : (rest : List (List ℕ)) → h.rest ≡ rest → [] ≡ map (pattern_of constants sorts) rest → ⊥
      by [] e c =
          let all : h.passed ≡ patterns constants sorts = sym (append-nil h.passed) ∙ (ap (λ (xs : List (List ℕ)). h.passed ++ xs) (sym e) ∙ h.split) in
          h.none classes (subst (λ (xs : List (List ℕ)). IsListed xs classes) (sym all) (Listed-patterns constants sorts classes is)) holds
      by (c ∷ later) e q = cc
