-- The next true fact of a predicate, by its elements.
use Rattle.std.proofs.Common.{◌≡◌, ℕ, ◌-◌, ◌<◌, ◌≤◌, Bool, true, false, ◌&&◌, ◌==◌, List, [], ◌∷◌, nat_cmp, Option, None, Some, refl, sym, ◌∙◌, ap, subst, arith}
use Rattle.std.proofs.lemmas.Bool.{and_parts, eqb-true, eq-eqb}
use Rattle.std.proofs.lemmas.Bool.Decides.{nat_tests}
use Rattle.std.specs.Ordering.{is_lt, ordering_then}
use Rattle.std.specs.Cmp.{nat_cmp_total, tied_itself}
use Rattle.std.specs.Cmp.Lexicographic.{slice_cmp}
use Rattle.std.specs.declared.cmp.Ordering.{Ordering}
use Rattle.ipa_logic.specs.Facts.{fact_cmp, has, IsRising}
use Rattle.ipa_logic.specs.Views.{is_left, next_fact, IsNext, NoNext, IsNextOf}
use Rattle.ipa_logic.specs.NextLaws.{next-found}
use Rattle.ipa_logic.specs.declared.facts.Fact.{Fact}
use Rattle.ipa_touch.specs.Leaps.{IsNextArgs, NoNextArgs}

module _ (p : ℕ) (start : List ℕ) where
  -- the fact of the predicate with these elements
  abbrev with_args : List ℕ → Fact
  with_args f = record { predicate = p; args = f }

  -- facts of one predicate are compared by their elements
  by-args : (a b : List ℕ) → fact_cmp (with_args a) (with_args b) ≡ slice_cmp nat_cmp a b
  by-args a b = ap (λ (o : Ordering). ordering_then o (slice_cmp nat_cmp a b)) (tied_itself nat_cmp_total p)

  -- and are left as their elements come after `start`
  left-args : (f : List ℕ) → is_left p (Some (with_args start)) (with_args f) ≡ is_lt (slice_cmp nat_cmp start f)
  left-args f = ap (λ (b : Bool). b && is_lt (fact_cmp (with_args start) (with_args f))) (eq-eqb p p refl) ∙ ap is_lt (by-args start f)

  -- what the view answers is the next fact
  next-of : (s : List Fact) (r : Option Fact) → IsRising s → r ≡ next_fact s p (Some (with_args start)) → IsNextOf (has s) p (Some (with_args start)) r
  next-of s r rising e = subst (IsNextOf (has s) p (Some (with_args start))) (sym e) (next-found p (Some (with_args start)) s rising)

  pub args-none : (s : List Fact) → IsRising s → None ≡ next_fact s p (Some (with_args start)) → NoNextArgs s p start
  args-none s r e = record { none = λ f h. sym (left-args f) ∙ found.none (with_args f) h }
    where
      found : NoNext (has s) p (Some (with_args start))
      found = next-of s None r e

  pub args-next : (s : List Fact) (g : Fact) → IsRising s → Some g ≡ next_fact s p (Some (with_args start)) → IsNextArgs s p start g.args
  args-next s g r e = record {
    above = sym (ap is_lt (by-args start g.args)) ∙ (ap (λ (q : ℕ). is_lt (fact_cmp (with_args start) (record { predicate = q; args = g.args }))) (sym same) ∙ parts.1);
    least = λ f h l. sym (ap is_lt (by-args f g.args)) ∙ (ap (λ (q : ℕ). is_lt (fact_cmp (with_args f) (record { predicate = q; args = g.args }))) (sym same) ∙ found.least (with_args f) h (left-args f ∙ l));
  }
    where
      found : IsNext (has s) p (Some (with_args start)) g
      found = next-of s (Some g) r e

      parts : ((g.predicate == p) ≡ true) × (is_lt (fact_cmp (with_args start) g) ≡ true)
      parts = and_parts (g.predicate == p) (is_lt (fact_cmp (with_args start) g)) found.left

      same : g.predicate ≡ p
      same = eqb-true g.predicate p parts.0

-- lists of three elements by their first places
pub after-first : (from a b x y z : ℕ) → 0 < from → from ≤ x → is_lt (slice_cmp nat_cmp ((from - 1) ∷ a ∷ b ∷ []) (x ∷ y ∷ z ∷ [])) ≡ true
after-first from a b x y z s l = grind (arith, nat_tests)

pub after-second : (one from b y z : ℕ) → 0 < from → from ≤ y → is_lt (slice_cmp nat_cmp (one ∷ (from - 1) ∷ b ∷ []) (one ∷ y ∷ z ∷ [])) ≡ true
after-second one from b y z s l = grind (arith, nat_tests)

pub after-third : (one two from z : ℕ) → 0 < from → from ≤ z → is_lt (slice_cmp nat_cmp (one ∷ two ∷ (from - 1) ∷ []) (one ∷ two ∷ z ∷ [])) ≡ true
after-third one two from z s l = grind (arith, nat_tests)

pub least-first : (x y z g h i : ℕ) → is_lt (slice_cmp nat_cmp (x ∷ y ∷ z ∷ []) (g ∷ h ∷ i ∷ [])) ≡ false → g ≤ x
least-first x y z g h i n = grind (arith, nat_tests)

pub least-second : (one y z h i : ℕ) → is_lt (slice_cmp nat_cmp (one ∷ y ∷ z ∷ []) (one ∷ h ∷ i ∷ [])) ≡ false → h ≤ y
least-second one y z h i n = grind (arith, nat_tests)

pub least-third : (one two z i : ℕ) → is_lt (slice_cmp nat_cmp (one ∷ two ∷ z ∷ []) (one ∷ two ∷ i ∷ [])) ≡ false → i ≤ z
least-third one two z i n = grind (arith, nat_tests)

-- what stands between two lists that have a first place in common has it too
pub between-first : (one a b y z g h i : ℕ) → is_lt (slice_cmp nat_cmp (one ∷ a ∷ b ∷ []) (g ∷ h ∷ i ∷ [])) ≡ true → is_lt (slice_cmp nat_cmp (one ∷ y ∷ z ∷ []) (g ∷ h ∷ i ∷ [])) ≡ false → g ≡ one
between-first one a b y z g h i l n = grind (arith, nat_tests)

pub between-second : (one two b z h i : ℕ) → is_lt (slice_cmp nat_cmp (one ∷ two ∷ b ∷ []) (one ∷ h ∷ i ∷ [])) ≡ true → is_lt (slice_cmp nat_cmp (one ∷ two ∷ z ∷ []) (one ∷ h ∷ i ∷ [])) ≡ false → h ≡ two
between-second one two b z h i l n = grind (arith, nat_tests)
