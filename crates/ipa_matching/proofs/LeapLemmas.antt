-- Leaps over elements that do not fit.
--
--   before-here    a leap in the first place
--   before-later   a leap in a later one
--   before-none    no leap
--   leap-none      facts of one predicate are compared by their elements
use Rattle.std.proofs.Common.{◌≡◌, ℕ, ◌<◌, ◌≤◌, true, ◌==◌, List, [], ◌∷◌, Option, refl, ◌∙◌, ap, arith}
use Rattle.std.proofs.lemmas.Bool.{and_parts, false≢true}
use Rattle.std.proofs.lemmas.Bool.Decides.{nat_tests}
use Rattle.std.specs.Ordering.{nat_cmp, ordering_then, is_lt}
use Rattle.std.specs.Cmp.Lexicographic.{slice_cmp}
use Rattle.std.specs.declared.cmp.Ordering.{Ordering}
use Rattle.std.specs.declared.cmp.Ordering.TheVariants.{Less, Equal, Greater}
use Rattle.ipa_logic.specs.Facts.{fact_cmp}
use Rattle.ipa_logic.specs.declared.facts.Fact.{Fact}
use Rattle.ipa_matching.specs.Matches.{place_fits, fit, is_match, NoneFitsBetween}

-- what comes first or is tied decides as what follows does
then-lt : (o p q : Ordering) → (is_lt p ≡ true → is_lt q ≡ true) → is_lt (ordering_then o p) ≡ true → is_lt (ordering_then o q) ≡ true
then-lt Less p q h l = refl
then-lt Equal p q h l = h l
then-lt Greater p q h l = absurd (false≢true l)

-- a lesser number comes before
less-cmp : (x y : ℕ) (o : Ordering) → x < y → is_lt (ordering_then (nat_cmp x y) o) ≡ true
less-cmp x y o h = grind (arith, nat_tests)

-- what comes before has no greater number first
cmp-least : (x y : ℕ) (o : Ordering) → is_lt (ordering_then (nat_cmp x y) o) ≡ true → x ≤ y
cmp-least x y o h = grind (arith, nat_tests)

-- a leap in the first place
pub before-here : (wanted : Option ℕ) (places : List (Option ℕ)) (element before : ℕ) (elements rest : List ℕ)
    → ((x : ℕ) → place_fits wanted x ≡ true → element ≤ x → before < x)
    → NoneFitsBetween (wanted ∷ places) (element ∷ elements) (before ∷ rest)
before-here wanted places element before elements rest h = record { none = none }
  where
    none : (x : List ℕ) → fit (wanted ∷ places) x ≡ true → is_lt (slice_cmp nat_cmp (element ∷ elements) x) ≡ true
        → is_lt (slice_cmp nat_cmp (before ∷ rest) x) ≡ true
    none [] f l = absurd (false≢true f)
    none (x ∷ xs) f l = less-cmp before x (slice_cmp nat_cmp rest xs)
        (h x (and_parts (place_fits wanted x) (fit places xs) f).0 (cmp-least element x (slice_cmp nat_cmp elements xs) l))

-- a leap in a later one
pub before-later : (wanted : Option ℕ) (places : List (Option ℕ)) (element : ℕ) (elements rest : List ℕ)
    → NoneFitsBetween places elements rest → NoneFitsBetween (wanted ∷ places) (element ∷ elements) (element ∷ rest)
before-later wanted places element elements rest h = record { none = none }
  where
    none : (x : List ℕ) → fit (wanted ∷ places) x ≡ true → is_lt (slice_cmp nat_cmp (element ∷ elements) x) ≡ true
        → is_lt (slice_cmp nat_cmp (element ∷ rest) x) ≡ true
    none [] f l = absurd (false≢true f)
    none (x ∷ xs) f l = then-lt (nat_cmp element x) (slice_cmp nat_cmp elements xs) (slice_cmp nat_cmp rest xs)
        (h.none xs (and_parts (place_fits wanted x) (fit places xs) f).1) l

-- no leap
pub before-none : (places : List (Option ℕ)) (elements : List ℕ) → NoneFitsBetween places elements elements
before-none places elements = record { none = λ x f l. l }

-- facts of one predicate are compared by their elements
pub leap-none : (predicate : ℕ) (places : List (Option ℕ)) (fact place f : Fact) → place.predicate ≡ fact.predicate
    → NoneFitsBetween places fact.args place.args
    → is_match predicate places f ≡ true → is_lt (fact_cmp fact f) ≡ true → is_lt (fact_cmp place f) ≡ true
leap-none predicate places fact place f e h q l = ap (λ (p : ℕ). is_lt (ordering_then (nat_cmp p f.predicate) (slice_cmp nat_cmp place.args f.args))) e
    ∙ then-lt (nat_cmp fact.predicate f.predicate) (slice_cmp nat_cmp fact.args f.args) (slice_cmp nat_cmp place.args f.args)
    (h.none f.args (and_parts (f.predicate == predicate) (fit places f.args) q).1) l
