-- The facts of a group are those that match its key.
use Rattle.std.proofs.Common.{◌≡◌, ℕ, zero, suc, Bool, true, false, ◌&&◌, ◌==◌, List, [], ◌∷◌, filter, map, slice_set, Option, Some, None, refl, sym, ◌∙◌, ap, arith}
use Rattle.std.proofs.lemmas.Bool.Decides.{nat_tests}
use Rattle.std.specs.Ordering.{nat_cmp, ordering_then, is_eq}
use Rattle.std.specs.Cmp.{tied_itself}
use Rattle.std.specs.Cmp.Lexicographic.{slice_cmp, nat_list_cmp_total}
use Rattle.std.specs.declared.cmp.Ordering.{Ordering}
use Rattle.std.specs.declared.cmp.Ordering.TheVariants.{Less, Equal, Greater}
use Rattle.ipa_spec.specs.declared.bounds.Bound.{Bound}
use Rattle.ipa_logic.specs.Groups.{is_in_group, group_of}
use Rattle.ipa_logic.specs.Views.{next_fact}
use Rattle.ipa_logic.specs.declared.facts.Fact.{Fact}
use Rattle.ipa_matching.specs.Matches.{fit, is_match}
use Rattle.ipa_bounds.specs.Members.{places_of, is_key}

-- lists are tied where their first items are, and the rest is
then-tied : (o p : Ordering) → is_eq (ordering_then o p) ≡ (is_eq o && is_eq p)
then-tied Less p = refl
then-tied Equal p = refl
then-tied Greater p = refl

-- numbers are tied where they are equal
tied-equal : (x k : ℕ) → is_eq (nat_cmp x k) ≡ (k == x)
tied-equal x k = grind (arith, nat_tests)

-- elements are tied with those that are wanted in each place
tied-fit : (xs ks : List ℕ) → is_eq (slice_cmp nat_cmp xs ks) ≡ fit (map Some ks) xs
tied-fit [] [] = refl
tied-fit [] (k ∷ ks) = refl
tied-fit (x ∷ xs) [] = refl
tied-fit (x ∷ xs) (k ∷ ks) = then-tied (nat_cmp x k) (slice_cmp nat_cmp xs ks)
    ∙ (ap (λ (b : Bool). b && is_eq (slice_cmp nat_cmp xs ks)) (tied-equal x k)
    ∙ ap (λ (b : Bool). (k == x) && b) (tied-fit xs ks))

-- elements have the key where they fit it, and it is one
has-key : (n : ℕ) (key x : List ℕ) →
    is_eq (slice_cmp nat_cmp (slice_set x n 0) key) ≡ (fit (places_of n key) x && is_eq (slice_cmp nat_cmp (slice_set key n 0) key))
has-key zero [] [] = refl
has-key (suc n) [] [] = refl
has-key zero [] (x ∷ xs) = refl
has-key (suc n) [] (x ∷ xs) = refl
has-key zero (k ∷ ks) [] = refl
has-key (suc n) (k ∷ ks) [] = refl
has-key zero (k ∷ ks) (x ∷ xs) = then-tied (nat_cmp 0 k) (slice_cmp nat_cmp xs ks)
    ∙ (ap (λ (b : Bool). is_eq (nat_cmp 0 k) && b) (tied-fit xs ks)
    ∙ (turned (is_eq (nat_cmp 0 k)) (fit (map Some ks) xs)
    ∙ ap (λ (b : Bool). fit (map Some ks) xs && b)
    (sym (then-tied (nat_cmp 0 k) (slice_cmp nat_cmp ks ks)
    ∙ ap (λ (o : Ordering). is_eq (nat_cmp 0 k) && is_eq o) (tied_itself nat_list_cmp_total ks)))))
  where
    turned : (a b : Bool) → (a && b) ≡ (b && (a && true))
    turned true true = refl
    turned true false = refl
    turned false true = refl
    turned false false = refl
has-key (suc n) (k ∷ ks) (x ∷ xs) = then-tied (nat_cmp x k) (slice_cmp nat_cmp (slice_set xs n 0) ks)
    ∙ (ap (λ (b : Bool). b && is_eq (slice_cmp nat_cmp (slice_set xs n 0) ks)) (tied-equal x k)
    ∙ (ap (λ (b : Bool). (k == x) && b) (has-key n ks xs)
    ∙ (parts (k == x) (fit (places_of n ks) xs) (is_eq (slice_cmp nat_cmp (slice_set ks n 0) ks))
    ∙ ap (λ (b : Bool). ((k == x) && fit (places_of n ks) xs) && b)
    (sym (then-tied (nat_cmp k k) (slice_cmp nat_cmp (slice_set ks n 0) ks)
    ∙ ap (λ (b : Bool). b && is_eq (slice_cmp nat_cmp (slice_set ks n 0) ks)) (own k))))))
  where
    own : (k : ℕ) → is_eq (nat_cmp k k) ≡ true
    own k = grind (arith, nat_tests)

    parts : (a b c : Bool) → (a && (b && c)) ≡ ((a && b) && (true && c))
    parts true b c = refl
    parts false b c = refl

module _ (b : Bound) (key : List ℕ) where
  -- a fact is in the group where it matches the key, and that is one
  in_group-match : (f : Fact) → is_in_group b key f ≡ (is_match b.predicate (places_of b.counted key) f && is_key b key)
  in_group-match f = ap (λ (c : Bool). (f.predicate == b.predicate) && c) (has-key b.counted key f.args)
      ∙ parts (f.predicate == b.predicate) (fit (places_of b.counted key) f.args) (is_key b key)
    where
      parts : (a b c : Bool) → (a && (b && c)) ≡ ((a && b) && c)
      parts true b c = refl
      parts false b c = refl

  -- the next fact that matches is the next of the group
  pub member-next : (s : List Fact) (after next : Option Fact) (places : List (Option ℕ)) → is_key b key ≡ true
      → places ≡ places_of b.counted key
      → next ≡ next_fact (filter (is_match b.predicate places) s) b.predicate after
      → next ≡ next_fact (group_of b key s) b.predicate after
  member-next s after next places h p e = e
      ∙ ap (λ (wanted : List (Option ℕ)). next_fact (filter (is_match b.predicate wanted) s) b.predicate after) p
      ∙ ap (λ (test : Fact → Bool). next_fact (filter test s) b.predicate after) (λ i f. same f i)
    where
      whole : (a : Bool) → a ≡ (a && true)
      whole true = refl
      whole false = refl

      same : (f : Fact) → is_match b.predicate (places_of b.counted key) f ≡ is_in_group b key f
      same f = whole (is_match b.predicate (places_of b.counted key) f)
          ∙ sym (in_group-match f ∙ ap (λ (c : Bool). is_match b.predicate (places_of b.counted key) f && c) h)

  -- elements that are no key have no group
  pub member-none : (s : List Fact) (after : Option Fact) → is_key b key ≡ false → None ≡ next_fact (group_of b key s) b.predicate after
  member-none s after h = sym (ap (λ (test : Fact → Bool). next_fact (filter test s) b.predicate after) (λ i f. fails f i) ∙ ap (λ (t : List Fact). next_fact t b.predicate after) (nothing s))
    where
      none : (a : Bool) → (a && false) ≡ false
      none true = refl
      none false = refl

      fails : (f : Fact) → is_in_group b key f ≡ false
      fails f = in_group-match f
          ∙ (ap (λ (c : Bool). is_match b.predicate (places_of b.counted key) f && c) h ∙ none (is_match b.predicate (places_of b.counted key) f))

      nothing : (s : List Fact) → filter (λ (f : Fact). false) s ≡ []
      nothing [] = refl
      nothing (x ∷ xs) = nothing xs
