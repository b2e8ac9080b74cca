-- Examples that are collected case by case.
--
--   extends-nothing, extends-one   of no case, and of a case whose example is found
--   extends-both                   some cases after others
--   extends-same                   of the same cases
--   collects-from_extends          a list that has grown from nothing
--   AreReportedDrops-from_extends  the drops of a whole analysis
use Rattle.std.proofs.Common.{◌≡◌, ℕ, List, [], ◌∷◌, ◌++◌, refl, sym, ap, ◌∙◌, subst, inl, inr}
use Rattle.std.specs.List.{All}
use Rattle.std.specs.Ordering.{nat_cmp}
use Rattle.std.specs.Cmp.Lexicographic.{slice_cmp}
use Rattle.std.proofs.lemmas.List.{append_assoc, append-nil}
use Rattle.std.proofs.lemmas.List.Elements.{All-append, All-from_recursion, recursion_from_All}
use Rattle.std.proofs.lemmas.Option.{slice_get_within}
use Rattle.ipa_spec.specs.declared.specification.Specification.{Specification}
use Rattle.ipa_logic.specs.Acceptance.{DropBreaks}
use Rattle.ipa_ground.specs.Enumeration.{IsListed}
use Rattle.ipa_ground.specs.ListLaws.{Listed-append_left, Listed-append_right, each_listed, each_from_listed, Rises-append, Rises-none, Rises-one}
use Rattle.ipa_pairs.specs.Examples.{IsReportedDrop}
use Rattle.ipa_pairs.specs.Analyses.{Collects, AreReportedDrops}
use Rattle.ipa_pairs.specs.Collecting.{Extends, BoundClause, bound_clause, bound_clause_of, bound_clause_key, IsUnsafe, IsDeclaredDrop}
use Rattle.ipa_pairs.specs.declared.analysis.UnsafeDrop.{UnsafeDrop}
use Rattle.ipa_pairs.proofs.OrderLemmas.{IsSplit}

module _ {X T : Type 0} (of : X → T) (key : T → List ℕ) (IsExample : X → Type 0) (IsThere : T → Type 0) where
  -- each example in the list is one, and of a case in question
  pub listed-collects : (Q : T → Type 0) (xs : List X) → All (λ x. IsExample x × Q (of x)) xs → (x : X) → IsListed xs x → IsExample x × Q (of x)
  listed-collects Q xs h x l = each_listed (λ x. IsExample x × Q (of x)) xs (recursion_from_All (λ x. IsExample x × Q (of x)) xs h) x l

  all-weaker : (Q R : T → Type 0) (xs : List X) → ((t : T) → Q t → R t) → All (λ x. IsExample x × Q (of x)) xs → All (λ x. IsExample x × R (of x)) xs
  all-weaker Q R xs w h = All-from_recursion (λ x. IsExample x × R (of x)) xs
      (each_from_listed (λ x. IsExample x × R (of x)) xs (λ x l. let p = listed-collects Q xs h x l in (p.0, w (of x) p.1)))

  -- of no case
  pub collects-none : (Q : T → Type 0) → ((t : T) → Q t → IsThere t → ⊥) → Collects of key IsExample IsThere Q []
  collects-none Q none = record {
    each = All-from_recursion (λ x. IsExample x × Q (of x)) [] tt;
    rising = Rises-none (λ x y. slice_cmp nat_cmp (key (of x)) (key (of y)));
    complete = λ t q h. absurd (none t q h);
  }

  -- of one case
  pub collects-one : (x : X) (t : T) → IsExample x → of x ≡ t → Collects of key IsExample IsThere (λ u. u ≡ t) (x ∷ [])
  collects-one x t h e = record {
    each = All-from_recursion (λ y. IsExample y × (of y ≡ t)) (x ∷ []) ((h, e), tt);
    rising = Rises-one (λ x y. slice_cmp nat_cmp (key (of x)) (key (of y))) x;
    complete = λ u q h. record { example = x; listed = record { place = 0; there = refl }; is = e ∙ sym q };
  }

  -- some cases after others
  pub collects-both : (Q P R : T → Type 0) (xs ys : List X) → IsSplit key Q P R → Collects of key IsExample IsThere Q xs → Collects of key IsExample IsThere P ys
      → Collects of key IsExample IsThere R (xs ++ ys)
  collects-both Q P R xs ys split a b = record {
    each = All-append (λ x. IsExample x × R (of x)) xs ys (all-weaker Q R xs split.first a.each) (all-weaker P R ys split.rest b.each);
    rising = Rises-append (λ x y. slice_cmp nat_cmp (key (of x)) (key (of y))) xs ys a.rising b.rising
        (λ x y l m. split.before (of x) (of y) (listed-collects Q xs a.each x l).1 (listed-collects P ys b.each y m).1);
    complete = λ t q h. elim (split.either t q) [
      | inl first ↦ (let o = a.complete t first h in record { example = o.example; listed = Listed-append_left xs ys o.example o.listed; is = o.is })
      | inr rest ↦ (let o = b.complete t rest h in record { example = o.example; listed = Listed-append_right xs ys o.example o.listed; is = o.is })
    ];
  }

  -- of the same cases
  pub collects-same : (Q R : T → Type 0) (xs : List X) → ((t : T) → Q t → R t) → ((t : T) → R t → Q t) → Collects of key IsExample IsThere Q xs
      → Collects of key IsExample IsThere R xs
  collects-same Q R xs to back h = record {
    each = all-weaker Q R xs to h.each;
    rising = h.rising;
    complete = λ t q there. h.complete t (back t q) there;
  }

  pub extends-nothing : (Q : T → Type 0) (xs : List X) → ((t : T) → Q t → IsThere t → ⊥) → Extends of key IsExample IsThere Q xs xs
  extends-nothing Q xs none = record { found = []; grown = sym (append-nil xs); collects = collects-none Q none }

  pub extends-one : (xs ys : List X) (x : X) (t : T) → ys ≡ xs ++ x ∷ [] → IsExample x → of x ≡ t → Extends of key IsExample IsThere (λ u. u ≡ t) xs ys
  extends-one xs ys x t grown h e = record { found = x ∷ []; grown = grown; collects = collects-one x t h e }

  pub extends-both : (Q P R : T → Type 0) (xs ys zs : List X) → IsSplit key Q P R → Extends of key IsExample IsThere Q xs ys → Extends of key IsExample IsThere P ys zs
      → Extends of key IsExample IsThere R xs zs
  extends-both Q P R xs ys zs split a b = record {
    found = a.found ++ b.found;
    grown = b.grown ∙ (ap (λ ws. ws ++ b.found) a.grown ∙ append_assoc xs a.found b.found);
    collects = collects-both Q P R a.found b.found split a.collects b.collects;
  }

  pub extends-same : (Q R : T → Type 0) (xs ys : List X) → ((t : T) → Q t → R t) → ((t : T) → R t → Q t) → Extends of key IsExample IsThere Q xs ys
      → Extends of key IsExample IsThere R xs ys
  extends-same Q R xs ys to back h = record { found = h.found; grown = h.grown; collects = collects-same Q R h.found to back h.collects }

  -- a list that has grown from nothing
  pub collects-from_extends : (Q : T → Type 0) (xs : List X) → Extends of key IsExample IsThere Q [] xs → Collects of key IsExample IsThere Q xs
  collects-from_extends Q xs h = subst (Collects of key IsExample IsThere Q) (sym h.grown) h.collects

module _ (s : Specification) where
  drop_declared : (n k : ℕ) → DropBreaks s n k → IsDeclaredDrop s (bound_clause n k)
  drop_declared n k h = record {
    bound_declared = slice_get_within s.bounds n h.bound h.breaks.droppable.declared;
    clause_declared = slice_get_within s.clauses k h.clause h.declared;
  }

  pub AreReportedDrops-from_extends : (es : List UnsafeDrop)
      → Extends bound_clause_of bound_clause_key (IsReportedDrop s) (IsUnsafe s) (IsDeclaredDrop s) [] es → AreReportedDrops s es
  AreReportedDrops-from_extends es h =
      let c = collects-from_extends bound_clause_of bound_clause_key (IsReportedDrop s) (IsUnsafe s) (IsDeclaredDrop s) es h in record {
        each = All-from_recursion (IsReportedDrop s) es (each_from_listed (IsReportedDrop s) es
            (λ x l. (listed-collects bound_clause_of bound_clause_key (IsReportedDrop s) (IsUnsafe s) (IsDeclaredDrop s) es c.each x l).0));
        rising = c.rising;
        complete = λ n k there. (let o = c.complete (bound_clause n k) (drop_declared n k there) there in record {
          example = o.example;
          listed = o.listed;
          bound_is = ap (λ (t : BoundClause). t.bound) o.is;
          clause_is = ap (λ (t : BoundClause). t.clause) o.is;
        });
      }
