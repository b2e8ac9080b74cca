-- Searching for the first triple that is too wide.
--
--   IsPart s First Here Whole    of the whole, what comes before a triple of Here is of First or of Here
--   first-part                   the first one in Here is the first of the whole, where First is narrow
--   first-one                    the first one in one triple
--   part_pair, part_left, part_all   the parts of the loops over clauses, right actions and left actions
--   wide_at                      a live triple with more than 30000 patterns
use Rattle.std.proofs.Common.{◌≡◌, ℕ, ◌<◌, length, Some, refl, sym, ap, subst, arith, inl, inr, ◌⊎◌, true}
use Rattle.std.specs.List.{slice_get}
use Rattle.std.specs.Ordering.{nat_cmp}
use Rattle.std.specs.Cmp.Lexicographic.{slice_cmp}
use Rattle.std.specs.declared.cmp.Ordering.TheVariants.{Less}
use Rattle.std.proofs.lemmas.Bool.{cases_lt}
use Rattle.ipa_spec.specs.Actions.{IsAction}
use Rattle.ipa_spec.specs.declared.specification.Specification.{Specification}
use Rattle.ipa_spec.specs.declared.clauses.Clause.{Clause}
use Rattle.ipa_spec.specs.declared.operations.Action.{Action}
use Rattle.ipa_pairs.specs.Width.{Triple, IsDeclared, IsOfPair, IsNarrow, IsFirstTooWide, action_place, triple_key, pattern_count}
use Rattle.ipa_logic.specs.Conflicts.{is_live}
use Rattle.ipa_pairs.specs.Triples.{triple, IsOfLeft, IsWideAt}
use Rattle.ipa_pairs.proofs.OrderLemmas.{IsOfPairBelow, IsOfLeftBelow, IsBelow, not_both, is_less, same_action, before_by_left, before_by_right, before_by_clause, triple_is, left_of, right_of, clause_of}

module _ (s : Specification) where
  -- of the whole, what comes before a triple of Here is of First or of Here
  pub record IsPart (First Here Whole : Triple → Type 0) : Type 0 where
    pub here : (t : Triple) → Here t → Whole t
    pub earlier : (t u : Triple) → Here t → Whole u → slice_cmp nat_cmp (triple_key s u) (triple_key s t) ≡ Less → First u ⊎ Here u

  pub first-part : (First Here Whole : Triple → Type 0) (t : Triple) (count : ℕ) → IsPart First Here Whole → IsNarrow s First → IsFirstTooWide s Here t count
      → IsFirstTooWide s Whole t count
  first-part First Here Whole t count part narrow h = record {
    in_question = part.here t h.in_question;
    too_wide = h.too_wide;
    counted = h.counted;
    first = λ u q before w. elim (part.earlier t u h.in_question q (is_less _ before)) [
      | inl first ↦ narrow.narrow u first w
      | inr here ↦ h.first u here before w
    ];
  }

  -- the first among one triple
  pub first-one : (left right : Action) (k count : ℕ) → IsWideAt s left right k count → IsFirstTooWide s (λ t. t ≡ triple left right k) (triple left right k) count
  first-one left right k count h = record {
    in_question = refl;
    too_wide = h.too_wide;
    counted = h.counted;
    first = λ u e before w. not_both (triple_key s u) (triple_key s (triple left right k)) (is_less _ before)
        (subst (λ (v : Triple). slice_cmp nat_cmp (triple_key s v) (triple_key s u) ≡ Less) e
        (subst (λ (v : Triple). slice_cmp nat_cmp (triple_key s u) (triple_key s v) ≡ Less) (sym e) (is_less _ before)));
  }

  pub part_pair : (left right : Action) (n : ℕ) → n < length s.clauses → IsPart (IsOfPairBelow left right n) (λ t. t ≡ triple left right n) (IsOfPair s left right)
  part_pair left right n l = record {
    here = λ t e. record { left_is = left_of s t left right n e; right_is = right_of s t left right n e; clause_declared = omega (arith, l, clause_of s t left right n e) };
    earlier = λ t u e q before. elim (cases_lt u.clause n) [
      | inl low ↦ inl (record { left_is = q.left_is; right_is = q.right_is; below = low })
      | inr past ↦ elim (cases_lt n u.clause) [
        | inl above ↦ absurd (not_both (triple_key s u) (triple_key s t) before
            (before_by_clause s t u left right (left_of s t left right n e) q.left_is (right_of s t left right n e) q.right_is
            (omega (arith, above, clause_of s t left right n e))))
        | inr most ↦ inr (triple_is s u left right n q.left_is q.right_is (omega (arith, past, most)))
      ]
    ];
  }

  pub part_left : (left right : Action) (n : ℕ) → IsAction s right → action_place s right ≡ n → IsPart (IsOfLeftBelow s left n) (IsOfPair s left right) (IsOfLeft s left)
  part_left left right n declared e = record {
    here = λ t h. record { left_is = h.left_is; right_declared = subst (IsAction s) (sym h.right_is) declared; clause_declared = h.clause_declared };
    earlier = λ t u h q before. elim (cases_lt (action_place s u.right) n) [
      | inl low ↦ inl (record { left_is = q.left_is; right_declared = q.right_declared; below = low; clause_declared = q.clause_declared })
      | inr past ↦ elim (cases_lt n (action_place s u.right)) [
        | inl above ↦ absurd (not_both (triple_key s u) (triple_key s t) before
            (before_by_right s t u left h.left_is q.left_is (omega (arith, above, ap (action_place s) h.right_is, e))))
        | inr most ↦ inr (record {
          left_is = q.left_is;
          right_is = same_action s u.right right q.right_declared declared (omega (arith, past, most, e));
          clause_declared = q.clause_declared;
        })
      ]
    ];
  }

  pub part_all : (left : Action) (n : ℕ) → IsAction s left → action_place s left ≡ n → IsPart (IsBelow s n) (IsOfLeft s left) (IsDeclared s)
  part_all left n declared e = record {
    here = λ t h. record { left = subst (IsAction s) (sym h.left_is) declared; right = h.right_declared; clause = h.clause_declared };
    earlier = λ t u h q before. elim (cases_lt (action_place s u.left) n) [
      | inl low ↦ inl (record { left_declared = q.left; below = low; right_declared = q.right; clause_declared = q.clause })
      | inr past ↦ elim (cases_lt n (action_place s u.left)) [
        | inl above ↦ absurd (not_both (triple_key s u) (triple_key s t) before
            (before_by_left s t u (omega (arith, above, ap (action_place s) h.left_is, e))))
        | inr most ↦ inr (record {
          left_is = same_action s u.left left q.left declared (omega (arith, past, most, e));
          right_declared = q.right;
          clause_declared = q.clause;
        })
      ]
    ];
  }

  pub wide_at : (left right : Action) (k : ℕ) (c : Clause) (count : ℕ) → slice_get s.clauses k ≡ Some c → is_live s left right c ≡ true
      → count ≡ pattern_count s left right c → 30000 < count → IsWideAt s left right k count
  wide_at left right k c count e live counted wide = record {
    too_wide = record { clause = c; declared = e; live = live; wide = subst (λ n. 30000 < n) counted wide };
    counted = counted;
  }
