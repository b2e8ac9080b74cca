-- Parts that are gone through side by side, and their examples joined.
--
--   part-none, part-left   the part of a place past the actions, and that of an action
--   reported-parts         the parts of all places, one after the other
--   collected              what holds of each answer, where all succeed
use Rattle.std.proofs.Common.{◌≡◌, ℕ, zero, suc, ◌+◌, ◌≤◌, List, [], ◌∷◌, length, map, Result, Ok, Err, MatchResult, subst, sym, arith, inl, inr, ◌∙◌}
use Rattle.std.specs.Prelude.{IfOk}
use Rattle.std.specs.List.{AllZip, flat_map, range_with_len}
use Rattle.std.proofs.lemmas.Bool.{cases_lt}
use Rattle.ipa_spec.specs.Actions.{IsAction}
use Rattle.ipa_spec.specs.declared.specification.Specification.{Specification}
use Rattle.ipa_spec.specs.declared.operations.Action.{Action}
use Rattle.ipa_pairs.specs.Width.{Triple, IsDeclared, action_place, triple_key}
use Rattle.ipa_pairs.specs.Triples.{IsOfLeft}
use Rattle.ipa_pairs.specs.Examples.{IsReportedExample}
use Rattle.ipa_pairs.specs.Analyses.{triple_of, IsInConflict, Collects, AreReported}
use Rattle.ipa_pairs.specs.Collecting.{ExtendsConflicts, IsOfPlace, IsPart}
use Rattle.ipa_pairs.specs.declared.analysis.Conflict.{Conflict as Example}
use Rattle.ipa_pairs.proofs.OrderLemmas.{IsSplit, same_action, place_below, before_by_left}
use Rattle.ipa_pairs.proofs.CollectLemmas.{collects-none, collects-both, collects-same, collects-from_extends}

-- what holds of each answer that succeeds
pub each_ok : {X Y : Type 0} (E : Type 0) (P : X → Y → Type 0) (xs : List X) (ys : List Y) →
    AllZip (λ x (r : Result Y E). IfOk r (P x)) xs (map Ok ys) → AllZip P xs ys
each_ok E P [] [] h = tt
each_ok E P [] (y ∷ ys) h = absurd h
each_ok E P (x ∷ xs) [] h = absurd h
each_ok E P (x ∷ xs) (y ∷ ys) h = (h.0, each_ok E P xs ys h.1)

-- what holds of all, where all succeed
pub collected : {X Y C E : Type 0} (items : C → List Y) (P : X → Y → Type 0) (xs : List X) (rs : List (Result Y E))
    (Q : E → Type 0) → AllZip (λ x r. IfOk r (P x)) xs rs → (all : Result C E) →
    MatchResult all (λ c. (ys : List Y) × (rs ≡ map Ok ys) × (items c ≡ ys)) Q →
    IfOk all (λ c. AllZip P xs (items c))
collected {E} items P xs rs Q h (Ok c) m =
    subst (AllZip P xs) (sym m.2) (each_ok E P xs m.0 (subst (λ r. AllZip (λ x r'. IfOk r' (P x)) xs r) m.1 h))
collected items P xs rs Q h (Err e) m = tt

module _ (s : Specification) where
  -- the triple's left action has this place or a later one
  record IsFrom (place : ℕ) (t : Triple) : Type 0 where
    declared : IsDeclared s t
    from : place ≤ action_place s t.left

  split_place : (place : ℕ) → IsSplit (triple_key s) (IsOfPlace s place) (IsFrom (place + 1)) (IsFrom place)
  split_place place = record {
    first = λ t h. record { declared = h.declared; from = omega (arith, h.place_is) };
    rest = λ t h. record { declared = h.declared; from = omega (arith, h.from) };
    either = λ t h. elim (cases_lt place (action_place s t.left)) [
      | inl later ↦ inr (record { declared = h.declared; from = omega arith })
      | inr here ↦ inl (record { declared = h.declared; place_is = omega (arith, h.from) })
    ];
    before = λ t u h k. before_by_left s t u (omega (arith, h.place_is, k.from));
  }

  none_from : (place : ℕ) → length s.operations + length s.bounds ≤ place → (t : Triple) → IsFrom place t → ⊥
  none_from place past t h = absurd (omega (arith, h.from, place_below s t.left h.declared.left))

  -- no action has a place past them
  pub part-none : (place : ℕ) → length s.operations + length s.bounds ≤ place → IsPart s place []
  part-none place past = record {
    collects = collects-none triple_of (triple_key s) (IsReportedExample s) (IsInConflict s) (IsOfPlace s place)
        (λ t h _. none_from place past t (record { declared = h.declared; from = omega (arith, h.place_is) }));
  }

  -- the part of an action
  pub part-left : (left : Action) (place : ℕ) (found : List Example) → IsAction s left → action_place s left ≡ place →
      ExtendsConflicts s (IsOfLeft s left) [] found → IsPart s place found
  part-left left place found declared is h = record {
    collects = collects-same triple_of (triple_key s) (IsReportedExample s) (IsInConflict s) (IsOfLeft s left)
        (IsOfPlace s place) found
        (λ t o. record {
          declared = record {
            left = subst (IsAction s) (sym o.left_is) declared;
            right = o.right_declared;
            clause = o.clause_declared;
          };
          place_is = subst (λ (a : Action). action_place s a ≡ place) (sym o.left_is) is;
        })
        (λ t o. record {
          left_is = same_action s t.left left o.declared.left declared (o.place_is ∙ sym is);
          right_declared = o.declared.right;
          clause_declared = o.declared.clause;
        })
        (collects-from_extends triple_of (triple_key s) (IsReportedExample s) (IsInConflict s) (IsOfLeft s left) found h);
  }

  -- the parts from a place on, one after the other
  parts_from : (n place : ℕ) (parts : List (List Example)) → length s.operations + length s.bounds ≤ place + n →
      AllZip (IsPart s) (range_with_len place n) parts →
      Collects triple_of (triple_key s) (IsReportedExample s) (IsInConflict s) (IsFrom place)
      (flat_map (λ (part : List Example). part) parts)
  parts_from zero place [] all h =
      collects-none triple_of (triple_key s) (IsReportedExample s) (IsInConflict s) (IsFrom place)
      (λ t f _. none_from place (omega arith) t f)
  parts_from zero place (p ∷ ps) all h = absurd h
  parts_from (suc n) place [] all h = absurd h
  parts_from (suc n) place (p ∷ ps) all h =
      collects-both triple_of (triple_key s) (IsReportedExample s) (IsInConflict s) (IsOfPlace s place)
      (IsFrom (place + 1)) (IsFrom place) p (flat_map (λ (part : List Example). part) ps) (split_place place)
      h.0.collects (parts_from n (place + 1) ps (omega arith) h.1)

  -- the parts of all places
  pub reported-parts : (n : ℕ) (parts : List (List Example)) → n ≡ length s.operations + length s.bounds →
      AllZip (IsPart s) (range_with_len 0 n) parts →
      AreReported s (IsDeclared s) (flat_map (λ (part : List Example). part) parts)
  reported-parts n parts is h =
      collects-same triple_of (triple_key s) (IsReportedExample s) (IsInConflict s) (IsFrom 0) (IsDeclared s)
      (flat_map (λ (part : List Example). part) parts) (λ t f. f.declared)
      (λ t d. record { declared = d; from = omega arith }) (parts_from n 0 parts (omega arith) h)
