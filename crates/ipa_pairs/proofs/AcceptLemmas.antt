-- A specification is accepted exactly where its analysis is empty.
--
--   none_listed            nothing stands in the empty list
--   accepted-from_empty    an empty analysis
--   rejected-by_conflict   a reported example
--   rejected-by_drop       a reported unsafe drop
--   rejected               an analysis that is not empty
use Rattle.std.proofs.Common.{◌≡◌, ℕ, List, [], ◌∷◌, Some, refl, sym, ◌∙◌, subst, inl, inr}
use Rattle.std.specs.List.{AllByRecursion, slice_get}
use Rattle.std.proofs.lemmas.Bool.{cases_Bool, false≢true}
use Rattle.std.proofs.lemmas.Option.{slice_get_within}
use Rattle.std.proofs.lemmas.List.Elements.{recursion_from_All}
use Rattle.ipa_spec.specs.Actions.{IsAction}
use Rattle.ipa_spec.specs.declared.specification.Specification.{Specification}
use Rattle.ipa_spec.specs.declared.bounds.Bound.{Bound}
use Rattle.ipa_spec.specs.declared.clauses.Clause.{Clause}
use Rattle.ipa_spec.specs.declared.operations.Action.{Action}
use Rattle.ipa_spec.specs.declared.operations.Action.TheVariants.{Drop}
use Rattle.ipa_logic.specs.Facts.{has}
use Rattle.ipa_logic.specs.Truth.{instance_true}
use Rattle.ipa_logic.specs.Touches.{plain_application}
use Rattle.ipa_logic.specs.Conflicts.{Conflict}
use Rattle.ipa_logic.specs.Acceptance.{DropBreaks, IsAccepted, IsSafeDrop}
use Rattle.ipa_ground.specs.Enumeration.{IsListed}
use Rattle.ipa_reduction.specs.Cases.{ConflictOn, DropBreaksOn}
use Rattle.ipa_pairs.specs.Width.{IsDeclared}
use Rattle.ipa_pairs.specs.Triples.{triple}
use Rattle.ipa_pairs.specs.Examples.{IsReportedExample, IsReportedDrop}
use Rattle.ipa_pairs.specs.Analyses.{triple_of, AreReported, AreReportedDrops, IsAnalysis, IsClean, IsRejected}
use Rattle.ipa_pairs.specs.declared.analysis.Conflict.{Conflict as Example}
use Rattle.ipa_pairs.specs.declared.analysis.UnsafeDrop.{UnsafeDrop}
use Rattle.ipa_pairs.specs.declared.analysis.Analysis.{Analysis}

none_listed : {X : Type 0} (xs : List X) (x : X) → xs ≡ [] → IsListed xs x → ⊥
none_listed xs x e h = let there : slice_get [] h.place ≡ Some x = subst (λ ys. slice_get ys h.place ≡ Some x) e h.there in cc

module _ (s : Specification) where
  conflict_declared : (left right : Action) (k : ℕ) → Conflict s left right k → IsDeclared s (triple left right k)
  conflict_declared left right k h = record {
    left = h.left_declared;
    right = h.right_declared;
    clause = slice_get_within s.clauses k h.clause h.declared;
  }

  apart-from_empty : (es : List Example) → AreReported s (IsDeclared s) es → es ≡ [] → (left right : Action) (k : ℕ) → Conflict s left right k → ⊥
  apart-from_empty es a e left right k h =
      let o = a.complete (triple left right k) (conflict_declared left right k h) h in
      none_listed es o.example e o.listed

  no_break : (es : List UnsafeDrop) → AreReportedDrops s es → es ≡ [] → (n k : ℕ) → DropBreaks s n k → ⊥
  no_break es a e n k h = let o = a.complete n k h in none_listed es o.example e o.listed

  safe-from_none : ((n k : ℕ) → DropBreaks s n k → ⊥) → (n : ℕ) → IsSafeDrop s n
  safe-from_none none n = record {
    keeps = λ b universe args before d. record {
      clauses = λ k c declared. record {
        instances = λ values over. elim (cases_Bool (instance_true s (plain_application s (Drop n) args (has before)) values c)) [
          | inl kept ↦ kept
          | inr broken ↦ absurd (none n k (record {
            bound = b;
            clause = c;
            declared = declared;
            universe = universe;
            args = args;
            values = values;
            before = before;
            breaks = record { droppable = d; clause_values = over; broken = broken };
          }))
        ];
      };
    };
  }

  pub accepted-from_empty : (a : Analysis) → IsAnalysis s a → a.conflicts ≡ [] → a.unsafe_drops ≡ [] → IsAccepted s
  accepted-from_empty a h c d = record {
    apart = λ left right k. apart-from_empty a.conflicts h.conflicts c left right k;
    safe = λ n. safe-from_none (no_break a.unsafe_drops h.unsafe_drops d) n;
  }

  -- an unsafe drop is none that is safe
  unsafe : (n k : ℕ) → IsSafeDrop s n → DropBreaks s n k → ⊥
  unsafe n k safe h =
      let kept = safe.keeps h.bound h.universe h.args h.before h.breaks.droppable in
      let instance = (kept.clauses k h.clause h.declared).instances h.values h.breaks.clause_values in
      false≢true (sym h.breaks.broken ∙ instance)

  -- a reported example is a conflict
  rejected-by_conflict : (e : Example)
      → ((left right : Action) (k : ℕ) (c : Clause) (classes : List ℕ) → IsAction s left → IsAction s right → slice_get s.clauses k ≡ Some c → ConflictOn s left right c classes → Conflict s left right k)
      → IsReportedExample s e → IsDeclared s (triple_of e) → IsAccepted s → ⊥
  rejected-by_conflict e law h declared accepted =
      accepted.apart e.left e.right e.clause
      (law e.left e.right e.clause h.clause h.classes declared.left declared.right h.declared
      (record { place = e.lost; after_left = e.after_left; after_right = e.after_right; conflict = h.first_on.example.shows }))

  rejected-by_drop : (e : UnsafeDrop)
      → ((n k : ℕ) (b : Bound) (c : Clause) (classes : List ℕ) → slice_get s.clauses k ≡ Some c → DropBreaksOn s n b c classes → DropBreaks s n k)
      → IsReportedDrop s e → IsAccepted s → ⊥
  rejected-by_drop e law h accepted =
      unsafe e.bound e.clause (accepted.safe e.bound)
      (law e.bound e.clause h.bound h.clause h.classes h.clause_declared (record { before = e.before; break = h.first_on.example.shows }))

  -- of two lists one is not empty
  rejected_at : (es : List Example) (ds : List UnsafeDrop)
      → ((left right : Action) (k : ℕ) (c : Clause) (classes : List ℕ) → IsAction s left → IsAction s right → slice_get s.clauses k ≡ Some c → ConflictOn s left right c classes → Conflict s left right k)
      → ((n k : ℕ) (b : Bound) (c : Clause) (classes : List ℕ) → slice_get s.clauses k ≡ Some c → DropBreaksOn s n b c classes → DropBreaks s n k)
      → AllByRecursion (λ e. IsReportedExample s e × IsDeclared s (triple_of e)) es → AllByRecursion (IsReportedDrop s) ds
      → (es ≡ [] → ds ≡ [] → ⊥) → IsAccepted s → ⊥
  rejected_at [] [] conflicts drops all each some accepted = some refl refl
  rejected_at [] (d ∷ ds) conflicts drops all each some accepted = rejected-by_drop d drops each.0 accepted
  rejected_at (e ∷ es) ds conflicts drops all each some accepted = rejected-by_conflict e conflicts all.0.0 all.0.1 accepted

  -- a specification with an example is not accepted
  pub rejected : (a : Analysis)
      → ((left right : Action) (k : ℕ) (c : Clause) (classes : List ℕ) → IsAction s left → IsAction s right → slice_get s.clauses k ≡ Some c → ConflictOn s left right c classes → Conflict s left right k)
      → ((n k : ℕ) (b : Bound) (c : Clause) (classes : List ℕ) → slice_get s.clauses k ≡ Some c → DropBreaksOn s n b c classes → DropBreaks s n k)
      → IsAnalysis s a → (IsClean a → ⊥) → IsRejected s a
  rejected a conflicts drops h some = record {
    analysis = h;
    not_accepted = rejected_at a.conflicts a.unsafe_drops conflicts drops
        (recursion_from_All (λ e. IsReportedExample s e × IsDeclared s (triple_of e)) a.conflicts h.conflicts.each)
        (recursion_from_All (IsReportedDrop s) a.unsafe_drops h.unsafe_drops.each)
        (λ c d. some (record { conflicts = c; unsafe_drops = d }));
  }
