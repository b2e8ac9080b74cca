-- A drop that breaks an instance makes a literal of it false.
--
--   break-falsifies   in whatever state it does
--   break-can         so the drop can break the clause
use Rattle.std.proofs.Common.{◌≡◌, ℕ, true, List, sym, ◌∙◌, subst, Some, slice_get}
use Rattle.std.proofs.lemmas.Option.{same_Some}
use Rattle.ipa_spec.specs.FoundLaws.{found_at, any_at, list_any-false}
use Rattle.ipa_spec.specs.declared.specification.Specification.{Specification}
use Rattle.ipa_spec.specs.declared.bounds.Bound.{Bound}
use Rattle.ipa_spec.specs.declared.clauses.Clause.{Clause}
use Rattle.ipa_spec.specs.declared.operations.Action.TheVariants.{Drop}
use Rattle.ipa_logic.specs.Facts.{Universe, has}
use Rattle.ipa_logic.specs.Truth.{literal_true}
use Rattle.ipa_logic.specs.Touches.{plain_application, makes_false}
use Rattle.ipa_logic.specs.TouchLaws.{literal-made_false, breaks-falsified}
use Rattle.ipa_logic.specs.Conflicts.{falsifies_some, can_break}
use Rattle.ipa_logic.specs.Acceptance.{IsDropBreakAt, DropBreaks}
use Rattle.ipa_logic.specs.declared.facts.Fact.{Fact}

-- a drop that breaks an instance makes a literal of it false: the instance was true before
pub break-falsifies : (s : Specification) (n k : ℕ) (b : Bound) (c : Clause) (universe : Universe) (args values : List ℕ) (before : List Fact) → slice_get s.clauses k ≡ Some c
    → IsDropBreakAt s b n c universe args values before → falsifies_some s (Drop n) args values c.literals ≡ true
break-falsifies s n k b c universe args values before g h =
    let was = found_at (literal_true s (has before) values) c.literals ((h.droppable.keeps.clauses k c g).instances values h.clause_values) in
    any_at (makes_false s (Drop n) args values) c.literals was.place was.item was.at
    (literal-made_false s (Drop n) args (has before) values was.item was.passes
    (list_any-false (literal_true s (plain_application s (Drop n) args (has before)) values) c.literals h.broken was.place was.item was.at))

-- so the drop can break the clause
pub break-can : (s : Specification) (n k : ℕ) (c : Clause) → slice_get s.clauses k ≡ Some c → DropBreaks s n k → can_break s (Drop n) c ≡ true
break-can s n k c g h =
    subst (λ (d : Clause). can_break s (Drop n) d ≡ true) (same_Some h.clause c (sym h.declared ∙ g))
    (breaks-falsified s (Drop n) h.args h.values h.clause (break-falsifies s n k h.bound h.clause h.universe h.args h.values h.before h.declared h.breaks))
