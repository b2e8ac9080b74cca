-- A conflict on an open case is a literal that is lost.
--
--   open-from       the tests of a conflict that look at no state leave its case open
--   loss-from       the lost literal of a conflict is lost in its states
--   conflict-from   an open case and a loss make a conflict
use Rattle.std.proofs.Common.{◌≡◌, ℕ, Bool, true, false, not, ◌&&◌, ◌||◌, cond, List, None, Some, refl, sym, ap, ◌∙◌, subst, slice_get}
use Rattle.std.proofs.lemmas.Bool.{false≢true}
use Rattle.std.proofs.lemmas.Map.Keys.{any_passes_from_place}
use Rattle.std.proofs.lemmas.Option.{same_Some}
use Rattle.ipa_spec.specs.declared.specification.Specification.{Specification}
use Rattle.ipa_spec.specs.declared.clauses.Clause.{Clause}
use Rattle.ipa_spec.specs.declared.clauses.Literal.{Literal}
use Rattle.ipa_logic.specs.Facts.{has}
use Rattle.ipa_logic.specs.Truth.{literal_true}
use Rattle.ipa_logic.specs.Touches.{makes_true, loses}
use Rattle.ipa_logic.specs.Conflicts.{can_be_falsified, is_lost, IsConflictAt}
use Rattle.ipa_logic.specs.declared.facts.Fact.{Fact}
use Rattle.ipa_pairs.specs.Asked.{IsAsWanted}
use Rattle.ipa_pairs.specs.Openness.{IsOverCase, IsOpen, IsLossIn, can_be_lost, wanted_of}
use Rattle.ipa_pairs.specs.declared.cases.Case.{Case}

-- what the parts of a loss are
pub record LossParts (held spared falsified losing gone : Bool) : Type 0 where
  pub holds : held ≡ true
  pub spares : spared ≡ false
  pub falsifies : falsified ≡ true
  pub after : losing ≡ true → gone ≡ false

loss-parts : (held spared falsified losing gone : Bool) → (((held && not spared) && falsified) && (not losing || not gone)) ≡ true → LossParts held spared falsified losing gone
loss-parts true false true true false h = record { holds = refl; spares = refl; falsifies = refl; after = λ e. refl }
loss-parts true false true false gone h = record { holds = refl; spares = refl; falsifies = refl; after = λ e. absurd (false≢true e) }
loss-parts true false true true true h = absurd (false≢true h)
loss-parts true false false losing gone h = absurd (false≢true h)
loss-parts true true falsified losing gone h = absurd (false≢true h)
loss-parts false spared falsified losing gone h = absurd (false≢true h)

parts-loss : (held spared falsified losing gone : Bool) → LossParts held spared falsified losing gone → (((held && not spared) && falsified) && (not losing || not gone)) ≡ true
parts-loss true false true true false p = refl
parts-loss true false true false gone p = refl
parts-loss true false true true true p = absurd (false≢true (sym (p.after refl)))
parts-loss true false false losing gone p = absurd (false≢true p.falsifies)
parts-loss true true falsified losing gone p = absurd (false≢true (sym p.spares))
parts-loss false spared falsified losing gone p = absurd (false≢true p.holds)

module _ (s : Specification) (c : Clause) (case : Case) where
  -- a conflict of the case
  abbrev pub IsConflictOf : ℕ → List Fact → List Fact → Type 0
  IsConflictOf place l r = IsConflictAt s case.left case.right c case.universe.sizes case.left_args case.right_args case.values place l r

  abbrev lost : List Fact → List Fact → Literal → Bool
  lost l r m = is_lost s case.right case.right_args case.values (has l) (has r) m

  parts-of : (place : ℕ) (l r : List Fact) (h : IsConflictOf place l r) →
      LossParts (literal_true s (has l) case.values h.lost) (makes_true s case.right case.right_args case.values h.lost) (can_be_falsified s h.lost) (loses s h.lost) (literal_true s (has r) case.values h.lost)
  parts-of place l r h = loss-parts _ _ _ _ _ h.loss

  lost-of : (place : ℕ) (l r : List Fact) (h : IsConflictOf place l r) → can_be_lost s case h.lost ≡ true
  lost-of place l r h =
      let p = parts-of place l r h in
      ap (λ (b : Bool). not b && can_be_falsified s h.lost) p.spares ∙ p.falsifies

  -- the tests of a conflict leave its case open
  pub open-from : (place : ℕ) (l r : List Fact) → IsConflictOf place l r → IsOpen s case c.literals
  open-from place l r h = record {
    left_falsifies = h.left_falsifies;
    right_falsifies = h.right_falsifies;
    left_spares = h.left_spares;
    right_spares = h.right_spares;
    undecided = h.undecided;
    some_lost = any_passes_from_place (can_be_lost s case) c.literals place h.lost h.lost_at (lost-of place l r h);
  }

  as-wanted : (m : Literal) (t : Fact → Bool) → (loses s m ≡ true → literal_true s t case.values m ≡ false) → IsAsWanted s case.values m (wanted_of s m) t
  as-wanted m t h = by (loses s m) h
    where
      by : (b : Bool) → (b ≡ true → literal_true s t case.values m ≡ false) → IsAsWanted s case.values m (cond b (Some false) None) t
      by true h = h refl
      by false h = tt

  wanted-from : (m : Literal) (t : Fact → Bool) → IsAsWanted s case.values m (wanted_of s m) t → loses s m ≡ true → literal_true s t case.values m ≡ false
  wanted-from m t h = by (loses s m) h
    where
      by : (b : Bool) → IsAsWanted s case.values m (cond b (Some false) None) t → b ≡ true → literal_true s t case.values m ≡ false
      by true h e = h
      by false h e = absurd (false≢true e)

  -- the lost literal is lost in the states
  pub loss-from : (place : ℕ) (l r : List Fact) (m : Literal) → slice_get c.literals place ≡ Some m → IsConflictOf place l r → IsLossIn s case m l r
  loss-from place l r m e h = subst (λ (x : Literal). IsLossIn s case x l r) (same_Some h.lost m (sym h.lost_at ∙ e)) loss
    where
      p : LossParts (literal_true s (has l) case.values h.lost) (makes_true s case.right case.right_args case.values h.lost) (can_be_falsified s h.lost) (loses s h.lost) (literal_true s (has r) case.values h.lost)
      p = parts-of place l r h

      loss : IsLossIn s case h.lost l r
      loss = record {
        can_be_lost = lost-of place l r h;
        left = record { is_state = h.left_state; keeps = h.left_keeps; stands = h.left_stands; literal = p.holds };
        right = record { is_state = h.right_state; keeps = h.right_keeps; stands = h.right_stands; literal = as-wanted h.lost (has r) p.after };
      }

  -- an open case and a loss make a conflict
  pub conflict-from : (place : ℕ) (l r : List Fact) (m : Literal) → slice_get c.literals place ≡ Some m → IsOverCase s c case → IsOpen s case c.literals → IsLossIn s case m l r → IsConflictOf place l r
  conflict-from place l r m e over open_case h = record {
    sizes = over.sizes;
    left_arguments = over.left;
    right_arguments = over.right;
    clause_values = over.values;
    left_state = h.left.is_state;
    right_state = h.right.is_state;
    left_keeps = h.left.keeps;
    right_keeps = h.right.keeps;
    left_stands = h.left.stands;
    right_stands = h.right.stands;
    undecided = open_case.undecided;
    left_falsifies = open_case.left_falsifies;
    right_falsifies = open_case.right_falsifies;
    left_spares = open_case.left_spares;
    right_spares = open_case.right_spares;
    lost = m;
    lost_at = e;
    loss = parts-loss _ _ _ _ _ (record {
      holds = h.left.literal;
      spares = (lost-parts (makes_true s case.right case.right_args case.values m) (can_be_falsified s m) h.can_be_lost).0;
      falsifies = (lost-parts (makes_true s case.right case.right_args case.values m) (can_be_falsified s m) h.can_be_lost).1;
      after = wanted-from m (has r) h.right.literal;
    });
  }
    where
      lost-parts : (made can : Bool) → (not made && can) ≡ true → (made ≡ false) × (can ≡ true)
      lost-parts false true h = (refl, refl)
      lost-parts false false h = absurd (false≢true h)
      lost-parts true can h = absurd (false≢true h)
