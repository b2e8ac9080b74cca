-- The drop of a bound with some arguments, by its fact.
use Rattle.std.proofs.Common.{◌≡◌, ℕ, List, sym, ◌∙◌, subst, Some, slice_get}
use Rattle.ipa_spec.specs.declared.specification.Specification.{Specification}
use Rattle.ipa_spec.specs.declared.bounds.Bound.{Bound}
use Rattle.ipa_logic.specs.DueDrops.{IsDueDrop}
use Rattle.ipa_logic.specs.Acceptance.{drop_fact}
use Rattle.ipa_logic.specs.declared.facts.Age.{Age}
use Rattle.ipa_logic.specs.declared.facts.Fact.{Fact}
use Rattle.ipa_gate.specs.DueDrops.{IsDueAs, IsOneDrop}

module _ (s : Specification) (state : List Fact) (ages : Fact → Age) (n : ℕ) where
  -- of an equal drop
  pub due_same : (m : ℕ) (f g : Fact) → IsOneDrop m n f g → IsDueDrop s.bounds state ages m f →
      IsDueDrop s.bounds state ages n g
  due_same m f g one due = subst (λ (x : Fact). IsDueDrop s.bounds state ages n x) one.fact
      (subst (λ (k : ℕ). IsDueDrop s.bounds state ages k f) one.bound due)

  module _ (args : List ℕ) (b : Bound) (f : Fact) (declared : slice_get s.bounds n ≡ Some b)
      (same : f ≡ drop_fact s b args) where
    pub due_as : IsDueDrop s.bounds state ages n f → IsDueAs s state ages n args
    due_as due = record {
      bound = b;
      declared = declared;
      due = subst (λ (x : Fact). IsDueDrop s.bounds state ages n x) same due;
    }

    pub due_from : IsDueAs s state ages n args → IsDueDrop s.bounds state ages n f
    due_from is =
        let both : Some is.bound ≡ Some b = sym is.declared ∙ declared in
        let equal : is.bound ≡ b = cc in
        subst (λ (x : Fact). IsDueDrop s.bounds state ages n x) (sym same)
        (subst (λ (x : Bound). IsDueDrop s.bounds state ages n (drop_fact s x args)) equal is.due)
