-- Formulas that narrow another.
use Rattle.std.proofs.Common.{ℕ, List, refl, sym, ◌∙◌, Result, Ok, Err, OnOk, OnErr}
use Rattle.ipa_spec.specs.Actions.{sorts_of_vars}
use Rattle.ipa_spec.specs.declared.specification.Specification.{Specification}
use Rattle.ipa_spec.specs.declared.clauses.Clause.{Clause}
use Rattle.ipa_logic.specs.Facts.{Universe}
use Rattle.ipa_logic.specs.Truth.{IsOver}
use Rattle.ipa_sat.specs.Formula.{Formula}
use Rattle.ipa_sat.specs.declared.cnf.Lit.{Lit}
use Rattle.ipa_ground.specs.Enumeration.{IsListed}
use Rattle.ipa_ground.specs.FormulaLaws.{with_clause, satisfies-more, satisfies-less, satisfies-last}
use Rattle.ipa_ground.specs.Grounding.{Narrows}
use Rattle.ipa_ground.specs.GroundingSteps.{AreGround, IsAlwaysTrue, GroundsInstance}

module _ (s : Specification) (universe : Universe) (first : ℕ) where
  pub narrows-same : (f : Formula) → Narrows s universe first f f
  narrows-same f = record { vars = refl; older = λ a h. h; kept = λ a h k. h }

  pub narrows-further : (f g h : Formula) → Narrows s universe first f g → Narrows s universe first g h → Narrows s universe first f h
  narrows-further f g h n m = record { vars = m.vars ∙ n.vars; older = λ a t. n.older a (m.older a t); kept = λ a t k. m.kept a (n.kept a t k) k }

  -- the clause of an instance narrows a formula
  pub narrows-instance : (f : Formula) (c : Clause) (values : List ℕ) (lits : List Lit) → IsListed s.clauses c → IsOver universe (sorts_of_vars c.vars) values
      → AreGround s universe first values c.literals lits → Narrows s universe first f (with_clause f lits)
  narrows-instance f c values lits listed over h = record {
    vars = refl;
    older = λ a t. satisfies-less f lits a t;
    kept = λ a t k. satisfies-more f lits a t (h.same a ∙ (k.clauses listed.place c listed.there).instances values over);
  }

  -- and makes the instance true
  pub instance-added : (f : Formula) (c : Clause) (values : List ℕ) (lits : List Lit) → AreGround s universe first values c.literals lits → GroundsInstance s universe first c values (with_clause f lits)
  instance-added f c values lits h = record { holds = λ a t. sym (h.same a) ∙ satisfies-last f lits a t }

  pub instance-always : (f : Formula) (c : Clause) (values : List ℕ) → IsAlwaysTrue s universe first values c.literals → GroundsInstance s universe first c values f
  instance-always f c values h = record { holds = λ a t. h.true_for a }

-- a fact that holds on either outcome
pub on_either : {T E : Type 0} (r : Result T E) (P Q R : Type 0) → OnOk r P → OnErr r Q → (P → R) → (Q → R) → R
on_either (Ok x) P Q R p q f g = f p
on_either (Err e) P Q R p q f g = g q
