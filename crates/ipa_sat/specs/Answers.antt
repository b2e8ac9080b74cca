-- The words of an answer that shows itself.
--
--   IsShown f steps    the steps refute the formula f, are over its variables, and nothing satisfies f
--   IsAnswer f solved  an assignment that satisfies f, or steps that refute it
use Rattle.std.specs.Prelude.{List}
use Rattle.ipa_sat.specs.declared.refutation.Step.{Step}
use Rattle.ipa_sat.specs.declared.refutation.Solved.{Solved}
use Rattle.ipa_sat.specs.declared.refutation.Solved.TheVariants.{Model, Refuted}
use Rattle.ipa_sat.specs.Formula.{Formula, Satisfies, IsInRange, IsUnsatisfiable}
use Rattle.ipa_sat.specs.Refutation.{IsRefutation, clauses_of}

-- steps that refute a formula
pub record IsShown (f : Formula) (steps : List Step) : Type 0 where
  pub refutation : IsRefutation f.clauses (clauses_of steps)
  pub in_range : IsInRange f.vars (clauses_of steps)
  pub unsatisfiable : IsUnsatisfiable f

-- an answer is right
abbrev pub IsAnswer : Formula → Solved → Type 0
IsAnswer f (Model a) = Satisfies f a.items
IsAnswer f (Refuted steps) = IsShown f steps
