-- The words of learning: the formula grows by clauses that follow.
--
--   room_left n steps        how much of a search over n variables is left at most, after these steps
--   GrowsTo f g              g has further clauses, each of which follows by units from those before it
--   IsRefutedBy f g          so it has, and the empty clause follows by units from all of them
--   Learns f g old new       a clause was learned, and the search goes on with less room left
use Rattle.std.specs.Prelude.{◌≡◌, ◌<◌, ◌+◌, ◌-◌, ◌^◌, ◌++◌, ℕ, List, [], ◌∷◌, if◌then◌else◌}
use Rattle.ipa_sat.specs.declared.cnf.Lit.{Lit}
use Rattle.ipa_sat.specs.declared.trail.Taken.{Taken}
use Rattle.ipa_sat.specs.Formula.{Formula}
use Rattle.ipa_sat.specs.Trail.{Course}
use Rattle.ipa_sat.specs.Search.{IsReasoned}
use Rattle.ipa_sat.specs.Refutation.{FollowsByUnits, AreDerived}

-- of n places the first are taken by these steps: a decided step can still be turned round, a step that follows
-- can not, and an open place can become anything
abbrev pub room_left : ℕ → List Taken → ℕ
room_left n [] = 3 ^ n
room_left n (s ∷ steps) = (if s.decided then 3 ^ (n - 1) else 0) + room_left (n - 1) steps

-- the formula has further clauses, each of which follows by unit propagation from those before it
pub record GrowsTo (f g : Formula) : Type 0 where
  pub learned : List (List Lit)
  pub vars : g.vars ≡ f.vars
  pub clauses : g.clauses ≡ f.clauses ++ learned
  pub derived : AreDerived f.clauses learned

-- the further clauses refute the formula
pub record IsRefutedBy (f g : Formula) : Type 0 where
  pub grows : GrowsTo f g
  pub refuted : FollowsByUnits g.clauses []

-- a clause was learned, and the search goes on with less room left
pub record Learns (f g : Formula) (old new : Course) : Type 0 where
  pub grows : GrowsTo f g
  pub reasoned : IsReasoned g new
  pub less : room_left f.vars new.steps < room_left f.vars old.steps
