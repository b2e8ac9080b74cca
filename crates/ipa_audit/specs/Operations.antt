-- What an entry has to be to be named by a commit, and what is known of a cut that is read.
--
--   IsOfOperation t cut op args   the transaction does the operation, with these arguments, at this cut
--   IsCalmWhole s base h cut      each state of the cut, and there is but one, is within the bounds
use Rattle.std.specs.Prelude.{◌≡◌, ℕ, List}
use Rattle.ipa_clock.specs.declared.cut.Cut.{Cut}
use Rattle.ipa_spec.specs.declared.specification.Specification.{Specification}
use Rattle.ipa_spec.specs.declared.operations.Action.TheVariants.{Op}
use Rattle.ipa_logic.specs.Facts.{IsStateOf}
use Rattle.ipa_logic.specs.Groups.{Within}
use Rattle.ipa_logic.specs.declared.facts.Fact.{Fact}
use Rattle.ipa_history.specs.Values.{value_at}
use Rattle.ipa_history.specs.declared.history.Tx.{Tx}

-- the transaction does the operation, with these arguments, at this cut
pub record IsOfOperation (t : Tx) (cut : Cut) (op : ℕ) (args : List ℕ) : Type 0 where
  pub cut_is : t.cut ≡ cut
  pub action : t.action ≡ Op op
  pub args_are : t.args ≡ args

-- each state of the cut is within the bounds
pub record IsCalmWhole (s : Specification) (base : List Fact) (h : List Tx) (cut : Cut) : Type 0 where
  pub within : (state : List Fact) → IsStateOf (value_at s base h cut) state → Within s.bounds state
