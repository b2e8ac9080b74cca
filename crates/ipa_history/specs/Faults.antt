-- What the calls that judge transactions answer.
--
--   IfIllegal P fault   where the fault has a reason, it is one of these
--   IsAround s base h t before after   the states at the transaction's cut and with it added
use Rattle.std.specs.Prelude.{List, [], ◌∷◌, ◌++◌}
use Rattle.ipa_spec.specs.declared.specification.Specification.{Specification}
use Rattle.ipa_logic.specs.Facts.{IsStateOf}
use Rattle.ipa_logic.specs.declared.facts.Fact.{Fact}
use Rattle.ipa_history.specs.Histories.{members_of}
use Rattle.ipa_history.specs.Values.{value_of}
use Rattle.ipa_history.specs.declared.history.Tx.{Tx}
use Rattle.ipa_history.specs.declared.reasons.Reason.{Reason}
use Rattle.ipa_history.specs.declared.legality.LegalFault.{LegalFault}
use Rattle.ipa_history.specs.declared.legality.LegalFault.TheVariants.{Illegal, NoMemory}

-- where the fault has a reason, it is one of these
abbrev pub IfIllegal : (Reason → Type 0) → LegalFault → Type 0
IfIllegal P (Illegal r) = P r
IfIllegal P NoMemory = Unit {0}

-- the states at the transaction's cut and with it added
pub record IsAround (s : Specification) (base : List Fact) (h : List Tx) (t : Tx)
    (before after : List Fact) : Type 0 where
  pub state_before : IsStateOf (value_of s base (members_of h t.cut)) before
  pub state_after : IsStateOf (value_of s base (members_of h t.cut ++ t ∷ [])) after
