-- What is known of a transaction that comes next.
--
--   IsAtCut s universe base h t   it fits, and is next at a closed cut of a legal history of an accepted specification
use Rattle.std.specs.Prelude.{◌≡◌, ◌+◌, List}
use Rattle.ipa_clock.specs.Cut.{count_of}
use Rattle.ipa_spec.specs.Fits.{IsFit}
use Rattle.ipa_spec.specs.declared.specification.Specification.{Specification}
use Rattle.ipa_logic.specs.Facts.{Universe}
use Rattle.ipa_logic.specs.Acceptance.{IsAccepted}
use Rattle.ipa_logic.specs.declared.facts.Fact.{Fact}
use Rattle.ipa_history.specs.Histories.{IsClosed}
use Rattle.ipa_history.specs.Legality.{IsFitting, IsLegalHistory}
use Rattle.ipa_history.specs.declared.history.Tx.{Tx}

-- the transaction fits, and is next at a closed cut of a legal history of an accepted specification
pub record IsAtCut (s : Specification) (universe : Universe) (base : List Fact) (h : List Tx) (t : Tx) : Type 0 where
  pub fit : IsFit s
  pub accepted : IsAccepted s
  pub legal : IsLegalHistory s universe base h
  pub closed : IsClosed h t.cut
  pub own : count_of t.cut t.dot.origin + 1 ≡ t.dot.number
  pub fitting : IsFitting s universe t
