-- What tells that the state at a closed cut is within the bounds without a look at all groups.
--
--   IsLegalCut s universe base h c      a closed cut of a legal history
--   IsCalmBelow s base h c low          a lower cut at which the state is within the bounds
--   MemberSpares s h state d            the member with this dot, if there is one, spares the bounds of the state
--   OriginSpares s h state o from to    so does each of the origin with a number above `from` and at most `to`
--   AllSpare s h state low high         so does each that the greater of two cuts alone has
use Rattle.std.specs.Prelude.{◌≡◌, ℕ, ◌<◌, ◌≤◌, List}
use Rattle.ipa_clock.specs.declared.dot.Dot.{Dot}
use Rattle.ipa_clock.specs.declared.cut.Cut.{Cut}
use Rattle.ipa_clock.specs.Cut.{Covers, IsBelow}
use Rattle.ipa_spec.specs.declared.specification.Specification.{Specification}
use Rattle.ipa_logic.specs.Facts.{Universe}
use Rattle.ipa_logic.specs.declared.facts.Fact.{Fact}
use Rattle.ipa_history.specs.Histories.{IsMember, IsClosed}
use Rattle.ipa_history.specs.Legality.{IsLegalHistory}
use Rattle.ipa_history.specs.declared.history.Tx.{Tx}
use Rattle.ipa_overfill.specs.Overfills.{Spares}
use Rattle.ipa_overfill.specs.CalmLaws.{IsCalm}

-- a closed cut of a legal history
pub record IsLegalCut (s : Specification) (universe : Universe) (base : List Fact) (h : List Tx)
    (c : Cut) : Type 0 where
  pub legal : IsLegalHistory s universe base h
  pub closed : IsClosed h c

-- a lower cut at which the state is within the bounds
pub record IsCalmBelow (s : Specification) (base : List Fact) (h : List Tx) (c low : Cut) : Type 0 where
  pub calm : IsCalm s base h low
  pub below : IsBelow low c

module _ (s : Specification) (h : List Tx) (state : List Fact) where
  -- the member with this dot, if there is one, spares the bounds of the state
  pub record MemberSpares (d : Dot) : Type 0 where
    pub spares : (t : Tx) → IsMember h t → t.dot ≡ d → Spares s t.action t.args state

  -- so does each of the origin with a number above `from` and at most `to`
  pub record OriginSpares (origin from to : ℕ) : Type 0 where
    pub each : (t : Tx) → IsMember h t → t.dot.origin ≡ origin → from < t.dot.number → t.dot.number ≤ to →
        Spares s t.action t.args state

  -- so does each that the greater cut alone has
  pub record AllSpare (low high : Cut) : Type 0 where
    pub each : (t : Tx) → IsMember h t → Covers high t.dot → (Covers low t.dot → ⊥) → Spares s t.action t.args state
