-- What is asked of a view of a state.
--
--   is_above after f              the fact comes after the given one, if one is given
--   is_left p after f             the fact is of predicate p and above `after`
--   next_fact s predicate after   the least true fact of the predicate above `after`, or the least of all
--   IsNext test p after g         g is the least fact of predicate p above `after` that passes the test
--   NoNext test p after           there is none
--   IsNextOf test p after r       r is the next such fact, or `None` where there is none
use Rattle.std.specs.Prelude.{◌≡◌, ℕ, Bool, true, false, ◌&&◌, ◌==◌, List, find, Option, Some, None, MatchOption}
use Rattle.std.specs.Ordering.{is_lt}
use Rattle.ipa_logic.specs.Facts.{fact_cmp}
use Rattle.ipa_logic.specs.declared.facts.Fact.{Fact}

-- the fact comes after the given one, if one is given
abbrev pub is_above : Option Fact → Fact → Bool
is_above None f = true
is_above (Some after) f = is_lt (fact_cmp after f)

-- the fact is of predicate p and above `after`
abbrev pub is_left : ℕ → Option Fact → Fact → Bool
is_left p after f = (f.predicate == p) && is_above after f

-- the least true fact of the predicate above `after`: the first, since a state stands in order
abbrev pub next_fact : List Fact → ℕ → Option Fact → Option Fact
next_fact s predicate after = find (is_left predicate after) s

-- g is the least fact of predicate p above `after` that passes the test
pub record IsNext (test : Fact → Bool) (p : ℕ) (after : Option Fact) (g : Fact) : Type 0 where
  pub passes : test g ≡ true
  pub left : is_left p after g ≡ true
  pub least : (f : Fact) → test f ≡ true → is_left p after f ≡ true → is_lt (fact_cmp f g) ≡ false

-- no fact of predicate p above `after` passes the test
pub record NoNext (test : Fact → Bool) (p : ℕ) (after : Option Fact) : Type 0 where
  pub none : (f : Fact) → test f ≡ true → is_left p after f ≡ false

-- the next fact of predicate p above `after` that passes the test, or `None` where there is none
abbrev pub IsNextOf : (Fact → Bool) → ℕ → Option Fact → Option Fact → Type 0
IsNextOf test p after r = MatchOption r (NoNext test p after) (IsNext test p after)
