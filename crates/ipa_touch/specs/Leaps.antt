-- Elements of a variable that a search may leap over.
--
--   Leaps p at values from next   p passes on the values that agree with these before `at` and have an element from
--                                 `from` on and before `next` in it
--   IsFree s a at place           the first place of the atom that the variables before `at` do not decide has the
--                                 variable `at`
--   IsNextArgs s p start g        g are the elements of a true fact of the predicate that come after `start`, and no
--                                 others come between
--   NoNextArgs s p start          no elements of a true fact of the predicate come after `start`
use Rattle.std.specs.Prelude.{◌≡◌, ℕ, ◌<◌, ◌≤◌, Bool, true, false, List}
use Rattle.std.specs.Ordering.{nat_cmp, is_lt}
use Rattle.std.specs.Cmp.Lexicographic.{slice_cmp}
use Rattle.ipa_spec.specs.Actions.{arity_of}
use Rattle.ipa_spec.specs.Faults.{term_at}
use Rattle.ipa_spec.specs.declared.specification.Specification.{Specification}
use Rattle.ipa_spec.specs.declared.constants.Term.TheVariants.{Var as Variable}
use Rattle.ipa_spec.specs.declared.clauses.Atom.{Atom}
use Rattle.ipa_logic.specs.Facts.{has}
use Rattle.ipa_logic.specs.Truth.{value_at}
use Rattle.ipa_logic.specs.Values.{Agrees}
use Rattle.ipa_logic.specs.declared.facts.Fact.{Fact}
use Rattle.ipa_touch.specs.Decided.{is_term_decided}

-- p passes on the values that agree with these before `at` and have an element from `from` on and before `next` in it
pub record Leaps (p : List ℕ → Bool) (at : ℕ) (values : List ℕ) (from next : ℕ) : Type 0 where
  pub on : from ≤ next
  pub passes : (v : List ℕ) → Agrees at v values → from ≤ value_at v at → value_at v at < next → p v ≡ true

-- the place has the variable `at`, and the variables before that decide the places before it
pub record IsFree (s : Specification) (a : Atom) (at place : ℕ) : Type 0 where
  pub inside : place < arity_of s.predicates a.predicate
  pub few : place < 3
  pub own : term_at a place ≡ Variable at
  pub before : (j : ℕ) → j < place → is_term_decided at (term_at a j) ≡ true

-- g are the elements of a true fact of the predicate that come after `start`, and no others come between
pub record IsNextArgs (s : List Fact) (p : ℕ) (start g : List ℕ) : Type 0 where
  pub above : is_lt (slice_cmp nat_cmp start g) ≡ true
  pub least : (f : List ℕ) → has s (record { predicate = p; args = f }) ≡ true →
      is_lt (slice_cmp nat_cmp start f) ≡ true → is_lt (slice_cmp nat_cmp f g) ≡ false

-- no elements of a true fact of the predicate come after `start`
pub record NoNextArgs (s : List Fact) (p : ℕ) (start : List ℕ) : Type 0 where
  pub none : (f : List ℕ) → has s (record { predicate = p; args = f }) ≡ true →
      is_lt (slice_cmp nat_cmp start f) ≡ false
