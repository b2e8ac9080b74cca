-- Laws of clauses that are kept, one after the other.
--
--   clause_at                  the clause at an index of a loop over the clauses
--   KeepBelow s universe t n   the clauses before number n are kept
--   keep-none                  none is before the first
--   keep-next                  one more is kept
--   keep-first                 where the next is not kept, its first values under which it is not true are the first broken instance
--   keep-all                   all are kept
use Rattle.std.proofs.Common.{◌≡◌, ℕ, ◌+◌, ◌<◌, ◌≤◌, Bool, true, false, List, length, get_or, refl, sym, ◌∙◌, ap, subst, arith, Some, slice_get, inl, inr}
use Rattle.std.proofs.lemmas.Option.{slice_get_within, slice_get_read}
use Rattle.std.proofs.lemmas.Bool.{cases_lt}
use Rattle.ipa_spec.specs.Actions.{sorts_of_vars}
use Rattle.ipa_spec.specs.declared.specification.Specification.{Specification}
use Rattle.ipa_spec.specs.declared.clauses.Clause.{Clause}
use Rattle.ipa_logic.specs.Facts.{Universe}
use Rattle.ipa_logic.specs.Truth.{instance_true, IsOver, IsEarlier, IsFirstBroken, Keeps, KeepsClause}
use Rattle.ipa_logic.specs.declared.facts.Fact.{Fact}

-- the clause at an index of a loop over the clauses
pub clause_at : (items clauses : List Clause) (i : ℕ) (c : Clause) → items ≡ clauses → i < length items → c ≡ get_or items i c → slice_get clauses i ≡ Some c
clause_at items clauses i c e l at = subst (λ (xs : List Clause). slice_get xs i ≡ Some c) e (slice_get_read items (length items) i c refl l at)

module _ (s : Specification) (universe : Universe) (t : Fact → Bool) where
  -- the clauses before this number are kept
  pub record KeepBelow (n : ℕ) : Type 0 where
    pub clauses : (k : ℕ) (c : Clause) → k < n → slice_get s.clauses k ≡ Some c → KeepsClause s universe t c

  -- none is before the first
  pub keep-none : KeepBelow 0
  keep-none = record { clauses = λ k c l e. absurd (omega arith) }

  -- one more is kept
  pub keep-next : (n : ℕ) (c : Clause) → slice_get s.clauses n ≡ Some c → KeepBelow n → KeepsClause s universe t c → KeepBelow (n + 1)
  keep-next n c e b f = record {
    clauses = λ k d l g. elim (cases_lt k n) [
      | inl lt ↦ b.clauses k d lt g
      | inr ge ↦ let at : k ≡ n = omega arith in
          let same : Some c ≡ Some d = sym e ∙ (sym (ap (slice_get s.clauses) at) ∙ g) in
          let here : c ≡ d = cc in
          subst (λ (q : Clause). KeepsClause s universe t q) here f
    ];
  }

  -- where the next is not kept, its first values under which it is not true are the first broken instance
  pub keep-first : (n : ℕ) (c : Clause) (r : List ℕ) → slice_get s.clauses n ≡ Some c → KeepBelow n
      → IsOver universe (sorts_of_vars c.vars) r → instance_true s t r c ≡ false
      → ((v : List ℕ) → IsOver universe (sorts_of_vars c.vars) v → IsEarlier v r → instance_true s t v c ≡ true)
      → IsFirstBroken s universe t n r
  keep-first n c r e b over fails earlier = record {
    clause = c;
    declared = e;
    over = over;
    broken = fails;
    earlier_clauses = λ j d l g. b.clauses j d l g;
    earlier_values = earlier;
  }

  -- all are kept
  pub keep-all : (n : ℕ) → length s.clauses ≤ n → KeepBelow n → Keeps s universe t
  keep-all n le b = record { clauses = λ k c e. let l : k < length s.clauses = slice_get_within s.clauses k c e in b.clauses k c (omega arith) e }
