-- The case of a pattern.
--
--   case-is, drop-case-is      arguments and values that are the pattern's classes make its case
--   pattern-len, pattern-sizes   the length and the universe of a pattern's value
use Rattle.std.proofs.Common.{◌≡◌, ℕ, ◌+◌, List, length, sym, ap, ◌∙◌}
use Rattle.std.proofs.lemmas.List.{length-map}
use Rattle.ipa_spec.specs.Actions.{sorts_of, sorts_of_vars}
use Rattle.ipa_spec.specs.declared.specification.Specification.{Specification}
use Rattle.ipa_spec.specs.declared.clauses.Clause.{Clause}
use Rattle.ipa_spec.specs.declared.operations.Action.{Action}
use Rattle.ipa_spec.specs.declared.operations.Action.TheVariants.{Drop}
use Rattle.ipa_logic.specs.Facts.{Universe}
use Rattle.ipa_ground.specs.Patterns.{args_at, pattern_universe}
use Rattle.ipa_ground.specs.declared.patterns.Pattern.{Pattern}
use Rattle.ipa_reduction.specs.Cases.{constant_counts, triple_sorts, drop_sorts, AreTripleArguments, AreDropArguments}
use Rattle.ipa_pairs.specs.Openness.{case_of, IsOverCase, drop_case_of, IsOverDropCase}
use Rattle.ipa_pairs.specs.Patterned.{classes_of, IsPatternOf}
use Rattle.ipa_pairs.specs.declared.cases.Case.{Case}
use Rattle.ipa_pairs.specs.declared.drops.DropCase.{DropCase}

-- the length of a pattern's value
pub pattern-len : (constants : Universe) (sorts : List ℕ) (p : Pattern) → IsPatternOf constants sorts p → p.len ≡ length sorts
pattern-len constants sorts p h = ap (λ (q : Pattern). q.len) h.is

-- its universe
pub pattern-sizes : (constants : Universe) (sorts : List ℕ) (p : Pattern) → IsPatternOf constants sorts p →
    p.universe.sizes ≡ pattern_universe constants sorts (classes_of p)
pattern-sizes constants sorts p h = ap (λ (q : Pattern). q.universe.sizes) h.is

-- the number of a clause's variables
vars-len : (c : Clause) (j : ℕ) → j ≡ length c.vars → j ≡ length (sorts_of_vars c.vars)
vars-len c j e = e ∙ sym (length-map c.vars (λ v. v.sort))

-- arguments and values that are the pattern's classes make its case
pub case-is : (s : Specification) (left right : Action) (c : Clause) (p : Pattern) → IsPatternOf (constant_counts s) (triple_sorts s left right c) p
    → (n m j : ℕ) → n ≡ length (sorts_of s left) → m ≡ length (sorts_of s right) → j ≡ length c.vars
    → (l r v : List ℕ) → l ≡ args_at 0 n (classes_of p) → r ≡ args_at n m (classes_of p) → v ≡ args_at (n + m) j (classes_of p)
    → (case : Case) → case ≡ record { left = left; right = right; universe = p.universe; left_args = l; right_args = r; values = v } → case ≡ case_of s left right c (classes_of p)
case-is s left right c p h n m j n_is m_is j_is l r v l_is r_is v_is case is =
    let same : l ≡ args_at 0 (length (sorts_of s left)) (classes_of p) = l_is ∙ ap (λ (x : ℕ). args_at 0 x (classes_of p)) n_is in
    let other : r ≡ args_at (length (sorts_of s left)) (length (sorts_of s right)) (classes_of p) = r_is ∙ (λ i. args_at (n_is i) (m_is i) (classes_of p)) in
    let values : v ≡ args_at (length (sorts_of s left) + length (sorts_of s right)) (length (sorts_of_vars c.vars)) (classes_of p)
    = v_is ∙ (λ i. args_at (n_is i + m_is i) (vars-len c j j_is i) (classes_of p)) in
    is ∙ (λ i. record { left = left; right = right; universe = record { sizes = pattern-sizes (constant_counts s) (triple_sorts s left right c) p h i }; left_args = same i; right_args = other i; values = values i })

-- the case of a pattern is over its universe
pub over-case : (s : Specification) (left right : Action) (c : Clause) (classes : List ℕ) → AreTripleArguments s left right c classes → IsOverCase s c (case_of s left right c classes)
over-case s left right c classes h = record { sizes = h.sizes; left = h.left; right = h.right; values = h.values }

-- the same for a drop and a clause
pub drop-case-is : (s : Specification) (n : ℕ) (c : Clause) (p : Pattern) → IsPatternOf (constant_counts s) (drop_sorts s n c) p
    → (m j : ℕ) → m ≡ length (sorts_of s (Drop n)) → j ≡ length c.vars
    → (a v : List ℕ) → a ≡ args_at 0 m (classes_of p) → v ≡ args_at m j (classes_of p)
    → (case : DropCase) → case ≡ record { universe = p.universe; args = a; values = v } → case ≡ drop_case_of s n c (classes_of p)
drop-case-is s n c p h m j m_is j_is a v a_is v_is case is =
    let args : a ≡ args_at 0 (length (sorts_of s (Drop n))) (classes_of p) = a_is ∙ ap (λ (x : ℕ). args_at 0 x (classes_of p)) m_is in
    let values : v ≡ args_at (length (sorts_of s (Drop n))) (length (sorts_of_vars c.vars)) (classes_of p) = v_is ∙ (λ i. args_at (m_is i) (vars-len c j j_is i) (classes_of p)) in
    is ∙ (λ i. record { universe = record { sizes = pattern-sizes (constant_counts s) (drop_sorts s n c) p h i }; args = args i; values = values i })

pub over-drop-case : (s : Specification) (n : ℕ) (c : Clause) (classes : List ℕ) → AreDropArguments s n c classes → IsOverDropCase s n c (drop_case_of s n c classes)
over-drop-case s n c classes h = record { sizes = h.sizes; args = h.args; values = h.values }
