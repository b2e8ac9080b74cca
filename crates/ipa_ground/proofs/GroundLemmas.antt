-- What the literals of an instance come to.
use Rattle.std.proofs.Common.{◌≡◌, ℕ, ◌+◌, ◌<◌, Bool, true, false, not, ◌||◌, cond, List, [], ◌∷◌, ◌++◌, length, take, drop, refl, sym, ap, ◌∙◌, inl, inr, ◌⊎◌, get_or}
use Rattle.std.specs.List.{list_any, Any}
use Rattle.std.proofs.Math.Bool.{or-false}
use Rattle.std.proofs.lemmas.Bool.{cases_Bool, or_left}
use Rattle.std.proofs.lemmas.List.{take-append-drop}
use Rattle.std.proofs.lemmas.List.Folds.{list_any-append, list_any_more, list_any_at}
use Rattle.std.proofs.lemmas.List.Elements.{All-push, All-nil}
use Rattle.ipa_spec.specs.declared.specification.Specification.{Specification}
use Rattle.ipa_spec.specs.declared.clauses.Atom.{Atom}
use Rattle.ipa_spec.specs.declared.clauses.Literal.{Literal}
use Rattle.ipa_spec.specs.declared.clauses.Literal.TheVariants.{Holds, Fails}
use Rattle.ipa_logic.specs.Facts.{Universe}
use Rattle.ipa_logic.specs.Truth.{fact_of, literal_true as holds}
use Rattle.ipa_logic.specs.declared.facts.Fact.{Fact}
use Rattle.ipa_sat.specs.Formula.{value, clause_true, literal_true as lit_true}
use Rattle.ipa_sat.specs.declared.cnf.Lit.{Lit}
use Rattle.ipa_ground.specs.Enumeration.{facts_over, AreShort}
use Rattle.ipa_ground.specs.FactsLaws.{AreShort-from_fit}
use Rattle.ipa_ground.specs.Grounding.{test_of}
use Rattle.ipa_ground.specs.GroundingSteps.{IsReady, IsLitOf, IsGroundLiteral, AreGround, IsAlwaysTrue, IsOpposite}
use Rattle.ipa_ground.specs.GroundingLaws.{lit-same, lit-range}

-- the predicates of a specification are short
pub ready-short : (s : Specification) (universe : Universe) (starts : List ℕ) (first limit : ℕ) → IsReady s universe starts first limit → AreShort s.predicates
ready-short s universe starts first limit h = AreShort-from_fit s h.fit

module _ (s : Specification) (universe : Universe) (first : ℕ) where
  -- the facts that an assignment makes true
  abbrev pub state : List Bool → Fact → Bool
  state a = test_of first a (facts_over s.predicates universe)

  pub ground-holds : (values : List ℕ) (atom : Atom) (lit : Lit) → AreShort s.predicates → IsLitOf s universe first (fact_of s values atom) true lit → IsGroundLiteral s universe first values (Holds atom) lit
  ground-holds values atom lit short h = record { same = λ a. lit-same s universe first a (fact_of s values atom) true lit short h; range = lit-range s universe first (fact_of s values atom) true lit h }

  pub ground-fails : (values : List ℕ) (atom : Atom) (lit : Lit) → AreShort s.predicates → IsLitOf s universe first (fact_of s values atom) false lit → IsGroundLiteral s universe first values (Fails atom) lit
  ground-fails values atom lit short h = record { same = λ a. lit-same s universe first a (fact_of s values atom) false lit short h; range = lit-range s universe first (fact_of s values atom) false lit h }

  -- no literal yet
  pub ground-none : (values : List ℕ) → AreGround s universe first values [] []
  ground-none values = record { same = λ a. refl; range = All-nil (λ lit. lit.var < first + length (facts_over s.predicates universe)) }

  -- one literal more
  next-any : (values : List ℕ) (ls : List Literal) (k : ℕ) (l : Literal) (t : Fact → Bool) (b : Bool) → k < length ls → l ≡ get_or ls k l → holds s t values l ≡ b
      → list_any (holds s t values) (take (k + 1) ls) ≡ (list_any (holds s t values) (take k ls) || b)
  next-any values ls k l t b inside at e =
      list_any_more (holds s t values) ls k l inside
      ∙ ap (λ c. list_any (holds s t values) (take k ls) || c) (ap (holds s t values) (sym at) ∙ e)

  -- a literal that is false
  pub ground-false : (values : List ℕ) (ls : List Literal) (k : ℕ) (l : Literal) (lits : List Lit) → k < length ls → l ≡ get_or ls k l → ((t : Fact → Bool) → holds s t values l ≡ false)
      → AreGround s universe first values (take k ls) lits → AreGround s universe first values (take (k + 1) ls) lits
  ground-false values ls k l lits inside at false_for h = record {
    same = λ a. h.same a ∙ sym (next-any values ls k l (state a) false inside at (false_for (state a)) ∙ or-false (list_any (holds s (state a) values) (take k ls)));
    range = h.range;
  }

  -- a literal that depends on its fact
  pub ground-depends : (values : List ℕ) (ls : List Literal) (k : ℕ) (l : Literal) (lits : List Lit) (lit : Lit) → k < length ls → l ≡ get_or ls k l → IsGroundLiteral s universe first values l lit
      → AreGround s universe first values (take k ls) lits → AreGround s universe first values (take (k + 1) ls) (lits ++ lit ∷ [])
  ground-depends values ls k l lits lit inside at g h = record {
    same = λ a. list_any-append (lit_true a) lits (lit ∷ [])
        ∙ ((λ i. h.same a i || (g.same a i || false))
        ∙ (ap (λ c. list_any (holds s (state a) values) (take k ls) || c) (or-false (holds s (state a) values l))
        ∙ sym (next-any values ls k l (state a) (holds s (state a) values l) inside at refl)));
    range = All-push (λ lit. lit.var < first + length (facts_over s.predicates universe)) lits lit h.range g.range;
  }

  -- a literal that is true
  pub ground-true : (values : List ℕ) (ls : List Literal) (k : ℕ) (l : Literal) → k < length ls → l ≡ get_or ls k l → ((t : Fact → Bool) → holds s t values l ≡ true)
      → IsAlwaysTrue s universe first values ls
  ground-true values ls k l inside at true_for = record { true_for = λ a. list_any_at (holds s (state a) values) ls k l inside (ap (holds s (state a) values) (sym at) ∙ true_for (state a)) }

-- opposites
lit-opposite : (a : List Bool) (one other : Lit) → IsOpposite one other → lit_true a other ≡ not (lit_true a one)
lit-opposite a one other h = turned (value a one.var) (value a other.var) one.positive other.positive (ap (value a) h.same_var) h.other_sign
  where
    turned : (x y p q : Bool) → x ≡ y → (p ≡ q → ⊥) → cond q y (not y) ≡ not (cond p x (not x))
    turned x y true true e d = absurd (d refl)
    turned x y true false e d = ap not (sym e)
    turned true y false true e d = sym e
    turned false y false true e d = sym e
    turned x y false false e d = absurd (d refl)

-- the first literals are true where one of them is
any-kept : {X : Type 0} (p : X → Bool) (xs : List X) (k : ℕ) → list_any p (take k xs) ≡ true → list_any p xs ≡ true
any-kept p xs k h = ap (list_any p) (sym (take-append-drop k xs)) ∙ (list_any-append p (take k xs) (drop k xs) ∙ or_left (list_any p (take k xs)) (list_any p (drop k xs)) h)

-- an instance with a fact and its opposite is always true
pub ground-opposite : (s : Specification) (universe : Universe) (first : ℕ) (values : List ℕ) (ls : List Literal) (k : ℕ) (l : Literal) (lits : List Lit) (lit : Lit) → k < length ls → l ≡ get_or ls k l
    → IsGroundLiteral s universe first values l lit → AreGround s universe first values (take k ls) lits → Any (IsOpposite lit) lits → IsAlwaysTrue s universe first values ls
ground-opposite s universe first values ls k l lits lit inside at g h any = record { true_for = λ a. by a (cases_Bool (lit_true a lit)) }
  where
    by : (a : List Bool) → (lit_true a lit ≡ true) ⊎ (lit_true a lit ≡ false) → list_any (holds s (test_of first a (facts_over s.predicates universe)) values) ls ≡ true
    by a (inl here) = list_any_at (holds s (test_of first a (facts_over s.predicates universe)) values) ls k l inside (ap (holds s (test_of first a (facts_over s.predicates universe)) values) (sym at) ∙ (sym (g.same a) ∙ here))
    by a (inr other) =
        let opposite : lit_true a any.1 ≡ true = lit-opposite a lit any.1 any.4 ∙ ap not other in
        let one : clause_true a lits ≡ true = list_any_at (lit_true a) lits any.0 any.1 any.2 (ap (lit_true a) any.3 ∙ opposite) in
        any-kept (holds s (test_of first a (facts_over s.predicates universe)) values) ls k (sym (h.same a) ∙ one)
