-- Literals that the first variables decide.
use Rattle.std.proofs.Common.{◌≡◌, ℕ, Bool, true, false, not, cond, ◌&&◌, ◌||◌, ◌==◌, nat_lt, List, [], ◌∷◌, refl, ◌∙◌, ap}
use Rattle.std.proofs.lemmas.Bool.{and_parts, or_right, ltb-true}
use Rattle.std.specs.List.{list_any}
use Rattle.ipa_spec.specs.Actions.{arity_of}
use Rattle.ipa_spec.specs.Faults.{term_at}
use Rattle.ipa_spec.specs.declared.specification.Specification.{Specification}
use Rattle.ipa_spec.specs.declared.constants.Term.{Term}
use Rattle.ipa_spec.specs.declared.constants.Term.TheVariants.{Var as Variable, Const as Fixed}
use Rattle.ipa_spec.specs.declared.clauses.Atom.{Atom}
use Rattle.ipa_spec.specs.declared.clauses.Literal.{Literal}
use Rattle.ipa_spec.specs.declared.clauses.Literal.TheVariants.{Holds, Fails, Same, Differ}
use Rattle.ipa_spec.specs.declared.clauses.Clause.{Clause}
use Rattle.ipa_logic.specs.Truth.{element_of, element_at, fact_of, same_value, literal_true, instance_true}
use Rattle.ipa_logic.specs.Values.{Agrees}
use Rattle.ipa_logic.specs.declared.facts.Fact.{Fact}
use Rattle.ipa_touch.specs.Decided.{is_term_decided, is_place_decided, is_atom_decided, is_decided, is_settled}

module _ (s : Specification) (at : ℕ) (v w : List ℕ) (same : Agrees at v w) where
  -- a term that the first variables decide stands for one element
  pub term-decided : (term : Term) → is_term_decided at term ≡ true → element_of s v term ≡ element_of s w term
  term-decided (Variable x) h = same x (ltb-true x at h)
  term-decided (Fixed k) h = refl

  -- so does a place
  element-decided : (a : Atom) (place : ℕ) → is_place_decided s at a place ≡ true → element_at s v a place ≡ element_at s w a place
  element-decided a place h = here (nat_lt place (arity_of s.predicates a.predicate)) h
    where
      here : (b : Bool) → (not b || is_term_decided at (term_at a place)) ≡ true → cond b (element_of s v (term_at a place)) 0 ≡ cond b (element_of s w (term_at a place)) 0
      here true k = term-decided (term_at a place) k
      here false k = refl

  -- and an atom for one fact
  fact-decided : (a : Atom) → is_atom_decided s at a ≡ true → fact_of s v a ≡ fact_of s w a
  fact-decided a h =
      let two = and_parts (is_place_decided s at a 0 && is_place_decided s at a 1) (is_place_decided s at a 2) h in
      let one = and_parts (is_place_decided s at a 0) (is_place_decided s at a 1) two.0 in
      λ i. record { predicate = a.predicate; args = element-decided a 0 one.0 i ∷ element-decided a 1 one.1 i ∷ element-decided a 2 two.1 i ∷ [] }

  value-decided : (x y : Term) → (is_term_decided at x && is_term_decided at y) ≡ true → same_value s v x y ≡ same_value s w x y
  value-decided x y h =
      let both = and_parts (is_term_decided at x) (is_term_decided at y) h in
      λ i. term-decided x both.0 i == term-decided y both.1 i

  -- and a literal has one truth
  literal-decided : (t : Fact → Bool) (l : Literal) → is_decided s at l ≡ true → literal_true s t v l ≡ literal_true s t w l
  literal-decided t (Holds a) h = ap t (fact-decided a h)
  literal-decided t (Fails a) h = ap (λ f. not (t f)) (fact-decided a h)
  literal-decided t (Same x y) h = value-decided x y h
  literal-decided t (Differ x y) h = ap not (value-decided x y h)

  -- a clause that is settled passes on all values that agree so far
  pub settled-passes : (t : Fact → Bool) (c : Clause) → is_settled s at t w c ≡ true → instance_true s t v c ≡ true
  settled-passes t c h = among c.literals h
    where
      among : (ls : List Literal) → list_any (λ l. is_decided s at l && literal_true s t w l) ls ≡ true → list_any (literal_true s t v) ls ≡ true
      among [] h = h
      among (l ∷ ls) h = here (is_decided s at l) (literal_true s t w l) refl refl h (among ls)
        where
          here : (a b : Bool) → is_decided s at l ≡ a → literal_true s t w l ≡ b → ((a && b) || list_any (λ l. is_decided s at l && literal_true s t w l) ls) ≡ true
              → (list_any (λ l. is_decided s at l && literal_true s t w l) ls ≡ true → list_any (literal_true s t v) ls ≡ true)
              → (literal_true s t v l || list_any (literal_true s t v) ls) ≡ true
          here true true d e k rest = ap (λ (b : Bool). b || list_any (literal_true s t v) ls) (literal-decided t l d ∙ e)
          here true false d e k rest = or_right (literal_true s t v l) (list_any (literal_true s t v) ls) (rest k)
          here false b d e k rest = or_right (literal_true s t v l) (list_any (literal_true s t v) ls) (rest k)
