-- Leaps over elements.
use Rattle.std.proofs.Common.{◌≡◌, ℕ, ◌<◌, ◌≤◌, Bool, true, false, not, cond, ◌&&◌, ◌||◌, List, [], ◌∷◌, slice_index, suc, zero, refl, ◌∙◌, ap, subst, arith, unwrap_or, inl, inr, length, take, Option, Some, None, slice_get}
use Rattle.std.proofs.lemmas.Bool.{cases_lt, and_parts, or_left, or_right, lt-ltb}
use Rattle.std.specs.Ordering.{is_eq}
use Rattle.std.specs.Option.{option_map, option_map_or}
use Rattle.ipa_spec.specs.Actions.{arity_of, effects_of}
use Rattle.ipa_spec.specs.Constants.{constants_of, constant_count, element_of_constant}
use Rattle.ipa_spec.specs.ConstantLaws.{element_of_constant-less}
use Rattle.ipa_spec.specs.Faults.{term_at}
use Rattle.ipa_spec.specs.Fits.{IsFit}
use Rattle.ipa_spec.specs.FoundLaws.{found_at}
use Rattle.ipa_spec.specs.declared.specification.Specification.{Specification}
use Rattle.ipa_spec.specs.declared.constants.Constant.{Constant}
use Rattle.ipa_spec.specs.declared.constants.Term.TheVariants.{Var as Variable}
use Rattle.ipa_spec.specs.declared.clauses.Atom.{Atom}
use Rattle.ipa_spec.specs.declared.operations.Arg.{Arg}
use Rattle.ipa_spec.specs.declared.operations.Arg.TheVariants.{Var as Parameter, Const as FixedArg, Any}
use Rattle.ipa_spec.specs.declared.operations.Effect.{Effect}
use Rattle.ipa_spec.specs.declared.operations.Action.{Action}
use Rattle.ipa_logic.specs.Facts.{fact_cmp}
use Rattle.ipa_logic.specs.FactLaws.{same_fact}
use Rattle.ipa_logic.specs.FitLaws.{three-at}
use Rattle.ipa_logic.specs.Truth.{value_at, element_of, element_at, fact_of}
use Rattle.ipa_logic.specs.Touches.{stands_for, arg_at, fact_given, gives, adds, removes, plain_application}
use Rattle.ipa_logic.specs.Values.{Agrees}
use Rattle.ipa_logic.specs.declared.facts.Fact.{Fact}
use Rattle.ipa_touch.specs.Decided.{is_term_decided}
use Rattle.ipa_touch.specs.Leaps.{Leaps, IsFree}
use Rattle.ipa_touch.proofs.DecidedLemmas.{term-decided}

module _ (at : ℕ) (values : List ℕ) where
  -- no leap
  pub leaps-none : (p : List ℕ → Bool) (from : ℕ) → Leaps p at values from from
  leaps-none p from = record { on = omega arith; passes = λ v a ge lt. absurd (omega arith) }

  -- one leap after the other
  pub leaps-both : (p q r : List ℕ → Bool) (from middle next : ℕ) → Leaps p at values from middle → Leaps q at values middle next → ((v : List ℕ) → r v ≡ (p v || q v)) → Leaps r at values from next
  leaps-both p q r from middle next i j e = record {
    on = omega (arith, i.on, j.on);
    passes = λ v a ge lt. elim (cases_lt (value_at v at) middle) [
      | inl below ↦ e v ∙ or_left (p v) (q v) (i.passes v a ge below)
      | inr above ↦ e v ∙ or_right (p v) (q v) (j.passes v a above lt)
    ];
  }

  -- under a test that is the same
  pub leaps-same : (p q : List ℕ → Bool) (from next : ℕ) → ((v : List ℕ) → q v ≡ p v) → Leaps p at values from next → Leaps q at values from next
  leaps-same p q from next e l = record { on = l.on; passes = λ v a ge lt. e v ∙ l.passes v a ge lt }

-- the element of an atom's fact in a place within the arity
element-within : (s : Specification) (v : List ℕ) (a : Atom) (place : ℕ) → place < arity_of s.predicates a.predicate → element_at s v a place ≡ element_of s v (term_at a place)
element-within s v a place l = ap (λ (b : Bool). cond b (element_of s v (term_at a place)) 0) (lt-ltb place (arity_of s.predicates a.predicate) l)

module _ (s : Specification) (a : Atom) (at place : ℕ) (free : IsFree s a at place) where
  -- the free place has the element of the variable
  pub free-own : (v : List ℕ) → element_at s v a place ≡ value_at v at
  free-own v = element-within s v a place free.inside ∙ ap (element_of s v) free.own

  -- and the places before it have elements that are decided
  pub free-before : (v values : List ℕ) → Agrees at v values → (j : ℕ) → j < place → element_at s v a j ≡ element_of s values (term_at a j)
  free-before v values agrees j l = element-within s v a j (omega (arith, free.inside)) ∙ term-decided s at v values agrees (term_at a j) (free.before j l)

  -- the fact has it too
  free-fact : (v : List ℕ) → slice_index (fact_of s v a).args place ≡ value_at v at
  free-fact v = three-at (element_at s v a) place free.few ∙ free-own v

-- the elements of constants are few
pub constant-few : (s : Specification) → IsFit s → (k : ℕ) → element_of_constant s k < 4
constant-few s fit k = here (slice_get s.constants k) refl
  where
    here : (o : Option Constant) → slice_get s.constants k ≡ o → option_map_or (λ c. length (constants_of (take k s.constants) c.sort)) o 0 < 4
    here None e = omega arith
    here (Some c) e =
        let less : element_of_constant s k < constant_count s c.sort = element_of_constant-less s k c.sort (ap (option_map (λ (d : Constant). d.sort)) e) in
        let most = fit.constant_most c.sort in
        let same : element_of_constant s k ≡ length (constants_of (take k s.constants) c.sort) =
        ap (λ (o : Option Constant). option_map_or (λ c. length (constants_of (take k s.constants) c.sort)) o 0) e in
        omega arith

-- and where there are none it is but the element 0 that stands for what is not declared
pub constant-none : (s : Specification) → s.constants ≡ [] → (k : ℕ) → element_of_constant s k < 1
constant-none s none k = let same : element_of_constant s k ≡ 0 = ap (λ (cs : List Constant). option_map_or (λ c. length (constants_of (take k cs) c.sort)) (slice_get cs k) 0) none in omega arith

module _ (s : Specification) (args : List ℕ) (from next : ℕ) (past : (k : ℕ) → element_of_constant s k < from) (all : (k : ℕ) → from ≤ value_at args k → next ≤ value_at args k) where
  -- an element of a fact that an effect gives is leapt over by none
  arg-kept : (a : Arg) → from ≤ unwrap_or (stands_for s args a) 0 → next ≤ unwrap_or (stands_for s args a) 0
  arg-kept (Parameter k) l = all k l
  arg-kept (FixedArg k) l = absurd (omega (arith, past k))
  arg-kept Any l = absurd (omega (arith, past 0))

  given-kept : (e : Effect) (k : ℕ) → from ≤ slice_index (fact_given s args e).args k → next ≤ slice_index (fact_given s args e).args k
  given-kept e zero l = arg-kept (arg_at e 0) l
  given-kept e (suc zero) l = arg-kept (arg_at e 1) l
  given-kept e (suc (suc zero)) l = arg-kept (arg_at e 2) l
  given-kept e (suc (suc (suc k))) l = absurd (let h : from ≤ 0 = l in omega (arith, past 0))

  -- nor is one of a fact that the action adds
  added-kept : (action : Action) (f : Fact) (k : ℕ) → adds s action args f ≡ true → from ≤ slice_index f.args k → next ≤ slice_index f.args k
  added-kept action f k h =
      let e = found_at (gives s args f) (effects_of s action) h in
      let same : fact_given s args e.item ≡ f = same_fact (fact_given s args e.item) f (and_parts e.item.add (is_eq (fact_cmp (fact_given s args e.item) f)) e.passes).1 in
      subst (λ (g : Fact). from ≤ slice_index g.args k → next ≤ slice_index g.args k) same (given-kept e.item k)

  -- the atom's fact is false after the action with each element that is leapt over
  pub leaps-atom : (action : Action) (t : Fact → Bool) (a : Atom) (at place : ℕ) (values : List ℕ) → IsFree s a at place → from ≤ next
      → ((v : List ℕ) → Agrees at v values → from ≤ value_at v at → t (fact_of s v a) ≡ true → next ≤ value_at v at)
      → Leaps (λ v. not (plain_application s action args t (fact_of s v a))) at values from next
  leaps-atom action t a at place values free on known = record {
    on = on;
    passes = λ v agrees ge lt. here v lt (known v agrees ge) (added v ge) (adds s action args (fact_of s v a)) refl (t (fact_of s v a)) refl;
  }
    where
      added : (v : List ℕ) → from ≤ value_at v at → adds s action args (fact_of s v a) ≡ true → next ≤ value_at v at
      added v ge h = subst (λ (x : ℕ). from ≤ x → next ≤ x) (free-fact s a at place free v) (added-kept action (fact_of s v a) place h) ge

      here : (v : List ℕ) → value_at v at < next → (t (fact_of s v a) ≡ true → next ≤ value_at v at) → (adds s action args (fact_of s v a) ≡ true → next ≤ value_at v at)
          → (b : Bool) → adds s action args (fact_of s v a) ≡ b → (c : Bool) → t (fact_of s v a) ≡ c → not (b || (c && not (removes s action args (fact_of s v a)))) ≡ true
      here v lt m n true e c k = absurd (let l : next ≤ value_at v at = n e in omega arith)
      here v lt m n false e true k = absurd (let l : next ≤ value_at v at = m k in omega arith)
      here v lt m n false e false k = refl

-- each of four arguments
pub four-args : (one two three four from r : ℕ) → 0 < from → (from ≤ one → r ≤ one) → (from ≤ two → r ≤ two) → (from ≤ three → r ≤ three) → (from ≤ four → r ≤ four)
    → (k : ℕ) → from ≤ value_at (one ∷ two ∷ three ∷ four ∷ []) k → r ≤ value_at (one ∷ two ∷ three ∷ four ∷ []) k
four-args one two three four from r s a b c d zero l = a l
four-args one two three four from r s a b c d (suc zero) l = b l
four-args one two three four from r s a b c d (suc (suc zero)) l = c l
four-args one two three four from r s a b c d (suc (suc (suc zero))) l = d l
four-args one two three four from r s a b c d (suc (suc (suc (suc k)))) l = absurd (let h : from ≤ 0 = l in omega arith)

-- the free place is the first, the second or the third
module _ (s : Specification) (a : Atom) (at : ℕ) where
  pub free-first : 0 < arity_of s.predicates a.predicate → term_at a 0 ≡ Variable at → IsFree s a at 0
  free-first l own = record { inside = l; few = omega arith; own = own; before = λ j b. absurd (omega arith) }

  pub free-second : 1 < arity_of s.predicates a.predicate → term_at a 1 ≡ Variable at → is_term_decided at (term_at a 0) ≡ true → IsFree s a at 1
  free-second l own first = record { inside = l; few = omega arith; own = own; before = before }
    where
      before : (j : ℕ) → j < 1 → is_term_decided at (term_at a j) ≡ true
      before zero b = first
      before (suc j) b = absurd (omega arith)

  pub free-third : 2 < arity_of s.predicates a.predicate → term_at a 2 ≡ Variable at → is_term_decided at (term_at a 0) ≡ true → is_term_decided at (term_at a 1) ≡ true →
      IsFree s a at 2
  free-third l own first second = record { inside = l; few = omega arith; own = own; before = before }
    where
      before : (j : ℕ) → j < 2 → is_term_decided at (term_at a j) ≡ true
      before zero b = first
      before (suc zero) b = second
      before (suc (suc j)) b = absurd (omega arith)
