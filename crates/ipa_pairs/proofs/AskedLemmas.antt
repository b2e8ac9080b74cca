-- What answers what is asked.
--
--   each-append, each-map   what holds of each item of two lists, and of what is made of each item
--   answers-for, answers-need, answers-touch, answers-after   what the answers say of literals and facts
use Rattle.std.proofs.Common.{◌≡◌, ◌↔◌, ℕ, zero, suc, Bool, true, false, not, ◌&&◌, ◌||◌, cond, List, [], ◌∷◌, ◌++◌, map, Some, refl, sym, ap, ◌∙◌, subst, slice_get}
use Rattle.std.specs.List.{list_any, list_all, AllByRecursion}
use Rattle.std.proofs.lemmas.Bool.{false≢true, and_parts}
use Rattle.std.proofs.lemmas.Option.{same_Some}
use Rattle.ipa_spec.specs.FoundLaws.{list_any-false}
use Rattle.ipa_spec.specs.Actions.{effects_of}
use Rattle.ipa_spec.specs.declared.specification.Specification.{Specification}
use Rattle.ipa_spec.specs.declared.clauses.Literal.{Literal}
use Rattle.ipa_spec.specs.declared.clauses.Literal.TheVariants.{Holds, Fails, Same, Differ}
use Rattle.ipa_spec.specs.declared.operations.Action.{Action}
use Rattle.ipa_logic.specs.Truth.{fact_of, same_value, literal_true}
use Rattle.ipa_logic.specs.Touches.{adds, some_takes, removes, touch_of, plain_application, touches_need}
use Rattle.ipa_logic.specs.declared.facts.Fact.{Fact}
use Rattle.ipa_logic.specs.declared.facts.Touch.TheVariants as touch
use Rattle.ipa_pairs.specs.Asked.{Answers, decided, asked_for, asked_by_touch, asked_by_need, asked_before, asked_after}
use Rattle.ipa_pairs.specs.declared.asking.Asked.TheVariants as asked

-- what holds of each item of two lists
pub each-append : {X : Type 0} (P : X → Type 0) (xs ys : List X) → AllByRecursion P (xs ++ ys) ↔ (AllByRecursion P xs × AllByRecursion P ys)
each-append P [] ys = ((λ h. (tt, h)), (λ h. h.1))
each-append P (x ∷ xs) ys =
    let rest = each-append P xs ys in
    ((λ h. ((h.0, (rest.0 h.1).0), (rest.0 h.1).1)), (λ h. (h.0.0, rest.1 (h.0.1, h.1))))

-- a fact of each item, from the first and from the others
each-item : {X : Type 0} (Q : X → Type 0) (x : X) (xs : List X) → Q x → ((k : ℕ) (y : X) → slice_get xs k ≡ Some y → Q y) → (k : ℕ) (y : X) → slice_get (x ∷ xs) k ≡ Some y → Q y
each-item Q x xs first others zero y e = subst Q (same_Some x y e) first
each-item Q x xs first others (suc k) y e = others k y e

-- what holds of what is made of each item of a list
pub each-map : {X Y : Type 0} (P : Y → Type 0) (g : X → Y) (xs : List X) → AllByRecursion P (map g xs) ↔ ((k : ℕ) (x : X) → slice_get xs k ≡ Some x → P (g x))
each-map P g [] = ((λ h k x e. cc), (λ h. tt))
each-map {X} P g (x ∷ xs) =
    let rest = each-map P g xs in
    ((λ h. each-item (λ (y : X). P (g y)) x xs h.0 (rest.0 h.1)), (λ h. (h 0 x refl, rest.1 (λ k y e. h (suc k) y e))))

-- a test that all pass
pub list_all-each : {X : Type 0} (p : X → Bool) (xs : List X) → (list_all p xs ≡ true) ↔ ((k : ℕ) (x : X) → slice_get xs k ≡ Some x → p x ≡ true)
list_all-each p [] = ((λ h k x e. cc), (λ h. refl))
list_all-each {X} p (x ∷ xs) =
    let rest = list_all-each p xs in (
      (λ h. let b = and_parts (p x) (list_all p xs) h in each-item (λ (y : X). p y ≡ true) x xs b.0 (rest.0 b.1)),
      (λ h. ap (λ (b : Bool). b && list_all p xs) (h 0 x refl) ∙ rest.1 (λ k y e. h (suc k) y e)),
    )

-- a test that none passes
pub list_any-none : {X : Type 0} (p : X → Bool) (xs : List X) → (list_any p xs ≡ false) ↔ ((k : ℕ) (x : X) → slice_get xs k ≡ Some x → p x ≡ false)
list_any-none {X} p xs = (list_any-false p xs, none xs)
  where
    none : (xs : List X) → ((k : ℕ) (x : X) → slice_get xs k ≡ Some x → p x ≡ false) → list_any p xs ≡ false
    none [] h = refl
    none (x ∷ xs) h = ap (λ (b : Bool). b || list_any p xs) (h 0 x refl) ∙ none xs (λ k y e. h (suc k) y e)

-- what is decided
answers-decided : (t : Fact → Bool) (b : Bool) → Answers t (decided b) ↔ (b ≡ true)
answers-decided t true = ((λ h. refl), (λ h. tt))
answers-decided t false = ((λ h. absurd h), (λ h. absurd (false≢true h)))

-- what is decided as it has to be
decided-as : (b holds : Bool) → (cond holds b (not b) ≡ true) ↔ (b ≡ holds)
decided-as true true = ((λ h. refl), (λ h. refl))
decided-as true false = ((λ h. absurd (false≢true h)), (λ h. absurd (false≢true (sym h))))
decided-as false true = ((λ h. absurd (false≢true h)), (λ h. absurd (false≢true h)))
decided-as false false = ((λ h. refl), (λ h. refl))

decided-as-not : (b holds : Bool) → (cond (not holds) b (not b) ≡ true) ↔ (not b ≡ holds)
decided-as-not true true = ((λ h. absurd (false≢true h)), (λ h. absurd (false≢true h)))
decided-as-not true false = ((λ h. refl), (λ h. refl))
decided-as-not false true = ((λ h. refl), (λ h. refl))
decided-as-not false false = ((λ h. absurd (false≢true h)), (λ h. absurd (false≢true (sym h))))

-- a denied test
denied : (a b : Bool) → (a ≡ not b) ↔ (not a ≡ b)
denied true true = ((λ h. absurd (false≢true (sym h))), (λ h. absurd (false≢true h)))
denied true false = ((λ h. refl), (λ h. refl))
denied false true = ((λ h. refl), (λ h. refl))
denied false false = ((λ h. absurd (false≢true h)), (λ h. absurd (false≢true (sym h))))

-- one equivalence after another
chained : {A B C : Type 0} → (A ↔ B) → (B ↔ C) → A ↔ C
chained f g = ((λ a. g.0 (f.0 a)), (λ c. f.1 (g.1 c)))

-- what is asked for a literal
pub answers-for : (t : Fact → Bool) (s : Specification) (values : List ℕ) (l : Literal) (holds : Bool) → Answers t (asked_for s values l holds) ↔ (literal_true s t values l ≡ holds)
answers-for t s values (Holds a) holds = ((λ h. h), (λ h. h))
answers-for t s values (Fails a) holds = denied (t (fact_of s values a)) holds
answers-for t s values (Same v w) holds = chained (answers-decided t (cond holds (same_value s values v w) (not (same_value s values v w)))) (decided-as (same_value s values v w) holds)
answers-for t s values (Differ v w) holds = chained (answers-decided t (cond (not holds) (same_value s values v w) (not (same_value s values v w)))) (decided-as-not (same_value s values v w) holds)

-- what is asked by a need
pub answers-need : (t : Fact → Bool) (s : Specification) (action : Action) (args : List ℕ) (l : Literal)
    → Answers t (asked_by_need s action args l) ↔ ((touches_need s action args l || literal_true s t args l) ≡ true)
answers-need t s action args l = by (touches_need s action args l)
  where
    by : (b : Bool) → Answers t (cond b asked.Nothing (asked_for s args l true)) ↔ ((b || literal_true s t args l) ≡ true)
    by true = ((λ h. refl), (λ h. tt))
    by false = answers-for t s args l true

-- what is asked of a fact that is touched
pub answers-touch : (t : Fact → Bool) (s : Specification) (action : Action) (args : List ℕ) (f : Fact)
    → Answers t (asked_by_touch f (touch_of s action args f)) ↔ ((adds s action args f ≡ true → t f ≡ true) × (removes s action args f ≡ true → t f ≡ false))
answers-touch t s action args f = by (adds s action args f) (some_takes s (effects_of s action) args f)
  where
    by : (a r : Bool) → Answers t (asked_by_touch f (cond a touch.Adds (cond (r && not a) touch.Removes touch.Nothing)))
        ↔ ((a ≡ true → t f ≡ true) × ((r && not a) ≡ true → t f ≡ false))
    by true true = ((λ h. ((λ e. h), (λ e. absurd (false≢true e)))), (λ h. h.0 refl))
    by true false = ((λ h. ((λ e. h), (λ e. absurd (false≢true e)))), (λ h. h.0 refl))
    by false true = ((λ h. ((λ e. absurd (false≢true e)), (λ e. h))), (λ h. h.1 refl))
    by false false = ((λ h. ((λ e. absurd (false≢true e)), (λ e. absurd (false≢true e)))), (λ h. tt))

-- what is asked of a fact before the effects
answers-before : (t : Fact → Bool) (s : Specification) (action : Action) (args : List ℕ) (f : Fact) (holds : Bool)
    → Answers t (asked_before f (touch_of s action args f) holds) ↔ (plain_application s action args t f ≡ holds)
answers-before t s action args f holds = by (adds s action args f) (some_takes s (effects_of s action) args f) (t f) holds refl
  where
    by : (a r b holds : Bool) → t f ≡ b → Answers t (asked_before f (cond a touch.Adds (cond (r && not a) touch.Removes touch.Nothing)) holds)
        ↔ ((a || (b && not (r && not a))) ≡ holds)
    by true r b true e = ((λ h. refl), (λ h. tt))
    by true r b false e = ((λ h. absurd h), (λ h. absurd (false≢true (sym h))))
    by false true true true e = ((λ h. absurd h), (λ h. absurd (false≢true h)))
    by false true true false e = ((λ h. refl), (λ h. tt))
    by false true false true e = ((λ h. absurd h), (λ h. absurd (false≢true h)))
    by false true false false e = ((λ h. refl), (λ h. tt))
    by false false true holds e = ((λ h. sym e ∙ h), (λ h. e ∙ h))
    by false false false holds e = ((λ h. sym e ∙ h), (λ h. e ∙ h))

-- what is asked before the effects so that a literal is false after them
pub answers-after : (t : Fact → Bool) (s : Specification) (action : Action) (args values : List ℕ) (l : Literal)
    → Answers t (asked_after s action args values l) ↔ (literal_true s (plain_application s action args t) values l ≡ false)
answers-after t s action args values (Holds a) = answers-before t s action args (fact_of s values a) false
answers-after t s action args values (Fails a) = chained (answers-before t s action args (fact_of s values a) true) (denied (plain_application s action args t (fact_of s values a)) false)
answers-after t s action args values (Same v w) = chained (answers-decided t (not (same_value s values v w))) (denied-true (same_value s values v w))
  where
    denied-true : (b : Bool) → (not b ≡ true) ↔ (b ≡ false)
    denied-true true = ((λ h. absurd (false≢true h)), (λ h. absurd (false≢true (sym h))))
    denied-true false = ((λ h. refl), (λ h. refl))
answers-after t s action args values (Differ v w) = chained (answers-decided t (same_value s values v w)) (denied (same_value s values v w) false)
