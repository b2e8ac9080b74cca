-- Laws of the state after an action, made of the state before.
--
--   has-applied        the facts after the action are those that it adds and those that are kept
--   applied-plain      so they are those of the plain application
--   applied-test       the same of the two tests
--   rising-applied     they stand in order
--   IsAfter-applied    this is a state after the action, and IsAfter-one: there is but one
--   next-applied       the next fact after the action is the next that is added or kept
--   plain-touched_adds, plain-touched_removes, plain-touched_nothing   the plain application by the touch of a fact
use Rattle.std.proofs.Common.{◌≡◌, ℕ, Bool, true, false, cond, not, ◌&&◌, ◌||◌, if◌then◌else◌, List, [], ◌∷◌, filter, map, Option, refl, sym, ◌∙◌, ap, subst}
use Rattle.std.proofs.Math.Bool.{or_self_left, or_assoc, or-false, and_comm}
use Rattle.std.proofs.lemmas.Map.Views.{any-filter_same}
use Rattle.std.proofs.lemmas.List.Kept.{IsStrictlySortedBy-filter}
use Rattle.std.specs.BTreeSet.{insert_key}
use Rattle.std.specs.List.{AllByRecursion}
use Rattle.std.specs.List.Sorted.{IsStrictlySortedBy}
use Rattle.std.specs.Ordering.{is_eq, ordering_reverse, match_ordering}
use Rattle.std.specs.declared.cmp.Ordering.{Ordering}
use Rattle.std.specs.declared.cmp.Ordering.TheVariants.{Less, Equal, Greater}
use Rattle.ipa_spec.specs.Actions.{effects_of}
use Rattle.ipa_spec.specs.declared.specification.Specification.{Specification}
use Rattle.ipa_spec.specs.declared.operations.Action.{Action}
use Rattle.ipa_spec.specs.declared.operations.Effect.{Effect}
use Rattle.ipa_logic.specs.Facts.{fact_cmp, has, IsRising}
use Rattle.ipa_logic.specs.FactLaws.{fact_cmp_total, same_fact, same-turned, same_rising}
use Rattle.ipa_logic.specs.Touches.{some_gives, adds, removes, fact_given, touch_of, plain_application, IsAfter}
use Rattle.ipa_logic.specs.Views.{next_fact, IsNextOf}
use Rattle.ipa_logic.specs.NextLaws.{next-same, next-found}
use Rattle.ipa_logic.specs.declared.facts.Touch.TheVariants.{Adds, Removes, Nothing}
use Rattle.ipa_logic.specs.declared.facts.Fact.{Fact}
use Rattle.ipa_logic.specs.Applied.{facts_given, given_facts, with_all, kept_facts, applied}
use Rattle.ipa_logic.specs.EitherLaws.{next-one}

-- a fact put in its place is there, and so are the others
has-insert : (s : List Fact) (f g : Fact) → has (insert_key fact_cmp s f) g ≡ (is_eq (fact_cmp g f) || has s g)
has-insert [] f g = refl
has-insert (x ∷ xs) f g = here (fact_cmp f x) refl (has-insert xs f g)
  where
    turned : (a b c : Bool) → (a || (b || c)) ≡ (b || (a || c))
    turned true true c = refl
    turned true false c = refl
    turned false b c = refl

    here : (r : Ordering) → fact_cmp f x ≡ r → has (insert_key fact_cmp xs f) g ≡ (is_eq (fact_cmp g f) || has xs g) →
        has (match_ordering r (f ∷ x ∷ xs) (x ∷ xs) (x ∷ insert_key fact_cmp xs f)) g
        ≡ (is_eq (fact_cmp g f) || (is_eq (fact_cmp g x) || has xs g))
    here Less e h = refl
    here Equal e h =
        sym (ap (λ (y : Fact). is_eq (fact_cmp g y) || (is_eq (fact_cmp g x) || has xs g)) (same_fact f x (ap is_eq e))
        ∙ or_self_left (is_eq (fact_cmp g x)) (has xs g))
    here Greater e h = ap (λ (b : Bool). is_eq (fact_cmp g x) || b) h
        ∙ turned (is_eq (fact_cmp g x)) (is_eq (fact_cmp g f)) (has xs g)

-- what holds of each fact of a list and of one more
all-insert : (P : Fact → Type 0) (s : List Fact) (f : Fact) → AllByRecursion P s → P f →
    AllByRecursion P (insert_key fact_cmp s f)
all-insert P [] f a p = (p, tt)
all-insert P (x ∷ xs) f a p = here (fact_cmp f x) (all-insert P xs f a.1 p)
  where
    here : (r : Ordering) → AllByRecursion P (insert_key fact_cmp xs f) →
        AllByRecursion P (match_ordering r (f ∷ x ∷ xs) (x ∷ xs) (x ∷ insert_key fact_cmp xs f))
    here Less h = (p, a)
    here Equal h = a
    here Greater h = (a.0, h)

all-above : (f x : Fact) (xs : List Fact) → fact_cmp f x ≡ Less → AllByRecursion (λ y. fact_cmp x y ≡ Less) xs →
    AllByRecursion (λ y. fact_cmp f y ≡ Less) xs
all-above f x [] e a = tt
all-above f x (y ∷ ys) e a = (fact_cmp_total.trans f x y e a.0, all-above f x ys e a.1)

-- a list in order stays in order
rising-insert : (s : List Fact) (f : Fact) → IsRising s → IsRising (insert_key fact_cmp s f)
unfolding IsStrictlySortedBy
rising-insert [] f r = (tt, tt)
rising-insert (x ∷ xs) f r = here (fact_cmp f x) refl (rising-insert xs f r.1)
  where
    here : (c : Ordering) → fact_cmp f x ≡ c → IsRising (insert_key fact_cmp xs f) →
        IsRising (match_ordering c (f ∷ x ∷ xs) (x ∷ xs) (x ∷ insert_key fact_cmp xs f))
    here Less e h = ((e, all-above f x xs e r.0), r)
    here Equal e h = r
    here Greater e h =
        (all-insert (λ y. fact_cmp x y ≡ Less) xs f r.0 (fact_cmp_total.antisymm x f ∙ ap ordering_reverse e), h)

has-with_all : (fs s : List Fact) (g : Fact) → has (with_all fs s) g ≡ (has fs g || has s g)
has-with_all [] s g = refl
has-with_all (f ∷ fs) s g = has-insert (with_all fs s) f g
    ∙ (ap (λ (b : Bool). is_eq (fact_cmp g f) || b) (has-with_all fs s g)
    ∙ sym (or_assoc (is_eq (fact_cmp g f)) (has fs g) (has s g)))

rising-with_all : (fs s : List Fact) → IsRising s → IsRising (with_all fs s)
rising-with_all [] s r = r
rising-with_all (f ∷ fs) s r = rising-insert (with_all fs s) f (rising-with_all fs s r)

-- the facts that the adds among some effects give
has-facts_given : (s : Specification) (effects : List Effect) (args : List ℕ) (g : Fact) →
    has (facts_given s effects args) g ≡ some_gives s effects args g
has-facts_given s [] args g = refl
has-facts_given s (e ∷ es) args g = here e.add (has-facts_given s es args g)
  where
    here : (b : Bool) → has (facts_given s es args) g ≡ some_gives s es args g
        → has (map (fact_given s args) (cond b (e ∷ filter (λ e. e.add) es) (filter (λ e. e.add) es))) g
        ≡ ((b && is_eq (fact_cmp (fact_given s args e) g)) || some_gives s es args g)
    here true h = ap (λ (b : Bool). b || has (facts_given s es args) g) (same-turned g (fact_given s args e))
        ∙ ap (λ (b : Bool). is_eq (fact_cmp (fact_given s args e) g) || b) h
    here false h = h

module _ (s : Specification) (action : Action) (args : List ℕ) (state : List Fact) where
  -- the facts that are kept
  has-kept_facts : (g : Fact) →
      has (kept_facts s action args state) g ≡ (not (removes s action args g) && has state g)
  has-kept_facts g = any-filter_same (λ x. is_eq (fact_cmp g x)) (λ f. not (removes s action args f))
      (not (removes s action args g))
      (λ k h. ap (λ (f : Fact). not (removes s action args f)) (sym (same_fact g k h))) state

  pub rising-kept_facts : IsRising state → IsRising (kept_facts s action args state)
  rising-kept_facts r = IsStrictlySortedBy-filter fact_cmp (λ f. not (removes s action args f)) state r

  -- the facts after the action are those that it adds and those that are kept
  pub has-applied : (g : Fact) →
      has (applied s action args state) g ≡ (adds s action args g || has (kept_facts s action args state) g)
  has-applied g = has-with_all (given_facts s action args) (with_all (kept_facts s action args state) []) g
      ∙ (ap (λ (b : Bool). b || has (with_all (kept_facts s action args state) []) g)
      (has-facts_given s (effects_of s action) args g)
      ∙ ap (λ (b : Bool). adds s action args g || b)
      (has-with_all (kept_facts s action args state) [] g ∙ or-false (has (kept_facts s action args state) g)))

  -- so they are those of the plain application
  pub applied-plain : (g : Fact) → has (applied s action args state) g ≡ plain_application s action args (has state) g
  applied-plain g = has-applied g ∙ ap (λ (b : Bool). adds s action args g || b)
      (has-kept_facts g ∙ and_comm (not (removes s action args g)) (has state g))

  pub applied-test : has (applied s action args state) ≡ plain_application s action args (has state)
  applied-test i f = applied-plain f i

  -- they stand in order
  pub rising-applied : IsRising (applied s action args state)
  unfolding IsStrictlySortedBy
  rising-applied = rising-with_all (given_facts s action args) (with_all (kept_facts s action args state) [])
      (rising-with_all (kept_facts s action args state) [] tt)

  -- this is a state after the action, and there is but one
  pub IsAfter-applied : IsAfter s action args state (applied s action args state)
  IsAfter-applied = record { rising = rising-applied; facts = applied-plain }

  pub IsAfter-one : (t : List Fact) → IsAfter s action args state t → applied s action args state ≡ t
  IsAfter-one t a =
      same_rising (applied s action args state) t rising-applied a.rising (λ f. applied-plain f ∙ sym (a.facts f))

  module _ (p : ℕ) (after r : Option Fact) where
    -- the next of the facts that are kept
    pub next-kept : IsRising state → r ≡ next_fact (kept_facts s action args state) p after →
        IsNextOf (has (kept_facts s action args state)) p after r
    next-kept rising e = subst (IsNextOf (has (kept_facts s action args state)) p after) (sym e)
        (next-found p after (kept_facts s action args state) (rising-kept_facts rising))

    -- the next fact after the action is the next that is added or kept
    pub next-applied : IsNextOf (λ f. adds s action args f || has (kept_facts s action args state) f) p after r →
        r ≡ next_fact (applied s action args state) p after
    next-applied n =
        next-one p after (has (applied s action args state)) r (next_fact (applied s action args state) p after)
        (next-same p after (λ f. adds s action args f || has (kept_facts s action args state) f)
        (has (applied s action args state)) r (λ f l. sym (has-applied f)) n)
        (next-found p after (applied s action args state) rising-applied)

-- what the touch of a fact tells of its truth
truth-adds : (add remove was : Bool) → Adds ≡ (if add then Adds else (if remove then Removes else Nothing)) →
    (add || (was && not remove)) ≡ true
truth-adds true remove was h = refl
truth-adds false true was h = cc
truth-adds false false was h = cc

truth-removes : (add remove was : Bool) → Removes ≡ (if add then Adds else (if remove then Removes else Nothing)) →
    (add || (was && not remove)) ≡ false
truth-removes true remove was h = cc
truth-removes false true true h = refl
truth-removes false true false h = refl
truth-removes false false was h = cc

truth-nothing : (add remove was : Bool) → Nothing ≡ (if add then Adds else (if remove then Removes else Nothing)) →
    (add || (was && not remove)) ≡ was
truth-nothing true remove was h = cc
truth-nothing false true was h = cc
truth-nothing false false true h = refl
truth-nothing false false false h = refl

module _ (s : Specification) (action : Action) (args : List ℕ) (t : Fact → Bool) (f : Fact) where
  -- a fact that the action adds is true after it
  pub plain-touched_adds : Adds ≡ touch_of s action args f → plain_application s action args t f ≡ true
  plain-touched_adds h = truth-adds (adds s action args f) (removes s action args f) (t f) h

  -- one that it removes is not
  pub plain-touched_removes : Removes ≡ touch_of s action args f → plain_application s action args t f ≡ false
  plain-touched_removes h = truth-removes (adds s action args f) (removes s action args f) (t f) h

  -- one that it leaves as it is is true after it where it was before
  pub plain-touched_nothing : Nothing ≡ touch_of s action args f → plain_application s action args t f ≡ t f
  plain-touched_nothing h = truth-nothing (adds s action args f) (removes s action args f) (t f) h
