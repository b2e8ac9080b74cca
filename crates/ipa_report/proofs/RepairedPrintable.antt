-- A repair of a specification that can be printed ends in one that can be printed.
--
--   IsSaidEffect s n e     an effect that operation n can be given so that it is printed as what it is
--   candidates_said        each candidate for a pair is such an effect, or a flip
--   applied_printable      with such candidates a specification stays printable
--   repaired_printable     so it does from step to step
use Rattle.std.proofs.Common.{◌≡◌, ℕ, zero, suc, ◌+◌, ◌⊎◌, inl, inr, Bool, true, false, cond, not, ◌&&◌, ◌==◌, nat_lt, List, [], ◌∷◌, ◌++◌, length, map, take, fold, slice_index, Option, Some, None, refl, sym, ap, subst, ◌∙◌, arith}
use Rattle.std.specs.List.{slice_get, slice_set, slice_index_or, list_any, flat_map, AllByRecursion}
use Rattle.std.specs.Option.{option_map_or}
use Rattle.std.proofs.lemmas.Option.{same_Some}
use Rattle.ipa_spec.specs.Actions.{arity_of}
use Rattle.ipa_spec.specs.Faults.{same_name, term_at}
use Rattle.ipa_spec.specs.Limits.{IsFaultless}
use Rattle.ipa_spec.specs.declared.names.Name.{Name}
use Rattle.ipa_spec.specs.declared.predicates.Predicate.{Predicate}
use Rattle.ipa_spec.specs.declared.predicates.Var.{Var}
use Rattle.ipa_spec.specs.declared.constants.Constant.{Constant}
use Rattle.ipa_spec.specs.declared.constants.Term.{Term}
use Rattle.ipa_spec.specs.declared.constants.Term.TheVariants.{Var as Variable, Const as Fixed}
use Rattle.ipa_spec.specs.declared.clauses.Literal.{Literal}
use Rattle.ipa_spec.specs.declared.clauses.Literal.TheVariants.{Holds, Fails, Same, Differ}
use Rattle.ipa_spec.specs.declared.operations.Arg.{Arg}
use Rattle.ipa_spec.specs.declared.operations.Arg.TheVariants.{Var as Parameter, Const as FixedArg, Any}
use Rattle.ipa_spec.specs.declared.operations.Effect.{Effect}
use Rattle.ipa_spec.specs.declared.operations.Operation.{Operation}
use Rattle.ipa_spec.specs.declared.operations.Action.{Action}
use Rattle.ipa_spec.specs.declared.operations.Action.TheVariants.{Op, Drop}
use Rattle.ipa_spec.specs.declared.bounds.Bound.{Bound}
use Rattle.ipa_spec.specs.declared.specification.Specification.{Specification}
use Rattle.ipa_ground.specs.Enumeration.{numbers}
use Rattle.ipa_names.specs.ListLaws.{any-map, at_push}
use Rattle.ipa_canonical.specs.Canonical.{names_of, bound_vars}
use Rattle.ipa_canonical.specs.Hidden.{IsSaidByName, TermIsSaid, EffectIsSaid, LiteralIsSaid, HidesNoConstant}
use Rattle.ipa_canonical.specs.Printable.{IsPrintable}
use Rattle.ipa_canonical.specs.Sentences.{HasLiterals}
use Rattle.ipa_canonical.specs.Shapes.{IsShaped}
use Rattle.ipa_repair.specs.Applying.{with_effect, with_flip, flipped, applied_one, applied}
use Rattle.ipa_repair.specs.Candidates.{has_sort, parameter_if, parameters_of, is_named_by, can_be_named, constant_if, constants_for, wildcard_if, choices, choices_at, effect_of, effects_with_two, effects_with_one, effects_with, effects_on, effects_making, same_action, is_open_to, candidate_if, effect_candidates, has_room, operation_candidates, candidates_of_action, flip_of, candidates_of_other, same_candidate, with_candidate, each_once, candidates_for, candidates_of, literals_of}
use Rattle.ipa_repair.specs.Chosen.{IsTaken, IsPassedOver, Those, AreThose}
use Rattle.ipa_repair.specs.Offers.{Clears, alone, offer_of, two_with, two_at, twos_from, twos, IsClearing, ClearsAsTwo, AreOffersOf, AreOffers}
use Rattle.ipa_repair.specs.Greedy.{TakesOffer, IsStep, StepThen, Leads, Reaches, IsRepaired}
use Rattle.ipa_repair.specs.declared.candidates.Candidate.{Candidate}
use Rattle.ipa_repair.specs.declared.candidates.Candidate.TheVariants.{Adds, Flips}
use Rattle.ipa_repair.specs.declared.candidates.Offer.{Offer}
use Rattle.ipa_repair.specs.declared.steps.RepairStep.{RepairStep}
use Rattle.ipa_repair.specs.declared.steps.Repaired.{Repaired}
use Rattle.ipa_repair.specs.declared.steps.Repaired.TheVariants.{Done, Stuck}
use Rattle.ipa_report.specs.RepairTexts.{end_of}

module _ {X : Type 0} (P : X → Type 0) where
  all_joined : (xs ys : List X) → AllByRecursion P xs → AllByRecursion P ys → AllByRecursion P (xs ++ ys)
  all_joined [] ys h k = k
  all_joined (x ∷ xs) ys h k = (h.0, all_joined xs ys h.1 k)

  all_if : (b : Bool) (xs : List X) → (b ≡ true → AllByRecursion P xs) → AllByRecursion P (cond b xs [])
  all_if true xs h = h refl
  all_if false xs h = tt

  all_at : (xs : List X) (k : ℕ) (x : X) → AllByRecursion P xs → slice_get xs k ≡ Some x → P x
  all_at [] k x h e = cc
  all_at (y ∷ xs) zero x h e = subst P (same_Some y x e) h.0
  all_at (y ∷ xs) (suc k) x h e = all_at xs k x h.1 e

  all_flat : {Y : Type 0} (Q : Y → Type 0) (f : Y → List X) → ((y : Y) → Q y → AllByRecursion P (f y)) → (ys : List Y) → AllByRecursion Q ys → AllByRecursion P (flat_map f ys)
  all_flat Q f each [] h = tt
  all_flat Q f each (y ∷ ys) h = all_joined (f y) (flat_map f ys) (each y h.0) (all_flat Q f each ys h.1)

  every_flat : {Y : Type 0} (f : Y → List X) → ((y : Y) → AllByRecursion P (f y)) → (ys : List Y) → AllByRecursion P (flat_map f ys)
  every_flat f each [] = tt
  every_flat f each (y ∷ ys) = all_joined (f y) (flat_map f ys) (each y) (every_flat f each ys)

  those_all : (Q : X → Type 0) (xs ys : List X) → Those Q xs ys → AllByRecursion P xs → AllByRecursion P ys
  unfolding Those
  those_all Q [] ys e h = subst (AllByRecursion P) (sym e) tt
  those_all Q (x ∷ xs) ys (inl t) h = subst (AllByRecursion P) (sym t.is) (h.0, those_all Q xs t.others t.are h.1)
  those_all Q (x ∷ xs) ys (inr t) h = those_all Q xs ys t.are h.1

  those_hold : (xs ys : List X) → Those P xs ys → AllByRecursion P ys
  unfolding Those
  those_hold [] ys e = subst (AllByRecursion P) (sym e) tt
  those_hold (x ∷ xs) ys (inl t) = subst (AllByRecursion P) (sym t.is) (t.holds, those_hold xs t.others t.are)
  those_hold (x ∷ xs) ys (inr t) = those_hold xs ys t.are

-- an effect that operation n can be given so that it is printed as what it is
record IsSaidEffect (s : Specification) (n : ℕ) (e : Effect) : Type 0 where
  wide : length e.args ≡ 3
  named : (o : Operation) → slice_get s.operations n ≡ Some o → EffectIsSaid s (names_of o.params) e

abbrev IsSaidCandidate : Specification → Candidate → Type 0
IsSaidCandidate s (Adds n e) = IsSaidEffect s n e
IsSaidCandidate s (Flips n) = Unit {0}

module _ (s : Specification) where
  module _ (n : ℕ) (o : Operation) (at : slice_get s.operations n ≡ Some o) where
    abbrev ArgIsSaid : Arg → Type 0
    ArgIsSaid arg = (k : ℕ) → arg ≡ FixedArg k → IsSaidByName s (names_of o.params) k

    parameters_said : (sort : ℕ) → AllByRecursion ArgIsSaid (parameters_of o.params sort)
    parameters_said sort = every_flat ArgIsSaid (parameter_if o.params sort) (λ v. all_if ArgIsSaid (has_sort o.params sort v) (Parameter v ∷ []) (λ h. (λ k e. cc, tt))) (numbers (length o.params))

    seen : (sort k : ℕ) → can_be_named s o.params sort k ≡ true → IsSaidByName s (names_of o.params) k
    seen sort k can = record {
      each = λ c e.
          let both : ((c.sort == sort) && not (is_named_by o.params c)) ≡ true = sym (ap (λ found. option_map_or (λ x. (x.sort == sort) && not (is_named_by o.params x)) found false) e) ∙ can in
          any-map (λ other. same_name other c.name) (λ (v : Var). v.name) o.params ∙ open_to (c.sort == sort) (is_named_by o.params c) both;
    }
      where
        open_to : (a b : Bool) → (a && not b) ≡ true → b ≡ false
        open_to true false h = refl
        open_to true true h = sym h
        open_to false true h = sym h
        open_to false false h = refl

    constants_said : (sort : ℕ) → AllByRecursion ArgIsSaid (constants_for s o.params sort)
    constants_said sort = every_flat ArgIsSaid (constant_if s o.params sort) (λ k. all_if ArgIsSaid (can_be_named s o.params sort k) (FixedArg k ∷ []) (λ can. (λ j e. subst (IsSaidByName s (names_of o.params)) (ap fixed_number e) (seen sort k can), tt))) (numbers (length s.constants))
      where
        fixed_number : Arg → ℕ
        fixed_number (FixedArg k) = k
        fixed_number (Parameter v) = 0
        fixed_number Any = 0

    choices_said : (p : Predicate) (wild : Bool) (place : ℕ) → AllByRecursion ArgIsSaid (choices_at s o.params p wild place)
    choices_said p wild place = either (nat_lt place p.arity)
      where
        sort : ℕ
        sort = slice_index p.sorts place

        either : (b : Bool) → AllByRecursion ArgIsSaid (cond b (choices s o.params (slice_index p.sorts place) wild) (Any ∷ []))
        either true = all_joined ArgIsSaid (parameters_of o.params sort ++ constants_for s o.params sort) (wildcard_if wild)
            (all_joined ArgIsSaid (parameters_of o.params sort) (constants_for s o.params sort) (parameters_said sort) (constants_said sort))
            (all_if ArgIsSaid wild (Any ∷ []) (λ h. (λ k e. cc, tt)))
        either false = (λ k e. cc, tt)

    abbrev Said : Effect → Type 0
    Said e = IsSaidEffect s n e

    effect_said : (m : ℕ) (add : Bool) (x y z : Arg) → ArgIsSaid x → ArgIsSaid y → ArgIsSaid z → IsSaidEffect s n (effect_of m add x y z)
    effect_said m add x y z first second third = record {
      wide = refl;
      named = λ other e. subst (λ (q : Operation). EffectIsSaid s (names_of q.params) (effect_of m add x y z)) (same_Some o other (sym at ∙ e)) (record { places = places });
    }
      where
        places : (place k : ℕ) → slice_index_or (x ∷ y ∷ z ∷ []) place Any ≡ FixedArg k → IsSaidByName s (names_of o.params) k
        places zero k e = first k e
        places (suc zero) k e = second k e
        places (suc (suc zero)) k e = third k e
        places (suc (suc (suc place))) k e = cc

    all_effects : (m : ℕ) (add : Bool) (xs ys zs : List Arg) → AllByRecursion ArgIsSaid xs → AllByRecursion ArgIsSaid ys → AllByRecursion ArgIsSaid zs → AllByRecursion Said (effects_with m add xs ys zs)
    all_effects m add xs ys zs first second third =
        all_flat Said ArgIsSaid (effects_with_one m add ys zs) (λ x hx.
        all_flat Said ArgIsSaid (effects_with_two m add zs x) (λ y hy.
        all_flat Said ArgIsSaid (λ z. effect_of m add x y z ∷ []) (λ z hz. (effect_said m add x y z hx hy hz, tt)) zs third) ys second) xs first

    effects_on_said : (m : ℕ) (add : Bool) → AllByRecursion Said (effects_on s o.params m add)
    effects_on_said m add = step (slice_get s.predicates m)
      where
        step : (found : Option Predicate) → AllByRecursion Said (option_map_or (λ p. effects_with m add (choices_at s o.params p (not add) 0) (choices_at s o.params p (not add) 1) (choices_at s o.params p (not add) 2)) found [])
        step None = tt
        step (Some p) = all_effects m add (choices_at s o.params p (not add) 0) (choices_at s o.params p (not add) 1) (choices_at s o.params p (not add) 2)
            (choices_said p (not add) 0) (choices_said p (not add) 1) (choices_said p (not add) 2)

    making_said : (l : Literal) → AllByRecursion Said (effects_making s o.params l)
    making_said (Holds a) = effects_on_said a.predicate true
    making_said (Fails a) = effects_on_said a.predicate false
    making_said (Same v w) = tt
    making_said (Differ v w) = tt

    operation_said : (ls : List Literal) → AllByRecursion (IsSaidCandidate s) (operation_candidates s n ls o)
    operation_said ls = all_if (IsSaidCandidate s) (has_room o) (flat_map (effect_candidates s n o) ls) (λ room.
        every_flat (IsSaidCandidate s) (effect_candidates s n o) (λ l.
        all_flat (IsSaidCandidate s) Said (candidate_if n o) (λ e said. all_if (IsSaidCandidate s) (is_open_to o e) (Adds n e ∷ []) (λ h. (said, tt))) (effects_making s o.params l) (making_said l)) ls)

  action_said : (action : Action) (ls : List Literal) → AllByRecursion (IsSaidCandidate s) (candidates_of_action s action ls)
  action_said (Op n) ls = step (slice_get s.operations n) refl
    where
      step : (found : Option Operation) → slice_get s.operations n ≡ found → AllByRecursion (IsSaidCandidate s) (option_map_or (operation_candidates s n ls) found [])
      step None e = tt
      step (Some o) e = operation_said n o e ls
  action_said (Drop n) ls = tt

  flips_said : (l : Literal) → AllByRecursion (IsSaidCandidate s) (flip_of l)
  flips_said (Holds a) = (tt, tt)
  flips_said (Fails a) = (tt, tt)
  flips_said (Same v w) = tt
  flips_said (Differ v w) = tt

  once_said : (seen cs : List Candidate) → AllByRecursion (IsSaidCandidate s) seen → AllByRecursion (IsSaidCandidate s) cs → AllByRecursion (IsSaidCandidate s) (fold with_candidate seen cs)
  once_said seen [] h k = h
  once_said seen (c ∷ cs) h k = once_said (with_candidate seen c) cs (step (list_any (same_candidate c) seen)) k.1
    where
      step : (b : Bool) → AllByRecursion (IsSaidCandidate s) (cond b seen (seen ++ c ∷ []))
      step true = h
      step false = all_joined (IsSaidCandidate s) seen (c ∷ []) h (k.0, tt)

  other_said : (left right : Action) (ls : List Literal) → AllByRecursion (IsSaidCandidate s) (candidates_of_other s left right ls)
  other_said left right ls = step (same_action left right)
    where
      step : (b : Bool) → AllByRecursion (IsSaidCandidate s) (cond b [] (candidates_of_action s right ls))
      step true = tt
      step false = action_said right ls

  candidates_said : (left right : Action) (ks : List ℕ) → AllByRecursion (IsSaidCandidate s) (candidates_of s left right ks)
  candidates_said left right ks =
      let ls = literals_of s ks in
      once_said [] (candidates_for s left right ls) tt
      (all_joined (IsSaidCandidate s) (candidates_of_action s left ls ++ candidates_of_other s left right ls) (flat_map flip_of ls)
      (all_joined (IsSaidCandidate s) (candidates_of_action s left ls) (candidates_of_other s left right ls) (action_said left ls) (other_said left right ls))
      (every_flat (IsSaidCandidate s) flip_of flips_said ls))

  abbrev IsSaidOffer : Offer → Type 0
  IsSaidOffer o = AllByRecursion (IsSaidCandidate s) o.parts

  alone_said : (cs : List Candidate) → AllByRecursion (IsSaidCandidate s) cs → AllByRecursion IsSaidOffer (alone cs)
  alone_said [] h = tt
  alone_said (c ∷ cs) h = ((h.0, tt), alone_said cs h.1)

  twos_said : (cs : List Candidate) → AllByRecursion (IsSaidCandidate s) cs → AllByRecursion IsSaidOffer (twos cs)
  twos_said cs h = every_flat IsSaidOffer (twos_from cs) (λ j. every_flat IsSaidOffer (two_at cs j) (λ k.
      all_if IsSaidOffer (nat_lt j k) (option_map_or (two_with cs k) (slice_get cs j) []) (λ less. first j k (slice_get cs j) refl)) (numbers (length cs))) (numbers (length cs))
    where
      second : (c : Candidate) → IsSaidCandidate s c → (k : ℕ) (found : Option Candidate) → slice_get cs k ≡ found → AllByRecursion IsSaidOffer (option_map_or (λ d. offer_of (c ∷ d ∷ []) ∷ []) found [])
      second c said k None e = tt
      second c said k (Some d) e = ((said, (all_at (IsSaidCandidate s) cs k d h e, tt)), tt)

      first : (j k : ℕ) (found : Option Candidate) → slice_get cs j ≡ found → AllByRecursion IsSaidOffer (option_map_or (two_with cs k) found [])
      first j k None e = tt
      first j k (Some c) e = second c (all_at (IsSaidCandidate s) cs j c h e) k (slice_get cs k) refl

  -- an offer that is printed as what it is, and makes no fault
  record IsGoodOffer (o : Offer) : Type 0 where
    said : IsSaidOffer o
    faultless : IsFaultless (applied s o.parts)

  both_good : (os : List Offer) → AllByRecursion IsSaidOffer os → AllByRecursion (λ o. IsFaultless (applied s o.parts)) os → AllByRecursion IsGoodOffer os
  both_good [] h k = tt
  both_good (o ∷ os) h k = (record { said = h.0; faultless = k.0 }, both_good os h.1 k.1)

  weaker : {P Q : Offer → Type 0} → ((o : Offer) → P o → Q o) → (os : List Offer) → AllByRecursion P os → AllByRecursion Q os
  weaker more [] h = tt
  weaker more (o ∷ os) h = (more o h.0, weaker more os h.1)

  offers_good : (left right : Action) (os : List Offer) → AreOffers s left right os → AllByRecursion IsGoodOffer os
  offers_good left right os h =
      let cs = candidates_of s left right h.reported in
      let said = candidates_said left right h.reported in
      let ones = h.of.ones in
      let pairs = h.of.pairs in
      let ones_clear = those_hold (IsClearing s left right) (alone cs) ones h.of.are_ones.those in
      let pairs_clear = those_hold (ClearsAsTwo s left right) (twos cs) pairs h.of.are_pairs.those in
      subst (AllByRecursion IsGoodOffer) (sym h.of.in_order)
      (all_joined IsGoodOffer ones pairs
      (both_good ones (those_all IsSaidOffer (IsClearing s left right) (alone cs) ones h.of.are_ones.those (alone_said cs said)) (weaker (λ o clears. clears.faultless) ones ones_clear))
      (both_good pairs (those_all IsSaidOffer (ClearsAsTwo s left right) (twos cs) pairs h.of.are_pairs.those (twos_said cs said)) (weaker (λ o clears. clears.together.faultless) pairs pairs_clear)))

-- what is said by name depends on the constants alone
module _ (s t : Specification) (same : t.constants ≡ s.constants) (vars : List Name) where
  name_as : (k : ℕ) → IsSaidByName s vars k → IsSaidByName t vars k
  name_as k h = record { each = λ c e. h.each c (ap (λ cs. slice_get cs k) (sym same) ∙ e) }

  term_as : (x : Term) → TermIsSaid s vars x → TermIsSaid t vars x
  term_as (Variable v) h = tt
  term_as (Fixed k) h = name_as k h

  literal_as : (l : Literal) → LiteralIsSaid s vars l → LiteralIsSaid t vars l
  literal_as (Holds a) h = record { places = λ place. term_as (term_at a place) (h.places place) }
  literal_as (Fails a) h = record { places = λ place. term_as (term_at a place) (h.places place) }
  literal_as (Same v w) h = (term_as v h.0, term_as w h.1)
  literal_as (Differ v w) h = (term_as v h.0, term_as w h.1)

  effect_as : (e : Effect) → EffectIsSaid s vars e → EffectIsSaid t vars e
  effect_as e h = record { places = λ place k is. name_as k (h.places place k is) }

-- what is printed as it is, whether or not there is a fault
record IsSaid (s : Specification) : Type 0 where
  shaped : IsShaped s
  literals : HasLiterals s
  named : HidesNoConstant s

set_at : {X : Type 0} (xs : List X) (n : ℕ) (x : X) (k : ℕ) (y : X) → slice_get (slice_set xs n x) k ≡ Some y → ((k ≡ n) × (x ≡ y)) ⊎ (slice_get xs k ≡ Some y)
set_at [] n x k y e = cc
set_at (z ∷ xs) zero x zero y e = inl (refl, same_Some x y e)
set_at (z ∷ xs) zero x (suc k) y e = inr e
set_at (z ∷ xs) (suc n) x zero y e = inr e
set_at (z ∷ xs) (suc n) x (suc k) y e = elim (set_at xs n x k y e) [ inl h ↦ inl (ap suc h.0, h.1) | inr h ↦ inr h ]

-- an operation, and what it was before it was given an effect
record WasOperation (os : List Operation) (n : ℕ) (e : Effect) (k : ℕ) (o : Operation) : Type 0 where
  old : Operation
  there : slice_get os k ≡ Some old
  is : (o ≡ old) ⊎ ((k ≡ n) × (o ≡ record old { effects = old.effects ++ e ∷ [] }))

was_operation : (os : List Operation) (n : ℕ) (e : Effect) (k : ℕ) (o : Operation) → slice_get (with_effect os n e) k ≡ Some o → WasOperation os n e k o
was_operation os n e k o is = step (slice_get os n) refl is
  where
    step : (found : Option Operation) → slice_get os n ≡ found → slice_get (option_map_or (λ x. slice_set os n (record x { effects = x.effects ++ e ∷ [] })) found os) k ≡ Some o → WasOperation os n e k o
    step None at h = record { old = o; there = h; is = inl refl }
    step (Some x) at h = elim (set_at os n (record x { effects = x.effects ++ e ∷ [] }) k o h) [
      | inl new ↦ record { old = x; there = ap (slice_get os) new.0 ∙ at; is = inr (new.0, sym new.1) }
      | inr same ↦ record { old = o; there = same; is = inl refl }
    ]

-- a predicate, and what it was before a flip
record WasPredicate (ps : List Predicate) (k : ℕ) (p : Predicate) : Type 0 where
  old : Predicate
  there : slice_get ps k ≡ Some old
  sorts : p.sorts ≡ old.sorts

was_predicate : (ps : List Predicate) (n k : ℕ) (p : Predicate) → slice_get (with_flip ps n) k ≡ Some p → WasPredicate ps k p
was_predicate ps n k p is = step (slice_get ps n) refl is
  where
    step : (found : Option Predicate) → slice_get ps n ≡ found → slice_get (option_map_or (λ x. slice_set ps n (record x { rule = flipped x.rule })) found ps) k ≡ Some p → WasPredicate ps k p
    step None at h = record { old = p; there = h; sorts = refl }
    step (Some x) at h = elim (set_at ps n (record x { rule = flipped x.rule }) k p h) [
      | inl new ↦ record { old = x; there = ap (slice_get ps) new.0 ∙ at; sorts = ap (λ (q : Predicate). q.sorts) (sym new.1) }
      | inr same ↦ record { old = p; there = same; sorts = refl }
    ]

arity_set : (ps : List Predicate) (n m : ℕ) (x y : Predicate) → slice_get ps n ≡ Some x → y.arity ≡ x.arity → arity_of (slice_set ps n y) m ≡ arity_of ps m
arity_set [] n m x y e same = cc
arity_set (p ∷ ps) zero zero x y e same = same ∙ ap (λ (q : Predicate). q.arity) (sym (same_Some p x e))
arity_set (p ∷ ps) zero (suc m) x y e same = refl
arity_set (p ∷ ps) (suc n) zero x y e same = refl
arity_set (p ∷ ps) (suc n) (suc m) x y e same = arity_set ps n m x y e same

same_arity : (ps : List Predicate) (n m : ℕ) → arity_of (with_flip ps n) m ≡ arity_of ps m
same_arity ps n m = step (slice_get ps n) refl
  where
    step : (found : Option Predicate) → slice_get ps n ≡ found → arity_of (option_map_or (λ x. slice_set ps n (record x { rule = flipped x.rule })) found ps) m ≡ arity_of ps m
    step None at = refl
    step (Some x) at = arity_set ps n m x (record x { rule = flipped x.rule }) at refl

module _ (s : Specification) where
  -- the effects of an operation that was given one
  grown : (P : Effect → Type 0) (n : ℕ) (e : Effect) (k j : ℕ) (o : Operation) (x : Effect) → (was : WasOperation s.operations n e k o) → slice_get o.effects j ≡ Some x →
      (slice_get was.old.effects j ≡ Some x → P x) → (k ≡ n → P e) → P x
  grown P n e k j o x was is before new = elim was.is [
    | inl same ↦ before (sym (ap (λ (q : Operation). slice_get q.effects j) same) ∙ is)
    | inr more ↦ elim (at_push was.old.effects e j x (sym (ap (λ (q : Operation). slice_get q.effects j) more.1) ∙ is)) [
      | inl front ↦ before front.1
      | inr last ↦ subst P last.1 (new more.0)
    ]
  ]

  same_params : (n : ℕ) (e : Effect) (k : ℕ) (o : Operation) → (was : WasOperation s.operations n e k o) → was.old.params ≡ o.params
  same_params n e k o was = elim was.is [ inl same ↦ sym (ap (λ (q : Operation). q.params) same) | inr more ↦ sym (ap (λ (q : Operation). q.params) more.1) ]

  same_needs : (n : ℕ) (e : Effect) (k : ℕ) (o : Operation) → (was : WasOperation s.operations n e k o) → was.old.needs ≡ o.needs
  same_needs n e k o was = elim was.is [ inl same ↦ sym (ap (λ (q : Operation). q.needs) same) | inr more ↦ sym (ap (λ (q : Operation). q.needs) more.1) ]

  adding_said : (n : ℕ) (e : Effect) → IsSaid s → IsSaidEffect s n e → IsSaid (applied_one s (Adds n e))
  adding_said n e h said =
      let next = applied_one s (Adds n e) in
      record {
        shaped = record {
          predicates = h.shaped.predicates;
          literals = h.shaped.literals;
          needs = λ k j o l at is.
              let was = was_operation s.operations n e k o at in
              h.shaped.needs k j was.old l was.there (ap (λ ls. slice_get ls j) (same_needs n e k o was) ∙ is);
          effects = λ k j o x at is.
              let was = was_operation s.operations n e k o at in
              grown (λ (y : Effect). length y.args ≡ 3) n e k j o x was is (h.shaped.effects k j was.old x was.there) (λ same. said.wide);
          vars = h.shaped.vars;
          removes = h.shaped.removes;
        };
        literals = record { each = h.literals.each };
        named = record {
          literals = λ k j c l at is. literal_as s next refl (names_of c.vars) l (h.named.literals k j c l at is);
          needs = λ k j o l at is.
              let was = was_operation s.operations n e k o at in
              literal_as s next refl (names_of o.params) l
              (subst (λ vars. LiteralIsSaid s (names_of vars) l) (same_params n e k o was)
              (h.named.needs k j was.old l was.there (ap (λ ls. slice_get ls j) (same_needs n e k o was) ∙ is)));
          effects = λ k j o x at is.
              let was = was_operation s.operations n e k o at in
              effect_as s next refl (names_of o.params) x
              (subst (λ vars. EffectIsSaid s (names_of vars) x) (same_params n e k o was)
              (grown (EffectIsSaid s (names_of was.old.params)) n e k j o x was is (h.named.effects k j was.old x was.there)
              (λ same. said.named was.old (ap (slice_get s.operations) (sym same) ∙ was.there))));
          removes = λ k j b x at is. effect_as s next refl (bound_vars s.predicates b) x (h.named.removes k j b x at is);
        };
      }

  flipping_said : (n : ℕ) → IsSaid s → IsSaid (applied_one s (Flips n))
  flipping_said n h =
      let next = applied_one s (Flips n) in
      record {
        shaped = record {
          predicates = λ k p at.
              let was = was_predicate s.predicates n k p at in
              ap length was.sorts ∙ h.shaped.predicates k was.old was.there;
          literals = h.shaped.literals;
          needs = h.shaped.needs;
          effects = h.shaped.effects;
          vars = h.shaped.vars;
          removes = h.shaped.removes;
        };
        literals = record { each = h.literals.each };
        named = record {
          literals = λ k j c l at is. literal_as s next refl (names_of c.vars) l (h.named.literals k j c l at is);
          needs = λ k j o l at is. literal_as s next refl (names_of o.params) l (h.named.needs k j o l at is);
          effects = λ k j o x at is. effect_as s next refl (names_of o.params) x (h.named.effects k j o x at is);
          removes = λ k j b x at is.
              effect_as s next refl (take (arity_of (with_flip s.predicates n) b.predicate) b.vars) x
              (subst (λ arity. EffectIsSaid s (take arity b.vars) x) (sym (same_arity s.predicates n b.predicate)) (h.named.removes k j b x at is));
        };
      }

  one_said : (c : Candidate) → IsSaid s → IsSaidCandidate s c → IsSaid (applied_one s c)
  one_said (Adds n e) h said = adding_said n e h said
  one_said (Flips n) h said = flipping_said n h

  -- a candidate stays one that is printed as what it is
  still_said : (c d : Candidate) → IsSaidCandidate s d → IsSaidCandidate (applied_one s c) d
  still_said (Adds n e) (Adds m f) said = record {
    wide = said.wide;
    named = λ o at.
        let was = was_operation s.operations n e m o at in
        effect_as s (applied_one s (Adds n e)) refl (names_of o.params) f
        (subst (λ vars. EffectIsSaid s (names_of vars) f) (same_params n e m o was) (said.named was.old was.there));
  }
  still_said (Adds n e) (Flips m) said = tt
  still_said (Flips n) (Adds m f) said = record { wide = said.wide; named = λ o at. effect_as s (applied_one s (Flips n)) refl (names_of o.params) f (said.named o at) }
  still_said (Flips n) (Flips m) said = tt

all_still : (s : Specification) (c : Candidate) (cs : List Candidate) → AllByRecursion (IsSaidCandidate s) cs → AllByRecursion (IsSaidCandidate (applied_one s c)) cs
all_still s c [] h = tt
all_still s c (d ∷ cs) h = (still_said s c d h.0, all_still s c cs h.1)

applied_said : (s : Specification) (cs : List Candidate) → IsSaid s → AllByRecursion (IsSaidCandidate s) cs → IsSaid (applied s cs)
applied_said s [] h said = h
applied_said s (c ∷ cs) h said = applied_said (applied_one s c) cs (one_said s c h said.0) (all_still s c cs said.1)

step_printable : (s next : Specification) (step : RepairStep) → IsPrintable s → TakesOffer s step next → IsPrintable next
step_printable s next step h takes =
    let good = all_at (IsGoodOffer s) step.offers takes.earlier takes.offer (offers_good s step.left step.right step.offers takes.are) takes.there in
    let said = applied_said s takes.offer.parts (record { shaped = h.shaped; literals = h.literals; named = h.named }) good.said in
    subst IsPrintable (sym takes.leads) (record { faultless = good.faultless; shaped = said.shaped; literals = said.literals; named = said.named })

steps_printable : (steps : List RepairStep) (end s : Specification) → IsPrintable s → Leads steps end s → IsPrintable end
unfolding Leads
steps_printable [] end s h same = subst IsPrintable same h
steps_printable (step ∷ steps) end s h then = steps_printable steps end then.next (step_printable s then.next step h then.step_is.takes) then.onwards

pub repaired_printable : (s : Specification) (repaired : Repaired) → IsPrintable s → IsRepaired s repaired → IsPrintable (end_of repaired)
repaired_printable s (Done accepted steps) h is = steps_printable steps accepted s h is.reached.leads
repaired_printable s (Stuck end steps analysis) h is = steps_printable steps end s h is.reached.leads
