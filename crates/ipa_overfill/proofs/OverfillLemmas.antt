-- Bounds that an action overfills, by its effects and bound by bound.
--
--   overfills_from, spares_from   what one of its effects overfills the action does, and what none does it spares
--   NoneBelow                     the effects before this place overfill nothing
--   none_start, none_next, none_end   from the first on; all of them
--   some_here                     the one at this place does
--   judged_by, judged_at          what is known of its effects is known of the action, and of the bound of a number
--   own_of                        the effects of an operation
--   drop_spares                   a drop overfills no bound
--   AreSparedBelow                the bounds before this number are spared
--   below_none, below_next, below_all        from the first on; all of them
--   first_from                    the first that is overfilled
--   spares_is                     the action spares all where there is no first one
use Rattle.std.proofs.Common.{◌≡◌, ◌↔◌, ℕ, ◌+◌, ◌<◌, ◌≤◌, Bool, true, false, not, List, [], length, slice_get, get_or, Option, None, Some, IsTrue, refl, sym, ◌∙◌, ap, subst, arith, inl, inr}
use Rattle.std.specs.Bool.{MatchBool}
use Rattle.std.specs.Option.{MatchOption, is_some, option_map_or}
use Rattle.std.specs.Ordering.{is_eq}
use Rattle.std.proofs.lemmas.Bool.{cases_lt, and_from, and_parts, both_ways, not-true, not-false, false≢true}
use Rattle.std.proofs.lemmas.Option.{slice_get_within, slice_get-get_or}
use Rattle.ipa_spec.specs.Actions.{effects_of, drop_effects}
use Rattle.ipa_spec.specs.Fits.{IsFit}
use Rattle.ipa_spec.specs.declared.specification.Specification.{Specification}
use Rattle.ipa_spec.specs.declared.bounds.Bound.{Bound}
use Rattle.ipa_spec.specs.declared.operations.Action.{Action}
use Rattle.ipa_spec.specs.declared.operations.Action.TheVariants.{Op, Drop}
use Rattle.ipa_spec.specs.declared.operations.Operation.{Operation}
use Rattle.ipa_spec.specs.declared.operations.Effect.{Effect}
use Rattle.ipa_logic.specs.DropLaws.{drop_adds_nothing}
use Rattle.ipa_logic.specs.Facts.{fact_cmp}
use Rattle.ipa_logic.specs.FactLaws.{same_fact, fact_itself}
use Rattle.ipa_logic.specs.Groups.{key_of, group_of}
use Rattle.ipa_logic.specs.Touches.{adds, gives, some_gives, fact_given}
use Rattle.ipa_logic.specs.declared.facts.Fact.{Fact}
use Rattle.ipa_history.specs.MemberLaws.{found, any_from}
use Rattle.ipa_overfill.specs.Overfills.{SparesBound, Spares, Overfills, IsFirstOverfilled, OverfillsAt, SparesAt, OverfillsBy, SomeOverfills, EachSpares}

module _ (s : Specification) (args : List ℕ) (b : Bound) (state : List Fact) (effects : List Effect) where
  -- the effects before this place overfill nothing
  pub record NoneBelow (n : ℕ) : Type 0 where
    pub each : (k : ℕ) (e : Effect) → k < n → slice_get effects k ≡ Some e → OverfillsBy s args b state e → ⊥

  pub none_start : NoneBelow 0
  none_start = record { each = λ k e l at over. omega (arith, l) }

  pub none_next : (n : ℕ) (d : Effect) → n < length effects → NoneBelow n →
      (OverfillsBy s args b state (get_or effects n d) → ⊥) → NoneBelow (n + 1)
  none_next n d inside below here = record {
    each = λ k e l at over. elim (cases_lt k n) [
      | inl less ↦ below.each k e less at over
      | inr more ↦
          let same : k ≡ n = omega (arith, l, more) in
          let both : Some (get_or effects n d) ≡ Some e = sym (slice_get-get_or effects n d inside)
          ∙ (ap (slice_get effects) (sym same) ∙ at) in
          let equal : e ≡ get_or effects n d = cc in
          here (subst (λ (x : Effect). OverfillsBy s args b state x) equal over)
    ];
  }

  pub none_end : (n : ℕ) → length effects ≤ n → NoneBelow n →
      EachSpares s args b state effects
  none_end n past below = record {
    each = λ e m over.
        let inside = slice_get_within effects m.place e m.at in
        below.each m.place e (omega (arith, inside, past)) m.at over;
  }

  pub some_here : (n : ℕ) (d : Effect) → n < length effects →
      OverfillsBy s args b state (get_or effects n d) → SomeOverfills s args b state effects
  some_here n d inside over = record {
    effect = get_or effects n d;
    member = record { place = n; at = slice_get-get_or effects n d inside };
    overfills = over;
  }

module _ (s : Specification) (action : Action) (args : List ℕ) (state : List Fact) where
  module _ (b : Bound) (effects : List Effect) (own : effects_of s action ≡ effects) where
    -- what one of its effects overfills the action does
    pub overfills_from : SomeOverfills s args b state effects → Overfills s action args b state
    overfills_from some =
        let fact = fact_given s args some.effect in
        record {
          fact = fact;
          added = ap (λ (es : List Effect). some_gives s es args fact) own
              ∙ any_from (gives s args fact) effects some.effect some.member
              (and_from some.effect.add (is_eq (fact_cmp fact fact)) some.overfills.add (fact_itself fact));
          counted = some.overfills.counted;
          over = some.overfills.over;
        }

    -- what none of them overfills the action spares
    pub spares_from : EachSpares s args b state effects → SparesBound s action args b state
    spares_from none = record {
      each = λ f added counted.
          let one = found (gives s args f) effects (sym (ap (λ (es : List Effect). some_gives s es args f) own) ∙ added) in
          let parts = and_parts one.one.add (is_eq (fact_cmp (fact_given s args one.one) f)) one.passes in
          let same : fact_given s args one.one ≡ f = same_fact (fact_given s args one.one) f parts.1 in
          let of : one.one.predicate ≡ b.predicate = ap (λ (g : Fact). g.predicate) same ∙ counted in
          subst (λ (g : Fact). length (group_of b (key_of b g) state) ≤ b.most) same
          (elim (cases_lt b.most (length (group_of b (key_of b (fact_given s args one.one)) state))) [
            | inl over ↦ absurd (none.each one.one one.member (record { add = parts.0; counted = of; over = over }))
            | inr few ↦ few
          ]);
    }

    -- so what is known of the effects is known of the action
    pub judged_by : (r : Bool) → MatchBool r (SomeOverfills s args b state effects) (EachSpares s args b state effects) →
        MatchBool r (Overfills s action args b state) (SparesBound s action args b state)
    judged_by true some = overfills_from some
    judged_by false none = spares_from none

  -- the bound of this number, if there is one
  pub judged_at : (n : ℕ) (b : Bound) → Some b ≡ slice_get s.bounds n → (r : Bool) →
      MatchBool r (Overfills s action args b state) (SparesBound s action args b state) →
      MatchBool r (OverfillsAt s action args state n) (SparesAt s action args state n)
  judged_at n b at true over = record { bound = b; declared = sym at; overfills = over }
  judged_at n b at false spares = record {
    spares = λ d e.
        let both : Some b ≡ Some d = at ∙ e in
        let same : b ≡ d = cc in
        subst (λ (x : Bound). SparesBound s action args x state) same spares;
  }

  -- the effects of an operation
  pub own_of : (n : ℕ) (o : Operation) → action ≡ Op n → Some o ≡ slice_get s.operations n →
      effects_of s action ≡ o.effects
  own_of n o is at =
      ap (effects_of s) is ∙ ap (λ (x : Option Operation). option_map_or (λ (q : Operation). q.effects) x []) (sym at)

  -- a drop overfills no bound
  pub drop_spares : IsFit s → (n : ℕ) → action ≡ Drop n → (b : Bound) → SparesBound s action args b state
  drop_spares fit n is b = record {
    each = λ f added counted. absurd (by_bound f (slice_get s.bounds n) refl
        (ap (λ (a : Action). adds s a args f) (sym is) ∙ added));
  }
    where
      by_bound : (f : Fact) (o : Option Bound) → slice_get s.bounds n ≡ o → adds s (Drop n) args f ≡ true → ⊥
      by_bound f None e added = false≢true (sym (ap (λ (x : Option Bound).
          some_gives s (option_map_or (drop_effects s.predicates) x []) args f) e) ∙ added)
      by_bound f (Some d) e added = false≢true (sym (drop_adds_nothing s fit n d e args f) ∙ added)

  -- the bounds before this number are spared
  pub record AreSparedBelow (n : ℕ) : Type 0 where
    pub each : (m : ℕ) (b : Bound) → m < n → slice_get s.bounds m ≡ Some b → SparesBound s action args b state

  pub below_none : AreSparedBelow 0
  below_none = record { each = λ m b l e. absurd (omega (arith, l)) }

  pub below_next : (n : ℕ) → AreSparedBelow n → SparesAt s action args state n → AreSparedBelow (n + 1)
  below_next n below here = record {
    each = λ m b l e. elim (cases_lt m n) [
      | inl less ↦ below.each m b less e
      | inr more ↦
          let same : m ≡ n = omega (arith, l, more) in
          here.spares b (ap (slice_get s.bounds) (sym same) ∙ e)
    ];
  }

  -- all of them are
  pub below_all : (n : ℕ) → length s.bounds ≤ n → AreSparedBelow n → Spares s action args state
  below_all n all below = record {
    bounds = λ m b e.
        let inside = slice_get_within s.bounds m b e in
        below.each m b (omega (arith, inside, all)) e;
  }

  -- the first that is overfilled
  pub first_from : (n : ℕ) → AreSparedBelow n → OverfillsAt s action args state n →
      IsFirstOverfilled s action args state n
  first_from n below here = record {
    bound = here.bound;
    declared = here.declared;
    overfills = here.overfills;
    earlier = below.each;
  }

  -- the action spares all where there is no first one
  pub spares_is : (r : Bool) (first : Option ℕ) → is_some first ≡ not r →
      MatchOption first (Spares s action args state) (IsFirstOverfilled s action args state) →
      IsTrue r ↔ Spares s action args state
  spares_is r None e h = (λ t. h, λ spares. not-false r (sym e))
  spares_is r (Some n) e h = (
    λ t. absurd (both_ways r (not-true r (sym e)) t),
    λ spares. absurd (
        let few = (spares.bounds n h.bound h.declared).each h.overfills.fact h.overfills.added h.overfills.counted in
        let many = h.overfills.over in
        omega (arith, few, many)),
  )
