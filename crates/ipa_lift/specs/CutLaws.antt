-- Laws of the values at cuts.
--
--   value-same               lists with the same members give each fact the same value
--   apart                    no transaction adds and removes one fact
--   Agree one two c          two histories have the same transactions in a cut
--   value_at-agree, age_at-agree   there they give each fact the same value and the same age
--   IsDropAt-agree           and the cut the same due drops
--   IsLegal-agree, IsIllegal-agree   and a transaction at that cut the same legality, and the same first reason
--   top_is_plain             the state after it is its plain application to the state at its cut
use Rattle.std.proofs.Common.{◌≡◌, ℕ, true, not, List, [], ◌∷◌, ◌++◌, ◌∙◌, sym, subst, inl, inr}
use Rattle.std.proofs.lemmas.Bool.{and_parts, not-true, both_ways}
use Rattle.ipa_clock.specs.declared.cut.Cut.{Cut}
use Rattle.ipa_clock.specs.Cut.{is_covered, Covers}
use Rattle.ipa_spec.specs.Actions.{effects_of}
use Rattle.ipa_spec.specs.declared.specification.Specification.{Specification}
use Rattle.ipa_spec.specs.declared.operations.Action.{Action}
use Rattle.ipa_spec.specs.declared.operations.Action.TheVariants.{Op, Drop}
use Rattle.ipa_logic.specs.Facts.{Universe, IsStateOf, has}
use Rattle.ipa_logic.specs.Touches.{some_takes, has_rule, is_add_wins, plain_application}
use Rattle.ipa_logic.specs.DueDrops.{IsDueDrop}
use Rattle.ipa_logic.specs.Acceptance.{drop_fact}
use Rattle.ipa_logic.specs.declared.facts.Age.{Age}
use Rattle.ipa_logic.specs.declared.facts.Fact.{Fact}
use Rattle.ipa_history.specs.Histories.{IsMember, is_before, members_of}
use Rattle.ipa_history.specs.Values.{adds_fact, removes_fact, value_of, value_at}
use Rattle.ipa_history.specs.Ages.{age_of, age_at, IsDropAt}
use Rattle.ipa_history.specs.AgeLaws.{age_of-same}
use Rattle.ipa_history.specs.Legality.{IsDropOf, IsLegalAs, IsReasonAs, IsLegal, IsIllegal}
use Rattle.ipa_history.specs.MemberLaws.{member-filter, filter_member, member-append_left, member-append_right, member-append_cases}
use Rattle.ipa_history.specs.EffectLaws as effects
use Rattle.ipa_history.specs.EffectLaws.{IsMore}
use Rattle.ipa_history.specs.HistoryLaws.{covered_covers}
use Rattle.ipa_history.specs.NextLaws.{IsNext, IsMore-push, not_above}
use Rattle.ipa_history.specs.declared.history.Tx.{Tx}
use Rattle.ipa_history.specs.declared.reasons.Reason.{Reason}
use Rattle.ipa_history.specs.declared.reasons.Reason.TheVariants.{NotWithin, Need, Clause as Breaks, Over, NotTheDrop}

module _ (s : Specification) (base : List Fact) (f : Fact) where
  -- lists with the same members give the fact the same value
  pub value-same : (xs ys : List Tx) → ((u : Tx) → IsMember xs u → IsMember ys u) →
      ((u : Tx) → IsMember ys u → IsMember xs u) → value_of s base xs f ≡ value_of s base ys f
  value-same xs ys there back =
      effects.value-same is_before (adds_fact s f) (removes_fact s f) (has base f) (has_rule is_add_wins s f.predicate)
      xs ys there back

  -- no transaction adds and removes one fact
  pub apart : (t : Tx) → adds_fact s f t ≡ true → removes_fact s f t ≡ true → ⊥
  apart t h g =
      let parts = and_parts (some_takes s (effects_of s t.action) t.args f) (not (adds_fact s f t)) g in
      both_ways (adds_fact s f t) (not-true (adds_fact s f t) parts.1) h

-- two histories have the same transactions in the cut
pub record Agree (one two : List Tx) (c : Cut) : Type 0 where
  pub there : (t : Tx) → Covers c t.dot → IsMember one t → IsMember two t
  pub back : (t : Tx) → Covers c t.dot → IsMember two t → IsMember one t

-- and the other way round
pub Agree-turned : (one two : List Tx) (c : Cut) → Agree one two c → Agree two one c
Agree-turned one two c same = record { there = same.back; back = same.there }

members-agree : (one two : List Tx) (c : Cut) → ((t : Tx) → Covers c t.dot → IsMember one t → IsMember two t) →
    (u : Tx) → IsMember (members_of one c) u → IsMember (members_of two c) u
members-agree one two c there u m =
    let k = filter_member (λ (t : Tx). is_covered c t.dot) one u m in
    member-filter (λ (t : Tx). is_covered c t.dot) two u (there u (covered_covers c u.dot k.passes) k.member) k.passes

-- there they give each fact the same value
pub value_at-agree : (s : Specification) (base : List Fact) (one two : List Tx) (c : Cut) (f : Fact) →
    Agree one two c → value_at s base one c f ≡ value_at s base two c f
value_at-agree s base one two c f same =
    value-same s base f (members_of one c) (members_of two c)
    (members-agree one two c same.there) (members-agree two one c same.back)

-- and the same age
pub age_at-agree : (s : Specification) (one two : List Tx) (c : Cut) (f : Fact) → Agree one two c →
    age_at s one c f ≡ age_at s two c f
age_at-agree s one two c f same =
    age_of-same s f (members_of one c) (members_of two c)
    (members-agree one two c same.there) (members-agree two one c same.back)

-- all ages at once
ages-agree : (s : Specification) (one two : List Tx) (c : Cut) → Agree one two c →
    age_of s (members_of one c) ≡ age_of s (members_of two c)
ages-agree s one two c same = λ i f. age_at-agree s one two c f same i

-- lists with the same members, and one more
more-same : (xs ys : List Tx) (t : Tx) → ((u : Tx) → IsMember xs u → IsMember ys u) →
    (u : Tx) → IsMember (xs ++ t ∷ []) u → IsMember (ys ++ t ∷ []) u
more-same xs ys t there u m = elim (member-append_cases xs (t ∷ []) u m) [
  | inl a ↦ member-append_left ys (t ∷ []) u (there u a)
  | inr b ↦ member-append_right ys (t ∷ []) u b
]

-- a state at that cut, and with a transaction added there, is one in both
before-agree : (s : Specification) (base : List Fact) (one two : List Tx) (c : Cut) (state : List Fact) →
    Agree one two c → IsStateOf (value_of s base (members_of one c)) state →
    IsStateOf (value_of s base (members_of two c)) state
before-agree s base one two c state same is = record {
  rising = is.rising;
  facts = λ f. is.facts f ∙ value_at-agree s base one two c f same;
}

after-agree : (s : Specification) (base : List Fact) (one two : List Tx) (t : Tx) (state : List Fact) →
    Agree one two t.cut → IsStateOf (value_of s base (members_of one t.cut ++ t ∷ [])) state →
    IsStateOf (value_of s base (members_of two t.cut ++ t ∷ [])) state
after-agree s base one two t state same is = record {
  rising = is.rising;
  facts = λ f. is.facts f ∙ value-same s base f (members_of one t.cut ++ t ∷ []) (members_of two t.cut ++ t ∷ [])
      (more-same (members_of one t.cut) (members_of two t.cut) t (members-agree one two t.cut same.there))
      (more-same (members_of two t.cut) (members_of one t.cut) t (members-agree two one t.cut same.back));
}

-- the cut has the same due drops in both
pub IsDropAt-agree : (s : Specification) (base : List Fact) (one two : List Tx) (c : Cut) (n : ℕ) (f : Fact) →
    Agree one two c → IsDropAt s base one c n f → IsDropAt s base two c n f
IsDropAt-agree s base one two c n f same is = record {
  state = is.state;
  at = before-agree s base one two c is.state same is.at;
  due = subst (λ (ages : Fact → Age). IsDueDrop s.bounds is.state ages n f) (ages-agree s one two c same) is.due;
}

-- members that give each fact the same age have the same due drops, the same legal drops and the same reasons
module _ (s : Specification) (universe : Universe) (t : Tx) (before after : List Fact) where
  drop-agree : (n : ℕ) (xs ys : List Tx) → age_of s xs ≡ age_of s ys → IsDropOf s n xs t before →
      IsDropOf s n ys t before
  drop-agree n xs ys ages d = record {
    bound = d.bound;
    declared = d.declared;
    due = subst (λ (a : Fact → Age). IsDueDrop s.bounds before a n (drop_fact s d.bound t.args)) ages d.due;
  }

  legal-agree : (action : Action) (xs ys : List Tx) → age_of s xs ≡ age_of s ys →
      IsLegalAs action s universe xs t before after → IsLegalAs action s universe ys t before after
  legal-agree (Op n) xs ys ages l = l
  legal-agree (Drop n) xs ys ages l = record { due = drop-agree n xs ys ages l.due; keeps = l.keeps }

  reason-agree : (action : Action) (xs ys : List Tx) (r : Reason) → age_of s xs ≡ age_of s ys →
      IsReasonAs action s universe xs t before after r → IsReasonAs action s universe ys t before after r
  reason-agree (Op n) xs ys r ages l = l
  reason-agree (Drop n) xs ys (NotWithin m) ages l = l
  reason-agree (Drop n) xs ys (Need m) ages l = l
  reason-agree (Drop n) xs ys (Breaks b) ages l = record { due = drop-agree n xs ys ages l.due; first = l.first }
  reason-agree (Drop n) xs ys (Over m) ages l = l
  reason-agree (Drop n) xs ys NotTheDrop ages l = λ d. l (drop-agree n ys xs (sym ages) d)

-- a transaction at that cut has the same legality in both, and the same first reason
pub IsLegal-agree : (s : Specification) (universe : Universe) (base : List Fact) (one two : List Tx) (t : Tx) →
    Agree one two t.cut → IsLegal s universe base one t → IsLegal s universe base two t
IsLegal-agree s universe base one two t same is = record {
  before = is.before;
  after = is.after;
  state_before = before-agree s base one two t.cut is.before same is.state_before;
  state_after = after-agree s base one two t is.after same is.state_after;
  legal = legal-agree s universe t is.before is.after t.action (members_of one t.cut) (members_of two t.cut)
      (ages-agree s one two t.cut same) is.legal;
}

pub IsIllegal-agree : (s : Specification) (universe : Universe) (base : List Fact) (one two : List Tx) (t : Tx)
    (r : Reason) → Agree one two t.cut → IsIllegal s universe base one t r → IsIllegal s universe base two t r
IsIllegal-agree s universe base one two t r same is = record {
  before = is.before;
  after = is.after;
  state_before = before-agree s base one two t.cut is.before same is.state_before;
  state_after = after-agree s base one two t is.after same is.state_after;
  reason = reason-agree s universe t is.before is.after t.action (members_of one t.cut) (members_of two t.cut) r
      (ages-agree s one two t.cut same) is.reason;
}

-- the state after a transaction is its plain application to the state at its cut
pub top_is_plain : (s : Specification) (base : List Fact) (h : List Tx) (t : Tx) → IsNext h t → (f : Fact) →
    value_of s base (members_of h t.cut ++ t ∷ []) f ≡ plain_application s t.action t.args (value_at s base h t.cut) f
top_is_plain s base h t is f =
    effects.value-plain is_before (adds_fact s f) (removes_fact s f) (has base f) (has_rule is_add_wins s f.predicate)
    (apart s base f) (members_of h t.cut) (members_of h t.cut ++ t ∷ []) t (IsMore-push (members_of h t.cut) t)
    (λ u m. let k = filter_member (λ (v : Tx). is_covered t.cut v.dot) h u m in k.passes)
    (not_above h t is)
