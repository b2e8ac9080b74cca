-- The facts that are true among those that can be.
use Rattle.std.proofs.Common.{◌≡◌, ℕ, ◌+◌, ◌<◌, ◌≤◌, Bool, true, false, not, ◌&&◌, ◌||◌, List, [], ◌∷◌, length, get_or, take, refl, sym, ◌∙◌, ap, inl, inr}
use Rattle.std.proofs.Math.Bool.{or_self}
use Rattle.std.proofs.lemmas.Bool.{and_from, or_left, or_right, and_parts}
use Rattle.std.proofs.lemmas.List.{take_more, take_all}
use Rattle.std.specs.List.{list_any}
use Rattle.std.specs.Ordering.{is_eq}
use Rattle.ipa_clock.specs.declared.cut.Cut.{Cut}
use Rattle.ipa_clock.specs.Cut.{is_covered}
use Rattle.ipa_spec.specs.declared.specification.Specification.{Specification}
use Rattle.ipa_logic.specs.Facts.{has, fact_cmp, IsRising, IsStateOf}
use Rattle.ipa_logic.specs.FactLaws.{asked-same, same-turned, has-append}
use Rattle.ipa_logic.specs.Touches.{has_rule, is_add_wins}
use Rattle.ipa_logic.specs.declared.facts.Fact.{Fact}
use Rattle.ipa_history.specs.Histories.{is_before, IsHistory, members_of}
use Rattle.ipa_history.specs.Values.{adds_fact, removes_fact, value_of}
use Rattle.ipa_history.specs.MemberLaws.{any_from, filter_member, same_bool}
use Rattle.ipa_history.specs.EffectLaws.{Order, true_from}
use Rattle.ipa_history.specs.HistoryLaws.{Order-part}
use Rattle.ipa_history.specs.declared.history.Tx.{Tx}

with_true : (b old : Bool) → (b || old) ≡ ((b && true) || old)
with_true true old = refl
with_true false old = refl

with_false : (b old : Bool) → old ≡ ((b && false) || old)
with_false true old = refl
with_false false old = refl

-- a fact is put in where the test passes it, and else nothing changes
pub put-true : (test : Fact → Bool) (x f : Fact) (old : Bool) → test x ≡ true →
    (is_eq (fact_cmp x f) || old) ≡ ((is_eq (fact_cmp x f) && test f) || old)
put-true test x f old h = with_true (is_eq (fact_cmp x f)) old
    ∙ ap (λ (b : Bool). b || old) (sym (asked-same test x f ∙ ap (λ (b : Bool). is_eq (fact_cmp x f) && b) h))

pub put-false : (test : Fact → Bool) (x f : Fact) (old : Bool) → test x ≡ false →
    old ≡ ((is_eq (fact_cmp x f) && test f) || old)
put-false test x f old h = with_false (is_eq (fact_cmp x f)) old
    ∙ ap (λ (b : Bool). b || old) (sym (asked-same test x f ∙ ap (λ (b : Bool). is_eq (fact_cmp x f) && b) h))

-- one more of the facts that can be true
more-parts : (this seen t : Bool) → ((this && t) || (seen && t)) ≡ ((seen || (this || false)) && t)
more-parts true true t = or_self t
more-parts true false true = refl
more-parts true false false = refl
more-parts false true t = refl
more-parts false false t = refl

pub put-more : (test : Fact → Bool) (facts : List Fact) (i : ℕ) (d f : Fact) (now old : Bool) → i < length facts
    → now ≡ ((is_eq (fact_cmp (get_or facts i d) f) && test f) || old) → old ≡ (has (take i facts) f && test f)
    → now ≡ (has (take (i + 1) facts) f && test f)
put-more test facts i d f now old l n o =
    let x = get_or facts i d in
    n ∙ (ap (λ (b : Bool). (is_eq (fact_cmp x f) && test f) || b) o
    ∙ (more-parts (is_eq (fact_cmp x f)) (has (take i facts) f) (test f)
    ∙ ap (λ (b : Bool). b && test f) (ap (λ (b : Bool). has (take i facts) f || (b || false)) (same-turned x f)
    ∙ (sym (has-append (take i facts) (x ∷ []) f) ∙ ap (λ (s : List Fact). has s f) (sym (take_more facts i d l))))))

-- a fact that is true can be
can_be : (s : Specification) (base : List Fact) (ms : List Tx) (f : Fact) → Order is_before ms →
    value_of s base ms f ≡ true
    → (list_any (adds_fact s f) ms || has base f) ≡ true
can_be s base ms f order h =
    elim (true_from is_before (adds_fact s f) (removes_fact s f) (has base f)
    (has_rule is_add_wins s f.predicate) ms order h) [
      | inl b ↦ or_right (list_any (adds_fact s f) ms) (has base f) b
      | inr a ↦ or_left (list_any (adds_fact s f) ms) (has base f) (any_from (adds_fact s f) ms a.one a.member a.passes)
    ]

-- all of them make the state
pub IsStateOf-from_candidates : (s : Specification) (base : List Fact) (ms : List Tx) (all facts state : List Fact)
    (n : ℕ) → Order is_before ms
    → ((f : Fact) → has all f ≡ (list_any (adds_fact s f) ms || has base f)) → facts ≡ all → length facts ≤ n
    → ((f : Fact) → has state f ≡ (has (take n facts) f && value_of s base ms f)) → IsRising state →
    IsStateOf (value_of s base ms) state
IsStateOf-from_candidates s base ms all facts state n order can e full h rising = record {
  rising = rising;
  facts = λ f. h f ∙ same_bool (has (take n facts) f && value_of s base ms f) (value_of s base ms f)
      (λ b. let parts = and_parts (has (take n facts) f) (value_of s base ms f) b in parts.1)
      (λ v. and_from (has (take n facts) f) (value_of s base ms f)
      (ap (λ (xs : List Fact). has xs f) (take_all n facts full ∙ e) ∙ (can f ∙ can_be s base ms f order v)) v);
}

-- the members of a cut are in order
pub Order-members : (h : List Tx) (c : Cut) → IsHistory h → Order is_before (members_of h c)
Order-members h c is = Order-part h is (members_of h c) (λ u m. let k = filter_member
    (λ (t : Tx). is_covered c t.dot) h u m in k.member)

-- one more of the facts that are put in
more-all : (this seen base : Bool) → (this || (seen || base)) ≡ ((seen || (this || false)) || base)
more-all true true base = refl
more-all true false base = refl
more-all false true base = refl
more-all false false base = refl

pub put-all : (facts : List Fact) (i : ℕ) (d f : Fact) (now old base : Bool) → i < length facts →
    now ≡ (is_eq (fact_cmp (get_or facts i d) f) || old) → old ≡ (has (take i facts) f || base) →
    now ≡ (has (take (i + 1) facts) f || base)
put-all facts i d f now old base l n o =
    let x = get_or facts i d in
    n ∙ (ap (λ (b : Bool). is_eq (fact_cmp x f) || b) o
    ∙ (more-all (is_eq (fact_cmp x f)) (has (take i facts) f) base
    ∙ ap (λ (b : Bool). b || base) (ap (λ (b : Bool). has (take i facts) f || (b || false)) (same-turned x f)
    ∙ (sym (has-append (take i facts) (x ∷ []) f) ∙ ap (λ (s : List Fact). has s f) (sym (take_more facts i d l))))))

-- what is added where nothing is true before
pub adds-empty : (a r : Bool) → (a || (false && not r)) ≡ a
adds-empty true r = refl
adds-empty false r = refl
