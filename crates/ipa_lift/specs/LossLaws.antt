-- Where a literal is lost: it is true just after t, and false where all of a closed part of the history are known.
--
--   Loser           a last member, not t, that does not make the literal true, and after which it is false where
--                   it loses;
--                   some effect in the history can make such a literal false
--   loser           there is one
use Rattle.std.proofs.Common.{◌≡◌, ℕ, Bool, true, false, not, List, refl, sym, ◌∙◌, ap, subst, inl, inr}
use Rattle.std.proofs.lemmas.Bool.{not-true, not-false, both_ways, or_left, or_right, or_cases, false_from_ne_true}
use Rattle.ipa_spec.specs.Fits.{LiteralFits}
use Rattle.ipa_spec.specs.declared.specification.Specification.{Specification}
use Rattle.ipa_spec.specs.declared.clauses.Literal.{Literal}
use Rattle.ipa_spec.specs.declared.clauses.Literal.TheVariants.{Holds, Fails, Same, Differ}
use Rattle.ipa_logic.specs.Facts.{has}
use Rattle.ipa_logic.specs.Truth.{fact_of, same_value, literal_true}
use Rattle.ipa_logic.specs.Touches.{has_rule, is_add_wins, makes_true, wins, loses}
use Rattle.ipa_logic.specs.Conflicts.{can_be_falsified}
use Rattle.ipa_logic.specs.declared.facts.Fact.{Fact}
use Rattle.ipa_history.specs.Histories.{IsMember, is_before, IsHistory}
use Rattle.ipa_history.specs.Values.{adds_fact, removes_fact, value_of}
use Rattle.ipa_history.specs.MemberLaws.{member-filter, filter_member}
use Rattle.ipa_history.specs.EffectLaws as effects
use Rattle.ipa_history.specs.EffectLaws.{Order, IsLast, turns}
use Rattle.ipa_history.specs.HistoryLaws as histories
use Rattle.ipa_history.specs.HistoryLaws.{IsClosedPart}
use Rattle.ipa_lift.specs.CutLaws.{apart}
use Rattle.ipa_lift.specs.StandingLaws.{is_named, is_upto, upto, named_itself}
use Rattle.ipa_logic.specs.TouchLaws.{falsified_by, falsifying_effect, one_rule}
use Rattle.ipa_history.specs.declared.history.Tx.{Tx}

module _ (s : Specification) (base : List Fact) (h : List Tx) (is : IsHistory h) (ms : List Tx)
    (part : IsClosedPart h is ms)
    (t : Tx) (mt : IsMember ms t) where
  -- another last member, past what turns the fact: it does not turn it back, and where such an effect wins it is so
  -- after it
  pub record Other (f : Fact) (d : Bool) : Type 0 where
    pub cause : Tx
    pub caused : turns (adds_fact s f) (removes_fact s f) (not d) cause ≡ true
    pub tx : Tx
    pub member : IsMember ms tx
    pub last : (u : Tx) → IsMember ms u → is_before tx u ≡ true → ⊥
    pub differs : t ≡ tx → ⊥
    pub spares : turns (adds_fact s f) (removes_fact s f) d tx ≡ true → ⊥
    pub decided : d ≡ not (has_rule is_add_wins s f.predicate) → value_of s base (upto h tx) f ≡ not d

  order : Order is_before ms
  order = histories.Order-part h is ms part.inside

  -- what stands up to a member of a closed part is in the part
  upto_inside : (u : Tx) → IsMember ms u → (v : Tx) → IsMember (upto h u) v → IsMember ms v
  upto_inside u mu v m =
      let kept = filter_member (is_upto u) h v m in
      elim (or_cases (is_before v u) (is_named v u) kept.passes) [
        | inl b ↦ part.closed u v mu kept.member b
        | inr n ↦ subst (λ (x : Tx). IsMember ms x) (sym (histories.one_named h is v u kept.member (part.inside u mu)
            (Rattle.ipa_lift.specs.StandingLaws.named_same v u n))) mu
      ]

  pub other : (f : Fact) (d : Bool) → value_of s base (upto h t) f ≡ d → value_of s base ms f ≡ not d → Other f d
  other f d was now =
      let w = has_rule is_add_wins s f.predicate in
      let e = effects.falsifier is_before (adds_fact s f) (removes_fact s f) (has base f) w (is_upto t) (upto h t) ms
      (record {
        inside = upto_inside t mt;
        passes = λ u m. let kept = filter_member (is_upto t) h u m in kept.passes;
        taken = λ u m p. member-filter (is_upto t) h u (part.inside u m) p;
      }) order d was now in
      let l = effects.last_above is_before (λ u. true) ms order e.tx e.top.member refl in
      let reaches : IsMember (upto h l.last) e.tx = member-filter (is_upto l.last) h e.tx
      (part.inside e.tx e.top.member) (elim l.above [
        | inl same ↦ or_right (is_before e.tx l.last) (is_named e.tx l.last)
            (ap (is_named e.tx) (sym same) ∙ named_itself e.tx)
        | inr b ↦ or_left (is_before e.tx l.last) (is_named e.tx l.last) b
      ]) in
      record {
        cause = e.tx;
        caused = e.turns;
        tx = l.last;
        member = l.member;
        last = λ u m b. l.none u m refl b;
        differs = λ same. e.outside (subst (λ (u : Tx). IsMember (upto h u) e.tx) (sym same) reaches);
        spares = λ g. effects.spared is_before (adds_fact s f) (removes_fact s f) (has base f) w
            (apart s base f) ms e.tx l.last e.top l.member l.above d e.turns g;
        decided = λ k. effects.value-decided is_before (adds_fact s f) (removes_fact s f) (has base f) w
            (upto h l.last) ms (upto_inside l.last l.member) e.tx reaches e.top
            (subst (λ (x : Bool). turns (adds_fact s f) (removes_fact s f) x e.tx ≡ true) (turned_back d w k) e.turns)
            ∙ sym (turned_back d w k);
      }
    where
      turned_back : (a b : Bool) → a ≡ not b → not a ≡ b
      turned_back a true k = ap not k
      turned_back a false k = ap not k

  module _ (values : List ℕ) where
    -- a last member that does not make the literal true, and after which it is false where it loses
    pub record Loser (l : Literal) : Type 0 where
      pub tx : Tx
      pub member : IsMember ms tx
      pub last : (u : Tx) → IsMember ms u → is_before tx u ≡ true → ⊥
      pub differs : t ≡ tx → ⊥
      pub spares : makes_true s tx.action tx.args values l ≡ false
      pub falsified : can_be_falsified s l ≡ true
      pub gone : loses s l ≡ true → literal_true s (value_of s base (upto h tx)) values l ≡ false

    pub loser : (sorts : List ℕ) (l : Literal) → LiteralFits s sorts l
        → literal_true s (value_of s base (upto h t)) values l ≡ true →
        literal_true s (value_of s base ms) values l ≡ false → Loser l
    loser sorts (Holds a) fits was now =
        let f = fact_of s values a in
        let o = other f true was now in
        record {
          tx = o.tx;
          member = o.member;
          last = o.last;
          differs = o.differs;
          spares = false_from_ne_true (adds_fact s f o.tx) o.spares;
          falsified = falsified_by s o.cause.action (Holds a)
              (falsifying_effect s o.cause.action o.cause.args values (Holds a) o.caused);
          gone = λ k. o.decided (sym k);
        }
    loser sorts (Fails a) fits was now =
        let f = fact_of s values a in
        let o = other f false (not-true (value_of s base (upto h t) f) was) (not-false (value_of s base ms f) now) in
        record {
          tx = o.tx;
          member = o.member;
          last = o.last;
          differs = o.differs;
          spares = false_from_ne_true (removes_fact s f o.tx) o.spares;
          falsified = falsified_by s o.cause.action (Fails a)
              (falsifying_effect s o.cause.action o.cause.args values (Fails a) o.caused);
          gone = λ k. ap not (o.decided (sym (sym (one_rule s a.predicate fits.predicate fits.declared)
              ∙ not-true (wins s (Fails a)) k)));
        }
    loser sorts (Same v w) fits was now = absurd (both_ways (same_value s values v w) now was)
    loser sorts (Differ v w) fits was now = absurd (both_ways (not (same_value s values v w)) now was)
