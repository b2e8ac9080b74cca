-- The lift: in a legal history in which no meeting members are in conflict, every closed cut keeps all clauses.
--
--   without ms t            the members but t
--   meeting_keeps           the law
use Rattle.std.proofs.Common.{◌≡◌, ℕ, zero, suc, ◌<◌, ◌≤◌, Bool, true, false, not, ◌&&◌, ◌||◌, List, [], ◌∷◌, length, refl, sym, subst, arith, Some, slice_get, inl, inr}
use Rattle.std.specs.Prelude.{filter}
use Rattle.std.proofs.lemmas.Bool.{and_parts, and_from, both_ways, cases_Bool, or_left, or_right, false_from_ne_true, true_from_ne_false, not_from_true, not_from_false}
use Rattle.ipa_clock.specs.declared.cut.Cut.{Cut}
use Rattle.ipa_spec.specs.Actions.{sorts_of_vars}
use Rattle.ipa_spec.specs.Fits.{IsFit}
use Rattle.ipa_spec.specs.declared.specification.Specification.{Specification}
use Rattle.ipa_spec.specs.declared.clauses.Literal.{Literal}
use Rattle.ipa_spec.specs.declared.clauses.Clause.{Clause}
use Rattle.ipa_logic.specs.Facts.{Universe, has}
use Rattle.ipa_logic.specs.Truth.{IsValues, Keeps, literal_true, instance_true}
use Rattle.ipa_logic.specs.Touches.{makes_true, makes_false, wins, loses}
use Rattle.ipa_logic.specs.StandingLaws.{broken-undecided}
use Rattle.ipa_logic.specs.Conflicts.{falsifies_some, makes_winner_true, can_be_falsified, Conflict}
use Rattle.ipa_logic.specs.declared.facts.Fact.{Fact}
use Rattle.ipa_history.specs.Histories.{IsMember, is_before, IsClosed, members_of}
use Rattle.ipa_history.specs.Values.{value_of, value_at}
use Rattle.ipa_history.specs.Legality.{IsLegalHistory}
use Rattle.ipa_history.specs.MemberLaws.{found, any_from, none_from, none_found, member_first, member-filter, filter_member, length-filter_less}
use Rattle.ipa_history.specs.EffectLaws as effects
use Rattle.ipa_history.specs.EffectLaws.{IsMore}
use Rattle.ipa_history.specs.HistoryLaws as histories
use Rattle.ipa_history.specs.HistoryLaws.{IsClosedPart}
use Rattle.ipa_lift.specs.StandingLaws.{is_named, named_itself, named_same, upto, Standing, Standing-of}
use Rattle.ipa_lift.specs.Meetings.{NoMeetingConflict}
use Rattle.ipa_lift.specs.LiteralLaws as literals
use Rattle.ipa_lift.specs.LossLaws as losses
use Rattle.ipa_history.specs.declared.history.Tx.{Tx}

-- the members but t
abbrev without : List Tx → Tx → List Tx
without ms t = filter (λ u. not (is_named u t)) ms

module _ (s : Specification) (fit : IsFit s) (universe : Universe) (base : List Fact) (h : List Tx)
    (legal : IsLegalHistory s universe base h)
    (meetings : NoMeetingConflict s h) (k : ℕ) (c : Clause) (declared : slice_get s.clauses k ≡ Some c)
    (values : List ℕ) (over : IsValues universe c values) where
  -- the instance is broken where these are known
  abbrev IsBroken : List Tx → Type 0
  IsBroken ms = instance_true s (value_of s base ms) values c ≡ false

  -- one literal of a true instance is true, and each of a broken one is false
  each_false : (t : Fact → Bool) → instance_true s t values c ≡ false → (l : Literal) → IsMember c.literals l →
      literal_true s t values l ≡ false
  each_false t broken l m = false_from_ne_true (literal_true s t values l)
      (λ g. none_found (literal_true s t values) c.literals broken l m g)

  module _ (ms : List Tx) (part : IsClosedPart h legal.history ms) (broken : IsBroken ms)
      (smaller : (xs : List Tx) → length xs < length ms → IsClosedPart h legal.history xs → IsBroken xs → ⊥) where
    -- a member that is before none
    record IsTop (t : Tx) : Type 0 where
      member : IsMember ms t
      last : (u : Tx) → IsMember ms u → is_before t u ≡ true → ⊥

    one_named : (u t : Tx) → IsMember ms u → IsMember ms t → is_named u t ≡ true → u ≡ t
    one_named u t mu mt n = histories.one_named h legal.history u t (part.inside u mu) (part.inside t mt)
        (named_same u t n)

    but_one : (t : Tx) → IsTop t → IsMore (without ms t) ms t
    but_one t top = record {
      old = λ u m. let kept = filter_member (λ (v : Tx). not (is_named v t)) ms u m in kept.member;
      new = top.member;
      only = λ u m. elim (cases_Bool (is_named u t)) [
        | inl n ↦ inr (one_named u t m top.member n)
        | inr n ↦ inl (member-filter (λ (v : Tx). not (is_named v t)) ms u m (not_from_false (is_named u t) n))
      ];
    }

    closed_without : (t : Tx) → IsTop t → IsClosedPart h legal.history (without ms t)
    closed_without t top = record {
      inside = λ u m. let kept = filter_member (λ (v : Tx). not (is_named v t)) ms u m in part.inside u kept.member;
      closed = λ u v mu mv b.
          let kept = filter_member (λ (x : Tx). not (is_named x t)) ms u mu in
          let there : IsMember ms v = part.closed u v kept.member mv b in
          member-filter (λ (x : Tx). not (is_named x t)) ms v there
          (not_from_false (is_named v t) (false_from_ne_true (is_named v t) (λ n.
          top.last u kept.member (subst (λ (x : Tx). is_before x u ≡ true) (one_named v t there top.member n) b))));
    }

    -- taking it away mends the instance
    mended : (t : Tx) → IsTop t → instance_true s (value_of s base (without ms t)) values c ≡ true
    mended t top = true_from_ne_false (instance_true s (value_of s base (without ms t)) values c)
        (λ b. smaller (without ms t) (length-filter_less (λ (u : Tx). not (is_named u t)) ms t top.member
        (not_from_true (is_named t t) (named_itself t))) (closed_without t top) b)

    -- so it makes some literal false
    falsifies : (t : Tx) → IsTop t → falsifies_some s t.action t.args values c.literals ≡ true
    falsifies t top =
        let g = found (literal_true s (value_of s base (without ms t)) values) c.literals (mended t top) in
        any_from (makes_false s t.action t.args values) c.literals g.one g.member
        (literals.made_false s base ms values (without ms t) t (but_one t top) top.last g.one g.passes
        (each_false (value_of s base ms) broken g.one g.member))

    -- and none that wins true
    spares : (t : Tx) → IsTop t → makes_winner_true s t.action t.args values c.literals ≡ false
    spares t top = none_from (λ l. wins s l && makes_true s t.action t.args values l) c.literals (λ l m g.
        let parts = and_parts (wins s l) (makes_true s t.action t.args values l) g in
        both_ways (literal_true s (value_of s base ms) values l) (each_false (value_of s base ms) broken l m)
        (literals.winner_true s base ms values t top.member top.last l parts.0 parts.1))

    -- two last members and the states just after them, with a literal that is lost, are a conflict
    conflict_of : (t u : Tx) → IsTop t → IsTop u → (left : Standing s universe base h t) →
        (right : Standing s universe base h u)
        → (place : ℕ) (lost : Literal) → slice_get c.literals place ≡ Some lost →
        literal_true s (has left.after) values lost ≡ true
        → makes_true s u.action u.args values lost ≡ false → can_be_falsified s lost ≡ true
        → (loses s lost ≡ true → literal_true s (has right.after) values lost ≡ false)
        → Conflict s t.action u.action k
    conflict_of t u top second left right place lost at true_left spared falsified gone = record {
      left_declared = (legal.fitting t (part.inside t top.member)).declared;
      right_declared = (legal.fitting u (part.inside u second.member)).declared;
      clause = c;
      declared = declared;
      universe = universe;
      left_args = t.args;
      right_args = u.args;
      values = values;
      place = place;
      after_left = left.after;
      after_right = right.after;
      conflict = record {
        sizes = legal.sizes;
        left_arguments = (legal.fitting t (part.inside t top.member)).arguments;
        right_arguments = (legal.fitting u (part.inside u second.member)).arguments;
        clause_values = over;
        left_state = left.state;
        right_state = right.state;
        left_keeps = left.keeps;
        right_keeps = right.keeps;
        left_stands = left.stands;
        right_stands = right.stands;
        undecided = broken-undecided s (value_of s base ms) values c broken;
        left_falsifies = falsifies t top;
        right_falsifies = falsifies u second;
        left_spares = spares t top;
        right_spares = spares u second;
        lost = lost;
        lost_at = at;
        loss = and_from
            ((literal_true s (has left.after) values lost && not
            (makes_true s u.action u.args values lost)) && can_be_falsified s lost)
            (not (loses s lost) || not (literal_true s (has right.after) values lost))
            (and_from (literal_true s (has left.after) values lost && not (makes_true s u.action u.args values lost))
            (can_be_falsified s lost)
            (and_from (literal_true s (has left.after) values lost)
            (not (makes_true s u.action u.args values lost)) true_left
            (not_from_false (makes_true s u.action u.args values lost) spared))
            falsified)
            (elim (cases_Bool (loses s lost)) [
              | inr keeps ↦ or_left (not (loses s lost)) (not (literal_true s (has right.after) values lost))
                  (not_from_false (loses s lost) keeps)
              | inl loses_it ↦ or_right (not (loses s lost)) (not (literal_true s (has right.after) values lost))
                  (not_from_false (literal_true s (has right.after) values lost) (gone loses_it))
            ]);
      };
    }

    -- a literal after a member, by what the state just after it tells
    after_member : (t : Tx) (left : Standing s universe base h t) (l : Literal) (b : Bool) →
        literal_true s (has left.after) values l ≡ b
        → literal_true s (value_of s base (upto h t)) values l ≡ b
    after_member t left l b e = let tells : has left.after ≡ value_of s base (upto h t) = λ i f. left.tells f i in
        subst (λ (x : Fact → Bool). literal_true s x values l ≡ b) tells e

    told_member : (t : Tx) (left : Standing s universe base h t) (l : Literal) (b : Bool) →
        literal_true s (value_of s base (upto h t)) values l ≡ b
        → literal_true s (has left.after) values l ≡ b
    told_member t left l b e = let tells : has left.after ≡ value_of s base (upto h t) = λ i f. left.tells f i in
        subst (λ (x : Fact → Bool). literal_true s x values l ≡ b) (sym tells) e

    -- a last member conflicts with another one
    with_lost : (t : Tx) → IsTop t → (left : Standing s universe base h t) → (place : ℕ) (lost : Literal) →
        slice_get c.literals place ≡ Some lost
        → literal_true s (has left.after) values lost ≡ true → ⊥
    with_lost t top left place lost at true_left =
        let o = losses.loser s base h legal.history ms part t top.member values (sorts_of_vars c.vars) lost
        (fit.literals k place c lost declared at)
        (after_member t left lost true true_left) (each_false (value_of s base ms) broken lost
        (record { place = place; at = at })) in
        let right = Standing-of s fit universe base h legal o.tx (part.inside o.tx o.member) in
        meetings.apart t o.tx k (part.inside t top.member) (part.inside o.tx o.member) o.differs
        (false_from_ne_true (is_before t o.tx) (λ b. top.last o.tx o.member b))
        (false_from_ne_true (is_before o.tx t) (λ b. o.last t top.member b))
        (conflict_of t o.tx top (record { member = o.member; last = o.last }) left right place lost at true_left o.spares o.falsified
        (λ g. told_member o.tx right lost false (o.gone g)))

    never : (t : Tx) → IsTop t → ⊥
    never t top =
        let left = Standing-of s fit universe base h legal t (part.inside t top.member) in
        let m = found (literal_true s (has left.after) values) c.literals
        ((left.keeps.clauses k c declared).instances values over) in
        with_lost t top left m.member.place m.one m.member.at m.passes

    -- where there is a member at all, there is a last one
    none_broken : (t : Tx) → IsMember ms t → ⊥
    none_broken t m =
        let l = effects.last_above is_before (λ u. true) ms (histories.Order-part h legal.history ms part.inside) t m refl in
        never l.last (record { member = l.member; last = λ u mu b. l.none u mu refl b })

  -- no closed part breaks the instance, by induction on the number of its members
  unbroken : (n : ℕ) (ms : List Tx) → length ms ≤ n → IsClosedPart h legal.history ms → IsBroken ms → ⊥
  unbroken n [] short part broken = both_ways (instance_true s (has base) values c) broken
      ((legal.base_keeps.clauses k c declared).instances values over)
  unbroken zero (t ∷ ms) short part broken = absurd (omega arith)
  unbroken (suc n) (t ∷ ms) short part broken =
      none_broken (t ∷ ms) part broken (λ xs less closed b. unbroken n xs (omega arith) closed b) t (member_first t ms)

-- the law: every closed cut keeps all clauses
pub meeting_keeps : (s : Specification) → IsFit s → (universe : Universe) (base : List Fact) (h : List Tx) →
    IsLegalHistory s universe base h → NoMeetingConflict s h
    → (cut : Cut) → IsClosed h cut → Keeps s universe (value_at s base h cut)
meeting_keeps s fit universe base h legal meetings cut closed = record {
  clauses = λ k c declared. record {
    instances = λ values over. true_from_ne_false (instance_true s (value_at s base h cut) values c)
        (λ b. unbroken s fit universe base h legal meetings k c declared values over (length (members_of h cut))
        (members_of h cut) (omega arith)
        (histories.closed_part h legal.history cut closed) b);
  };
}
