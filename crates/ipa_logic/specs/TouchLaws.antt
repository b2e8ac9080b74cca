-- Laws of what an action does to facts and literals.
--
--   adds-removes         what an action adds it does not remove
--   plain-adds, plain-removes, plain-untouched   the plain application of what is added, of what is removed, and of all else
--   literal-untouched    a literal that the action does not touch is as it was
--   literal-made_false   a literal that is true before and false after is made false
--   falsifying_effect    what makes a literal false has an effect of the kind that can
--   falsified_by         a literal that an action of the specification can make false can be falsified
--   breaks-falsified     what makes some literal of an instance false can break the clause
--   Conflict-live        two actions in conflict could each break the clause
--   one_rule             a declared predicate has just one rule
--   wins-loses           a fact literal wins or loses
use Rattle.std.proofs.Common.{◌≡◌, ℕ, Bool, true, false, not, ◌&&◌, ◌||◌, List, [], refl, sym, ◌∙◌, ap, Option, Some, None, slice_get}
use Rattle.std.specs.Prelude.{◌==◌}
use Rattle.std.specs.Option.{option_map_or}
use Rattle.std.specs.List.{list_any}
use Rattle.std.specs.Ordering.{is_eq}
use Rattle.std.proofs.lemmas.Bool.{false≢true, and_parts, and_from, not-true, not-false, both_ways, or_left, or_right, eq-eqb}
use Rattle.ipa_spec.specs.Actions.{effects_of, drop_effects}
use Rattle.ipa_spec.specs.FoundLaws.{found_at, any_at}
use Rattle.ipa_spec.specs.declared.specification.Specification.{Specification}
use Rattle.ipa_spec.specs.declared.predicates.Predicate.{Predicate}
use Rattle.ipa_spec.specs.declared.predicates.Rule.{Rule}
use Rattle.ipa_spec.specs.declared.clauses.Clause.{Clause}
use Rattle.ipa_spec.specs.declared.clauses.Literal.{Literal}
use Rattle.ipa_spec.specs.declared.clauses.Literal.TheVariants.{Holds, Fails, Same, Differ}
use Rattle.ipa_spec.specs.declared.operations.Operation.{Operation}
use Rattle.ipa_spec.specs.declared.operations.Action.{Action}
use Rattle.ipa_spec.specs.declared.operations.Action.TheVariants.{Op, Drop}
use Rattle.ipa_spec.specs.declared.bounds.Bound.{Bound}
use Rattle.ipa_logic.specs.Facts.{fact_cmp}
use Rattle.ipa_logic.specs.FactLaws.{same_fact}
use Rattle.ipa_logic.specs.Truth.{fact_of, same_value, literal_true}
use Rattle.ipa_logic.specs.Touches.{gives, takes, some_takes, matches_at, fact_given, adds, removes, plain_application, makes_true, makes_false, has_rule, is_add_wins}
use Rattle.ipa_logic.specs.Conflicts.{falsifies_some, can_falsify, can_be_falsified, can_break, is_live, Conflict}
use Rattle.ipa_logic.specs.declared.facts.Fact.{Fact}

module _ (s : Specification) (action : Action) (args : List ℕ) where
  -- what an action adds it does not remove
  pub adds-removes : (f : Fact) → adds s action args f ≡ true → removes s action args f ≡ false
  adds-removes f h = apart (some_takes s (effects_of s action) args f) (adds s action args f) h
    where
      apart : (taken added : Bool) → added ≡ true → (taken && not added) ≡ false
      apart true true e = refl
      apart false true e = refl
      apart true false e = absurd (false≢true e)
      apart false false e = refl

  -- what an action adds is there after it
  pub plain-adds : (t : Fact → Bool) (f : Fact) → adds s action args f ≡ true → plain_application s action args t f ≡ true
  plain-adds t f h = or_left (adds s action args f) (t f && not (removes s action args f)) h

  -- what it removes is not
  pub plain-removes : (t : Fact → Bool) (f : Fact) → removes s action args f ≡ true → plain_application s action args t f ≡ false
  plain-removes t f h = gone (adds s action args f) (some_takes s (effects_of s action) args f) (t f) h
    where
      gone : (added taken was : Bool) → (taken && not added) ≡ true → (added || (was && not (taken && not added))) ≡ false
      gone true true was e = absurd (false≢true e)
      gone true false was e = absurd (false≢true e)
      gone false false was e = absurd (false≢true e)
      gone false true true e = refl
      gone false true false e = refl

  -- and all else is as it was
  pub plain-untouched : (t : Fact → Bool) (f : Fact) → adds s action args f ≡ false → removes s action args f ≡ false →
      plain_application s action args t f ≡ t f
  plain-untouched t f a r = alone (adds s action args f) (removes s action args f) (t f) a r
    where
      alone : (added removed was : Bool) → added ≡ false → removed ≡ false → (added || (was && not removed)) ≡ was
      alone true removed was e g = absurd (false≢true (sym e))
      alone false true was e g = absurd (false≢true (sym g))
      alone false false true e g = refl
      alone false false false e g = refl

  -- a literal that the action does not touch is as it was
  pub literal-untouched : (t : Fact → Bool) (values : List ℕ) (l : Literal) → makes_true s action args values l ≡ false →
      makes_false s action args values l ≡ false → literal_true s (plain_application s action args t) values l ≡ literal_true s t values l
  literal-untouched t values (Holds a) h g = plain-untouched t (fact_of s values a) h g
  literal-untouched t values (Fails a) h g = ap not (plain-untouched t (fact_of s values a) g h)
  literal-untouched t values (Same v w) h g = refl
  literal-untouched t values (Differ v w) h g = refl

  -- a fact that was there and is not was removed; one that was not there and is was added
  pub plain-lost : (t : Fact → Bool) (f : Fact) → t f ≡ true → plain_application s action args t f ≡ false → removes s action args f ≡ true
  plain-lost t f was now = lost (adds s action args f) (removes s action args f) (t f) was now
    where
      lost : (added removed was : Bool) → was ≡ true → (added || (was && not removed)) ≡ false → removed ≡ true
      lost true removed was e g = absurd (false≢true (sym g))
      lost false true was e g = refl
      lost false false true e g = absurd (false≢true (sym g))
      lost false false false e g = absurd (false≢true e)

  pub plain-gained : (t : Fact → Bool) (f : Fact) → t f ≡ false → plain_application s action args t f ≡ true → adds s action args f ≡ true
  plain-gained t f was now = gained (adds s action args f) (removes s action args f) (t f) was now
    where
      gained : (added removed was : Bool) → was ≡ false → (added || (was && not removed)) ≡ true → added ≡ true
      gained true removed was e g = refl
      gained false removed true e g = absurd (false≢true (sym e))
      gained false removed false e g = absurd (false≢true g)

  -- a literal that is true before and false after is made false
  pub literal-made_false : (t : Fact → Bool) (values : List ℕ) (l : Literal) → literal_true s t values l ≡ true →
      literal_true s (plain_application s action args t) values l ≡ false → makes_false s action args values l ≡ true
  literal-made_false t values (Holds a) was now = plain-lost t (fact_of s values a) was now
  literal-made_false t values (Fails a) was now =
      plain-gained t (fact_of s values a) (not-true (t (fact_of s values a)) was)
      (not-false (plain_application s action args t (fact_of s values a)) now)
  literal-made_false t values (Same v w) was now = absurd (both_ways (same_value s values v w) now was)
  literal-made_false t values (Differ v w) was now = absurd (both_ways (not (same_value s values v w)) now was)

  -- what makes a literal false has an effect on its predicate, of the kind that can
  pub falsifying_effect : (values : List ℕ) (l : Literal) → makes_false s action args values l ≡ true →
      list_any (can_falsify l) (effects_of s action) ≡ true
  falsifying_effect values (Holds a) h =
      let f = fact_of s values a in
      let parts = and_parts (some_takes s (effects_of s action) args f) (not (adds s action args f)) h in
      let e = found_at (takes s args f) (effects_of s action) parts.0 in
      let kind = and_parts (not e.item.add) ((((e.item.predicate == a.predicate) && matches_at s args e.item f 0) && matches_at s args e.item f 1) && matches_at s args e.item f 2) e.passes in
      let two = and_parts (((e.item.predicate == a.predicate) && matches_at s args e.item f 0) && matches_at s args e.item f 1) (matches_at s args e.item f 2) kind.1 in
      let one = and_parts ((e.item.predicate == a.predicate) && matches_at s args e.item f 0) (matches_at s args e.item f 1) two.0 in
      let none = and_parts (e.item.predicate == a.predicate) (matches_at s args e.item f 0) one.0 in
      any_at (can_falsify (Holds a)) (effects_of s action) e.place e.item e.at
      (and_from (not e.item.add) (e.item.predicate == a.predicate) kind.0 none.0)
  falsifying_effect values (Fails a) h =
      let f = fact_of s values a in
      let e = found_at (gives s args f) (effects_of s action) h in
      let kind = and_parts e.item.add (is_eq (fact_cmp (fact_given s args e.item) f)) e.passes in
      let same : e.item.predicate ≡ a.predicate = ap (λ (g : Fact). g.predicate) (same_fact (fact_given s args e.item) f kind.1) in
      any_at (can_falsify (Fails a)) (effects_of s action) e.place e.item e.at
      (and_from e.item.add (e.item.predicate == a.predicate) kind.0 (eq-eqb e.item.predicate a.predicate same))
  falsifying_effect values (Same v w) h = absurd (false≢true h)
  falsifying_effect values (Differ v w) h = absurd (false≢true h)

  -- what makes some literal of an instance false can break the clause
  pub breaks-falsified : (values : List ℕ) (c : Clause) → falsifies_some s action args values c.literals ≡ true → can_break s action c ≡ true
  breaks-falsified values c h =
      let l = found_at (makes_false s action args values) c.literals h in
      any_at (λ l. list_any (can_falsify l) (effects_of s action)) c.literals l.place l.item l.at (falsifying_effect values l.item l.passes)

-- a literal that some action of the specification can make false can be falsified
pub falsified_by : (s : Specification) (action : Action) (l : Literal) → list_any (can_falsify l) (effects_of s action) ≡ true →
    can_be_falsified s l ≡ true
falsified_by s (Op n) l h = by_operation (slice_get s.operations n) refl h
  where
    by_operation : (o : Option Operation) → slice_get s.operations n ≡ o → list_any (can_falsify l) (option_map_or (λ (q : Operation). q.effects) o []) ≡ true →
        can_be_falsified s l ≡ true
    by_operation None e g = absurd (false≢true g)
    by_operation (Some q) e g =
        or_left (list_any (λ (o : Operation). list_any (can_falsify l) o.effects) s.operations) (list_any (λ (b : Bound). list_any (can_falsify l) (drop_effects s.predicates b)) s.bounds)
        (any_at (λ (o : Operation). list_any (can_falsify l) o.effects) s.operations n q e g)
falsified_by s (Drop n) l h = by_bound (slice_get s.bounds n) refl h
  where
    by_bound : (o : Option Bound) → slice_get s.bounds n ≡ o → list_any (can_falsify l) (option_map_or (drop_effects s.predicates) o []) ≡ true →
        can_be_falsified s l ≡ true
    by_bound None e g = absurd (false≢true g)
    by_bound (Some q) e g =
        or_right (list_any (λ (o : Operation). list_any (can_falsify l) o.effects) s.operations) (list_any (λ (b : Bound). list_any (can_falsify l) (drop_effects s.predicates b)) s.bounds)
        (any_at (λ (b : Bound). list_any (can_falsify l) (drop_effects s.predicates b)) s.bounds n q e g)

-- two actions in conflict could each break the clause
pub Conflict-live : (s : Specification) (left right : Action) (k : ℕ) (h : Conflict s left right k) → is_live s left right h.clause ≡ true
Conflict-live s left right k h =
    and_from (can_break s left h.clause) (can_break s right h.clause)
    (breaks-falsified s left h.left_args h.values h.clause h.conflict.left_falsifies)
    (breaks-falsified s right h.right_args h.values h.clause h.conflict.right_falsifies)

-- a declared predicate has just one rule
pub one_rule : (s : Specification) (n : ℕ) (p : Predicate) → slice_get s.predicates n ≡ Some p →
    has_rule (λ (r : Rule). not (is_add_wins r)) s n ≡ not (has_rule is_add_wins s n)
one_rule s n p is =
    ap (λ (o : Option Predicate). option_map_or (λ (q : Predicate). not (is_add_wins q.rule)) o false) is
    ∙ sym (ap (λ (o : Option Predicate). not (option_map_or (λ (q : Predicate). is_add_wins q.rule) o false)) is)

-- a predicate of the one rule has not the other
pub other_rule : (s : Specification) (n : ℕ) → has_rule (λ (r : Rule). not (is_add_wins r)) s n ≡ true → has_rule is_add_wins s n ≡ false
other_rule s n h = by_predicate (slice_get s.predicates n) h
  where
    by_predicate : (o : Option Predicate) → option_map_or (λ (p : Predicate). not (is_add_wins p.rule)) o false ≡ true →
        option_map_or (λ (p : Predicate). is_add_wins p.rule) o false ≡ false
    by_predicate None e = refl
    by_predicate (Some p) e = not-true (is_add_wins p.rule) e
