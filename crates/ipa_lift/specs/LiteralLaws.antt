-- What becomes of a literal of an instance where transactions meet.
--
--   made_false                  where taking away a last member mends the literal, that member makes it false
--   winner_true                 a last member that makes a winning literal true leaves it true
use Rattle.std.proofs.Common.{◌≡◌, ℕ, Bool, true, false, not, List, sym, ◌∙◌, ap, subst}
use Rattle.std.proofs.lemmas.Bool.{false≢true, not-true, not-false, both_ways, or_left, or_right}
use Rattle.ipa_spec.specs.declared.specification.Specification.{Specification}
use Rattle.ipa_spec.specs.declared.clauses.Literal.{Literal}
use Rattle.ipa_spec.specs.declared.clauses.Literal.TheVariants.{Holds, Fails, Same, Differ}
use Rattle.ipa_logic.specs.Facts.{has}
use Rattle.ipa_logic.specs.TouchLaws.{other_rule}
use Rattle.ipa_logic.specs.Truth.{fact_of, same_value, literal_true}
use Rattle.ipa_logic.specs.Touches.{has_rule, is_add_wins, makes_true, makes_false, wins}
use Rattle.ipa_logic.specs.declared.facts.Fact.{Fact}
use Rattle.ipa_history.specs.Histories.{IsMember, is_before}
use Rattle.ipa_history.specs.Values.{adds_fact, removes_fact, value_of}
use Rattle.ipa_history.specs.EffectLaws as effects
use Rattle.ipa_history.specs.EffectLaws.{IsMore, IsLast, Order, turns}
use Rattle.ipa_lift.specs.CutLaws.{apart}
use Rattle.ipa_history.specs.declared.history.Tx.{Tx}

module _ (s : Specification) (base : List Fact) (ms : List Tx) (values : List ℕ) where
  -- the rule of a fact
  abbrev rule_of : Fact → Bool
  rule_of f = has_rule is_add_wins s f.predicate

  -- where taking away a last member mends the literal, that member makes it false
  pub made_false : (small : List Tx) (t : Tx) → IsMore small ms t →
      ((u : Tx) → IsMember ms u → is_before t u ≡ true → ⊥) → (l : Literal)
      → literal_true s (value_of s base small) values l ≡ true → literal_true s (value_of s base ms) values l ≡ false
      → makes_false s t.action t.args values l ≡ true
  made_false small t more last (Holds a) was now = let f = fact_of s values a in
      effects.turned is_before (adds_fact s f) (removes_fact s f) (has base f) (rule_of f)
      (apart s base f) small ms t more last true was now
  made_false small t more last (Fails a) was now = let f = fact_of s values a in
      effects.turned is_before (adds_fact s f) (removes_fact s f) (has base f) (rule_of f)
      (apart s base f) small ms t more last false
      (not-true (value_of s base small f) was) (not-false (value_of s base ms f) now)
  made_false small t more last (Same v w) was now = absurd (both_ways (same_value s values v w) now was)
  made_false small t more last (Differ v w) was now = absurd (both_ways (not (same_value s values v w)) now was)

  -- a last member that makes a winning literal true leaves it true
  pub winner_true : (t : Tx) → IsMember ms t → ((u : Tx) → IsMember ms u → is_before t u ≡ true → ⊥) → (l : Literal)
      → wins s l ≡ true → makes_true s t.action t.args values l ≡ true
      → literal_true s (value_of s base ms) values l ≡ true
  winner_true t m last (Holds a) rule makes = let f = fact_of s values a in
      effects.value-won is_before (adds_fact s f) (removes_fact s f) (has base f) (rule_of f) ms (record {
        tx = t;
        top = record {
          member = m;
          passes = or_left (adds_fact s f t)
              (removes_fact s f t) makes;
          none = λ u mu pu b. last u mu b;
        };
        wins = subst (λ (d : Bool). turns (adds_fact s f) (removes_fact s f) d t ≡ true) (sym rule) makes;
      }) ∙ rule
  winner_true t m last (Fails a) rule makes = let f = fact_of s values a in
      let lost = other_rule s a.predicate rule in
      ap not (effects.value-won is_before (adds_fact s f) (removes_fact s f) (has base f) (rule_of f) ms (record {
        tx = t;
        top = record {
          member = m;
          passes = or_right (adds_fact s f t)
              (removes_fact s f t) makes;
          none = λ u mu pu b. last u mu b;
        };
        wins = subst (λ (d : Bool). turns (adds_fact s f) (removes_fact s f) d t ≡ true) (sym lost) makes;
      }) ∙ lost)
  winner_true t m last (Same v w) rule makes = absurd (false≢true makes)
  winner_true t m last (Differ v w) rule makes = absurd (false≢true makes)
