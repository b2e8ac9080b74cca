-- What effects are filed under.
--
--   key_cmp k q              keys are ordered by kind, predicate and places
--   key_eq k q               the keys are the same, as a test
--   key_of s args e          the key of an effect: an add is filed under its fact, and a remove under its pattern
--   add_key f                the key of the adds of a fact
--   remove_keys f            the keys of the removes that match it
--   keys_over f              the keys of all effects on it
--   has_key s k t            one of the transaction's effects is filed under the key
use Rattle.std.specs.Prelude.{ℕ, Bool, true, false, ◌==◌, ◌&&◌, List, [], ◌∷◌, map, slice_index, Option, Some, None, if◌then◌else◌}
use Rattle.std.specs.Bool.{beq}
use Rattle.std.specs.List.{list_any}
use Rattle.std.specs.Option.{option_cmp, option_eq}
use Rattle.std.specs.Ordering.{nat_cmp, bool_cmp, ordering_then, is_eq}
use Rattle.std.specs.Cmp.Lexicographic.{slice_cmp, pointwise}
use Rattle.std.specs.declared.cmp.Ordering.{Ordering}
use Rattle.ipa_spec.specs.Actions.{effects_of}
use Rattle.ipa_spec.specs.declared.specification.Specification.{Specification}
use Rattle.ipa_spec.specs.declared.operations.Effect.{Effect}
use Rattle.ipa_logic.specs.Touches.{stands_for, arg_at, fact_given}
use Rattle.ipa_logic.specs.declared.facts.Fact.{Fact}
use Rattle.ipa_history.specs.declared.history.Tx.{Tx}
use Rattle.ipa_sets.specs.declared.keys.Key.{Key}
use Rattle.ipa_sets.specs.declared.patterns.Pattern.{Pattern}

-- patterns are ordered by predicate, and then by place
abbrev pub pattern_cmp : Pattern → Pattern → Ordering
pattern_cmp p q = ordering_then (nat_cmp p.predicate q.predicate) (slice_cmp (option_cmp nat_cmp) p.places q.places)

-- keys are ordered by kind, predicate and places
abbrev pub key_cmp : Key → Key → Ordering
key_cmp k q = ordering_then (bool_cmp k.adds q.adds) (pattern_cmp k.pattern q.pattern)

-- the keys are the same, as a test
abbrev pub key_eq : Key → Key → Bool
key_eq k q = beq k.adds q.adds && ((k.pattern.predicate == q.pattern.predicate)
    && pointwise (option_eq (λ a b. a == b)) k.pattern.places q.pattern.places)

-- the pattern of a remove: its elements, and any for a `*`
abbrev pub removed_pattern : Specification → List ℕ → Effect → Pattern
removed_pattern s args e = record {
  predicate = e.predicate;
  places = stands_for s args (arg_at e 0) ∷ stands_for s args (arg_at e 1) ∷ stands_for s args (arg_at e 2) ∷ [];
}

-- the pattern of one fact
abbrev pub fact_pattern : Fact → Pattern
fact_pattern f = record { predicate = f.predicate; places = map (λ x. Some x) f.args }

-- the key of the adds of a fact
abbrev pub add_key : Fact → Key
add_key f = record { adds = true; pattern = fact_pattern f }

-- the key of an effect
abbrev pub key_of : Specification → List ℕ → Effect → Key
key_of s args e = if e.add then add_key (fact_given s args e) else
    (record { adds = false; pattern = removed_pattern s args e })

-- the key of the removes with these places
abbrev pub remove_key : ℕ → Option ℕ → Option ℕ → Option ℕ → Key
remove_key p a b c = record { adds = false; pattern = record { predicate = p; places = a ∷ b ∷ c ∷ [] } }

-- the keys of the removes that match a fact with these elements
abbrev pub remove_keys_at : ℕ → Option ℕ → Option ℕ → Option ℕ → List Key
remove_keys_at p a b c = remove_key p a b c ∷ remove_key p a b None ∷ remove_key p a None c ∷ remove_key p a None None
    ∷ remove_key p None b c ∷ remove_key p None b None ∷ remove_key p None None c ∷ remove_key p None None None ∷ []

-- the keys of the removes that match the fact
abbrev pub remove_keys : Fact → List Key
remove_keys f = remove_keys_at f.predicate (Some (slice_index f.args 0)) (Some (slice_index f.args 1)) (Some
    (slice_index f.args 2))

-- the keys of all effects on the fact
abbrev pub keys_over : Fact → List Key
keys_over f = add_key f ∷ remove_keys f

-- one of the transaction's effects is filed under the key
abbrev pub has_key : Specification → Key → Tx → Bool
has_key s k t = list_any (λ e. is_eq (key_cmp (key_of s t.args e) k)) (effects_of s t.action)
