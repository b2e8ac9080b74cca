-- Touched instances suffice: what an action breaks has a literal that the action makes false.
use Rattle.std.proofs.Common.{◌≡◌, ℕ, Bool, true, false, not, List}
use Rattle.std.proofs.lemmas.Bool.{and_parts, false≢true}
use Rattle.std.specs.List.{list_any}
use Rattle.ipa_spec.specs.Actions.{effects_of}
use Rattle.ipa_spec.specs.FoundLaws.{found_at, any_at, list_any-false}
use Rattle.ipa_spec.specs.declared.specification.Specification.{Specification}
use Rattle.ipa_spec.specs.declared.clauses.Literal.{Literal}
use Rattle.ipa_spec.specs.declared.clauses.Literal.TheVariants.{Holds, Fails, Same, Differ}
use Rattle.ipa_spec.specs.declared.operations.Action.{Action}
use Rattle.ipa_logic.specs.Conflicts.{falsifies_some}
use Rattle.ipa_logic.specs.Touches.{adds, some_takes, makes_false, plain_application}
use Rattle.ipa_logic.specs.TouchLaws.{literal-made_false}
use Rattle.ipa_logic.specs.Truth.{fact_of, literal_true}
use Rattle.ipa_logic.specs.declared.facts.Fact.{Fact}
use Rattle.ipa_touch.specs.Turns.{is_turned, is_touched}

module _ (s : Specification) (action : Action) (args v : List ℕ) where
  -- where literals are true before and not after, one of them is made false
  pub literals-falsified : (t : Fact → Bool) (ls : List Literal) → list_any (literal_true s t v) ls ≡ true →
      list_any (literal_true s (plain_application s action args t) v) ls ≡ false → falsifies_some s action args v ls ≡ true
  literals-falsified t ls before after =
      let l = found_at (literal_true s t v) ls before in
      any_at (makes_false s action args v) ls l.place l.item l.at
      (literal-made_false s action args t v l.item l.passes (list_any-false (literal_true s (plain_application s action args t) v) ls after l.place l.item l.at))

  -- what is made false is turned so by an effect
  literal-turned : (l : Literal) → makes_false s action args v l ≡ true → is_turned s action args v l ≡ true
  literal-turned (Holds a) h = (and_parts (some_takes s (effects_of s action) args (fact_of s v a)) (not (adds s action args (fact_of s v a))) h).0
  literal-turned (Fails a) h = h
  literal-turned (Same x y) h = absurd (false≢true h)
  literal-turned (Differ x y) h = absurd (false≢true h)

  pub literals-touched : (ls : List Literal) → falsifies_some s action args v ls ≡ true → is_touched s action args v ls ≡ true
  literals-touched ls h =
      let l = found_at (makes_false s action args v) ls h in
      any_at (is_turned s action args v) ls l.place l.item l.at (literal-turned l.item l.passes)
