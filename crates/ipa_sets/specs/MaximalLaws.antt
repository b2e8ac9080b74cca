-- The test of a maximal effect.
--
--   maximal_last, last_maximal   it passes just those that touch the fact and are before no other that does
use Rattle.std.proofs.Common.{◌≡◌, true}
use Rattle.ipa_spec.specs.declared.specification.Specification.{Specification}
use Rattle.ipa_logic.specs.declared.facts.Fact.{Fact}
use Rattle.ipa_history.specs.Histories.{IsMember, is_before}
use Rattle.ipa_history.specs.Values.{adds_fact, removes_fact, touches_fact, is_maximal}
use Rattle.ipa_history.specs.EffectLaws as effects
use Rattle.ipa_history.specs.EffectLaws.{IsLast}
use Rattle.ipa_history.specs.declared.history.Tx.{Tx}
use Rattle.std.specs.Prelude.{List}

-- the test of a maximal effect passes just those that are before no other
pub maximal_last : (s : Specification) (ms : List Tx) (f : Fact) (t : Tx) → IsLast is_before (touches_fact s f) ms t →
    is_maximal s ms f t ≡ true
maximal_last s ms f t l = effects.top_test is_before (adds_fact s f) (removes_fact s f) true ms t l

pub last_maximal : (s : Specification) (ms : List Tx) (f : Fact) (t : Tx) → IsMember ms t →
    is_maximal s ms f t ≡ true → IsLast is_before (touches_fact s f) ms t
last_maximal s ms f t m h = effects.test_top is_before (adds_fact s f) (removes_fact s f) true ms t m h
