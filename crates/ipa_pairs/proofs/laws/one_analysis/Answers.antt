use Rattle.std.proofs.Common.{◌≡◌, subst, sym}
use Rattle.ipa_spec.specs.Actions.{IsAction}
use Rattle.ipa_pairs.specs.Width.{IsDeclared, IsOfPair}
use Rattle.ipa_ground.specs.FactsLaws.{AreShort-from_fit}
use Rattle.ipa_pairs.proofs.OneAnalysisLemmas.{same-example, same-drop, one-report, one-drop-report}
use Rattle.ipa_pairs.proofs.laws.one_analysis.Goals as goal

pub returns : goal.returns
returns c = record {
  example = λ s d e fit. same-example s (AreShort-from_fit s fit) d e;
  unsafe_drop = λ s d e fit. same-drop s (AreShort-from_fit s fit) d e;
  pair = λ s left right one other fit l r h k. one-report s (AreShort-from_fit s fit) (c.conflicts_are_on_patterns.ensures.conflict s) (IsOfPair s left right)
      (λ t q. (subst (IsAction s) (sym q.left_is) l, subst (IsAction s) (sym q.right_is) r)) one other h.conflicts k.conflicts;
  analysis = λ s one other fit h k.
      let conflicts : one.conflicts ≡ other.conflicts = one-report s (AreShort-from_fit s fit) (c.conflicts_are_on_patterns.ensures.conflict s) (IsDeclared s)
      (λ t q. (q.left, q.right)) one.conflicts other.conflicts h.conflicts k.conflicts in
      let drops : one.unsafe_drops ≡ other.unsafe_drops = one-drop-report s (AreShort-from_fit s fit) (c.unsafe_drops_are_on_patterns.ensures.breaks s) one.unsafe_drops other.unsafe_drops h.unsafe_drops k.unsafe_drops in
      λ i. record { conflicts = conflicts i; unsafe_drops = drops i };
}
