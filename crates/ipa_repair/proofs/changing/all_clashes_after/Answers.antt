use Rattle.std.proofs.Common.{◌≡◌, ℕ, List, [], refl, sym, ◌∙◌, subst, arith}
use Rattle.std.specs.List.{flat_map}
use Rattle.ipa_spec.specs.declared.operations.Action.{Action}
use Rattle.ipa_ground.specs.Enumeration.{numbers}
use Rattle.ipa_repair.specs.Chosen.{Gains}
use Rattle.ipa_repair.specs.Greedy.{action_count, action_at}
use Rattle.ipa_repair.specs.Showing.{IsClash, clashes_of_left, all_clashes}
use Rattle.ipa_repair.specs.declared.clashes.Clash.{Clash}
use Rattle.ipa_repair.proofs.ChosenLemmas.{gains-start, gains-more, gains-alone}
use Rattle.ipa_repair.proofs.AllClashesLemmas.{clashes-from}
use Rattle.ipa_repair.proofs.changing.all_clashes_after.Goals as goal

pub loop-place-init : goal.loop-place-init
loop-place-init c = (
  subst (λ (xs : List Clash). Gains (IsClash c.args.next.now) (flat_map (λ i. clashes_of_left c.args.next.now (action_at c.args.next.now i)) (numbers 0)) [] xs)
      (sym c.new-found.ensures) (gains-start (IsClash c.args.next.now) (λ i. clashes_of_left c.args.next.now (action_at c.args.next.now i)) []),
  refl,
)

pub loop-place-preserved : goal.loop-place-preserved
loop-place-preserved c = (
  gains-more (IsClash c.args.next.now) (λ i. clashes_of_left c.args.next.now (action_at c.args.next.now i)) c.loop-place.place [] _ _
      c.loop-place.invariant.0
      (subst (λ (a : Action). Gains (IsClash c.args.next.now) (clashes_of_left c.args.next.now a) c.loop-place.found c.push_clashes_of_left.new.found)
      c.action_at-left.ensures c.in_ok-push_clashes_of_left.ensures.gains),
  c.push_clashes_of_left.ensures.same ∙ c.loop-place.invariant.1,
)

pub returns : goal.returns
returns c =
    let ended : c.loop-place.place ≡ action_count c.args.next.now =
    omega (arith, c.action_count-place-end.ensures, c.loop-place-test.false, c.loop-place.auto.place-end) in
    clashes-from c.args.next.now c.loop-place.found
    (gains-alone (IsClash c.args.next.now) (all_clashes c.args.next.now) c.loop-place.found
    (subst (λ (n : ℕ). Gains (IsClash c.args.next.now) (flat_map (λ i. clashes_of_left c.args.next.now (action_at c.args.next.now i)) (numbers n)) [] c.loop-place.found)
    ended c.loop-place.invariant.0))
