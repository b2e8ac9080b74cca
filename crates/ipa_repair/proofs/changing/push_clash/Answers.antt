use Rattle.std.proofs.lemmas.Bool.{MatchBool-at_true, MatchBool-at_false}
use Rattle.std.proofs.lemmas.Result.{on_ok_weaker}
use Rattle.ipa_repair.specs.Showing.{IsClash, clash}
use Rattle.ipa_repair.proofs.ChosenLemmas.{gains-taken, gains-passed}
use Rattle.ipa_repair.proofs.changing.push_clash.Goals as goal

pub returns-then-not-is_clash : goal.returns-then-not-is_clash
returns-then-not-is_clash c =
    let here = IsClash c.args.next.now (clash c.args.left c.args.right c.args.number) in
    record {
      same = c.is_clash_after.ensures.same;
      gains = gains-passed (IsClash c.args.next.now) (clash c.args.left c.args.right c.args.number) c.args.found.now
          (MatchBool-at_false here (here → ⊥) c.if-not-is_clash.true c.in_ok-is_clash.ensures.found);
    }

pub returns : goal.returns
returns c =
    let here = IsClash c.args.next.now (clash c.args.left c.args.right c.args.number) in
    record {
      same = c.is_clash_after.ensures.same;
      gains = on_ok_weaker c.push.result
          (λ grown. gains-taken (IsClash c.args.next.now) (clash c.args.left c.args.right c.args.number) c.args.found.now c.push.new.self
          (MatchBool-at_true here (here → ⊥) c.if-not-is_clash.false c.in_ok-is_clash.ensures.found) grown)
          c.push.ensures.ok;
    }
