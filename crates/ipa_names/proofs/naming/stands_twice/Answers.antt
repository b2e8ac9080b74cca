use Rattle.std.proofs.Common.{sym, arith}
use Rattle.ipa_names.proofs.RepeatLemmas.{seen_twice, seen_once, not_false, not_true}
use Rattle.ipa_names.proofs.naming.stands_twice.Goals as goal

pub returns-then-not-branch : goal.returns-then-not-branch
returns-then-not-branch c =
    sym (seen_twice c.equal_names.ensures c.args.names.now c.loop-name.seen.keys c.loop-name.name-index c.name-item.result (omega arith) c.name-item.is c.loop-name.invariant.0 (not_false _ _ c.in_ok-insert.ensures.added c.if-not-branch.true))

pub loop-name-preserved : goal.loop-name-preserved
loop-name-preserved c =
    seen_once c.equal_names.ensures c.args.names.now c.loop-name.seen.keys c.insert.new.self.keys c.loop-name.name-index c.name-item.result (omega arith) c.name-item.is c.loop-name.invariant.0 c.loop-name.invariant.1 (not_true _ _ c.in_ok-insert.ensures.added c.if-not-branch.false) c.in_ok-insert.ensures.keys
