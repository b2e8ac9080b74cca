use Rattle.std.proofs.Common.{◌≡◌, List, None, Some, sym, subst}
use Rattle.ipa_history.specs.declared.history.Tx.{Tx}
use Rattle.ipa_gate.specs.Logs.{IsLog}
use Rattle.ipa_gate.specs.LogLaws.{IsLog-empty}
use Rattle.ipa_gate.proofs.log.Log.new.Goals as goal

pub invariant_of-result : goal.invariant_of-result
invariant_of-result c = record {
  log = subst (λ (h : List Tx). IsLog c.args.setting h) (sym c.new.ensures.entries)
      (IsLog-empty c.args.setting c.accepted-accepted.ensures.setting);
  indexed = c.new.ensures.indexed c.args.setting.spec;
  readied = λ t e none. absurd (let other : None ≡ Some t = e in cc);
}
