use Rattle.std.proofs.Common.{sym, ap, not, subst, take, ◌+◌, ◌∙◌, arith}
use Rattle.ipa_names.specs.Scopes.{AreIndexed}
use Rattle.ipa_names.proofs.VariableLemmas.{next_new, next_again}
use Rattle.ipa_names.proofs.variables.sorts_by_name.Goals as goal
use Rattle.ipa_names.proofs.variables.sorts_by_name.Goals.{then-is_none+in_ok-insert, else-is_none}

pub loop-variable-preserved : goal.loop-variable-preserved
loop-variable-preserved c = elim c.if-is_none.branch [
  | then-is_none+in_ok-insert w ↦
      subst (λ s. AreIndexed (take (c.loop-variable.variable-index + 1) c.args.vars.now) s.entries) (sym w.sorts-is)
      (next_new c.equal_names.ensures c.args.vars.now c.loop-variable.variable-index c.variable-item.result c.loop-variable.sorts.entries w.insert.new.self.entries c.get.result (omega arith) c.variable-item.is c.loop-variable.invariant c.get.ensures.value (c.is_none.ensures ∙ ap not w.if-is_none.true) w.in_ok-insert.ensures.entries)
  | else-is_none w ↦
      subst (λ s. AreIndexed (take (c.loop-variable.variable-index + 1) c.args.vars.now) s.entries) (sym w.sorts-is)
      (next_again c.equal_names.ensures c.args.vars.now c.loop-variable.variable-index c.variable-item.result c.loop-variable.sorts.entries c.get.result (omega arith) c.variable-item.is c.loop-variable.invariant c.get.ensures.value (c.is_none.ensures ∙ ap not w.if-is_none.false))
]
