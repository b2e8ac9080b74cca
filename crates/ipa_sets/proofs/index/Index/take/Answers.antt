use Rattle.std.proofs.Common.{◌++◌, ◌∷◌, [], ◌∙◌, List, ap, sym, subst}
use Rattle.ipa_history.specs.Histories.{IsHistory}
use Rattle.ipa_history.specs.declared.history.Tx.{Tx}
use Rattle.ipa_sets.proofs.IndexLemmas.{last_origin}
use Rattle.ipa_sets.proofs.index.Index.take.Goals as goal

pub prepare-requires-clause-origin : goal.prepare-requires-clause-origin
prepare-requires-clause-origin c = last_origin c.args.self.now.entries c.args.tx.now c.requires.next

pub put-requires-clause-next : goal.put-requires-clause-next
put-requires-clause-next c = subst (λ (h : List Tx). IsHistory (h ++ c.args.tx.now ∷ [])) (sym c.prepare.ensures.entries) c.requires.next

pub returns-clause-ok : goal.returns-clause-ok
returns-clause-ok c = c.put.ensures.entries ∙ ap (λ (h : List Tx). h ++ c.args.tx.now ∷ []) c.prepare.ensures.entries
