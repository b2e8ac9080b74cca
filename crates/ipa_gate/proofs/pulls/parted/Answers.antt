use Rattle.std.proofs.Common.{refl, sym, ◌∙◌, subst}
use Rattle.std.proofs.lemmas.Bool.{false≢true}
use Rattle.ipa_history.specs.Histories.{IsMember}
use Rattle.ipa_history.specs.HistoryLaws.{one_named}
use Rattle.ipa_history.specs.declared.history.Tx.{Tx}
use Rattle.ipa_gate.proofs.pulls.parted.Goals as goal

pub returns-then-is_same : goal.returns-then-is_same
returns-then-is_same c =
    subst (λ (x : Tx). IsMember c.args.index.now.entries x) (c.is_same.ensures.0 c.if-is_same.true)
    c.in-Some.ensures.member

pub returns-else-is_same : goal.returns-else-is_same
returns-else-is_same c = record {
  mine = refl;
  dot = refl;
  absent = λ m. false≢true (sym c.if-is_same.false ∙ c.is_same.ensures.1
      (one_named c.args.index.now.entries c.requires.history c.in-Some.there.now c.args.tx.now
      c.in-Some.ensures.member m c.in-Some.ensures.named));
  theirs = c.in-Some.ensures;
}

pub returns-in-None : goal.returns-in-None
returns-in-None c = record {
  mine = refl;
  dot = refl;
  absent = λ m. c.in-None.ensures.none c.args.tx.now m refl;
  theirs = c.in-None.ensures;
}
