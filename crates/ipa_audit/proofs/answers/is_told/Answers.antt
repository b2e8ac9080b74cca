use Rattle.std.proofs.Common.{sym, subst}
use Rattle.ipa_history.specs.Answers.{IsAnswer}
use Rattle.ipa_history.specs.declared.answers.Answer.{Answer}
use Rattle.ipa_sets.specs.AtCuts.{facts_of}
use Rattle.ipa_audit.specs.GoodLines.IsFalse.{over}
use Rattle.ipa_audit.proofs.GoodLemmas.{answered_or_false}
use Rattle.ipa_audit.proofs.answers.is_told.Goals as goal

pub is_calm_at-requires-clause-at : goal.is_calm_at-requires-clause-at
is_calm_at-requires-clause-at c = record { legal = c.requires.legal; closed = c.requires.closed }

pub returns-then-not-is_calm_at : goal.returns-then-not-is_calm_at
returns-then-not-is_calm_at c =
    let at = c.at-view.ensures.state c.args.spec.now c.requires.indexed in
    over (record {
      state = facts_of c.at-view.result;
      at = at;
      over = rw c.if-not-is_calm_at.true at (c.is_calm_at.ensures (facts_of c.at-view.result) at);
    })

pub answer_at-requires-clause-within : goal.answer_at-requires-clause-within
answer_at-requires-clause-within c = record {
  within = λ state at. rw c.if-not-is_calm_at.false at (c.is_calm_at.ensures state at);
}

pub returns : goal.returns
returns c =
    let s = c.args.spec.now in
    let o = c.args.out.now in
    let at = c.at-view.ensures.state s c.requires.indexed in
    answered_or_false s c.args.universe.now.sizes c.args.base.now c.args.index.now.entries c.args.request.now o
    c.is_entered.result c.is_entered.ensures
    (record {
      closed = c.requires.closed;
      state = facts_of c.at-view.result;
      at = at;
      within = rw c.if-not-is_calm_at.false at (c.is_calm_at.ensures (facts_of c.at-view.result) at);
    })
    (subst (λ (a : Answer). IsAnswer s c.args.universe.now.sizes c.args.base.now c.args.index.now.entries o.cut o.session
    c.args.request.now a) (sym (c.in_ok-is_same_answer.ensures.0 c.if-not-branch.false)) c.in_ok-answer.ensures)
