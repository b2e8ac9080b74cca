use Rattle.std.proofs.Common.{◌≡◌, ◌*◌, true, List, map, refl, sym, ◌∙◌, ap, subst, arith}
use Rattle.ipa_history.specs.NextLaws.{IsMore-push}
use Rattle.ipa_logic.specs.Facts.{has}
use Rattle.ipa_logic.specs.declared.facts.Fact.{Fact}
use Rattle.ipa_sets.specs.FactSetLaws.{facts-push}
use Rattle.ipa_sets.specs.Fitting.{concerns, truth_in}
use Rattle.ipa_sets.proofs.RowLemmas.{on-err}
use Rattle.ipa_sets.proofs.TruthLemmas.{told-all, truth-stays}
use Rattle.ipa_sets.proofs.facts.Facts.take.Goals as goal

pub invariant_of-self-2 : goal.invariant_of-self-2
invariant_of-self-2 c = let v = c.prepare.new.self in record {
  rising = v.rising;
  told = told-all (truth_in v.adds_win v.base c.put_effects.new.self) (truth_in v.adds_win v.base v.rows) v.known.facts.items
      (concerns c.args.spec.now c.args.tx.now) v.known.truths.items c.tell_concerned.new.self.truths.items v.known.even v.told
      (λ f none. truth-stays c.args.spec.now c.args.tx.now f v.rows c.put_effects.new.self v.adds_win v.base c.in_ok-put_effects.ensures.rows none)
      c.tell_concerned.ensures.truths
      ∙ sym (ap (map (truth_in v.adds_win v.base c.put_effects.new.self)) c.tell_concerned.ensures.facts);
}

pub returns-in_err-prepare-clause-refused : goal.returns-in_err-prepare-clause-refused
returns-in_err-prepare-clause-refused c base taken is = on-err c.from_residual.result (c.prepare.ensures.same c.args.spec.now base taken is)

pub returns-then-tx-ge16-clause-taken : goal.returns-then-tx-ge16-clause-taken
returns-then-tx-ge16-clause-taken c base taken is history =
    let low = history.origins c.args.tx.now (IsMore-push taken c.args.tx.now).new in
    absurd (omega (arith, low, c.if-tx-ge16.true))

pub returns-clause-taken : goal.returns-clause-taken
returns-clause-taken c base taken is history = facts-push c.args.spec.now base taken c.prepare.new.self
    (c.prepare.ensures.same c.args.spec.now base taken is) _ c.args.tx.now history refl refl
    (λ f h. subst (λ (xs : List Fact). has xs f ≡ true) (sym c.tell_concerned.ensures.facts) h)
    (λ f h. subst (λ (xs : List Fact). has xs f ≡ true) (sym c.tell_concerned.ensures.facts) (c.in_ok-prepare.ensures.ready.known f h))
    c.in_ok-put_effects.ensures.rows

pub returns-clause-room : goal.returns-clause-room
returns-clause-room c n room =
    let rest = (c.prepare.ensures.room n room).1 in
    let rows = room.rows in
    let one = c.prepare.ensures.spare in
    let two = c.put_effects.ensures.spare in
    (refl, record { known = c.tell_concerned.ensures.kept (12 * n) rest.known; rows = omega (arith, rows, one, two) })
