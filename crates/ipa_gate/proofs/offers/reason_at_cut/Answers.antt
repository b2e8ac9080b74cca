use Rattle.std.proofs.Common.{◌≡◌, sym, ◌∙◌, subst}
use Rattle.std.specs.Prelude.{MatchOption}
use Rattle.ipa_spec.specs.Fits.{IsFit}
use Rattle.ipa_spec.specs.declared.specification.Specification.{Specification}
use Rattle.ipa_history.specs.Legality.{IsLegal, IsIllegal}
use Rattle.ipa_sets.specs.Indexes.{IsIndexOf}
use Rattle.ipa_gate.specs.Verdicts.{IsAtCut}
use Rattle.ipa_gate.specs.VerdictLaws.{moved}
use Rattle.ipa_gate.proofs.VerdictLemmas.{IsAtCut-next}
use Rattle.ipa_gate.proofs.offers.reason_at_cut.Goals as goal

pub reason_between-requires-clause-indexed : goal.reason_between-requires-clause-indexed
reason_between-requires-clause-indexed c =
    subst (λ (s : Specification). IsIndexOf s c.args.index.now) (sym (c.spec-spec.ensures.spec ∙ c.accepted.ensures.spec))
    c.requires.indexed

pub reason_between-requires-clause-at : goal.reason_between-requires-clause-at
reason_between-requires-clause-at c =
    let same : c.spec-spec.result.now ≡ c.args.setting.now.spec = c.spec-spec.ensures.spec ∙ c.accepted.ensures.spec in
    moved (λ s u b. IsAtCut s u b c.args.index.now.entries c.args.tx.now) _ _ _ _ _ _
    (sym same) (sym c.universe.ensures) (sym c.base.ensures)
    (IsAtCut-next c.args.setting.now (subst (λ (s : Specification). IsFit s) same c.spec_is_fit.ensures.fit)
    c.accepted.ensures.setting c.args.index.now.entries c.requires.log c.args.tx.now c.requires.next)

pub returns : goal.returns
returns c =
    moved (λ s u b. MatchOption c.reason_between.result (IsLegal s u b c.args.index.now.entries c.args.tx.now)
    (IsIllegal s u b c.args.index.now.entries c.args.tx.now)) _ _ _ _ _ _
    (c.spec-spec.ensures.spec ∙ c.accepted.ensures.spec) c.universe.ensures c.base.ensures c.reason_between.ensures
