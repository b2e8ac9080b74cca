use Rattle.std.proofs.Common.{◌≡◌, sym, ◌∙◌, subst}
use Rattle.std.proofs.lemmas.Bool.{false≢true}
use Rattle.ipa_history.specs.HistoryLaws as histories
use Rattle.ipa_history.specs.declared.history.Tx.{Tx}
use Rattle.ipa_audit.specs.Operations.{IsOfOperation}
use Rattle.ipa_audit.proofs.answers.is_entry.Goals as goal

pub returns-in-Some : goal.returns-in-Some
returns-in-Some c =
    let h = c.args.index.now.entries in
    let named = c.in-Some.ensures c.args._spec.now c.requires in (
      λ b. let is = c.is_of_operation.ensures.0 b in record {
        tx = c.in-Some.tx.now;
        member = named.member;
        dot = named.named;
        cut_is = is.cut_is;
        action = is.action;
        args_are = is.args_are;
      },
      λ e.
          let same : e.tx ≡ c.in-Some.tx.now = histories.one_named h c.requires.history e.tx c.in-Some.tx.now e.member
          named.member (e.dot ∙ sym named.named) in
          c.is_of_operation.ensures.1
          (subst (λ (t : Tx). IsOfOperation t c.args.cut.now c.args.op c.args.args.now) same
          (record { cut_is = e.cut_is; action = e.action; args_are = e.args_are })),
    )

pub returns-in-None : goal.returns-in-None
returns-in-None c = (
  λ h. absurd (false≢true h),
  λ e. let none = c.in-None.ensures c.args._spec.now c.requires in absurd (none.none e.tx e.member e.dot),
)
