use Rattle.std.proofs.Common.{◌≡◌, ℕ, List, length, sym, ◌∙◌, ap}
use Rattle.std.proofs.lemmas.Bool.{false≢true}
use Rattle.std.proofs.lemmas.List.{length-map}
use Rattle.ipa_spec.specs.declared.specification.Specification.{Specification}
use Rattle.ipa_logic.specs.Facts.{IsStateOf}
use Rattle.ipa_logic.specs.declared.facts.Fact.{Fact}
use Rattle.ipa_history.specs.Values.{value_of}
use Rattle.ipa_history.specs.declared.history.Tx.{Tx}
use Rattle.ipa_gate.specs.Settings.{SettingParts}
use Rattle.ipa_reader.specs.declared.sessions.SessionWork.{SessionWork}
use Rattle.ipa_journal.specs.declared.journal.OutLine.{OutLine}
use Rattle.ipa_audit.specs.Journals.{requests_of}
use Rattle.ipa_audit.specs.GoodLines.{IsComplete, IsIncomplete}
use Rattle.ipa_audit.proofs.VerdictLemmas.{missing_at, wrong_at, legal_at, moved}
use Rattle.ipa_audit.proofs.auditing.audit_end.Goals as goal

sessions_of : (sessions : List SessionWork) (n : ℕ) → n ≡ length sessions → n ≡ length (requests_of sessions)
sessions_of sessions n e = e ∙ sym (length-map sessions (λ (w : SessionWork). w.requests))

pub returns-then-not-branch : goal.returns-then-not-branch
returns-then-not-branch c =
    let log = c.args.log.now in
    let xs = c.args.setup.now.sessions in
    missing_at log.setting (requests_of xs) c.args.journal.now (sessions_of xs log.setting.sessions c.requires.sessions)
    log.entries c.requires.entries c.entries-entries.ensures.log c.requires.taken c.requires.good
    (moved (λ (ws : List SessionWork) (es : List Tx) (os : List OutLine). IsIncomplete (requests_of ws) es os) _ _ _ _ _ _
    c.as_slice-sessions.ensures (c.as_slice.ensures.history ∙ c.entries-entries.ensures.entries) c.as_slice-2.ensures
    (rw c.if-not-branch.true at c.in_ok-is_complete.ensures))

pub returns-then-not-branch-2 : goal.returns-then-not-branch-2
returns-then-not-branch-2 c =
    let log = c.args.log.now in
    let xs = c.args.setup.now.sessions in
    let last = c.args.journal.now.last in
    let spec = c.spec.ensures.spec ∙ (c.accepted.ensures.spec ∙ ap (λ (s : SettingParts). s.spec) c.setting-setting.ensures) in
    let base = c.base.ensures ∙ ap (λ (s : SettingParts). s.base) c.setting-setting.ensures in
    wrong_at log.setting (requests_of xs) c.args.journal.now (sessions_of xs log.setting.sessions c.requires.sessions)
    log.entries c.requires.entries c.entries-entries.ensures.log c.requires.taken c.requires.good
    (moved (λ (ws : List SessionWork) (es : List Tx) (os : List OutLine). IsComplete (requests_of ws) es os) _ _ _ _ _ _
    c.as_slice-sessions.ensures (c.as_slice.ensures.history ∙ c.entries-entries.ensures.entries) c.as_slice-2.ensures
    (rw c.if-not-branch.false at c.in_ok-is_complete.ensures))
    (λ is. false≢true (sym c.if-not-branch-2.true ∙ c.in_ok-is_final.ensures.1
    (moved (λ (s : Specification) (b : List Fact) (es : List Tx). IsStateOf (value_of s b es) last) _ _ _ _ _ _
    (sym spec) (sym base) (sym c.requires.same) is)))

pub returns : goal.returns
returns c =
    let log = c.args.log.now in
    let xs = c.args.setup.now.sessions in
    let last = c.args.journal.now.last in
    let spec = c.spec.ensures.spec ∙ (c.accepted.ensures.spec ∙ ap (λ (s : SettingParts). s.spec) c.setting-setting.ensures) in
    let base = c.base.ensures ∙ ap (λ (s : SettingParts). s.base) c.setting-setting.ensures in
    legal_at log.setting (requests_of xs) c.args.journal.now (sessions_of xs log.setting.sessions c.requires.sessions)
    log.entries c.requires.entries c.entries-entries.ensures.log c.requires.taken c.requires.good
    (moved (λ (ws : List SessionWork) (es : List Tx) (os : List OutLine). IsComplete (requests_of ws) es os) _ _ _ _ _ _
    c.as_slice-sessions.ensures (c.as_slice.ensures.history ∙ c.entries-entries.ensures.entries) c.as_slice-2.ensures
    (rw c.if-not-branch.false at c.in_ok-is_complete.ensures))
    (moved (λ (s : Specification) (b : List Fact) (es : List Tx). IsStateOf (value_of s b es) last) _ _ _ _ _ _
    spec base c.requires.same (c.in_ok-is_final.ensures.0 c.if-not-branch-2.false))
    c.len.result (c.len.ensures ∙ ap length c.entries-entries.ensures.entries)
