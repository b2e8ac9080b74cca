-- A text has one reading.
--
--   documents_one   the document that it reads as
--   refusals_one    its refusal
--   readings_apart  it is not both
use Rattle.std.proofs.Common.{◌≡◌, ℕ, ◌<◌, inl, inr, List, length, take, sym, ap, subst, ◌∙◌, arith}
use Rattle.std.specs.List.{slice_get}
use Rattle.std.proofs.lemmas.Bool.{cases_order}
use Rattle.std.proofs.lemmas.List.{take-take}
use Rattle.std.proofs.lemmas.Option.{same_Some}
use mathlib.Core.HLevel.{Σ_prop_path, ×_prop}
use Rattle.ipa_spec.specs.FoundLaws.{at_take}
use Rattle.ipa_spec.specs.declared.names.Name.{Name}
use Rattle.ipa_spec.specs.declared.specification.Specification.{Specification}
use Rattle.ipa_text.specs.Lines.{line_text, lines_of}
use Rattle.ipa_logic.specs.Facts.{has, IsStateOf}
use Rattle.ipa_logic.specs.declared.facts.Fact.{Fact}
use Rattle.ipa_logic.specs.declared.facts.Universe.{Universe}
use Rattle.ipa_forms.specs.declared.forms.Form.{Form}
use Rattle.ipa_names.specs.Meaning.{specification_of}
use Rattle.ipa_reader.specs.Standings.{standing_of}
use Rattle.ipa_reader.specs.Setups.{IsSetup, IsKept, IsRefusedAtEnd}
use Rattle.ipa_reader.specs.SetupLaws.{IsSetup-prop, IsKept-prop}
use Rattle.ipa_reader.specs.Fitting.{IsFitting}
use Rattle.ipa_reader.specs.FittingLaws.{IsFitting-prop}
use Rattle.ipa_reader.specs.Documents.{SayEach, AreAccepted, IsDocumentOf, ReadsAs, IsRefusedLine, IsRefusedAtLine, IsRefusedBase, IsRefused}
use Rattle.ipa_reader.specs.Documents.IsRefused.{at_line, at_end}
use Rattle.ipa_reader.specs.declared.document.Document.{Document}
use Rattle.ipa_reader.specs.declared.document.Setup.{Setup}
use Rattle.ipa_reader.specs.declared.sessions.SessionWork.{SessionWork}
use Rattle.ipa_reader.specs.declared.standing.Standing.{Standing}
use Rattle.ipa_reader.specs.declared.refusals.DocKind.{DocKind}
use Rattle.ipa_reader.proofs.OneLine.{AreOne, refused_one, said_one, no_refusal}
use Rattle.ipa_reader.proofs.OneEnd.{state_one, end_one, kept_only}

-- the parts of a setup, and what they keep
abbrev Parts : Type 0
Parts = Universe × List (List Name) × List Fact × ℕ × List SessionWork

abbrev Fits : Parts → Type 0
Fits v = IsSetup v.0.sizes v.1 v.3 v.4

same_setup : (s t : Setup) → s.universe ≡ t.universe → s.elements ≡ t.elements → s.base ≡ t.base → s.replicas ≡ t.replicas → s.sessions ≡ t.sessions → s ≡ t
same_setup s t u e b r w =
    let parts : ◌≡◌ {A = Parts} (s.universe, s.elements, s.base, s.replicas, s.sessions) (t.universe, t.elements, t.base, t.replicas, t.sessions) = λ i. (u i, e i, b i, r i, w i) in
    let pairs : ◌≡◌ {A = (v : Parts) × Fits v} ((s.universe, s.elements, s.base, s.replicas, s.sessions), s.fits) ((t.universe, t.elements, t.base, t.replicas, t.sessions), t.fits) = Σ_prop_path (λ v. IsSetup-prop v.0.sizes v.1 v.3 v.4) parts in
    λ i. record { universe = (pairs i).0.0; elements = (pairs i).0.1; base = (pairs i).0.2; replicas = (pairs i).0.3; sessions = (pairs i).0.4; fits = (pairs i).1 }

-- what a document keeps
abbrev Promises : Specification × Setup → Type 0
Promises v = IsKept v.0 v.1.universe.sizes v.1.base × IsFitting v.0 v.1.universe.sizes v.1.elements v.1.base v.1.sessions

Promises-prop : (v : Specification × Setup) → IsProp (Promises v)
Promises-prop v = ×_prop (IsKept-prop v.0 v.1.universe.sizes v.1.base) (IsFitting-prop v.0 v.1.universe.sizes v.1.elements v.1.base v.1.sessions)

same_document : (d e : Document) → d.spec ≡ e.spec → d.setup ≡ e.setup → d ≡ e
same_document d e s t =
    let parts : ◌≡◌ {A = Specification × Setup} (d.spec, d.setup) (e.spec, e.setup) = λ i. (s i, t i) in
    let pairs : ◌≡◌ {A = (v : Specification × Setup) × Promises v} ((d.spec, d.setup), (d.kept, d.fitting)) ((e.spec, e.setup), (e.kept, e.fitting)) = Σ_prop_path (λ v. Promises-prop v) parts in
    λ i. record { spec = (pairs i).0.0; setup = (pairs i).0.1; kept = (pairs i).1.0; fitting = (pairs i).1.1 }

-- the document that some lines give
document_one : (forms : List Form) (d e : Document) → IsDocumentOf forms d → IsDocumentOf forms e → d ≡ e
document_one forms d e a b =
    let sizes = a.universe ∙ sym b.universe in
    same_document d e (a.spec ∙ sym b.spec)
    (same_setup d.setup e.setup (λ i. record { sizes = sizes i }) (a.elements ∙ sym b.elements) (state_one (standing_of forms).arranged.facts d.setup.base e.setup.base a.base b.base) (a.replicas ∙ sym b.replicas) (a.sessions ∙ sym b.sessions))

module _ (one : AreOne) (bytes : List ℕ) where
  pub documents_one : (d e : Document) → ReadsAs bytes d → ReadsAs bytes e → d ≡ e
  documents_one d e a b =
      let forms : a.forms ≡ b.forms = said_one one bytes (lines_of bytes) a.forms b.forms a.said b.said in
      document_one b.forms d e (subst (λ fs. IsDocumentOf fs d) forms a.document_is) b.document_is

  -- the lines before a refused line are accepted, so of two refused lines neither is lower
  not_lower : (n m : ℕ) (kind other : DocKind) (a : IsRefusedAtLine bytes n kind) (b : IsRefusedAtLine bytes m other) → length a.before < length b.before → ⊥
  not_lower n m kind other a b less =
      let front : take (length a.before) (take (length b.before) (lines_of bytes)) ≡ take (length a.before) (lines_of bytes) = take-take (length a.before) (length b.before) (lines_of bytes) (omega (arith, less)) in
      no_refusal one bytes (take (length b.before) (lines_of bytes)) b.before a.before a.line kind b.said b.accepted
      (subst (λ ls. SayEach bytes ls a.before) (sym front) a.said)
      (at_take (length b.before) (lines_of bytes) (length a.before) a.line less a.here)
      a.refused

  at_lines : (n m : ℕ) (kind other : DocKind) (a : IsRefusedAtLine bytes n kind) (b : IsRefusedAtLine bytes m other) → length a.before ≡ length b.before → (n ≡ m) × (kind ≡ other)
  at_lines n m kind other a b e =
      let before : a.before ≡ b.before = said_one one bytes (take (length a.before) (lines_of bytes)) a.before b.before a.said (subst (λ k. SayEach bytes (take k (lines_of bytes)) b.before) (sym e) b.said) in
      let line : a.line ≡ b.line = same_Some a.line b.line (sym a.here ∙ ap (slice_get (lines_of bytes)) e ∙ b.here) in
      let here : IsRefusedLine (standing_of b.before) (line_text bytes a.line) kind = subst (λ fs. IsRefusedLine (standing_of fs) (line_text bytes a.line) kind) before a.refused in (
        sym a.number_is ∙ ap (λ l. l.number) line ∙ b.number_is,
        refused_one one (standing_of b.before) (line_text bytes b.line) kind other (subst (λ l. IsRefusedLine (standing_of b.before) (line_text bytes l) kind) line here) b.refused,
      )

  lines_one : (n m : ℕ) (kind other : DocKind) → IsRefusedAtLine bytes n kind → IsRefusedAtLine bytes m other → (n ≡ m) × (kind ≡ other)
  lines_one n m kind other a b = elim (cases_order (length a.before) (length b.before)) [
    | inl e ↦ at_lines n m kind other a b e
    | inr (inl less) ↦ absurd (not_lower n m kind other a b less)
    | inr (inr more) ↦ absurd (not_lower m n other kind b a more)
  ]

  -- where all lines are accepted none is refused
  none_refused : (forms : List Form) (n : ℕ) (kind : DocKind) → SayEach bytes (lines_of bytes) forms → AreAccepted forms → IsRefusedAtLine bytes n kind → ⊥
  none_refused forms n kind said accepted a = no_refusal one bytes (lines_of bytes) forms a.before a.line kind said accepted a.said a.here a.refused

  ends_one : (n m : ℕ) (kind other : DocKind) → IsRefusedBase bytes n kind → IsRefusedBase bytes m other → (n ≡ m) × (kind ≡ other)
  ends_one n m kind other a b =
      let forms : a.forms ≡ b.forms = said_one one bytes (lines_of bytes) a.forms b.forms a.said b.said in
      let of : Standing = standing_of b.forms in
      let state : a.state ≡ b.state = state_one of.arranged.facts a.state b.state (subst (λ fs. IsStateOf (has (standing_of fs).arranged.facts) a.state) forms a.base) b.base in
      let here : IsRefusedAtEnd (specification_of of.declared) of.arranged.elements a.state kind = subst (λ fs. IsRefusedAtEnd (specification_of (standing_of fs).declared) (standing_of fs).arranged.elements a.state kind) forms a.refused in (
        sym a.number_is ∙ b.number_is,
        end_one (specification_of of.declared) of.arranged.elements b.state kind other (subst (λ s. IsRefusedAtEnd (specification_of of.declared) of.arranged.elements s kind) state here) b.refused,
      )

  pub refusals_one : (n m : ℕ) (kind other : DocKind) → IsRefused bytes n kind → IsRefused bytes m other → (n ≡ m) × (kind ≡ other)
  refusals_one n m kind other (at_line a) (at_line b) = lines_one n m kind other a b
  refusals_one n m kind other (at_line a) (at_end b) = absurd (none_refused b.forms n kind b.said b.accepted a)
  refusals_one n m kind other (at_end a) (at_line b) = absurd (none_refused a.forms m other a.said a.accepted b)
  refusals_one n m kind other (at_end a) (at_end b) = ends_one n m kind other a b

  kept_end : (d : Document) (n : ℕ) (kind : DocKind) → ReadsAs bytes d → IsRefusedBase bytes n kind → ⊥
  kept_end d n kind h a =
      let forms : a.forms ≡ h.forms = said_one one bytes (lines_of bytes) a.forms h.forms a.said h.said in
      let of : Standing = standing_of h.forms in
      let state : a.state ≡ d.setup.base = state_one of.arranged.facts a.state d.setup.base (subst (λ fs. IsStateOf (has (standing_of fs).arranged.facts) a.state) forms a.base) h.document_is.base in
      let here : IsRefusedAtEnd (specification_of of.declared) of.arranged.elements a.state kind = subst (λ fs. IsRefusedAtEnd (specification_of (standing_of fs).declared) (standing_of fs).arranged.elements a.state kind) forms a.refused in
      let kept : IsKept (specification_of of.declared) d.setup.universe.sizes d.setup.base = subst (λ s. IsKept s d.setup.universe.sizes d.setup.base) h.document_is.spec h.kept in
      kept_only (specification_of of.declared) of.arranged.elements d.setup.base kind
      (subst (λ sizes. IsKept (specification_of of.declared) sizes d.setup.base) h.document_is.universe kept)
      (subst (λ s. IsRefusedAtEnd (specification_of of.declared) of.arranged.elements s kind) state here)

  pub readings_apart : (d : Document) (n : ℕ) (kind : DocKind) → ReadsAs bytes d → IsRefused bytes n kind → ⊥
  readings_apart d n kind h (at_line a) = none_refused h.forms n kind h.said h.accepted a
  readings_apart d n kind h (at_end a) = kept_end d n kind h a
