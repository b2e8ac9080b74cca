-- An input has one verdict, if what comes after the first cases is one.
--
--   AreOne                 the laws that this stands on: there is one reading, one analysis, and one first triple that is
--                          too wide
--   IsOne Says             there is one status and text of which `Says` tells
--   one-after_length, one-after_reading, one-after_width, one-after_acceptance
--                          each of the first cases keeps this
use Rattle.std.proofs.Common.{◌≡◌, ℕ, List, sym, ap, ◌∙◌, subst, arith}
use Rattle.ipa_spec.specs.Fits.{IsFit}
use Rattle.ipa_spec.specs.Limits.{IsFaultless}
use Rattle.ipa_spec.specs.FaultlessFits.{IsFit-from_faultless}
use Rattle.ipa_spec.specs.declared.specification.Specification.{Specification}
use Rattle.ipa_pairs.specs.Width.{Triple, IsDeclared, IsFirstTooWide, IsNarrow}
use Rattle.ipa_pairs.specs.Analyses.{IsAnalysis}
use Rattle.ipa_pairs.specs.declared.analysis.Analysis.{Analysis}
use Rattle.ipa_reader.specs.Documents.{ReadsAs, IsRefused}
use Rattle.ipa_reader.specs.declared.document.Document.{Document}
use Rattle.ipa_reader.specs.declared.refusals.DocKind.{DocKind}
use Rattle.ipa_report.specs.Reports.{report_text}
use Rattle.ipa_report.specs.Refusals.{refusal_text, too_wide_text}
use Rattle.ipa_command.specs.Verdicts.{IsRefusal, IsWidthRefusal, IsReport, AfterLength, AfterReading, AfterWidth, AfterAcceptance}
use Rattle.ipa_command.specs.Verdicts.AfterLength.{too_long, within}
use Rattle.ipa_command.specs.Verdicts.AfterReading.{unread, read}
use Rattle.ipa_command.specs.Verdicts.AfterWidth.{too_wide, narrow}
use Rattle.ipa_command.specs.Verdicts.AfterAcceptance.{rejected, accepted}
use Rattle.ipa_command.specs.declared.status.Status.{Status}

-- there is one reading of a text, one analysis of a specification, and one first triple that is too wide
pub record AreOne : Type 0 where
  pub documents : (bytes : List ℕ) (document other : Document) → ReadsAs bytes document → ReadsAs bytes other → document ≡ other
  pub refusals : (bytes : List ℕ) (line other : ℕ) (kind another : DocKind) → IsRefused bytes line kind → IsRefused bytes other another → (line ≡ other) × (kind ≡ another)
  pub apart : (bytes : List ℕ) (document : Document) (line : ℕ) (kind : DocKind) → ReadsAs bytes document → IsRefused bytes line kind → ⊥
  pub faultless : (bytes : List ℕ) (document : Document) → ReadsAs bytes document → IsFaultless document.spec
  pub analysis : (s : Specification) (one other : Analysis) → IsFit s → IsAnalysis s one → IsAnalysis s other → one ≡ other
  pub too_wide : (s : Specification) (t u : Triple) (count other : ℕ) → IsFirstTooWide s (IsDeclared s) t count → IsFirstTooWide s (IsDeclared s) u other → (t ≡ u) × (count ≡ other)

-- there is one status and text of which `Says` tells
abbrev pub IsOne : (Status → List ℕ → Type 0) → Type 0
IsOne Says = (status end : Status) (text other : List ℕ) → Says status text → Says end other → (status ≡ end) × (text ≡ other)

pub one-after_length : (most : ℕ) (bytes : List ℕ) (Later : Status → List ℕ → Type 0) → IsOne Later → IsOne (AfterLength most bytes Later)
one-after_length most bytes Later one status end text other (too_long l s t) (too_long m u v) = (s ∙ sym u, t ∙ sym v)
one-after_length most bytes Later one status end text other (too_long l s t) (within m k) = absurd (omega arith)
one-after_length most bytes Later one status end text other (within l h) (too_long m u v) = absurd (omega arith)
one-after_length most bytes Later one status end text other (within l h) (within m k) = one status end text other h k

-- where a triple is too wide, not all are narrow
not_narrow : (s : Specification) (text : List ℕ) → IsWidthRefusal s text → IsNarrow s (IsDeclared s) → ⊥
not_narrow s text h all = all.narrow (record { left = h.left; right = h.right; clause = h.clause }) h.first.in_question h.first.too_wide

module _ (laws : AreOne) where
  one-report : (s : Specification) (text other : List ℕ) → IsFit s → IsReport s text → IsReport s other → text ≡ other
  one-report s text other fit h k = h.text_is ∙ (ap (report_text s) (laws.analysis s h.analysis k.analysis fit h.rejected.analysis k.rejected.analysis) ∙ sym k.text_is)

  one-width_refusal : (s : Specification) (text other : List ℕ) → IsWidthRefusal s text → IsWidthRefusal s other → text ≡ other
  one-width_refusal s text other h k =
      let parts = laws.too_wide s (record { left = h.left; right = h.right; clause = h.clause }) (record { left = k.left; right = k.right; clause = k.clause }) h.count k.count h.first k.first in
      h.text_is ∙ ((λ i. let t : Triple = parts.0 i in too_wide_text s t.left t.right t.clause (parts.1 i)) ∙ sym k.text_is)

  one-refusal : (bytes text other : List ℕ) → IsRefusal bytes text → IsRefusal bytes other → text ≡ other
  one-refusal bytes text other h k =
      let parts = laws.refusals bytes h.line k.line h.kind k.kind h.refused k.refused in
      h.text_is ∙ ((λ i. refusal_text (parts.0 i) (parts.1 i)) ∙ sym k.text_is)

  pub one-after_acceptance : (s : Specification) → IsFit s → (Later : Status → List ℕ → Type 0) → IsOne Later → IsOne (AfterAcceptance s Later)
  one-after_acceptance s fit Later one status end text other (rejected l h) (rejected m k) = (l ∙ sym m, one-report s text other fit h k)
  one-after_acceptance s fit Later one status end text other (rejected l h) (accepted m k) = absurd (h.rejected.not_accepted m)
  one-after_acceptance s fit Later one status end text other (accepted l h) (rejected m k) = absurd (k.rejected.not_accepted l)
  one-after_acceptance s fit Later one status end text other (accepted l h) (accepted m k) = one status end text other h k

  pub one-after_width : (s : Specification) (Later : Status → List ℕ → Type 0) → IsOne Later → IsOne (AfterWidth s Later)
  one-after_width s Later one status end text other (too_wide l h) (too_wide m k) = (l ∙ sym m, one-width_refusal s text other h k)
  one-after_width s Later one status end text other (too_wide l h) (narrow m k) = absurd (not_narrow s text h m)
  one-after_width s Later one status end text other (narrow l h) (too_wide m k) = absurd (not_narrow s other k l)
  one-after_width s Later one status end text other (narrow l h) (narrow m k) = one status end text other h k

  -- what comes later has to be one only for the document that the bytes read as
  pub one-after_reading : (bytes : List ℕ) (Later : Document → Status → List ℕ → Type 0) → ((document : Document) → ReadsAs bytes document → IsFit document.spec → IsOne (Later document)) → IsOne (AfterReading bytes Later)
  one-after_reading bytes Later one status end text other (unread l h) (unread m k) = (l ∙ sym m, one-refusal bytes text other h k)
  one-after_reading bytes Later one status end text other (unread l h) (read d m k) = absurd (laws.apart bytes d h.line h.kind m h.refused)
  one-after_reading bytes Later one status end text other (read d l h) (unread m k) = absurd (laws.apart bytes d k.line k.kind l k.refused)
  one-after_reading bytes Later one status end text other (read d l h) (read e m k) =
      let same : e ≡ d = laws.documents bytes e d m l in
      one d l (IsFit-from_faultless d.spec (laws.faultless bytes d l)) status end text other h
      (subst (λ (f : Document). Later f end other) same k)
