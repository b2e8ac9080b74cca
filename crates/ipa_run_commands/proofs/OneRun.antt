-- For what is handed back of a run, an input has one verdict.
--
--   ran-handed        what is handed back tells the run, and that there was one
--   one-turned_down   an input that is turned down has one status and text
--   one-told          so has a run of an input
--   one-run           an input has one verdict, for what is handed back
use Rattle.std.proofs.Common.{◌≡◌, ℕ, List, Some, None, sym, ap, ◌∙◌, subst}
use Rattle.ipa_reader.specs.declared.document.Document.{Document}
use Rattle.ipa_command.specs.Verdicts.{AfterWidth, AfterAcceptance, Nothing, longest_document}
use Rattle.ipa_command.specs.VerdictLaws.{AreOne, IsOne, one-after_length, one-after_reading, one-after_width, one-after_acceptance}
use Rattle.ipa_run_commands.specs.Runs.{told}
use Rattle.ipa_run_commands.specs.RunVerdicts.{Handed, nothing, handed_of, IsUnfit, IsTurnedDown, IsTold, RunVerdict}
use Rattle.ipa_run_commands.specs.RunVerdicts.RunVerdict.{turned_down, runs}
use Rattle.ipa_run_commands.specs.declared.runs.Ran.{Ran}
use Rattle.ipa_run_commands.specs.declared.runs.Ran.TheVariants.{Ended, Full}
use Rattle.ipa_run_commands.specs.declared.telling.Telling.{Telling}

-- what is handed back of a run is not nothing
handed-something : (ran : Ran) → handed_of ran ≡ nothing → ⊥
handed-something (Ended end) e =
    let some : Some end ≡ None = ap (λ (h : Handed). h.end) e in
    cc
handed-something (Full fates) e =
    let some : Some fates ≡ None = ap (λ (h : Handed). h.full) e in
    cc

-- it tells the run
ran-handed : (one other : Ran) → handed_of one ≡ handed_of other → one ≡ other
ran-handed (Ended end) (Ended last) e =
    let same : Some end ≡ Some last = ap (λ (h : Handed). h.end) e in
    cc
ran-handed (Ended end) (Full fates) e =
    let some : Some end ≡ None = ap (λ (h : Handed). h.end) e in
    cc
ran-handed (Full fates) (Ended end) e =
    let some : None ≡ Some end = ap (λ (h : Handed). h.end) e in
    cc
ran-handed (Full fates) (Full given) e =
    let same : Some fates ≡ Some given = ap (λ (h : Handed). h.full) e in
    cc

module _ (laws : AreOne) where
  -- an input that is turned down has one status and text
  one-turned_down : (bytes : List ℕ) → IsOne (IsTurnedDown bytes)
  one-turned_down bytes =
      one-after_length longest_document bytes (IsUnfit bytes)
      (one-after_reading laws bytes (λ document. AfterWidth document.spec (AfterAcceptance document.spec Nothing))
      (λ document reads fit. one-after_width laws document.spec (AfterAcceptance document.spec Nothing)
      (one-after_acceptance laws document.spec fit Nothing (λ status end text other h k. absurd h))))

  -- so has a run of an input
  one-told : (telling : Telling) (number : ℕ) (bytes : List ℕ) (ran : Ran) → IsOne (IsTold telling number bytes ran)
  one-told telling number bytes ran status end text other h k =
      let same : h.document ≡ k.document = laws.documents bytes h.document k.document h.reads k.reads in (
        h.status_is ∙ sym k.status_is,
        h.text_is ∙ (ap (λ (document : Document). told telling number document ran) same ∙ sym k.text_is),
      )

  -- an input has one verdict, for what is handed back
  pub one-run : (telling : Telling) (number : ℕ) (handed : Handed) (bytes : List ℕ) →
      IsOne (RunVerdict telling number handed bytes)
  one-run telling number handed bytes status end text other (turned_down e h) (turned_down f k) =
      one-turned_down bytes status end text other h k
  one-run telling number handed bytes status end text other (turned_down e h) (runs ran f k) =
      absurd (handed-something ran (sym f ∙ e))
  one-run telling number handed bytes status end text other (runs ran e h) (turned_down f k) =
      absurd (handed-something ran (sym e ∙ f))
  one-run telling number handed bytes status end text other (runs ran e h) (runs another f k) =
      one-told telling number bytes ran status end text other h
      (subst (λ (r : Ran). IsTold telling number bytes r end other) (ran-handed another ran (sym f ∙ e)) k)
