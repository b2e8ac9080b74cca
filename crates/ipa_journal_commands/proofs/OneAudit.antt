-- An input has one verdict of `audit`.
--
--   AreOneReason      what is admitted has no reason against it, and what is not lawful has one
--   taken_fault       what is taken as new has no fault
--   one-text_of_fault a transaction that is not taken has one fault, as it is printed
--   one-bad_tx, one-bad_out   there is one first bad line among the transactions, and among the outcomes
--   one-bad           there is one first bad line, and one fault of it, as it is printed
--   IsSetting-document   a document that was read and is accepted is a setting
--   one-audit         an input has one verdict of `audit`
use Rattle.std.proofs.Common.{◌≡◌, ◌∙◌, ℕ, zero, suc, ◌<◌, List, [], ◌∷◌, ◌++◌, length, take, Option, Some, None, slice_get, refl, ap, sym, subst, arith, inl, inr}
use Rattle.std.specs.Prelude.{codes}
use Rattle.std.specs.Fmt.{decimal}
use Rattle.std.specs.Option.{option_map}
use Rattle.std.proofs.lemmas.Bool.{cases_order}
use Rattle.std.proofs.lemmas.List.{length-map, take-take}
use Rattle.std.proofs.lemmas.Option.{same_Some, slice_get-map}
use Rattle.ipa_spec.specs.Fits.{IsFit}
use Rattle.ipa_spec.specs.declared.names.Name.{Name}
use Rattle.ipa_spec.specs.declared.specification.Specification.{Specification}
use Rattle.ipa_logic.specs.Acceptance.{IsAccepted}
use Rattle.ipa_logic.specs.declared.facts.Request.{Request}
use Rattle.ipa_gate.specs.Settings.{SettingParts, IsSetting}
use Rattle.ipa_gate.specs.Offers.{IsAdmitted, IsUnlawful}
use Rattle.ipa_gate.specs.declared.answers.OfferFault.{OfferFault}
use Rattle.ipa_gate.specs.declared.answers.OfferFault.TheVariants.{Shape, Differs, Gap, OpenCut, Full, Illegal, NoMemory}
use Rattle.ipa_reader.specs.Fitting.{IsFitting}
use Rattle.ipa_reader.specs.Setups.{IsSetup, IsKept}
use Rattle.ipa_reader.specs.declared.document.Document.{Document}
use Rattle.ipa_reader.specs.declared.document.Setup.{Setup}
use Rattle.ipa_reader.specs.declared.sessions.SessionWork.{SessionWork}
use Rattle.ipa_journal.specs.declared.journal.Journal.{Journal}
use Rattle.ipa_journal.specs.declared.journal.TxLine.{TxLine}
use Rattle.ipa_journal.specs.declared.journal.OutLine.{OutLine}
use Rattle.ipa_audit.specs.Journals.{requests_of, txs_of}
use Rattle.ipa_audit.specs.BadLines.{AreTaken, IsBadAt, IsBadOut, IsFirstBadOut, IsFirstBadTx, IsRefusal, IsTxFault}
use Rattle.ipa_audit.specs.Verdicts.{IsLawfulJournal, IsVerdict}
use Rattle.ipa_audit.specs.declared.verdict.AuditFault.{AuditFault}
use Rattle.ipa_audit.specs.declared.verdict.AuditFault.TheVariants.{Offer, Repeated, Outcome, Missing, Final}
use Rattle.ipa_audit.specs.declared.verdict.Verdict.{Verdict}
use Rattle.ipa_audit.specs.declared.verdict.Verdict.TheVariants.{Legal, Bad}
use Rattle.ipa_settings.specs.DocumentSettings.{setting_of}
use Rattle.ipa_command.specs.Verdicts.{AfterReading, AfterAcceptance}
use Rattle.ipa_command.specs.Verdicts.AfterAcceptance.{rejected, accepted}
use Rattle.ipa_command.specs.VerdictLaws.{AreOne, IsOne, one-after_length, one-after_reading, one-after_width, one-after_acceptance}
use Rattle.ipa_command.specs.declared.status.Status.{Status}
use Rattle.ipa_journal_commands.specs.AuditTexts.{offer_text, fault_text, legal_text, verdict_text}
use Rattle.ipa_journal_commands.specs.Audits.{AuditVerdict, IsAudited, IsAuditOf, IsDocumentAudited, verdict_status}
use Rattle.ipa_journal_commands.specs.Journals.{AfterJournal, AreOneJournal, longest_journal}
use Rattle.ipa_journal_commands.proofs.JournalLemmas.{item_of}
use Rattle.ipa_journal_commands.proofs.OneJournal.{one-after_journal, one-after_start}

-- what is admitted has no reason against it, and what is not lawful has one
pub record AreOneReason : Type 0 where
  pub admitted : (s : SettingParts) (h : _) (t : _) (r : _) → IsAdmitted s h t → IsUnlawful s h t r → ⊥
  pub reason : (s : SettingParts) (h : _) (t : _) (r q : _) → IsUnlawful s h t r → IsUnlawful s h t q → r ≡ q

-- two places of which neither is before the other
same_place : (m n : ℕ) → (m < n → ⊥) → (n < m → ⊥) → m ≡ n
same_place m n not nor = elim (cases_order m n) [
  | inl same ↦ same
  | inr other ↦ elim other [ inl before ↦ absurd (not before) | inr after ↦ absurd (nor after) ]
]

-- what stands before the end of a front stands in it
at_front : {X : Type 0} (xs : List X) (k j : ℕ) (x : X) → j < k → slice_get xs j ≡ Some x → slice_get (take k xs) j ≡ Some x
at_front [] k j x l e = absurd (let none : None ≡ Some x = e in cc)
at_front (y ∷ ys) zero j x l e = absurd (omega arith)
at_front (y ∷ ys) (suc k) zero x l e = e
at_front (y ∷ ys) (suc k) (suc j) x l e = at_front ys k j x (omega arith) e

-- how many tests a transaction has passed that is refused so
abbrev passed : OfferFault → ℕ
passed Shape = 0
passed (Differs here there) = 1
passed (Gap origin have need) = 2
passed (OpenCut member) = 3
passed Full = 4
passed (Illegal reason) = 5
passed NoMemory = 6

-- how many parts of a journal are good behind which the fault stands
abbrev good_parts : AuditFault → ℕ
good_parts (Offer fault) = 0
good_parts Repeated = 0
good_parts Outcome = 1
good_parts Missing = 2
good_parts Final = 3

module _ (reasons : AreOneReason) (s : SettingParts) where
  -- what is taken as new has no fault
  taken_fault : (lines : List TxLine) (entry : TxLine) (fault : AuditFault) → IsAdmitted s (txs_of lines) entry.tx →
      IsTxFault s (txs_of lines) entry.tx fault → ⊥
  taken_fault lines entry (Offer Shape) is f = f.misshapen is.next.fresh.shaped
  taken_fault lines entry (Offer (Differs here there)) is f =
      is.next.fresh.unnamed.none here f.named.member f.named.named
  taken_fault lines entry (Offer (Gap origin have need)) is f =
      let low = is.next.closed.within origin in
      let has = f.has in
      let needs = f.needs in
      let lacks = f.lacks in
      omega (arith, low, has, needs, lacks)
  taken_fault lines entry (Offer (OpenCut member)) is f =
      let first = f.first.first in
      first.above (is.next.closed.below f.tx (record { place = f.first.place; at = first.at }) first.covered)
  taken_fault lines entry (Offer Full) is f = let full = f.full in let room = is.room in omega (arith, full, room)
  taken_fault lines entry (Offer (Illegal reason)) is f = reasons.admitted s (txs_of lines) entry.tx reason is f
  taken_fault lines entry (Offer NoMemory) is f = f
  taken_fault lines entry Repeated is f = is.next.fresh.unnamed.none entry.tx f refl
  taken_fault lines entry Outcome is f = f
  taken_fault lines entry Missing is f = f
  taken_fault lines entry Final is f = f

  -- no two transactions that are taken have one dot
  apart : (lines : List TxLine) → AreTaken s lines → (i k : ℕ) (x y : TxLine) → i < k → slice_get lines i ≡ Some x →
      slice_get lines k ≡ Some y → x.tx.dot ≡ y.tx.dot → ⊥
  apart lines taken i k x y before x_at y_at same =
      let there : slice_get (txs_of (take k lines)) i ≡ Some x.tx =
      slice_get-map (λ (l : TxLine). l.tx) (take k lines) i
      ∙ ap (λ (o : Option TxLine). option_map (λ (l : TxLine). l.tx) o) (at_front lines k i x before x_at) in
      (taken.each k y y_at).next.fresh.unnamed.none x.tx (record { place = i; at = there }) same

  module _ (lines : List TxLine) (taken : AreTaken s lines) (entry : TxLine) where
    -- one that is there is not refused
    unknown : (fault : OfferFault) → IsRefusal s (txs_of lines) entry.tx fault →
        IsTxFault s (txs_of lines) entry.tx Repeated → ⊥
    unknown Shape f m = f.unknown m
    unknown (Differs here there) f m =
        let x = item_of (λ (l : TxLine). l.tx) (slice_get lines f.named.member.place) here
        (sym (slice_get-map (λ (l : TxLine). l.tx) lines f.named.member.place) ∙ f.named.member.at) in
        let y = item_of (λ (l : TxLine). l.tx) (slice_get lines m.place) entry.tx
        (sym (slice_get-map (λ (l : TxLine). l.tx) lines m.place) ∙ m.at) in
        let first : x.0.tx.dot ≡ here.dot = λ i. (x.2 i).dot in
        let last : entry.tx.dot ≡ y.0.tx.dot = λ i. (sym y.2 i).dot in
        let dots : x.0.tx.dot ≡ y.0.tx.dot = first ∙ (f.named.named ∙ last) in
        let place = same_place f.named.member.place m.place
        (λ l. apart lines taken f.named.member.place m.place x.0 y.0 l x.1 y.1 dots)
        (λ l. apart lines taken m.place f.named.member.place y.0 x.0 l y.1 x.1 (sym dots)) in
        f.other (same_Some here entry.tx
        (sym f.named.member.at ∙ (ap (λ (k : ℕ). slice_get (txs_of lines) k) place ∙ m.at)))
    unknown (Gap origin have need) f m = f.fresh.unnamed.none entry.tx m refl
    unknown (OpenCut member) f m = f.fresh.unnamed.none entry.tx m refl
    unknown Full f m = f.next.fresh.unnamed.none entry.tx m refl
    unknown (Illegal reason) f m = f.next.fresh.unnamed.none entry.tx m refl
    unknown NoMemory f m = f

    -- one that is refused at a test has not passed it
    untested : (f g : OfferFault) → passed f < passed g → IsRefusal s (txs_of lines) entry.tx f →
        IsRefusal s (txs_of lines) entry.tx g → ⊥
    untested f NoMemory l a b = b
    untested Shape (Differs here there) l a b = a.misshapen b.shaped
    untested Shape (Gap origin have need) l a b = a.misshapen b.fresh.shaped
    untested Shape (OpenCut member) l a b = a.misshapen b.fresh.shaped
    untested Shape Full l a b = a.misshapen b.next.fresh.shaped
    untested Shape (Illegal reason) l a b = a.misshapen b.next.fresh.shaped
    untested (Differs here there) (Gap origin have need) l a b =
        b.fresh.unnamed.none here a.named.member a.named.named
    untested (Differs here there) (OpenCut member) l a b = b.fresh.unnamed.none here a.named.member a.named.named
    untested (Differs here there) Full l a b = b.next.fresh.unnamed.none here a.named.member a.named.named
    untested (Differs here there) (Illegal reason) l a b = b.next.fresh.unnamed.none here a.named.member a.named.named
    untested (Gap origin have need) (OpenCut member) l a b =
        let low = b.within origin in let has = a.has in let needs = a.needs in let lacks = a.lacks in
        omega (arith, low, has, needs, lacks)
    untested (Gap origin have need) Full l a b =
        let low = b.next.closed.within origin in let has = a.has in let needs = a.needs in let lacks = a.lacks in
        omega (arith, low, has, needs, lacks)
    untested (Gap origin have need) (Illegal reason) l a b =
        let low = b.next.closed.within origin in let has = a.has in let needs = a.needs in let lacks = a.lacks in
        omega (arith, low, has, needs, lacks)
    untested (OpenCut member) Full l a b =
        a.first.first.above (b.next.closed.below a.tx (record { place = a.first.place; at = a.first.first.at }) a.first.first.covered)
    untested (OpenCut member) (Illegal reason) l a b =
        a.first.first.above (b.next.closed.below a.tx (record { place = a.first.place; at = a.first.first.at }) a.first.first.covered)
    untested Full (Illegal reason) l a b = let full = a.full in let room = b.room in omega (arith, full, room)
    untested f g l a b = omega (arith, l)

    -- one that is refused at one test has one text
    same_test : (es : List (List Name)) (f g : OfferFault) → passed f ≡ passed g →
        IsRefusal s (txs_of lines) entry.tx f → IsRefusal s (txs_of lines) entry.tx g →
        offer_text s.spec es f ≡ offer_text s.spec es g
    same_test es Shape Shape e a b = refl
    same_test es (Differs here there) (Differs one other) e a b = refl
    same_test es (Gap origin have need) (Gap first has needs) e a b = refl
    same_test es (OpenCut member) (OpenCut other) e a b = refl
    same_test es Full Full e a b = refl
    same_test es (Illegal reason) (Illegal other) e a b =
        ap (λ r. offer_text s.spec es (Illegal r)) (reasons.reason s (txs_of lines) entry.tx reason other a b)
    same_test es NoMemory NoMemory e a b = refl
    same_test es f g e a b = absurd (omega (arith, e))

    one-refused : (es : List (List Name)) (f g : OfferFault) → IsRefusal s (txs_of lines) entry.tx f →
        IsRefusal s (txs_of lines) entry.tx g → offer_text s.spec es f ≡ offer_text s.spec es g
    one-refused es f g a b =
        same_test es f g (same_place (passed f) (passed g) (λ l. untested f g l a b) (λ l. untested g f l b a)) a b

    -- one that is not taken has one fault, as it is printed
    one-text_of_fault : (es : List (List Name)) (f g : AuditFault) → IsTxFault s (txs_of lines) entry.tx f →
        IsTxFault s (txs_of lines) entry.tx g → fault_text s.spec es f ≡ fault_text s.spec es g
    one-text_of_fault es (Offer f) (Offer g) a b = one-refused es f g a b
    one-text_of_fault es (Offer f) Repeated a b = absurd (unknown f a b)
    one-text_of_fault es Repeated (Offer g) a b = absurd (unknown g b a)
    one-text_of_fault es Repeated Repeated a b = refl
    one-text_of_fault es Outcome g a b = absurd a
    one-text_of_fault es Missing g a b = absurd a
    one-text_of_fault es Final g a b = absurd a
    one-text_of_fault es f Outcome a b = absurd b
    one-text_of_fault es f Missing a b = absurd b
    one-text_of_fault es f Final a b = absurd b

  module _ (lines : List TxLine) where
    -- a transaction that is not taken is not among those that are
    not_taken : (line : ℕ) (f : AuditFault) → IsFirstBadTx s lines line f → AreTaken s lines → ⊥
    not_taken line f a taken =
        taken_fault (take a.place lines) a.entry f (taken.each a.place a.entry a.at) a.fault_is

    -- nor among those before another one
    not_earlier : (line other : ℕ) (f g : AuditFault) (a : IsFirstBadTx s lines line f) (b : IsFirstBadTx s lines other g) →
        a.place < b.place → ⊥
    not_earlier line other f g a b l =
        let admitted = b.earlier.each a.place a.entry (at_front lines b.place a.place a.entry l a.at) in
        taken_fault (take a.place lines) a.entry f
        (subst (λ (xs : List TxLine). IsAdmitted s (txs_of xs) a.entry.tx) (take-take a.place b.place lines (omega (arith, l))) admitted)
        a.fault_is

    -- there is one first bad line among the transactions
    one-bad_tx : (es : List (List Name)) (line other : ℕ) (f g : AuditFault) → IsFirstBadTx s lines line f →
        IsFirstBadTx s lines other g → (line ≡ other) × (fault_text s.spec es f ≡ fault_text s.spec es g)
    one-bad_tx es line other f g a b =
        let place : b.place ≡ a.place = same_place b.place a.place (not_earlier other line g f b a) (not_earlier line other f g a b) in
        let entry : b.entry ≡ a.entry =
        same_Some b.entry a.entry (sym b.at ∙ (ap (λ (k : ℕ). slice_get lines k) place ∙ a.at)) in
        let moved = subst (λ (k : ℕ). IsTxFault s (txs_of (take k lines)) b.entry.tx g) place b.fault_is in (
          a.line_is ∙ (ap (λ (l : TxLine). l.line) (sym entry) ∙ sym b.line_is),
          one-text_of_fault (take a.place lines) a.earlier a.entry es f g a.fault_is
              (subst (λ (l : TxLine). IsTxFault s (txs_of (take a.place lines)) l.tx g) entry moved),
        )

  module _ (requests : List (List Request)) (j : Journal) where
    -- a bad outcome is not among those before another one
    not_before : (line other : ℕ) (a : IsFirstBadOut s requests (txs_of j.transactions) j.outcomes line)
        (b : IsFirstBadOut s requests (txs_of j.transactions) j.outcomes other) → a.place < b.place → ⊥
    not_before line other a b l =
        b.earlier.each a.place a.out (at_front j.outcomes b.place a.place a.out l a.at)
        (subst (λ (xs : List OutLine). IsBadOut s requests (txs_of j.transactions) xs a.out)
        (sym (take-take a.place b.place j.outcomes (omega (arith, l)))) a.bad)

    -- there is one first bad line among the outcomes
    one-bad_out : (line other : ℕ) → IsFirstBadOut s requests (txs_of j.transactions) j.outcomes line →
        IsFirstBadOut s requests (txs_of j.transactions) j.outcomes other → line ≡ other
    one-bad_out line other a b =
        let place : a.place ≡ b.place = same_place a.place b.place (not_before line other a b) (not_before other line b a) in
        let out : a.out ≡ b.out =
        same_Some a.out b.out (sym a.at ∙ (ap (λ (k : ℕ). slice_get j.outcomes k) place ∙ b.at)) in
        a.line_is ∙ (ap (λ (o : OutLine). o.line) out ∙ sym b.line_is)

    -- where a part is bad, it is not good
    not_good : (line other : ℕ) (f g : AuditFault) → good_parts f < good_parts g → IsBadAt s requests j line f →
        IsBadAt s requests j other g → ⊥
    not_good line other (Offer f) Outcome l a b = not_taken j.transactions line (Offer f) a b.taken
    not_good line other (Offer f) Missing l a b = not_taken j.transactions line (Offer f) a b.end.taken
    not_good line other (Offer f) Final l a b = not_taken j.transactions line (Offer f) a b.end.taken
    not_good line other Repeated Outcome l a b = not_taken j.transactions line Repeated a b.taken
    not_good line other Repeated Missing l a b = not_taken j.transactions line Repeated a b.end.taken
    not_good line other Repeated Final l a b = not_taken j.transactions line Repeated a b.end.taken
    not_good line other Outcome Missing l a b = b.end.outcomes.each a.first.place a.first.out a.first.at a.first.bad
    not_good line other Outcome Final l a b = b.end.outcomes.each a.first.place a.first.out a.first.at a.first.bad
    not_good line other Missing Final l a b = b.complete a.missing
    not_good line other Final (Offer h) l a b = omega (arith, l)
    not_good line other Final Repeated l a b = omega (arith, l)
    not_good line other Final Outcome l a b = omega (arith, l)
    not_good line other Final Missing l a b = omega (arith, l)
    not_good line other Final Final l a b = omega (arith, l)
    not_good line other f g l a b = omega (arith, l)

    -- of one part there is one first bad line
    same_part : (es : List (List Name)) (line other : ℕ) (f g : AuditFault) → good_parts f ≡ good_parts g →
        IsBadAt s requests j line f → IsBadAt s requests j other g →
        (line ≡ other) × (fault_text s.spec es f ≡ fault_text s.spec es g)
    same_part es line other (Offer f) (Offer g) e a b = one-bad_tx j.transactions es line other (Offer f) (Offer g) a b
    same_part es line other (Offer f) Repeated e a b = one-bad_tx j.transactions es line other (Offer f) Repeated a b
    same_part es line other Repeated (Offer g) e a b = one-bad_tx j.transactions es line other Repeated (Offer g) a b
    same_part es line other Repeated Repeated e a b = one-bad_tx j.transactions es line other Repeated Repeated a b
    same_part es line other Outcome Outcome e a b = (one-bad_out line other a.first b.first, refl)
    same_part es line other Missing Missing e a b = (a.end.line_is ∙ sym b.end.line_is, refl)
    same_part es line other Final Final e a b = (a.end.line_is ∙ sym b.end.line_is, refl)
    same_part es line other f g e a b = absurd (omega (arith, e))

    -- there is one first bad line, and one fault of it, as it is printed
    one-bad : (es : List (List Name)) (line other : ℕ) (f g : AuditFault) → IsBadAt s requests j line f →
        IsBadAt s requests j other g → (line ≡ other) × (fault_text s.spec es f ≡ fault_text s.spec es g)
    one-bad es line other f g a b =
        same_part es line other f g
        (same_place (good_parts f) (good_parts g) (λ l. not_good line other f g l a b) (λ l. not_good other line g f l b a))
        a b

-- a journal with a bad line is not lawful
abbrev pub BadIsUnlawful : Type 0
BadIsUnlawful = (s : SettingParts) (requests : List (List Request)) (j : Journal) (line : ℕ) (fault : AuditFault) →
    IsSetting s → s.sessions ≡ length requests → IsBadAt s requests j line fault → IsLawfulJournal s requests j → ⊥

-- there is one status and text of an audit
one-printed : AreOneReason → BadIsUnlawful → (s : SettingParts) → IsSetting s → (requests : List (List Request)) →
    s.sessions ≡ length requests → (j : Journal) (es : List (List Name)) (v w : Verdict) → IsVerdict s requests j v →
    IsVerdict s requests j w → (verdict_status v ≡ verdict_status w) × (verdict_text s.spec es v ≡ verdict_text s.spec es w)
one-printed reasons unlawful s is requests same j es (Legal n) (Legal m) a b = (refl, ap legal_text (a.count ∙ sym b.count))
one-printed reasons unlawful s is requests same j es (Legal n) (Bad line f) a b =
    absurd (unlawful s requests j line f is same b a.lawful)
one-printed reasons unlawful s is requests same j es (Bad line f) (Legal m) a b =
    absurd (unlawful s requests j line f is same a b.lawful)
one-printed reasons unlawful s is requests same j es (Bad line f) (Bad other g) a b =
    let one = one-bad reasons s requests j es line other f g a b in
    (refl, λ i. codes "bad line " ++ decimal (one.0 i) ++ codes ": " ++ one.1 i)

-- what documents keep by their types
pub record AreKept : Type 0 where
  pub setup : (s : Setup) → IsSetup s.universe.sizes s.elements s.replicas s.sessions
  pub base : (d : Document) → IsKept d.spec d.setup.universe.sizes d.setup.base
  pub fitting : (d : Document) →
      IsFitting d.spec d.setup.universe.sizes d.setup.elements d.setup.base d.setup.sessions

-- a document whose specification is accepted is a setting
IsSetting-document : AreKept → (document : Document) → IsAccepted document.spec → IsSetting (setting_of document)
IsSetting-document kept document is = record {
  accepted = is;
  sizes = (kept.fitting document).universe;
  base_state = (kept.fitting document).state;
  base_keeps = (kept.base document).clauses;
  base_within = (kept.base document).bounds;
  few = (kept.setup document.setup).session_count;
}

-- the specification is accepted, and what comes later is this
abbrev Accepting : Specification → (Status → List ℕ → Type 0) → Status → List ℕ → Type 0
Accepting s Later status text = IsAccepted s × Later status text

accepting : (s : Specification) (Later : Status → List ℕ → Type 0) (status : Status) (text : List ℕ) →
    AfterAcceptance s Later status text → AfterAcceptance s (Accepting s Later) status text
accepting s Later status text (rejected l h) = rejected l h
accepting s Later status text (accepted m k) = accepted m (m, k)

one-accepting : (s : Specification) (Later : Status → List ℕ → Type 0) → (IsAccepted s → IsOne Later) →
    IsOne (Accepting s Later)
one-accepting s Later one status end text other h k = one h.0 status end text other h.1 k.1

-- what comes later has to be one only where the specification is accepted
one-after_accepted : AreOne → (s : Specification) → IsFit s → (Later : Status → List ℕ → Type 0) →
    (IsAccepted s → IsOne Later) → IsOne (AfterAcceptance s Later)
one-after_accepted laws s fit Later one status end text other h k =
    one-after_acceptance laws s fit (Accepting s Later) (one-accepting s Later one) status end text other
    (accepting s Later status text h) (accepting s Later end other k)

module _ (reasons : AreOneReason) (unlawful : BadIsUnlawful) (kept : AreKept) where
  one-audit_of : (document : Document) → IsAccepted document.spec → (journal : Journal) →
      IsOne (IsAuditOf document journal)
  one-audit_of document is journal status end text other h k =
      let one = one-printed reasons unlawful (setting_of document) (IsSetting-document kept document is)
      (requests_of document.setup.sessions)
      (sym (length-map document.setup.sessions (λ (work : SessionWork). work.requests))) journal
      document.setup.elements h.verdict k.verdict h.is_verdict k.is_verdict in
      (h.status_is ∙ (one.0 ∙ sym k.status_is), h.text_is ∙ (one.1 ∙ sym k.text_is))

  -- an input has one verdict of `audit`
  pub one-audit : AreOne → AreOneJournal → (bytes : List ℕ) → IsOne (AuditVerdict bytes)
  one-audit laws journals bytes =
      one-after_length longest_journal bytes (IsAudited bytes)
      (one-after_start bytes (λ start. AfterReading (take start.at bytes) (IsDocumentAudited bytes start))
      (λ start. one-after_reading laws (take start.at bytes) (IsDocumentAudited bytes start)
      (λ document reads fit. one-after_width laws document.spec (AfterAcceptance document.spec (AfterJournal document start bytes (IsAuditOf document)))
      (one-after_accepted laws document.spec fit (AfterJournal document start bytes (IsAuditOf document))
      (λ is. one-after_journal journals document start bytes (IsAuditOf document) (one-audit_of document is))))))
