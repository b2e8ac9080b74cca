-- Transactions that a log takes as new, one after the other.
--
--   appended_none, appended_more, appended_all   one more is taken, until all are
--   bad_tx            the first that is not
--   history_front, history_next   a front of a history is one
--   lawful_taken      those of a lawful end are taken so
--   taken_fault       what is taken as new has no fault
use Rattle.std.proofs.Common.{◌≡◌, ℕ, ◌+◌, ◌<◌, ◌≤◌, List, [], ◌∷◌, ◌++◌, length, Some, None, slice_get, take, get_or, refl, sym, ◌∙◌, ap, subst, arith, inl, inr}
use Rattle.std.proofs.lemmas.Bool.{cases_lt, eq-eqb}
use Rattle.std.proofs.lemmas.List.{take-map, length-take, length-take-le, take_more, take_all, map-append}
use Rattle.std.proofs.lemmas.Option.{slice_get_within, slice_get-get_or, get_or_from_slice_get}
use Rattle.std.specs.Prelude.{◌==◌}
use Rattle.ipa_clock.specs.declared.dot.Dot.{Dot}
use Rattle.ipa_clock.specs.Cut.{count_of}
use Rattle.ipa_history.specs.Histories.{IsHistory, IsClosed, NoneNamedIn, StandsIn, number_of}
use Rattle.ipa_history.specs.HistoryLaws as histories
use Rattle.ipa_history.specs.HistoryLaws.{count_grows, covers_covered, member-take}
use Rattle.ipa_history.specs.LawfulEnds.{AreEntries}
use Rattle.ipa_history.specs.declared.history.Tx.{Tx}
use Rattle.ipa_gate.specs.Settings.{SettingParts}
use Rattle.ipa_gate.specs.Offers.{IsAdmitted}
use Rattle.ipa_gate.specs.declared.answers.OfferFault.TheVariants.{Shape, Differs, Gap, OpenCut, Full, Illegal, NoMemory}
use Rattle.ipa_journal.specs.declared.journal.TxLine.{TxLine}
use Rattle.ipa_audit.specs.Journals.{txs_of}
use Rattle.ipa_audit.specs.BadLines.{AreTaken, IsTxFault, IsFirstBadTx}
use Rattle.ipa_audit.specs.Steps.{IsAppended, AreAppended}
use Rattle.ipa_audit.specs.declared.verdict.AuditFault.{AuditFault}
use Rattle.ipa_audit.specs.declared.verdict.AuditFault.TheVariants.{Offer, Repeated, Outcome, Missing, Final}
use Rattle.ipa_audit.proofs.PlaceLemmas.{front_at, at_front, take_take, at_map}
use Rattle.ipa_audit.proofs.LawfulLemmas.{end_shaped}
use Rattle.ipa_audit.proofs.ReasonLemmas.{legal_illegal}

-- one more is taken
txs_push : (lines : List TxLine) (k : ℕ) (entry : TxLine) → slice_get lines k ≡ Some entry →
    txs_of (take (k + 1) lines) ≡ txs_of (take k lines) ++ entry.tx ∷ []
txs_push lines k entry at =
    let inside = slice_get_within lines k entry at in
    let here : get_or lines k entry ≡ entry = get_or_from_slice_get lines k entry entry at in
    ap txs_of (take_more lines k entry inside)
    ∙ (map-append (λ (l : TxLine). l.tx) (take k lines) (get_or lines k entry ∷ [])
    ∙ ap (λ (l : TxLine). txs_of (take k lines) ++ l.tx ∷ []) here)

pub appended_none : (s : SettingParts) (lines : List TxLine) (h : List Tx) → h ≡ [] → AreAppended s (take 0 lines) h
appended_none s [] h none = record {
  taken = record { each = λ k entry e. absurd (let n : None ≡ Some entry = e in cc) };
  entries = none;
}
appended_none s (x ∷ xs) h none = record {
  taken = record { each = λ k entry e. absurd (let n : None ≡ Some entry = e in cc) };
  entries = none;
}

module _ (s now : SettingParts) (same_setting : now ≡ s) (lines : List TxLine) (k : ℕ) (d : TxLine)
    (inside : k < length lines) (h : List Tx) (before : AreAppended s (take k lines) h) where
  here : slice_get lines k ≡ Some (get_or lines k d)
  here = slice_get-get_or lines k d inside

  pub appended_more : (new : List Tx) → IsAppended now h (get_or lines k d).tx new → AreAppended s (take (k + 1) lines) new
  appended_more new is = record {
    taken = record {
      each = λ j x e.
          let there = front_at lines (k + 1) j x e in
          let front : take j (take (k + 1) lines) ≡ take j lines = take_take lines j (k + 1) (omega (arith, there.0)) in
          elim (cases_lt j k) [
            | inl less ↦
                let old : take j (take k lines) ≡ take j lines = take_take lines j k (omega (arith, less)) in
                subst (λ (xs : List TxLine). IsAdmitted s (txs_of xs) x.tx) (old ∙ sym front)
                (before.taken.each j x (at_front lines k j x less there.1))
            | inr last ↦
                let low = there.0 in
                let same : k ≡ j = omega (arith, low, last) in
                let both : Some (get_or lines k d) ≡ Some x = sym here ∙ (ap (slice_get lines) same ∙ there.1) in
                let item : get_or lines k d ≡ x = cc in
                subst (λ (xs : List TxLine). IsAdmitted s (txs_of xs) x.tx)
                (ap (λ (i : ℕ). take i lines) same ∙ sym front)
                (subst (λ (l : TxLine). IsAdmitted s (txs_of (take k lines)) l.tx) item
                (subst (λ (xs : List Tx). IsAdmitted s xs (get_or lines k d).tx) before.entries
                (subst (λ (x : SettingParts). IsAdmitted x h (get_or lines k d).tx) same_setting is.admitted)))
          ];
    };
    entries = is.entries ∙ (ap (λ (xs : List Tx). xs ++ (get_or lines k d).tx ∷ []) before.entries
        ∙ sym (txs_push lines k (get_or lines k d) here));
  }

  -- the first that is not
  pub bad_tx : (fault : AuditFault) → IsTxFault now h (get_or lines k d).tx fault →
      IsFirstBadTx s lines (get_or lines k d).line fault
  bad_tx fault is = record {
    place = k;
    entry = get_or lines k d;
    at = here;
    earlier = before.taken;
    line_is = refl;
    fault_is = subst (λ (xs : List Tx). IsTxFault s xs (get_or lines k d).tx fault) before.entries
        (subst (λ (x : SettingParts). IsTxFault x h (get_or lines k d).tx fault) same_setting is);
  }

pub take_none : {X : Type 0} (xs : List X) → [] ≡ take 0 xs
take_none [] = refl
take_none (x ∷ xs) = refl

-- all are taken
pub appended_all : (s : SettingParts) (lines : List TxLine) (k : ℕ) → length lines ≤ k → (h : List Tx) →
    AreAppended s (take k lines) h → AreAppended s lines h
appended_all s lines k past h are =
    subst (λ (xs : List TxLine). AreAppended s xs h) (take_all k lines past) are

-- a front of a history is one
pub history_front : (h : List Tx) → IsHistory h → (k : ℕ) → IsHistory (take k h)
history_front h is k = record {
  few = let few = is.few in let sized = length-take k h in omega (arith, few, sized);
  origins = λ t m. is.origins t (member-take k h t m);
  numbers = λ j t e.
      let there = front_at h k j t e in
      is.numbers j t there.1
      ∙ ap (λ (xs : List Tx). number_of t.dot.origin xs + 1) (sym (take_take h j k (omega (arith, there.0))));
  own = λ t m. is.own t (member-take k h t m);
  seen = λ j t d e some covers.
      let there = front_at h k j t e in
      subst (λ (xs : List Tx). StandsIn xs d t.cut) (sym (take_take h j k (omega (arith, there.0))))
      (is.seen j t d there.1 some covers);
}

-- and with one more
pub history_next : (h : List Tx) → IsHistory h → (k : ℕ) (d : Tx) → k < length h → (old : List Tx) → old ≡ take k h →
    IsHistory (old ++ get_or h k d ∷ [])
history_next h is k d inside old same =
    subst IsHistory (take_more h k d inside ∙ ap (λ (xs : List Tx). xs ++ get_or h k d ∷ []) (sym same))
    (history_front h is (k + 1))

-- each number of a closed cut is there: a transaction of a history finds all of its cut before it
module _ (h : List Tx) (is : IsHistory h) (k : ℕ) (t : Tx) (at : slice_get h k ≡ Some t) where
  -- an earlier one has another dot
  unnamed_before : NoneNamedIn (take k h) t.dot
  unnamed_before = record {
    none = λ u m same.
        let there = front_at h k m.place u m.at in
        let origin : u.dot.origin ≡ t.dot.origin = ap (λ (d : Dot). d.origin) same in
        let number : u.dot.number ≡ t.dot.number = ap (λ (d : Dot). d.number) same in
        let grows = count_grows (λ (v : Tx). v.dot.origin == t.dot.origin) h m.place k u there.1
        (eq-eqb u.dot.origin t.dot.origin origin) there.0 in
        let first = is.numbers m.place u there.1 in
        let here : number_of u.dot.origin (take m.place h) ≡ number_of t.dot.origin (take m.place h) =
        ap (λ (o : ℕ). number_of o (take m.place h)) origin in
        let second = is.numbers k t at in
        omega (arith, grows, first, here, second, number);
  }

  -- so many stand before as the cut has
  within_before : (o : ℕ) → count_of t.cut o ≤ number_of o (take k h)
  within_before o = elim (cases_lt 0 (count_of t.cut o)) [
    | inr none ↦ omega (arith, none)
    | inl some ↦
        let stands = is.seen k t (record { origin = o; number = count_of t.cut o }) at some (omega arith) in
        let there = front_at h k stands.member.place stands.tx stands.member.at in
        let origin : stands.tx.dot.origin ≡ o = ap (λ (d : Dot). d.origin) stands.named in
        let number : stands.tx.dot.number ≡ count_of t.cut o = ap (λ (d : Dot). d.number) stands.named in
        let grows = count_grows (λ (v : Tx). v.dot.origin == o) h stands.member.place k stands.tx there.1
        (eq-eqb stands.tx.dot.origin o origin) there.0 in
        let first = is.numbers stands.member.place stands.tx there.1 in
        let here : number_of stands.tx.dot.origin (take stands.member.place h) ≡ number_of o (take stands.member.place h) =
        ap (λ (x : ℕ). number_of x (take stands.member.place h)) origin in
        omega (arith, grows, first, here, number)
  ]

  closed_before : IsClosed (take k h) t.cut
  closed_before = record {
    within = within_before;
    below = λ u m covers.
        histories.seen_below h is t u (record { place = k; at = at }) (member-take k h u m) (covers_covered t.cut u.dot covers);
  }

-- those of a lawful end are taken as new
pub lawful_taken : (s : SettingParts) (n : ℕ) → s.sessions ≡ n → (lines : List TxLine) →
    AreEntries s.spec s.universe s.base n (txs_of lines) → AreTaken s lines
lawful_taken s n same lines are = record {
  each = λ k entry e.
      let h = txs_of lines in
      let t = entry.tx in
      let at : slice_get h k ≡ Some t = at_map (λ (l : TxLine). l.tx) lines k entry e in
      let is = are.legal.history in
      let few = are.few in
      let within = slice_get_within h k t at in
      let front : take k h ≡ txs_of (take k lines) = take-map (λ (l : TxLine). l.tx) k lines in
      subst (λ (xs : List Tx). IsAdmitted s xs t) front (record {
        next = record {
          fresh = record {
            shaped = end_shaped s n same t (are.shaped t (record { place = k; at = at }));
            unnamed = unnamed_before h is k t at;
          };
          closed = closed_before h is k t at;
        };
        room = let sized = length-take-le k h (omega (arith, within)) in omega (arith, sized, within, few);
        legal = are.legal.legal k t at;
      });
}

-- what is taken as new has no fault
pub taken_fault : (s : SettingParts) (h : List Tx) (t : Tx) (fault : AuditFault) → IsAdmitted s h t →
    IsTxFault s h t fault → ⊥
taken_fault s h t (Offer Shape) is f = f.misshapen is.next.fresh.shaped
taken_fault s h t (Offer (Differs here there)) is f = is.next.fresh.unnamed.none here f.named.member f.named.named
taken_fault s h t (Offer (Gap origin have need)) is f =
    let low = is.next.closed.within origin in
    let has = f.has in
    let needs = f.needs in
    let lacks = f.lacks in
    omega (arith, low, has, needs, lacks)
taken_fault s h t (Offer (OpenCut member)) is f =
    let first = f.first.first in
    first.above (is.next.closed.below f.tx (record { place = f.first.place; at = first.at }) first.covered)
taken_fault s h t (Offer Full) is f = let full = f.full in let room = is.room in omega (arith, full, room)
taken_fault s h t (Offer (Illegal r)) is f = legal_illegal s.spec s.universe s.base h t r is.legal f.illegal
taken_fault s h t (Offer NoMemory) is f = f
taken_fault s h t Repeated is f = is.next.fresh.unnamed.none t f refl
taken_fault s h t Outcome is f = f
taken_fault s h t Missing is f = f
taken_fault s h t Final is f = f
