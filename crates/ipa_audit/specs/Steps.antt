-- Parts of what is tested of a line.
--
--   IsDueAt sessions counts o i    so many lines of session i are due before the line
--   IsNonePlace requests i j       no request stands in this place
--   IsPastIn earlier later         where the two are of one session, the later is past the earlier
--   IsBehindIn earlier later       they are of one session, and it is not
--   IsPastAt outs k, IsBehindAt outs k   the same of the line in place k and the one just before
--   CoversCommit cut session answer   the cut covers the commit, if the answer is one
--   IsAppended s h t new           the transaction is admitted, and stands at the end of the entries
--   AreAppended s lines new        so are all
--   AreAsked s sessions            each request fits the setting
--   AreCounted before counts       so many lines of each session stand before
--   AreGoodUpTo s requests h outs k   the first k lines are good
--   IsGoodAt s requests h outs k, IsBadAt s requests h outs k   the line in place k is good, or bad
use Rattle.std.specs.Prelude.{◌≡◌, ℕ, ◌+◌, ◌<◌, List, [], ◌∷◌, ◌++◌, length, slice_get, slice_index, Some, take}
use Rattle.ipa_clock.specs.declared.cut.Cut.{Cut}
use Rattle.ipa_clock.specs.Cut.{Covers}
use Rattle.ipa_logic.specs.declared.facts.Request.{Request}
use Rattle.ipa_history.specs.LawfulEnds.{IsAt, IsPast}
use Rattle.ipa_history.specs.declared.answers.Answer.{Answer}
use Rattle.ipa_history.specs.declared.answers.Answer.TheVariants.{Commit}
use Rattle.ipa_reader.specs.declared.sessions.SessionWork.{SessionWork}
use Rattle.ipa_journal.specs.declared.journal.OutLine.{OutLine}
use Rattle.ipa_history.specs.declared.history.Tx.{Tx}
use Rattle.ipa_gate.specs.Settings.{SettingParts}
use Rattle.ipa_gate.specs.Offers.{IsAdmitted}
use Rattle.ipa_journal.specs.declared.journal.TxLine.{TxLine}
use Rattle.ipa_logic.specs.Requests.{IsRequest}
use Rattle.ipa_audit.specs.Journals.{requests_of, outcome_of, txs_of}
use Rattle.ipa_audit.specs.Order.{IsDueIn, count_in}
use Rattle.ipa_audit.specs.BadLines.{AreTaken, IsBadOut}
use Rattle.ipa_audit.specs.GoodLines.{IsGoodOut}

-- so many lines of session i are due before the line
pub record IsDueAt (sessions : List SessionWork) (counts : List ℕ) (o : OutLine) (i : ℕ) : Type 0 where
  pub due : (work : SessionWork) → slice_get sessions i ≡ Some work →
      IsDueIn o i (slice_index counts i) (length work.requests)

-- no request stands in this place
pub record IsNonePlace (requests : List (List Request)) (i j : ℕ) : Type 0 where
  pub none : (request : Request) → IsAt requests i j request → ⊥

-- where the two are of one session, the later is past the earlier
pub record IsPastIn (earlier later : OutLine) : Type 0 where
  pub past : earlier.session ≡ later.session → IsPast later.session (outcome_of earlier) (outcome_of later)

-- they are of one session, and it is not
pub record IsBehindIn (earlier later : OutLine) : Type 0 where
  pub session : earlier.session ≡ later.session
  pub behind : IsPast later.session (outcome_of earlier) (outcome_of later) → ⊥

-- the line in place k is past the one just before
pub record IsPastAt (outs : List OutLine) (k : ℕ) : Type 0 where
  pub each : (j : ℕ) (earlier later : OutLine) → j + 1 ≡ k → slice_get outs j ≡ Some earlier →
      slice_get outs k ≡ Some later → IsPastIn earlier later

-- it is not
pub record IsBehindAt (outs : List OutLine) (k : ℕ) : Type 0 where
  pub j : ℕ
  pub earlier : OutLine
  pub later : OutLine
  pub next : j + 1 ≡ k
  pub earlier_at : slice_get outs j ≡ Some earlier
  pub later_at : slice_get outs k ≡ Some later
  pub behind : IsBehindIn earlier later

-- the cut covers the commit, if the answer is one
pub record CoversCommit (cut : Cut) (session : ℕ) (answer : Answer) : Type 0 where
  pub covers : (number : ℕ) → answer ≡ Commit number → Covers cut (record { origin = session; number = number })

-- the transaction is admitted, and stands at the end of the entries
pub record IsAppended (s : SettingParts) (h : List Tx) (t : Tx) (new : List Tx) : Type 0 where
  pub admitted : IsAdmitted s h t
  pub entries : new ≡ h ++ t ∷ []

-- each transaction is taken as new, and they are the entries
pub record AreAppended (s : SettingParts) (lines : List TxLine) (new : List Tx) : Type 0 where
  pub taken : AreTaken s lines
  pub entries : new ≡ txs_of lines

-- each request fits the setting
pub record AreAsked (s : SettingParts) (sessions : List SessionWork) : Type 0 where
  pub each : (i j : ℕ) (request : Request) → IsAt (requests_of sessions) i j request →
      IsRequest s.spec s.universe request

-- so many lines of each session stand before
pub record AreCounted (before : List OutLine) (counts : List ℕ) : Type 0 where
  pub wide : length counts ≡ 16
  pub each : (i : ℕ) → i < 16 → slice_index counts i ≡ count_in before i

-- the first k lines are good, each behind those before it
pub record AreGoodUpTo (s : SettingParts) (requests : List (List Request)) (h : List Tx) (outs : List OutLine)
    (k : ℕ) : Type 0 where
  pub each : (j : ℕ) (o : OutLine) → j < k → slice_get outs j ≡ Some o → IsGoodOut s requests h (take j outs) o

-- the line in place k is good, behind those before it
pub record IsGoodAt (s : SettingParts) (requests : List (List Request)) (h : List Tx) (outs : List OutLine)
    (k : ℕ) : Type 0 where
  pub out : OutLine
  pub at : slice_get outs k ≡ Some out
  pub good : IsGoodOut s requests h (take k outs) out

-- it is bad
pub record IsBadAt (s : SettingParts) (requests : List (List Request)) (h : List Tx) (outs : List OutLine)
    (k : ℕ) : Type 0 where
  pub out : OutLine
  pub at : slice_get outs k ≡ Some out
  pub bad : IsBadOut s requests h (take k outs) out
