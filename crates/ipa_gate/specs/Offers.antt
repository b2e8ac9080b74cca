-- What the offer of a transaction is answered. Each answer denies all that comes before it.
--
--   IsFresh s h t        the transaction has the right shape, and no entry has its dot
--   IsNextIn s h t       it is fresh, and its cut is a closed cut of the entries
--   IsLegalIfNext s h t     it is legal at its cut, if it comes next
--   IsAdmitted s h t     there is room, and it is legal at its cut
--   entries_after h t taken     the entries after it was taken
--   IsTakenAs s h t taken       the answer where it is taken
--   IsMisshapen, IsTwin, HasGap, HasOpenCut, IsBarred, IsUnlawful      the six refusals
--   IsOfferFault s h t fault    the answer where it is refused
use Rattle.std.specs.Prelude.{◌≡◌, ℕ, ◌<◌, ◌≤◌, List, [], ◌∷◌, ◌++◌, length}
use Rattle.ipa_clock.specs.declared.dot.Dot.{Dot}
use Rattle.ipa_clock.specs.Cut.{count_of}
use Rattle.ipa_history.specs.Histories.{IsMember, IsNamedIn, NoneNamedIn, number_of, IsClosed}
use Rattle.ipa_history.specs.Legality.{IsLegal, IsIllegal}
use Rattle.ipa_history.specs.declared.history.Tx.{Tx}
use Rattle.ipa_history.specs.declared.reasons.Reason.{Reason}
use Rattle.ipa_gate.specs.Settings.{SettingParts}
use Rattle.ipa_gate.specs.Shapes.{IsShaped}
use Rattle.ipa_gate.specs.Logs.{most}
use Rattle.ipa_gate.specs.Cuts.{HasFirstOpen}
use Rattle.ipa_gate.specs.declared.answers.Taken.{Taken}
use Rattle.ipa_gate.specs.declared.answers.Taken.TheVariants.{New, Known}
use Rattle.ipa_gate.specs.declared.answers.OfferFault.{OfferFault}
use Rattle.ipa_gate.specs.declared.answers.OfferFault.TheVariants.{Shape, Differs, Gap, OpenCut, Full, Illegal, NoMemory}

-- the transaction has the right shape, and no entry has its dot
pub record IsFresh (s : SettingParts) (h : List Tx) (t : Tx) : Type 0 where
  pub shaped : IsShaped s t
  pub unnamed : NoneNamedIn h t.dot

-- it is fresh, and its cut is a closed cut of the entries
pub record IsNextIn (s : SettingParts) (h : List Tx) (t : Tx) : Type 0 where
  pub fresh : IsFresh s h t
  pub closed : IsClosed h t.cut

-- it is legal at its cut, if it comes next
abbrev pub IsLegalIfNext : SettingParts → List Tx → Tx → Type 0
IsLegalIfNext s h t = IsNextIn s h t → IsLegal s.spec s.universe s.base h t

-- it comes next, there is room for it, and it is legal at its cut
pub record IsAdmitted (s : SettingParts) (h : List Tx) (t : Tx) : Type 0 where
  pub next : IsNextIn s h t
  pub room : length h < most
  pub legal : IsLegal s.spec s.universe s.base h t

-- the entries after it was taken: with it at their end, where it is new
abbrev pub entries_after : List Tx → Tx → Taken → List Tx
entries_after h t New = h ++ t ∷ []
entries_after h t Known = h

-- the answer where it is taken: it is new and admitted, or it is an entry
abbrev pub IsTakenAs : SettingParts → List Tx → Tx → Taken → Type 0
IsTakenAs s h t New = IsAdmitted s h t
IsTakenAs s h t Known = IsMember h t

-- it is no entry, and has not the right shape
pub record IsMisshapen (s : SettingParts) (h : List Tx) (t : Tx) : Type 0 where
  pub unknown : IsMember h t → ⊥
  pub misshapen : IsShaped s t → ⊥

-- it has the right shape, and another transaction stands under its dot
pub record IsTwin (s : SettingParts) (h : List Tx) (t here there : Tx) : Type 0 where
  pub shaped : IsShaped s t
  pub named : IsNamedIn h t.dot here
  pub other : here ≡ t → ⊥
  pub offered : there ≡ t

-- it is fresh, and of this origin, the least such one, its cut needs more transactions than the log has
pub record HasGap (s : SettingParts) (h : List Tx) (t : Tx) (origin have need : ℕ) : Type 0 where
  pub fresh : IsFresh s h t
  pub has : have ≡ number_of origin h
  pub needs : need ≡ count_of t.cut origin
  pub lacks : have < need
  pub least : (o : ℕ) → o < origin → count_of t.cut o ≤ number_of o h

-- it is fresh, the log has all of its cut, and the cut is open at this member
pub record HasOpenCut (s : SettingParts) (h : List Tx) (t : Tx) (member : Dot) : Type 0 where
  pub fresh : IsFresh s h t
  pub within : (o : ℕ) → count_of t.cut o ≤ number_of o h
  pub tx : Tx
  pub first : HasFirstOpen h t.cut tx
  pub named : tx.dot ≡ member

-- it comes next, and the log has no room
pub record IsBarred (s : SettingParts) (h : List Tx) (t : Tx) : Type 0 where
  pub next : IsNextIn s h t
  pub full : length h ≡ most

-- it comes next, there is room for it, and it is not legal at its cut, for this first reason
pub record IsUnlawful (s : SettingParts) (h : List Tx) (t : Tx) (r : Reason) : Type 0 where
  pub next : IsNextIn s h t
  pub room : length h < most
  pub illegal : IsIllegal s.spec s.universe s.base h t r

-- the answer where it is refused; nothing is said where memory is wanting
abbrev pub IsOfferFault : SettingParts → List Tx → Tx → OfferFault → Type 0
IsOfferFault s h t Shape = IsMisshapen s h t
IsOfferFault s h t (Differs here there) = IsTwin s h t here there
IsOfferFault s h t (Gap origin have need) = HasGap s h t origin have need
IsOfferFault s h t (OpenCut member) = HasOpenCut s h t member
IsOfferFault s h t Full = IsBarred s h t
IsOfferFault s h t (Illegal r) = IsUnlawful s h t r
IsOfferFault s h t NoMemory = Unit {0}
