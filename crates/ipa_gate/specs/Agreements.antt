-- What a log and a history that was read from it have in common, and what one lacks of the other.
--
--   HasAll h seen           each member of `seen` is an entry
--   IsParted h t d          a transaction that is no entry, and what stands under its dot
--   IsDivergence h seen d   the same of the first member of `seen` that is no entry
--   lacks seen t            `seen` has no transaction under this dot
--   news_of h seen          the entries that `seen` lacks, in log order
--   beyond_of h peer        the first 64 entries, in log order, that the cut does not cover
--   IsReadTo h seen n       `seen` has the first n entries
--   IsCoveredTo h peer n    the cut covers the first n entries
--   IfDiverged P fault      where the fault is a divergence, it is one of these
use Rattle.std.specs.Prelude.{◌≡◌, ℕ, ◌<◌, Bool, true, not, List, filter, take, slice_get, Some, MatchOption}
use Rattle.std.specs.List.{list_any}
use Rattle.ipa_clock.specs.declared.cut.Cut.{Cut}
use Rattle.ipa_clock.specs.Cut.{is_covered}
use Rattle.ipa_history.specs.Histories.{IsMember, IsNamedIn, NoneNamedIn}
use Rattle.ipa_history.specs.declared.history.Tx.{Tx}
use Rattle.ipa_lift.specs.StandingLaws.{is_named}
use Rattle.ipa_gate.specs.Fronts.{HasFront}
use Rattle.ipa_gate.specs.declared.answers.Diverged.{Diverged}
use Rattle.ipa_gate.specs.declared.answers.PullFault.{PullFault}
use Rattle.ipa_gate.specs.declared.answers.PullFault.TheVariants.{Diverged as Parted, NoMemory}

-- each member of `seen` is an entry
pub record HasAll (h seen : List Tx) : Type 0 where
  pub each : (t : Tx) → IsMember seen t → IsMember h t

-- `mine` is the transaction, which is no entry, and `theirs` is the entry under its dot, if there is one
pub record IsParted (h : List Tx) (t : Tx) (d : Diverged) : Type 0 where
  pub mine : d.mine ≡ t
  pub dot : d.dot ≡ t.dot
  pub absent : IsMember h t → ⊥
  pub theirs : MatchOption d.theirs (NoneNamedIn h t.dot) (IsNamedIn h t.dot)

-- of the first member of `seen` that is no entry
pub record IsDivergence (h seen : List Tx) (d : Diverged) : Type 0 where
  pub place : ℕ
  pub tx : Tx
  pub at : slice_get seen place ≡ Some tx
  pub parted : IsParted h tx d
  pub earlier : (k : ℕ) (t : Tx) → k < place → slice_get seen k ≡ Some t → IsMember h t

-- `seen` has no transaction under this dot
abbrev pub lacks : List Tx → Tx → Bool
lacks seen t = not (list_any (λ u. is_named u t) seen)

-- the entries that `seen` lacks, in log order
abbrev pub news_of : List Tx → List Tx → List Tx
news_of h seen = filter (lacks seen) h

-- the first 64 entries, in log order, that the cut does not cover
abbrev pub beyond_of : List Tx → Cut → List Tx
beyond_of h peer = take 64 (filter (λ t. not (is_covered peer t.dot)) h)

-- `seen` has the first n entries
abbrev pub IsReadTo : List Tx → List Tx → ℕ → Type 0
IsReadTo h seen n = HasFront (IsMember seen) h n

-- the cut covers the first n entries
abbrev pub IsCoveredTo : List Tx → Cut → ℕ → Type 0
IsCoveredTo h peer n = HasFront (λ t. is_covered peer t.dot ≡ true) h n

-- where the fault is a divergence, it is one of these
abbrev pub IfDiverged : (Diverged → Type 0) → PullFault → Type 0
IfDiverged P (Parted d) = P d
IfDiverged P NoMemory = Unit {0}
