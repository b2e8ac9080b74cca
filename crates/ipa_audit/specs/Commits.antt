-- The commits of a journal's lines, as a set.
--
--   commit_cmp c d          commits are ordered by session, and then by number
--   is_listed keys c        the commit is among these
--   is_commit_of o c        the line is that commit
--   is_named keys t         where the transaction is an operation's, its commit is among these
--   AreNamed h keys, HasUnlisted h keys   this holds of each transaction, or there is one of which it does not
use Rattle.std.specs.Prelude.{◌≡◌, ℕ, Bool, true, false, List}
use Rattle.std.specs.List.{list_any}
use Rattle.std.specs.Ordering.{nat_cmp, ordering_then, is_eq}
use Rattle.std.specs.declared.cmp.Ordering.{Ordering}
use Rattle.ipa_spec.specs.declared.operations.Action.{Action}
use Rattle.ipa_spec.specs.declared.operations.Action.TheVariants.{Op, Drop}
use Rattle.ipa_history.specs.Histories.{IsMember}
use Rattle.ipa_history.specs.declared.history.Tx.{Tx}
use Rattle.ipa_history.specs.declared.answers.Answer.{Answer}
use Rattle.ipa_history.specs.declared.answers.Answer.TheVariants.{Commit as Committed, Refused, Shown}
use Rattle.ipa_journal.specs.declared.journal.OutLine.{OutLine}
use Rattle.ipa_audit.specs.declared.missing.Commit.{Commit}

-- commits are ordered by session, and then by number
abbrev pub commit_cmp : Commit → Commit → Ordering
commit_cmp c d = ordering_then (nat_cmp c.session d.session) (nat_cmp c.number d.number)

-- the commit is among these
abbrev pub is_listed : List Commit → Commit → Bool
is_listed keys c = list_any (λ d. is_eq (commit_cmp c d)) keys

abbrev pub commit_of : ℕ → ℕ → Commit
commit_of session number = record { session = session; number = number }

-- the answer of the session is that commit
abbrev pub is_commit_in : ℕ → Answer → Commit → Bool
is_commit_in session (Committed number) c = is_eq (commit_cmp (commit_of session number) c)
is_commit_in session (Refused reason) c = false
is_commit_in session (Shown state) c = false

-- the line is that commit
abbrev pub is_commit_of : OutLine → Commit → Bool
is_commit_of o c = is_commit_in o.session o.answer c

abbrev pub is_named_as : Action → List Commit → Tx → Bool
is_named_as (Op op) keys t = is_listed keys (commit_of t.dot.origin t.dot.number)
is_named_as (Drop bound) keys t = true

-- where the transaction is an operation's, its commit is among these
abbrev pub is_named : List Commit → Tx → Bool
is_named keys t = is_named_as t.action keys t

-- each transaction is
pub record AreNamed (h : List Tx) (keys : List Commit) : Type 0 where
  pub each : (t : Tx) → IsMember h t → is_named keys t ≡ true

-- one is not
pub record HasUnlisted (h : List Tx) (keys : List Commit) : Type 0 where
  pub tx : Tx
  pub member : IsMember h tx
  pub not : is_named keys tx ≡ false
