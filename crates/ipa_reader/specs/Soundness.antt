-- What accepted setup lines keep.
--
--   IsWithinElements es       no sort has more elements than allowed
--   AreApart es               no element stands twice in its sort
--   ArePlaced r sessions b    each session is at one of the replicas
--   constant_names d n        the names of the constants of the sort of a number
--   IsBegun d es b n          the elements of the sort of a number begin with its constants; before any setup line there
--                             are no others
--   IsFittingSaid d a b       the facts and the requests that are said fit what is declared; before any setup line there
--                             are none
--   IsSoundStanding s         what is declared is sound, and what is arranged keeps the limits on the setup
--   NamesReplica line         a session names one of the replicas that may be
--   NamesNew d a line         a `const` or `elem` line names elements that are new in their sort
use Rattle.std.specs.Prelude.{◌≡◌, ℕ, ◌<◌, ◌≤◌, ◌==◌, ◌++◌, Bool, false, List, [], ◌∷◌, length, map, filter}
use Rattle.ipa_spec.specs.Faults.{has_repeat}
use Rattle.ipa_spec.specs.declared.names.Name.{Name}
use Rattle.ipa_logic.specs.Facts.{IsFact}
use Rattle.ipa_logic.specs.Requests.{IsRequest}
use Rattle.ipa_names.specs.Meaning.{sort_number, specification_of}
use Rattle.ipa_names.specs.Soundness.{EachOf, IsSound}
use Rattle.ipa_reader.specs.Arrangements.{elements_at, elements_of}
use Rattle.ipa_reader.specs.Refusals.{request_count}
use Rattle.ipa_reader.specs.Setups.{size_list}
use Rattle.ipa_forms.specs.declared.forms.Form.{Form}
use Rattle.ipa_forms.specs.declared.forms.Form.TheVariants.{Const, Elem, Session}
use Rattle.ipa_reader.specs.declared.sessions.SessionWork.{SessionWork}
use Rattle.ipa_names.specs.declared.declared.Declared.{Declared}
use Rattle.ipa_reader.specs.declared.standing.Arranged.{Arranged}
use Rattle.ipa_reader.specs.declared.standing.Standing.{Standing}

pub record IsWithinElements (elements : List (List Name)) : Type 0 where
  pub each : (n : ℕ) → length (elements_at elements n) ≤ 256

-- no element stands twice in its sort, and there are at most eight lists
pub record AreApart (elements : List (List Name)) : Type 0 where
  pub lists : length elements ≤ 8
  pub each : (n : ℕ) → has_repeat (λ name. name) (elements_at elements n) ≡ false

-- each session is at one of the replicas, and where no `session` line stands there is none
pub record ArePlaced (replicas : ℕ) (sessions : List SessionWork) (after_session : Bool) : Type 0 where
  pub at_replicas : EachOf (λ work. work.replica < replicas) sessions
  pub none : after_session ≡ false → sessions ≡ []

abbrev pub constant_names : Declared → ℕ → List Name
constant_names d n = map (λ c. c.name) (filter (λ c. sort_number d c.sort == n) d.constants)

-- the elements of the sort of a number are its constants, and others behind them only where a setup line stands
pub record IsBegun (d : Declared) (elements : List (List Name)) (after_setup : Bool) (n : ℕ) : Type 0 where
  pub later : List Name
  pub are : elements_at elements n ≡ constant_names d n ++ later
  pub none : after_setup ≡ false → later ≡ []

-- facts and requests that fit, and none before any setup line
pub record IsFittingSaid (d : Declared) (a : Arranged) (after_setup : Bool) : Type 0 where
  pub facts : EachOf (IsFact (specification_of d) (size_list a.elements)) a.facts
  pub requests : EachOf (λ work. EachOf (IsRequest (specification_of d) (size_list a.elements)) work.requests) a.sessions
  pub no_fact : after_setup ≡ false → a.facts ≡ []
  pub no_session : after_setup ≡ false → a.sessions ≡ []

pub record IsSoundStanding (s : Standing) : Type 0 where
  pub declared : IsSound s.declared
  pub elements : IsWithinElements s.arranged.elements
  pub apart : AreApart s.arranged.elements
  pub begun : (n : ℕ) → IsBegun s.declared s.arranged.elements s.place.after_setup n
  pub said : IsFittingSaid s.declared s.arranged s.place.after_setup
  pub some_replica : 0 < s.arranged.replicas
  pub replicas : s.arranged.replicas ≤ 8
  pub sessions : length s.arranged.sessions ≤ 16
  pub placed : ArePlaced s.arranged.replicas s.arranged.sessions s.place.after_session
  pub requests : request_count s.arranged.sessions ≤ 16384

abbrev pub NamesReplica : Form → Type 0
NamesReplica (Session number) = (0 < number) × (number ≤ 8)
NamesReplica _ = Unit {0}

-- the elements of a `const` or `elem` line, with those declared before it, stand once each
abbrev pub NamesNew : Declared → Arranged → Form → Type 0
NamesNew d a (Const c) = has_repeat (λ name. name) (elements_of d a.elements c.sort ++ c.name ∷ []) ≡ false
NamesNew d a (Elem sort names) = has_repeat (λ name. name) (elements_of d a.elements sort ++ names) ≡ false
NamesNew d a _ = Unit {0}
