-- What is written of the content of a journal, by names.
--
-- `es` are the lists of the names of elements, one for each sort. What has no name is left out.
--
--   four_of sorts                the sorts of four places: none past the last
--   action_sorts s action, predicate_sorts s n, clause_sorts s n   the sorts of the arguments of an action, of the
--                                places of a predicate, and of the variables of a clause
--   element_at es sort x         the name of the element of a place, if the place has a sort
--   elements_in es sorts xs      the names of the elements of four places
--   declared_word name_of xs n   the word of the declared part of number n
--   fact_pieces s es f           a fact
--   facts_pieces s es fs         a list of facts: `none` where it is empty
--   action_pieces s es action args   `do` or `drop`, and the action with its arguments
--   cut_pieces n cut             the counts of a cut of n origins
--   tx_pieces s es n t           the line of a transaction
--   reason_pieces s es r         why an operation is refused
--   answer_pieces s es a         what a request is answered
--   out_pieces s es n session place cut answer   the line of an outcome
--   final_pieces s es facts      the line of the final facts
--   pick_key p, pick_piece p     which fact the drop of a bound takes
--   bounds_pieces bounds         the line of the bounds
use Rattle.std.specs.Prelude.{ℕ, ◌+◌, List, [], ◌∷◌, ◌++◌, map, take, slice_get, slice_index, slice_index_or, Option, None, Some}
use Rattle.std.specs.List.{flat_map}
use Rattle.std.specs.Option.{option_map_or}
use Rattle.ipa_clock.specs.declared.cut.Cut.{Cut}
use Rattle.ipa_spec.specs.Actions.{place_sorts, sorts_of, sorts_of_vars}
use Rattle.ipa_spec.specs.declared.names.Name.{Name}
use Rattle.ipa_spec.specs.declared.bounds.Bound.{Bound}
use Rattle.ipa_spec.specs.declared.bounds.Pick.{Pick}
use Rattle.ipa_spec.specs.declared.bounds.Pick.TheVariants.{Greatest, Youngest}
use Rattle.ipa_spec.specs.declared.operations.Action.{Action}
use Rattle.ipa_spec.specs.declared.operations.Action.TheVariants.{Op, Drop}
use Rattle.ipa_spec.specs.declared.specification.Specification.{Specification}
use Rattle.ipa_logic.specs.Acceptance.{drop_args}
use Rattle.ipa_logic.specs.declared.facts.Fact.{Fact}
use Rattle.ipa_history.specs.declared.history.Tx.{Tx}
use Rattle.ipa_history.specs.declared.reasons.Reason.{Reason}
use Rattle.ipa_history.specs.declared.reasons.Reason.TheVariants.{NotWithin, Need, Clause as Breaks, Over, NotTheDrop}
use Rattle.ipa_history.specs.declared.answers.Answer.{Answer}
use Rattle.ipa_history.specs.declared.answers.Answer.TheVariants.{Commit, Refused, Shown}
use Rattle.ipa_reader.specs.Arrangements.{elements_at}
use Rattle.ipa_journal.specs.declared.keywords.Keyword.{Keyword}
use Rattle.ipa_journal.specs.declared.keywords.Keyword.TheVariants as keys
use Rattle.ipa_journal.specs.declared.pieces.Piece.{Piece}
use Rattle.ipa_journal.specs.declared.pieces.Piece.TheVariants.{Key, Word, Number, Group}

abbrev pub four_of : List ℕ → List (Option ℕ)
four_of sorts = slice_get sorts 0 ∷ slice_get sorts 1 ∷ slice_get sorts 2 ∷ slice_get sorts 3 ∷ []

abbrev pub action_sorts : Specification → Action → List (Option ℕ)
action_sorts s action = four_of (sorts_of s action)

abbrev pub predicate_sorts : Specification → ℕ → List (Option ℕ)
predicate_sorts s n = four_of (place_sorts s.predicates n)

abbrev pub clause_sorts : Specification → ℕ → List (Option ℕ)
clause_sorts s n = four_of (option_map_or (λ c. sorts_of_vars c.vars) (slice_get s.clauses n) [])

-- the item, if there is one
abbrev pub list_of : {X : Type 0} → Option X → List X
list_of None = []
list_of (Some x) = x ∷ []

abbrev pub element_at : List (List Name) → Option ℕ → ℕ → List Name
element_at es None x = []
element_at es (Some sort) x = list_of (slice_get (elements_at es sort) x)

abbrev pub elements_in : List (List Name) → List (Option ℕ) → List ℕ → List Name
elements_in es sorts xs =
    element_at es (slice_index_or sorts 0 None) (slice_index xs 0)
    ++ element_at es (slice_index_or sorts 1 None) (slice_index xs 1)
    ++ element_at es (slice_index_or sorts 2 None) (slice_index xs 2)
    ++ element_at es (slice_index_or sorts 3 None) (slice_index xs 3)

abbrev pub declared_word : {X : Type 0} → (X → Name) → List X → ℕ → List Piece
declared_word name_of xs n = option_map_or (λ x. Word (name_of x) ∷ []) (slice_get xs n) []

abbrev pub fact_pieces : Specification → List (List Name) → Fact → List Piece
fact_pieces s es f =
    declared_word (λ p. p.name) s.predicates f.predicate
    ++ Group (elements_in es (predicate_sorts s f.predicate) (drop_args f)) ∷ []

abbrev pub facts_pieces : Specification → List (List Name) → List Fact → List Piece
facts_pieces s es [] = Key keys.Nothing ∷ []
facts_pieces s es (f ∷ fs) = flat_map (fact_pieces s es) (f ∷ fs)

abbrev pub action_word : Specification → Action → List Piece
action_word s (Op n) = Key keys.Do ∷ declared_word (λ o. o.name) s.operations n
action_word s (Drop n) = Key keys.Drop ∷ declared_word (λ b. b.name) s.bounds n

abbrev pub action_pieces : Specification → List (List Name) → Action → List ℕ → List Piece
action_pieces s es action args =
    action_word s action ++ Group (elements_in es (action_sorts s action) args) ∷ []

abbrev pub cut_pieces : ℕ → Cut → List Piece
cut_pieces n cut = Key keys.Cut ∷ map Number (take n cut.counts)

-- an origin is written from 1
abbrev pub tx_pieces : Specification → List (List Name) → ℕ → Tx → List Piece
tx_pieces s es n t =
    Key keys.Tx ∷ Number (t.dot.origin + 1) ∷ Number t.dot.number ∷ cut_pieces n t.cut
    ++ action_pieces s es t.action t.args

-- a need is written from 1
abbrev pub reason_pieces : Specification → List (List Name) → Reason → List Piece
reason_pieces s es (NotWithin n) = Key keys.Within ∷ declared_word (λ b. b.name) s.bounds n
reason_pieces s es (Need k) = Key keys.Need ∷ Number (k + 1) ∷ []
reason_pieces s es (Breaks b) =
    Key keys.Clause ∷ declared_word (λ c. c.name) s.clauses b.clause
    ++ Group (elements_in es (clause_sorts s b.clause) b.values) ∷ []
reason_pieces s es (Over n) = Key keys.Over ∷ declared_word (λ b. b.name) s.bounds n
reason_pieces s es NotTheDrop = Key keys.Drop ∷ []

abbrev pub answer_pieces : Specification → List (List Name) → Answer → List Piece
answer_pieces s es (Commit number) = Key keys.Commit ∷ Number number ∷ []
answer_pieces s es (Refused reason) = Key keys.Refused ∷ reason_pieces s es reason
answer_pieces s es (Shown state) = Key keys.Shown ∷ facts_pieces s es state

-- a session and the place of a request are written from 1
abbrev pub out_pieces : Specification → List (List Name) → ℕ → ℕ → ℕ → Cut → Answer → List Piece
out_pieces s es n session place cut answer =
    Key keys.Out ∷ Number (session + 1) ∷ Number (place + 1) ∷ cut_pieces n cut ++ answer_pieces s es answer

abbrev pub final_pieces : Specification → List (List Name) → List Fact → List Piece
final_pieces s es facts = Key keys.Final ∷ facts_pieces s es facts

abbrev pub pick_key : Pick → Keyword
pick_key Greatest = keys.Greatest
pick_key Youngest = keys.Youngest

abbrev pub pick_piece : Pick → Piece
pick_piece pick = Key (pick_key pick)

abbrev pub bounds_pieces : List Bound → List Piece
bounds_pieces [] = Key keys.Bounds ∷ Key keys.Nothing ∷ []
bounds_pieces (b ∷ bs) = Key keys.Bounds ∷ map (λ c. pick_piece c.pick) (b ∷ bs)
