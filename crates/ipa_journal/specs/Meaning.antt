-- What the parts of a journal's line mean, by numbers.
--
-- `es` are the lists of the names of elements, one for each sort; n is the number of sessions. Each function answers
-- none where the parts do not have the form.
--
--   predicate_named s w, clause_named, operation_named, bound_named   the number of what is declared under this name
--   values_in es sorts ns        the elements that the names mean in four places, and 0 in places without a sort
--   fact_in s es p q             the fact that a name and names in parentheses mean
--   facts_in s es ps             the facts that all parts mean
--   rises_from last fs           the facts stand in order, each once, and behind the last one
--   state_in s es ps             a list of facts in order: `none` where it is empty
--   origin_at n ps k             the number of a session, which is written from 1
--   counts_in ps                 the counts of a cut
--   Done, done_in s es ps        an action with its arguments
--   tx_in s es n ps              a transaction
--   reason_in s es ps            why an operation was refused
--   answer_in s es ps            what a request was answered
--   out_in s es n number ps      an outcome, on the line of this number
use Rattle.std.specs.Prelude.{ℕ, ◌+◌, ◌-◌, Bool, true, ◌==◌, ◌&&◌, nat_le, List, [], ◌∷◌, ◌++◌, length, map, take, drop, replicate, slice_get, slice_index, slice_index_or, Option, None, Some, option_and_then, unwrap_or, if◌then◌else◌}
use Rattle.std.specs.List.{list_all, position}
use Rattle.std.specs.Option.{option_map, is_some}
use Rattle.std.specs.Ordering.{is_lt}
use Rattle.ipa_spec.specs.Faults.{same_name}
use Rattle.ipa_spec.specs.declared.names.Name.{Name}
use Rattle.ipa_spec.specs.declared.operations.Action.{Action}
use Rattle.ipa_spec.specs.declared.operations.Action.TheVariants.{Op, Drop}
use Rattle.ipa_spec.specs.declared.specification.Specification.{Specification}
use Rattle.ipa_logic.specs.Facts.{fact_cmp}
use Rattle.ipa_logic.specs.declared.facts.Fact.{Fact}
use Rattle.ipa_history.specs.declared.history.Tx.{Tx}
use Rattle.ipa_history.specs.declared.reasons.Reason.{Reason}
use Rattle.ipa_history.specs.declared.reasons.Reason.TheVariants.{NotWithin, Need, Clause as Breaks, Over, NotTheDrop}
use Rattle.ipa_history.specs.declared.answers.Answer.{Answer}
use Rattle.ipa_history.specs.declared.answers.Answer.TheVariants.{Commit, Refused, Shown}
use Rattle.ipa_names.specs.Naming.{number_in}
use Rattle.ipa_reader.specs.Arrangements.{elements_at}
use Rattle.ipa_journal.specs.Naming.{action_sorts, predicate_sorts, clause_sorts}
use Rattle.ipa_journal.specs.Parts.{word_part, number_part, group_part, word_at, number_at, group_at, is_key}
use Rattle.ipa_journal.specs.declared.keywords.Keyword.TheVariants as keys
use Rattle.ipa_journal.specs.declared.parts.Part.{Part}
use Rattle.ipa_journal.specs.declared.transactions.Done.{Done}
use Rattle.ipa_journal.specs.declared.answers.OutHead.{OutHead}
use Rattle.ipa_journal.specs.declared.journal.OutLine.{OutLine}

abbrev pub predicate_named : Specification → Name → Option ℕ
predicate_named s w = position (λ p. same_name p.name w) s.predicates

abbrev pub clause_named : Specification → Name → Option ℕ
clause_named s w = position (λ c. same_name c.name w) s.clauses

abbrev pub operation_named : Specification → Name → Option ℕ
operation_named s w = position (λ o. same_name o.name w) s.operations

abbrev pub bound_named : Specification → Name → Option ℕ
bound_named s w = position (λ b. same_name b.name w) s.bounds

-- a place with a sort has the name of an element of it; one without has no name, and holds 0
abbrev pub value_of : List (List Name) → Option ℕ → Option Name → Option ℕ
value_of es None None = Some 0
value_of es None (Some w) = None
value_of es (Some sort) None = None
value_of es (Some sort) (Some w) = number_in (elements_at es sort) w

abbrev pub value_at : List (List Name) → List (Option ℕ) → List Name → ℕ → Option ℕ
value_at es sorts ns k = value_of es (slice_index_or sorts k None) (slice_get ns k)

abbrev pub four_values : Option ℕ → Option ℕ → Option ℕ → Option ℕ → Option (List ℕ)
four_values (Some a) (Some b) (Some c) (Some d) = Some (a ∷ b ∷ c ∷ d ∷ [])
four_values _ _ _ _ = None

abbrev pub values_in : List (List Name) → List (Option ℕ) → List Name → Option (List ℕ)
values_in es sorts ns =
    if nat_le (length ns) 4
    then four_values (value_at es sorts ns 0) (value_at es sorts ns 1) (value_at es sorts ns 2) (value_at es sorts ns 3)
    else None

abbrev pub fact_with : ℕ → List ℕ → Fact
fact_with p values = record {
  predicate = p;
  args = slice_index values 0 ∷ slice_index values 1 ∷ slice_index values 2 ∷ [];
}

abbrev pub fact_of : Specification → List (List Name) → Option ℕ → List Name → Option Fact
fact_of s es None ns = None
fact_of s es (Some p) ns = option_map (fact_with p) (values_in es (predicate_sorts s p) ns)

abbrev pub fact_said : Specification → List (List Name) → Option Name → Option (List Name) → Option Fact
fact_said s es (Some w) (Some ns) = fact_of s es (predicate_named s w) ns
fact_said s es _ _ = None

abbrev pub fact_in : Specification → List (List Name) → Part → Part → Option Fact
fact_in s es p q = fact_said s es (word_part p) (group_part q)

abbrev pub joined_facts : Option Fact → Option (List Fact) → Option (List Fact)
joined_facts (Some f) (Some fs) = Some (f ∷ fs)
joined_facts _ _ = None

abbrev pub facts_in : Specification → List (List Name) → List Part → Option (List Fact)
facts_in s es [] = Some []
facts_in s es (p ∷ []) = None
facts_in s es (p ∷ q ∷ later) = joined_facts (fact_in s es p q) (facts_in s es later)

abbrev pub is_past : Option Fact → Fact → Bool
is_past None f = true
is_past (Some last) f = is_lt (fact_cmp last f)

abbrev pub rises_from : Option Fact → List Fact → Bool
rises_from last [] = true
rises_from last (f ∷ fs) = is_past last f && rises_from (Some f) fs

abbrev pub is_empty_list : List Part → Bool
is_empty_list ps = length ps == 1 && is_key ps 0 keys.Nothing

abbrev pub risen : List Fact → Option (List Fact)
risen fs = if rises_from None fs then Some fs else None

-- no parts at all are no list
abbrev pub some_facts : List Fact → Option (List Fact)
some_facts [] = None
some_facts (f ∷ fs) = risen (f ∷ fs)

abbrev pub state_in : Specification → List (List Name) → List Part → Option (List Fact)
state_in s es ps = if is_empty_list ps then Some [] else option_and_then some_facts (facts_in s es ps)

abbrev pub origin_of : ℕ → Option ℕ → Option ℕ
origin_of n None = None
origin_of n (Some k) = if nat_le 1 k && nat_le k n then Some (k - 1) else None

abbrev pub origin_at : ℕ → List Part → ℕ → Option ℕ
origin_at n ps k = origin_of n (number_at ps k)

abbrev pub is_number : Part → Bool
is_number p = is_some (number_part p)

abbrev pub count_in : Part → ℕ
count_in p = unwrap_or (number_part p) 0

-- a number for each part, and 0 for the origins past them
abbrev pub counts_in : List Part → Option (List ℕ)
counts_in ps = if list_all is_number ps then Some (map count_in ps ++ replicate (16 - length ps) 0) else None

abbrev pub done_with : Action → ℕ → List ℕ → Done
done_with action count args = record { action = action; args = args; count = count }

abbrev pub operation_done : Specification → List (List Name) → List Name → Option ℕ → Option Done
operation_done s es ns None = None
operation_done s es ns (Some o) = option_map (done_with (Op o) (length ns)) (values_in es (action_sorts s (Op o)) ns)

abbrev pub drop_done : Specification → List (List Name) → List Name → Option ℕ → Option Done
drop_done s es ns None = None
drop_done s es ns (Some b) = option_map (done_with (Drop b) (length ns)) (values_in es (action_sorts s (Drop b)) ns)

abbrev pub action_done : Specification → List (List Name) → List Part → Name → List Name → Option Done
action_done s es ps w ns =
    if is_key ps 0 keys.Do then operation_done s es ns (operation_named s w)
    else (if is_key ps 0 keys.Drop then drop_done s es ns (bound_named s w) else None)

abbrev pub done_said : Specification → List (List Name) → List Part → Option Name → Option (List Name) → Option Done
done_said s es ps (Some w) (Some ns) = action_done s es ps w ns
done_said s es ps _ _ = None

-- `do` or `drop`, a name, and names in parentheses
abbrev pub done_in : Specification → List (List Name) → List Part → Option Done
done_in s es ps = if length ps == 3 then done_said s es ps (word_at ps 1) (group_at ps 2) else None

abbrev pub tx_of : Option ℕ → Option ℕ → Option (List ℕ) → Option Done → Option Tx
tx_of (Some origin) (Some number) (Some counts) (Some done) = Some (record {
  dot = record { origin = origin; number = number };
  cut = record { counts = counts };
  action = done.action;
  args = done.args;
  count = done.count;
})
tx_of _ _ _ _ = None

-- `tx`, the origin, the number, `cut`, n counts, and the action
abbrev pub tx_in : Specification → List (List Name) → ℕ → List Part → Option Tx
tx_in s es n ps =
    if nat_le (4 + n) (length ps) && is_key ps 3 keys.Cut
    then tx_of (origin_at n ps 1) (number_at ps 2) (counts_in (take n (drop 4 ps))) (done_in s es (drop (4 + n) ps))
    else None

abbrev pub bound_at : Specification → List Part → Option ℕ
bound_at s ps = if length ps == 2 then option_and_then (bound_named s) (word_at ps 1) else None

abbrev pub need_of : Option ℕ → Option Reason
need_of None = None
need_of (Some k) = if nat_le 1 k && nat_le k 6 then Some (Need (k - 1)) else None

abbrev pub need_reason : List Part → Option Reason
need_reason ps = if length ps == 2 then need_of (number_at ps 1) else None

abbrev pub broken_with : ℕ → List ℕ → Reason
broken_with c values = Breaks (record { clause = c; values = values })

abbrev pub clause_broken : Specification → List (List Name) → List Name → Option ℕ → Option Reason
clause_broken s es ns None = None
clause_broken s es ns (Some c) = option_map (broken_with c) (values_in es (clause_sorts s c) ns)

abbrev pub clause_said : Specification → List (List Name) → Option Name → Option (List Name) → Option Reason
clause_said s es (Some w) (Some ns) = clause_broken s es ns (clause_named s w)
clause_said s es _ _ = None

abbrev pub clause_reason : Specification → List (List Name) → List Part → Option Reason
clause_reason s es ps = if length ps == 3 then clause_said s es (word_at ps 1) (group_at ps 2) else None

abbrev pub drop_reason : List Part → Option Reason
drop_reason ps = if is_key ps 0 keys.Drop && length ps == 1 then Some NotTheDrop else None

-- `within`, `need`, `clause`, `over` or `drop`, and what belongs to it
abbrev pub reason_in : Specification → List (List Name) → List Part → Option Reason
reason_in s es ps =
    if is_key ps 0 keys.Within then option_map NotWithin (bound_at s ps)
    else (if is_key ps 0 keys.Need then need_reason ps
    else (if is_key ps 0 keys.Clause then clause_reason s es ps
    else (if is_key ps 0 keys.Over then option_map Over (bound_at s ps) else drop_reason ps)))

abbrev pub commit_in : List Part → Option Answer
commit_in ps = if length ps == 2 then option_map Commit (number_at ps 1) else None

-- `commit`, `refused` or `shown`, and what belongs to it
abbrev pub answer_in : Specification → List (List Name) → List Part → Option Answer
answer_in s es ps =
    if is_key ps 0 keys.Commit then commit_in ps
    else (if is_key ps 0 keys.Refused then option_map Refused (reason_in s es (drop 1 ps))
    else (if is_key ps 0 keys.Shown then option_map Shown (state_in s es (drop 1 ps)) else None))

-- the place of a request is written from 1
abbrev pub place_of : Option ℕ → Option ℕ
place_of None = None
place_of (Some k) = if k == 0 then None else Some (k - 1)

abbrev pub head_of : Option ℕ → Option ℕ → Option (List ℕ) → Option OutHead
head_of (Some session) (Some place) (Some counts) =
    Some (record { session = session; place = place; cut = record { counts = counts } })
head_of _ _ _ = None

-- `out`, the session, the place, `cut` and n counts
abbrev pub out_head : ℕ → List Part → Option OutHead
out_head n ps = head_of (origin_at n ps 1) (place_of (number_at ps 2)) (counts_in (take n (drop 4 ps)))

abbrev pub out_with : ℕ → OutHead → Answer → OutLine
out_with number head answer = record {
  line = number;
  session = head.session;
  place = head.place;
  cut = head.cut;
  answer = answer;
}

abbrev pub out_of : ℕ → Option OutHead → Option Answer → Option OutLine
out_of number (Some head) (Some answer) = Some (out_with number head answer)
out_of number _ _ = None

-- the head, and the result behind it
abbrev pub out_in : Specification → List (List Name) → ℕ → ℕ → List Part → Option OutLine
out_in s es n number ps =
    if nat_le (4 + n) (length ps) && is_key ps 3 keys.Cut
    then out_of number (out_head n ps) (answer_in s es (drop (4 + n) ps))
    else None
