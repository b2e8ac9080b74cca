-- A lawful end of a run can be written.
--
--   tx_is, out_is   each entry and each outcome can be
--   last_is         the final facts are a state over the sizes
--   lawful_writable so can the end
use Rattle.std.proofs.Common.{◌≡◌, ℕ, suc, ◌+◌, ◌<◌, ◌≤◌, ◌^◌, ◌⊎◌, inl, inr, Bool, true, false, ◌&&◌, ◌==◌, cond, List, [], ◌∷◌, ◌++◌, length, take, Option, None, Some, refl, sym, ap, subst, ◌∙◌, arith}
use Rattle.std.specs.List.{slice_get, AllByRecursion}
use Rattle.std.specs.Option.{option_map_or}
use Rattle.std.proofs.lemmas.Bool.{and_parts, cases_lt, ne_eqb}
use Rattle.std.proofs.lemmas.List.{length-take}
use Rattle.std.proofs.lemmas.List.Elements.{All-from_recursion}
use Rattle.std.proofs.lemmas.List.Sums.{count_by-le-length, sum_by-cons}
use Rattle.std.proofs.lemmas.Option.{slice_get_within}
use Rattle.ipa_clock.specs.Cut.{count_of, is_covered}
use Rattle.ipa_clock.specs.declared.cut.Cut.{Cut}
use Rattle.ipa_clock.specs.declared.dot.Dot.{Dot}
use Rattle.ipa_spec.specs.Actions.{needs_of}
use Rattle.ipa_spec.specs.declared.names.Name.{Name}
use Rattle.ipa_spec.specs.declared.operations.Operation.{Operation}
use Rattle.ipa_spec.specs.declared.operations.Action.TheVariants.{Op}
use Rattle.ipa_spec.specs.declared.specification.Specification.{Specification}
use Rattle.ipa_logic.specs.Facts.{IsState, IsStateOf}
use Rattle.ipa_logic.specs.declared.facts.Fact.{Fact}
use Rattle.ipa_logic.specs.declared.facts.Request.{Request}
use Rattle.ipa_logic.specs.declared.facts.Request.TheVariants.{Do, Show}
use Rattle.ipa_history.specs.Histories.{IsMember, IsHistory, number_of, members_of}
use Rattle.ipa_history.specs.HistoryLaws.{member-take}
use Rattle.ipa_history.specs.MemberLaws.{member_later, member_first, filter_member}
use Rattle.ipa_history.specs.Answers.{next_operation, is_shown, IsAnswer}
use Rattle.ipa_history.specs.Legality.{IsReasonAs}
use Rattle.ipa_history.specs.LawfulEnds.{IsAt, IsLawfulEnd}
use Rattle.ipa_history.specs.Values.{value_at, value_of}
use Rattle.ipa_history.specs.declared.history.Tx.{Tx}
use Rattle.ipa_history.specs.declared.outcomes.Outcome.{Outcome}
use Rattle.ipa_history.specs.declared.reasons.Reason.{Reason}
use Rattle.ipa_history.specs.declared.reasons.Reason.TheVariants.{NotWithin, Need, Clause as Breaks, Over, NotTheDrop}
use Rattle.ipa_history.specs.declared.answers.Answer.{Answer}
use Rattle.ipa_history.specs.declared.answers.Answer.TheVariants.{Commit, Refused, Shown}
use Rattle.ipa_lift.specs.StandingLaws.{IsFact-value}
use Rattle.ipa_journal.specs.declared.journal.OutLine.{OutLine}
use Rattle.ipa_journal_laws.specs.Writable.{IsSetting, IsCutOf, IsWritable, IsWritableReason, IsWritableAnswer, IsWritableTx, IsWritableOut, HaveAllOrigins, AreCounted}
use Rattle.ipa_journal_laws.specs.Written.{out_of_session, session_outs, all_outs}
use Rattle.ipa_journal_laws.proofs.Facts.{fits}
use Rattle.ipa_journal_laws.proofs.Named.{item_at}

all_at : {X : Type 0} (P : X → Type 0) (xs : List X) → ((k : ℕ) (x : X) → slice_get xs k ≡ Some x → P x) → AllByRecursion P xs
all_at P [] h = tt
all_at P (x ∷ xs) h = (h 0 x refl, all_at P xs (λ k y e. h (suc k) y e))

session_all : (P : OutLine → Type 0) (i k : ℕ) (os : List Outcome) →
    ((m : ℕ) (o : Outcome) → slice_get os m ≡ Some o → P (out_of_session i (k + m) o)) → AllByRecursion P (session_outs i k os)
session_all P i k [] h = tt
session_all P i k (o ∷ os) h =
    let same : k + 0 ≡ k = omega arith in (
      subst (λ place. P (out_of_session i place o)) same (h 0 o refl),
      session_all P i (k + 1) os (λ m x e.
          let moved : k + suc m ≡ k + 1 + m = omega arith in
          subst (λ place. P (out_of_session i place x)) moved (h (suc m) x e)),
    )

joined_all : (P : OutLine → Type 0) (xs ys : List OutLine) → AllByRecursion P xs → AllByRecursion P ys → AllByRecursion P (xs ++ ys)
joined_all P [] ys h g = g
joined_all P (x ∷ xs) ys h g = (h.0, joined_all P xs ys h.1 g)

outs_all : (P : OutLine → Type 0) (i : ℕ) (oss : List (List Outcome)) →
    ((j k : ℕ) (os : List Outcome) (o : Outcome) → slice_get oss j ≡ Some os → slice_get os k ≡ Some o → P (out_of_session (i + j) k o)) →
    AllByRecursion P (all_outs i oss)
outs_all P i [] h = tt
outs_all P i (os ∷ oss) h =
    let same : i + 0 ≡ i = omega arith in
    joined_all P (session_outs i 0 os) (all_outs (i + 1) oss)
    (session_all P i 0 os (λ m o e.
    let place : 0 + m ≡ m = omega arith in
    subst (λ session. P (out_of_session session (0 + m) o)) same (subst (λ k. P (out_of_session (i + 0) k o)) (sym place) (h 0 m os o refl e))))
    (outs_all P (i + 1) oss (λ j k qs o at e.
    let moved : i + suc j ≡ i + 1 + j = omega arith in
    subst (λ session. P (out_of_session session k o)) moved (h (suc j) k qs o at e)))

-- no entry has an origin past the sessions
number_none : (n origin : ℕ) (h : List Tx) → ((t : Tx) → IsMember h t → t.dot.origin < n) → n ≤ origin → number_of origin h ≡ 0
number_none n origin [] inside past = refl
number_none n origin (t ∷ h) inside past =
    let other : (t.dot.origin == origin) ≡ false = ne_eqb t.dot.origin origin (λ e. omega (arith, e, inside t (member_first t h), past)) in
    let rest = number_none n origin h (λ u m. inside u (member_later t h u m)) past in
    sum_by-cons (λ (u : Tx). cond (u.dot.origin == origin) 1 0) t h
    ∙ ap (λ b. cond b 1 0 + number_of origin h) other
    ∙ omega (arith, rest)

module _ (s : Specification) (sizes : List ℕ) (es : List (List Name)) (n : ℕ) (set : IsSetting s sizes es n)
    (base : List Fact) (requests : List (List Request)) (entries : List Tx) (outcomes : List (List Outcome)) (last : List Fact)
    (own : n ≡ length requests) (wide : HaveAllOrigins entries outcomes) (counted : AreCounted requests) (end : IsLawfulEnd s sizes base requests entries outcomes last) where
  history : IsHistory entries
  history = end.entries_are.legal.history

  number_small : (t : Tx) → IsMember entries t → t.dot.number ≤ 65537
  number_small t m =
      let named = history.numbers m.place t m.at in
      let count = count_by-le-length (λ (u : Tx). u.dot.origin == t.dot.origin) (take m.place entries) in
      omega (arith, named, count, length-take m.place entries, end.entries_are.few)

  count_small : (t : Tx) → IsMember entries t → (origin : ℕ) → (0 < count_of t.cut origin) ⊎ (count_of t.cut origin ≤ 0) → count_of t.cut origin < 2 ^ 32
  count_small t m origin (inr none) = omega (arith, none)
  count_small t m origin (inl some) =
      let d : Dot = record { origin = origin; number = count_of t.cut origin } in
      let there = history.seen m.place t d m.at some (omega arith) in
      let below = number_small there.tx (member-take m.place entries there.tx there.member) in
      let same : there.tx.dot.number ≡ count_of t.cut origin = ap (λ (e : Dot). e.number) there.named in
      omega (arith, below, same)

  tx_is : (k : ℕ) (t : Tx) → slice_get entries k ≡ Some t → IsWritableTx s sizes n t
  tx_is k t at =
      let m : IsMember entries t = record { place = k; at = at } in
      let shaped = end.entries_are.shaped t m in
      record {
        origin = omega (arith, shaped.origin, own);
        number = omega (arith, number_small t m);
        cut = record {
          width = wide.seen t m;
          counts = λ origin. count_small t m origin (cases_lt 0 (count_of t.cut origin));
          none_past = λ origin past. shaped.others origin (omega (arith, past, own));
        };
        action = shaped.fitting.declared;
        args = shaped.fitting.arguments;
        count = shaped.count;
      }

  read_cut : (session place : ℕ) (o : Outcome) → IsAt outcomes session place o → IsCutOf n o.cut
  read_cut session place o at =
      let closed = (end.read.reading session place o at).closed in
      record {
        width = wide.read session place o at;
        counts = λ origin.
            let count = count_by-le-length (λ (u : Tx). u.dot.origin == origin) entries in
            omega (arith, closed.within origin, count, end.entries_are.few);
        none_past = λ origin past.
            let none = number_none n origin entries (λ t m. let shaped = end.entries_are.shaped t m in omega (arith, shaped.origin, own)) past in
            omega (arith, closed.within origin, none);
      }

  -- a state of what is true at the cut is one over the sizes
  true_state : (t : Fact → Bool) (state : List Fact) → ((f : Fact) → t f ≡ true → (ms : List Tx) × ((u : Tx) → IsMember ms u → IsMember entries u) × (value_of s base ms f ≡ true)) →
      IsStateOf t state → IsState s sizes state
  true_state t state sound is = record {
    rising = is.rising;
    facts = λ f g.
        let there = sound f (sym (is.facts f) ∙ g) in
        IsFact-value s (fits s sizes es n set) sizes base entries end.entries_are.legal there.0 there.1 f there.2;
  }

  shown_state : (cut : Cut) (predicate : ℕ) (places : List (Option ℕ)) (state : List Fact) →
      IsStateOf (λ f. value_at s base entries cut f && is_shown predicate places f) state → IsState s sizes state
  shown_state cut predicate places state is = true_state (λ f. value_at s base entries cut f && is_shown predicate places f) state (λ f g. (
    members_of entries cut,
    λ u m. let kept = filter_member (λ (t : Tx). is_covered cut t.dot) entries u m in kept.member,
    (and_parts (value_at s base entries cut f) (is_shown predicate places f) g).0,
  )) is

  need_below : (op k : ℕ) (o : Option Operation) → slice_get s.operations op ≡ o → k < length (option_map_or (λ q. q.needs) o []) → k < 6
  need_below op k None at l = absurd (omega arith)
  need_below op k (Some o) at l =
      let most = (fits s sizes es n set).need_count op o at in
      omega (arith, l, most)

  reason_is : (op : ℕ) (members : List Tx) (t : Tx) (before after : List Fact) (r : Reason) → t.action ≡ Op op →
      IsReasonAs (Op op) s sizes members t before after r → IsWritableReason s sizes r
  reason_is op members t before after (NotWithin k) action is = slice_get_within s.bounds k is.bound is.declared
  reason_is op members t before after (Need k) action is =
      let within = slice_get_within (needs_of s t.action) k is.first.need is.first.declared in
      need_below op k (slice_get s.operations op) refl (subst (λ a. k < length (needs_of s a)) action within)
  reason_is op members t before after (Breaks b) action is =
      record { clause = is.first.clause; declared = is.first.declared; values = is.first.over }
  reason_is op members t before after (Over k) action is = slice_get_within s.bounds k is.first.bound is.first.declared
  reason_is op members t before after NotTheDrop action is = absurd is

  answer_is : (request : Request) (cut : Cut) (session : ℕ) (a : Answer) → IsCutOf n cut → count_of cut session ≤ 65536 →
      IsAnswer s sizes base entries cut session request a → IsWritableAnswer s sizes a
  answer_is (Do op args) cut session (Commit number) is few answer = omega (arith, answer.numbered, few)
  answer_is (Do op args) cut session (Refused r) is few answer =
      reason_is op (members_of entries cut) (next_operation s cut session op args) answer.before answer.after r refl answer.reason
  answer_is (Do op args) cut session (Shown state) is few answer = absurd answer
  answer_is (Show predicate places) cut session (Commit number) is few answer = absurd answer
  answer_is (Show predicate places) cut session (Refused r) is few answer = absurd answer
  answer_is (Show predicate places) cut session (Shown state) is few answer = shown_state cut predicate places state answer

  out_is : (j k : ℕ) (os : List Outcome) (o : Outcome) → slice_get outcomes j ≡ Some os → slice_get os k ≡ Some o → IsWritableOut s sizes n (out_of_session j k o)
  out_is j k os o listed at =
      let there : IsAt outcomes j k o = record { list = os; list_at = listed; at = at } in
      let session = slice_get_within outcomes j os listed in
      let asked = item_at requests j (omega (arith, session, end.answered.sessions)) in
      let places = end.answered.places j asked.0 os asked.1 listed in
      let place = slice_get_within os k o at in
      let request = item_at asked.0 k (omega (arith, place, places)) in
      let from : IsAt requests j k request.0 = record { list = asked.0; list_at = asked.1; at = request.1 } in
      let answer = end.answers.answers j k request.0 o from there in
      let cut = read_cut j k o there in
      let closed = (end.read.reading j k o there).closed in
      let count = count_by-le-length (λ (u : Tx). u.dot.origin == j) entries in
      record {
        session = omega (arith, session, end.answered.sessions, own);
        place = omega (arith, place, places, counted.each j asked.0 asked.1);
        cut = cut;
        answer = answer_is request.0 o.cut j o.answer cut (omega (arith, closed.within j, count, end.entries_are.few)) answer;
      }

  pub lawful_writable : IsWritable s sizes n entries (all_outs 0 outcomes) last
  lawful_writable = record {
    transactions = All-from_recursion (IsWritableTx s sizes n) entries (all_at (IsWritableTx s sizes n) entries tx_is);
    outcomes = All-from_recursion (IsWritableOut s sizes n) (all_outs 0 outcomes) (outs_all (IsWritableOut s sizes n) 0 outcomes (λ j k os o listed at.
        let place : 0 + j ≡ j = omega arith in
        subst (λ session. IsWritableOut s sizes n (out_of_session session k o)) (sym place) (out_is j k os o listed at)));
    last_facts = true_state (value_of s base entries) last (λ f g. (entries, λ u m. m, g)) end.last_facts;
  }
