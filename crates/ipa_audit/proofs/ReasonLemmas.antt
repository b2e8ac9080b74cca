-- A transaction is legal or not, and there is one first reason why it is not. So a request has one answer at a cut.
--
--   legal_illegal     what is legal has no reason
--   one_reason        what is not legal has one first reason
--   one_state         a test of facts has one state
--   one_answer        a request has one answer
use Rattle.std.proofs.Common.{◌≡◌, ℕ, zero, suc, ◌<◌, Bool, false, List, [], ◌∷◌, ◌++◌, length, Some, refl, sym, ◌∙◌, ap, subst, arith, inl, inr}
use Rattle.std.proofs.lemmas.Bool.{cases_order, cases_lt, false≢true}
use Rattle.std.proofs.lemmas.Grind.{same_number_lists}
use Rattle.ipa_clock.specs.declared.cut.Cut.{Cut}
use Rattle.ipa_spec.specs.declared.bounds.Bound.{Bound}
use Rattle.ipa_spec.specs.declared.clauses.Clause.{Clause}
use Rattle.ipa_spec.specs.declared.operations.Action.{Action}
use Rattle.ipa_spec.specs.declared.operations.Action.TheVariants.{Op, Drop}
use Rattle.ipa_spec.specs.declared.specification.Specification.{Specification}
use Rattle.ipa_logic.specs.Facts.{Universe, IsStateOf, has}
use Rattle.ipa_logic.specs.FactLaws.{same_rising}
use Rattle.ipa_logic.specs.Truth.{value_at, instance_true, IsEarlier, IsFirstBroken, IsValues, Keeps}
use Rattle.ipa_logic.specs.Touches.{NeedsHold, IsFirstFailing}
use Rattle.ipa_logic.specs.Groups.{Within}
use Rattle.ipa_logic.specs.DueDrops.{IsFirstOver}
use Rattle.ipa_logic.specs.declared.facts.Broken.{Broken}
use Rattle.ipa_logic.specs.declared.facts.Fact.{Fact}
use Rattle.ipa_logic.specs.declared.facts.Request.{Request}
use Rattle.ipa_logic.specs.declared.facts.Request.TheVariants.{Do, Show}
use Rattle.ipa_history.specs.Histories.{members_of}
use Rattle.ipa_history.specs.Values.{value_of}
use Rattle.ipa_history.specs.Legality.{IsLegalAs, IsReasonAs, IsOperationReason, IsDropReason, IsLegal, IsIllegal}
use Rattle.ipa_history.specs.Answers.{next_operation, IsAnswerOfDo, IsAnswer}
use Rattle.ipa_history.specs.declared.history.Tx.{Tx}
use Rattle.ipa_history.specs.declared.answers.Answer.{Answer}
use Rattle.ipa_history.specs.declared.answers.Answer.TheVariants.{Commit, Refused, Shown}
use Rattle.ipa_history.specs.declared.reasons.Reason.{Reason}
use Rattle.ipa_history.specs.declared.reasons.Reason.TheVariants.{NotWithin, Need, Clause as Breaks, Over, NotTheDrop}

-- a test of facts has one state
pub one_state : (t : Fact → Bool) (s r : List Fact) → IsStateOf t s → IsStateOf t r → s ≡ r
one_state t s r a b = same_rising s r a.rising b.rising (λ f. a.facts f ∙ sym (b.facts f))

-- of two first ones neither is earlier
one_first : (P : ℕ → Type 0) → ((n m : ℕ) → P n → P m → n < m → ⊥) → (n m : ℕ) → P n → P m → n ≡ m
one_first P early n m a b = elim (cases_order n m) [
  | inl same ↦ same
  | inr other ↦ elim other [
    | inl less ↦ absurd (early n m a b less)
    | inr more ↦ absurd (early m n b a more)
  ]
]

module _ (bounds : List Bound) (state : List Fact) where
  within_over : Within bounds state → (n : ℕ) → IsFirstOver bounds state n → ⊥
  within_over within n first =
      let low = within.groups n first.bound first.key first.declared in
      let high = first.over in
      omega (arith, low, high)

  one_over : (n m : ℕ) → IsFirstOver bounds state n → IsFirstOver bounds state m → n ≡ m
  one_over = one_first (IsFirstOver bounds state) (λ n m a b less.
      let early = b.earlier n a.bound less a.declared in
      let low = early.groups a.key in
      let high = a.over in
      omega (arith, low, high))

module _ (s : Specification) (t : Fact → Bool) (action : Action) (args : List ℕ) where
  needs_failing : NeedsHold s t action args → (n : ℕ) → IsFirstFailing s t action args n → ⊥
  needs_failing hold n first = false≢true (sym first.fails ∙ hold.each n first.need first.declared)

  one_failing : (n m : ℕ) → IsFirstFailing s t action args n → IsFirstFailing s t action args m → n ≡ m
  one_failing = one_first (IsFirstFailing s t action args) (λ n m a b less.
      false≢true (sym a.fails ∙ b.earlier n a.need less a.declared))

-- lists of one length of which neither is earlier are the same
module _ (v w : List ℕ) (not : IsEarlier v w → ⊥) (nor : IsEarlier w v → ⊥) where
  here : (k : ℕ) → ((j : ℕ) → j < k → value_at v j ≡ value_at w j) → value_at v k ≡ value_at w k
  here k before = elim (cases_order (value_at v k) (value_at w k)) [
    | inl same ↦ same
    | inr other ↦ elim other [
      | inl less ↦ absurd (not (record { place = k; same = before; less = less }))
      | inr more ↦ absurd (nor (record { place = k; same = λ i l. sym (before i l); less = more }))
    ]
  ]

  agree : (k j : ℕ) → j < k → value_at v j ≡ value_at w j
  agree zero j l = absurd (omega arith)
  agree (suc k) j l = elim (cases_lt j k) [
    | inl less ↦ agree k j less
    | inr last ↦
        let same : j ≡ k = omega (arith, l, last) in
        ap (value_at v) same ∙ (here k (agree k) ∙ ap (value_at w) (sym same))
  ]

  same_values : length v ≡ length w → v ≡ w
  same_values e = same_number_lists v w e (λ i l. agree (suc i) i (omega arith))

module _ (s : Specification) (universe : Universe) (t : Fact → Bool) where
  keeps_broken : Keeps s universe t → (k : ℕ) (values : List ℕ) → IsFirstBroken s universe t k values → ⊥
  keeps_broken keeps k values first =
      let clause = keeps.clauses k first.clause first.declared in
      false≢true (sym first.broken ∙ clause.instances values first.over)

  earlier_clause : (j k : ℕ) (v w : List ℕ) → IsFirstBroken s universe t j v → IsFirstBroken s universe t k w → j < k → ⊥
  earlier_clause j k v w a b less =
      let keeps = b.earlier_clauses j a.clause less a.declared in
      false≢true (sym a.broken ∙ keeps.instances v a.over)

  one_clause : (j k : ℕ) (v w : List ℕ) → IsFirstBroken s universe t j v → IsFirstBroken s universe t k w → j ≡ k
  one_clause j k v w a b = elim (cases_order j k) [
    | inl same ↦ same
    | inr other ↦ elim other [
      | inl less ↦ absurd (earlier_clause j k v w a b less)
      | inr more ↦ absurd (earlier_clause k j w v b a more)
    ]
  ]

  earlier_instance : (k : ℕ) (v w : List ℕ) → IsFirstBroken s universe t k v → IsFirstBroken s universe t k w →
      IsEarlier v w → ⊥
  earlier_instance k v w a b early =
      let both : Some a.clause ≡ Some b.clause = sym a.declared ∙ b.declared in
      let same : a.clause ≡ b.clause = cc in
      let over : IsValues universe b.clause v = subst (λ (c : Clause). IsValues universe c v) same a.over in
      let broken : instance_true s t v b.clause ≡ false = ap (instance_true s t v) (sym same) ∙ a.broken in
      false≢true (sym broken ∙ b.earlier_values v over early)

  one_broken : (a b : Broken) → IsFirstBroken s universe t a.clause a.values →
      IsFirstBroken s universe t b.clause b.values → a ≡ b
  one_broken a b one other =
      let clause : a.clause ≡ b.clause = one_clause a.clause b.clause a.values b.values one other in
      let moved = subst (λ (k : ℕ). IsFirstBroken s universe t k a.values) clause one in
      let length_a = moved.over.width in
      let length_b = other.over.width in
      let values : a.values ≡ b.values = same_values a.values b.values
      (earlier_instance b.clause a.values b.values moved other)
      (earlier_instance b.clause b.values a.values other moved) (length_a ∙ sym length_b) in
      λ i. record { clause = clause i; values = values i }

module _ (s : Specification) (universe : Universe) (t : Tx) (before after : List Fact) where
  -- an operation has one first reason between two states
  one_reason_between : (r q : Reason) → IsOperationReason s universe t before after r →
      IsOperationReason s universe t before after q → r ≡ q
  one_reason_between (NotWithin n) (NotWithin m) a b = ap NotWithin (one_over s.bounds before n m a b)
  one_reason_between (NotWithin n) (Need k) a b = absurd (within_over s.bounds before b.within_before n a)
  one_reason_between (NotWithin n) (Breaks x) a b = absurd (within_over s.bounds before b.within_before n a)
  one_reason_between (NotWithin n) (Over m) a b = absurd (within_over s.bounds before b.within_before n a)
  one_reason_between (NotWithin n) NotTheDrop a b = absurd b
  one_reason_between (Need k) (NotWithin n) a b = absurd (within_over s.bounds before a.within_before n b)
  one_reason_between (Need k) (Need j) a b = ap Need (one_failing s (has before) t.action t.args k j a.first b.first)
  one_reason_between (Need k) (Breaks x) a b = absurd (needs_failing s (has before) t.action t.args b.needs k a.first)
  one_reason_between (Need k) (Over m) a b = absurd (needs_failing s (has before) t.action t.args b.needs k a.first)
  one_reason_between (Need k) NotTheDrop a b = absurd b
  one_reason_between (Breaks x) (NotWithin n) a b = absurd (within_over s.bounds before a.within_before n b)
  one_reason_between (Breaks x) (Need k) a b = absurd (needs_failing s (has before) t.action t.args a.needs k b.first)
  one_reason_between (Breaks x) (Breaks y) a b = ap Breaks (one_broken s universe (has after) x y a.first b.first)
  one_reason_between (Breaks x) (Over m) a b =
      absurd (keeps_broken s universe (has after) b.keeps x.clause x.values a.first)
  one_reason_between (Breaks x) NotTheDrop a b = absurd b
  one_reason_between (Over n) (NotWithin m) a b = absurd (within_over s.bounds before a.within_before m b)
  one_reason_between (Over n) (Need k) a b = absurd (needs_failing s (has before) t.action t.args a.needs k b.first)
  one_reason_between (Over n) (Breaks x) a b =
      absurd (keeps_broken s universe (has after) a.keeps x.clause x.values b.first)
  one_reason_between (Over n) (Over m) a b = ap Over (one_over s.bounds after n m a.first b.first)
  one_reason_between (Over n) NotTheDrop a b = absurd b
  one_reason_between NotTheDrop q a b = absurd a

  -- a drop has one first reason between two states
  one_drop_reason : (n : ℕ) (members : List Tx) (r q : Reason) → IsDropReason s universe n members t before after r →
      IsDropReason s universe n members t before after q → r ≡ q
  one_drop_reason n members (NotWithin m) q a b = absurd a
  one_drop_reason n members (Need k) q a b = absurd a
  one_drop_reason n members (Over m) q a b = absurd a
  one_drop_reason n members (Breaks x) (Breaks y) a b =
      ap Breaks (one_broken s universe (has after) x y a.first b.first)
  one_drop_reason n members (Breaks x) NotTheDrop a b = absurd (b a.due)
  one_drop_reason n members NotTheDrop (Breaks y) a b = absurd (a b.due)
  one_drop_reason n members NotTheDrop NotTheDrop a b = refl
  one_drop_reason n members r (NotWithin m) a b = absurd b
  one_drop_reason n members r (Need k) a b = absurd b
  one_drop_reason n members r (Over m) a b = absurd b

  -- so has a transaction, by its action
  one_reason_as : (action : Action) (members : List Tx) (r q : Reason) →
      IsReasonAs action s universe members t before after r → IsReasonAs action s universe members t before after q → r ≡ q
  one_reason_as (Op n) members r q a b = one_reason_between r q a b
  one_reason_as (Drop n) members r q a b = one_drop_reason n members r q a b

  -- what is legal between two states has no reason there
  legal_reason : (action : Action) (members : List Tx) (r : Reason) → IsLegalAs action s universe members t before after →
      IsReasonAs action s universe members t before after r → ⊥
  legal_reason (Op n) members (NotWithin m) l r = within_over s.bounds before l.within_before m r
  legal_reason (Op n) members (Need k) l r = needs_failing s (has before) t.action t.args l.needs k r.first
  legal_reason (Op n) members (Breaks x) l r = keeps_broken s universe (has after) l.keeps x.clause x.values r.first
  legal_reason (Op n) members (Over m) l r = within_over s.bounds after l.within_after m r.first
  legal_reason (Op n) members NotTheDrop l r = r
  legal_reason (Drop n) members (NotWithin m) l r = r
  legal_reason (Drop n) members (Need k) l r = r
  legal_reason (Drop n) members (Breaks x) l r = keeps_broken s universe (has after) l.keeps x.clause x.values r.first
  legal_reason (Drop n) members (Over m) l r = r
  legal_reason (Drop n) members NotTheDrop l r = r l.due

module _ (s : Specification) (universe : Universe) (base : List Fact) (h : List Tx) where
  -- what is legal has no reason
  pub legal_illegal : (t : Tx) (r : Reason) → IsLegal s universe base h t → IsIllegal s universe base h t r → ⊥
  legal_illegal t r legal illegal =
      let before : illegal.before ≡ legal.before = one_state (value_of s base (members_of h t.cut)) illegal.before
      legal.before illegal.state_before legal.state_before in
      let after : illegal.after ≡ legal.after = one_state (value_of s base (members_of h t.cut ++ t ∷ [])) illegal.after
      legal.after illegal.state_after legal.state_after in
      legal_reason s universe t legal.before legal.after t.action (members_of h t.cut) r legal.legal
      (subst (λ (x : List Fact). IsReasonAs t.action s universe (members_of h t.cut) t legal.before x r) after
      (subst (λ (x : List Fact). IsReasonAs t.action s universe (members_of h t.cut) t x illegal.after r) before
      illegal.reason))

  -- what is not legal has one first reason
  pub one_reason : (t : Tx) (r q : Reason) → IsIllegal s universe base h t r → IsIllegal s universe base h t q → r ≡ q
  one_reason t r q a b =
      let before : a.before ≡ b.before = one_state (value_of s base (members_of h t.cut)) a.before b.before
      a.state_before b.state_before in
      let after : a.after ≡ b.after = one_state (value_of s base (members_of h t.cut ++ t ∷ [])) a.after b.after
      a.state_after b.state_after in
      one_reason_as s universe t b.before b.after t.action (members_of h t.cut) r q
      (subst (λ (x : List Fact). IsReasonAs t.action s universe (members_of h t.cut) t b.before x r) after
      (subst (λ (x : List Fact). IsReasonAs t.action s universe (members_of h t.cut) t x a.after r) before a.reason))
      b.reason

  one_answer_do : (t : Tx) (one other : Answer) → IsAnswerOfDo s universe base h t one →
      IsAnswerOfDo s universe base h t other → one ≡ other
  one_answer_do t (Commit k) (Commit j) a b = ap Commit (a.numbered ∙ sym b.numbered)
  one_answer_do t (Commit k) (Refused q) a b = absurd (legal_illegal t q a.legal b)
  one_answer_do t (Commit k) (Shown x) a b = absurd b
  one_answer_do t (Refused r) (Commit k) a b = absurd (legal_illegal t r b.legal a)
  one_answer_do t (Refused r) (Refused q) a b = ap Refused (one_reason t r q a b)
  one_answer_do t (Refused r) (Shown x) a b = absurd b
  one_answer_do t (Shown x) other a b = absurd a

  -- a request has one answer
  pub one_answer : (cut : Cut) (origin : ℕ) (request : Request) (one other : Answer) →
      IsAnswer s universe base h cut origin request one → IsAnswer s universe base h cut origin request other →
      one ≡ other
  one_answer cut origin (Do op args) one other a b =
      one_answer_do (next_operation s cut origin op args) one other a b
  one_answer cut origin (Show predicate places) (Shown x) (Shown y) a b = ap Shown (one_state _ x y a b)
  one_answer cut origin (Show predicate places) (Shown x) (Commit k) a b = absurd b
  one_answer cut origin (Show predicate places) (Shown x) (Refused q) a b = absurd b
  one_answer cut origin (Show predicate places) (Commit k) other a b = absurd a
  one_answer cut origin (Show predicate places) (Refused r) other a b = absurd a
