-- A base is refused in one way, and not where it is kept.
--
--   state_one       the state in which some facts are true
--   end_one         the refusal of a base
--   kept_only       a base that is kept is not refused
use Rattle.std.proofs.Common.{◌≡◌, ℕ, ◌<◌, ◌≤◌, ◌⊎◌, inl, inr, Bool, false, List, [], ◌∷◌, length, Option, refl, sym, ap, subst, ◌∙◌, zero, suc, arith}
use Rattle.std.specs.List.{slice_get}
use Rattle.std.proofs.lemmas.Bool.{false≢true, cases_order}
use Rattle.std.proofs.lemmas.Option.{same_Some}
use Rattle.ipa_spec.specs.Actions.{sorts_of_vars}
use Rattle.ipa_spec.specs.declared.names.Name.{Name}
use Rattle.ipa_spec.specs.declared.specification.Specification.{Specification}
use Rattle.ipa_logic.specs.Facts.{Universe, has, IsStateOf}
use Rattle.ipa_logic.specs.FactLaws.{same_rising}
use Rattle.ipa_logic.specs.Groups.{Within}
use Rattle.ipa_logic.specs.Truth.{value_at, instance_true, IsOver, IsEarlier, Keeps, IsFirstBroken}
use Rattle.ipa_logic.specs.declared.facts.Broken.{Broken}
use Rattle.ipa_logic.specs.declared.facts.Fact.{Fact}
use Rattle.ipa_reader.specs.Setups.{size_list, instance_count, greatest_instance_count, element_names, IsNamed, IsNamedOver, IsRefusedAtEnd, IsKept}
use Rattle.ipa_reader.specs.declared.refusals.DocKind.{DocKind}
use Rattle.ipa_reader.specs.declared.refusals.DocKind.TheVariants.{BadByte, Existential, BadLine, Spec, Order, UnknownElement, SetupLimit, BaseClause, BaseOver}

pub state_one : (facts s t : List Fact) → IsStateOf (has facts) s → IsStateOf (has facts) t → s ≡ t
state_one facts s t a b = same_rising s t a.rising b.rising (λ f. a.facts f ∙ sym (b.facts f))

-- of two lists of values that differ one is earlier
earlier_behind : (x y : ℕ) (v w : List ℕ) → x ≡ y → IsEarlier v w → IsEarlier (x ∷ v) (y ∷ w)
earlier_behind x y v w e h = record { place = suc h.place; same = same; less = h.less }
  where
    same : (k : ℕ) → k < suc h.place → value_at (x ∷ v) k ≡ value_at (y ∷ w) k
    same zero l = e
    same (suc k) l = h.same k (omega arith)

cases_earlier : (v w : List ℕ) → length v ≡ length w → (v ≡ w) ⊎ (IsEarlier v w ⊎ IsEarlier w v)
cases_earlier [] [] e = inl refl
cases_earlier [] (y ∷ w) e = absurd (omega arith)
cases_earlier (x ∷ v) [] e = absurd (omega arith)
cases_earlier (x ∷ v) (y ∷ w) e = elim (cases_order x y) [
  | inl same ↦ elim (cases_earlier v w (omega arith)) [
    | inl rest ↦ inl (λ i. same i ∷ rest i)
    | inr (inl before) ↦ inr (inl (earlier_behind x y v w same before))
    | inr (inr behind) ↦ inr (inr (earlier_behind y x w v (sym same) behind))
  ]
  | inr (inl before) ↦ inr (inl (record { place = 0; same = λ k l. absurd (omega arith); less = before }))
  | inr (inr behind) ↦ inr (inr (record { place = 0; same = λ k l. absurd (omega arith); less = behind }))
]

module _ (s : Specification) (sizes : Universe) (t : Fact → Bool) where
  -- what is kept before a place is not broken there
  broken_later : (k j : ℕ) (v w : List ℕ) → IsFirstBroken s sizes t k v → IsFirstBroken s sizes t j w → k < j → ⊥
  broken_later k j v w a b less =
      false≢true (sym a.broken ∙ (b.earlier_clauses k a.clause less a.declared).instances v a.over)

  -- the first values that break a clause
  values_one : (k : ℕ) (v w : List ℕ) → IsFirstBroken s sizes t k v → IsFirstBroken s sizes t k w → v ≡ w
  values_one k v w a b =
      let same : a.clause ≡ b.clause = same_Some a.clause b.clause (sym a.declared ∙ b.declared) in
      let a_over : IsOver sizes (sorts_of_vars b.clause.vars) v = subst (λ c. IsOver sizes (sorts_of_vars c.vars) v) same a.over in
      let b_over : IsOver sizes (sorts_of_vars a.clause.vars) w = subst (λ c. IsOver sizes (sorts_of_vars c.vars) w) (sym same) b.over in
      let a_broken : instance_true s t v b.clause ≡ false = subst (λ c. instance_true s t v c ≡ false) same a.broken in
      let b_broken : instance_true s t w a.clause ≡ false = subst (λ c. instance_true s t w c ≡ false) (sym same) b.broken in
      elim (cases_earlier v w (a.over.width ∙ sym b.over.width)) [
        | inl e ↦ e
        | inr (inl before) ↦ absurd (false≢true (sym a_broken ∙ b.earlier_values v a_over before))
        | inr (inr behind) ↦ absurd (false≢true (sym b_broken ∙ a.earlier_values w b_over behind))
      ]

  broken_one : (k j : ℕ) (v w : List ℕ) → IsFirstBroken s sizes t k v → IsFirstBroken s sizes t j w → (k ≡ j) × (v ≡ w)
  broken_one k j v w a b = elim (cases_order k j) [
    | inl e ↦ (e, values_one j v w (subst (λ n. IsFirstBroken s sizes t n v) e a) b)
    | inr (inl before) ↦ absurd (broken_later k j v w a b before)
    | inr (inr behind) ↦ absurd (broken_later j k w v b a behind)
  ]

  kept_unbroken : (k : ℕ) (v : List ℕ) → Keeps s sizes t → IsFirstBroken s sizes t k v → ⊥
  kept_unbroken k v h a = false≢true (sym a.broken ∙ (h.clauses k a.clause a.declared).instances v a.over)

module _ (s : Specification) (state : List Fact) where
  over_later : (n m : ℕ) (one other : Name) → IsNamedOver s state n one → IsNamedOver s state m other → n < m → ⊥
  over_later n m one other a b less =
      let kept = (b.first.earlier n a.first.bound less a.first.declared).groups a.first.key in
      let over = a.first.over in
      omega (arith, kept, over)

  over_one : (n m : ℕ) (one other : Name) → IsNamedOver s state n one → IsNamedOver s state m other → (n ≡ m) × (one ≡ other)
  over_one n m one other a b = elim (cases_order n m) [
    | inl e ↦ (e, a.name_is ∙ ap (λ x. x.name) (same_Some a.first.bound b.first.bound (sym a.first.declared ∙ ap (slice_get s.bounds) e ∙ b.first.declared)) ∙ sym b.name_is)
    | inr (inl before) ↦ absurd (over_later n m one other a b before)
    | inr (inr behind) ↦ absurd (over_later m n other one b a behind)
  ]

  within_only : (n : ℕ) (name : Name) → Within s.bounds state → IsNamedOver s state n name → ⊥
  within_only n name h a =
      let kept = h.groups n a.first.bound a.first.key a.first.declared in
      let over = a.first.over in
      omega (arith, kept, over)

names_one : (s : Specification) (elements : List (List Name)) (broken other : Broken) (one two : Name) (names others : List (Option Name)) → broken ≡ other → IsNamed s elements broken one names → IsNamed s elements other two others → (one ≡ two) × (names ≡ others)
names_one s elements broken other one two names others e a b =
    let same : a.clause ≡ b.clause = same_Some a.clause b.clause (sym a.declared ∙ ap (λ x. slice_get s.clauses x.clause) e ∙ b.declared) in
    (a.name_is ∙ ap (λ c. c.name) same ∙ sym b.name_is, a.names_are ∙ (λ i. element_names elements (sorts_of_vars (same i).vars) (e i).values) ∙ sym b.names_are)

not_above : (n m : ℕ) → n ≤ m → m < n → ⊥
not_above n m kept over = omega arith

module _ (s : Specification) (elements : List (List Name)) (state : List Fact) where
  -- why a base is refused, by its kind
  data AtEnd (kind : DocKind) : Type 0 where
    many : greatest_instance_count < instance_count s (size_list elements) → kind ≡ SetupLimit 18 (instance_count s (size_list elements)) → AtEnd kind
    clause : (broken : Broken) (name : Name) (names : List (Option Name)) → instance_count s (size_list elements) ≤ greatest_instance_count → IsFirstBroken s (size_list elements) (has state) broken.clause broken.values → IsNamed s elements broken name names → kind ≡ BaseClause broken name names → AtEnd kind
    bound : (n : ℕ) (name : Name) → instance_count s (size_list elements) ≤ greatest_instance_count → Keeps s (size_list elements) (has state) → IsNamedOver s state n name → kind ≡ BaseOver n name → AtEnd kind

  cause : (kind : DocKind) → IsRefusedAtEnd s elements state kind → AtEnd kind
  cause (SetupLimit which found) h = many h.2 (λ i. SetupLimit (h.0 i) (h.1 i))
  cause (BaseClause broken name names) h = clause broken name names h.0 h.1 h.2 refl
  cause (BaseOver n name) h = bound n name h.0 h.1 h.2 refl
  cause BadByte h = absurd h
  cause Existential h = absurd h
  cause BadLine h = absurd h
  cause (Spec fault) h = absurd h
  cause Order h = absurd h
  cause UnknownElement h = absurd h

  same_clause : (broken other : Broken) (one two : Name) (names others : List (Option Name)) → IsFirstBroken s (size_list elements) (has state) broken.clause broken.values → IsFirstBroken s (size_list elements) (has state) other.clause other.values → IsNamed s elements broken one names → IsNamed s elements other two others → ◌≡◌ {A = DocKind} (BaseClause broken one names) (BaseClause other two others)
  same_clause broken other one two names others a b x y =
      let both = broken_one s (size_list elements) (has state) broken.clause other.clause broken.values other.values a b in
      let same : broken ≡ other = λ i. record { clause = both.0 i; values = both.1 i } in
      let named = names_one s elements broken other one two names others same x y in
      λ i. BaseClause (same i) (named.0 i) (named.1 i)

  causes_one : (kind other : DocKind) → AtEnd kind → AtEnd other → kind ≡ other
  causes_one kind other (many h e) (many g d) = e ∙ sym d
  causes_one kind other (many h e) (clause broken name names few g x d) = absurd (not_above _ _ few h)
  causes_one kind other (many h e) (bound n name few k x d) = absurd (not_above _ _ few h)
  causes_one kind other (clause broken name names few g x e) (many h d) = absurd (not_above _ _ few h)
  causes_one kind other (clause broken name names few g x e) (clause broken_too name_too names_too few_too g_too x_too d) =
      e ∙ same_clause broken broken_too name name_too names names_too g g_too x x_too ∙ sym d
  causes_one kind other (clause broken name names few g x e) (bound n name_too few_too k y d) =
      absurd (kept_unbroken s (size_list elements) (has state) broken.clause broken.values k g)
  causes_one kind other (bound n name few k x e) (many h d) = absurd (not_above _ _ few h)
  causes_one kind other (bound n name few k x e) (clause broken name_too names few_too g y d) =
      absurd (kept_unbroken s (size_list elements) (has state) broken.clause broken.values k g)
  causes_one kind other (bound n name few k x e) (bound m name_too few_too k_too y d) =
      let both = over_one s state n m name name_too x y in
      e ∙ (λ i. BaseOver (both.0 i) (both.1 i)) ∙ sym d

  pub end_one : (kind other : DocKind) → IsRefusedAtEnd s elements state kind → IsRefusedAtEnd s elements state other → kind ≡ other
  end_one kind other a b = causes_one kind other (cause kind a) (cause other b)

  not_both : (kind : DocKind) → IsKept s (size_list elements) state → AtEnd kind → ⊥
  not_both kind h (many over e) = not_above _ _ h.instances over
  not_both kind h (clause broken name names few g x e) = kept_unbroken s (size_list elements) (has state) broken.clause broken.values h.clauses g
  not_both kind h (bound n name few k x e) = within_only s state n name h.bounds x

  pub kept_only : (kind : DocKind) → IsKept s (size_list elements) state → IsRefusedAtEnd s elements state kind → ⊥
  kept_only kind h a = not_both kind h (cause kind a)
