-- The least assignment that answers a question is the first state that meets its demands.
use Rattle.std.proofs.Common.{◌≡◌, ℕ, zero, suc, ◌+◌, ◌-◌, ◌<◌, ◌≤◌, Bool, true, false, ◌&&◌, List, [], ◌∷◌, ◌++◌, length, map, filter, replicate, refl, sym, ap, ◌∙◌, subst, arith, get_or, inl, inr, ◌⊎◌}
use Rattle.std.proofs.lemmas.Bool.{cases_lt, cases_Bool, and_from, and_right, false≢true}
use Rattle.std.proofs.lemmas.List.{append-nil, append_assoc, length-append, length-map, length-replicate, get_or_append_left, get_or-append-add, get_or-replicate, get_or_past, get_or-map}
use Rattle.std.proofs.lemmas.Option.{slice_get-get_or}
use Rattle.ipa_spec.specs.declared.specification.Specification.{Specification}
use Rattle.ipa_spec.specs.declared.clauses.Literal.{Literal}
use Rattle.ipa_spec.specs.declared.clauses.Clause.{Clause}
use Rattle.ipa_sat.specs.Formula.{Formula, IsBefore, IsLeast, IsUnsatisfiable, value}
use Rattle.ipa_logic.specs.Facts.{Universe, has}
use Rattle.ipa_logic.specs.Truth.{Keeps, literal_true}
use Rattle.ipa_logic.specs.Touches.{is_of_fact}
use Rattle.ipa_logic.specs.declared.facts.Fact.{Fact}
use Rattle.ipa_ground.specs.Enumeration.{AreShort, IsListed, facts_over}
use Rattle.ipa_ground.specs.FactsLaws.{IsRising-facts_over, has-facts_over}
use Rattle.ipa_ground.specs.Grounding.{test_of}
use Rattle.ipa_ground.specs.GroundingLaws.{test_of-listed, test_of-unlisted, test_of-assigned}
use Rattle.ipa_ground.specs.InstanceLaws.{ClauseFits-declared}
use Rattle.ipa_models.specs.Answers.{StandsFor}
use Rattle.ipa_models.specs.Models.{AsDemanded, Meets, IsFirstMeeting}
use Rattle.ipa_models.specs.Questions.{state_of, fact_truths, AreTied, IsAnswer, IsQuestion}
use Rattle.ipa_models.specs.declared.demands.Demand.{Demand}
use Rattle.ipa_models.proofs.QuestionLemmas.{filter-few, short-predicates}

-- the order is that of the rest behind equal values
before-cons : (b : Bool) (xs ys : List Bool) → IsBefore xs ys → IsBefore (b ∷ xs) (b ∷ ys)
before-cons b xs ys h = record { place = suc h.place; same = same; less = h.less; more = h.more }
  where
    same : (v : ℕ) → v < suc h.place → value (b ∷ xs) v ≡ value (b ∷ ys) v
    same zero l = refl
    same (suc v) l = h.same v (omega arith)

-- the first values differ, or the rest decides
before-either : (b c : Bool) (xs ys us vs : List Bool) → (IsBefore xs ys → IsBefore us vs) → IsBefore (b ∷ xs) (c ∷ ys) → IsBefore (b ∷ us) (c ∷ vs)
before-either b c xs ys us vs rest h = at h.place h.same h.less h.more
  where
    at : (k : ℕ) → ((v : ℕ) → v < k → value (b ∷ xs) v ≡ value (c ∷ ys) v) → value (b ∷ xs) k ≡ false → value (c ∷ ys) k ≡ true → IsBefore (b ∷ us) (c ∷ vs)
    at zero s l m = record { place = 0; same = λ v below. absurd (omega arith); less = l; more = m }
    at (suc k) s l m =
        let behind : IsBefore us vs = rest (record { place = k; same = λ v below. s (suc v) (omega arith); less = l; more = m }) in
        let first : b ≡ c = s 0 (omega arith) in
        subst (λ (d : Bool). IsBefore (b ∷ us) (d ∷ vs)) first (before-cons b us vs behind)

-- equal values in between keep the order
before-between : (p q z xs ys : List Bool) → length p ≡ length q → IsBefore (p ++ xs) (q ++ ys) → IsBefore (p ++ (z ++ xs)) (q ++ (z ++ ys))
before-between [] [] [] xs ys e h = h
before-between [] [] (c ∷ z) xs ys e h = before-cons c (z ++ xs) (z ++ ys) (before-between [] [] z xs ys e h)
before-between [] (c ∷ q) z xs ys e h = absurd (omega (arith, e))
before-between (b ∷ p) [] z xs ys e h = absurd (omega (arith, e))
before-between (b ∷ p) (c ∷ q) z xs ys e h = before-either b c (p ++ xs) (q ++ ys) (p ++ (z ++ xs)) (q ++ (z ++ ys)) (before-between p q z xs ys (omega (arith, e))) h

-- false values at the end change none
value-padded : (bs : List Bool) (m v : ℕ) → value (bs ++ replicate m false) v ≡ value bs v
value-padded [] m v = elim (cases_lt v m) [
  | inl inside ↦ get_or-replicate m v false false inside
  | inr past ↦ get_or_past (replicate m false) v false (omega (arith, length-replicate m false))
]
value-padded (b ∷ bs) m zero = refl
value-padded (b ∷ bs) m (suc v) = value-padded bs m v

module _ (s : Specification) (universe : Universe) (values : List ℕ) (ls : List Literal) where
  -- all facts
  abbrev all_facts : List Fact
  all_facts = facts_over s.predicates universe

  -- the values of the variables that are left over
  abbrev spare : List Bool
  spare = replicate (6 - length (filter is_of_fact ls)) false

  -- the truth of the fact literals
  abbrev front : (Fact → Bool) → List Bool
  front t = fact_truths s values ls t

  -- the assignment of a test
  abbrev assigned : (Fact → Bool) → List Bool
  assigned t = front t ++ (spare ++ map t all_facts)

  length-front : (t : Fact → Bool) → length (front t) ≡ length (filter is_of_fact ls)
  length-front t = length-map (filter is_of_fact ls) (literal_true s t values)

  length-first : (t : Fact → Bool) → length ls ≤ 6 → length (front t ++ spare) ≡ 6
  length-first t few = omega (arith, length-append (front t) spare, length-front t, length-replicate (6 - length (filter is_of_fact ls)) false, filter-few ls)

  assigned-split : (t : Fact → Bool) → assigned t ≡ (front t ++ spare) ++ (map t all_facts ++ [])
  assigned-split t = sym (append_assoc (front t) spare (map t all_facts)) ∙ ap (λ (ys : List Bool). (front t ++ spare) ++ ys) (sym (append-nil (map t all_facts)))

  length-assigned : (t : Fact → Bool) → length ls ≤ 6 → length (assigned t) ≡ 6 + length all_facts
  length-assigned t few =
      ap length (assigned-split t)
      ∙ (length-append (front t ++ spare) (map t all_facts ++ [])
      ∙ omega (arith, length-first t few, ap length (append-nil (map t all_facts)), length-map all_facts t))

  -- the values of its first variables, and of those of the facts
  value-first : (t : Fact → Bool) (v : ℕ) → length ls ≤ 6 → v < 6 → value (assigned t) v ≡ value (front t) v
  value-first t v few l =
      ap (λ (a : List Bool). value a v) (assigned-split t)
      ∙ (get_or_append_left (front t ++ spare) (map t all_facts ++ []) false v (omega (arith, length-first t few))
      ∙ value-padded (front t) (6 - length (filter is_of_fact ls)) v)

  value-rest : (t : Fact → Bool) (k : ℕ) → length ls ≤ 6 → value (assigned t) (6 + k) ≡ value (map t all_facts) k
  value-rest t k few =
      ap (λ (a : List Bool). value a (6 + k)) (assigned-split t)
      ∙ (ap (λ (n : ℕ). value ((front t ++ spare) ++ (map t all_facts ++ [])) (n + k)) (sym (length-first t few))
      ∙ (get_or-append-add (front t ++ spare) (map t all_facts ++ []) k false
      ∙ ap (λ (ys : List Bool). value ys k) (append-nil (map t all_facts))))

  -- it makes true what the test does, where that is of facts over the universe
  same-state : (t : Fact → Bool) → length ls ≤ 6 → ((f : Fact) → t f ≡ true → has all_facts f ≡ true) → state_of s universe (assigned t) ≡ t
  same-state t few within = λ i f. at f i
    where
      listed : (f : Fact) → (t f ≡ true) ⊎ (t f ≡ false) → (has all_facts f && t f) ≡ t f
      listed f (inl holds) = and_from (has all_facts f) (t f) (within f holds) holds ∙ sym holds
      listed f (inr fails) = and_right (has all_facts f) (t f) fails ∙ sym fails

      at : (f : Fact) → test_of 6 (assigned t) all_facts f ≡ t f
      at f =
          ap (λ (a : List Bool). test_of 6 a all_facts f) (assigned-split t)
          ∙ (ap (λ (n : ℕ). test_of n ((front t ++ spare) ++ (map t all_facts ++ [])) all_facts f) (sym (length-first t few))
          ∙ (test_of-assigned (front t ++ spare) [] t all_facts f ∙ listed f (cases_Bool (t f))))

  -- a state that meets the demands gives an answer
  answer-from_state : (demands : List Demand) (state : List Fact) → AreShort s.predicates → length ls ≤ 6 → Meets s universe demands state → IsAnswer s universe values ls demands (assigned (has state))
  answer-from_state demands state short few meets =
      let same : state_of s universe (assigned (has state)) ≡ has state
      = same-state (has state) few (λ f h. (has-facts_over s universe f short).1 (meets.state.facts f h)) in
      record {
        total = length-assigned (has state) few;
        keeps = subst (Keeps s universe) (sym same) meets.keeps;
        tied = subst (λ (t : Fact → Bool). AreTied 6 (assigned (has state)) (front t)) (sym same) (record { values = λ j l. value-first (has state) j few l });
        demanded = subst (λ (t : Fact → Bool). AsDemanded t demands) (sym same) meets.demanded;
      }

  -- an answer has the values of the assignment of its state
  same-value : (demands : List Demand) (a : List Bool) → AreShort s.predicates → length ls ≤ 6 → IsAnswer s universe values ls demands a → (v : ℕ) → value (assigned (state_of s universe a)) v ≡ value a v
  same-value demands a short few answer v = elim (cases_lt v 6) [
    | inl first ↦ value-first (state_of s universe a) v few first ∙ sym (answer.tied.values v first)
    | inr past ↦ (let place : 6 + (v - 6) ≡ v = omega arith in
        subst (λ (w : ℕ). value (assigned (state_of s universe a)) w ≡ value a w) place (value-rest (state_of s universe a) (v - 6) few ∙ rest (v - 6)))
  ]
    where
      some : Fact
      some = record { predicate = 0; args = [] }

      rest : (k : ℕ) → value (map (state_of s universe a) all_facts) k ≡ value a (6 + k)
      rest k = elim (cases_lt k (length all_facts)) [
        | inl inside ↦ get_or-map (state_of s universe a) all_facts k some false inside
            ∙ test_of-listed 6 a all_facts k (get_or all_facts k some) (IsRising-facts_over s.predicates universe short) (slice_get-get_or all_facts k some inside)
        | inr outside ↦ get_or_past (map (state_of s universe a) all_facts) k false (omega (arith, length-map all_facts (state_of s universe a)))
            ∙ sym (get_or_past a (6 + k) false (omega (arith, answer.total)))
      ]

  -- no assignment, no state
  none-meets : (demands : List Demand) (f : Formula) → AreShort s.predicates → length ls ≤ 6 → IsQuestion s universe values ls demands f → IsUnsatisfiable f
      → (state : List Fact) → Meets s universe demands state → ⊥
  none-meets demands f short few q none state meets = none (assigned (has state)) ((q.satisfied (assigned (has state))).1 (answer-from_state demands state short few meets))

  -- the state of the least assignment is the first
  first-meets : (demands : List Demand) (f : Formula) (a : List Bool) (state : List Fact) → AreShort s.predicates → length ls ≤ 6 → IsQuestion s universe values ls demands f → IsLeast f a
      → StandsFor all_facts a state → IsFirstMeeting s universe values ls demands state
  first-meets demands f a state short few q least stands = record {
    meets = record {
      state = record { rising = stands.rising; facts = λ f h. (has-facts_over s universe f short).0 (listed f (cases_Bool (has all_facts f)) (sym (stands.facts f) ∙ h)) };
      keeps = subst (Keeps s universe) (sym same) answer.keeps;
      demanded = subst (λ (t : Fact → Bool). AsDemanded t demands) (sym same) answer.demanded;
    };
    first = λ other meets before.
        let padded : IsBefore (assigned (has other)) (assigned (has state))
        = before-between (front (has other)) (front (has state)) spare (map (has other) all_facts) (map (has state) all_facts) (length-front (has other) ∙ sym (length-front (has state))) before in
        least.none_before (assigned (has other)) ((q.satisfied (assigned (has other))).1 (answer-from_state demands other short few meets))
        (record {
          place = padded.place;
          same = λ v l. padded.same v l ∙ at v;
          less = padded.less;
          more = sym (at padded.place) ∙ padded.more;
        });
  }
    where
      answer : IsAnswer s universe values ls demands a
      answer = (q.satisfied a).0 least.satisfies

      same : has state ≡ state_of s universe a
      same = λ i f. stands.facts f i

      at : (v : ℕ) → value (assigned (has state)) v ≡ value a v
      at v = ap (λ (t : Fact → Bool). value (assigned t) v) same ∙ same-value demands a short few answer v

      listed : (f : Fact) → (has all_facts f ≡ true) ⊎ (has all_facts f ≡ false) → test_of 6 a all_facts f ≡ true → has all_facts f ≡ true
      listed f (inl there) h = there
      listed f (inr none) h = absurd (false≢true (sym (test_of-unlisted 6 a all_facts f none) ∙ h))

-- the same of an instance of a clause of the specification
pub none-found : (s : Specification) (universe : Universe) (values : List ℕ) (c : Clause) (demands : List Demand) (f : Formula) → IsListed s.clauses c → IsQuestion s universe values c.literals demands f
    → IsUnsatisfiable f → (state : List Fact) → Meets s universe demands state → ⊥
none-found s universe values c demands f listed q none =
    none-meets s universe values c.literals demands f (short-predicates s universe q.numbered) (ClauseFits-declared s listed.place c q.numbered.fit listed.there).literal_count q none

pub first-found : (s : Specification) (universe : Universe) (values : List ℕ) (c : Clause) (demands : List Demand) (f : Formula) (facts : List Fact) (a : List Bool) (state : List Fact) → IsListed s.clauses c
    → IsQuestion s universe values c.literals demands f → IsLeast f a → facts ≡ facts_over s.predicates universe → StandsFor facts a state → IsFirstMeeting s universe values c.literals demands state
first-found s universe values c demands f facts a state listed q least same stands =
    first-meets s universe values c.literals demands f a state (short-predicates s universe q.numbered) (ClauseFits-declared s listed.place c q.numbered.fit listed.there).literal_count q least
    (subst (λ (fs : List Fact). StandsFor fs a state) same stands)
