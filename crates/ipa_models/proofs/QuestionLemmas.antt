-- What the clauses of a question ask for.
use Rattle.std.proofs.Common.{◌≡◌, ℕ, ◌+◌, ◌<◌, ◌≤◌, Bool, true, false, not, ◌||◌, cond, ◌↔◌, List, [], ◌∷◌, ◌++◌, length, map, filter, take, Some, refl, sym, ap, ◌∙◌, subst, arith, slice_get, get_or, inl, inr}
use Rattle.std.proofs.lemmas.Bool.{cases_lt, false≢true}
use Rattle.std.proofs.lemmas.List.{append-nil, get_or_append_left, get_or_push, get_or_past, length_push, length-map, map-append, take_more, take_all, length-take-le}
use Rattle.std.proofs.lemmas.List.Elements.{All-nil, All-push, filter-append}
use Rattle.std.proofs.lemmas.List.Sums.{length-filter, count_by-le-length}
use Rattle.ipa_spec.specs.declared.specification.Specification.{Specification}
use Rattle.ipa_spec.specs.declared.clauses.Atom.{Atom}
use Rattle.ipa_spec.specs.declared.clauses.Literal.{Literal}
use Rattle.ipa_spec.specs.declared.clauses.Literal.TheVariants.{Holds, Fails}
use Rattle.ipa_sat.specs.Formula.{Formula, Satisfies, value, clause_true, literal_true as lit_true}
use Rattle.ipa_sat.specs.declared.cnf.Lit.{Lit}
use Rattle.ipa_logic.specs.Facts.{Universe}
use Rattle.ipa_logic.specs.Truth.{literal_true, fact_of}
use Rattle.ipa_logic.specs.Touches.{is_of_fact}
use Rattle.ipa_logic.specs.declared.facts.Fact.{Fact}
use Rattle.ipa_ground.specs.Enumeration.{AreShort, facts_over}
use Rattle.ipa_ground.specs.FactsLaws.{AreShort-from_fit}
use Rattle.ipa_ground.specs.FormulaLaws.{with_clause, satisfies-more, satisfies-less, satisfies-last}
use Rattle.ipa_ground.specs.Grounding.{Grounds}
use Rattle.ipa_ground.specs.GroundingLaws.{lit-same, lit-range}
use Rattle.ipa_ground.specs.GroundingSteps.{IsLitOf}
use Rattle.ipa_models.specs.Models.{AsDemanded}
use Rattle.ipa_models.specs.Questions.{state_of, IsNumbered, IsGrounded, Adds, fact_truths, AreTied, IsLiteralFor, IsLiteralOf, IsTied, TiesMore, IsQuestion}
use Rattle.ipa_models.specs.declared.demands.Demand.{Demand}

-- a formula with more asked
adds-clause : (f : Formula) (lits : List Lit) → Adds (λ a. clause_true a lits ≡ true) f (with_clause f lits)
adds-clause f lits = record { vars = refl; satisfied = λ a. ((λ h. (satisfies-less f lits a h, satisfies-last f lits a h)), (λ h. satisfies-more f lits a h.0 h.1)) }

module _ (P Q : List Bool → Type 0) where
  adds-both : (f g h : Formula) → Adds P f g → Adds Q g h → Adds (λ a. P a × Q a) f h
  adds-both f g h p q = record {
    vars = q.vars ∙ p.vars;
    satisfied = λ a. (
      (λ s. let before = (q.satisfied a).0 s in let first = (p.satisfied a).0 before.0 in (first.0, (first.1, before.1))),
      (λ s. (q.satisfied a).1 ((p.satisfied a).1 (s.0, s.1.0), s.1.1)),
    );
  }

  adds-same : (f g : Formula) → ((a : List Bool) → P a ↔ Q a) → Adds P f g → Adds Q f g
  adds-same f g e h = record {
    vars = h.vars;
    satisfied = λ a. (
      (λ s. let both = (h.satisfied a).0 s in (both.0, (e a).0 both.1)),
      (λ s. (h.satisfied a).1 (s.0, (e a).1 s.1)),
    );
  }

-- a formula that asks for nothing more
adds-nothing : (P : List Bool → Type 0) (f : Formula) → ((a : List Bool) → P a) → Adds P f f
adds-nothing P f h = record { vars = refl; satisfied = λ a. ((λ s. (s, h a)), (λ s. s.0)) }

-- one clause more
adds-one : (P Q : List Bool → Type 0) (f g : Formula) (lits : List Lit) → ((a : List Bool) → (P a × (clause_true a lits ≡ true)) ↔ Q a) → Adds P f g → Adds Q f (with_clause g lits)
adds-one P Q f g lits e h = adds-same (λ a. P a × (clause_true a lits ≡ true)) Q f (with_clause g lits) e (adds-both P (λ a. clause_true a lits ≡ true) f g (with_clause g lits) h (adds-clause g lits))

-- the literals of a variable that stands for another literal
tied_to : (x p v : Bool) → (((x || (cond (not p) v (not v) || false)) ≡ true) × ((not x || (cond p v (not v) || false)) ≡ true)) ↔ (x ≡ cond p v (not v))
tied_to x p v = (there x p v, back x p v)
  where
    there : (x p v : Bool) → ((x || (cond (not p) v (not v) || false)) ≡ true) × ((not x || (cond p v (not v) || false)) ≡ true) → x ≡ cond p v (not v)
    there true true true h = refl
    there true true false h = absurd (false≢true h.1)
    there true false true h = absurd (false≢true h.1)
    there true false false h = refl
    there false true true h = absurd (false≢true h.0)
    there false true false h = refl
    there false false true h = refl
    there false false false h = absurd (false≢true h.0)

    back : (x p v : Bool) → x ≡ cond p v (not v) → ((x || (cond (not p) v (not v) || false)) ≡ true) × ((not x || (cond p v (not v) || false)) ≡ true)
    back true true true h = (refl, refl)
    back true true false h = absurd (false≢true (sym h))
    back true false true h = absurd (false≢true (sym h))
    back true false false h = (refl, refl)
    back false true true h = absurd (false≢true h)
    back false true false h = (refl, refl)
    back false false true h = (refl, refl)
    back false false false h = absurd (false≢true h)

-- the literal of a variable, and its opposite
abbrev pub lit_of : ℕ → Bool → Lit
lit_of var positive = record { var = var; positive = positive }

-- two clauses make a variable stand for a literal
pub ties : (f : Formula) (var : ℕ) (lit : Lit)
    → Adds (λ a. value a var ≡ lit_true a lit) f (with_clause (with_clause f (lit_of var true ∷ lit_of lit.var (not lit.positive) ∷ [])) (lit_of var false ∷ lit ∷ []))
ties f var lit = adds-same (λ a. (clause_true a (lit_of var true ∷ lit_of lit.var (not lit.positive) ∷ []) ≡ true) × (clause_true a (lit_of var false ∷ lit ∷ []) ≡ true)) (λ a. value a var ≡ lit_true a lit) f
    (with_clause (with_clause f (lit_of var true ∷ lit_of lit.var (not lit.positive) ∷ [])) (lit_of var false ∷ lit ∷ []))
    (λ a. tied_to (value a var) lit.positive (value a lit.var))
    (adds-both (λ a. clause_true a (lit_of var true ∷ lit_of lit.var (not lit.positive) ∷ []) ≡ true) (λ a. clause_true a (lit_of var false ∷ lit ∷ []) ≡ true) f
    (with_clause f (lit_of var true ∷ lit_of lit.var (not lit.positive) ∷ []))
    (with_clause (with_clause f (lit_of var true ∷ lit_of lit.var (not lit.positive) ∷ [])) (lit_of var false ∷ lit ∷ []))
    (adds-clause f (lit_of var true ∷ lit_of lit.var (not lit.positive) ∷ []))
    (adds-clause (with_clause f (lit_of var true ∷ lit_of lit.var (not lit.positive) ∷ [])) (lit_of var false ∷ lit ∷ [])))

-- variables from a number on are false
abbrev pub AreDenied : ℕ → ℕ → List Bool → Type 0
AreDenied from end a = (j : ℕ) → from ≤ j → j < end → value a j ≡ false

pub denied-none : (f : Formula) (from : ℕ) → Adds (AreDenied from from) f f
denied-none f from = adds-nothing (AreDenied from from) f (λ a j l h. absurd (omega arith))

pub denied-next : (f g : Formula) (from var : ℕ) → from ≤ var → Adds (AreDenied from var) f g → Adds (AreDenied from (var + 1)) f (with_clause g (lit_of var false ∷ []))
denied-next f g from var l h = adds-one (AreDenied from var) (AreDenied from (var + 1)) f g (lit_of var false ∷ []) (λ a. (there a, back a)) h
  where
    denied : (v : Bool) → (not v || false) ≡ true → v ≡ false
    denied true e = absurd (false≢true e)
    denied false e = refl

    denies : (v : Bool) → v ≡ false → (not v || false) ≡ true
    denies true e = absurd (false≢true (sym e))
    denies false e = refl

    there : (a : List Bool) → AreDenied from var a × (clause_true a (lit_of var false ∷ []) ≡ true) → AreDenied from (var + 1) a
    there a s j low high = elim (cases_lt j var) [
      | inl below ↦ s.0 j low below
      | inr here ↦ (let same : j ≡ var = omega arith in ap (value a) same ∙ denied (value a var) s.1)
    ]

    back : (a : List Bool) → AreDenied from (var + 1) a → AreDenied from var a × (clause_true a (lit_of var false ∷ []) ≡ true)
    back a s = ((λ j low high. s j low (omega arith)), denies (value a var) (s var l (omega arith)))

pub denied-all : (f g : Formula) (from end : ℕ) → end ≡ 6 → Adds (AreDenied from end) f g → Adds (AreDenied from 6) f g
denied-all f g from end e h = subst (λ (n : ℕ). Adds (AreDenied from n) f g) e h

-- the truth of one fact literal more
tied-next : (n : ℕ) (a bs : List Bool) (b : Bool) → length bs ≡ n → (AreTied n a bs × (value a n ≡ b)) ↔ AreTied (n + 1) a (bs ++ b ∷ [])
tied-next n a bs b e = (there, back)
  where
    there : AreTied n a bs × (value a n ≡ b) → AreTied (n + 1) a (bs ++ b ∷ [])
    there h = record {
      values = λ j l. elim (cases_lt j n) [
        | inl below ↦ h.0.values j below ∙ sym (get_or_append_left bs (b ∷ []) false j (omega (arith, e)))
        | inr here ↦ (let same : j ≡ n = omega arith in ap (value a) same ∙ (h.1 ∙ (sym (get_or_push bs b false n e) ∙ ap (value (bs ++ b ∷ [])) (sym same))))
      ];
    }

    back : AreTied (n + 1) a (bs ++ b ∷ []) → AreTied n a bs × (value a n ≡ b)
    back h = (
      record { values = λ j l. h.values j (omega arith) ∙ get_or_append_left bs (b ∷ []) false j (omega (arith, e)) },
      h.values n (omega arith) ∙ get_or_push bs b false n e,
    )

-- and false past them
tied-padded : (n : ℕ) (a bs : List Bool) → n ≤ 6 → length bs ≡ n → (AreTied n a bs × AreDenied n 6 a) ↔ AreTied 6 a bs
tied-padded n a bs few e = (there, back)
  where
    there : AreTied n a bs × AreDenied n 6 a → AreTied 6 a bs
    there h = record {
      values = λ j l. elim (cases_lt j n) [
        | inl below ↦ h.0.values j below
        | inr past ↦ h.1 j past l ∙ sym (get_or_past bs j false (omega (arith, e)))
      ];
    }

    back : AreTied 6 a bs → AreTied n a bs × AreDenied n 6 a
    back h = (record { values = λ j l. h.values j (omega arith) }, (λ j past l. h.values j l ∙ get_or_past bs j false (omega (arith, e))))

-- the fact literals of one literal more
filter-none : (ls : List Literal) (l : Literal) → is_of_fact l ≡ false → filter is_of_fact (ls ++ l ∷ []) ≡ filter is_of_fact ls
filter-none ls l e = filter-append is_of_fact ls (l ∷ []) ∙ (ap (λ (b : Bool). filter is_of_fact ls ++ cond b (l ∷ []) []) e ∙ append-nil (filter is_of_fact ls))

filter-one : (ls : List Literal) (l : Literal) → is_of_fact l ≡ true → filter is_of_fact (ls ++ l ∷ []) ≡ filter is_of_fact ls ++ l ∷ []
filter-one ls l e = filter-append is_of_fact ls (l ∷ []) ∙ ap (λ (b : Bool). filter is_of_fact ls ++ cond b (l ∷ []) []) e

-- there are no more fact literals than literals
pub filter-few : (ls : List Literal) → length (filter is_of_fact ls) ≤ length ls
filter-few ls = omega (arith, length-filter is_of_fact ls, count_by-le-length is_of_fact ls)

module _ (s : Specification) (universe : Universe) (values : List ℕ) where
  -- the truth of a literal under an assignment
  abbrev truth : List Bool → Literal → Bool
  truth a l = literal_true s (state_of s universe a) values l

  pub ties-none : (l : Literal) (n : ℕ) (f : Formula) → is_of_fact l ≡ false → TiesMore s universe values l n n f f
  ties-none l n f e = record {
    more = λ base ls h. record {
      count = h.count ∙ ap length (sym (filter-none ls l e));
      adds = subst (λ (fs : List Literal). Adds (λ a. AreTied n a (map (truth a) fs)) base f) (sym (filter-none ls l e)) h.adds;
    };
  }

  pub ties-one : (l : Literal) (lit : Lit) (n : ℕ) (f g : Formula) → IsLiteralOf s universe values l lit → Adds (λ a. value a n ≡ lit_true a lit) f g → TiesMore s universe values l n (n + 1) f g
  ties-one l lit n f g is added = record {
    more = λ base ls h. record {
      count = sym (ap length (filter-one ls l is.of_fact) ∙ (length_push (filter is_of_fact ls) l ∙ ap (λ m. m + 1) (sym h.count)));
      adds = subst (λ (fs : List Literal). Adds (λ a. AreTied (n + 1) a (map (truth a) fs)) base g) (sym (filter-one ls l is.of_fact))
          (adds-same (λ a. AreTied n a (map (truth a) (filter is_of_fact ls)) × (value a n ≡ lit_true a lit)) (λ a. AreTied (n + 1) a (map (truth a) (filter is_of_fact ls ++ l ∷ []))) base g
          (λ a. step a ls h.count)
          (adds-both (λ a. AreTied n a (map (truth a) (filter is_of_fact ls))) (λ a. value a n ≡ lit_true a lit) base f g h.adds added));
    };
  }
    where
      step : (a : List Bool) (ls : List Literal) → n ≡ length (filter is_of_fact ls)
          → (AreTied n a (map (truth a) (filter is_of_fact ls)) × (value a n ≡ lit_true a lit)) ↔ AreTied (n + 1) a (map (truth a) (filter is_of_fact ls ++ l ∷ []))
      step a ls e =
          subst (λ (bs : List Bool). (AreTied n a (map (truth a) (filter is_of_fact ls)) × (value a n ≡ lit_true a lit)) ↔ AreTied (n + 1) a bs) (sym (map-append (truth a) (filter is_of_fact ls) (l ∷ [])))
          (subst (λ (b : Bool). (AreTied n a (map (truth a) (filter is_of_fact ls)) × (value a n ≡ lit_true a lit)) ↔ AreTied (n + 1) a (map (truth a) (filter is_of_fact ls) ++ b ∷ [])) (is.same a)
          (tied-next n a (map (truth a) (filter is_of_fact ls)) (lit_true a lit) (length-map (filter is_of_fact ls) (truth a) ∙ sym e)))

  -- the loop over the literals: its start, its step and its end
  pub tied-none : (ls : List Literal) (f : Formula) → IsTied s universe values (take 0 ls) 0 f f
  tied-none ls f = record { count = refl; adds = adds-nothing (λ a. AreTied 0 a []) f (λ a. record { values = λ j l. absurd (omega arith) }) }

  pub tied-more : (ls : List Literal) (k : ℕ) (l : Literal) (n next : ℕ) (base f g : Formula) → k < length ls → l ≡ get_or ls k l → IsTied s universe values (take k ls) n base f
      → TiesMore s universe values l n next f g → IsTied s universe values (take (k + 1) ls) next base g
  tied-more ls k l n next base f g inside at h t =
      subst (λ (xs : List Literal). IsTied s universe values xs next base g) (sym (take_more ls k l inside ∙ ap (λ (x : Literal). take k ls ++ x ∷ []) (sym at))) (t.more base (take k ls) h)

  pub tied-all : (ls : List Literal) (n : ℕ) (base f g : Formula) → length ls ≤ 6 → IsTied s universe values ls n base f → Adds (AreDenied n 6) f g
      → Adds (λ a. AreTied 6 a (fact_truths s values ls (state_of s universe a))) base g
  tied-all ls n base f g few h d =
      adds-same (λ a. AreTied n a (fact_truths s values ls (state_of s universe a)) × AreDenied n 6 a) (λ a. AreTied 6 a (fact_truths s values ls (state_of s universe a))) base g
      (λ a. tied-padded n a (fact_truths s values ls (state_of s universe a)) (omega (arith, h.count, filter-few ls)) (length-map (filter is_of_fact ls) (truth a) ∙ sym h.count))
      (adds-both (λ a. AreTied n a (fact_truths s values ls (state_of s universe a))) (AreDenied n 6) base f g h.adds d)

  -- no more variables are taken than literals are read
  pub tied-few : (ls : List Literal) (k n : ℕ) (f g : Formula) → k ≤ length ls → IsTied s universe values (take k ls) n f g → n ≤ k
  tied-few ls k n f g l h = omega (arith, h.count, filter-few (take k ls), length-take-le k ls l)

  pub tied-end : (items ls : List Literal) (k n : ℕ) (base f g : Formula) → items ≡ ls → length items ≤ k → length ls ≤ 6 → IsTied s universe values (take k items) n base f → Adds (AreDenied n 6) f g
      → Adds (λ a. AreTied 6 a (fact_truths s values ls (state_of s universe a))) base g
  tied-end items ls k n base f g same l few h d =
      tied-all ls n base f g few (subst (λ (xs : List Literal). IsTied s universe values xs n base f) (take_all k items l ∙ same) h) d

-- the literal of a fact
pub short-predicates : (s : Specification) (universe : Universe) → IsNumbered s universe → AreShort s.predicates
short-predicates s universe h = AreShort-from_fit s h.fit

pub literal-for : (s : Specification) (universe : Universe) (f : Fact) (positive : Bool) (number : ℕ) → IsNumbered s universe → slice_get (facts_over s.predicates universe) number ≡ Some f
    → IsLiteralFor s universe f positive (lit_of (6 + number) positive)
literal-for s universe f positive number h there = record {
  same = λ a. lit-same s universe 6 a f positive (lit_of (6 + number) positive) (short-predicates s universe h) is;
  range = lit-range s universe 6 f positive (lit_of (6 + number) positive) is;
}
  where
    is : IsLitOf s universe 6 f positive (lit_of (6 + number) positive)
    is = record { place = number; there = there; var_is = refl; sign = refl }

pub literal-holds : (s : Specification) (universe : Universe) (values : List ℕ) (atom : Atom) (lit : Lit) → IsLiteralFor s universe (fact_of s values atom) true lit → IsLiteralOf s universe values (Holds atom) lit
literal-holds s universe values atom lit h = record { of_fact = refl; same = h.same; range = h.range }

pub literal-fails : (s : Specification) (universe : Universe) (values : List ℕ) (atom : Atom) (lit : Lit) → IsLiteralFor s universe (fact_of s values atom) false lit → IsLiteralOf s universe values (Fails atom) lit
literal-fails s universe values atom lit h = record { of_fact = refl; same = h.same; range = h.range }

-- demands
demanded-bool : (lit t holds : Bool) → lit ≡ cond holds t (not t) → ((lit || false) ≡ true) ↔ (t ≡ holds)
demanded-bool lit t holds e = subst (λ (x : Bool). ((x || false) ≡ true) ↔ (t ≡ holds)) (sym e) (asked t holds)
  where
    asked : (t holds : Bool) → ((cond holds t (not t) || false) ≡ true) ↔ (t ≡ holds)
    asked true true = ((λ h. refl), (λ h. refl))
    asked true false = ((λ h. absurd (false≢true h)), (λ h. absurd (false≢true (sym h))))
    asked false true = ((λ h. absurd (false≢true h)), (λ h. absurd (false≢true h)))
    asked false false = ((λ h. refl), (λ h. refl))

pub demanded-none : (s : Specification) (universe : Universe) (demands : List Demand) (f : Formula) → Adds (λ a. AsDemanded (state_of s universe a) (take 0 demands)) f f
demanded-none s universe demands f = adds-nothing (λ a. AsDemanded (state_of s universe a) []) f (λ a k d l. absurd (omega arith))

pub demanded-next : (s : Specification) (universe : Universe) (demands : List Demand) (k : ℕ) (d : Demand) (lit : Lit) (f g : Formula) → k < length demands → d ≡ get_or demands k d
    → IsLiteralFor s universe d.fact d.holds lit → Adds (λ a. AsDemanded (state_of s universe a) (take k demands)) f g
    → Adds (λ a. AsDemanded (state_of s universe a) (take (k + 1) demands)) f (with_clause g (lit ∷ []))
demanded-next s universe demands k d lit f g inside at is h =
    subst (λ (ds : List Demand). Adds (λ a. AsDemanded (state_of s universe a) ds) f (with_clause g (lit ∷ []))) (sym (take_more demands k d inside ∙ ap (λ (x : Demand). take k demands ++ x ∷ []) (sym at)))
    (adds-one (λ a. AsDemanded (state_of s universe a) (take k demands)) (λ a. AsDemanded (state_of s universe a) (take k demands ++ d ∷ [])) f g (lit ∷ []) (λ a. (there a, back a)) h)
  where
    there : (a : List Bool) → AsDemanded (state_of s universe a) (take k demands) × (clause_true a (lit ∷ []) ≡ true) → AsDemanded (state_of s universe a) (take k demands ++ d ∷ [])
    there a t = All-push (λ (e : Demand). state_of s universe a e.fact ≡ e.holds) (take k demands) d t.0 ((demanded-bool (lit_true a lit) (state_of s universe a d.fact) d.holds (is.same a)).0 t.1)

    back : (a : List Bool) → AsDemanded (state_of s universe a) (take k demands ++ d ∷ []) → AsDemanded (state_of s universe a) (take k demands) × (clause_true a (lit ∷ []) ≡ true)
    back a t = (
      (λ j e l. subst (λ (x : Demand). state_of s universe a x.fact ≡ x.holds) (get_or_append_left (take k demands) (d ∷ []) e j l) (t j e (omega (arith, length_push (take k demands) d)))),
      (demanded-bool (lit_true a lit) (state_of s universe a d.fact) d.holds (is.same a)).1
          (subst (λ (x : Demand). state_of s universe a x.fact ≡ x.holds) (get_or_push (take k demands) d d (length (take k demands)) refl) (t (length (take k demands)) d (omega (arith, length_push (take k demands) d)))),
    )

-- the formula that asks for the clauses alone
pub grounded : (s : Specification) (universe : Universe) (facts : List Fact) (n : ℕ) (f g : Formula) → IsNumbered s universe → facts ≡ facts_over s.predicates universe → n ≡ length (facts_over s.predicates universe)
    → f ≡ record { vars = 6 + n; clauses = [] } → Grounds s universe 6 f g → IsGrounded s universe facts g
grounded s universe facts n f g numbered same count empty grounds = record {
  numbered = numbered;
  facts_are = same;
  vars = grounds.vars ∙ vars;
  satisfied = λ a. (
    (λ t. let both = (grounds.satisfied a).0 t in (both.0.total ∙ vars, both.1)),
    (λ t. (grounds.satisfied a).1 (subst (λ (h : Formula). Satisfies h a) (sym empty) (record { total = t.0 ∙ ap (λ m. 6 + m) (sym count); clauses = All-nil (λ c. clause_true a c ≡ true) }), t.1)),
  );
}
  where
    vars : f.vars ≡ 6 + length (facts_over s.predicates universe)
    vars = ap (λ (h : Formula). h.vars) empty ∙ ap (λ m. 6 + m) count

-- all that is asked
pub question : (s : Specification) (universe : Universe) (facts : List Fact) (values : List ℕ) (ls : List Literal) (demands : List Demand) (f g h : Formula) → IsGrounded s universe facts f
    → Adds (λ a. AreTied 6 a (fact_truths s values ls (state_of s universe a))) f g → Adds (λ a. AsDemanded (state_of s universe a) demands) g h → IsQuestion s universe values ls demands h
question s universe facts values ls demands f g h grounded tied asked = record {
  numbered = grounded.numbered;
  satisfied = λ a. (
    (λ t.
        let last = (asked.satisfied a).0 t in
        let middle = (tied.satisfied a).0 last.0 in
        let first = (grounded.satisfied a).0 middle.0 in
        record { total = first.0; keeps = first.1; tied = middle.1; demanded = last.1 }),
    (λ t. (asked.satisfied a).1 ((tied.satisfied a).1 ((grounded.satisfied a).1 (t.total, t.keeps), t.tied), t.demanded)),
  );
}
