-- What is kept when a state is restricted: truth, clauses, and what an action adds, removes and needs.
use Rattle.std.proofs.Common.{◌≡◌, ℕ, zero, suc, ◌<◌, ◌≤◌, Bool, true, false, not, ◌&&◌, cond, List, [], ◌∷◌, length, refl, sym, ◌∙◌, ap, subst, arith, Option, Some, slice_get, inl, inr}
use Rattle.std.specs.Prelude.{◌==◌, slice_index, unwrap_or}
use Rattle.std.specs.Option.{option_map_or}
use Rattle.std.specs.Ordering.{is_eq}
use Rattle.std.specs.Cmp.{both_ways}
use Rattle.std.proofs.lemmas.Option.{slice_get_within, slice_get_past}
use Rattle.std.proofs.lemmas.Bool.{cases_lt, cases_eq, lt-ltb, le-ltb, eqb-true, eq-eqb, ne_eqb}
use Rattle.std.proofs.lemmas.List.{length-map}
use Rattle.std.proofs.lemmas.Grind.{same_number_lists}
use Rattle.ipa_spec.specs.Actions.{effects_of, sorts_of, sorts_of_vars}
use Rattle.ipa_spec.specs.Constants.{sort_of_constant, element_of_constant, sort_of_term}
use Rattle.ipa_spec.specs.Faults.{term_at}
use Rattle.ipa_spec.specs.Fits.{AtomFits, ComparisonFits, LiteralFits, EffectFits, IsFit}
use Rattle.ipa_spec.specs.declared.specification.Specification.{Specification}
use Rattle.ipa_spec.specs.declared.constants.Term.{Term}
use Rattle.ipa_spec.specs.declared.constants.Term.TheVariants.{Var as Variable, Const as Fixed}
use Rattle.ipa_spec.specs.declared.predicates.Predicate.{Predicate}
use Rattle.ipa_spec.specs.declared.clauses.Atom.{Atom}
use Rattle.ipa_spec.specs.declared.clauses.Literal.{Literal}
use Rattle.ipa_spec.specs.declared.clauses.Literal.TheVariants.{Holds, Fails, Same, Differ}
use Rattle.ipa_spec.specs.declared.operations.Arg.{Arg}
use Rattle.ipa_spec.specs.declared.operations.Arg.TheVariants.{Var as Parameter, Const as FixedArg, Any}
use Rattle.ipa_spec.specs.declared.operations.Action.{Action}
use Rattle.ipa_spec.specs.declared.operations.Effect.{Effect}
use Rattle.ipa_logic.specs.Facts.{Universe, size_of, IsFact, fact_cmp}
use Rattle.ipa_logic.specs.FactLaws.{same_fact, fact_itself}
use Rattle.ipa_logic.specs.Truth.{value_at, element_of, element_at, fact_of, same_value, literal_true, IsOver, Keeps}
use Rattle.ipa_logic.specs.Touches.{arg_at, stands_for, matches_at, matches, given_at, fact_given, gives, takes, some_gives, some_takes, adds, removes}
use Rattle.ipa_logic.specs.FitLaws.{list_any-same, element_at-within, element_at-past, three-at, constant-less, element_of-less, IsFact-fact_of, IsWhole, IsWhole-add, IsFact-fact_given, given_at-past}
use Rattle.ipa_logic.specs.Renaming.{Embeds, embed_value, embed_values, embed_place, embed_fact, IsRestriction}
use Rattle.ipa_logic.specs.declared.facts.Fact.{Fact}

-- the effect stands in a place for this element, or for each
abbrev matched : Specification → List ℕ → Effect → ℕ → ℕ → Bool
matched s args x element k = option_map_or (λ y. y == element) (stands_for s args (arg_at x k)) true

matched-arg : (s : Specification) (args : List ℕ) (x : Effect) (k element : ℕ) (arg : Arg) → arg_at x k ≡ arg →
    matched s args x element k ≡ option_map_or (λ y. y == element) (stands_for s args arg) true
matched-arg s args x k element arg h = ap (λ (a : Arg). option_map_or (λ y. y == element) (stands_for s args a) true) h

module _ (s : Specification) (small large : Universe) (e : ℕ → ℕ → ℕ) (embeds : Embeds s small large e) where
  -- the value of a variable
  pub value_at-embed_values : (sorts values : List ℕ) (v sort : ℕ) → length sorts ≤ 4 → slice_get sorts v ≡ Some sort → value_at (embed_values e sorts values) v ≡ e sort (value_at values v)
  value_at-embed_values sorts values zero sort h g = ap (λ (o : Option ℕ). option_map_or (λ o. e o (value_at values 0)) o 0) g
  value_at-embed_values sorts values (suc zero) sort h g = ap (λ (o : Option ℕ). option_map_or (λ o. e o (value_at values 1)) o 0) g
  value_at-embed_values sorts values (suc (suc zero)) sort h g = ap (λ (o : Option ℕ). option_map_or (λ o. e o (value_at values 2)) o 0) g
  value_at-embed_values sorts values (suc (suc (suc zero))) sort h g = ap (λ (o : Option ℕ). option_map_or (λ o. e o (value_at values 3)) o 0) g
  value_at-embed_values sorts values (suc (suc (suc (suc v)))) sort h g = absurd (let within : suc (suc (suc (suc v))) < length sorts = slice_get_within sorts (suc (suc (suc (suc v)))) sort g in omega arith)

  -- past the variables the values are 0
  embed_value-past : (sorts values : List ℕ) (v : ℕ) → length sorts ≤ v → embed_value e sorts values v ≡ 0
  embed_value-past sorts values v h = ap (λ (o : Option ℕ). option_map_or (λ o. e o (value_at values v)) o 0) (slice_get_past sorts v h)

  value_at-embed_past : (sorts values : List ℕ) (v : ℕ) → length sorts ≤ v → value_at (embed_values e sorts values) v ≡ 0
  value_at-embed_past sorts values zero h = embed_value-past sorts values 0 h
  value_at-embed_past sorts values (suc zero) h = embed_value-past sorts values 1 h
  value_at-embed_past sorts values (suc (suc zero)) h = embed_value-past sorts values 2 h
  value_at-embed_past sorts values (suc (suc (suc zero))) h = embed_value-past sorts values 3 h
  value_at-embed_past sorts values (suc (suc (suc (suc v)))) h = refl

  -- the element that a term stands for
  pub element_of-embed_values : (sorts values : List ℕ) → length sorts ≤ 4 → (t : Term) (sort : ℕ) → sort_of_term s sorts t ≡ Some sort
      → element_of s (embed_values e sorts values) t ≡ e sort (element_of s values t)
  element_of-embed_values sorts values h (Variable v) sort is = value_at-embed_values sorts values v sort h is
  element_of-embed_values sorts values h (Fixed k) sort is = sym (embeds.constants k sort is)

  -- values over the small universe are values over the large one
  pub IsOver-embed_values : (sorts values : List ℕ) → length sorts ≤ 4 → IsOver small sorts values → IsOver large sorts (embed_values e sorts values)
  IsOver-embed_values sorts values h o = record {
    elements = λ v sort g. subst (λ (x : ℕ). x < size_of large sort) (sym (value_at-embed_values sorts values v sort h g)) (embeds.inside sort (value_at values v) (o.elements v sort g));
    unused = λ v past. value_at-embed_past sorts values v past;
    width = refl;
  }

  -- the place of a fact
  pub embed_place-within : (p : Predicate) (f : Fact) (k : ℕ) → k < p.arity → embed_place e p f k ≡ e (slice_index p.sorts k) (slice_index f.args k)
  embed_place-within p f k h = ap (λ (b : Bool). cond b (e (slice_index p.sorts k) (slice_index f.args k)) 0) (lt-ltb k p.arity h)

  pub embed_place-past : (p : Predicate) (f : Fact) (k : ℕ) → p.arity ≤ k → embed_place e p f k ≡ 0
  embed_place-past p f k h = ap (λ (b : Bool). cond b (e (slice_index p.sorts k) (slice_index f.args k)) 0) (le-ltb k p.arity h)

  -- three places
  abbrev pub three_places : Predicate → Fact → List ℕ
  three_places p f = embed_place e p f 0 ∷ embed_place e p f 1 ∷ embed_place e p f 2 ∷ []

  -- a fact of a declared predicate
  pub embed_fact-declared : (f : Fact) (p : Predicate) → slice_get s.predicates f.predicate ≡ Some p
      → embed_fact e s f ≡ record { predicate = f.predicate; args = embed_place e p f 0 ∷ embed_place e p f 1 ∷ embed_place e p f 2 ∷ [] }
  embed_fact-declared f p g = ap (λ (o : Option Predicate). option_map_or (λ (q : Predicate). record { predicate = f.predicate; args = embed_place e q f 0 ∷ embed_place e q f 1 ∷ embed_place e q f 2 ∷ [] }) o f) g

  -- the fact of an atom over the large universe is that over the small one, embedded
  pub fact_of-embed : (sorts values : List ℕ) (a : Atom) → length sorts ≤ 4 → AtomFits s sorts a
      → fact_of s (embed_values e sorts values) a ≡ embed_fact e s (fact_of s values a)
  fact_of-embed sorts values a h fits =
      let zeroth : element_at s (embed_values e sorts values) a 0 ≡ embed_place e fits.predicate (fact_of s values a) 0 = place 0 refl in
      let first : element_at s (embed_values e sorts values) a 1 ≡ embed_place e fits.predicate (fact_of s values a) 1 = place 1 refl in
      let second : element_at s (embed_values e sorts values) a 2 ≡ embed_place e fits.predicate (fact_of s values a) 2 = place 2 refl in
      let built : fact_of s (embed_values e sorts values) a ≡ record { predicate = a.predicate; args = embed_place e fits.predicate (fact_of s values a) 0 ∷ embed_place e fits.predicate (fact_of s values a) 1 ∷ embed_place e fits.predicate (fact_of s values a) 2 ∷ [] }
      = λ i. record { predicate = a.predicate; args = zeroth i ∷ first i ∷ second i ∷ [] } in
      built ∙ sym (embed_fact-declared (fact_of s values a) fits.predicate fits.declared)
    where
      place : (k : ℕ) → slice_index (fact_of s values a).args k ≡ element_at s values a k → element_at s (embed_values e sorts values) a k ≡ embed_place e fits.predicate (fact_of s values a) k
      place k is = elim (cases_lt k fits.predicate.arity) [
        | inl within ↦ element_at-within s (embed_values e sorts values) a fits.predicate k fits.declared within
            ∙ (element_of-embed_values sorts values h (term_at a k) (slice_index fits.predicate.sorts k) (fits.places k within)
            ∙ (ap (e (slice_index fits.predicate.sorts k)) (sym (is ∙ element_at-within s values a fits.predicate k fits.declared within))
            ∙ sym (embed_place-within fits.predicate (fact_of s values a) k within)))
        | inr past ↦ element_at-past s (embed_values e sorts values) a fits.predicate k fits.declared past
            ∙ sym (embed_place-past fits.predicate (fact_of s values a) k past)
      ]

  -- elements are the same where they are embedded to the same
  same-embed : (sort x y : ℕ) → x < size_of small sort → y < size_of small sort → (x == y) ≡ (e sort x == e sort y)
  same-embed sort x y hx hy = both_ways (x == y) (e sort x == e sort y)
      (λ h. eq-eqb (e sort x) (e sort y) (ap (e sort) (eqb-true x y h)))
      (λ h. eq-eqb x y (embeds.apart sort x y hx hy (eqb-true (e sort x) (e sort y) h)))

  pub same_value-embed : (sorts values : List ℕ) (v w : Term) → length sorts ≤ 4 → ComparisonFits s sorts v w → IsOver small sorts values
      → same_value s values v w ≡ same_value s (embed_values e sorts values) v w
  same_value-embed sorts values v w h fits over =
      let one = element_of-embed_values sorts values h v fits.sort fits.first in
      let two = element_of-embed_values sorts values h w fits.sort fits.second in
      same-embed fits.sort (element_of s values v) (element_of s values w)
      (element_of-less s small sorts values embeds.sizes over v fits.sort fits.first) (element_of-less s small sorts values embeds.sizes over w fits.sort fits.second)
      ∙ (ap (λ (x : ℕ). x == e fits.sort (element_of s values w)) (sym one) ∙ ap (λ (y : ℕ). element_of s (embed_values e sorts values) v == y) (sym two))

  module _ (t u : Fact → Bool) (restriction : IsRestriction s small e t u) where
    -- the truth of a fact
    fact_true-embed : (sorts values : List ℕ) (a : Atom) → length sorts ≤ 4 → AtomFits s sorts a → IsOver small sorts values
        → t (fact_of s values a) ≡ u (fact_of s (embed_values e sorts values) a)
    fact_true-embed sorts values a h fits over =
        restriction.tells (fact_of s values a) (IsFact-fact_of s small sorts values a embeds.sizes fits over) ∙ ap u (sym (fact_of-embed sorts values a h fits))

    -- the truth of a literal is kept
    pub literal_true-embed : (sorts values : List ℕ) (l : Literal) → length sorts ≤ 4 → LiteralFits s sorts l → IsOver small sorts values
        → literal_true s t values l ≡ literal_true s u (embed_values e sorts values) l
    literal_true-embed sorts values (Holds a) h fits over = fact_true-embed sorts values a h fits over
    literal_true-embed sorts values (Fails a) h fits over = ap not (fact_true-embed sorts values a h fits over)
    literal_true-embed sorts values (Same v w) h fits over = same_value-embed sorts values v w h fits over
    literal_true-embed sorts values (Differ v w) h fits over = ap not (same_value-embed sorts values v w h fits over)

  -- every clause that was kept is kept
  pub Keeps-embed : (t u : Fact → Bool) → IsFit s → IsRestriction s small e t u → Keeps s large u → Keeps s small t
  Keeps-embed t u fit restriction keeps = record {
    clauses = λ k c g. record {
      instances = λ values over.
          let few : length (sorts_of_vars c.vars) ≤ 4 = rw (length-map c.vars (λ v. v.sort)) (fit.variable_count k c g) in
          list_any-same (literal_true s t values) (literal_true s u (embed_values e (sorts_of_vars c.vars) values)) c.literals
          (λ j l at. literal_true-embed t u restriction (sorts_of_vars c.vars) values l few (fit.literals k j c l g at) over)
          ∙ (keeps.clauses k c g).instances (embed_values e (sorts_of_vars c.vars) values) (IsOver-embed_values (sorts_of_vars c.vars) values few over);
    };
  }

  -- declared predicates of one number are the same
  one_predicate : (n : ℕ) (p q : Predicate) → slice_get s.predicates n ≡ Some p → slice_get s.predicates n ≡ Some q → p ≡ q
  one_predicate n p q a b = let both : Some p ≡ Some q = sym a ∙ b in cc

  -- facts are the same where they are embedded to the same
  pub same_fact-embed : (f g : Fact) → IsFact s small f → IsFact s small g → is_eq (fact_cmp f g) ≡ is_eq (fact_cmp (embed_fact e s f) (embed_fact e s g))
  same_fact-embed f g hf hg = both_ways (is_eq (fact_cmp f g)) (is_eq (fact_cmp (embed_fact e s f) (embed_fact e s g)))
      (λ h. subst (λ (x : Fact). is_eq (fact_cmp (embed_fact e s f) (embed_fact e s x)) ≡ true) (same_fact f g h) (fact_itself (embed_fact e s f)))
      (λ h. subst (λ (x : Fact). is_eq (fact_cmp f x) ≡ true) (back (same_fact (embed_fact e s f) (embed_fact e s g) h)) (fact_itself f))
    where
      back : embed_fact e s f ≡ embed_fact e s g → f ≡ g
      back same =
          let built : record { predicate = f.predicate; args = three_places hf.predicate f } ≡ record { predicate = g.predicate; args = three_places hg.predicate g }
          = sym (embed_fact-declared f hf.predicate hf.declared) ∙ (same ∙ embed_fact-declared g hg.predicate hg.declared) in
          let predicates : f.predicate ≡ g.predicate = ap (λ (x : Fact). x.predicate) built in
          let one : hf.predicate ≡ hg.predicate = one_predicate g.predicate hf.predicate hg.predicate (subst (λ (n : ℕ). slice_get s.predicates n ≡ Some hf.predicate) predicates hf.declared) hg.declared in
          let args : three_places hf.predicate f ≡ three_places hg.predicate g = ap (λ (x : Fact). x.args) built in
          let elements : f.args ≡ g.args = same_number_lists f.args g.args (hf.width ∙ sym hg.width) (λ k l. elim (cases_lt k hf.predicate.arity) [
            | inl within ↦ embeds.apart (slice_index hf.predicate.sorts k) (slice_index f.args k) (slice_index g.args k) (hf.elements k within)
                (subst (λ (p : Predicate). slice_index g.args k < size_of small (slice_index p.sorts k)) (sym one) (hg.elements k (subst (λ (p : Predicate). k < p.arity) one within)))
                (sym (embed_place-within hf.predicate f k within)
                ∙ (sym (three-at (embed_place e hf.predicate f) k (omega (arith, hf.width)))
                ∙ (ap (λ (xs : List ℕ). slice_index xs k) args
                ∙ (three-at (embed_place e hg.predicate g) k (omega (arith, hf.width))
                ∙ (embed_place-within hg.predicate g k (subst (λ (p : Predicate). k < p.arity) one within)
                ∙ ap (λ (p : Predicate). e (slice_index p.sorts k) (slice_index g.args k)) (sym one))))))
            | inr past ↦ hf.unused k past ∙ sym (hg.unused k (subst (λ (p : Predicate). p.arity ≤ k) one past))
          ]) in
          λ i. record { predicate = predicates i; args = elements i }

  module _ (sorts args : List ℕ) (few : length sorts ≤ 4) (over : IsOver small sorts args) where
    -- an argument of an effect that is no `*` stands for an element that is embedded with it
    stands_for-embed : (x : Effect) (fits : EffectFits s sorts x) (k : ℕ) → k < fits.predicate.arity → (arg : Arg) → arg_at x k ≡ arg → (arg ≡ Any → ⊥)
        → unwrap_or (stands_for s (embed_values e sorts args) arg) 0 ≡ e (slice_index fits.predicate.sorts k) (unwrap_or (stands_for s args arg) 0)
    stands_for-embed x fits k within (Parameter v) at other = value_at-embed_values sorts args v (slice_index fits.predicate.sorts k) few (fits.places k v within at)
    stands_for-embed x fits k within (FixedArg c) at other = sym (embeds.constants c (slice_index fits.predicate.sorts k) (fits.fixed k c within at))
    stands_for-embed x fits k within Any at other = absurd (other refl)

    -- the fact that an add gives
    pub fact_given-embed : (x : Effect) (fits : EffectFits s sorts x) → IsWhole x fits → fact_given s (embed_values e sorts args) x ≡ embed_fact e s (fact_given s args x)
    fact_given-embed x fits whole =
        let zeroth : given_at s (embed_values e sorts args) x 0 ≡ embed_place e fits.predicate (fact_given s args x) 0 = place 0 (omega arith) refl in
        let first : given_at s (embed_values e sorts args) x 1 ≡ embed_place e fits.predicate (fact_given s args x) 1 = place 1 (omega arith) refl in
        let second : given_at s (embed_values e sorts args) x 2 ≡ embed_place e fits.predicate (fact_given s args x) 2 = place 2 (omega arith) refl in
        let built : fact_given s (embed_values e sorts args) x ≡ record { predicate = x.predicate; args = three_places fits.predicate (fact_given s args x) }
        = λ i. record { predicate = x.predicate; args = zeroth i ∷ first i ∷ second i ∷ [] } in
        built ∙ sym (embed_fact-declared (fact_given s args x) fits.predicate fits.declared)
      where
        place : (k : ℕ) → k < 3 → slice_index (fact_given s args x).args k ≡ given_at s args x k → given_at s (embed_values e sorts args) x k ≡ embed_place e fits.predicate (fact_given s args x) k
        place k three is = elim (cases_lt k fits.predicate.arity) [
          | inl within ↦
              stands_for-embed x fits k within (arg_at x k) refl (whole.exact k within)
              ∙ (ap (e (slice_index fits.predicate.sorts k)) (sym is)
              ∙ sym (embed_place-within fits.predicate (fact_given s args x) k within))
          | inr past ↦ given_at-past s sorts (embed_values e sorts args) x fits k past three ∙ sym (embed_place-past fits.predicate (fact_given s args x) k past)
        ]

    gives-embed : (x : Effect) (f : Fact) → EffectFits s sorts x → IsFact s small f → gives s args f x ≡ gives s (embed_values e sorts args) (embed_fact e s f) x
    gives-embed x f fits is = by_add x.add refl
      where
        by_add : (b : Bool) → x.add ≡ b → (b && is_eq (fact_cmp (fact_given s args x) f)) ≡ (b && is_eq (fact_cmp (fact_given s (embed_values e sorts args) x) (embed_fact e s f)))
        by_add true add = same_fact-embed (fact_given s args x) f (IsFact-fact_given s small sorts args x fits embeds.sizes (IsWhole-add s sorts x fits add) over) is
            ∙ ap (λ (g : Fact). is_eq (fact_cmp g (embed_fact e s f))) (sym (fact_given-embed x fits (IsWhole-add s sorts x fits add)))
        by_add false add = refl

    -- a place is matched over the small universe as over the large one
    matches_at-embed : (x : Effect) (f : Fact) (fits : EffectFits s sorts x) (is : IsFact s small f) → f.predicate ≡ x.predicate → (k : ℕ) → k < 3
        → slice_index (three_places is.predicate f) k ≡ embed_place e is.predicate f k
        → matches_at s args x f k ≡ matched s (embed_values e sorts args) x (slice_index (three_places is.predicate f) k) k
    matches_at-embed x f fits is predicates k three here = elim (cases_lt k fits.predicate.arity) [
      | inl within ↦ by_arg (arg_at x k) refl within
      | inr past ↦ any (fits.unused k past three)
    ]
      where
        one : is.predicate ≡ fits.predicate
        one = one_predicate x.predicate is.predicate fits.predicate (subst (λ (n : ℕ). slice_get s.predicates n ≡ Some is.predicate) predicates is.declared) fits.declared

        any : arg_at x k ≡ Any → matches_at s args x f k ≡ matched s (embed_values e sorts args) x (slice_index (three_places is.predicate f) k) k
        any at = matched-arg s args x k (slice_index f.args k) Any at ∙ sym (matched-arg s (embed_values e sorts args) x k (slice_index (three_places is.predicate f) k) Any at)

        -- an element that stands there is the fact's over the small universe where it is over the large one
        element : (y z : ℕ) → k < fits.predicate.arity → y < size_of small (slice_index fits.predicate.sorts k) → z ≡ e (slice_index fits.predicate.sorts k) y
            → (y == slice_index f.args k) ≡ (z == slice_index (three_places is.predicate f) k)
        element y z within less named =
            let inside : k < is.predicate.arity = subst (λ (p : Predicate). k < p.arity) (sym one) within in
            let small_element : slice_index f.args k < size_of small (slice_index fits.predicate.sorts k) = subst (λ (p : Predicate). slice_index f.args k < size_of small (slice_index p.sorts k)) one (is.elements k inside) in
            let placed : slice_index (three_places is.predicate f) k ≡ e (slice_index fits.predicate.sorts k) (slice_index f.args k)
            = here ∙ (embed_place-within is.predicate f k inside ∙ ap (λ (p : Predicate). e (slice_index p.sorts k) (slice_index f.args k)) one) in
            same-embed (slice_index fits.predicate.sorts k) y (slice_index f.args k) less small_element
            ∙ (ap (λ (w : ℕ). w == e (slice_index fits.predicate.sorts k) (slice_index f.args k)) (sym named)
            ∙ ap (λ (w : ℕ). z == w) (sym placed))

        by_arg : (arg : Arg) → arg_at x k ≡ arg → k < fits.predicate.arity → matches_at s args x f k ≡ matched s (embed_values e sorts args) x (slice_index (three_places is.predicate f) k) k
        by_arg (Parameter v) at within =
            let sort : slice_get sorts v ≡ Some (slice_index fits.predicate.sorts k) = fits.places k v within at in
            matched-arg s args x k (slice_index f.args k) (Parameter v) at
            ∙ (element (value_at args v) (value_at (embed_values e sorts args) v) within (over.elements v (slice_index fits.predicate.sorts k) sort)
            (value_at-embed_values sorts args v (slice_index fits.predicate.sorts k) few sort)
            ∙ sym (matched-arg s (embed_values e sorts args) x k (slice_index (three_places is.predicate f) k) (Parameter v) at))
        by_arg (FixedArg c) at within =
            let sort : sort_of_constant s c ≡ Some (slice_index fits.predicate.sorts k) = fits.fixed k c within at in
            matched-arg s args x k (slice_index f.args k) (FixedArg c) at
            ∙ (element (element_of_constant s c) (element_of_constant s c) within (constant-less s small c (slice_index fits.predicate.sorts k) embeds.sizes sort)
            (sym (embeds.constants c (slice_index fits.predicate.sorts k) sort))
            ∙ sym (matched-arg s (embed_values e sorts args) x k (slice_index (three_places is.predicate f) k) (FixedArg c) at))
        by_arg Any at within = any at

    -- an effect matches over the small universe as over the large one
    matches-embed : (x : Effect) (f : Fact) → EffectFits s sorts x → IsFact s small f → matches s args x f ≡ matches s (embed_values e sorts args) x (embed_fact e s f)
    matches-embed x f fits is = elim (cases_eq x.predicate f.predicate) [
      | inl same ↦
          ap (λ (b : Bool). (((x.predicate == f.predicate) && b) && matches_at s args x f 1) && matches_at s args x f 2) (matches_at-embed x f fits is (sym same) 0 (omega arith) refl)
          ∙ (ap (λ (b : Bool). (((x.predicate == f.predicate) && matched s (embed_values e sorts args) x (embed_place e is.predicate f 0) 0) && b) && matches_at s args x f 2) (matches_at-embed x f fits is (sym same) 1 (omega arith) refl)
          ∙ (ap (λ (b : Bool). (((x.predicate == f.predicate) && matched s (embed_values e sorts args) x (embed_place e is.predicate f 0) 0) && matched s (embed_values e sorts args) x (embed_place e is.predicate f 1) 1) && b) (matches_at-embed x f fits is (sym same) 2 (omega arith) refl)
          ∙ ap (λ (g : Fact). matches s (embed_values e sorts args) x g) (sym (embed_fact-declared f is.predicate is.declared))))
      | inr other ↦
          let apart : (x.predicate == f.predicate) ≡ false = ne_eqb x.predicate f.predicate other in
          ap (λ (b : Bool). ((b && matches_at s args x f 0) && matches_at s args x f 1) && matches_at s args x f 2) apart
          ∙ (sym (ap (λ (b : Bool). ((b && matches_at s (embed_values e sorts args) x (embedded) 0) && matches_at s (embed_values e sorts args) x (embedded) 1) && matches_at s (embed_values e sorts args) x (embedded) 2) apart)
          ∙ ap (λ (g : Fact). matches s (embed_values e sorts args) x g) (sym (embed_fact-declared f is.predicate is.declared)))
    ]
      where
        embedded : Fact
        embedded = record { predicate = f.predicate; args = three_places is.predicate f }

    takes-embed : (x : Effect) (f : Fact) → EffectFits s sorts x → IsFact s small f → takes s args f x ≡ takes s (embed_values e sorts args) (embed_fact e s f) x
    takes-embed x f fits is = ap (λ (b : Bool). not x.add && b) (matches-embed x f fits is)

    module _ (effects : List Effect) (fits : (k : ℕ) (x : Effect) → slice_get effects k ≡ Some x → EffectFits s sorts x) where
      some_gives-embed : (f : Fact) → IsFact s small f → some_gives s effects args f ≡ some_gives s effects (embed_values e sorts args) (embed_fact e s f)
      some_gives-embed f is = list_any-same (gives s args f) (gives s (embed_values e sorts args) (embed_fact e s f)) effects (λ k x at. gives-embed x f (fits k x at) is)

      some_takes-embed : (f : Fact) → IsFact s small f → some_takes s effects args f ≡ some_takes s effects (embed_values e sorts args) (embed_fact e s f)
      some_takes-embed f is = list_any-same (takes s args f) (takes s (embed_values e sorts args) (embed_fact e s f)) effects (λ k x at. takes-embed x f (fits k x at) is)

  -- what an action adds and removes is kept
  module _ (fit : IsFit s) (action : Action) (args : List ℕ) (over : IsOver small (sorts_of s action) args) where
    pub adds-embed : (f : Fact) → IsFact s small f → adds s action args f ≡ adds s action (embed_values e (sorts_of s action) args) (embed_fact e s f)
    adds-embed f is = some_gives-embed (sorts_of s action) args (fit.argument_count action) over (effects_of s action) (fit.effects action) f is

    pub removes-embed : (f : Fact) → IsFact s small f → removes s action args f ≡ removes s action (embed_values e (sorts_of s action) args) (embed_fact e s f)
    removes-embed f is =
        ap (λ (b : Bool). b && not (adds s action args f)) (some_takes-embed (sorts_of s action) args (fit.argument_count action) over (effects_of s action) (fit.effects action) f is)
        ∙ ap (λ (b : Bool). some_takes s (effects_of s action) (embed_values e (sorts_of s action) args) (embed_fact e s f) && not b) (adds-embed f is)
