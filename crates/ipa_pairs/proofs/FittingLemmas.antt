-- The states that an action can have left are those that answer what is asked of them.
--
--   stands-asked            to stand after an action is to answer what it asks
--   of-facts                what is asked is of facts over the universe
--   fitting-meets, meets-fitting   a fitting state meets the demands, and one that meets them fits
--   first-fitting           so the first to meet them is the first that fits
use Rattle.std.proofs.Common.{◌≡◌, ◌↔◌, ℕ, Bool, true, false, ◌||◌, cond, List, ◌++◌, map, Option, None, Some, subst}
use Rattle.std.specs.Prelude.{Result, IfOk, MatchOption}
use Rattle.std.proofs.lemmas.Result.{IfOk-weaker}
use Rattle.ipa_spec.specs.Actions.{needs_of, sorts_of}
use Rattle.ipa_spec.specs.Fits.{IsFit, LiteralFits}
use Rattle.ipa_spec.specs.declared.specification.Specification.{Specification}
use Rattle.ipa_spec.specs.declared.clauses.Literal.{Literal}
use Rattle.ipa_spec.specs.declared.clauses.Literal.TheVariants.{Holds, Fails, Same, Differ}
use Rattle.ipa_spec.specs.declared.operations.Action.{Action}
use Rattle.ipa_logic.specs.Facts.{Universe, IsUniverse, IsFact, has}
use Rattle.ipa_logic.specs.Truth.{IsOver, literal_true}
use Rattle.ipa_logic.specs.Touches.{touch_of, touches_need, adds, removes}
use Rattle.ipa_logic.specs.Conflicts.{StandsAfter}
use Rattle.ipa_logic.specs.FitLaws.{IsFact-fact_of}
use Rattle.ipa_logic.specs.declared.facts.Fact.{Fact}
use Rattle.ipa_logic.specs.declared.facts.Touch.{Touch}
use Rattle.ipa_logic.specs.declared.facts.Touch.TheVariants as touch
use Rattle.ipa_ground.specs.Enumeration.{facts_over}
use Rattle.ipa_ground.specs.FactsLaws.{facts_over-fact, fact-facts_over, AreShort-from_fit}
use Rattle.ipa_models.specs.Models.{Meets, IsFirstMeeting}
use Rattle.ipa_models.specs.declared.demands.Demand.{Demand}
use Rattle.ipa_pairs.specs.Asked.{Answers, AnswersEach, IsOfFact, AreOfFacts, IsGathered, decided, asked_for, asked_by_touch, asked_by_need, asks_of_action, asks_of_literal, IsAsWanted, IsFitting, IsFirstFitting}
use Rattle.ipa_pairs.specs.declared.asking.Asked.{Asked}
use Rattle.ipa_pairs.specs.declared.asking.Asked.TheVariants as asked
use Rattle.ipa_pairs.proofs.AskedLemmas.{each-append, each-map, list_all-each, answers-for, answers-need, answers-touch}

-- what is decided is asked of no fact
pub of-decided : (s : Specification) (universe : Universe) (b : Bool) → IsOfFact s universe (decided b)
of-decided s universe true = tt
of-decided s universe false = tt

-- what is asked for a fitting literal is of a fact over the universe
pub of-literal : (s : Specification) (universe : Universe) (sorts values : List ℕ) (l : Literal) (holds : Bool) → IsUniverse s universe → LiteralFits s sorts l → IsOver universe sorts values → IsOfFact s universe (asked_for s values l holds)
of-literal s universe sorts values (Holds a) holds large fits over = IsFact-fact_of s universe sorts values a large fits over
of-literal s universe sorts values (Fails a) holds large fits over = IsFact-fact_of s universe sorts values a large fits over
of-literal s universe sorts values (Same v w) holds large fits over = of-decided s universe _
of-literal s universe sorts values (Differ v w) holds large fits over = of-decided s universe _

-- the predicates of a fit specification are short
module _ (s : Specification) (fit : IsFit s) (universe : Universe) (action : Action) (args : List ℕ) where
  abbrev touched : Fact → Asked
  touched f = asked_by_touch f (touch_of s action args f)

  abbrev needed : Literal → Asked
  needed l = asked_by_need s action args l

  -- to stand after the action is to answer what it asks
  pub stands-asked : (t : Fact → Bool) → AnswersEach t (asks_of_action s universe action args) ↔ StandsAfter s universe action args t
  stands-asked t = ((λ h. from h), (λ h. to h))
    where
      from : AnswersEach t (asks_of_action s universe action args) → StandsAfter s universe action args t
      from h =
          let parts = (each-append (Answers t) (map touched (facts_over s.predicates universe)) (map needed (needs_of s action))).0 h in
          let at : (f : Fact) → IsFact s universe f → (adds s action args f ≡ true → t f ≡ true) × (removes s action args f ≡ true → t f ≡ false)
          = λ f is. let listed = fact-facts_over s universe f (AreShort-from_fit s fit) is in
          (answers-touch t s action args f).0 ((each-map (Answers t) touched (facts_over s.predicates universe)).0 parts.0 listed.place f listed.there) in
          record {
            added = λ f is e. (at f is).0 e;
            removed = λ f is e. (at f is).1 e;
            needed = (list_all-each (λ l. touches_need s action args l || literal_true s t args l) (needs_of s action)).1
                (λ k l e. (answers-need t s action args l).0 ((each-map (Answers t) needed (needs_of s action)).0 parts.1 k l e));
          }

      to : StandsAfter s universe action args t → AnswersEach t (asks_of_action s universe action args)
      to h = (each-append (Answers t) (map touched (facts_over s.predicates universe)) (map needed (needs_of s action))).1 (
        (each-map (Answers t) touched (facts_over s.predicates universe)).1
            (λ k f e. let is = facts_over-fact s universe f (AreShort-from_fit s fit) (record { place = k; there = e }) in
            (answers-touch t s action args f).1 (h.added f is, h.removed f is)),
        (each-map (Answers t) needed (needs_of s action)).1
            (λ k l e. (answers-need t s action args l).1
            ((list_all-each (λ l. touches_need s action args l || literal_true s t args l) (needs_of s action)).0 h.needed k l e)),
      )

  module _ (values sorts : List ℕ) (l : Literal) (wanted : Option Bool) (fits : LiteralFits s sorts l) (over : IsOver universe sorts values) (over_args : IsOver universe (sorts_of s action) args) where
    abbrev asks : List Asked
    asks = asks_of_action s universe action args ++ asks_of_literal s values l wanted

    -- what is asked is of facts over the universe
    pub of-facts : IsUniverse s universe → AreOfFacts s universe asks
    of-facts sizes = (each-append (IsOfFact s universe) (asks_of_action s universe action args) (asks_of_literal s values l wanted)).1 (
      (each-append (IsOfFact s universe) (map touched (facts_over s.predicates universe)) (map needed (needs_of s action))).1 (
        (each-map (IsOfFact s universe) touched (facts_over s.predicates universe)).1
            (λ k f e. of-touch f (touch_of s action args f) (facts_over-fact s universe f (AreShort-from_fit s fit) (record { place = k; there = e }))),
        (each-map (IsOfFact s universe) needed (needs_of s action)).1
            (λ k need e. of-need need (touches_need s action args need) (fit.needs action k need e)),
      ),
      of-wanted wanted,
    )
      where
        of-touch : (f : Fact) (touch : Touch) → IsFact s universe f → IsOfFact s universe (asked_by_touch f touch)
        of-touch f touch.Adds is = is
        of-touch f touch.Removes is = is
        of-touch f touch.Nothing is = tt

        of-need : (need : Literal) (b : Bool) → LiteralFits s (sorts_of s action) need → IsOfFact s universe (cond b asked.Nothing (asked_for s args need true))
        of-need need true h = tt
        of-need need false h = of-literal s universe (sorts_of s action) args need true sizes h over_args

        of-wanted : (w : Option Bool) → AreOfFacts s universe (asks_of_literal s values l w)
        of-wanted None = tt
        of-wanted (Some holds) = (of-literal s universe sorts values l holds sizes fits over, tt)

    -- the literal is as wanted where what is asked of it is answered
    wanted-asked : (t : Fact → Bool) (w : Option Bool) → AnswersEach t (asks_of_literal s values l w) ↔ IsAsWanted s values l w t
    wanted-asked t None = ((λ h. tt), (λ h. tt))
    wanted-asked t (Some holds) = ((λ h. (answers-for t s values l holds).0 h.0), (λ h. ((answers-for t s values l holds).1 h, tt)))

    -- a fitting state answers what is asked
    pub fitting-answers : (state : List Fact) → IsFitting s universe action args values l wanted state → AnswersEach (has state) asks
    fitting-answers state h = (each-append (Answers (has state)) (asks_of_action s universe action args) (asks_of_literal s values l wanted)).1
        ((stands-asked (has state)).1 h.stands, (wanted-asked (has state) wanted).1 h.literal)

    module _ (demands : List Demand) (gathered : IsGathered asks demands) where
      pub fitting-meets : (state : List Fact) → IsFitting s universe action args values l wanted state → Meets s universe demands state
      fitting-meets facts h = record { state = h.is_state; keeps = h.keeps; demanded = (gathered.exactly (has facts)).0 (fitting-answers facts h) }

      pub meets-fitting : (state : List Fact) → Meets s universe demands state → IsFitting s universe action args values l wanted state
      meets-fitting state h =
          let parts = (each-append (Answers (has state)) (asks_of_action s universe action args) (asks_of_literal s values l wanted)).0 ((gathered.exactly (has state)).1 h.demanded) in
          record { is_state = h.state; keeps = h.keeps; stands = (stands-asked (has state)).0 parts.0; literal = (wanted-asked (has state) wanted).0 parts.1 }

      -- the first to meet the demands is the first that fits
      pub first-fitting : (literals : List Literal) (state : List Fact) → IsFirstMeeting s universe values literals demands state → IsFirstFitting s universe action args values literals l wanted state
      first-fitting literals state h = record {
        fits = meets-fitting state h.meets;
        first = λ other o. h.first other (fitting-meets other o);
      }

-- an answer from the first state that meets the demands
pub first-answer : {E : Type 0} (m s : Specification) → m ≡ s → (fit : IsFit s) (universe : Universe) (action : Action) (args values sorts : List ℕ) (l : Literal) (wanted : Option Bool)
    → LiteralFits s sorts l → IsOver universe sorts values → IsOver universe (sorts_of s action) args
    → (demands slice : List Demand) → slice ≡ demands → IsGathered (asks_of_action s universe action args ++ asks_of_literal s values l wanted) demands → (literals : List Literal)
    → (r : Result (Option (List Fact)) E)
    → IfOk r (λ found. MatchOption found ((state : List Fact) → Meets m universe slice state → ⊥) (λ state. IsFirstMeeting m universe values literals slice state))
    → IfOk r (λ found. MatchOption found ((state : List Fact) → IsFitting s universe action args values l wanted state → ⊥) (λ state. IsFirstFitting s universe action args values literals l wanted state))
first-answer {E} m s same fit universe action args values sorts l wanted fits over over_args demands slice slice_is gathered literals r h =
    IfOk-weaker r _ _ (λ found. by found) (subst (λ (x : Specification). IfOk r (λ found. MatchOption found ((state : List Fact) → Meets x universe demands state → ⊥) (λ state. IsFirstMeeting x universe values literals demands state))) same
    (subst (λ (d : List Demand). IfOk r (λ found. MatchOption found ((state : List Fact) → Meets m universe d state → ⊥) (λ state. IsFirstMeeting m universe values literals d state))) slice_is h))
  where
    by : (found : Option (List Fact)) → MatchOption found ((state : List Fact) → Meets s universe demands state → ⊥) (λ state. IsFirstMeeting s universe values literals demands state)
        → MatchOption found ((state : List Fact) → IsFitting s universe action args values l wanted state → ⊥) (λ state. IsFirstFitting s universe action args values literals l wanted state)
    by None none = λ state f. none state (fitting-meets s fit universe action args values sorts l wanted fits over over_args demands gathered state f)
    by (Some state) first = first-fitting s fit universe action args values sorts l wanted fits over over_args demands gathered literals state first
