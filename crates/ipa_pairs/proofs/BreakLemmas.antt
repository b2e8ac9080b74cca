-- The first example of a drop on a pattern.
--
--   spared-break         where the drop makes no literal false, it breaks nothing there
--   impossible-break     where what the drop asks is impossible, it breaks nothing there
--   no-state             where no state meets the demands, it breaks nothing there
--   first-break          the first state that meets them gives the first example
--   facts-of-drop        the demands are of facts over the universe
use Rattle.std.proofs.Common.{◌≡◌, ℕ, Bool, true, false, List, Some, refl, sym, ap, ◌∙◌, subst, slice_get}
use Rattle.std.proofs.lemmas.Bool.{false≢true}
use Rattle.ipa_spec.specs.Fits.{IsFit}
use Rattle.ipa_spec.specs.declared.specification.Specification.{Specification}
use Rattle.ipa_spec.specs.declared.bounds.Bound.{Bound}
use Rattle.ipa_spec.specs.declared.clauses.Clause.{Clause}
use Rattle.ipa_spec.specs.declared.clauses.Literal.{Literal}
use Rattle.ipa_spec.specs.declared.operations.Action.TheVariants.{Drop}
use Rattle.ipa_logic.specs.Facts.{has}
use Rattle.ipa_logic.specs.Conflicts.{falsifies_some}
use Rattle.ipa_logic.specs.declared.facts.Fact.{Fact}
use Rattle.ipa_models.specs.Models.{Setting, AreFacts, Meets, IsFirstMeeting}
use Rattle.ipa_models.specs.declared.demands.Demand.{Demand}
use Rattle.ipa_reduction.specs.Cases.{DropBreaksOn}
use Rattle.ipa_pairs.specs.Asked.{AnswersEach, IsGathered, asks_of_drop}
use Rattle.ipa_pairs.specs.Examples.{IsFirstDropExampleOn}
use Rattle.ipa_pairs.specs.Openness.{drop_case_of, IsOverDropCase}
use Rattle.ipa_pairs.specs.declared.analysis.UnsafeDrop.{UnsafeDrop}
use Rattle.ipa_pairs.specs.declared.asking.Asked.{Asked}
use Rattle.ipa_pairs.specs.declared.drops.DropCase.{DropCase}
use Rattle.ipa_pairs.proofs.DropLemmas.{drop-asked, of-facts-drop, break-meets, meets-break}

-- the example of a case, with this state
abbrev pub drop_example_of : ℕ → ℕ → DropCase → List Fact → UnsafeDrop
drop_example_of n number case before = record { bound = n; clause = number; universe = case.universe; args = case.args; values = case.values; before = before }

module _ (s : Specification) (n : ℕ) (b : Bound) (c : Clause) (classes : List ℕ) where
  abbrev here : DropCase
  here = drop_case_of s n c classes

  abbrev pub asks_at : DropCase → List Asked
  asks_at case = asks_of_drop s n b case.args case.values c.literals

  -- where the drop makes no literal of the instance false, it breaks nothing there
  pub spared-break : (case : DropCase) → case ≡ here → (literals : List Literal) → literals ≡ c.literals → (is : Bool) → is ≡ falsifies_some s (Drop n) case.args case.values literals → is ≡ false
      → (DropBreaksOn s n b c classes → falsifies_some s (Drop n) here.args here.values c.literals ≡ true) → DropBreaksOn s n b c classes → ⊥
  spared-break case case_is literals same is is_is spared law h =
      false≢true (sym spared ∙ (is_is ∙ ((λ i. falsifies_some s (Drop n) (case_is i).args (case_is i).values (same i)) ∙ law h)))

  -- where what the drop asks is impossible, it breaks nothing there
  pub impossible-break : (case : DropCase) → case ≡ here → (slice : List Asked) → slice ≡ asks_at case → ((t : Fact → Bool) → AnswersEach t slice → ⊥) → DropBreaksOn s n b c classes → ⊥
  impossible-break case case_is slice slice_is none h =
      let asked : AnswersEach (has h.before) (asks_at here) = (drop-asked s n b c here.universe.sizes here.args here.values (has h.before)).1 (h.break.droppable.holds, h.break.broken) in
      none (has h.before) (subst (AnswersEach (has h.before)) (sym (slice_is ∙ ap asks_at case_is)) asked)

  -- where no state meets the demands, it breaks nothing there
  pub no-state : (case : DropCase) → case ≡ here → (slice : List Asked) → slice ≡ asks_at case → (demands lent : List Demand) → lent ≡ demands → IsGathered slice demands
      → (m : Setting) → m ≡ record { spec = s; universe = case.universe.sizes } → ((state : List Fact) → Meets m.spec m.universe lent state → ⊥) → DropBreaksOn s n b c classes → ⊥
  no-state case case_is slice slice_is demands lent lent_is gathered m m_is none h =
      let same : IsGathered (asks_at here) demands = subst (λ (a : List Asked). IsGathered a demands) (slice_is ∙ ap asks_at case_is) gathered in
      let meets : Meets s here.universe.sizes demands h.before = break-meets s n b c here.universe.sizes here.args here.values demands same h.before h.break in
      let lifted : Meets s case.universe.sizes lent h.before
      = subst (λ (d : List Demand). Meets s case.universe.sizes d h.before) (sym lent_is) (subst (λ (k : DropCase). Meets s k.universe.sizes demands h.before) (sym case_is) meets) in
      none h.before (subst (λ (x : Setting). Meets x.spec x.universe lent h.before) (sym m_is) lifted)

  -- the first state that meets the demands gives the first example
  pub first-break : (case : DropCase) → case ≡ here → (number : ℕ) → slice_get s.bounds n ≡ Some b → IsOverDropCase s n c case → (slice : List Asked) → slice ≡ asks_at case → (demands lent : List Demand) → lent ≡ demands → IsGathered slice demands
      → (m : Setting) → m ≡ record { spec = s; universe = case.universe.sizes } → (before : List Fact) → IsFirstMeeting m.spec m.universe case.values c.literals lent before
      → IsFirstDropExampleOn s b c classes (drop_example_of n number case before)
  first-break case case_is number declared over slice slice_is demands lent lent_is gathered m m_is before first =
      let same : IsGathered (asks_at here) demands = subst (λ (a : List Asked). IsGathered a demands) (slice_is ∙ ap asks_at case_is) gathered in
      let there : IsOverDropCase s n c here = subst (IsOverDropCase s n c) case_is over in
      let lifted : IsFirstMeeting s case.universe.sizes case.values c.literals demands before
      = subst (λ (d : List Demand). IsFirstMeeting s case.universe.sizes case.values c.literals d before) lent_is (subst (λ (x : Setting). IsFirstMeeting x.spec x.universe case.values c.literals lent before) m_is first) in
      let first_here : IsFirstMeeting s here.universe.sizes here.values c.literals demands before
      = subst (λ (k : DropCase). IsFirstMeeting s k.universe.sizes k.values c.literals demands before) case_is lifted in
      let example : IsFirstDropExampleOn s b c classes (drop_example_of n number here before)
      = record {
        example = record {
          universe = refl;
          args = refl;
          values = refl;
          shows = meets-break s n b c here.universe.sizes here.args here.values demands same declared there.sizes there.args there.values before first_here.meets;
        };
        first_before = λ other o earlier. first_here.first other (break-meets s n b c here.universe.sizes here.args here.values demands same other o) earlier;
      } in
      subst (λ (k : DropCase). IsFirstDropExampleOn s b c classes (drop_example_of n number k before)) (sym case_is) example

  -- the demands are of facts over the universe
  pub facts-of-drop : (case : DropCase) → IsFit s → (number : ℕ) → slice_get s.bounds n ≡ Some b → slice_get s.clauses number ≡ Some c → IsOverDropCase s n c case → (slice : List Asked) → slice ≡ asks_at case
      → (demands lent : List Demand) → lent ≡ demands → IsGathered slice demands → (m : Setting) → m ≡ record { spec = s; universe = case.universe.sizes } → AreFacts m.spec m.universe lent
  facts-of-drop case fit number declared g over slice slice_is demands lent lent_is gathered m m_is =
      subst (λ (x : Setting). AreFacts x.spec x.universe lent) (sym m_is)
      (subst (λ (d : List Demand). AreFacts s case.universe.sizes d) (sym lent_is)
      ((subst (λ (a : List Asked). IsGathered a demands) slice_is gathered).facts s case.universe.sizes
      (of-facts-drop s n b c case.universe.sizes case.args case.values fit over.sizes number declared g over.args over.values)))
