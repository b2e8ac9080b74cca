-- Which bounds an action overfills.
--
--   SparesBound s action args b state   the group of each fact that the action adds is within the bound
--   Spares s action args state          it spares each bound of the specification
--   Overfills s action args b state     the group of some fact that it adds exceeds the bound
--   IsFirstOverfilled s action args state n   bound n is the first, in declared order, that it overfills
--   SparesAt, OverfillsAt               the same of the bound of a number, if there is one
--   OverfillsBy s args b state e        the effect is an add whose fact is in a group that exceeds the bound
--   SomeOverfills, EachSpares           one of some effects is such an add, or none is
use Rattle.std.specs.Prelude.{◌≡◌, ℕ, ◌<◌, ◌≤◌, true, List, length, slice_get, Some}
use Rattle.ipa_spec.specs.declared.specification.Specification.{Specification}
use Rattle.ipa_spec.specs.declared.bounds.Bound.{Bound}
use Rattle.ipa_spec.specs.declared.operations.Action.{Action}
use Rattle.ipa_spec.specs.declared.operations.Effect.{Effect}
use Rattle.ipa_logic.specs.Groups.{key_of, group_of}
use Rattle.ipa_logic.specs.DueDrops.{Exceeds}
use Rattle.ipa_logic.specs.Touches.{adds, fact_given}
use Rattle.ipa_logic.specs.declared.facts.Fact.{Fact}
use Rattle.ipa_history.specs.Histories.{IsMember}

module _ (s : Specification) (action : Action) (args : List ℕ) where
  -- the group of each fact that the action adds is within the bound
  pub record SparesBound (b : Bound) (state : List Fact) : Type 0 where
    pub each : (f : Fact) → adds s action args f ≡ true → f.predicate ≡ b.predicate →
        length (group_of b (key_of b f) state) ≤ b.most

  -- it spares each bound of the specification
  pub record Spares (state : List Fact) : Type 0 where
    pub bounds : (n : ℕ) (b : Bound) → slice_get s.bounds n ≡ Some b → SparesBound b state

  -- the group of some fact that it adds exceeds the bound
  pub record Overfills (b : Bound) (state : List Fact) : Type 0 where
    pub fact : Fact
    pub added : adds s action args fact ≡ true
    pub counted : fact.predicate ≡ b.predicate
    pub over : Exceeds b (key_of b fact) state

  -- bound n is the first, in declared order, that it overfills
  pub record IsFirstOverfilled (state : List Fact) (n : ℕ) : Type 0 where
    pub bound : Bound
    pub declared : slice_get s.bounds n ≡ Some bound
    pub overfills : Overfills bound state
    pub earlier : (m : ℕ) (b : Bound) → m < n → slice_get s.bounds m ≡ Some b → SparesBound b state

  -- it overfills the bound of this number
  pub record OverfillsAt (state : List Fact) (n : ℕ) : Type 0 where
    pub bound : Bound
    pub declared : slice_get s.bounds n ≡ Some bound
    pub overfills : Overfills bound state

  -- it spares the bound of this number, if there is one
  pub record SparesAt (state : List Fact) (n : ℕ) : Type 0 where
    pub spares : (b : Bound) → slice_get s.bounds n ≡ Some b → SparesBound b state

module _ (s : Specification) (args : List ℕ) (b : Bound) (state : List Fact) where
  -- the effect is an add whose fact is in a group that exceeds the bound
  pub record OverfillsBy (e : Effect) : Type 0 where
    pub add : e.add ≡ true
    pub counted : e.predicate ≡ b.predicate
    pub over : Exceeds b (key_of b (fact_given s args e)) state

  -- one of the effects is
  pub record SomeOverfills (effects : List Effect) : Type 0 where
    pub effect : Effect
    pub member : IsMember effects effect
    pub overfills : OverfillsBy effect

  -- none of them is
  pub record EachSpares (effects : List Effect) : Type 0 where
    pub each : (e : Effect) → IsMember effects e → OverfillsBy e → ⊥
