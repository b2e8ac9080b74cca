-- What a step of the greedy repair finds.
--
--   IsLessened s ps o l         the offer leads there, where fewer pairs conflict
--   IsFirstLessened s ps os a   of the offers the first that does
--   IsTaken s ps p t            the step of the pair, and where it leads
--   IsFirstTaken s ps t         of the pairs the first that has a step
use Rattle.std.specs.Prelude.{◌≡◌, ℕ, ◌<◌, suc, List, length, slice_get, Some}
use Rattle.ipa_spec.specs.declared.specification.Specification.{Specification}
use Rattle.ipa_pairs.specs.Width.{IsNarrow, IsDeclared}
use Rattle.ipa_repair.specs.Applying.{applied}
use Rattle.ipa_repair.specs.Greedy.{pair, AreConflicting, Lessens, LessensNothing, TakesOffer}
use Rattle.ipa_repair.specs.Showing.{AreClashes}
use Rattle.ipa_repair.specs.declared.candidates.Offer.{Offer}
use Rattle.ipa_repair.specs.declared.pairs.Pair.{Pair}
use Rattle.ipa_repair.specs.declared.greedy.Lessened.{Lessened}
use Rattle.ipa_repair.specs.declared.greedy.Applied.{Applied}
use Rattle.ipa_repair.specs.declared.greedy.Taken.{Taken}

-- the specification has no triple that is too wide, and fewer conflicting pairs than there were
pub record IsFewer (pairs : List Pair) (l : Lessened) : Type 0 where
  pub narrow : IsNarrow l.next (IsDeclared l.next)
  pub clashes_are : AreClashes l.next l.clashes
  pub are : AreConflicting l.next l.pairs
  pub fewer : length l.pairs < length pairs

-- the offer leads there, where fewer pairs conflict
pub record IsLessened (s : Specification) (pairs : List Pair) (o : Offer) (l : Lessened) : Type 0 where
  pub leads : l.next ≡ applied s o.parts
  pub lessens : Lessens s o.parts
  pub to : IsFewer pairs l

-- the offer in this place, counted from 1, is the first that leads to fewer conflicting pairs
pub record IsFirstLessened (s : Specification) (pairs : List Pair) (offers : List Offer) (a : Applied) : Type 0 where
  pub earlier : ℕ
  pub counted : a.place ≡ suc earlier
  pub offer : Offer
  pub there : slice_get offers earlier ≡ Some offer
  pub lessened : IsLessened s pairs offer a.lessened
  pub first : (n : ℕ) (o : Offer) → n < earlier → slice_get offers n ≡ Some o → Lessens s o.parts → ⊥

-- the step is of this pair, and leads to fewer conflicting pairs
pub record IsTaken (s : Specification) (pairs : List Pair) (p : Pair) (t : Taken) : Type 0 where
  pub of : p ≡ pair t.step.left t.step.right
  pub takes : TakesOffer s t.step t.lessened.next
  pub to : IsFewer pairs t.lessened

-- the step is of the first pair that has one
pub record IsFirstTaken (s : Specification) (pairs : List Pair) (t : Taken) : Type 0 where
  pub earlier : ℕ
  pub there : slice_get pairs earlier ≡ Some (pair t.step.left t.step.right)
  pub takes : TakesOffer s t.step t.lessened.next
  pub to : IsFewer pairs t.lessened
  pub first : (n : ℕ) (p : Pair) → n < earlier → slice_get pairs n ≡ Some p → LessensNothing s p
