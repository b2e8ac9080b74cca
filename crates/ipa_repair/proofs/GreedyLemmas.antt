-- The steps of the greedy repair.
--
--   get_at                 what stands in a place
--   earlier_more           what holds of the items in earlier places, and of the next one
--   all_earlier            what holds of the items in all places
--   lessens-from, lessens-not, lessens-wide   whether an offer leads to fewer conflicting pairs
--   Reaches-start, Reaches-more   no step, and one more
--   offers-faultless       each offer can be applied
--   all_conflict           the pairs that conflict do
--   taken_from, first_taken, step_from   the step of a pair, of the first that has one, and of the specification
--   first_taken_at, earlier_more_at      the same at the item that is read in a place
--   going_on               the steps go on with the step that was taken
use Rattle.std.proofs.Common.{◌≡◌, ℕ, ◌+◌, ◌<◌, ◌≤◌, List, [], ◌∷◌, ◌++◌, length, get_or, Some, refl, sym, ap, ◌∙◌, subst, inl, inr, arith, zero, suc}
use Rattle.std.specs.List.{All, slice_get}
use Rattle.std.proofs.lemmas.Bool.{cases_lt}
use Rattle.std.proofs.lemmas.List.{get_or_default}
use Rattle.std.proofs.lemmas.Option.{get_or_from_slice_get}
use Rattle.std.proofs.lemmas.List.Elements.{All-nil, All-cons, All-head, All-tail, All-append, All-same}
use Rattle.ipa_spec.specs.Limits.{IsFaultless}
use Rattle.ipa_spec.specs.declared.specification.Specification.{Specification}
use Rattle.ipa_spec.specs.declared.operations.Action.{Action}
use Rattle.ipa_pairs.specs.Width.{IsNarrow, IsDeclared}
use Rattle.ipa_repair.specs.Applying.{applied}
use Rattle.ipa_repair.specs.Candidates.{candidates_of}
use Rattle.ipa_repair.specs.Offers.{AreOffers, IsClearing, ClearsAsTwo, alone, twos}
use Rattle.ipa_repair.specs.Greedy.{pairs_of, PairConflicts, AreConflicting, Lessens, LessensNothing, IsStep, Leads, Reaches}
use Rattle.ipa_repair.specs.Stepping.{IsFirstLessened, IsTaken, IsFirstTaken}
use Rattle.ipa_repair.specs.declared.greedy.Applied.{Applied}
use Rattle.ipa_repair.specs.declared.greedy.Taken.{Taken}
use Rattle.ipa_repair.specs.declared.candidates.Candidate.{Candidate}
use Rattle.ipa_repair.specs.declared.candidates.Offer.{Offer}
use Rattle.ipa_repair.specs.declared.pairs.Pair.{Pair}
use Rattle.ipa_repair.specs.declared.steps.RepairStep.{RepairStep}
use Rattle.ipa_repair.proofs.ChosenLemmas.{AreThose-all, AreThose-same}

-- what stands in a place
pub get_at : {X : Type 0} (xs : List X) (k : ℕ) (d : X) → k < length xs → slice_get xs k ≡ Some (get_or xs k d)
get_at [] k d l = absurd (omega arith)
get_at (x ∷ xs) zero d l = refl
get_at (x ∷ xs) (suc k) d l = get_at xs k d (omega arith)

-- what holds of the items in earlier places, and of the next one
pub earlier_more : {X : Type 0} (P : X → Type 0) (xs : List X) (i : ℕ) (x : X) →
    ((n : ℕ) (y : X) → n < i → slice_get xs n ≡ Some y → P y) → x ≡ get_or xs i x → P x →
    (n : ℕ) (y : X) → n < i + 1 → slice_get xs n ≡ Some y → P y
earlier_more P xs i x h at here n y l e = elim (cases_lt n i) [
  | inl before ↦ h n y before e
  | inr not_before ↦
      let same : n ≡ i = omega arith in
      subst P (at ∙ get_or_from_slice_get xs i y x (subst (λ k. slice_get xs k ≡ Some y) same e)) here
]

-- what holds of the items in all places
pub all_earlier : {X : Type 0} (P : X → Type 0) (xs : List X) (i : ℕ) → length xs ≤ i →
    ((n : ℕ) (y : X) → n < i → slice_get xs n ≡ Some y → P y) → All P xs
all_earlier P [] i l h = All-nil P
all_earlier P (x ∷ xs) zero l h = absurd (omega arith)
all_earlier P (x ∷ xs) (suc i) l h =
    All-cons P x xs (h 0 x (omega arith) refl) (all_earlier P xs i (omega arith) (λ n y m e. h (suc n) y (omega arith) e))

module _ (s next : Specification) (parts : List Candidate) (leads : next ≡ applied s parts) where
  pub lessens-from : (before after : List Pair) → IsNarrow next (IsDeclared next) → AreConflicting s before → AreConflicting next after →
      length after < length before → Lessens s parts
  lessens-from before after narrow are_before are_after fewer = record {
    narrow = subst (λ x. IsNarrow x (IsDeclared x)) leads narrow;
    before = before;
    are_before = are_before;
    after = after;
    are_after = subst (λ x. AreConflicting x after) leads are_after;
    fewer = fewer;
  }

  pub lessens-not : (before after : List Pair) → AreConflicting s before → AreConflicting next after →
      length before ≤ length after → Lessens s parts → ⊥
  lessens-not before after are_before are_after not_fewer h =
      let same_before : h.before ≡ before = AreThose-same (PairConflicts s) (pairs_of s) h.before before h.are_before are_before in
      let same_after : h.after ≡ after =
      AreThose-same (PairConflicts (applied s parts)) (pairs_of (applied s parts)) h.after after h.are_after
      (subst (λ x. AreConflicting x after) leads are_after) in
      omega (arith, h.fewer, ap length same_before, ap length same_after, not_fewer)

  pub lessens-wide : (IsNarrow next (IsDeclared next) → ⊥) → Lessens s parts → ⊥
  lessens-wide wide h = wide (subst (λ x. IsNarrow x (IsDeclared x)) (sym leads) h.narrow)

-- no step
pub Reaches-start : (s : Specification) → Reaches s [] s
unfolding Leads
Reaches-start s = record { leads = refl }

leads-more : (steps : List RepairStep) (s end next : Specification) (step : RepairStep) → Leads steps end s → IsStep end step next →
    Leads (steps ++ step ∷ []) next s
unfolding Leads
leads-more [] s end next step h last =
    record { next = next; step_is = subst (λ x. IsStep x step next) (sym h) last; onwards = refl }
leads-more (x ∷ steps) s end next step h last =
    record { next = h.next; step_is = h.step_is; onwards = leads-more steps h.next end next step h.onwards last }

-- one more step
pub Reaches-more : (steps : List RepairStep) (s end next : Specification) (step : RepairStep) → Reaches s steps end → IsStep end step next →
    Reaches s (steps ++ step ∷ []) next
Reaches-more steps s end next step h last = record { leads = leads-more steps s end next step h.leads last }

all_weaker : {X : Type 0} (P Q : X → Type 0) (xs : List X) → ((x : X) → P x → Q x) → All P xs → All Q xs
all_weaker P Q [] f h = All-nil Q
all_weaker P Q (x ∷ xs) f h = All-cons Q x xs (f x (All-head P x xs h)) (all_weaker P Q xs f (All-tail P x xs h))

-- each offer can be applied
pub offers-faultless : (s : Specification) (left right : Action) (offers : List Offer) → AreOffers s left right offers →
    All (λ o. IsFaultless (applied s o.parts)) offers
offers-faultless s left right offers a =
    let P : Offer → Type 0 = λ o. IsFaultless (applied s o.parts) in
    let cs = candidates_of s left right a.reported in
    let ones =
    all_weaker (IsClearing s left right) P a.of.ones (λ o h. h.faultless)
    (AreThose-all (IsClearing s left right) (alone cs) a.of.ones a.of.are_ones) in
    let pairs =
    all_weaker (ClearsAsTwo s left right) P a.of.pairs (λ o h. h.together.faultless)
    (AreThose-all (ClearsAsTwo s left right) (twos cs) a.of.pairs a.of.are_pairs) in
    All-same P offers (a.of.ones ++ a.of.pairs) a.of.in_order (All-append P a.of.ones a.of.pairs ones pairs)

-- the pairs that conflict do
pub all_conflict : (s : Specification) (pairs : List Pair) → AreConflicting s pairs → All (PairConflicts s) pairs
all_conflict s pairs a = AreThose-all (PairConflicts s) (pairs_of s) pairs a

-- the step that applies the first offer
pub taken_from : (s : Specification) (pairs : List Pair) (p : Pair) (offers slice : List Offer) (a : Applied) → slice ≡ offers →
    AreOffers s p.left p.right offers → IsFirstLessened s pairs slice a →
    IsTaken s pairs p (record { step = record { left = p.left; right = p.right; offers = offers; applied = a.place }; lessened = a.lessened })
taken_from s pairs p offers slice a e are h =
    let f = subst (λ xs. IsFirstLessened s pairs xs a) e h in
    record {
      of = refl;
      takes = record {
        are = are;
        earlier = f.earlier;
        counted = f.counted;
        offer = f.offer;
        there = f.there;
        lessens = f.lessened.lessens;
        first = f.first;
        leads = f.lessened.leads;
      };
      to = f.lessened.to;
    }

-- the step of the first pair that has one
pub first_taken : (s : Specification) (pairs : List Pair) (i : ℕ) (p : Pair) (t : Taken) → i < length pairs → p ≡ get_or pairs i p →
    IsTaken s pairs p t → ((n : ℕ) (q : Pair) → n < i → slice_get pairs n ≡ Some q → LessensNothing s q) → IsFirstTaken s pairs t
first_taken s pairs i p t l at h first = record {
  earlier = i;
  there = get_at pairs i p l ∙ (ap (λ q. Some q) (sym at) ∙ ap (λ q. Some q) h.of);
  takes = h.takes;
  to = h.to;
  first = first;
}

-- it is a step of the specification
pub step_from : (s : Specification) (pairs slice : List Pair) (t : Taken) → slice ≡ pairs → AreConflicting s pairs → IsFirstTaken s slice t →
    IsStep s t.step t.lessened.next
step_from s pairs slice t e are h =
    let f = subst (λ xs. IsFirstTaken s xs t) e h in
    record { conflicting = pairs; are = are; earlier = f.earlier; there = f.there; first = f.first; takes = f.takes }

-- the same, at the item that is read in the place
pub first_taken_at : (s : Specification) (pairs : List Pair) (i : ℕ) (d : Pair) (t : Taken) → i < length pairs →
    IsTaken s pairs (get_or pairs i d) t → ((n : ℕ) (q : Pair) → n < i → slice_get pairs n ≡ Some q → LessensNothing s q) → IsFirstTaken s pairs t
first_taken_at s pairs i d t l h first =
    first_taken s pairs i (get_or pairs i d) t l (get_or_default pairs i d (get_or pairs i d) l) h first

-- what holds of the pairs in earlier places, and of the one that is read in the next
pub earlier_more_at : {X : Type 0} (P : X → Type 0) (xs : List X) (i : ℕ) (d : X) → i < length xs →
    ((n : ℕ) (y : X) → n < i → slice_get xs n ≡ Some y → P y) → P (get_or xs i d) →
    (n : ℕ) (y : X) → n < i + 1 → slice_get xs n ≡ Some y → P y
earlier_more_at P xs i d l h here = earlier_more P xs i (get_or xs i d) h (get_or_default xs i d (get_or xs i d) l) here

-- the steps go on with the step that was taken
pub going_on : (start s : Specification) (pairs slice : List Pair) (steps grown : List RepairStep) (taken : Taken) (step : RepairStep) (next : Specification) →
    slice ≡ pairs → AreConflicting s pairs → IsFirstTaken s slice taken → step ≡ taken.step → next ≡ taken.lessened.next →
    grown ≡ steps ++ step ∷ [] → Reaches start steps s → Reaches start grown next
going_on start s pairs slice steps grown taken step next e are h step_is next_is grown_is reached =
    let last = step_from s pairs slice taken e are h in
    let here = subst (λ x. IsStep s x taken.lessened.next) (sym step_is) last in
    let there = subst (λ x. IsStep s step x) (sym next_is) here in
    subst (λ xs. Reaches start xs next) (sym grown_is) (Reaches-more steps start s next step reached there)
