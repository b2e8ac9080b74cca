-- There is one list of offers, one next step, and one greedy repair.
--
--   one_offers      a pair has one list of offers
--   same_place      of two first places neither is before the other
--   one_step        a specification has at most one next step
--   no_next         one at which the repair ends has none
--   end_accepted    an accepted one is such
--   fit_after       the steps keep a specification fit
--   one_way         there is one list of steps to an end, and one end
--   one_repaired    there is one greedy repair
use Rattle.std.proofs.Common.{◌≡◌, ℕ, ◌<◌, List, [], ◌∷◌, ◌++◌, length, Some, refl, sym, ap, ◌∙◌, subst, inl, inr, arith, suc}
use Rattle.std.specs.List.{slice_get}
use Rattle.std.proofs.lemmas.Bool.{cases_lt}
use Rattle.std.proofs.lemmas.Option.{same_Some}
use Rattle.std.proofs.lemmas.List.Elements.{All-nil}
use Rattle.ipa_spec.specs.Fits.{IsFit}
use Rattle.ipa_spec.specs.FaultlessFits.{IsFit-from_faultless}
use Rattle.ipa_spec.specs.Limits.{IsFaultless}
use Rattle.ipa_spec.specs.declared.specification.Specification.{Specification}
use Rattle.ipa_spec.specs.declared.operations.Action.{Action}
use Rattle.ipa_logic.specs.Acceptance.{IsAccepted}
use Rattle.ipa_ground.specs.Enumeration.{numbers}
use Rattle.ipa_pairs.specs.Analyses.{IsAnalysis}
use Rattle.ipa_pairs.specs.declared.analysis.Analysis.{Analysis}
use Rattle.ipa_repair.specs.Chosen.{AreThose}
use Rattle.ipa_repair.specs.Applying.{applied}
use Rattle.ipa_repair.specs.Candidates.{Clashes, candidates_of}
use Rattle.ipa_repair.specs.Offers.{AreOffers, IsClearing, ClearsAsTwo, alone, twos}
use Rattle.ipa_repair.specs.Greedy.{pair, pairs_of, PairConflicts, Lessens, LessensNothing, TakesOffer, IsStep, Leads, IsAtEnd, IsRepaired}
use Rattle.ipa_repair.specs.declared.candidates.Offer.{Offer}
use Rattle.ipa_repair.specs.declared.pairs.Pair.{Pair}
use Rattle.ipa_repair.specs.declared.steps.RepairStep.{RepairStep}
use Rattle.ipa_repair.specs.declared.steps.Repaired.{Repaired}
use Rattle.ipa_repair.specs.declared.steps.Repaired.TheVariants.{Done, Stuck}
use Rattle.ipa_repair.proofs.ChosenLemmas.{AreThose-same, AreThose-none}
use Rattle.ipa_repair.proofs.GreedyLemmas.{offers-faultless}
use Rattle.ipa_repair.proofs.ShownLemmas.{All-at}

-- a pair has one list of offers
pub one_offers : (s : Specification) (left right : Action) (one other : List Offer) → AreOffers s left right one → AreOffers s left right other → one ≡ other
one_offers s left right one other a b =
    let reported = AreThose-same (Clashes s left right) (numbers (length s.clauses)) a.reported b.reported a.are_reported b.are_reported in
    let ones =
    AreThose-same (IsClearing s left right) (alone (candidates_of s left right a.reported)) a.of.ones b.of.ones a.of.are_ones
    (subst (λ ks. AreThose (IsClearing s left right) (alone (candidates_of s left right ks)) b.of.ones) (sym reported) b.of.are_ones) in
    let pairs =
    AreThose-same (ClearsAsTwo s left right) (twos (candidates_of s left right a.reported)) a.of.pairs b.of.pairs a.of.are_pairs
    (subst (λ ks. AreThose (ClearsAsTwo s left right) (twos (candidates_of s left right ks)) b.of.pairs) (sym reported) b.of.are_pairs) in
    a.of.in_order ∙ ((λ i. ones i ++ pairs i) ∙ sym b.of.in_order)

-- of two first places neither is before the other
same_place : (m n : ℕ) → (m < n → ⊥) → (n < m → ⊥) → m ≡ n
same_place m n h k = elim (cases_lt m n) [
  | inl before ↦ absurd (h before)
  | inr not_before ↦ elim (cases_lt n m) [ inl after ↦ absurd (k after) | inr not_after ↦ omega arith ]
]

-- where no offer of a pair lessens the count, no step applies one
no_step : (s next : Specification) (step : RepairStep) → TakesOffer s step next → LessensNothing s (pair step.left step.right) → ⊥
no_step s next step takes nothing =
    let same = one_offers s step.left step.right step.offers nothing.offers takes.are nothing.are in
    All-at (λ (o : Offer). Lessens s o.parts → ⊥) nothing.offers nothing.none takes.earlier takes.offer
    (subst (λ (xs : List Offer). slice_get xs takes.earlier ≡ Some takes.offer) same takes.there) takes.lessens

-- of one pair at most one step
same_step : (s next beside : Specification) (one other : RepairStep) → one.left ≡ other.left → one.right ≡ other.right →
    TakesOffer s one next → TakesOffer s other beside → (one ≡ other) × (next ≡ beside)
same_step s next beside one other left right a b =
    let moved : AreOffers s one.left one.right other.offers =
    subst (λ x. AreOffers s x one.right other.offers) (sym left) (subst (λ x. AreOffers s other.left x other.offers) (sym right) b.are) in
    let offers = one_offers s one.left one.right one.offers other.offers a.are moved in
    let there : slice_get other.offers a.earlier ≡ Some a.offer = subst (λ (xs : List Offer). slice_get xs a.earlier ≡ Some a.offer) offers a.there in
    let back : slice_get one.offers b.earlier ≡ Some b.offer = subst (λ (xs : List Offer). slice_get xs b.earlier ≡ Some b.offer) (sym offers) b.there in
    let place : a.earlier ≡ b.earlier =
    same_place a.earlier b.earlier (λ l. b.first a.earlier a.offer l there a.lessens) (λ l. a.first b.earlier b.offer l back b.lessens) in
    let offer : a.offer ≡ b.offer =
    same_Some _ _ (sym there ∙ (ap (λ (k : ℕ). slice_get other.offers k) place ∙ b.there)) in
    let applied_is : one.applied ≡ other.applied = a.counted ∙ (ap suc place ∙ sym b.counted) in (
      λ i. record { left = left i; right = right i; offers = offers i; applied = applied_is i },
      a.leads ∙ (ap (λ (o : Offer). applied s o.parts) offer ∙ sym b.leads),
    )

-- a specification has at most one next step
pub one_step : (s next beside : Specification) (one other : RepairStep) → IsStep s one next → IsStep s other beside → (one ≡ other) × (next ≡ beside)
one_step s next beside one other a b =
    let conflicting = AreThose-same (PairConflicts s) (pairs_of s) a.conflicting b.conflicting a.are b.are in
    let there = subst (λ (xs : List Pair). slice_get xs a.earlier ≡ Some (pair one.left one.right)) conflicting a.there in
    let back = subst (λ (xs : List Pair). slice_get xs b.earlier ≡ Some (pair other.left other.right)) (sym conflicting) b.there in
    let place : a.earlier ≡ b.earlier =
    same_place a.earlier b.earlier (λ l. no_step s next one a.takes (b.first a.earlier (pair one.left one.right) l there))
    (λ l. no_step s beside other b.takes (a.first b.earlier (pair other.left other.right) l back)) in
    let same : pair one.left one.right ≡ pair other.left other.right =
    same_Some _ _ (sym there ∙ (ap (λ (k : ℕ). slice_get b.conflicting k) place ∙ b.there)) in
    same_step s next beside one other (ap (λ (p : Pair). p.left) same) (ap (λ (p : Pair). p.right) same) a.takes b.takes

-- a specification at which the repair ends has no next step
no_next : (s next : Specification) (step : RepairStep) → IsAtEnd s → IsStep s step next → ⊥
no_next s next step ended is =
    let conflicting = AreThose-same (PairConflicts s) (pairs_of s) is.conflicting ended.conflicting is.are ended.are in
    let there = subst (λ (xs : List Pair). slice_get xs is.earlier ≡ Some (pair step.left step.right)) conflicting is.there in
    no_step s next step is.takes (All-at (LessensNothing s) ended.conflicting ended.none is.earlier (pair step.left step.right) there)

-- at an accepted specification the repair ends: no pair of it conflicts
end_accepted : (s : Specification) → IsAccepted s → IsAtEnd s
end_accepted s a = record {
  conflicting = [];
  are = AreThose-none (PairConflicts s) (pairs_of s)
      (λ p h. elim h.clashes as (λ _. ⊥) [
        | inl forth ↦ a.apart p.left p.right h.clause forth
        | inr back ↦ a.apart p.right p.left h.clause back
      ]);
  none = All-nil (LessensNothing s);
}

-- a step leads to a fit specification
fit_next : (s next : Specification) (step : RepairStep) → IsStep s step next → IsFit next
fit_next s next step is =
    IsFit-from_faultless next
    (subst IsFaultless (sym is.takes.leads)
    (All-at (λ (o : Offer). IsFaultless (applied s o.parts)) step.offers (offers-faultless s step.left step.right step.offers is.takes.are)
    is.takes.earlier is.takes.offer is.takes.there))

-- the steps keep a specification fit
fit_after : (steps : List RepairStep) (s end : Specification) → IsFit s → Leads steps end s → IsFit end
unfolding Leads
fit_after [] s end fit h = subst IsFit h fit
fit_after (step ∷ steps) s end fit h = fit_after steps h.next end (fit_next s h.next step h.step_is) h.onwards

-- there is one list of steps to an end, and one end
one_way : (one other : List RepairStep) (s end beside : Specification) → IsAtEnd end → IsAtEnd beside →
    Leads one end s → Leads other beside s → (one ≡ other) × (end ≡ beside)
unfolding Leads
one_way [] [] s end beside a b h k = (refl, sym h ∙ k)
one_way [] (x ∷ other) s end beside a b h k = absurd (no_next s k.next x (subst IsAtEnd (sym h) a) k.step_is)
one_way (x ∷ one) [] s end beside a b h k = absurd (no_next s h.next x (subst IsAtEnd (sym k) b) h.step_is)
one_way (x ∷ one) (y ∷ other) s end beside a b h k =
    let first = one_step s h.next k.next x y h.step_is k.step_is in
    let moved = subst (λ z. Leads other beside z) (sym first.1) k.onwards in
    let rest = one_way one other h.next end beside a b h.onwards moved in
    (λ i. first.0 i ∷ rest.0 i, rest.1)

-- there is at most one analysis of a fit specification
abbrev pub OneAnalysis : Type 0
OneAnalysis = (s : Specification) (one other : Analysis) → IsFit s → IsAnalysis s one → IsAnalysis s other → one ≡ other

-- there is one greedy repair
pub one_repaired : OneAnalysis → (s : Specification) (one other : Repaired) → IsFit s → IsRepaired s one → IsRepaired s other → one ≡ other
one_repaired law s (Done a steps) (Done b others) fit h k =
    let way = one_way steps others s a b (end_accepted a h.is_accepted) (end_accepted b k.is_accepted) h.reached.leads k.reached.leads in
    λ i. Done (way.1 i) (way.0 i)
one_repaired law s (Done a steps) (Stuck b others analysis) fit h k =
    let way = one_way steps others s a b (end_accepted a h.is_accepted) k.at_end h.reached.leads k.reached.leads in
    absurd (k.rejected.not_accepted (subst IsAccepted way.1 h.is_accepted))
one_repaired law s (Stuck a steps analysis) (Done b others) fit h k =
    let way = one_way steps others s a b h.at_end (end_accepted b k.is_accepted) h.reached.leads k.reached.leads in
    absurd (h.rejected.not_accepted (subst IsAccepted (sym way.1) k.is_accepted))
one_repaired law s (Stuck a steps analysis) (Stuck b others other) fit h k =
    let way = one_way steps others s a b h.at_end k.at_end h.reached.leads k.reached.leads in
    let moved = subst (λ x. IsAnalysis x other) (sym way.1) k.rejected.analysis in
    let same = law a analysis other (fit_after steps s a fit h.reached.leads) h.rejected.analysis moved in
    λ i. Stuck (way.1 i) (way.0 i) (same i)
