-- What applying candidates keeps, and when a set of them clears a pair.
--
--   length-with_effect         there are as many operations as before
--   count-applied              and as many bounds
--   action-kept                an action stays declared
--   unclear-faulty, clear_by   whether the set clears the pair
--   apart_at, not_apart, apart_itself, apart_both   whether two actions are apart both ways
--   one_taken, one_passed      a candidate that clears the pair alone, and one that does not
--   two_passed-alone, two_passed, two_taken   two of which one clears it alone, that do not, and that do
--   two_at-none, two_at-some   the sets of two in two places
--   two_gained                 the set of two in two places is gained
--   tried_more                 one more that was tried
--   no_pair                    of two places the first is not after the second
use Rattle.std.proofs.Common.{◌≡◌, ℕ, ◌<◌, Bool, true, false, List, [], ◌∷◌, ◌++◌, ◌||◌, ◌≤◌, ◌+◌, cond, leb, take, length, set, get_or, Option, Some, None, MatchBool, refl, sym, ap, ◌∙◌, subst, arith}
use Rattle.std.specs.List.{slice_get}
use Rattle.std.specs.Option.{option_map, option_map_or}
use Rattle.std.proofs.lemmas.Bool.{MatchBool-at_true, MatchBool-at_false, false≢true, or_parts, lt-ltb, le-ltb, leb-true}
use Rattle.std.proofs.lemmas.Option.{slice_get-map}
use Rattle.std.proofs.lemmas.List.{length-set, get_or_default, take_more, map_push}
use Rattle.std.proofs.lemmas.List.Elements.{All-nil, All-cons, All-head, All-tail}
use Rattle.ipa_spec.specs.Actions.{IsAction}
use Rattle.ipa_spec.specs.Limits.{IsFaultless}
use Rattle.ipa_spec.specs.declared.specification.Specification.{Specification}
use Rattle.ipa_spec.specs.declared.operations.Effect.{Effect}
use Rattle.ipa_spec.specs.declared.operations.Operation.{Operation}
use Rattle.ipa_spec.specs.declared.operations.Action.{Action}
use Rattle.ipa_spec.specs.declared.operations.Action.TheVariants.{Op, Drop}
use Rattle.ipa_repair.specs.Applying.{applied, applied_one, with_effect}
use Rattle.ipa_repair.specs.Chosen.{Gains}
use Rattle.ipa_pairs.specs.Analyses.{IsApart}
use Rattle.ipa_repair.specs.Candidates.{same_action}
use Rattle.ipa_repair.specs.Offers.{IsApartBothWays, Clears, IsClearing, ClearsAsTwo, offer_of, two_with, two_at}
use Rattle.ipa_repair.specs.Trying.{IsTold, tried_of}
use Rattle.ipa_repair.specs.Greedy.{pair, pair_if, action_at}
use Rattle.ipa_repair.specs.declared.candidates.Candidate.{Candidate}
use Rattle.ipa_repair.specs.declared.candidates.Candidate.TheVariants.{Adds, Flips}
use Rattle.ipa_repair.specs.declared.candidates.Offer.{Offer}
use Rattle.ipa_repair.specs.declared.trying.Tried.{Tried}
use Rattle.ipa_repair.proofs.ChosenLemmas.{gains-taken, gains-passed}
use Rattle.ipa_repair.proofs.GreedyLemmas.{get_at}
use Rattle.ipa_repair.proofs.ShownLemmas.{same_action-true}

length-with_effect : (os : List Operation) (n : ℕ) (e : Effect) → length (with_effect os n e) ≡ length os
length-with_effect os n e = at (slice_get os n)
  where
    at : (found : Option Operation) →
        length (option_map_or (λ o. set os n (record o { effects = o.effects ++ e ∷ [] })) found os) ≡ length os
    at None = refl
    at (Some o) = length-set os n (record o { effects = o.effects ++ e ∷ [] })

operations-one : (s : Specification) (c : Candidate) → length (applied_one s c).operations ≡ length s.operations
operations-one s (Adds n e) = length-with_effect s.operations n e
operations-one s (Flips n) = refl

bounds-one : (s : Specification) (c : Candidate) → length (applied_one s c).bounds ≡ length s.bounds
bounds-one s (Adds n e) = refl
bounds-one s (Flips n) = refl

operations-applied : (s : Specification) (parts : List Candidate) → length (applied s parts).operations ≡ length s.operations
operations-applied s [] = refl
operations-applied s (c ∷ parts) = operations-applied (applied_one s c) parts ∙ operations-one s c

bounds-applied : (s : Specification) (parts : List Candidate) → length (applied s parts).bounds ≡ length s.bounds
bounds-applied s [] = refl
bounds-applied s (c ∷ parts) = bounds-applied (applied_one s c) parts ∙ bounds-one s c

-- an action stays declared
pub action-kept : (s next : Specification) (parts : List Candidate) (action : Action) → next ≡ applied s parts →
    IsAction s action → IsAction next action
action-kept s next parts (Op n) e h = subst (λ m. n < m) (sym (ap (λ (x : Specification). length x.operations) e ∙ operations-applied s parts)) h
action-kept s next parts (Drop n) e h = subst (λ m. n < m) (sym (ap (λ (x : Specification). length x.bounds) e ∙ bounds-applied s parts)) h

module _ (s : Specification) (left right : Action) (parts : List Candidate) where
  -- the candidates do not fit together
  pub unclear-faulty : (IsFaultless (applied s parts) → ⊥) → Clears s left right parts → ⊥
  unclear-faulty none h = none h.faultless

  -- they do, and it is told whether the pair is apart both ways afterwards
  pub clear_by : (next : Specification) (b : Bool) → next ≡ applied s parts → IsFaultless (applied s parts) →
      MatchBool b (IsApartBothWays next left right) (IsApartBothWays next left right → ⊥) →
      MatchBool b (Clears s left right parts) (Clears s left right parts → ⊥)
  clear_by next true e f h = record { faultless = f; apart = subst (λ x. IsApartBothWays x left right) e h }
  clear_by next false e f none = λ h. none (subst (λ x. IsApartBothWays x left right) (sym e) h.apart)

-- two actions are apart one way, or not both ways, as it is told of a specification that is this one
pub apart_at : (s found : Specification) (left right : Action) (b : Bool) → found ≡ s → b ≡ true →
    MatchBool b (IsApart found left right) (IsApart found left right → ⊥) → IsApart s left right
apart_at s found left right b is t h =
    subst (λ x. IsApart x left right) is (MatchBool-at_true (IsApart found left right) (IsApart found left right → ⊥) t h)

pub not_apart : (s found : Specification) (left right : Action) (b : Bool) → found ≡ s → b ≡ false →
    MatchBool b (IsApart found left right) (IsApart found left right → ⊥) → IsApartBothWays s left right → ⊥
not_apart s found left right b is t h both =
    MatchBool-at_false (IsApart found left right) (IsApart found left right → ⊥) t h (subst (λ x. IsApart x left right) (sym is) both.forth)

-- an action and itself are apart both ways where they are one way
pub apart_itself : (s : Specification) (left right : Action) → same_action left right ≡ true → IsApart s left right → IsApartBothWays s left right
apart_itself s left right e h =
    let same = same_action-true left right e in
    record { forth = h; back = subst (λ x. IsApart s right x) (sym same) (subst (λ x. IsApart s x right) same h) }

-- whether they are the other way tells it of both
pub apart_both : (s : Specification) (left right : Action) (b : Bool) → IsApart s left right → MatchBool b (IsApart s right left) (IsApart s right left → ⊥) →
    MatchBool b (IsApartBothWays s left right) (IsApartBothWays s left right → ⊥)
apart_both s left right true h back = record { forth = h; back = back }
apart_both s left right false h none = λ both. none both.back

module _ (s : Specification) (left right : Action) where
  -- the candidate clears the pair alone, or it does not
  pub one_taken : (c : Candidate) (parts slice : List Candidate) (b : Bool) (old new : List Offer) → slice ≡ parts → parts ≡ c ∷ [] → b ≡ true →
      MatchBool b (Clears s left right slice) (Clears s left right slice → ⊥) → new ≡ old ++ offer_of parts ∷ [] →
      Gains (IsClearing s left right) (offer_of (c ∷ []) ∷ []) old new
  one_taken c parts slice b old new f e t h grown =
      gains-taken (IsClearing s left right) (offer_of (c ∷ [])) old new
      (subst (λ p. Clears s left right p) (f ∙ e) (MatchBool-at_true (Clears s left right slice) (Clears s left right slice → ⊥) t h))
      (grown ∙ ap (λ p. old ++ offer_of p ∷ []) e)

  pub one_passed : (c : Candidate) (parts slice : List Candidate) (b : Bool) (old : List Offer) → slice ≡ parts → parts ≡ c ∷ [] → b ≡ false →
      MatchBool b (Clears s left right slice) (Clears s left right slice → ⊥) →
      Gains (IsClearing s left right) (offer_of (c ∷ []) ∷ []) old old
  one_passed c parts slice b old f e t h =
      gains-passed (IsClearing s left right) (offer_of (c ∷ [])) old
      (λ k. MatchBool-at_false (Clears s left right slice) (Clears s left right slice → ⊥) t h (subst (λ p. Clears s left right p) (sym (f ∙ e)) k))

  module _ (a b : Tried) (told_a : IsTold s left right a) (told_b : IsTold s left right b) where
    -- one of the two clears the pair alone
    pub two_passed-alone : (old : List Offer) → (a.clears || b.clears) ≡ true →
        Gains (ClearsAsTwo s left right) (offer_of (a.candidate ∷ b.candidate ∷ []) ∷ []) old old
    two_passed-alone old some = gains-passed (ClearsAsTwo s left right) (offer_of (a.candidate ∷ b.candidate ∷ [])) old (λ two. step a.clears b.clears refl refl some two)
      where
        step : (x y : Bool) → a.clears ≡ x → b.clears ≡ y → (x || y) ≡ true → ClearsAsTwo s left right (offer_of (a.candidate ∷ b.candidate ∷ [])) → ⊥
        step true y e f h two =
            All-head (λ x. Clears s left right (x ∷ []) → ⊥) a.candidate (b.candidate ∷ []) two.neither
            (MatchBool-at_true (Clears s left right (a.candidate ∷ [])) (Clears s left right (a.candidate ∷ []) → ⊥) e told_a.told)
        step false true e f h two =
            All-head (λ x. Clears s left right (x ∷ []) → ⊥) b.candidate []
            (All-tail (λ x. Clears s left right (x ∷ []) → ⊥) a.candidate (b.candidate ∷ []) two.neither)
            (MatchBool-at_true (Clears s left right (b.candidate ∷ [])) (Clears s left right (b.candidate ∷ []) → ⊥) f told_b.told)
        step false false e f h two = false≢true h

    -- the two do not clear it together
    pub two_passed : (parts slice : List Candidate) (x : Bool) (old : List Offer) → slice ≡ parts → parts ≡ a.candidate ∷ b.candidate ∷ [] → x ≡ false →
        MatchBool x (Clears s left right slice) (Clears s left right slice → ⊥) →
        Gains (ClearsAsTwo s left right) (offer_of (a.candidate ∷ b.candidate ∷ []) ∷ []) old old
    two_passed parts slice x old f e t h =
        gains-passed (ClearsAsTwo s left right) (offer_of (a.candidate ∷ b.candidate ∷ [])) old
        (λ two. MatchBool-at_false (Clears s left right slice) (Clears s left right slice → ⊥) t h (subst (λ p. Clears s left right p) (sym (f ∙ e)) two.together))

    -- they do, and neither alone
    pub two_taken : (parts slice : List Candidate) (x : Bool) (old new : List Offer) → slice ≡ parts → parts ≡ a.candidate ∷ b.candidate ∷ [] → x ≡ true →
        MatchBool x (Clears s left right slice) (Clears s left right slice → ⊥) → (a.clears || b.clears) ≡ false → new ≡ old ++ offer_of parts ∷ [] →
        Gains (ClearsAsTwo s left right) (offer_of (a.candidate ∷ b.candidate ∷ []) ∷ []) old new
    two_taken parts slice x old new f e t h none grown =
        let both = or_parts a.clears b.clears none in
        let Not : Candidate → Type 0 = λ c. Clears s left right (c ∷ []) → ⊥ in
        gains-taken (ClearsAsTwo s left right) (offer_of (a.candidate ∷ b.candidate ∷ [])) old new
        (record {
          together = subst (λ p. Clears s left right p) (f ∙ e) (MatchBool-at_true (Clears s left right slice) (Clears s left right slice → ⊥) t h);
          neither = All-cons Not a.candidate (b.candidate ∷ [])
              (MatchBool-at_false (Clears s left right (a.candidate ∷ [])) (Clears s left right (a.candidate ∷ []) → ⊥) both.0 told_a.told)
              (All-cons Not b.candidate []
              (MatchBool-at_false (Clears s left right (b.candidate ∷ [])) (Clears s left right (b.candidate ∷ []) → ⊥) both.1 told_b.told)
              (All-nil Not));
        })
        (grown ∙ ap (λ p. old ++ offer_of p ∷ []) e)

-- the sets of two in two places
pub two_at-none : (cs : List Candidate) (j k : ℕ) → k ≤ j → two_at cs j k ≡ []
two_at-none cs j k l = ap (λ b. cond b (option_map_or (two_with cs k) (slice_get cs j) []) []) (le-ltb j k l)

pub two_at-some : (ts : List Tried) (j k : ℕ) (a b : Tried) → j < k → k < length ts → a ≡ get_or ts j a → b ≡ get_or ts k b →
    two_at (tried_of ts) j k ≡ offer_of (a.candidate ∷ b.candidate ∷ []) ∷ []
two_at-some ts j k a b l m e f =
    let first : slice_get (tried_of ts) j ≡ Some a.candidate =
    slice_get-map (λ t. t.candidate) ts j ∙ ap (option_map (λ (t : Tried). t.candidate)) (get_at ts j a (omega arith) ∙ ap (λ t. Some t) (sym e)) in
    let second : slice_get (tried_of ts) k ≡ Some b.candidate =
    slice_get-map (λ t. t.candidate) ts k ∙ ap (option_map (λ (t : Tried). t.candidate)) (get_at ts k b m ∙ ap (λ t. Some t) (sym f)) in
    ap (λ x. cond x (option_map_or (two_with (tried_of ts) k) (slice_get (tried_of ts) j) []) []) (lt-ltb j k l)
    ∙ (ap (λ x. option_map_or (two_with (tried_of ts) k) x []) first
    ∙ ap (λ x. option_map_or (λ d. offer_of (a.candidate ∷ d ∷ []) ∷ []) x []) second)

-- the set of two in two places is gained
pub two_gained : (s : Specification) (left right : Action) (ts : List Tried) (j k : ℕ) (d e : Tried) (old new : List Offer) → j < k → k < length ts →
    Gains (ClearsAsTwo s left right) (offer_of ((get_or ts j d).candidate ∷ (get_or ts k e).candidate ∷ []) ∷ []) old new →
    Gains (ClearsAsTwo s left right) (two_at (tried_of ts) j k) old new
two_gained s left right ts j k d e old new l m h =
    let a = get_or ts j d in
    let b = get_or ts k e in
    let first : a ≡ get_or ts j a = get_or_default ts j d a (omega arith) in
    let second : b ≡ get_or ts k b = get_or_default ts k e b m in
    subst (λ (xs : List Offer). Gains (ClearsAsTwo s left right) xs old new) (sym (two_at-some ts j k a b l m first second)) h

-- one more that was tried
pub tried_more : (ts next : List Tried) (t : Tried) (cs : List Candidate) (i : ℕ) (d : Candidate) → i < length cs → next ≡ ts ++ t ∷ [] →
    tried_of ts ≡ take i cs → t.candidate ≡ get_or cs i d → tried_of next ≡ take (i + 1) cs
tried_more ts next t cs i d l e h f =
    ap (λ (xs : List Tried). tried_of xs) e
    ∙ (map_push (λ (x : Tried). x.candidate) ts t ∙ ((λ j. h j ++ f j ∷ []) ∙ sym (take_more cs i d l)))

-- of two places the first is not after the second
pub no_pair : (s : Specification) (i j : ℕ) → j < i → pair_if s i j ≡ []
no_pair s i j l = at (leb i j) refl
  where
    at : (b : Bool) → leb i j ≡ b → cond b (pair (action_at s i) (action_at s j) ∷ []) [] ≡ []
    at true e = let le = leb-true i j e in absurd (omega arith)
    at false e = refl
