-- Offers: the candidates, and the sets of two, that clear a pair of actions.
--
--   IsApartBothWays s left right   left and right are apart, and right and left are
--   Clears s left right parts  the candidates fit together, and afterwards the pair is apart in both orders
--   alone cs                   each candidate as an offer of one
--   twos cs                    the sets of two candidates, in lexicographic order of their places
--   ClearsAsTwo                a set of two clears the pair, and neither member does alone
--   AreOffersOf cs             the offers among some candidates
--   AreOffers s left right os  the offers of the pair
use Rattle.std.specs.Prelude.{◌≡◌, ℕ, nat_lt, List, [], ◌∷◌, ◌++◌, length, map, slice_get, if◌then◌else◌}
use Rattle.std.specs.List.{All, flat_map}
use Rattle.std.specs.Option.{option_map_or}
use Rattle.ipa_spec.specs.Limits.{IsFaultless}
use Rattle.ipa_spec.specs.declared.specification.Specification.{Specification}
use Rattle.ipa_spec.specs.declared.operations.Action.{Action}
use Rattle.ipa_ground.specs.Enumeration.{numbers}
use Rattle.ipa_pairs.specs.Analyses.{IsApart}
use Rattle.ipa_repair.specs.Chosen.{AreThose}
use Rattle.ipa_repair.specs.Applying.{applied}
use Rattle.ipa_repair.specs.Candidates.{AreReportedClauses, candidates_of}
use Rattle.ipa_repair.specs.declared.candidates.Candidate.{Candidate}
use Rattle.ipa_repair.specs.declared.candidates.Offer.{Offer}

-- left and right are apart, and right and left are: they conflict on no clause, and no live triple of them is too wide
pub record IsApartBothWays (s : Specification) (left right : Action) : Type 0 where
  pub forth : IsApart s left right
  pub back : IsApart s right left

-- the candidates can be applied together, so that no fault arises and each operation has room, and afterwards neither
-- order of the two actions conflicts on any clause or has a live triple that is too wide
pub record Clears (s : Specification) (left right : Action) (parts : List Candidate) : Type 0 where
  pub faultless : IsFaultless (applied s parts)
  pub apart : IsApartBothWays (applied s parts) left right

-- the offer of these parts
abbrev pub offer_of : List Candidate → Offer
offer_of parts = record { parts = parts }

-- each candidate as an offer of one
abbrev pub alone : List Candidate → List Offer
alone cs = map (λ c. offer_of (c ∷ [])) cs

-- the set of a candidate and the one in a place
abbrev pub two_with : List Candidate → ℕ → Candidate → List Offer
two_with cs k c = option_map_or (λ d. offer_of (c ∷ d ∷ []) ∷ []) (slice_get cs k) []

-- the set of the candidates in two places, where the one comes before the other
abbrev pub two_at : List Candidate → ℕ → ℕ → List Offer
two_at cs j k = if nat_lt j k then option_map_or (two_with cs k) (slice_get cs j) [] else []

-- the sets of the candidate in a place and each later one, in order
abbrev pub twos_from : List Candidate → ℕ → List Offer
twos_from cs j = flat_map (two_at cs j) (numbers (length cs))

-- the sets of two candidates, in lexicographic order of their places
abbrev pub twos : List Candidate → List Offer
twos cs = flat_map (twos_from cs) (numbers (length cs))

-- the offer clears the pair
abbrev pub IsClearing : Specification → Action → Action → Offer → Type 0
IsClearing s left right o = Clears s left right o.parts

-- the set clears the pair, and none of its members clears it alone
pub record ClearsAsTwo (s : Specification) (left right : Action) (o : Offer) : Type 0 where
  pub together : IsClearing s left right o
  pub neither : All (λ c. Clears s left right (c ∷ []) → ⊥) o.parts

-- of these candidates those that clear the pair alone, in order, and then the sets of two that clear it and of which
-- neither member does alone, in order
pub record AreOffersOf (s : Specification) (left right : Action) (cs : List Candidate) (offers : List Offer) : Type 0 where
  pub ones : List Offer
  pub are_ones : AreThose (IsClearing s left right) (alone cs) ones
  pub pairs : List Offer
  pub are_pairs : AreThose (ClearsAsTwo s left right) (twos cs) pairs
  pub in_order : offers ≡ ones ++ pairs

-- the offers of the pair: those of the candidates for its reported clauses
pub record AreOffers (s : Specification) (left right : Action) (offers : List Offer) : Type 0 where
  pub reported : List ℕ
  pub are_reported : AreReportedClauses s left right reported
  pub of : AreOffersOf s left right (candidates_of s left right reported) offers
