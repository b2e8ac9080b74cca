-- The laws of cuts, each stated once. The functions of src/laws.rt carry them, and specs/Lemmas.antt proves them.
--     HasAllOrigins cut               the cut has a count for each of the 16 origins, as each cut of the program has
--     IsLeastAbove left right cut     the cut is above both, and below each cut that is above both
--     BelowIsReflexive, BelowIsTransitive, BelowIsAntisymmetric      below is a partial order
--     EmptyIsBelow             the empty cut is below each cut
--     JoinedIsLeast            the joined cut is the least that both are below
--     JoinedIsCommutative, JoinedIsAssociative, JoinedIsIdempotent   in what order cuts are joined makes no difference
--     CoveredIsCovers          the test of what a cut covers passes just on that
--     CoversFollowsBelow       what a cut covers, each cut above it covers
--     CoversOfJoined           the joined cut covers what one of the two covers
--     CoversOfRaised           the raised cut covers one transaction more
use Rattle.std.specs.Prelude.{◌≡◌, true, ◌<◌, ◌+◌, ◌⊎◌, ◌↔◌, length}
use Rattle.ipa_clock.specs.declared.dot.Dot.{Dot}
use Rattle.ipa_clock.specs.declared.cut.Cut.{Cut}
use Rattle.ipa_clock.specs.Cut.{count_of, Covers, is_covered, IsBelow, joined, raised, empty}

-- the cut has a count for each of the 16 origins
abbrev pub HasAllOrigins : Cut → Type 0
HasAllOrigins cut = length cut.counts ≡ 16

-- each cut is below itself
abbrev pub BelowIsReflexive : Type 0
BelowIsReflexive = (cut : Cut) → IsBelow cut cut

-- what is below a cut is below each cut above that
abbrev pub BelowIsTransitive : Type 0
BelowIsTransitive = (low middle high : Cut) → IsBelow low middle → IsBelow middle high → IsBelow low high

-- cuts that are below each other are one
abbrev pub BelowIsAntisymmetric : Type 0
BelowIsAntisymmetric = (left right : Cut) → HasAllOrigins left → HasAllOrigins right → IsBelow left right → IsBelow right left → left ≡ right

-- the empty cut is below each cut
abbrev pub EmptyIsBelow : Type 0
EmptyIsBelow = (cut : Cut) → IsBelow empty cut

-- the joined cut is above both, and below each cut that is above both
pub record IsLeastAbove (left right cut : Cut) : Type 0 where
  pub left_below : IsBelow left cut
  pub right_below : IsBelow right cut
  pub least : (other : Cut) → IsBelow left other → IsBelow right other → IsBelow cut other

-- the joined cut is the least that both are below
abbrev pub JoinedIsLeast : Type 0
JoinedIsLeast = (left right : Cut) → IsLeastAbove left right (joined left right)

-- which of two cuts is joined to the other makes no difference
abbrev pub JoinedIsCommutative : Type 0
JoinedIsCommutative = (left right : Cut) → joined left right ≡ joined right left

-- which two of three cuts are joined first makes no difference
abbrev pub JoinedIsAssociative : Type 0
JoinedIsAssociative = (first second third : Cut) → joined (joined first second) third ≡ joined first (joined second third)

-- a cut joined to itself stays as it is
abbrev pub JoinedIsIdempotent : Type 0
JoinedIsIdempotent = (only : Cut) → joined only only ≡ only

-- the test of what a cut covers passes just on that
abbrev pub CoveredIsCovers : Type 0
CoveredIsCovers = (cut : Cut) (dot : Dot) → (is_covered cut dot ≡ true) ↔ Covers cut dot

-- what a cut covers, each cut above it covers
abbrev pub CoversFollowsBelow : Type 0
CoversFollowsBelow = (low high : Cut) (dot : Dot) → IsBelow low high → Covers low dot → Covers high dot

-- the joined cut covers what one of the two covers, and nothing else
abbrev pub CoversOfJoined : Type 0
CoversOfJoined = (left right : Cut) (dot : Dot) → Covers (joined left right) dot ↔ (Covers left dot ⊎ Covers right dot)

-- a cut raised by the next transaction of an origin covers that one too, and nothing else
abbrev pub CoversOfRaised : Type 0
CoversOfRaised = (cut : Cut) (dot other : Dot) → dot.origin < length cut.counts → dot.number ≡ count_of cut dot.origin + 1 →
    Covers (raised cut dot) other ↔ (Covers cut other ⊎ (other ≡ dot))
