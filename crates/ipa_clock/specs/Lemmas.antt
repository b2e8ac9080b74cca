-- Lemmas on cuts, and the proofs of their laws, for proofs in the crates above too.
--     below_refl, below_trans, below_antisym, empty_below
--     joined_least, joined_comm, joined_assoc, joined_same
--     covered_covers, covers_above, covers_joined, covers_raised
--     slice_index-greater_counts, length-greater_counts      the greater counts, place by place
--     count_of-joined                                        the counts of a joined cut
--     count_of-raised_same, count_of-raised_other            the counts of a raised cut
use Rattle.std.specs.Prelude.{◌≡◌, ◌≢◌, ◌<◌, ℕ, List, [], ◌∷◌, max, length, slice_index, refl}
use Rattle.std.proofs.Common.{suc, zero, ◌∙◌, ap, arith, inl, inr}
use Rattle.std.proofs.lemmas.Grind.{same_number_lists, elements}
use Rattle.std.proofs.lemmas.List.{get_or-set_same, get_or-set_other}
use Rattle.std.proofs.lemmas.Bool.{cases_lt, cases_eq, leb-true, le-leb}
use Rattle.ipa_clock.specs.declared.dot.Dot.{Dot}
use Rattle.ipa_clock.specs.declared.cut.Cut.{Cut}
use Rattle.ipa_clock.specs.Cut.{count_of, greater_counts, joined, raised, empty}
use Rattle.ipa_clock.specs.Laws.{BelowIsReflexive, BelowIsTransitive, BelowIsAntisymmetric, EmptyIsBelow, CoveredIsCovers, JoinedIsLeast, JoinedIsCommutative, JoinedIsAssociative, JoinedIsIdempotent, CoversFollowsBelow, CoversOfJoined, CoversOfRaised}

-- the cut with these counts
abbrev cut_of : List ℕ → Cut
cut_of counts = record { counts = counts }

pub below_refl : BelowIsReflexive
below_refl cut = record { counts = λ origin. omega arith }

pub below_trans : BelowIsTransitive
below_trans low middle high first second = record {
  counts = λ origin. omega (arith, first.counts origin, second.counts origin);
}

pub below_antisym : BelowIsAntisymmetric
below_antisym left right sized_left sized_right below above =
    ap cut_of (same_number_lists left.counts right.counts (omega arith)
    (λ origin small. omega (arith, below.counts origin, above.counts origin)))

pub empty_below : EmptyIsBelow
empty_below cut = record {
  counts = λ origin. let none : count_of empty origin ≡ 0 = grind (arith, elements) in omega (arith, none);
}

-- the greater counts, place by place
pub slice_index-greater_counts : (mine theirs : List ℕ) (place : ℕ) →
    slice_index (greater_counts mine theirs) place
    ≡ max (slice_index mine place) (slice_index theirs place)
slice_index-greater_counts [] theirs place = omega arith
slice_index-greater_counts (m ∷ ms) [] place = omega arith
slice_index-greater_counts (m ∷ ms) (t ∷ ts) zero = refl
slice_index-greater_counts (m ∷ ms) (t ∷ ts) (suc place) = slice_index-greater_counts ms ts place

pub length-greater_counts : (mine theirs : List ℕ) →
    length (greater_counts mine theirs) ≡ max (length mine) (length theirs)
length-greater_counts [] theirs = omega arith
length-greater_counts (m ∷ ms) [] = omega arith
length-greater_counts (m ∷ ms) (t ∷ ts) = omega (arith, length-greater_counts ms ts)

-- the joined cut's counts
pub count_of-joined : (left right : Cut) (origin : ℕ) →
    count_of (joined left right) origin ≡ max (count_of left origin) (count_of right origin)
count_of-joined left right origin = slice_index-greater_counts left.counts right.counts origin

pub joined_least : JoinedIsLeast
joined_least left right = record {
  left_below = record { counts = λ origin. omega (arith, count_of-joined left right origin) };
  right_below = record { counts = λ origin. omega (arith, count_of-joined left right origin) };
  least = λ other first second. record {
    counts = λ origin.
        omega (arith, count_of-joined left right origin, first.counts origin, second.counts origin);
  };
}

greater_counts-comm : (mine theirs : List ℕ) →
    greater_counts mine theirs ≡ greater_counts theirs mine
greater_counts-comm [] [] = refl
greater_counts-comm [] (t ∷ ts) = refl
greater_counts-comm (m ∷ ms) [] = refl
greater_counts-comm (m ∷ ms) (t ∷ ts) =
    let first : max m t ≡ max t m = omega arith in
    let rest = greater_counts-comm ms ts in
    cc

greater_counts-assoc : (xs ys zs : List ℕ) →
    greater_counts (greater_counts xs ys) zs ≡ greater_counts xs (greater_counts ys zs)
greater_counts-assoc [] ys zs = refl
greater_counts-assoc (x ∷ xs) [] zs = refl
greater_counts-assoc (x ∷ xs) (y ∷ ys) [] = refl
greater_counts-assoc (x ∷ xs) (y ∷ ys) (z ∷ zs) =
    let first : max (max x y) z ≡ max x (max y z) = omega arith in
    let rest = greater_counts-assoc xs ys zs in
    cc

greater_counts-same : (xs : List ℕ) → greater_counts xs xs ≡ xs
greater_counts-same [] = refl
greater_counts-same (x ∷ xs) =
    let first : max x x ≡ x = omega arith in
    let rest = greater_counts-same xs in
    cc

pub joined_comm : JoinedIsCommutative
joined_comm left right = ap cut_of (greater_counts-comm left.counts right.counts)

pub joined_assoc : JoinedIsAssociative
joined_assoc first second third =
    ap cut_of (greater_counts-assoc first.counts second.counts third.counts)

pub joined_same : JoinedIsIdempotent
joined_same only = ap cut_of (greater_counts-same only.counts)

pub covers_above : CoversFollowsBelow
covers_above low high dot below covered = omega (arith, below.counts dot.origin)

pub covers_joined : CoversOfJoined
covers_joined left right dot =
    let count = count_of-joined left right dot.origin in (
      λ covered. elim (cases_lt (count_of left dot.origin) dot.number) [
        | inl past ↦ inr (omega arith)
        | inr within ↦ inl within
      ],
      λ either. elim either [ inl first ↦ omega arith | inr second ↦ omega arith ],
    )

-- the raised count
pub count_of-raised_same : (cut : Cut) (dot : Dot) → dot.origin < length cut.counts →
    count_of (raised cut dot) dot.origin ≡ dot.number
count_of-raised_same cut dot exists =
    get_or-set_same cut.counts dot.origin dot.number 0 exists

-- the other counts stay
pub count_of-raised_other : (cut : Cut) (dot : Dot) (origin : ℕ) → origin ≢ dot.origin →
    count_of (raised cut dot) origin ≡ count_of cut origin
count_of-raised_other cut dot origin differ =
    get_or-set_other cut.counts dot.origin origin dot.number 0 differ

same_dot : (left right : Dot) → left.origin ≡ right.origin → left.number ≡ right.number →
    left ≡ right
same_dot left right same_origin same_number =
    let dot : ℕ → ℕ → Dot = λ origin number. record { origin = origin; number = number } in
    ap (λ origin. dot origin left.number) same_origin ∙ ap (dot right.origin) same_number

pub covered_covers : CoveredIsCovers
covered_covers cut dot = (leb-true dot.number (count_of cut dot.origin), le-leb dot.number (count_of cut dot.origin))

pub covers_raised : CoversOfRaised
covers_raised cut dot other exists next =
    let number : Dot → ℕ = λ d. d.number in
    let origin : Dot → ℕ = λ d. d.origin in
    elim (cases_eq other.origin dot.origin) [
      | inl same ↦
          let was : count_of cut other.origin ≡ count_of cut dot.origin = ap (count_of cut) same in
          let now : count_of (raised cut dot) other.origin ≡ dot.number
          = ap (count_of (raised cut dot)) same ∙ count_of-raised_same cut dot exists in (
            λ covered. elim (cases_lt (count_of cut other.origin) other.number) [
              | inl past ↦ inr (same_dot other dot same (omega arith))
              | inr within ↦ inl within
            ],
            λ either. elim either [
              | inl before ↦ omega arith
              | inr it ↦ omega (arith, ap number it)
            ],
          )
      | inr differ ↦
          let now = count_of-raised_other cut dot other.origin differ in (
            λ covered. inl (omega arith),
            λ either. elim either [
              | inl before ↦ omega arith
              | inr it ↦ absurd (differ (ap origin it))
            ],
          )
    ]
