-- The turns of a round are turns of the world.
--
--   round_turns          each turn of a round is one of the world
--   link_listed          each two replicas have a link in the list
use Rattle.std.proofs.Common.{◌≡◌, ℕ, zero, suc, ◌+◌, ◌<◌, ◌≤◌, ◌⊎◌, inl, inr, Bool, true, false, not, List, [], ◌∷◌, ◌++◌, length, map, Some, None, slice_get, refl, sym, ◌∙◌, ap, subst, arith}
use Rattle.std.specs.Prelude.{filter, ◌==◌}
use Rattle.std.specs.List.{flat_map, range_with_len}
use Rattle.std.specs.Option.{option_map}
use Rattle.std.proofs.lemmas.Bool.{cases_eq, eq-eqb, eqb-true, ne_eqb, not-true, false≢true}
use Rattle.std.proofs.lemmas.Option.{slice_get-map}
use Rattle.ipa_history.specs.Histories.{IsMember}
use Rattle.ipa_history.specs.MemberLaws.{member_none, member_first, member_later, member_cases, member-append_left, member-append_right, member-append_cases, member-filter, filter_member}
use Rattle.ipa_world.specs.Worlds.{WorldParts}
use Rattle.ipa_world.specs.Steps.{IsLink}
use Rattle.ipa_schedule.specs.Schedules.{below, links_from, links_of, round_of}
use Rattle.ipa_schedule.specs.Running.{IsLinkOf, IsTurnOf}
use Rattle.ipa_schedule.specs.declared.turns.Turn.{Turn}
use Rattle.ipa_schedule.specs.declared.turns.Turn.TheVariants.{Session, Link}

-- what a mapped list has comes from the list
record Image {X Y : Type 0} (f : X → Y) (xs : List X) (y : Y) : Type 0 where
  one : X
  member : IsMember xs one
  is : f one ≡ y

map_member : {X Y : Type 0} (f : X → Y) (xs : List X) (y : Y) → IsMember (map f xs) y → Image f xs y
map_member f [] y m = absurd (member_none y m)
map_member f (x ∷ xs) y m = elim (member_cases (f x) (map f xs) y m) [
  | inl same ↦ record { one = x; member = member_first x xs; is = same }
  | inr rest ↦ let i = map_member f xs y rest in
      record { one = i.one; member = member_later x xs i.one i.member; is = i.is }
]

member-map : {X Y : Type 0} (f : X → Y) (xs : List X) (x : X) → IsMember xs x → IsMember (map f xs) (f x)
member-map f xs x m = record {
  place = m.place;
  at = slice_get-map f xs m.place ∙ ap (option_map f) m.at;
}

-- what one of the lists has
record Source {X Y : Type 0} (f : X → List Y) (xs : List X) (y : Y) : Type 0 where
  one : X
  member : IsMember xs one
  in_it : IsMember (f one) y

flat_map_member : {X Y : Type 0} (f : X → List Y) (xs : List X) (y : Y) → IsMember (flat_map f xs) y → Source f xs y
flat_map_member f [] y m = absurd (member_none y m)
flat_map_member f (x ∷ xs) y m = elim (member-append_cases (f x) (flat_map f xs) y m) [
  | inl here ↦ record { one = x; member = member_first x xs; in_it = here }
  | inr rest ↦ let s = flat_map_member f xs y rest in
      record { one = s.one; member = member_later x xs s.one s.member; in_it = s.in_it }
]

member-flat_map : {X Y : Type 0} (f : X → List Y) (xs : List X) (x : X) (y : Y) → IsMember xs x → IsMember (f x) y →
    IsMember (flat_map f xs) y
member-flat_map f [] x y m here = absurd (member_none x m)
member-flat_map f (z ∷ zs) x y m here = elim (member_cases z zs x m) [
  | inl same ↦ member-append_left (f z) (flat_map f zs) y (subst (λ (v : _). IsMember (f v) y) (sym same) here)
  | inr rest ↦ member-append_right (f z) (flat_map f zs) y (member-flat_map f zs x y rest here)
]

-- the numbers from one on
in_range : (a n k : ℕ) → IsMember (range_with_len a n) k → (a ≤ k) × (k < a + n)
in_range a zero k m = absurd (member_none k m)
in_range a (suc n) k m = elim (member_cases a (range_with_len (a + 1) n) k m) [
  | inl same ↦ (omega (arith, same), omega (arith, same))
  | inr rest ↦ let h = in_range (a + 1) n k rest in (omega (arith, h.0), omega (arith, h.1))
]

range_has : (a n k : ℕ) → a ≤ k → k < a + n → IsMember (range_with_len a n) k
range_has a zero k low high = absurd (omega (arith, low, high))
range_has a (suc n) k low high = elim (cases_eq k a) [
  | inl same ↦ subst (λ (j : ℕ). IsMember (a ∷ range_with_len (a + 1) n) j) (sym same)
      (member_first a (range_with_len (a + 1) n))
  | inr other ↦ member_later a (range_with_len (a + 1) n) k
      (range_has (a + 1) n k (omega (arith, low, other)) (omega (arith, high)))
]

below_less : (n k : ℕ) → IsMember (below n) k → k < n
below_less n k m = let h = in_range 0 n k m in omega (arith, h.1)

less_below : (n k : ℕ) → k < n → IsMember (below n) k
less_below n k less = range_has 0 n k (omega arith) (omega (arith, less))

-- each two replicas have a link in the list
pub link_listed : (n from to : ℕ) → from < n → to < n → (from ≡ to → ⊥) → IsMember (links_of n) (Link from to)
link_listed n from to sends receives apart =
    member-flat_map (links_from n) (below n) from (Link from to) (less_below n from sends)
    (member-map (λ (k : ℕ). Link from k) (filter (λ (k : ℕ). not (k == from)) (below n)) to
    (member-filter (λ (k : ℕ). not (k == from)) (below n) to (less_below n to receives)
    (ap not (ne_eqb to from (λ same. apart (sym same))))))

-- the list has links alone
pub links_only : (w : WorldParts) (turn : Turn) → IsMember (links_of (length w.logs)) turn → IsLinkOf w turn
links_only w turn m =
    let n = length w.logs in
    let s = flat_map_member (links_from n) (below n) turn m in
    let from = s.one in
    let i = map_member (λ (k : ℕ). Link from k) (filter (λ (k : ℕ). not (k == from)) (below n)) turn s.in_it in
    let kept = filter_member (λ (k : ℕ). not (k == from)) (below n) i.one i.member in
    subst (IsLinkOf w) i.is (record {
      sends = below_less n from s.member;
      receives = below_less n i.one kept.member;
      apart = λ same. false≢true (sym (not-true (i.one == from) kept.passes) ∙ eq-eqb i.one from (sym same));
    })

-- a link of the world is one of its turns
turn_of : (w : WorldParts) (turn : Turn) → IsLinkOf w turn → IsTurnOf w turn
turn_of w (Session i) none = absurd none
turn_of w (Link from to) link = link

pub links_are : (w : WorldParts) (turn : Turn) → IsMember (links_of (length w.logs)) turn → IsTurnOf w turn
links_are w turn m = turn_of w turn (links_only w turn m)

-- each turn of a round is one of the world
pub round_turns : (w : WorldParts) (turn : Turn) → IsMember (round_of w) turn → IsTurnOf w turn
round_turns w turn m =
    elim (member-append_cases (map Session (below (length w.seats))) (links_of (length w.logs)) turn m) [
      | inl session ↦
          let i = map_member Session (below (length w.seats)) turn session in
          subst (IsTurnOf w) i.is (below_less (length w.seats) i.one i.member)
      | inr link ↦ links_are w turn link
    ]
