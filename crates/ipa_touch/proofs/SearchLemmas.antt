-- The search of values from some place on, over any test of values.
use Rattle.std.proofs.Common.{◌≡◌, ℕ, ◌+◌, ◌<◌, ◌≤◌, Bool, true, false, List, length, refl, ◌∙◌, ap, arith, Option, Some, slice_get, inl, inr}
use Rattle.std.proofs.lemmas.Bool.{cases_lt}
use Rattle.std.specs.List.{slice_set}
use Rattle.ipa_logic.specs.Facts.{Universe, size_of}
use Rattle.ipa_logic.specs.Truth.{value_at, IsOver}
use Rattle.ipa_logic.specs.Values.{IsPartial, Agrees}
use Rattle.ipa_logic.specs.ValueLaws.{over-done, same-done, agrees-next, agrees-before, earlier-next, not_earlier}
use Rattle.ipa_touch.specs.Leaps.{Leaps}
use Rattle.ipa_touch.specs.Searches.{Fits, PassPinned, FirstPinned, Covers}

module _ (p : List ℕ → Bool) (universe : Universe) (sorts : List ℕ) (pins : List (Option ℕ)) where
  -- what the search knows before it tries x in the place
  pub record PassBelow (values : List ℕ) (place x : ℕ) : Type 0 where
    pub passes : (v : List ℕ) → IsOver universe sorts v → Fits pins v → Agrees place v values → value_at v place < x → p v ≡ true

  pub pass-done : (values : List ℕ) (place : ℕ) → IsPartial universe sorts values place → length sorts ≤ place → p values ≡ true → PassPinned p universe sorts pins values place
  pass-done values place h e t = record { passes = λ v o f a. ap p (same-done universe sorts values place h e v o a) ∙ t }

  pub first-done : (values : List ℕ) (place : ℕ) → IsPartial universe sorts values place → length sorts ≤ place → p values ≡ false → FirstPinned p universe sorts pins values place values
  first-done values place h e t = record {
    over = over-done universe sorts values place h e;
    agrees = λ k l. refl;
    fails = t;
    earlier = λ v o f a w. absurd (not_earlier v values (same-done universe sorts values place h e v o a) w);
  }

  -- all values that agree so far pass
  pub pass-settled : (values : List ℕ) (place : ℕ) → ((v : List ℕ) → Agrees place v values → p v ≡ true) → PassPinned p universe sorts pins values place
  pass-settled values place h = record { passes = λ v o f a. h v a }

  -- no values have an element before the first that is tried
  pub below-first : (values : List ℕ) (place sort size first end : ℕ) → slice_get sorts place ≡ Some sort → size ≡ size_of universe sort
      → ((v : List ℕ) → Fits pins v → value_at v place < size → Covers first end (value_at v place)) → PassBelow values place first
  below-first values place sort size first end g e all = record {
    passes = λ v o f a l.
        let inside : value_at v place < size_of universe sort = o.elements place sort g in
        absurd (let covered : first ≤ value_at v place = (all v f (omega arith)).from in omega arith);
  }

  pub below-next : (values : List ℕ) (place x : ℕ) → place < length values → PassBelow values place x → PassPinned p universe sorts pins (slice_set values place x) (place + 1) → PassBelow values place (x + 1)
  below-next values place x inside b f = record {
    passes = λ v o fit a l. elim (cases_lt (value_at v place) x) [
      | inl lt ↦ b.passes v o fit a lt
      | inr ge ↦ f.passes v o fit (agrees-next values v place x inside a (omega arith))
    ];
  }

  -- elements with which all values pass are leapt over
  pub below-leap : (values : List ℕ) (place x next : ℕ) → PassBelow values place x → Leaps p place values x next → PassBelow values place next
  below-leap values place x next b leaps = record {
    passes = λ v o fit a l. elim (cases_lt (value_at v place) x) [
      | inl lt ↦ b.passes v o fit a lt
      | inr ge ↦ leaps.passes v a ge l
    ];
  }

  pub first-below : (values : List ℕ) (place x : ℕ) → place < length values → PassBelow values place x → (r : List ℕ)
      → FirstPinned p universe sorts pins (slice_set values place x) (place + 1) r → FirstPinned p universe sorts pins values place r
  first-below values place x inside b r f = record {
    over = f.over;
    agrees = agrees-before values r place x f.agrees;
    fails = f.fails;
    earlier = λ v o fit a w. elim (earlier-next values r v place x inside f.agrees a w) [
      | inl less ↦ b.passes v o fit a less
      | inr further ↦ f.earlier v o fit further w
    ];
  }

  -- all elements that values may have are tried
  pub pass-all : (values : List ℕ) (place sort size first end x : ℕ) → slice_get sorts place ≡ Some sort → size ≡ size_of universe sort
      → ((v : List ℕ) → Fits pins v → value_at v place < size → Covers first end (value_at v place)) → end ≤ x
      → PassBelow values place x → PassPinned p universe sorts pins values place
  pass-all values place sort size first end x g e all le b = record {
    passes = λ v o f a.
        let inside : value_at v place < size_of universe sort = o.elements place sort g in
        let covered : value_at v place < end = (all v f (omega arith)).below in b.passes v o f a (omega arith);
  }
