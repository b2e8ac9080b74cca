-- The search of values from some place on, over any test of values.
use Rattle.std.proofs.Common.{◌≡◌, ℕ, ◌+◌, ◌<◌, ◌≤◌, Bool, true, false, List, length, refl, ◌∙◌, ap, arith, Some, slice_get, inl, inr}
use Rattle.std.proofs.lemmas.Bool.{cases_lt}
use Rattle.std.specs.List.{slice_set}
use Rattle.ipa_logic.specs.Facts.{Universe, size_of}
use Rattle.ipa_logic.specs.Truth.{value_at, IsOver}
use Rattle.ipa_logic.specs.Values.{IsPartial, Agrees, PassFrom, IsFirstFrom}
use Rattle.ipa_logic.specs.ValueLaws.{over-done, same-done, agrees-next, agrees-before, earlier-next, not_earlier}

module _ (p : List ℕ → Bool) (universe : Universe) (sorts : List ℕ) where
  -- what the search knows before it tries x in the place
  pub record PassBelow (values : List ℕ) (place x : ℕ) : Type 0 where
    pub passes : (v : List ℕ) → IsOver universe sorts v → Agrees place v values → value_at v place < x → p v ≡ true

  pub pass-done : (values : List ℕ) (place : ℕ) → IsPartial universe sorts values place → length sorts ≤ place → p values ≡ true → PassFrom p universe sorts values place
  pass-done values place h e t = record { passes = λ v o a. ap p (same-done universe sorts values place h e v o a) ∙ t }

  pub first-done : (values : List ℕ) (place : ℕ) → IsPartial universe sorts values place → length sorts ≤ place → p values ≡ false → IsFirstFrom p universe sorts values place values
  first-done values place h e t = record {
    over = over-done universe sorts values place h e;
    agrees = λ k l. refl;
    fails = t;
    earlier = λ v o a w. absurd (not_earlier v values (same-done universe sorts values place h e v o a) w);
  }

  pub below-none : (values : List ℕ) (place : ℕ) → PassBelow values place 0
  below-none values place = record { passes = λ v o a l. absurd (omega arith) }

  pub below-next : (values : List ℕ) (place x : ℕ) → place < length values → PassBelow values place x → PassFrom p universe sorts (slice_set values place x) (place + 1) → PassBelow values place (x + 1)
  below-next values place x inside b f = record {
    passes = λ v o a l. elim (cases_lt (value_at v place) x) [
      | inl lt ↦ b.passes v o a lt
      | inr ge ↦ f.passes v o (agrees-next values v place x inside a (omega arith))
    ];
  }

  pub first-below : (values : List ℕ) (place x : ℕ) → place < length values → PassBelow values place x → (r : List ℕ)
      → IsFirstFrom p universe sorts (slice_set values place x) (place + 1) r → IsFirstFrom p universe sorts values place r
  first-below values place x inside b r f = record {
    over = f.over;
    agrees = agrees-before values r place x f.agrees;
    fails = f.fails;
    earlier = λ v o a w. elim (earlier-next values r v place x inside f.agrees a w) [
      | inl less ↦ b.passes v o a less
      | inr further ↦ f.earlier v o further w
    ];
  }

  pub pass-all : (values : List ℕ) (place sort x : ℕ) → slice_get sorts place ≡ Some sort → size_of universe sort ≤ x → PassBelow values place x → PassFrom p universe sorts values place
  pass-all values place sort x g le b = record { passes = λ v o a. let l : value_at v place < size_of universe sort = o.elements place sort g in b.passes v o a (omega arith) }
