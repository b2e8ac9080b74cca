-- Laws of total orders, by the test whether one item comes before another.
--
--   Less-from_lt    a comparison that tests as less is `Less`
--   lt-itself       an item does not come before itself
--   lt-turned       nor before one that comes before it
--   lt-trans        an item before one that comes before a third comes before the third
--   lt-from_past    an item that does not come after one before a third comes before the third
--   lt-through      what does not come before an item does not come before an earlier one
--   lt-past         what does not come before an item that does not come before a third does not come before the third
use Rattle.std.specs.Prelude.{◌≡◌, true, false, refl}
use Rattle.std.proofs.Common.{sym, ◌∙◌, ap, inl, inr}
use Rattle.std.proofs.lemmas.Bool.{cases_Bool, false≢true}
use Rattle.std.specs.Ordering.{is_lt, ordering_reverse}
use Rattle.std.specs.Cmp.{IsTotalOrder, tied_itself}
use Rattle.std.specs.declared.cmp.Ordering.{Ordering}
use Rattle.std.specs.declared.cmp.Ordering.TheVariants.{Less, Equal, Greater}

-- a comparison that tests as less is `Less`
pub Less-from_lt : (r : Ordering) → is_lt r ≡ true → r ≡ Less
Less-from_lt Less h = refl
Less-from_lt Equal h = absurd (false≢true h)
Less-from_lt Greater h = absurd (false≢true h)

module _ {K : Type 0} {R : K → K → Ordering} (o : IsTotalOrder R) where
  -- an item does not come before itself
  pub lt-itself : (x : K) → is_lt (R x x) ≡ false
  lt-itself x = ap is_lt (tied_itself o x)

  -- nor before one that comes before it
  pub lt-turned : (x y : K) → R x y ≡ Less → is_lt (R y x) ≡ false
  lt-turned x y h = ap is_lt (o.antisymm y x ∙ ap ordering_reverse h)

  -- an item before one that comes before a third comes before the third
  pub lt-trans : (x y z : K) → is_lt (R x y) ≡ true → is_lt (R y z) ≡ true → is_lt (R x z) ≡ true
  lt-trans x y z h k = ap is_lt (o.trans x y z (Less-from_lt (R x y) h) (Less-from_lt (R y z) k))

  -- an item that does not come after one before a third comes before the third
  pub lt-from_past : (x y z : K) → is_lt (R y x) ≡ false → is_lt (R y z) ≡ true → is_lt (R x z) ≡ true
  lt-from_past x y z n h = here (R y x) refl n
    where
      here : (r : Ordering) → R y x ≡ r → is_lt r ≡ false → is_lt (R x z) ≡ true
      here Less e m = absurd (false≢true (sym m))
      here Equal e m = sym (ap is_lt (o.congr y x z e)) ∙ h
      here Greater e m = lt-trans x y z (ap is_lt (o.antisymm x y ∙ ap ordering_reverse e)) h

  -- what does not come before an item does not come before an earlier one
  pub lt-through : (x y z : K) → is_lt (R y z) ≡ true → is_lt (R x z) ≡ false → is_lt (R x y) ≡ false
  lt-through x y z h n = elim (cases_Bool (is_lt (R x y))) [
    | inl before ↦ absurd (false≢true (sym n ∙ lt-trans x y z before h))
    | inr not_before ↦ not_before
  ]

  -- what does not come before an item that does not come before a third does not come before the third
  pub lt-past : (x y z : K) → is_lt (R x y) ≡ false → is_lt (R y z) ≡ false → is_lt (R x z) ≡ false
  lt-past x y z n m = elim (cases_Bool (is_lt (R x z))) [
    | inl before ↦ absurd (false≢true (sym m ∙ lt-from_past y x z n before))
    | inr not_before ↦ not_before
  ]
