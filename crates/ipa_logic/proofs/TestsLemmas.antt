-- Tests and choices.
use Rattle.std.proofs.Common.{◌≡◌, Bool, true, false, not, cond, ◌&&◌, ◌||◌, refl}

-- a choice of true is an or
pub cond-true : (b x : Bool) → cond b true x ≡ (b || x)
cond-true true x = refl
cond-true false x = refl

-- a choice of false is an and
pub cond-false : (b x : Bool) → cond b false x ≡ (not b && x)
cond-false true x = refl
cond-false false x = refl
