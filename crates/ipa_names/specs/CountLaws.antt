-- Limits that are not passed.
--
--   count_kept   a count of which none is passed is no greater than the greatest allowed
--   size_kept    a size of a bound is from 1 to 65535
--   there_none   none of a list is there where neither the first nor the others are
--   no_fault     a fault that does not hold is not there
use Rattle.std.proofs.Common.{◌≡◌, ℕ, ◌≤◌, Bool, true, false, cond, ◌&&◌, leb, List, [], ◌∷◌, Option, Some, None, refl, sym, subst}
use Rattle.std.specs.Option.{option_map}
use Rattle.std.proofs.lemmas.Bool.{ltb-false, leb-true, and_parts, not-false}
use Rattle.ipa_spec.specs.Limits.{first_there, fault_if, size_outside}
use Rattle.ipa_spec.specs.declared.faults.SpecFault.{SpecFault}
use Rattle.ipa_spec.specs.declared.faults.SpecFault.TheVariants as fault
use Rattle.ipa_names.specs.Counts.{count_above}

pub there_none : (o : Option SpecFault) (rest : List (Option SpecFault)) → o ≡ None → first_there rest ≡ None →
    first_there (o ∷ rest) ≡ None
there_none o rest e later = subst (λ x. first_there (x ∷ rest) ≡ None) (sym e) later

pub no_fault : (found : Bool) (means : SpecFault) → found ≡ false → fault_if found means ≡ None
no_fault found means e = subst (λ b. fault_if b means ≡ None) (sym e) refl

-- what is not found is not there
unfound : (test : Bool) (named : ℕ → SpecFault) (count : ℕ) → option_map named (cond test (Some count) None) ≡ None →
    test ≡ false
unfound false named count h = refl
unfound true named count h = cc

pub count_kept : (which most count : ℕ) → count_above which most count ≡ None → count ≤ most
count_kept which most count h = ltb-false most count (unfound _ (λ found. fault.Limit which found) count h)

pub size_kept : (size : ℕ) → size_outside (size ∷ []) ≡ None → (1 ≤ size) × (size ≤ 65535)
size_kept size h =
    let inside =
    and_parts (leb 1 size) (leb size 65535)
    (not-false (leb 1 size && leb size 65535) (unfound _ (λ found. fault.Limit 12 found) size h)) in
    (leb-true 1 size inside.0, leb-true size 65535 inside.1)
