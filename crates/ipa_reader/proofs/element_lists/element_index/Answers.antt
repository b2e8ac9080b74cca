use Rattle.std.proofs.Common.{◌≡◌, ℕ, zero, suc, ◌<◌, false, List, [], ◌∷◌, length, get_or, sym, subst, arith}
use Rattle.ipa_spec.specs.Faults.{has_repeat}
use Rattle.ipa_spec.specs.declared.names.Name.{Name}
use Rattle.ipa_reader.specs.Arrangements.{elements_at}
use Rattle.ipa_reader.proofs.element_lists.element_index.Goals as goal

at_place : (lists : List (List Name)) (n : ℕ) (names : List Name) → n < length lists → names ≡ get_or lists n names →
    elements_at lists n ≡ names
at_place [] n names h e = absurd (omega (arith, h))
at_place (x ∷ lists) zero names h e = sym e
at_place (x ∷ lists) (suc n) names h e = at_place lists n names (omega (arith, h)) e

pub extended-requires : goal.extended-requires
extended-requires c =
    let items = c.as_slice-names-items.result.now in
    let place = c.loop-names.names-index in
    let apart = subst (λ lists. has_repeat (λ name. name) (elements_at lists place) ≡ false)
    (sym c.as_slice-names-items.ensures) (c.requires place) in
    rw (c.new.ensures, c.as_slice.ensures) (subst (λ names. has_repeat (λ name. name) names ≡ false)
    (at_place items place c.names-item.result (omega arith) c.names-item.is) apart)
