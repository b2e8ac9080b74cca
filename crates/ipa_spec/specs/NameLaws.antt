-- Names that are the same.
--
--   same_bytes       names that are the same have the same bytes
--   same_name-refl   a name is the same as itself
--   one_name         names of the same bytes are equal
use Rattle.std.proofs.Common.{◌≡◌, ℕ, ◌<◌, ◌≤◌, ◌⊎◌, inl, inr, true, List, length, take, get_or, refl, sym, ap, ◌∙◌, arith}
use Rattle.std.proofs.Props.{props}
use Rattle.std.proofs.lemmas.Bool.{cases_lt}
use Rattle.std.proofs.lemmas.Grind.{same_number_lists}
use Rattle.std.proofs.lemmas.List.{get_or-take, length-take-le}
use Rattle.std.proofs.lemmas.Slice.Eq.{bytes_eq-Decides}
use Rattle.std.specs.List.{slice_index}
use mathlib.Core.HLevel.{Σ_prop_path}
use Rattle.ipa_spec.specs.Names.{is_name}
use Rattle.ipa_spec.specs.Faults.{same_name}
use Rattle.ipa_spec.specs.declared.names.Name.{Name}

pub same_bytes : (a b : Name) → same_name a b ≡ true → take a.len a.bytes ≡ take b.len b.bytes
same_bytes a b h = (bytes_eq-Decides (take a.len a.bytes) (take b.len b.bytes)).0 h

pub same_name-refl : (a : Name) → same_name a a ≡ true
same_name-refl a = (bytes_eq-Decides (take a.len a.bytes) (take a.len a.bytes)).1 refl

-- what is known of a name's bytes and length
abbrev Facts : List ℕ × ℕ → Type 0
Facts v = (length v.0 ≡ 24) × (v.1 ≤ 24) × (is_name (take v.1 v.0) ≡ true) × ((k : ℕ) → v.1 ≤ k → slice_index v.0 k ≡ 0)

Facts-prop : (v : List ℕ × ℕ) → IsProp (Facts v)
Facts-prop v = hlevel props

same_parts : (n m : Name) → n.bytes ≡ m.bytes → n.len ≡ m.len → n ≡ m
same_parts n m b l =
    let parts : ◌≡◌ {A = List ℕ × ℕ} (n.bytes, n.len) (m.bytes, m.len) = λ i. (b i, l i) in
    let pairs : ◌≡◌ {A = (v : List ℕ × ℕ) × Facts v} ((n.bytes, n.len), (n.full, n.sized, n.named, n.padded)) ((m.bytes, m.len), (m.full, m.sized, m.named, m.padded)) = Σ_prop_path Facts-prop parts in
    λ i. record { bytes = (pairs i).0.0; len = (pairs i).0.1; full = (pairs i).1.0; sized = (pairs i).1.1; named = (pairs i).1.2; padded = (pairs i).1.3 }

-- the bytes at each place are those of the word, or zeros behind it
same_byte : (n m : Name) → n.len ≡ m.len → take n.len n.bytes ≡ take m.len m.bytes → (k : ℕ) → (k < n.len) ⊎ (n.len ≤ k) → get_or n.bytes k 0 ≡ get_or m.bytes k 0
same_byte n m l e k (inl below) =
    sym (get_or-take n.len n.bytes k 0 below) ∙ ap (λ bytes. get_or bytes k 0) e ∙ get_or-take m.len m.bytes k 0 (omega arith)
same_byte n m l e k (inr past) = n.padded k past ∙ sym (m.padded k (omega arith))

-- names of the same bytes are equal
pub one_name : (n m : Name) → take n.len n.bytes ≡ take m.len m.bytes → n ≡ m
one_name n m same =
    let n_len = length-take-le n.len n.bytes (omega (arith, n.full, n.sized)) in
    let m_len = length-take-le m.len m.bytes (omega (arith, m.full, m.sized)) in
    let len : n.len ≡ m.len = sym n_len ∙ ap length same ∙ m_len in
    let bytes = same_number_lists n.bytes m.bytes (n.full ∙ sym m.full) (λ k h. same_byte n m len same k (cases_lt k n.len)) in
    same_parts n m bytes len
