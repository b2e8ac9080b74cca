-- Names looked at one after the other, until one stands among those before it.
--
--   equal-same_name   names are equal exactly where they have the same bytes
--   seen_twice, seen_once   a name that is looked up among those before it
use Rattle.std.proofs.Common.{◌≡◌, ℕ, ◌+◌, ◌<◌, Bool, true, false, not, cond, ◌&&◌, ◌==◌, eqb, List, [], ◌∷◌, ◌++◌, length, take, drop, get_or, refl, sym, ap, subst, ◌∙◌, suc}
use Rattle.std.specs.List.{list_any}
use Rattle.std.specs.Cmp.{both_ways}
use Rattle.std.specs.Cmp.Lexicographic.{pointwise}
use Rattle.std.proofs.lemmas.Bool.{and_parts, and_from, false≢true}
use Rattle.std.proofs.lemmas.Bool.Decides.{Decides-eqb}
use Rattle.std.proofs.lemmas.Slice.Eq.{bytes_eq-Decides, slice_eq-Decides}
use Rattle.std.proofs.lemmas.List.{take_more}
use Rattle.indexmap.specs.IndexSet.{insert_key}
use Rattle.ipa_spec.specs.Faults.{same_name, has_repeat}
use Rattle.ipa_spec.specs.NameLaws.{same_bytes, one_name}
use Rattle.ipa_spec.specs.declared.names.Name.{Name}
use Rattle.ipa_names.specs.NumberLaws.{looked_among}
use Rattle.ipa_names.specs.ListLaws.{repeat_push, repeat_found, split_at}

pub equal-same_name : (one other : Name) → (pointwise eqb one.bytes other.bytes && (one.len == other.len)) ≡ same_name other one
equal-same_name one other = both_ways (pointwise eqb one.bytes other.bytes && (one.len == other.len)) (same_name other one) same equal
  where
    same : (pointwise eqb one.bytes other.bytes && (one.len == other.len)) ≡ true → same_name other one ≡ true
    same h =
        let parts = and_parts (pointwise eqb one.bytes other.bytes) (one.len == other.len) h in
        let bytes : one.bytes ≡ other.bytes = (slice_eq-Decides Decides-eqb one.bytes other.bytes (pointwise eqb one.bytes other.bytes) refl).0 parts.0 in
        let len : one.len ≡ other.len = (Decides-eqb one.len other.len).0 parts.1 in
        (bytes_eq-Decides (take other.len other.bytes) (take one.len one.bytes)).1 (λ i. take (sym len i) (sym bytes i))

    equal : same_name other one ≡ true → (pointwise eqb one.bytes other.bytes && (one.len == other.len)) ≡ true
    equal h =
        let same : one ≡ other = sym (one_name other one (same_bytes other one h)) in
        and_from (pointwise eqb one.bytes other.bytes) (one.len == other.len)
        ((slice_eq-Decides Decides-eqb one.bytes other.bytes (pointwise eqb one.bytes other.bytes) refl).1 (ap (λ n. n.bytes) same))
        ((Decides-eqb one.len other.len).1 (ap (λ n. n.len) same))

module _ {eq : Name → Name → Bool} (agrees : (one other : Name) → eq one other ≡ same_name other one) where
  -- a name that is looked up among those before it stands twice
  pub seen_twice : (names keys : List Name) (n : ℕ) (name : Name) → n < length names → name ≡ get_or names n name → keys ≡ take n names → list_any (eq name) keys ≡ true → has_repeat (λ name. name) names ≡ true
  seen_twice names keys n name within at is found =
      let before : list_any (λ y. same_name y name) (take n names) ≡ true = subst (λ ks. list_any (λ y. same_name y name) ks ≡ true) is (sym (looked_among agrees name keys) ∙ found) in
      let whole : take n names ++ name ∷ drop (suc n) names ≡ names = ap (λ x. take n names ++ x ∷ drop (suc n) names) at ∙ split_at names n name within in
      subst (λ all. has_repeat (λ x. x) all ≡ true) whole (repeat_found (take n names) (drop (suc n) names) name before)

  -- and one that isn't there stands once so far
  pub seen_once : (names keys new : List Name) (n : ℕ) (name : Name) → n < length names → name ≡ get_or names n name → keys ≡ take n names → has_repeat (λ name. name) (take n names) ≡ false → list_any (eq name) keys ≡ false → new ≡ insert_key eq keys name → (new ≡ take (n + 1) names) × (has_repeat (λ name. name) (take (n + 1) names) ≡ false)
  seen_once names keys new n name within at is once unfound inserted =
      let more : take (n + 1) names ≡ take n names ++ name ∷ [] = take_more names n name within ∙ ap (λ x. take n names ++ x ∷ []) (sym at) in
      let before : list_any (λ y. same_name y name) (take n names) ≡ false = subst (λ ks. list_any (λ y. same_name y name) ks ≡ false) is (sym (looked_among agrees name keys) ∙ unfound) in
      let grown : new ≡ keys ++ name ∷ [] = inserted ∙ ap (λ b. cond b keys (keys ++ name ∷ [])) unfound in
      (grown ∙ ap (λ ks. ks ++ name ∷ []) is ∙ sym more, subst (λ all. has_repeat (λ x. x) all ≡ false) (sym more) (repeat_push (λ x. x) (take n names) name once before))

-- what `insert` answers, where the name was there and where it was not
pub not_false : (added there : Bool) → added ≡ not there → added ≡ false → there ≡ true
not_false added true e h = refl
not_false added false e h = absurd (false≢true (sym h ∙ e))

pub not_true : (added there : Bool) → added ≡ not there → added ≡ true → there ≡ false
not_true added true e h = absurd (false≢true (sym e ∙ h))
not_true added false e h = refl
