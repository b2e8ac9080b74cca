-- The names of values mean the values.
--
--   size-known      the size of a declared sort is the number of its elements
--   AreBack es sorts values   the names of the values, of which there is one for each sort, mean the values
--   values_back     values over the sizes of the lists are so
use Rattle.std.proofs.Common.{◌≡◌, ℕ, zero, suc, ◌<◌, ◌≤◌, false, List, [], ◌∷◌, ◌++◌, length, Some, refl, sym, ap, ◌∙◌, arith}
use Rattle.std.specs.List.{slice_get, slice_index}
use Rattle.std.proofs.lemmas.Grind.{same_number_lists}
use Rattle.ipa_spec.specs.Faults.{has_repeat}
use Rattle.ipa_spec.specs.declared.names.Name.{Name}
use Rattle.ipa_logic.specs.Facts.{size_of}
use Rattle.ipa_logic.specs.Truth.{IsOver}
use Rattle.ipa_reader.specs.Arrangements.{elements_at}
use Rattle.ipa_reader.specs.Setups.{size_list}
use Rattle.ipa_journal.specs.Naming.{four_of, list_of, elements_in}
use Rattle.ipa_journal.specs.Meaning.{four_values, values_in}
use Rattle.ipa_journal_laws.proofs.Named.{IsAt, named_element}

-- the size of each of the eight sorts is the number of its elements
pub size-known : (es : List (List Name)) (sort : ℕ) → sort < 8 → size_of (size_list es) sort ≡ length (elements_at es sort)
size-known es zero l = refl
size-known es (suc zero) l = refl
size-known es (suc (suc zero)) l = refl
size-known es (suc (suc (suc zero))) l = refl
size-known es (suc (suc (suc (suc zero)))) l = refl
size-known es (suc (suc (suc (suc (suc zero))))) l = refl
size-known es (suc (suc (suc (suc (suc (suc zero)))))) l = refl
size-known es (suc (suc (suc (suc (suc (suc (suc zero))))))) l = refl
size-known es (suc (suc (suc (suc (suc (suc (suc (suc n)))))))) l = absurd (omega arith)

-- elements of lists in which no name stands twice
abbrev pub AreApart : List (List Name) → Type 0
AreApart es = (sort : ℕ) → has_repeat (λ name. name) (elements_at es sort) ≡ false

-- each of the sorts is one of eight
abbrev pub AreSorts : List ℕ → Type 0
AreSorts sorts = (k sort : ℕ) → slice_get sorts k ≡ Some sort → sort < 8

pub record AreBack (es : List (List Name)) (sorts values : List ℕ) : Type 0 where
  pub means : values_in es (four_of sorts) (elements_in es (four_of sorts) values) ≡ Some values
  pub count : length (elements_in es (four_of sorts) values) ≡ length sorts

four_same : (values : List ℕ) (a b c d : ℕ) → length values ≡ 4 → slice_index values 0 ≡ a → slice_index values 1 ≡ b →
    slice_index values 2 ≡ c → slice_index values 3 ≡ d → a ∷ b ∷ c ∷ d ∷ [] ≡ values
four_same values a b c d l ea eb ec ed = same_number_lists (a ∷ b ∷ c ∷ d ∷ []) values (sym l) at
  where
    at : (k : ℕ) → k < 4 → slice_index (a ∷ b ∷ c ∷ d ∷ []) k ≡ slice_index values k
    at zero h = sym ea
    at (suc zero) h = sym eb
    at (suc (suc zero)) h = sym ec
    at (suc (suc (suc zero))) h = sym ed
    at (suc (suc (suc (suc k)))) h = absurd (omega arith)

module _ (es : List (List Name)) (apart : AreApart es) (values : List ℕ) where
  here : (sorts : List ℕ) → AreSorts sorts → IsOver (size_list es) sorts values → (k sort : ℕ) →
      slice_get sorts k ≡ Some sort → IsAt (elements_at es sort) (slice_index values k)
  here sorts known over k sort at =
      let below = over.elements k sort at in
      let size = size-known es sort (known k sort at) in
      named_element (elements_at es sort) (slice_index values k) (omega (arith, below, size)) (apart sort)

  pub values_back : (sorts : List ℕ) → length sorts ≤ 4 → AreSorts sorts → IsOver (size_list es) sorts values → AreBack es sorts values
  values_back [] short known over =
      let same = four_same values 0 0 0 0 over.width (over.unused 0 (omega arith)) (over.unused 1 (omega arith)) (over.unused 2 (omega arith)) (over.unused 3 (omega arith)) in
      record { means = ap Some same; count = refl }
  values_back (s ∷ []) short known over =
      let a = here (s ∷ []) known over 0 s refl in
      let same = four_same values (slice_index values 0) 0 0 0 over.width refl (over.unused 1 (omega arith)) (over.unused 2 (omega arith)) (over.unused 3 (omega arith)) in
      let names : elements_in es (four_of (s ∷ [])) values ≡ a.name ∷ [] = λ i. ((list_of (a.at i) ++ []) ++ []) ++ [] in
      record {
        means = ap (values_in es (four_of (s ∷ []))) names ∙ (λ i. four_values (a.means i) (Some 0) (Some 0) (Some 0)) ∙ ap Some same;
        count = ap length names;
      }
  values_back (s ∷ t ∷ []) short known over =
      let a = here (s ∷ t ∷ []) known over 0 s refl in
      let b = here (s ∷ t ∷ []) known over 1 t refl in
      let same = four_same values (slice_index values 0) (slice_index values 1) 0 0 over.width refl refl (over.unused 2 (omega arith)) (over.unused 3 (omega arith)) in
      let names : elements_in es (four_of (s ∷ t ∷ [])) values ≡ a.name ∷ b.name ∷ [] = λ i. ((list_of (a.at i) ++ list_of (b.at i)) ++ []) ++ [] in
      record {
        means = ap (values_in es (four_of (s ∷ t ∷ []))) names ∙ (λ i. four_values (a.means i) (b.means i) (Some 0) (Some 0)) ∙ ap Some same;
        count = ap length names;
      }
  values_back (s ∷ t ∷ u ∷ []) short known over =
      let a = here (s ∷ t ∷ u ∷ []) known over 0 s refl in
      let b = here (s ∷ t ∷ u ∷ []) known over 1 t refl in
      let c = here (s ∷ t ∷ u ∷ []) known over 2 u refl in
      let same = four_same values (slice_index values 0) (slice_index values 1) (slice_index values 2) 0 over.width refl refl refl (over.unused 3 (omega arith)) in
      let names : elements_in es (four_of (s ∷ t ∷ u ∷ [])) values ≡ a.name ∷ b.name ∷ c.name ∷ [] = λ i. ((list_of (a.at i) ++ list_of (b.at i)) ++ list_of (c.at i)) ++ [] in
      record {
        means = ap (values_in es (four_of (s ∷ t ∷ u ∷ []))) names ∙ (λ i. four_values (a.means i) (b.means i) (c.means i) (Some 0)) ∙ ap Some same;
        count = ap length names;
      }
  values_back (s ∷ t ∷ u ∷ v ∷ []) short known over =
      let a = here (s ∷ t ∷ u ∷ v ∷ []) known over 0 s refl in
      let b = here (s ∷ t ∷ u ∷ v ∷ []) known over 1 t refl in
      let c = here (s ∷ t ∷ u ∷ v ∷ []) known over 2 u refl in
      let d = here (s ∷ t ∷ u ∷ v ∷ []) known over 3 v refl in
      let same = four_same values (slice_index values 0) (slice_index values 1) (slice_index values 2) (slice_index values 3) over.width refl refl refl refl in
      let names : elements_in es (four_of (s ∷ t ∷ u ∷ v ∷ [])) values ≡ a.name ∷ b.name ∷ c.name ∷ d.name ∷ [] = λ i. ((list_of (a.at i) ++ list_of (b.at i)) ++ list_of (c.at i)) ++ list_of (d.at i) in
      record {
        means = ap (values_in es (four_of (s ∷ t ∷ u ∷ v ∷ []))) names ∙ (λ i. four_values (a.means i) (b.means i) (c.means i) (d.means i)) ∙ ap Some same;
        count = ap length names;
      }
  values_back (s ∷ t ∷ u ∷ v ∷ w ∷ sorts) short known over = absurd (omega arith)
