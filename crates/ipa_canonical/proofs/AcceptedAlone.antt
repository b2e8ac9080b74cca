-- Specifications in the state without facts, in the universe of their constants.
--
--   sizes_alone     the sizes of lists that have the constants alone
--   names_alone     the names of elements are those of constants there
--   few_instances   there are at most 8192 instances
--   kept_alone      a state that breaks no clause is kept
use Rattle.std.proofs.Common.{◌≡◌, ℕ, zero, suc, ◌+◌, ◌*◌, ◌<◌, ◌≤◌, ◌==◌, Bool, false, List, [], ◌∷◌, length, map, refl, sym, ap, ◌∙◌, Option, Some, option_and_then, arith}
use Rattle.std.specs.List.{slice_get, fold}
use Rattle.std.proofs.Math.Nat.{mul-le-mul_left, mul-le-mul_right}
use Rattle.std.proofs.lemmas.Bool.{ne_eqb}
use Rattle.std.proofs.lemmas.List.{length-map}
use Rattle.std.specs.Option.{option_map}
use Rattle.ipa_spec.specs.Actions.{sorts_of_vars}
use Rattle.ipa_spec.specs.Constants.{constants_of, constant_count}
use Rattle.ipa_spec.specs.Fits.{IsFit}
use Rattle.ipa_spec.specs.FoundLaws.{none_of}
use Rattle.ipa_spec.specs.declared.names.Name.{Name}
use Rattle.ipa_spec.specs.declared.clauses.Clause.{Clause}
use Rattle.ipa_spec.specs.declared.constants.Constant.{Constant}
use Rattle.ipa_spec.specs.declared.specification.Specification.{Specification}
use Rattle.ipa_logic.specs.Facts.{size_of}
use Rattle.ipa_logic.specs.Truth.{value_at, Keeps}
use Rattle.ipa_names.specs.FilterLaws.{filter_none}
use Rattle.ipa_reader.specs.Arrangements.{elements_at}
use Rattle.ipa_reader.specs.Setups.{size_list, element_names, value_count, instance_count, greatest_instance_count, IsKept}
use Rattle.ipa_canonical.specs.Alone.{constant_names, constants_alone}
use Rattle.ipa_canonical.specs.Rereading.{is_no_fact, constant_lists}

module _ (s : Specification) (fit : IsFit s) where
  -- no constant is of a sort past the eighth
  no_constants : (n : ℕ) → 8 ≤ n → constants_of s.constants n ≡ []
  no_constants n l = nothing (constants_of s.constants n) (filter_none (λ c. c.sort == n) s.constants (none_of (λ c. c.sort == n) s.constants other))
    where
      other : (k : ℕ) (c : Constant) → slice_get s.constants k ≡ Some c → (c.sort == n) ≡ false
      other k c e =
          let below = fit.constant_sort k c.sort (ap (option_map (λ x. x.sort)) e) in
          ne_eqb c.sort n (λ same. omega (arith, below, fit.sort_count, same, l))

      nothing : (cs : List Constant) → length cs ≡ 0 → cs ≡ []
      nothing [] h = refl
      nothing (c ∷ cs) h = absurd (omega (arith, h))

  lists_at : (n : ℕ) → elements_at (constant_lists s) n ≡ constant_names s n
  lists_at zero = refl
  lists_at (suc zero) = refl
  lists_at (suc (suc zero)) = refl
  lists_at (suc (suc (suc zero))) = refl
  lists_at (suc (suc (suc (suc zero)))) = refl
  lists_at (suc (suc (suc (suc (suc zero))))) = refl
  lists_at (suc (suc (suc (suc (suc (suc zero)))))) = refl
  lists_at (suc (suc (suc (suc (suc (suc (suc zero))))))) = refl
  lists_at (suc (suc (suc (suc (suc (suc (suc (suc n)))))))) = sym (ap (map (λ c. c.name)) (no_constants (suc (suc (suc (suc (suc (suc (suc (suc n)))))))) (omega arith)))

  pub names_alone : (elements : List (List Name)) → ((n : ℕ) → elements_at elements n ≡ constant_names s n) → (sorts values : List ℕ) → element_names elements sorts values ≡ element_names (constant_lists s) sorts values
  names_alone elements each sorts values =
      let same : elements_at elements ≡ elements_at (constant_lists s) = λ i n. (each n ∙ sym (lists_at n)) i in
      λ i. named (same i)
    where
      named : (ℕ → List Name) → List (Option Name)
      named at = element_at 0 ∷ element_at 1 ∷ element_at 2 ∷ element_at 3 ∷ []
        where
          element_at : ℕ → Option Name
          element_at v = option_and_then (λ sort. slice_get (at sort) (value_at values v)) (slice_get sorts v)

  pub sizes_alone : (elements : List (List Name)) → ((n : ℕ) → elements_at elements n ≡ constant_names s n) → size_list elements ≡ constants_alone s
  sizes_alone elements each =
      let count : (n : ℕ) → length (elements_at elements n) ≡ constant_count s n = λ n. ap length (each n) ∙ length-map (constants_of s.constants n) (λ c. c.name) in
      λ i. count 0 i ∷ count 1 i ∷ count 2 i ∷ count 3 i ∷ count 4 i ∷ count 5 i ∷ count 6 i ∷ count 7 i ∷ []

  small : (sort : ℕ) → size_of (constants_alone s) sort ≤ 4
  small zero = fit.constant_most 0
  small (suc zero) = fit.constant_most 1
  small (suc (suc zero)) = fit.constant_most 2
  small (suc (suc (suc zero))) = fit.constant_most 3
  small (suc (suc (suc (suc zero)))) = fit.constant_most 4
  small (suc (suc (suc (suc (suc zero))))) = fit.constant_most 5
  small (suc (suc (suc (suc (suc (suc zero)))))) = fit.constant_most 6
  small (suc (suc (suc (suc (suc (suc (suc zero))))))) = fit.constant_most 7
  small (suc (suc (suc (suc (suc (suc (suc (suc sort)))))))) = omega arith

  times : (m n a b : ℕ) → m ≤ a → n ≤ b → m * n ≤ a * b
  times m n a b l k =
      let first : m * n ≤ a * n = mul-le-mul_right n l in
      let second : a * n ≤ a * b = mul-le-mul_left a k in
      omega (arith, first, second)

  few_values : (sorts : List ℕ) → length sorts ≤ 4 → value_count (constants_alone s) sorts ≤ 256
  few_values [] l = omega arith
  few_values (a ∷ []) l = let one = times 1 (size_of (constants_alone s) a) 1 4 (omega arith) (small a) in omega (arith, one)
  few_values (a ∷ b ∷ []) l =
      let one = times 1 (size_of (constants_alone s) a) 1 4 (omega arith) (small a) in
      let two = times _ (size_of (constants_alone s) b) 4 4 one (small b) in
      omega (arith, two)
  few_values (a ∷ b ∷ c ∷ []) l =
      let one = times 1 (size_of (constants_alone s) a) 1 4 (omega arith) (small a) in
      let two = times _ (size_of (constants_alone s) b) 4 4 one (small b) in
      let three = times _ (size_of (constants_alone s) c) 16 4 two (small c) in
      omega (arith, three)
  few_values (a ∷ b ∷ c ∷ d ∷ []) l =
      let one = times 1 (size_of (constants_alone s) a) 1 4 (omega arith) (small a) in
      let two = times _ (size_of (constants_alone s) b) 4 4 one (small b) in
      let three = times _ (size_of (constants_alone s) c) 16 4 two (small c) in
      let four = times _ (size_of (constants_alone s) d) 64 4 three (small d) in
      omega (arith, four)
  few_values (a ∷ b ∷ c ∷ d ∷ e ∷ sorts) l = absurd (omega (arith, l))

  pub few_variables : (k : ℕ) (c : Clause) → slice_get s.clauses k ≡ Some c → length (sorts_of_vars c.vars) ≤ 4
  few_variables k c e = omega (arith, fit.variable_count k c e, length-map c.vars (λ v. v.sort))

  few_in : (cs : List Clause) (n : ℕ) → ((k : ℕ) (c : Clause) → slice_get cs k ≡ Some c → length (sorts_of_vars c.vars) ≤ 4) →
      fold (λ m c. m + value_count (constants_alone s) (sorts_of_vars c.vars)) n cs ≤ n + 256 * length cs
  few_in [] n short = omega arith
  few_in (c ∷ cs) n short =
      let count = value_count (constants_alone s) (sorts_of_vars c.vars) in
      let here : count ≤ 256 = few_values (sorts_of_vars c.vars) (short 0 c refl) in
      omega (arith, here, few_in cs (n + count) (λ k other e. short (suc k) other e))

  pub few_instances : instance_count s (constants_alone s) ≤ greatest_instance_count
  few_instances = omega (arith, fit.clause_count, few_in s.clauses 0 few_variables)

  pub kept_alone : Keeps s (constants_alone s) is_no_fact → IsKept s (constants_alone s) []
  kept_alone kept = record { instances = few_instances; clauses = kept; bounds = record { groups = λ n b key e. omega arith } }
