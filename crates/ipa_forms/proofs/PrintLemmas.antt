-- Names are ASCII text.
use Rattle.std.proofs.Common.{◌≡◌, ℕ, zero, suc, ◌<◌, true, List, [], ◌∷◌, slice_index, arith}
use Rattle.std.proofs.lemmas.Bool.{and_parts}
use Rattle.std.proofs.lemmas.Bool.Decides.{nat_tests}
use Rattle.std.proofs.lemmas.Str.{IsUtf8-from_ascii}
use Rattle.std.specs.List.{list_all}
use Rattle.std.specs.Str.{IsUtf8}
use Rattle.ipa_spec.specs.Names.{is_name, is_name_byte}

is_name_byte-ascii : (b : ℕ) → is_name_byte b ≡ true → b < 128
is_name_byte-ascii b h = grind (arith, nat_tests)

list_all-ascii : (bytes : List ℕ) → list_all is_name_byte bytes ≡ true → (k : ℕ) → slice_index bytes k < 128
list_all-ascii [] h k = omega arith
list_all-ascii (b ∷ bytes) h zero = is_name_byte-ascii b ((and_parts _ _ h).0)
list_all-ascii (b ∷ bytes) h (suc k) = list_all-ascii bytes ((and_parts _ _ h).1) k

pub IsUtf8-name : (bytes : List ℕ) → is_name bytes ≡ true → IsUtf8 bytes
unfolding is_name
IsUtf8-name bytes h = IsUtf8-from_ascii bytes (list_all-ascii bytes ((and_parts _ _ ((and_parts _ _ ((and_parts _ _ h).0)).0)).1))
