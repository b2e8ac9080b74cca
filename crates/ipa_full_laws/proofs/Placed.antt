-- The places of requests.
--
--   Place                  a session, and the number of one of its requests
--   places_of i requests   the places of the requests to do an operation, of the sessions from number i on
--   length-places_of       there are as many
--   place_there            each such request has its place among them
use Rattle.std.proofs.Common.{◌≡◌, ℕ, zero, suc, ◌+◌, List, [], ◌∷◌, ◌++◌, length, Some, None, slice_get, refl, sym, subst, arith, count_by}
use Rattle.std.proofs.lemmas.List.{length-append}
use Rattle.std.proofs.lemmas.List.Sums.{sum_by-cons}
use Rattle.std.proofs.lemmas.Option.{same_Some}
use Rattle.ipa_logic.specs.declared.facts.Request.{Request}
use Rattle.ipa_logic.specs.declared.facts.Request.TheVariants.{Do, Show}
use Rattle.ipa_history.specs.Histories.{IsMember}
use Rattle.ipa_history.specs.HistoryLaws.{count_cons}
use Rattle.ipa_history.specs.MemberLaws.{member_first, member_later, member-append_left, member-append_right}
use Rattle.ipa_full_laws.specs.Large.{is_do, do_count}

-- a session, and the number of one of its requests
pub record Place : Type 0 where
  pub session : ℕ
  pub number : ℕ

abbrev pub place : ℕ → ℕ → Place
place session number = record { session = session; number = number }

-- the places of a session's requests to do an operation, from number j on
abbrev pub places_in : ℕ → ℕ → List Request → List Place
places_in i j [] = []
places_in i j (Do op args ∷ asked) = place i j ∷ places_in i (suc j) asked
places_in i j (Show predicate wanted ∷ asked) = places_in i (suc j) asked

-- those of the sessions from number i on
abbrev pub places_of : ℕ → List (List Request) → List Place
places_of i [] = []
places_of i (asked ∷ rest) = places_in i 0 asked ++ places_of (suc i) rest

-- there are as many
length-places_in : (i j : ℕ) (asked : List Request) → length (places_in i j asked) ≡ count_by is_do asked
length-places_in i j [] = refl
length-places_in i j (Do op args ∷ asked) =
    let rest = length-places_in i (suc j) asked in
    let more : count_by is_do (Do op args ∷ asked) ≡ 1 + count_by is_do asked = count_cons is_do (Do op args) asked in
    omega (arith, rest, more)
length-places_in i j (Show predicate wanted ∷ asked) =
    let rest = length-places_in i (suc j) asked in
    let more : count_by is_do (Show predicate wanted ∷ asked) ≡ 0 + count_by is_do asked =
    count_cons is_do (Show predicate wanted) asked in
    omega (arith, rest, more)

pub length-places_of : (i : ℕ) (requests : List (List Request)) → length (places_of i requests) ≡ do_count requests
length-places_of i [] = refl
length-places_of i (asked ∷ rest) =
    let own = length-places_in i 0 asked in
    let later = length-places_of (suc i) rest in
    let whole = length-append (places_in i 0 asked) (places_of (suc i) rest) in
    let more = sum_by-cons (λ (one : List Request). count_by is_do one) asked rest in
    omega (arith, own, later, whole, more)

-- a place by equal numbers
moved : (ps : List Place) (i j k l : ℕ) → i ≡ k → j ≡ l → IsMember ps (place i j) → IsMember ps (place k l)
moved ps i j k l first second m =
    subst (λ (n : ℕ). IsMember ps (place k n)) second (subst (λ (n : ℕ). IsMember ps (place n j)) first m)

-- each such request has its place
place_in : (i j k : ℕ) (asked : List Request) (op : ℕ) (args : List ℕ) → slice_get asked k ≡ Some (Do op args) →
    IsMember (places_in i j asked) (place i (j + k))
place_in i j k [] op args e = absurd (let none : None ≡ Some (Do op args) = e in cc)
place_in i j zero (Do other given ∷ asked) op args e =
    moved (places_in i j (Do other given ∷ asked)) i j i (j + 0) refl (omega arith)
    (member_first (place i j) (places_in i (suc j) asked))
place_in i j zero (Show predicate wanted ∷ asked) op args e =
    absurd (let wrong : Some (Show predicate wanted) ≡ Some (Do op args) = e in cc)
place_in i j (suc k) (Do other given ∷ asked) op args e =
    moved (places_in i j (Do other given ∷ asked)) i (suc j + k) i (j + suc k) refl (omega arith)
    (member_later (place i j) (places_in i (suc j) asked) (place i (suc j + k)) (place_in i (suc j) k asked op args e))
place_in i j (suc k) (Show predicate wanted ∷ asked) op args e =
    moved (places_in i (suc j) asked) i (suc j + k) i (j + suc k) refl (omega arith)
    (place_in i (suc j) k asked op args e)

pub place_there : (i k j : ℕ) (requests : List (List Request)) (asked : List Request) (op : ℕ) (args : List ℕ) →
    slice_get requests k ≡ Some asked → slice_get asked j ≡ Some (Do op args) →
    IsMember (places_of i requests) (place (i + k) j)
place_there i k j [] asked op args e g = absurd (let none : None ≡ Some asked = e in cc)
place_there i zero j (own ∷ rest) asked op args e g =
    let same : own ≡ asked = same_Some own asked e in
    moved (places_of i (own ∷ rest)) i (0 + j) (i + 0) j (omega arith) (omega arith)
    (member-append_left (places_in i 0 own) (places_of (suc i) rest) (place i (0 + j))
    (subst (λ (one : List Request). IsMember (places_in i 0 one) (place i (0 + j))) (sym same)
    (place_in i 0 j asked op args g)))
place_there i (suc k) j (own ∷ rest) asked op args e g =
    moved (places_of i (own ∷ rest)) (suc i + k) j (i + suc k) j (omega arith) refl
    (member-append_right (places_in i 0 own) (places_of (suc i) rest) (place (suc i + k) j)
    (place_there (suc i) k j rest asked op args e g))
