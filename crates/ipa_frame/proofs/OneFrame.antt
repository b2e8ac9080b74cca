-- The fields of a frame that stands at the front of some bytes are those that the bytes tell.
use Rattle.std.proofs.Common.{◌≡◌, ℕ, suc, ◌+◌, ◌*◌, ◌<◌, ◌≤◌, ◌^◌, List, [], ◌∷◌, length, get_or, take, refl, arith, ap, sym, ◌∙◌, inl, inr}
use Rattle.std.specs.Int.{w16, w32, to_be_bytes, from_be_bytes}
use Rattle.std.proofs.lemmas.Bool.{cases_lt}
use Rattle.std.proofs.lemmas.List.{get_or-take, get_or_past, length-take}
use Rattle.std.proofs.lemmas.Grind.{same_number_lists}
use Rattle.std.proofs.lemmas.Nat.{from_be_bytes-to_be_bytes_2}
use Rattle.ipa_spec.specs.declared.operations.Action.{Action}
use Rattle.ipa_spec.specs.declared.operations.Action.TheVariants.{Op, Drop}
use Rattle.ipa_clock.specs.declared.cut.Cut.{Cut}
use Rattle.ipa_history.specs.declared.history.Tx.{Tx}
use Rattle.ipa_frame.specs.declared.frame.Frame.{Frame}
use Rattle.ipa_frame.specs.declared.frame.Frame.TheVariants.{Carry, Have}
use Rattle.ipa_frame.specs.Frames.{numbers, short_numbers, action_bytes, frame_bytes, IsFrame}
use Rattle.ipa_frame.specs.Laws.{OneFrame}
use Rattle.ipa_frame.proofs.Agreement.{ReadsAt, AgreesFrom, agrees_from, split}
use Rattle.ipa_frame.proofs.Numbers.{number_back}
use Rattle.ipa_frame.proofs.Carrying.{CarryReads, carry_reads, length-carry}
use Rattle.ipa_frame.proofs.Refusing.{have_reads, length-have}

same_value : (bytes : List ℕ) (place a b : ℕ) → place < length bytes → ReadsAt bytes place a → ReadsAt bytes place b → a ≡ b
same_value bytes place a b there first second = sym (first.at there) ∙ second.at there

same_number : (bytes : List ℕ) (place a b : ℕ) → a < 2 ^ 32 → b < 2 ^ 32 → place + 3 < length bytes →
    AgreesFrom bytes place (to_be_bytes w32 a) → AgreesFrom bytes place (to_be_bytes w32 b) → a ≡ b
same_number bytes place a b fa fb there first second = sym (number_back bytes place 0 a fa there first) ∙ number_back bytes place 0 b fb there second

abbrev Fit : List ℕ → Type 0
Fit them = (place : ℕ) → get_or them place 0 < 2 ^ 32

same_numbers : (bytes : List ℕ) (place : ℕ) (xs ys : List ℕ) → length xs ≡ length ys → Fit xs → Fit ys → place + 4 * length xs ≤ length bytes →
    AgreesFrom bytes place (numbers xs) → AgreesFrom bytes place (numbers ys) → xs ≡ ys
same_numbers bytes place [] [] sized fx fy there first second = refl
same_numbers bytes place [] (y ∷ ys) sized fx fy there first second = absurd (omega arith)
same_numbers bytes place (x ∷ xs) [] sized fx fy there first second = absurd (omega arith)
same_numbers bytes place (x ∷ xs) (y ∷ ys) sized fx fy there first second =
    let a = split bytes (to_be_bytes w32 x) (numbers xs) place (place + 4) refl first in
    let b = split bytes (to_be_bytes w32 y) (numbers ys) place (place + 4) refl second in
    let e : x ≡ y = same_number bytes place x y (fx 0) (fy 0) (omega arith) a.0 b.0 in
    let es : xs ≡ ys = same_numbers bytes (place + 4) xs ys (omega arith) (λ k. fx (suc k)) (λ k. fy (suc k)) (omega arith) a.1 b.1 in
    cc

abbrev FitShort : List ℕ → Type 0
FitShort them = (place : ℕ) → get_or them place 0 < 2 ^ 16

same_short : (bytes : List ℕ) (place a b : ℕ) → a < 2 ^ 16 → b < 2 ^ 16 → place + 1 < length bytes →
    AgreesFrom bytes place (to_be_bytes w16 a) → AgreesFrom bytes place (to_be_bytes w16 b) → a ≡ b
same_short bytes place a b fa fb there first second =
    let high = same_value bytes place _ _ (omega arith) first.0 second.0 in
    let low = same_value bytes (place + 1) _ _ there first.1.0 second.1.0 in
    let same : to_be_bytes w16 a ≡ to_be_bytes w16 b = cc in
    sym (from_be_bytes-to_be_bytes_2 a fa) ∙ (ap (from_be_bytes w16) same ∙ from_be_bytes-to_be_bytes_2 b fb)

same_shorts : (bytes : List ℕ) (place : ℕ) (xs ys : List ℕ) → length xs ≡ length ys → FitShort xs → FitShort ys → place + 2 * length xs ≤ length bytes →
    AgreesFrom bytes place (short_numbers xs) → AgreesFrom bytes place (short_numbers ys) → xs ≡ ys
same_shorts bytes place [] [] sized fx fy there first second = refl
same_shorts bytes place [] (y ∷ ys) sized fx fy there first second = absurd (omega arith)
same_shorts bytes place (x ∷ xs) [] sized fx fy there first second = absurd (omega arith)
same_shorts bytes place (x ∷ xs) (y ∷ ys) sized fx fy there first second =
    let a = split bytes (to_be_bytes w16 x) (short_numbers xs) place (place + 2) refl first in
    let b = split bytes (to_be_bytes w16 y) (short_numbers ys) place (place + 2) refl second in
    let e : x ≡ y = same_short bytes place x y (fx 0) (fy 0) (omega arith) a.0 b.0 in
    let es : xs ≡ ys = same_shorts bytes (place + 2) xs ys (omega arith) (λ k. fx (suc k)) (λ k. fy (suc k)) (omega arith) a.1 b.1 in
    cc

same_action : (bytes : List ℕ) (a b : Action) → 73 < length bytes → AgreesFrom bytes 72 (action_bytes a) → AgreesFrom bytes 72 (action_bytes b) → a ≡ b
same_action bytes (Op m) (Op n) there first second = ap Op (same_value bytes 73 m n there first.1.0 second.1.0)
same_action bytes (Drop m) (Drop n) there first second = ap Drop (same_value bytes 73 m n there first.1.0 second.1.0)
same_action bytes (Op m) (Drop n) there first second = absurd (omega (arith, same_value bytes 72 0 1 (omega arith) first.0 second.0))
same_action bytes (Drop m) (Op n) there first second = absurd (omega (arith, same_value bytes 72 1 0 (omega arith) first.0 second.0))

fit_take : (n : ℕ) (them : List ℕ) → FitShort them → FitShort (take n them)
fit_take n them fit place =
    elim (cases_lt place n) [
      | inl lt ↦ omega (arith, get_or-take n them place 0 lt, fit place)
      | inr past ↦ omega (arith, get_or_past (take n them) place 0 (omega (arith, length-take n them)))
    ]

-- what stands before the count is the same, and 0 stands past it
same_arguments : (n : ℕ) (xs ys : List ℕ) → length xs ≡ 4 → length ys ≡ 4 → take n xs ≡ take n ys →
    ((k : ℕ) → n ≤ k → get_or xs k 0 ≡ 0) → ((k : ℕ) → n ≤ k → get_or ys k 0 ≡ 0) → xs ≡ ys
same_arguments n xs ys sx sy same ux uy =
    same_number_lists xs ys (omega arith) (λ k lt. elim (cases_lt k n) [
      | inl below ↦ sym (get_or-take n xs k 0 below) ∙ (ap (λ (them : List ℕ). get_or them k 0) same ∙ get_or-take n ys k 0 below)
      | inr past ↦ ux k past ∙ sym (uy k past)
    ])

unfoldable tx_of : ℕ → ℕ → List ℕ → Action → List ℕ → ℕ → Tx
tx_of origin number counts action arguments count = record {
  dot = record { origin = origin; number = number };
  cut = record { counts = counts };
  action = action;
  args = arguments;
  count = count;
}

tx_is : (tx : Tx) → tx ≡ tx_of tx.dot.origin tx.dot.number tx.cut.counts tx.action tx.args tx.count
unfolding tx_of
tx_is tx = refl

same_tx : (x y : Tx) → x.dot.origin ≡ y.dot.origin → x.dot.number ≡ y.dot.number → x.cut.counts ≡ y.cut.counts → x.action ≡ y.action →
    x.args ≡ y.args → x.count ≡ y.count → x ≡ y
same_tx x y origin number counts action arguments count =
    let same : tx_of x.dot.origin x.dot.number x.cut.counts x.action x.args x.count ≡ tx_of y.dot.origin y.dot.number y.cut.counts y.action y.args y.count = cc in
    tx_is x ∙ (same ∙ sym (tx_is y))

same_carried : (bytes : List ℕ) (x y : Tx) → IsFrame (Carry x) → IsFrame (Carry y) → 75 + 2 * x.count ≤ length bytes →
    CarryReads bytes x → CarryReads bytes y → x ≡ y
same_carried bytes x y fx fy there rx ry =
    let twice : 72 + 2 * x.count ≡ 72 + 2 * y.count = same_value bytes 2 (72 + 2 * x.count) (72 + 2 * y.count) (omega arith) rx.low ry.low in
    let count : x.count ≡ y.count = omega arith in
    let lx : length (take x.count x.args) ≡ x.count = omega (arith, length-take x.count x.args, fx.widths.arguments, fx.range.count) in
    let ly : length (take y.count y.args) ≡ y.count = omega (arith, length-take y.count y.args, fy.widths.arguments, fy.range.count) in
    let front : take x.count x.args ≡ take y.count y.args
    = same_shorts bytes 75 (take x.count x.args) (take y.count y.args) (omega arith) (fit_take x.count x.args fx.widths.fit) (fit_take y.count y.args fy.widths.fit)
    (omega arith) rx.arguments ry.arguments in
    same_tx x y
    (same_value bytes 3 x.dot.origin y.dot.origin (omega arith) rx.origin ry.origin)
    (same_number bytes 4 x.dot.number y.dot.number fx.widths.number fy.widths.number (omega arith) rx.number ry.number)
    (same_numbers bytes 8 x.cut.counts y.cut.counts (omega (arith, fx.widths.counts.sized, fy.widths.counts.sized)) fx.widths.counts.fit fy.widths.counts.fit
    (omega (arith, fx.widths.counts.sized)) rx.counts ry.counts)
    (same_action bytes x.action y.action (omega arith) rx.action ry.action)
    (same_arguments x.count x.args y.args fx.widths.arguments fy.widths.arguments
    (front ∙ ap (λ (n : ℕ). take n y.args) (sym count)) fx.range.unused (λ k past. fy.range.unused k (omega arith)))
    count

pub same_frame : (bytes : List ℕ) (frame other : Frame) → IsFrame frame → IsFrame other → length (frame_bytes frame) ≤ length bytes →
    AgreesFrom bytes 0 (frame_bytes frame) → AgreesFrom bytes 0 (frame_bytes other) → frame ≡ other
same_frame bytes (Carry x) (Carry y) fx fy whole first second =
    ap Carry (same_carried bytes x y fx fy
    (omega (arith, length-carry x fx.range.count fx.widths.counts.sized fx.widths.arguments))
    (carry_reads bytes x fx.range.count fx.widths.counts.sized first) (carry_reads bytes y fy.range.count fy.widths.counts.sized second))
same_frame bytes (Carry x) (Have c) fx fy whole first second =
    let rx = carry_reads bytes x fx.range.count fx.widths.counts.sized first in
    let ry = have_reads bytes c second in
    absurd (omega (arith, same_value bytes 0 1 2 (omega (arith, length-carry x fx.range.count fx.widths.counts.sized fx.widths.arguments)) rx.kind ry.kind))
same_frame bytes (Have c) (Carry y) fx fy whole first second =
    let rx = have_reads bytes c first in
    let ry = carry_reads bytes y fy.range.count fy.widths.counts.sized second in
    absurd (omega (arith, same_value bytes 0 2 1 (omega (arith, length-have c fx.widths.sized)) rx.kind ry.kind))
same_frame bytes (Have c) (Have d) fx fy whole first second =
    let rx = have_reads bytes c first in
    let ry = have_reads bytes d second in
    let size = length-have c fx.widths.sized in
    let same : c.counts ≡ d.counts
    = same_numbers bytes 3 c.counts d.counts (omega (arith, fx.widths.sized, fy.widths.sized)) fx.widths.fit fy.widths.fit
    (omega (arith, size, fx.widths.sized)) rx.counts ry.counts in
    let cut : List ℕ → Cut = λ counts. record { counts = counts } in
    ap (λ (counts : List ℕ). Have (cut counts)) same

pub one_frame : OneFrame
one_frame bytes frame other is_frame whole agrees is_other others =
    same_frame bytes frame other is_frame is_other whole (agrees_from bytes (frame_bytes frame) agrees) (agrees_from bytes (frame_bytes other) others)
