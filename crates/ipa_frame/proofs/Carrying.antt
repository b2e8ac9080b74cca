-- The fields of a transaction are in their ranges just where the bytes agree with a frame that carries one.
use Rattle.std.proofs.Common.{◌≡◌, ℕ, zero, suc, ◌+◌, ◌*◌, ◌<◌, ◌≤◌, ◌^◌, List, [], ◌∷◌, ◌++◌, length, get_or, take, refl, arith, sym, subst, inl, inr}
use Rattle.std.specs.Int.{w16, w32, to_be_bytes}
use Rattle.std.proofs.lemmas.Bool.{cases_lt}
use Rattle.std.proofs.lemmas.List.{get_or_past, length-append, length-take}
use Rattle.ipa_spec.specs.declared.operations.Action.{Action}
use Rattle.ipa_spec.specs.declared.operations.Action.TheVariants.{Op, Drop}
use Rattle.ipa_history.specs.declared.history.Tx.{Tx}
use Rattle.ipa_frame.specs.declared.frame.Frame.TheVariants.{Carry}
use Rattle.ipa_frame.specs.Frames.{numbers, short_numbers, action_bytes, kind_and_length, carry_body, frame_bytes, IsAction, IsCarried, IsFrame}
use Rattle.ipa_frame.specs.Reading.{number_at, numbers_at, action_of, carried, FieldsStand}
use Rattle.ipa_frame.proofs.Agreement.{ReadsAt, AgreesFrom, joined, split, reads, reads_as, read_there, read_or}
use Rattle.ipa_frame.proofs.Fields.{length-numbers_at}
use Rattle.ipa_frame.proofs.Numbers.{AreBytes, number_agrees, number_fits, number_filled, number_back, numbers_agree, numbers_fit, length-numbers, length-short_numbers, arguments_at, arguments_agree, arguments_fit, arguments_unused}

-- ---- what is read agrees with the bytes

pub carry_length : (count : ℕ) → count ≤ 4 → to_be_bytes w16 (72 + 2 * count) ≡ 0 ∷ (72 + 2 * count) ∷ []
carry_length zero small = refl
carry_length (suc zero) small = refl
carry_length (suc (suc zero)) small = refl
carry_length (suc (suc (suc zero))) small = refl
carry_length (suc (suc (suc (suc zero)))) small = refl
carry_length (suc (suc (suc (suc (suc count))))) small = absurd (omega arith)

head_agrees : (bytes : List ℕ) (count : ℕ) → count ≤ 4 → get_or bytes 0 1 ≡ 1 → get_or bytes 1 0 ≡ 0 → get_or bytes 2 72 ≡ 72 + 2 * count →
    AgreesFrom bytes 0 (kind_and_length 1 (72 + 2 * count))
head_agrees bytes count small kind high low =
    subst (λ (them : List ℕ). AgreesFrom bytes 0 (1 ∷ them)) (sym (carry_length count small))
    (reads_as bytes 0 1 1 kind, (reads_as bytes 1 0 0 high, (reads_as bytes 2 72 (72 + 2 * count) low, tt)))

action_spelled : (kind number : ℕ) → kind ≤ 1 → action_bytes (action_of kind number) ≡ kind ∷ number ∷ []
unfolding action_of
action_spelled zero number small = refl
action_spelled (suc zero) number small = refl
action_spelled (suc (suc kind)) number small = absurd (omega arith)

tail_agrees : (bytes : List ℕ) (count : ℕ) → AreBytes bytes → count ≤ 4 → FieldsStand bytes count →
    AgreesFrom bytes 72 (action_bytes (action_of (get_or bytes 72 0) (get_or bytes 73 0)) ++ (count ∷ short_numbers (take count (arguments_at bytes count))))
tail_agrees bytes count fits small stand =
    subst (λ (them : List ℕ). AgreesFrom bytes 72 (them ++ (count ∷ short_numbers (take count (arguments_at bytes count)))))
    (sym (action_spelled (get_or bytes 72 0) (get_or bytes 73 0) stand.kind))
    (reads bytes 72 0, (reads bytes 73 0, (reads_as bytes 74 count count stand.again, arguments_agree bytes count small fits)))

counts_end : (bytes : List ℕ) → 8 + length (numbers (numbers_at 16 bytes 8)) ≡ 72
counts_end bytes = omega (arith, length-numbers (numbers_at 16 bytes 8), length-numbers_at 16 bytes 8)

body_agrees : (bytes : List ℕ) (count : ℕ) → AreBytes bytes → count ≤ 4 → FieldsStand bytes count →
    AgreesFrom bytes 3 (carry_body (carried bytes count))
unfolding carry_body carried
body_agrees bytes count fits small stand =
    let last : List ℕ = action_bytes (action_of (get_or bytes 72 0) (get_or bytes 73 0)) ++ (count ∷ short_numbers (take count (arguments_at bytes count))) in (
      reads bytes 3 0,
      joined bytes (to_be_bytes w32 (number_at bytes 4 255)) (numbers (numbers_at 16 bytes 8) ++ last) 4 8 refl
          (number_agrees bytes 4 255 fits (omega arith))
          (joined bytes (numbers (numbers_at 16 bytes 8)) last 8 72 (counts_end bytes) (numbers_agree 16 bytes 8 fits)
          (tail_agrees bytes count fits small stand)),
    )

pub carried_count : (bytes : List ℕ) (count : ℕ) → (carried bytes count).count ≡ count
unfolding carried
carried_count bytes count = refl

pub carried_agrees : (bytes : List ℕ) (count : ℕ) → AreBytes bytes → count ≤ 4 →
    get_or bytes 0 1 ≡ 1 → get_or bytes 1 0 ≡ 0 → get_or bytes 2 72 ≡ 72 + 2 * count → FieldsStand bytes count →
    AgreesFrom bytes 0 (frame_bytes (Carry (carried bytes count)))
unfolding frame_bytes
carried_agrees bytes count fits small kind high low stand =
    let same : (carried bytes count).count ≡ count = carried_count bytes count in
    subst (λ (k : ℕ). AgreesFrom bytes 0 (kind_and_length 1 (72 + 2 * k) ++ carry_body (carried bytes count))) (sym same)
    (joined bytes (kind_and_length 1 (72 + 2 * count)) (carry_body (carried bytes count)) 0 3 refl
    (head_agrees bytes count small kind high low) (body_agrees bytes count fits small stand))

pub carried_is_frame : (bytes : List ℕ) (count : ℕ) → AreBytes bytes → count ≤ 4 → FieldsStand bytes count → IsFrame (Carry (carried bytes count))
unfolding carried
carried_is_frame bytes count fits small stand = record {
  range = record {
    origin = stand.origin;
    number = stand.number;
    action = stand.action;
    count = small;
    unused = λ place past. arguments_unused bytes count place past;
  };
  widths = record {
    number = number_fits bytes 4 255 fits (omega arith);
    counts = record { sized = length-numbers_at 16 bytes 8; fit = λ place. numbers_fit 16 bytes 8 place fits };
    arguments = refl;
    fit = λ place. arguments_fit bytes count place fits;
  };
}

-- ---- bytes that agree with a frame have fields in their ranges

pub record CarryReads (bytes : List ℕ) (tx : Tx) : Type 0 where
  pub kind : ReadsAt bytes 0 1
  pub high : ReadsAt bytes 1 0
  pub low : ReadsAt bytes 2 (72 + 2 * tx.count)
  pub origin : ReadsAt bytes 3 tx.dot.origin
  pub number : AgreesFrom bytes 4 (to_be_bytes w32 tx.dot.number)
  pub counts : AgreesFrom bytes 8 (numbers tx.cut.counts)
  pub action : AgreesFrom bytes 72 (action_bytes tx.action)
  pub count : ReadsAt bytes 74 tx.count
  pub arguments : AgreesFrom bytes 75 (short_numbers (take tx.count tx.args))

length-action_bytes : (action : Action) → length (action_bytes action) ≡ 2
length-action_bytes (Op n) = refl
length-action_bytes (Drop n) = refl

counts_past : (counts : List ℕ) → length counts ≡ 16 → 8 + length (numbers counts) ≡ 72
counts_past counts sized = omega (arith, length-numbers counts)

action_past : (action : Action) → 72 + length (action_bytes action) ≡ 74
action_past action = omega (arith, length-action_bytes action)

pub carry_reads : (bytes : List ℕ) (tx : Tx) → tx.count ≤ 4 → length tx.cut.counts ≡ 16 → AgreesFrom bytes 0 (frame_bytes (Carry tx)) → CarryReads bytes tx
unfolding frame_bytes carry_body
carry_reads bytes tx small sized h =
    let arguments : List ℕ = short_numbers (take tx.count tx.args) in
    let last : List ℕ = action_bytes tx.action ++ (tx.count ∷ arguments) in
    let rest : List ℕ = numbers tx.cut.counts ++ last in
    let body : List ℕ = tx.dot.origin ∷ (to_be_bytes w32 tx.dot.number ++ rest) in
    let a = split bytes (kind_and_length 1 (72 + 2 * tx.count)) body 0 3 refl h in
    let head : AgreesFrom bytes 0 (1 ∷ 0 ∷ (72 + 2 * tx.count) ∷ []) = subst (λ (them : List ℕ). AgreesFrom bytes 0 (1 ∷ them)) (carry_length tx.count small) a.0 in
    let b = split bytes (to_be_bytes w32 tx.dot.number) rest 4 8 refl a.1.1 in
    let c = split bytes (numbers tx.cut.counts) last 8 72 (counts_past tx.cut.counts sized) b.1 in
    let d = split bytes (action_bytes tx.action) (tx.count ∷ arguments) 72 74 (action_past tx.action) c.1 in
    record {
      kind = head.0;
      high = head.1.0;
      low = head.1.1.0;
      origin = a.1.0;
      number = b.0;
      counts = c.0;
      action = d.0;
      count = d.1.0;
      arguments = d.1.1;
    }

origin_stands : (bytes : List ℕ) (origin : ℕ) → origin < 16 → ReadsAt bytes 3 origin → get_or bytes 3 0 < 16
origin_stands bytes origin small h = elim (read_or bytes 3 0 origin h) [ inl e ↦ omega (arith, e) | inr e ↦ omega (arith, e) ]

number_stands : (bytes : List ℕ) (n : ℕ) → 1 ≤ n → n < 2 ^ 32 → AgreesFrom bytes 4 (to_be_bytes w32 n) → 1 ≤ number_at bytes 4 255
number_stands bytes n large small h =
    elim (cases_lt 7 (length bytes)) [
      | inl there ↦ subst (λ (m : ℕ). 1 ≤ m) (sym (number_back bytes 4 255 n small there h)) large
      | inr past ↦ number_filled bytes past
    ]

abbrev ActionStands : List ℕ → Type 0
ActionStands bytes = (get_or bytes 72 0 ≤ 1) × IsAction (action_of (get_or bytes 72 0) (get_or bytes 73 0))

either_action : (kind number : ℕ) → kind ≤ 1 → number < 8 → IsAction (action_of kind number)
unfolding action_of
either_action zero number small less = omega arith
either_action (suc zero) number small less = less
either_action (suc (suc kind)) number small less = absurd (omega arith)

op_action : (kind number : ℕ) → kind ≡ 0 → number < 32 → IsAction (action_of kind number)
unfolding action_of
op_action zero number none less = less
op_action (suc kind) number none less = absurd (omega arith)

action_stands : (bytes : List ℕ) (action : Action) → IsAction action → AgreesFrom bytes 72 (action_bytes action) → ActionStands bytes
action_stands bytes (Op number) small h =
    let kind : get_or bytes 72 0 ≡ 0 = elim (read_or bytes 72 0 0 h.0) [ inl e ↦ e | inr e ↦ e ] in
    let less : get_or bytes 73 0 < 32 = elim (read_or bytes 73 0 number h.1.0) [ inl e ↦ omega (arith, e) | inr e ↦ omega (arith, e) ] in
    (omega (arith, kind), op_action (get_or bytes 72 0) (get_or bytes 73 0) kind less)
action_stands bytes (Drop number) small h =
    let kind : get_or bytes 72 0 ≤ 1 = elim (read_or bytes 72 0 1 h.0) [ inl e ↦ omega (arith, e) | inr e ↦ omega (arith, e) ] in
    let less : get_or bytes 73 0 < 8 = elim (read_or bytes 73 0 number h.1.0) [ inl e ↦ omega (arith, e) | inr e ↦ omega (arith, e) ] in
    (kind, either_action (get_or bytes 72 0) (get_or bytes 73 0) kind less)

count_stands : (bytes : List ℕ) (count k : ℕ) → get_or bytes 2 72 ≡ 72 + 2 * count → ReadsAt bytes 2 (72 + 2 * k) → ReadsAt bytes 74 k → get_or bytes 74 count ≡ count
count_stands bytes count k low lows again =
    elim (cases_lt 74 (length bytes)) [
      | inl there ↦
          let e = read_there bytes 74 count k there again in
          let f = read_there bytes 2 72 (72 + 2 * k) (omega arith) lows in
          omega (arith, e, f)
      | inr past ↦ get_or_past bytes 74 count past
    ]

pub fields_stand : (bytes : List ℕ) (tx : Tx) (count : ℕ) → IsCarried tx → tx.dot.number < 2 ^ 32 → CarryReads bytes tx →
    get_or bytes 2 72 ≡ 72 + 2 * count → FieldsStand bytes count
fields_stand bytes tx count range fit h low =
    let action = action_stands bytes tx.action range.action h.action in
    record {
      origin = origin_stands bytes tx.dot.origin range.origin h.origin;
      number = number_stands bytes tx.dot.number range.number fit h.number;
      kind = action.0;
      action = action.1;
      again = count_stands bytes count tx.count low h.low h.count;
    }

-- where no field is there, the fillers stand
pub fillers_stand : (bytes : List ℕ) (count : ℕ) → length bytes ≤ 3 → FieldsStand bytes count
fillers_stand bytes count short =
    let k = get_or_past bytes 72 0 (omega arith) in
    let n = get_or_past bytes 73 0 (omega arith) in
    record {
      origin = omega (arith, get_or_past bytes 3 0 short);
      number = number_filled bytes (omega arith);
      kind = omega (arith, k);
      action = op_action (get_or bytes 72 0) (get_or bytes 73 0) k (omega (arith, n));
      again = get_or_past bytes 74 count (omega arith);
    }

-- the number of bytes
pub length-carry : (tx : Tx) → tx.count ≤ 4 → length tx.cut.counts ≡ 16 → length tx.args ≡ 4 → length (frame_bytes (Carry tx)) ≡ 75 + 2 * tx.count
unfolding frame_bytes carry_body
length-carry tx small sized arguments =
    let four : length (take tx.count tx.args) ≡ tx.count = omega (arith, length-take tx.count tx.args) in
    let last : List ℕ = tx.count ∷ short_numbers (take tx.count tx.args) in
    omega (
      arith,
      length-append (numbers tx.cut.counts) (action_bytes tx.action ++ last),
      length-append (action_bytes tx.action) last,
      length-action_bytes tx.action,
      length-numbers tx.cut.counts,
      length-short_numbers (take tx.count tx.args),
      four,
    )
