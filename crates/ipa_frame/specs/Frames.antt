-- Frames as bytes: the most significant byte of each number comes first.
--     frame_bytes frame          the bytes of a frame: a kind, the length of the body, and the body
--     carry_body tx              the body of a frame that carries this transaction
--     IsInRange frame            the fields are in the ranges that a frame has room for
--     HasWidths frame            the fields have the sizes that their types give them
--     IsFrame frame              both: the frames that there are
--     Agrees bytes others        wherever both have a byte, they have the same byte
--     NoFrameAgrees bytes        no frame is the front of these bytes, and these bytes are the front of no frame
--     IsRead bytes frame size    the frame stands at the front of the bytes, and its bytes are so many
--     IsShort bytes              the bytes are the front of a frame that is longer
--     IsBadKind, IsBadLength, IsBadField       what else is wrong with the bytes
--     Refuses bytes fault        the bytes have this fault
use Rattle.std.specs.Prelude.{◌≡◌, ◌≢◌, ℕ, ◌+◌, ◌*◌, ◌<◌, ◌≤◌, ◌^◌, ◌⊎◌, List, [], ◌∷◌, ◌++◌, length, take, slice_index}
use Rattle.std.specs.Int.{w16, w32, to_be_bytes}
use Rattle.std.specs.List.{flat_map}
use Rattle.ipa_spec.specs.declared.operations.Action.{Action}
use Rattle.ipa_spec.specs.declared.operations.Action.TheVariants.{Op, Drop}
use Rattle.ipa_history.specs.declared.history.Tx.{Tx}
use Rattle.ipa_frame.specs.declared.frame.Frame.{Frame}
use Rattle.ipa_frame.specs.declared.frame.Frame.TheVariants.{Carry, Have}
use Rattle.ipa_frame.specs.declared.frame.FrameFault.{FrameFault}
use Rattle.ipa_frame.specs.declared.frame.FrameFault.TheVariants.{Short, BadKind, BadLength, BadField}

-- the bytes of numbers of four bytes
abbrev pub numbers : List ℕ → List ℕ
numbers them = flat_map (to_be_bytes w32) them

-- the bytes of numbers of two bytes
abbrev pub short_numbers : List ℕ → List ℕ
short_numbers them = flat_map (to_be_bytes w16) them

-- 0 and the number of an operation, or 1 and the number of a bound
abbrev pub action_bytes : Action → List ℕ
action_bytes (Op number) = 0 ∷ number ∷ []
action_bytes (Drop number) = 1 ∷ number ∷ []

-- the kind, and the length of the body
abbrev pub kind_and_length : ℕ → ℕ → List ℕ
kind_and_length kind size = kind ∷ to_be_bytes w16 size

-- origin, number, cut, action, the count of the arguments, and the arguments
unfoldable pub carry_body : Tx → List ℕ
carry_body tx =
    tx.dot.origin ∷ (to_be_bytes w32 tx.dot.number ++ (numbers tx.cut.counts
    ++ (action_bytes tx.action ++ (tx.count ∷ short_numbers (take tx.count tx.args)))))

-- the bytes of a frame
unfoldable pub frame_bytes : Frame → List ℕ
frame_bytes (Carry tx) = kind_and_length 1 (72 + 2 * tx.count) ++ carry_body tx
frame_bytes (Have cut) = kind_and_length 2 64 ++ numbers cut.counts

-- an operation number is below 32, and a bound number below 8
abbrev pub IsAction : Action → Type 0
IsAction (Op number) = number < 32
IsAction (Drop number) = number < 8

-- the fields of a transaction that a frame can carry
pub record IsCarried (tx : Tx) : Type 0 where
  pub origin : tx.dot.origin < 16
  pub number : 1 ≤ tx.dot.number
  pub action : IsAction tx.action
  pub count : tx.count ≤ 4
  pub unused : (place : ℕ) → tx.count ≤ place → slice_index tx.args place ≡ 0

-- the fields are in the ranges that a frame has room for; each cut is
abbrev pub IsInRange : Frame → Type 0
IsInRange (Carry tx) = IsCarried tx
IsInRange (Have cut) = Unit {0}

-- sixteen numbers of four bytes
pub record AreCounts (counts : List ℕ) : Type 0 where
  pub sized : length counts ≡ 16
  pub fit : (place : ℕ) → slice_index counts place < 2 ^ 32

-- the number and the cut of a transaction fit four bytes each, and it has four arguments of two bytes
pub record HasTxWidths (tx : Tx) : Type 0 where
  pub number : tx.dot.number < 2 ^ 32
  pub counts : AreCounts tx.cut.counts
  pub arguments : length tx.args ≡ 4
  pub fit : (place : ℕ) → slice_index tx.args place < 2 ^ 16

-- the fields have the sizes that their types give them
abbrev pub HasWidths : Frame → Type 0
HasWidths (Carry tx) = HasTxWidths tx
HasWidths (Have cut) = AreCounts cut.counts

-- the frames that there are
pub record IsFrame (frame : Frame) : Type 0 where
  pub range : IsInRange frame
  pub widths : HasWidths frame

-- wherever both have a byte, they have the same byte: one is the front of the other
pub record Agrees (bytes others : List ℕ) : Type 0 where
  pub same : (place : ℕ) → place < length bytes → place < length others →
      slice_index bytes place ≡ slice_index others place

-- no frame is the front of these bytes, and these bytes are the front of no frame
pub record NoFrameAgrees (bytes : List ℕ) : Type 0 where
  pub none : (frame : Frame) → IsFrame frame → Agrees bytes (frame_bytes frame) → ⊥

-- a frame is the front of these bytes, or these bytes are the front of a frame
pub record SomeFrameAgrees (bytes : List ℕ) : Type 0 where
  pub frame : Frame
  pub is_frame : IsFrame frame
  pub agrees : Agrees bytes (frame_bytes frame)

-- the frame stands at the front of the bytes, and its bytes are so many
pub record IsRead (bytes : List ℕ) (frame : Frame) (size : ℕ) : Type 0 where
  pub is_frame : IsFrame frame
  pub sized : size ≡ length (frame_bytes frame)
  pub whole : size ≤ length bytes
  pub agrees : Agrees bytes (frame_bytes frame)

-- the bytes are the front of a frame that is longer
pub record IsShort (bytes : List ℕ) : Type 0 where
  pub frame : Frame
  pub is_frame : IsFrame frame
  pub agrees : Agrees bytes (frame_bytes frame)
  pub longer : length bytes < length (frame_bytes frame)

-- the first byte is neither 1 nor 2
pub record IsBadKind (bytes : List ℕ) : Type 0 where
  pub there : 0 < length bytes
  pub no_carry : slice_index bytes 0 ≢ 1
  pub no_have : slice_index bytes 0 ≢ 2

-- the first byte is 1 or 2, and no frame begins with the first three bytes, or with all where there are fewer
pub record IsBadLength (bytes : List ℕ) : Type 0 where
  pub kind : (slice_index bytes 0 ≡ 1) ⊎ (slice_index bytes 0 ≡ 2)
  pub none : NoFrameAgrees (take 3 bytes)

-- some frame begins with the first three bytes, and none agrees with all of them
pub record IsBadField (bytes : List ℕ) : Type 0 where
  pub some : SomeFrameAgrees (take 3 bytes)
  pub none : NoFrameAgrees bytes

-- the bytes have this fault
abbrev pub Refuses : List ℕ → FrameFault → Type 0
Refuses bytes Short = IsShort bytes
Refuses bytes BadKind = IsBadKind bytes
Refuses bytes BadLength = IsBadLength bytes
Refuses bytes BadField = IsBadField bytes
