-- The fields at their places, where each byte that is missing reads as a filler.
--     number_at bytes place filler          the number of four bytes from this place on
--     short_at bytes place                  the number of two bytes from this place on
--     numbers_at count bytes place          so many numbers of four bytes from this place on
--     argument_at bytes count place         the argument of this place, of so many: 0 past them
--     action_of kind number                 the action of this kind byte
--     carried bytes count                   the transaction with so many arguments
--     FieldsStand bytes count               its fields are in their ranges
use Rattle.std.specs.Prelude.{◌≡◌, ℕ, zero, suc, ◌+◌, ◌*◌, ◌<◌, ◌≤◌, List, [], ◌∷◌, ◌==◌, nat_lt, if◌then◌else◌, slice_index_or}
use Rattle.std.specs.Int.{w16, w32, from_be_bytes}
use Rattle.ipa_spec.specs.declared.operations.Action.{Action}
use Rattle.ipa_spec.specs.declared.operations.Action.TheVariants.{Op, Drop}
use Rattle.ipa_history.specs.declared.history.Tx.{Tx}
use Rattle.ipa_frame.specs.Frames.{IsAction}

-- the number of four bytes from this place on
unfoldable pub number_at : List ℕ → ℕ → ℕ → ℕ
number_at bytes place filler =
    from_be_bytes w32 (slice_index_or bytes place filler ∷ slice_index_or bytes (place + 1) filler
    ∷ slice_index_or bytes (place + 2) filler ∷ slice_index_or bytes (place + 3) filler ∷ [])

-- the number of two bytes from this place on
unfoldable pub short_at : List ℕ → ℕ → ℕ
short_at bytes place = from_be_bytes w16 (slice_index_or bytes place 0 ∷ slice_index_or bytes (place + 1) 0 ∷ [])

-- so many numbers of four bytes from this place on
unfoldable pub numbers_at : ℕ → List ℕ → ℕ → List ℕ
numbers_at zero bytes place = []
numbers_at (suc count) bytes place = number_at bytes place 0 ∷ numbers_at count bytes (place + 4)

-- the argument of this place, of so many
unfoldable pub argument_at : List ℕ → ℕ → ℕ → ℕ
argument_at bytes count place = if nat_lt place count then short_at bytes (75 + 2 * place) else 0

-- the action of this kind byte
unfoldable pub action_of : ℕ → ℕ → Action
action_of kind number = if kind == 0 then Op number else Drop number

-- the transaction with so many arguments
unfoldable pub carried : List ℕ → ℕ → Tx
carried bytes count = record {
  dot = record { origin = slice_index_or bytes 3 0; number = number_at bytes 4 255 };
  cut = record { counts = numbers_at 16 bytes 8 };
  action = action_of (slice_index_or bytes 72 0) (slice_index_or bytes 73 0);
  args = argument_at bytes count 0 ∷ argument_at bytes count 1 ∷ argument_at bytes count 2
      ∷ argument_at bytes count 3 ∷ [];
  count = count;
}

-- its fields are in their ranges
pub record FieldsStand (bytes : List ℕ) (count : ℕ) : Type 0 where
  pub origin : slice_index_or bytes 3 0 < 16
  pub number : 1 ≤ number_at bytes 4 255
  pub kind : slice_index_or bytes 72 0 ≤ 1
  pub action : IsAction (action_of (slice_index_or bytes 72 0) (slice_index_or bytes 73 0))
  pub again : slice_index_or bytes 74 count ≡ count
