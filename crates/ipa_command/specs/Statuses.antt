-- The statuses with which a command ends.
--
--   number_of status          the number with which the program ends
--   is_cut_off status         a fault of the source or sink, or want of memory: there is no whole answer
--   is_of_input status        the status is one that an input can have: accepted, not accepted or refused
use Rattle.std.specs.Prelude.{ℕ, Bool, true, false}
use Rattle.ipa_command.specs.declared.status.Status.{Status}
use Rattle.ipa_command.specs.declared.status.Status.TheVariants.{Done, Rejected, Usage, Refused, ReadFault, WriteFault, NoMemory, Full}

-- the number with which the program ends
abbrev pub number_of : Status → ℕ
number_of Done = 0
number_of Rejected = 1
number_of Usage = 2
number_of Refused = 3
number_of ReadFault = 4
number_of WriteFault = 5
number_of NoMemory = 6
number_of Full = 7

-- a fault of the source or sink, or want of memory
abbrev pub is_cut_off : Status → Bool
is_cut_off ReadFault = true
is_cut_off WriteFault = true
is_cut_off NoMemory = true
is_cut_off _ = false

-- the input is accepted, not accepted or refused
abbrev pub is_of_input : Status → Bool
is_of_input Done = true
is_of_input Rejected = true
is_of_input Refused = true
is_of_input _ = false
