use Rattle.std.proofs.Common.{◌≡◌, ◌++◌, take}
use Rattle.std.specs.List.{flat_map}
use Rattle.ipa_journal.specs.Pieces.{gap_text, piece_text}
use Rattle.ipa_journal.proofs.pieces.write_pieces.Given as goal

-- the later pieces so far are printed, each behind its space
abbrev pub invariant-loop-piece : goal.invariant-loop-piece
invariant-loop-piece l =
    l.page ≡ l.initial.page ++ flat_map (λ p. gap_text p ++ piece_text p) (take l.piece-index l.later)
