use Rattle.std.proofs.Common.{◌≡◌, ◌++◌, map, take}
use Rattle.ipa_journal.specs.Naming.{pick_piece}
use Rattle.ipa_journal.proofs.naming.push_picks.Given as goal

-- the picks so far stand behind the pieces before
abbrev pub invariant-loop-bound : goal.invariant-loop-bound
invariant-loop-bound l = l.pieces ≡ l.initial.pieces ++ map (λ b. pick_piece b.pick) (take l.bound-index l.bounds)
