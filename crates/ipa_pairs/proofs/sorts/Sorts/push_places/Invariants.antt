use Rattle.std.proofs.Common.{◌≡◌, ◌++◌, take}
use Rattle.ipa_pairs.proofs.sorts.Sorts.push_places.Given as goal

-- the sorts of the places so far are appended
abbrev pub invariant-loop-place : goal.invariant-loop-place
invariant-loop-place l = l.self ≡ l.initial.self ++ take l.place l.predicate.sorts
