use Rattle.std.proofs.Common.{◌≡◌, ◌-◌, ◌++◌, true, map, take, replicate}
use Rattle.std.specs.List.{list_all}
use Rattle.ipa_journal.specs.Meaning.{count_in, is_number}
use Rattle.ipa_journal.proofs.transactions.counts_in.Given as goal

-- the parts so far are numbers, and stand in the counts
abbrev pub invariant-loop-part : goal.invariant-loop-part
invariant-loop-part l = record {
  counted : l.place ≡ l.part-index;
  numbers : list_all is_number (take l.part-index l.parts) ≡ true;
  counts : l.counts ≡ map count_in (take l.part-index l.parts) ++ replicate (16 - l.part-index) 0;
}
