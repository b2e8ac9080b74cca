use Rattle.ipa_sets.specs.Filings.{FilesFirst, HasRooms}
use Rattle.ipa_sets.proofs.taking.file_effects.Given as goal

abbrev pub invariant-loop-place : goal.invariant-loop-place
invariant-loop-place l = record {
  files : FilesFirst l.spec l.tx l.place l.initial.filed.lists l.filed.lists;
  rooms : HasRooms l.spec l.tx l.filed.lists;
}
