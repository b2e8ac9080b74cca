-- What stands before a line.
--
--   next_standing s line    what stands behind the line
--   standing_of lines       what stands behind these lines: what they declare and say, and where the next one stands
use Rattle.std.specs.Prelude.{List, fold}
use Rattle.ipa_names.specs.Declarations.{nothing_declared, with_declaration}
use Rattle.ipa_reader.specs.Arrangements.{nothing_arranged, with_arrangement}
use Rattle.ipa_reader.specs.Ordering.{place_of, next_place}
use Rattle.ipa_forms.specs.declared.forms.Form.{Form}
use Rattle.ipa_names.specs.declared.declared.Declared.{Declared}
use Rattle.ipa_reader.specs.declared.standing.Arranged.{Arranged}
use Rattle.ipa_reader.specs.declared.standing.Standing.{Standing}

-- what is declared, and what is arranged by the numbers of what is declared so far
abbrev pub with_said : Declared × Arranged → Form → Declared × Arranged
with_said (d, a) line = (with_declaration d line, with_arrangement d a line)

abbrev pub said_of : List Form → Declared × Arranged
said_of lines = fold with_said (nothing_declared, nothing_arranged) lines

abbrev pub standing_of : List Form → Standing
standing_of lines = record { place = place_of lines; declared = (said_of lines).0; arranged = (said_of lines).1 }

abbrev pub next_standing : Standing → Form → Standing
next_standing s line = record {
  place = next_place s.place line;
  declared = with_declaration s.declared line;
  arranged = with_arrangement s.declared s.arranged line;
}
