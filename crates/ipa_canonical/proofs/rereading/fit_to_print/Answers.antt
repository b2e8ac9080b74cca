use Rattle.std.proofs.Common.{sym, subst}
use Rattle.ipa_text.specs.Lines.{lines_of}
use Rattle.ipa_reader.specs.Standings.{standing_of}
use Rattle.ipa_canonical.specs.Shapes.{IsShaped}
use Rattle.ipa_canonical.specs.Hidden.{HidesNoConstant}
use Rattle.ipa_canonical.specs.Sentences.{HasLiterals}
use Rattle.ipa_canonical.proofs.OpenNames.{hides_none}
use Rattle.ipa_canonical.proofs.Printable.{has_literals, members_said, shaped}
use Rattle.ipa_canonical.proofs.rereading.fit_to_print.Goals as goal

pub returns : goal.returns
returns c = λ bytes document reads.
    let declared = (standing_of reads.forms).declared in
    let spec = sym reads.document_is.spec in
    record {
      faultless = c.document_faultless.ensures bytes document reads;
      shaped = subst IsShaped spec (shaped declared);
      literals = subst HasLiterals spec (has_literals reads.forms (members_said bytes (lines_of bytes) reads.forms reads.said));
      named = subst HidesNoConstant spec (hides_none declared (c.standing_is_sound.ensures.sound reads.forms reads.accepted).declared);
    }
