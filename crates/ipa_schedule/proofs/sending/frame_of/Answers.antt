use Rattle.std.proofs.Common.{rules, subst}
use Rattle.ipa_frame.specs.Frames.{HasTxWidths}
use Rattle.ipa_schedule.proofs.sending.frame_of.Goals as goal

pub returns-in_err-bytes-clause-framed : goal.returns-in_err-bytes-clause-framed
returns-in_err-bytes-clause-framed c =
    let widths : HasTxWidths c.copied-copy.result = record {
      number = search rules;
      counts = record { sized = search rules; fit = λ place. search rules };
      arguments = search rules;
      fit = λ place. search rules;
    } in
    record { range = c.requires; widths = subst HasTxWidths c.copied-copy.ensures widths }

pub returns-clause-framed : goal.returns-clause-framed
returns-clause-framed c =
    let widths : HasTxWidths c.copied-copy.result = record {
      number = search rules;
      counts = record { sized = search rules; fit = λ place. search rules };
      arguments = search rules;
      fit = λ place. search rules;
    } in
    record { range = c.requires; widths = subst HasTxWidths c.copied-copy.ensures widths }
