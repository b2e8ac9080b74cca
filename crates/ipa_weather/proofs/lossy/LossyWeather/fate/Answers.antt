use Rattle.std.proofs.Common.{◌∙◌}
use Rattle.ipa_weather.proofs.Words.{lossy_due_first, lossy_due_moved}
use Rattle.ipa_weather.proofs.lossy.LossyWeather.fate.Goals as goal

pub returns-clause-fate : goal.returns-clause-fate
returns-clause-fate c = c.fate_of_word.ensures ∙ lossy_due_first _ _ _ c.next_word.ensures

pub returns-clause-moved : goal.returns-clause-moved
returns-clause-moved c = lossy_due_moved _ _ _ c.next_word.ensures
