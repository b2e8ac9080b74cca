use Rattle.ipa_full_laws.proofs.Counted.{entries-few}
use Rattle.ipa_full_laws.proofs.laws.law_entries_are_few.Goals as goal

pub returns : goal.returns
returns c = λ s universe base requests outcomes h fit legal asked.
    entries-few s fit universe base requests outcomes h legal asked
