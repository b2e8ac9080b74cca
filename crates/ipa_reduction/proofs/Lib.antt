pub mod RestrictedStates
pub mod ElementsLemmas
pub mod RenamedParts
pub mod SortsLemmas
pub mod SizesLemmas
pub mod TriplesLemmas
pub mod DropsLemmas
pub mod FalsifyLemmas
