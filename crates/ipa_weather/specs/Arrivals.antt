-- Which frames arrive, and which are held.
--
--   Frame                           the bytes of a frame
--   passing fate frame              what arrives at once of a frame with this fate
--   holding fate frame              what is held of it
--   passing_of fates frames         what arrives at once of a batch, each frame with its fate
--   held_of fates frames            what is held of the batch
--   arrivals_of fates frames held   what arrives of a batch, where these frames were held before
use Rattle.std.specs.Prelude.{ℕ, List, [], ◌∷◌, ◌++◌}
use Rattle.ipa_history.specs.declared.outcomes.Fate.{Fate}
use Rattle.ipa_history.specs.declared.outcomes.Fate.TheVariants.{Pass, Lose, Twice, Hold}

abbrev pub Frame : Type 0
Frame = List ℕ

-- a frame arrives once, not at all, or twice in a row
abbrev pub passing : Fate → Frame → List Frame
passing Pass frame = frame ∷ []
passing Lose frame = []
passing Twice frame = frame ∷ frame ∷ []
passing Hold frame = []

abbrev pub holding : Fate → Frame → List Frame
holding Pass frame = []
holding Lose frame = []
holding Twice frame = []
holding Hold frame = frame ∷ []

abbrev pub passing_of : List Fate → List Frame → List Frame
passing_of [] frames = []
passing_of (fate ∷ fates) [] = []
passing_of (fate ∷ fates) (frame ∷ frames) = passing fate frame ++ passing_of fates frames

abbrev pub held_of : List Fate → List Frame → List Frame
held_of [] frames = []
held_of (fate ∷ fates) [] = []
held_of (fate ∷ fates) (frame ∷ frames) = holding fate frame ++ held_of fates frames

-- the frames that were held before arrive last, in the order in which they were held
abbrev pub arrivals_of : List Fate → List Frame → List Frame → List Frame
arrivals_of fates frames held = passing_of fates frames ++ held
