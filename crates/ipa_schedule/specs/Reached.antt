-- Worlds that are reached by steps.
--
--   IsReached w after    a list of steps, each of which is one of the world before it, leads from one world to the other
use Rattle.std.specs.Prelude.{List}
use Rattle.ipa_world.specs.Worlds.{WorldParts}
use Rattle.ipa_world.specs.Steps.{IsRun}
use Rattle.ipa_world.specs.declared.steps.Step.{Step}

-- a list of steps, each of which is one of the world before it, leads from one world to the other
pub record IsReached (w after : WorldParts) : Type 0 where
  pub steps : List Step
  pub run : IsRun w steps after
