use Rattle.ipa_world.specs.Worlds.{start_of}
use Rattle.ipa_world.specs.LawfulLaws.{start-lawful}
use Rattle.ipa_world.specs.RunLaws.{run-lawful}
use Rattle.ipa_world.specs.SenderLaws.{start-truly, run-truly, withheld-there}
use Rattle.ipa_world.proofs.laws.law_none_is_withheld.Goals as goal

pub returns : goal.returns
returns c = λ s works n steps w setup run room.
    let start = start-lawful s works n setup.setting setup.sessions setup.some setup.few setup.replicas setup.fits in
    withheld-there w (run-lawful (start_of s works n) steps w start run room)
    (run-truly (start_of s works n) steps w start (start-truly s works n) run room)
