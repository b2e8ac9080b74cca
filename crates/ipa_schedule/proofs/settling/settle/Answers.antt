use Rattle.ipa_schedule.specs.Running.{run_of}
use Rattle.ipa_schedule.proofs.Ways.{goes_err}
use Rattle.ipa_schedule.proofs.Giving.{settled_first, settled_calm}
use Rattle.ipa_schedule.proofs.settling.settle.Goals as goal

pub returns-in_err-exchange-clause-went : goal.returns-in_err-exchange-clause-went
returns-in_err-exchange-clause-went c =
    let next = c.exchange.new.world in
    let more = c.exchange.new.progress in
    goes_err c.from_residual-in_err-exchange.result c.in_err-exchange.field-0.0 more.full _ _
    c.from_residual-in_err-exchange.ensures.1 c.in_err-exchange.ensures.went
    (settled_first (run_of c.args.world.now c.args.progress.now) (run_of next more))

pub returns-in_err-calm_first-clause-went : goal.returns-in_err-calm_first-clause-went
returns-in_err-calm_first-clause-went c =
    let next = c.calm_first.new.world in
    let more = c.calm_first.new.progress in
    goes_err c.from_residual-in_err-calm_first.result c.in_err-calm_first.field-0.0 more.full _ _
    c.from_residual-in_err-calm_first.ensures.1 c.in_err-calm_first.ensures.went
    (settled_calm (run_of c.args.world.now c.args.progress.now) (run_of c.exchange.new.world c.exchange.new.progress)
    (run_of next more) c.in_ok-exchange.ensures.went.0)
