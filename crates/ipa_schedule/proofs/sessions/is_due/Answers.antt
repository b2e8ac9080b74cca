use Rattle.std.proofs.Common.{Bool, MatchBool, sym, subst}
use Rattle.ipa_schedule.specs.Turns.{IsDueIn, IsCalmIn}
use Rattle.ipa_schedule.proofs.Ways.{session_of, due_test}
use Rattle.ipa_schedule.proofs.sessions.is_due.Goals as goal

pub returns : goal.returns
returns c =
    let w = c.args.world.now in
    let i = c.args.session in
    let is = c.session-session.ensures in
    let p = c.session-session.result.now in
    let of = session_of w i p c.requires is.seen is.setting is.origin in
    subst (λ (b : Bool). MatchBool b (IsDueIn w i) (IsCalmIn w i)) (sym c.is_some.ensures)
    (due_test w c.law_world_is_lawful.ensures.lawful i p of c.cut-cut.result c.cut-cut.ensures c.next_drop.result
    (c.next_drop.ensures c.cut-cut.result c.cut-cut.ensures))
