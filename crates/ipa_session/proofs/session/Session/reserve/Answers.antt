use Rattle.std.proofs.Common.{◌∙◌, arith}
use Rattle.ipa_session.proofs.session.Session.reserve.Goals as goal

pub invariant_of-self-in_err-reserve-2 : goal.invariant_of-self-in_err-reserve-2
invariant_of-self-in_err-reserve-2 c = record {
  session = c.self.invariant.session;
  clock = c.self.invariant.clock;
  calm_is = c.self.invariant.calm_is;
  facts_are = c.reserve-then-self-eq0.ensures.same c.self.inside.setting.spec c.self.inside.setting.base c.self.inside.seen
      c.self.invariant.facts_are;
  empty = c.reserve.ensures.items ∙ c.self.invariant.empty;
  few = c.self.invariant.few;
  spare = λ some. absurd (omega (arith, some, c.if-self-eq0.true));
}

pub invariant_of-self-then-self-eq0 : goal.invariant_of-self-then-self-eq0
invariant_of-self-then-self-eq0 c = record {
  session = record {
    origin = c.self.invariant.session.origin;
    legal = c.self.invariant.session.legal;
    shaped = c.self.invariant.session.shaped;
  };
  clock = c.self.invariant.clock;
  calm_is = c.self.invariant.calm_is;
  facts_are = c.reserve-then-self-eq0.ensures.same c.self.inside.setting.spec c.self.inside.setting.base c.self.inside.seen
      c.self.invariant.facts_are;
  empty = c.reserve.ensures.items ∙ c.self.invariant.empty;
  few = omega arith;
  spare = λ some. record {
    facts_have = c.in_ok-reserve-2.ensures.room;
    wide = let room = c.in_ok-reserve.ensures.ok in let size = c.len.ensures in omega (arith, room, size);
  };
}
