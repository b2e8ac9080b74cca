-- A false clause is explained.
use Rattle.std.proofs.Common.{sym}
use Rattle.ipa_sat.proofs.Explained.{FollowsByUnits-clause}
use Rattle.ipa_sat.proofs.Learned.{Learns-learned, learned_range}
use Rattle.ipa_sat.proofs.learn.learn.Goals as goal

pub explain-requires-clause-follows : goal.explain-requires-clause-follows
explain-requires-clause-follows c = rw c.in_ok-broken.ensures.items_if_clones_equal (FollowsByUnits-clause c.args.cnf.now.clauses c.args.place c.in-Some.clause.now (sym c.in-Some.ensures.value))

pub add_clause-requires : goal.add_clause-requires
add_clause-requires c =
    rw c.as_slice.ensures.value (learned_range c.args.cnf.now c.args.trail.now c.explain.new.trail c.in-Some-2.learned c.requires.reasoned (rw c.in-Some-2.is at c.in_ok-learned.ensures.learned))

pub returns-clause-learned : goal.returns-clause-learned
returns-clause-learned c =
    Learns-learned c.args.cnf.now c.add_clause.new.self c.args.trail.now c.jump.new.trail c.push.new.self c.in-Some-2.learned c.len-reason.result
    c.requires.reasoned (c.jump.ensures.kept c.args.cnf.now.clauses c.args.trail.now (rw c.in-Some-2.is at c.in_ok-learned.ensures.learned))
    (rw c.as_slice.ensures.value at c.in_ok-add_clause.ensures.ok)
    c.len-reason.ensures
    c.in_ok-push.ensures.ok
