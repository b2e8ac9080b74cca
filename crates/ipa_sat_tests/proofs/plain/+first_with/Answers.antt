-- The values are tried as they are where there is one for each variable, and else with false and with true next.
use Rattle.std.proofs.Common.{◌≡◌, arith, ap, length}
use Rattle.std.proofs.lemmas.Grind.{common_steps}
use Rattle.ipa_sat_tests.proofs.Trying.{IsFirstWith-true, HasNoneWith-both, OnTrue-whole, OnFalse-whole}
use Rattle.ipa_sat_tests.proofs.plain.+first_with.Goals as goal

pub returns-then-len-vars-clause-first : goal.returns-then-len-vars-clause-first
returns-then-len-vars-clause-first t c = OnTrue-whole c.args.cnf.now c.args.values.now.items c.is_satisfied.result (let e = ap length c.as_slice.ensures.value in omega (arith, e)) (rw c.as_slice.ensures.value at c.is_satisfied.ensures)

pub returns-then-len-vars-clause-none : goal.returns-then-len-vars-clause-none
returns-then-len-vars-clause-none t c = OnFalse-whole c.args.cnf.now c.args.values.now.items c.is_satisfied.result (let e = ap length c.as_slice.ensures.value in omega (arith, e)) (rw c.as_slice.ensures.value at c.is_satisfied.ensures)

pub returns-then-branch-2-clause-first : goal.returns-then-branch-2-clause-first
returns-then-branch-2-clause-first t c =
    let kept = rw c.if-branch.false at c.in_ok-first_with.ensures.kept in
    let back : c.pop.new.self.items ≡ c.args.values.now.items = grind (arith, common_steps, kept, c.in_ok-push.ensures.items, c.pop.ensures.rest) in
    let none = rw c.if-branch.false at c.in_ok-first_with.ensures.none in
    let first = rw c.if-branch-2.true at c.in_ok-first_with-2.ensures.first in
    IsFirstWith-true c.args.cnf.now c.args.values.now.items c.first_with-2.new.values.items
    (rw c.in_ok-push.ensures.items at none) (rw (c.in_ok-push-2.ensures.items, back) at first)

pub returns-clause-none : goal.returns-clause-none
returns-clause-none t c =
    let kept = rw c.if-branch.false at c.in_ok-first_with.ensures.kept in
    let back : c.pop.new.self.items ≡ c.args.values.now.items = grind (arith, common_steps, kept, c.in_ok-push.ensures.items, c.pop.ensures.rest) in
    let none = rw c.if-branch.false at c.in_ok-first_with.ensures.none in
    let none-2 = rw c.if-branch-2.false at c.in_ok-first_with-2.ensures.none in
    HasNoneWith-both c.args.cnf.now c.args.values.now.items
    (rw c.in_ok-push.ensures.items at none) (rw (c.in_ok-push-2.ensures.items, back) at none-2)
