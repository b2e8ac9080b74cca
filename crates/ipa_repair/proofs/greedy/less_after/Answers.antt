use Rattle.std.proofs.Common.{List, ◌<◌, length, arith}
use Rattle.std.proofs.lemmas.Option.{MatchOption-at_some, MatchOption-at_none}
use Rattle.ipa_pairs.specs.Width.{IsNarrow, IsDeclared}
use Rattle.ipa_repair.specs.Showing.{AreClashes}
use Rattle.ipa_repair.specs.declared.clashes.Clash.{Clash}
use Rattle.ipa_repair.proofs.GreedyLemmas.{lessens-from, lessens-not, lessens-wide}
use Rattle.ipa_repair.proofs.greedy.less_after.Goals as goal

pub returns-in-None : goal.returns-in-None
returns-in-None c =
    let n = c.in_ok-next.next in
    lessens-wide c.args.spec.now n c.args.offer.now.parts c.in_ok-next.ensures
    (MatchOption-at_none (IsNarrow n (IsDeclared n) → ⊥) (λ (after : List Clash). IsNarrow n (IsDeclared n) × AreClashes n after) c.in-None.is
    c.in_ok-clashes_after.ensures)

pub returns-then-len-pairs : goal.returns-then-len-pairs
returns-then-len-pairs c =
    lessens-not c.args.spec.now c.in_ok-next.next c.args.offer.now.parts c.in_ok-next.ensures c.args.pairs.now c.in_ok-left.left
    c.requires.pairs c.in_ok-left.ensures (omega (arith, c.len.ensures, c.if-len-pairs.true))

pub returns : goal.returns
returns c =
    let s = c.args.spec.now in
    let n = c.in_ok-next.next in
    let found =
    MatchOption-at_some (IsNarrow n (IsDeclared n) → ⊥) (λ (after : List Clash). IsNarrow n (IsDeclared n) × AreClashes n after) c.in-Some.clashes c.in-Some.is
    c.in_ok-clashes_after.ensures in
    let fewer : length c.in_ok-left.left < length c.args.pairs.now = omega (arith, c.len.ensures, c.if-len-pairs.false) in
    record {
      leads = c.in_ok-next.ensures;
      lessens = lessens-from s n c.args.offer.now.parts c.in_ok-next.ensures c.args.pairs.now c.in_ok-left.left found.0 c.requires.pairs c.in_ok-left.ensures fewer;
      to = record { narrow = found.0; clashes_are = found.1; are = c.in_ok-left.ensures; fewer = fewer };
    }
