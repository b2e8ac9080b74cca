use Rattle.std.proofs.Common.{length, refl}
use Rattle.std.specs.Cmp.Lexicographic.{same_text}
use Rattle.std.proofs.lemmas.Option.{slice_get_read}
use Rattle.ipa_pairs.proofs.groundings.place_among.Goals as goal

pub returns-then-eq : goal.returns-then-eq
returns-then-eq c = record {
  found = c.index-grounded-place.result;
  there = slice_get_read c.args.grounded.now (length c.args.grounded.now) c.loop-place.place c.index-grounded-place.result refl c.loop-place-test.true c.index-grounded-place.is;
  over = λ i. record { sizes = same_text c.index-grounded-place.result.universe.sizes c.args.universe.sizes c.if-eq.ensures i };
}
