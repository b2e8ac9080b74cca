use Rattle.std.proofs.Common.{◌≡◌, Some, sym, subst, ◌∙◌, arith}
use Rattle.std.specs.List.{slice_set}
use Rattle.ipa_journal.specs.Parts.{number_part}
use Rattle.ipa_journal.proofs.CountLemmas.{count_more, CountMore}
use Rattle.ipa_journal.proofs.transactions.counts_in.Goals as goal

pub loop-part-preserved : goal.loop-part-preserved
loop-part-preserved c =
    let i = c.loop-part.part-index in
    let x = c.in_ok-counts.field-0 in
    let said : number_part c.part-item.result ≡ Some x = sym c.number_part.ensures ∙ c.in_ok-counts.was in
    let at : i ≡ c.loop-part.place = sym c.loop-part.invariant.counted in
    let more = subst (λ k. CountMore c.args.parts.now i x (slice_set c.loop-part.counts k x)) at
    (count_more c.args.parts.now i x c.part-item.result c.loop-part.counts c.loop-part-test.true (omega arith) c.part-item.is said c.loop-part.invariant.numbers c.loop-part.invariant.counts) in
    record { counted = omega (arith, c.loop-part.invariant.counted); numbers = more.numbers; counts = more.counts }
