use Rattle.std.proofs.Common.{◌≡◌, ℕ, ◌+◌, Bool, cond, length, refl, sym, ◌∙◌, ap, subst, arith}
use Rattle.std.specs.List.{insert}
use Rattle.std.specs.Prelude.{is_ok}
use Rattle.std.proofs.lemmas.List.Edits.{length-insert}
use Rattle.ipa_logic.specs.Facts.{IsRising}
use Rattle.ipa_sets.specs.Places.{is_at}
use Rattle.ipa_sets.proofs.PlaceLemmas.{put-rising}
use Rattle.ipa_sets.proofs.known.Known.insert_at.Goals as goal

pub invariant_of-self-2 : goal.invariant_of-self-2
invariant_of-self-2 c =
    let room = c.requires.room in
    let within = c.requires.split.within in
    let level = c.args.self.now.even in
    let facts : c.insert.new.self.items ≡ insert c.args.self.now.facts.items c.args.place c.args.fact
    = c.insert.ensures.items ∙ ap (λ (b : Bool). cond b (insert c.args.self.now.facts.items c.args.place c.args.fact) c.args.self.now.facts.items)
    (c.insert.ensures.succeeds (let r = room.facts in omega (arith, r))) in
    let truths : c.insert-2.new.self.items ≡ insert c.args.self.now.truths.items c.args.place c.args.truth
    = c.insert-2.ensures.items ∙ ap (λ (b : Bool). cond b (insert c.args.self.now.truths.items c.args.place c.args.truth) c.args.self.now.truths.items)
    (c.insert-2.ensures.succeeds (let r = room.truths in omega (arith, r))) in
    let more = length-insert c.args.self.now.facts.items c.args.place c.args.fact within in
    let too = length-insert c.args.self.now.truths.items c.args.place c.args.truth (omega (arith, within, level)) in
    record {
      rising = subst IsRising (sym c.insert.ensures.items)
          (put-rising c.args.fact c.args.self.now.facts.items c.args.self.now.facts.items c.args.place refl c.args.self.now.rising c.requires.split
          (is_at c.args.self.now.facts.items c.args.place c.args.fact) refl c.requires.other (is_ok c.insert.result));
      even = ap length truths ∙ (too ∙ (ap (λ (n : ℕ). n + 1) level ∙ (sym more ∙ sym (ap length facts))));
    }
