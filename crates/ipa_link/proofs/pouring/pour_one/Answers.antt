use Rattle.std.proofs.Common.{ℕ, List, refl, sym, ◌∙◌, subst}
use Rattle.std.proofs.lemmas.List.{take_rest}
use Rattle.ipa_frame.specs.Frames.{IsRead}
use Rattle.ipa_link.proofs.Steps.{not_wanting}
use Rattle.ipa_link.proofs.pouring.pour_one.Goals as goal

pub returns-clause-step : goal.returns-clause-step
returns-clause-step c = let front = subst (λ (rest : List ℕ). IsRead rest c.in_ok-frame.frame c.in_ok-frame.size)
    (take_rest c.args.bytes.now c.args.poured.read) c.in_ok-frame.ensures.exact in record {
      receipt = record { frame = c.in_ok-frame.frame; answer = c.receive-answer.result };
      size = c.in_ok-frame.size;
      front = front;
      taken = record {
        is_frame = front.is_frame;
        answered = c.receive-answer.ensures.answered;
        memory = not_wanting c.receive-answer.result (sym c.is_wanting.ensures ∙ c.if-is_wanting.false);
      };
      added = record {
        fresh = c.counted-counted.ensures.added.fresh;
        known = c.counted-counted.ensures.added.known;
        refused = c.counted-counted.ensures.added.refused;
        heard = c.counted-counted.ensures.added.heard;
      };
      read = refl;
      left = c.receive-answer.ensures.entries;
    }
