use Rattle.ipa_history.proofs.legality.judge_drop.Goals as goal

pub returns-in-Some : goal.returns-in-Some
returns-in-Some c = record { due = c.in_ok-due.ensures.0 c.if-not-due.false; first = c.in-Some.ensures }

pub returns : goal.returns
returns c = record { due = c.in_ok-due.ensures.0 c.if-not-due.false; keeps = c.in_default.ensures }
