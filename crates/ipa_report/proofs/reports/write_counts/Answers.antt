use Rattle.std.proofs.Common.{◌≡◌, ℕ, List, ◌++◌, codes, ◌∙◌, ap, append_assoc}
use Rattle.std.specs.Fmt.{decimal}
use Rattle.std.proofs.lemmas.Result.{on_ok_weaker}
use Rattle.ipa_report.proofs.reports.write_counts.Goals as goal

-- two labelled numbers and an end, one behind another
joined : (page a x b y z p q r : List ℕ) → p ≡ page ++ (a ++ x) → q ≡ p ++ (b ++ y) → r ≡ q ++ z → r ≡ page ++ (a ++ x ++ b ++ y ++ z)
joined page a x b y z p q r e f g =
    let e' : p ++ (b ++ y) ≡ (page ++ (a ++ x)) ++ (b ++ y) = ap (λ t. t ++ (b ++ y)) e in
    let f' : q ++ z ≡ ((page ++ (a ++ x)) ++ (b ++ y)) ++ z = ap (λ t. t ++ z) (f ∙ e') in
    g ∙ f' ∙ (simp append_assoc)

pub returns : goal.returns
returns c = on_ok_weaker c.text.result
    (joined c.args.page.now (codes "conflicts ") (decimal c.args.conflicts) (codes ", unsafe drops ") (decimal c.args.unsafe_drops) (codes "\n")
    c.write_count.new.page c.write_count-2.new.page c.text.new.self c.in_ok-write_count.ensures c.in_ok-write_count-2.ensures)
    c.text.ensures.ok
