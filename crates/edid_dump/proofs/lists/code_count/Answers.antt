use Rattle.std.proofs.Common.{◌≡◌, true, length, take, drop, sym, ap, ◌∙◌}
use Rattle.std.specs.Option.{option_map}
use Rattle.edid_dump.specs.Digits.{listed}
use Rattle.edid_dump.specs.Remarks.{is_last}
use Rattle.edid_dump.proofs.Remarking.{code_counted}
use Rattle.edid_dump.proofs.lists.code_count.Goals as goal

pub returns-then-is_last : goal.returns-then-is_last
returns-then-is_last c =
    let closed : is_last (drop c.in-Some.place c.args.text.now) ≡ true = ap is_last (sym c.after.ensures) ∙ sym c.is_last.ensures ∙ c.if-is_last.true in
    let counted : c.listed_count-then-is_last.result ≡ option_map length (listed (take c.in-Some.place c.args.text.now)) =
    c.listed_count-then-is_last.ensures ∙ ap (λ t. option_map length (listed t)) c.before-then-is_last.ensures in
    code_counted c.args.text.now c.in-Some.place c.listed_count-then-is_last.result c.some_of.result c.in-Some.ensures closed counted c.some_of.ensures
