use Rattle.std.proofs.Common.{is_some, sym, ap, ◌∙◌}
use Rattle.edid_dump.specs.Digits.{bytes_with_row, listed}
use Rattle.edid_dump.proofs.Remarking.{code_is, plain_is}
use Rattle.edid_dump.proofs.lists.push_code.Goals as goal

pub push_listed-requires : goal.push_listed-requires
push_listed-requires c = ap is_some (sym (plain_is c.args.text.now c.in-None.ensures)) ∙ c.requires

pub returns-in-None : goal.returns-in-None
returns-in-None c = ap (bytes_with_row c.args.bytes.now.items) (plain_is c.args.text.now c.in-None.ensures) ∙ c.push_listed.ensures

pub push_listed-requires-in-Some : goal.push_listed-requires-in-Some
push_listed-requires-in-Some c =
    let e = code_is c.args.text.now c.in-Some.place c.in-Some.ensures c.requires in
    ap is_some (ap listed c.before-in-Some.ensures ∙ sym e) ∙ c.requires

pub returns-in-Some : goal.returns-in-Some
returns-in-Some c =
    let e = code_is c.args.text.now c.in-Some.place c.in-Some.ensures c.requires in
    ap (bytes_with_row c.args.bytes.now.items) (e ∙ ap listed (sym c.before-in-Some.ensures)) ∙ c.push_listed-in-Some.ensures
