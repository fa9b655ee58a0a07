use Rattle.std.proofs.Common.{◌≡◌, true, find, is_none, ◌==◌, ap, sym, ◌∙◌, rules}
use borrow.Author.Tests.{tests}
use Rattle.message_table.specs.Table.{named_rows}
use Rattle.message_table.specs.declared.message.Message.TheVariants.{Raw}
use Rattle.message_table.specs.declared.message.Decoded.TheVariants.{Known}
use Rattle.message_table.proofs.TableLemmas.{raw_again, nameless}
use Rattle.message_table.proofs.decoding.decode_operands.Goals as goal

pub returns-then-is_raw : goal.returns-then-is_raw
returns-then-is_raw c =
    ap (λ xs. Known (Raw c.args.code (record { items = xs }))) c.list-then-is_raw.ensures
    ∙ sym (raw_again c.args.code c.args.operands.now (sym c.is_raw.ensures ∙ c.if-is_raw.true))

pub returns-else-is_raw : goal.returns-else-is_raw
returns-else-is_raw c =
    let e : is_none (find (λ r. r.code == c.args.code) named_rows) ≡ true = search (tests, rules) in
    sym (nameless c.args.code c.args.operands.now e (sym c.is_raw.ensures ∙ c.if-is_raw.false))
