use Rattle.std.proofs.Common.{◌≡◌, Some, sym, ap, ◌∙◌, arith}
use Rattle.message_text.proofs.Spelled.{vendor_again}
use Rattle.message_text.specs.FrameText.{operand_word, vendor_words}
use Rattle.message_text.proofs.reading.operand_bytes.Goals as goal

pub returns-in-Vendor : goal.returns-in-Vendor
returns-in-Vendor c = λ xs bytes e.
    let words : vendor_words xs ≡ Some c.args.text.now = sym (ap (λ f. operand_word f xs) c.in-Vendor.is) ∙ e in
    let again = vendor_again xs c.args.text.now bytes words in
    let items = c.list-in-Vendor.ensures (omega arith) in
    cc (again, items)
