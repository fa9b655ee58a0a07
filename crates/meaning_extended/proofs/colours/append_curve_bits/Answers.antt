use Rattle.std.proofs.Common.{rules, ◌≡◌, ◌++◌, ◌∙◌, ap}
use Rattle.meaning_words.specs.Notes.{set_words}
use Rattle.meaning_extended.specs.Colours.{curve_rows}
use Rattle.meaning_extended.proofs.colours.append_curve_bits.Goals as goal

pub returns-clause-items : goal.returns-clause-items
returns-clause-items c =
    let e : c.append_bits.new.note.items ≡ c.args.note.now.items ++ set_words curve_rows c.from.result = c.append_bits.ensures.items in
    let n : c.from.result ≡ c.args.bits = search rules in
    e ∙ ap (λ n. c.args.note.now.items ++ set_words curve_rows n) n
