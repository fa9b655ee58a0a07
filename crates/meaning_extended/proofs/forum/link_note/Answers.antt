use Rattle.std.proofs.Common.{rules, ◌≡◌, [], ◌++◌, codes, ap, ◌∙◌}
use Rattle.meaning_words.specs.Notes.{text_between}
use Rattle.meaning_extended.specs.Forum.{clock_words, fixed_words, flag_words}
use Rattle.meaning_extended.proofs.Parts.{four_alone}
use Rattle.meaning_extended.proofs.forum.link_note.Goals as goal

pub returns-clause-value : goal.returns-clause-value
returns-clause-value c =
    let b = c.args.block in
    let none : c.new-words.result.items ≡ [] = search rules in
    let number : c.from.result ≡ c.args.block.version = search rules in
    let version : c.append_between.new.note.items ≡ c.new-words.result.items ++ text_between (codes ", HDMI Forum version ") b.version [] =
    c.append_between.ensures.items ∙ ap (λ n. c.new-words.result.items ++ text_between (codes ", HDMI Forum version ") n []) number in
    four_alone c.new-words.result.items c.append_between.new.note.items c.append_clock.new.note.items c.append_link_flags.new.note.items c.append_fixed.new.note.items
    (text_between (codes ", HDMI Forum version ") b.version []) (clock_words b.max_rate) (flag_words b) (fixed_words b)
    none version c.append_clock.ensures.items c.append_link_flags.ensures.items c.append_fixed.ensures.items
