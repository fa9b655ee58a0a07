use Rattle.std.proofs.Common.{rules, ◌≡◌, ◌/◌, ◌%◌, [], codes}
use Rattle.meaning_words.specs.Notes.{set_words}
use Rattle.meaning_extended.specs.Colours.{range_rows, scan_words}
use Rattle.meaning_extended.proofs.Parts.{four_alone}
use Rattle.meaning_extended.proofs.colours.capability_note.Goals as goal

pub returns-clause-value : goal.returns-clause-value
returns-clause-value c =
    let none : c.new-words.result.items ≡ [] = search rules in
    four_alone c.new-words.result.items c.append_range_bits.new.note.items c.append_scan.new.note.items c.append_scan-2.new.note.items c.append_scan-3.new.note.items
    (set_words range_rows c.args.bits) (scan_words [] (codes ", preferred timing ") (c.args.bits / 16 % 4))
    (scan_words (codes ", no IT formats") (codes ", IT formats ") (c.args.bits / 4 % 4)) (scan_words (codes ", no CE formats") (codes ", CE formats ") (c.args.bits % 4))
    none c.append_range_bits.ensures.items c.append_scan.ensures.items c.append_scan-2.ensures.items c.append_scan-3.ensures.items
