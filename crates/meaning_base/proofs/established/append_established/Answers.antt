use Rattle.std.proofs.Common.{◌%◌, slice_index}
use Rattle.meaning_words.specs.Notes.{set_lines}
use Rattle.meaning_words.proofs.Joins.{joined}
use Rattle.meaning_base.specs.Established.{established_rows, established_bits, own_meanings, established_meanings}
use Rattle.meaning_base.proofs.established.append_established.Goals as goal

pub returns : goal.returns
unfolding established_meanings
returns c =
    let bytes = c.args.bytes.now in
    joined _ _ _ (set_lines established_rows (established_bits bytes)) (own_meanings (slice_index bytes 2 % 128)) c.append_timings.ensures.items c.append_own.ensures
