use Rattle.std.proofs.Common.{rules}
use Rattle.meaning_words.specs.Formats.{format_of}
use Rattle.meaning_words.proofs.formats.format_of.Goals as goal

pub returns : goal.returns
unfolding format_of
returns c = search rules
