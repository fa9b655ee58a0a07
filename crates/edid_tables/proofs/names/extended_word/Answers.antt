use Rattle.edid_tables.specs.Names.{extended_tag}
use Rattle.edid_tables.proofs.names.extended_word.Goals as goal

pub returns : goal.returns
unfolding extended_tag
returns c = c.word_in.ensures
