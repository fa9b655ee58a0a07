use Rattle.message_meaning.proofs.Named.{named_opcodes_have_sentences}
use Rattle.message_meaning.proofs.laws.named_opcodes_have_sentences.Goals as goal

pub returns : goal.returns
returns c = named_opcodes_have_sentences
