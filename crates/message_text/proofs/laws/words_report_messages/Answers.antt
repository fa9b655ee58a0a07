use Rattle.message_text.proofs.MessageLemmas.{words_exact, words_named}
use Rattle.message_text.proofs.laws.words_report_messages.Goals as goal

pub returns : goal.returns
returns c = λ code operands text bytes e.
    c.messages_keep_operands.ensures code operands (words_named code operands text e) bytes (words_exact code operands text e)
