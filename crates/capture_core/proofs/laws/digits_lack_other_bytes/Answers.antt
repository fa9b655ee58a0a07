use Rattle.capture_core.proofs.Bytes as Bytes
use Rattle.capture_core.proofs.Texts as Texts
use Rattle.capture_core.proofs.laws.digits_lack_other_bytes.Goals as goal

pub returns-clause-digits : goal.returns-clause-digits
returns-clause-digits c = Texts.digits_lack

pub returns-clause-number : goal.returns-clause-number
returns-clause-number c = Texts.number_lacks

pub returns-clause-below : goal.returns-clause-below
returns-clause-below c = Bytes.no_byte

pub returns-clause-line_feed : goal.returns-clause-line_feed
returns-clause-line_feed c = Texts.number_plain
