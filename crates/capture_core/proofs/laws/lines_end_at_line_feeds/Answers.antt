use Rattle.capture_core.proofs.Texts as Texts
use Rattle.capture_core.proofs.laws.lines_end_at_line_feeds.Goals as goal

pub returns : goal.returns
returns c = Texts.line_before
