use Rattle.std.specs.List.{flat_map}
use Rattle.text_core.specs.Lines.{lines_of}
use Rattle.message_lay.specs.Text.{pull_record}
use Rattle.message_lay.proofs.Checking.{pulls_in_order}
use Rattle.message_lay.proofs.lay.write_pulls.Goals as goal

pub returns : goal.returns
returns g c = λ pulls read. c.write_lines.ensures (flat_map (pull_record c.args.form) pulls) (pulls_in_order c.args.form (lines_of c.args.text.now) pulls read)
