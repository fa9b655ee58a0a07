use Rattle.std.proofs.Common.{[], ◌∙◌, append-nil, sym}
use Rattle.follow_core.specs.Shown.{ended_lines}
use Rattle.follow_core.proofs.Showing.{plain_last}
use Rattle.follow_core.proofs.shown.write_plain_last.Goals as goal

pub returns : goal.returns
returns g c =
    let wrote = c.write_plain.ensures in
    (wrote.0, plain_last (ended_lines c.args.starts c.args.shown.is_held c.args.heard.now) wrote.0 wrote.1.lines, wrote.2)
