use Rattle.room_run.specs.declared.run.Reporting.TheVariants.{Trace, Objects, Line}
use Rattle.room_run.specs.Run.{start, IsRunText}
use Rattle.room_run.proofs.Whole.{written_cut}
use Rattle.room_run.proofs.run.run.Goals as goal

pub returns-in-Trace-clause-cut : goal.returns-in-Trace-clause-cut
returns-in-Trace-clause-cut g c =
    rw c.in-Trace.is (written_cut (IsRunText (Trace c.in-Trace.edid) c.args.end (start c.args.net.now c.args.events.now)) _ _ _ _ c.write_trace.result c.write_trace.ensures)

pub returns-in-Objects-clause-cut : goal.returns-in-Objects-clause-cut
returns-in-Objects-clause-cut g c =
    rw c.in-Objects.is (written_cut (IsRunText (Objects c.in-Objects.edid c.in-Objects.room) c.args.end (start c.args.net.now c.args.events.now)) _ _ _ _ c.write_objects.result c.write_objects.ensures)

pub returns-in-Line-clause-cut : goal.returns-in-Line-clause-cut
returns-in-Line-clause-cut g c =
    rw c.in-Line.is (written_cut (IsRunText (Line c.in-Line.format) c.args.end (start c.args.net.now c.args.events.now)) _ _ _ _ c.write_line.result c.write_line.ensures)
