use Rattle.std.proofs.Common.{List, drop, ap, refl, sym, subst}
use Rattle.room_script.specs.Script.{notes_of}
use Rattle.room_script.specs.declared.script.TimedEvent.{TimedEvent}
use Rattle.live_session.specs.Session.{IsReady, Session, Standing}
use Rattle.live_session.specs.Live.{session_of}
use Rattle.live_session.specs.Turns.{reporting_of}
use Rattle.live_session.proofs.NoteCalls.{note_kept, noted_is}
use Rattle.live_session.proofs.live.Live.note.Goals as goal

pub invariant_of-self : goal.invariant_of-self
invariant_of-self c =
    let here = c.self.inside in
    let s = session_of here in
    let t : Standing = record { notes = notes_of c.note_line.new.draft; horizon = c.note_line.new.horizon; net = c.note_line.new.net } in
    let k = note_kept s t c.args.line.now here.applied c.note_line.result refl c.self.invariant.1 c.self.invariant.0 c.note_line.ensures in (
      subst (λ (es : List TimedEvent). IsReady (record { reporting = reporting_of here.form here.edid.value; tree = here.tree; notes = t.notes; horizon = t.horizon; lines = here.lines; place = record { net = t.net; events = es; totals = here.totals }; edges = here.edges; since = here.since; seats = here.seats }))
          (sym k.left) k.ready,
      k.few,
      c.self.invariant.2,
    )

pub returns : goal.returns
returns c =
    let here = c.self.inside in
    let s = session_of here in
    let t : Standing = record { notes = notes_of c.note_line.new.draft; horizon = c.note_line.new.horizon; net = c.note_line.new.net } in
    let k = note_kept s t c.args.line.now here.applied c.note_line.result refl c.self.invariant.1 c.self.invariant.0 c.note_line.ensures in
    noted_is s c.args.self.now (record { reporting = reporting_of here.form here.edid.value; tree = here.tree; notes = t.notes; horizon = t.horizon; lines = here.lines; place = record { net = t.net; events = drop here.applied t.notes.events; totals = here.totals }; edges = here.edges; since = here.since; seats = here.seats }) t
    c.args.line.now c.note_line.result c.self.view_is
    (ap (λ (es : List TimedEvent). let v : Session = record { reporting = reporting_of here.form here.edid.value; tree = here.tree; notes = t.notes; horizon = t.horizon; lines = here.lines; place = record { net = t.net; events = es; totals = here.totals }; edges = here.edges; since = here.since; seats = here.seats } in v) k.left)
    c.note_line.ensures
