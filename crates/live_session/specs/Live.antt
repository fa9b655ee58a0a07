-- The session that a run holds, by its fields.
use Rattle.std.specs.Prelude.{drop}
use Rattle.room_script.specs.Script.{notes_of}
use Rattle.live_session.specs.Session.{Session}
use Rattle.live_session.specs.Turns.{reporting_of}
use Rattle.live_session.specs.declared.live.Live.TheInside.{Inside}

-- the events that are left are those that were not applied
abbrev pub session_of : Inside → Session
session_of l = record {
  reporting = reporting_of l.form l.edid.value;
  tree = l.tree;
  notes = notes_of l.draft;
  horizon = l.horizon;
  lines = l.lines;
  place = record { net = l.net; events = drop l.applied l.draft.events.items; totals = l.totals };
  edges = l.edges;
  since = l.since;
  seats = l.seats;
}
