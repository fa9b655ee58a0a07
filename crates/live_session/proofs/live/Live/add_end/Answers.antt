use Rattle.std.proofs.Common.{ℕ, List, ◌++◌, refl, subst}
use Rattle.std.specs.List.{flat_map}
use Rattle.text_core.specs.Adds.{Adds}
use Rattle.text_core.proofs.Adding.{then}
use Rattle.device_core.specs.State.{State}
use Rattle.room_trace.specs.Records.{end_text, state_text}
use Rattle.room_run.specs.Run.{end_reported}
use Rattle.live_session.specs.Live.{session_of}
use Rattle.live_session.specs.Session.{taken_text}
use Rattle.live_session.specs.Turns.{reporting_of}
use Rattle.live_session.proofs.Saying.{end_is, says_text}
use Rattle.live_session.proofs.live.Live.add_end.Goals as goal

pub returns : goal.returns
returns g c =
    let here = c.self.inside in
    let reporting = reporting_of here.form here.edid.value in
    let lines : Adds c.args.text.now c.add_last_lines.new.out (flat_map (state_text here.form) here.net.devices ++ end_text here.form here.horizon) =
    subst (λ (devices : List State). Adds c.args.text.now c.add_last_lines.new.out (flat_map (state_text here.form) devices ++ end_text here.form here.horizon)) c.devices.ensures c.add_last_lines.ensures in
    let end : Adds c.args.text.now c.add_last_lines.new.out (end_reported reporting here.horizon here.net) =
    subst (λ (t : List ℕ). Adds c.args.text.now c.add_last_lines.new.out t) (end_is here.form here.edid.value here.horizon here.net) lines in
    says_text (λ form s. end_reported s.reporting s.horizon s.place.net ++ taken_text form s.horizon) here.form here.edid.value (session_of here) c.args.self.now c.args.text.now c.add_taken.new.out refl c.self.view_is
    (then c.args.text.now c.add_last_lines.new.out c.add_taken.new.out (end_reported reporting here.horizon here.net) (taken_text here.form here.horizon) end c.add_taken.ensures)
