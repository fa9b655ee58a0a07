use Rattle.std.proofs.Common.{◌<◌, ◌+◌, ◌≡◌, length, arith, sym, ap, subst, ◌∙◌}
use Rattle.line_wave.specs.Bounds.{most_stretches}
use Rattle.line_rounds.specs.declared.recorder.Recorder.{Recorder}
use Rattle.line_rounds.specs.Machine.{IsReady, wave_after, low_since}
use Rattle.line_wire.specs.declared.edge_wire.EdgeWire.{EdgeWire}
use Rattle.line_wire.specs.Wired.{EachLine, IsBegunWith, pulls_in}
use Rattle.line_wire.proofs.Heard.{refreshed, wave_room, wave_ready, heard_on}
use Rattle.line_wire.proofs.edge_wire.EdgeWire.hear.Goals as goal

pub is_pulled-is_low-requires : goal.is_pulled-is_low-requires
is_pulled-is_low-requires c =
    let w = c.refresh.new.self in
    let t : w.time ≡ c.args.self.now.time = ap (λ (x : EdgeWire). x.time) c.refresh.ensures.same in
    sym (c.refresh.ensures.kept.low w.time (omega arith) (omega (arith, t, c.refresh.ensures.later)))

pub tell-requires-clause-begun : goal.tell-requires-clause-begun
tell-requires-clause-begun c = (c.requires.begun.0, refreshed c.requires.begun.0 c.args.self.now c.refresh.new.self c.refresh.ensures.same c.refresh.ensures.kept c.requires.begun.1)

pub hear-requires-clause-room : goal.hear-requires-clause-room
hear-requires-clause-room c =
    subst (λ (x : Recorder). length x.wave < most_stretches) (sym (ap (λ (x : EdgeWire). x.recorder) c.tell.ensures.same))
    (wave_room c.requires.begun.0 c.refresh.new.self (refreshed c.requires.begun.0 c.args.self.now c.refresh.new.self c.refresh.ensures.same c.refresh.ensures.kept c.requires.begun.1))

pub hear-requires-clause-ready : goal.hear-requires-clause-ready
hear-requires-clause-ready c =
    subst (λ (x : Recorder). IsReady x.wave x.low_since c.refresh.new.self.time) (sym (ap (λ (x : EdgeWire). x.recorder) c.tell.ensures.same))
    (wave_ready c.requires.begun.0 c.refresh.new.self (refreshed c.requires.begun.0 c.args.self.now c.refresh.new.self c.refresh.ensures.same c.refresh.ensures.kept c.requires.begun.1))

pub returns-clause-stands : goal.returns-clause-stands
returns-clause-stands c = λ past b.
    let w = c.refresh.new.self in
    let v = c.tell.new.self in
    let first = refreshed past c.args.self.now w c.refresh.ensures.same c.refresh.ensures.kept b in
    let told = c.tell.ensures.stands past first in
    let same : v.recorder ≡ w.recorder = ap (λ (x : EdgeWire). x.recorder) c.tell.ensures.same in (
      subst (λ (x : EdgeWire). IsBegunWith past (record x { time = x.time + 1; recorder = c.hear.new.self })) (sym c.tell.ensures.same)
          (heard_on past w v c.is_pulled-is_low.result c.hear.new.self first (let t : w.time ≡ c.args.self.now.time = ap (λ (x : EdgeWire). x.time) c.refresh.ensures.same in omega (arith, t, c.requires.early)) c.tell.ensures.kept (ap (λ (x : EdgeWire). x.places) c.tell.ensures.same) (ap (λ (x : EdgeWire). x.time) c.tell.ensures.same) c.tell.ensures.level told
          (c.hear.ensures.wave ∙ ap (λ (x : Recorder). wave_after x.wave x.low_since w.time c.is_pulled-is_low.result) same)
          (c.hear.ensures.since ∙ ap (λ (x : Recorder). low_since x.low_since w.time c.is_pulled-is_low.result) same)),
      subst (λ (x : EdgeWire). EachLine x.seats.items x.begin past (x.time + 1) (λ low. low c.args.self.now.time ≡ pulls_in c.args.self.now)) (sym c.tell.ensures.same)
          (λ later low wave late line. ap low (sym (ap (λ (x : EdgeWire). x.time) c.refresh.ensures.same)) ∙ (told later low wave late line).0 ∙ c.is_pulled-is_low.ensures ∙ ap (λ (x : EdgeWire). pulls_in x) c.refresh.ensures.same),
    )
