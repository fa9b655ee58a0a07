use Rattle.std.proofs.Common.{refl, ◌∙◌}
use Rattle.edid_cta.proofs.OneTimings.{one_more, room_more}
use Rattle.edid_cta.proofs.reading.read_timings.Goals as goal

pub loop-rest-preserved : goal.loop-rest-preserved
loop-rest-preserved c = record {
  read = one_more c.loop-rest.timings.items c.in-Some.timing c.push.new.self.items c.loop-rest.rest.now c.args.bytes.now
      c.push.ensures.items (c.in-Some.ensures ∙ c.part.ensures) c.loop-rest.invariant.read _ refl;
  room = room_more c.loop-rest.timings.items c.in-Some.timing c.push.new.self.items c.loop-rest.rest.now c.push.ensures.items c.loop-rest-test.true _ c.loop-rest.invariant.room;
}
