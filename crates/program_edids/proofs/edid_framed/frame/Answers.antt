use Rattle.infoframe_tables.specs.Bytes.{frame_bytes}
use Rattle.program_edids.specs.Framed.{ShowsOffered, ShowsOfferedBy}
use Rattle.program_edids.specs.Told.{told}
use Rattle.program_edids.proofs.FramedLemmas.{offered}
use Rattle.program_edids.proofs.ShownLemmas.{on_ok}
use Rattle.program_edids.proofs.edid_framed.frame.Goals as goal

pub returns : goal.returns
returns g c =
    let old = g.W.Sink.contents c.args.out.now in
    let new = g.W.Sink.contents c.tell_of.new.out in
    let source = told c.args.source c.args.input.now in
    let frame = frame_bytes c.in_ok-frame.frame in
    on_ok c.tell_of.result (ShowsOfferedBy c.args.form frame c.as_slice.result.now old new)
    (ShowsOffered source c.args.reading c.args.place c.args.form c.args.hex.now c.args.input.now old new)
    (offered c.told.result source c.args.reading c.args.place c.args.form c.args.hex.now c.args.input.now frame c.as_slice.result.now c.in_ok-own.own.items old new c.told.ensures
    c.in_ok-frame.ensures.ok c.in_ok-own.ensures c.as_slice.ensures.value) c.tell_of.ensures
