use Rattle.std.proofs.Common.{◌∙◌}
use Rattle.program_edids.proofs.SoundLemmas.{spoken_made}
use Rattle.program_edids.proofs.edid.spoken_bytes.Goals as goal

pub returns-in-Ok : goal.returns-in-Ok
returns-in-Ok c =
    spoken_made c.args.port c.args.bytes.now c.in_ok-passed.passed.items c.as_slice.result.now c.in-Ok.spoken.items _ c.in_port.result
    c.in_port.ensures c.in_ok-passed.ensures c.as_slice.ensures.value c.in-Ok.ensures.spoken
    (c.in_ok-to_vec-in-Ok.ensures.items_if_clones_equal (λ x y e. e) ∙ c.as_slice-in-Ok.ensures.value)
