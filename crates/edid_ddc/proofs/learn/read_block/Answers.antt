use Rattle.std.proofs.Common.{◌≡◌, ◌+◌, ◌*◌, ◌/◌, ◌%◌, true, ap, sym, ◌∙◌, refl}
use Rattle.edid_ddc.specs.Bus.{Bus, byte_at, has_segment}
use Rattle.edid_ddc.proofs.Blocks.{block_is}
use Rattle.edid_ddc.proofs.learn.read_block.Goals as goal

pub returns-clause-read : goal.returns-clause-read
returns-clause-read c =
    let bytes = c.args.ddc.now.bytes in
    let block = c.args.block in
    let set : c.offset.new.self ≡ record { bytes = bytes; segment = block / 2; offset = block % 2 * 128 } =
    c.offset.ensures ∙ ap (λ (b : Bus). record b { offset = block % 2 * 128 }) c.in_ok-segment.ensures.ok in
    let there : has_segment bytes (block / 2) ≡ true = c.in_ok-segment.ensures.accepted.0 refl in (
      there,
      block_is bytes c.read.new.out block c.requires c.read.auto.out there (λ k h.
          ap (λ (b : Bus). byte_at b.bytes b.segment ((b.offset + k) % 256)) (sym set) ∙ c.read.ensures.bytes k h),
    )
