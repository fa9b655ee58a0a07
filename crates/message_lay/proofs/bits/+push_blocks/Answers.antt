use Rattle.std.proofs.Common.{◌≡◌, ◌==◌, ◌≤◌, ◌++◌, ◌∷◌, [], List, ℕ, suc, Bool, true, false, length, drop, slice_index_or, refl, sym, ap, append_assoc, append-nil, arith}
use Rattle.std.proofs.lemmas.Bool.Decides.{nat_tests}
use Rattle.std.proofs.lemmas.List.{map-append, take_rest}
use Rattle.line_frames.specs.Bits.{block_bits, frame_bits}
use Rattle.message_lay.proofs.bits.+push_blocks.Goals as goal

-- a block, and the rest
frame_bits-block : (bytes : List ℕ) → 1 ≤ length bytes → frame_bits bytes ≡ block_bits (slice_index_or bytes 0 0) (length (drop 1 bytes) == 0) ++ frame_bits (drop 1 bytes)
frame_bits-block [] h = absurd (omega arith)
frame_bits-block (b ∷ []) h = sym (append-nil (block_bits b true))
frame_bits-block (b ∷ c ∷ bs) h =
    let more : (suc (length bs) == 0) ≡ false = grind (arith, nat_tests) in
    ap (λ (last : Bool). block_bits b last ++ frame_bits (c ∷ bs)) (sym more)

pub returns : goal.returns
returns t c =
    let block = frame_bits-block c.args.bytes.now c.in-len1-up.len_at_least in
    rw (c.push_blocks.ensures, c.push_block.ensures, append_assoc, block, map-append) (rw (c.is_empty.ensures, take_rest) refl)
