use Rattle.std.proofs.Common.{◌≡◌, ◌+◌, ◌≤◌, ◌∷◌, [], List, Bool, false, length, drop, slice_index_or, refl, append_assoc, arith}
use Rattle.std.proofs.lemmas.List.{take_rest}
use Rattle.line_frames.specs.Blocks.{bit_value, bytes_of}
use Rattle.line_frames.proofs.blocks.+push_bytes.Goals as goal

-- a block, and the rest
bytes_of-block : (bits : List Bool) → 10 ≤ length bits → bytes_of bits
    ≡ (bit_value 128 (slice_index_or bits 0 false) + bit_value 64 (slice_index_or bits 1 false) + bit_value 32 (slice_index_or bits 2 false) + bit_value 16 (slice_index_or bits 3 false)
    + (bit_value 8 (slice_index_or bits 4 false) + bit_value 4 (slice_index_or bits 5 false) + bit_value 2 (slice_index_or bits 6 false) + bit_value 1 (slice_index_or bits 7 false)))
    ∷ bytes_of (drop 10 bits)
bytes_of-block [] h = absurd (omega arith)
bytes_of-block (a ∷ []) h = absurd (omega arith)
bytes_of-block (a ∷ b ∷ []) h = absurd (omega arith)
bytes_of-block (a ∷ b ∷ c ∷ []) h = absurd (omega arith)
bytes_of-block (a ∷ b ∷ c ∷ d ∷ []) h = absurd (omega arith)
bytes_of-block (a ∷ b ∷ c ∷ d ∷ e ∷ []) h = absurd (omega arith)
bytes_of-block (a ∷ b ∷ c ∷ d ∷ e ∷ f ∷ []) h = absurd (omega arith)
bytes_of-block (a ∷ b ∷ c ∷ d ∷ e ∷ f ∷ g ∷ []) h = absurd (omega arith)
bytes_of-block (a ∷ b ∷ c ∷ d ∷ e ∷ f ∷ g ∷ i ∷ []) h = absurd (omega arith)
bytes_of-block (a ∷ b ∷ c ∷ d ∷ e ∷ f ∷ g ∷ i ∷ j ∷ []) h = absurd (omega arith)
bytes_of-block (a ∷ b ∷ c ∷ d ∷ e ∷ f ∷ g ∷ i ∷ j ∷ k ∷ bits) h = refl

pub returns : goal.returns
returns t c =
    let block = bytes_of-block c.args.bits.now c.in-len10-up.len_at_least in
    rw (c.push_bytes.ensures, c.push.ensures.items, append_assoc, block)
    (rw (c.bit_value.ensures.value, c.bit_value-2.ensures.value, c.bit_value-3.ensures.value, c.bit_value-4.ensures.value, c.bit_value-5.ensures.value, c.bit_value-6.ensures.value, c.bit_value-7.ensures.value, c.bit_value-8.ensures.value, take_rest) refl)
