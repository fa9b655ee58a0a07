-- What `as_source` gives, by its parts.
use Rattle.std.proofs.Common.{◌≡◌, refl, ◌∙◌, ap, ℕ, ◌*◌, ◌/◌, ◌≤◌, arith, List, ◌++◌, length, drop, Option, Some, None, Ok, length-drop}
use Rattle.edid_core.specs.declared.bytes.EdidError.{EdidError}
use Rattle.edid_as_source.specs.Count.{extension_count}
use Rattle.edid_as_source.specs.Extensions.{blocks_taken, overridden}
use Rattle.edid_as_source.specs.Front.{mended_block}
use Rattle.edid_as_source.specs.Source.{as_source, refusal, source_bytes, source_by, with_extensions}
use Rattle.edid_as_source.proofs.Accepting.{room_for}
use Rattle.edid_as_source.proofs.Taken.{AreKept, FewKept, kept_len, overridden_kept, taken_kept}

mended_is : (bytes mended : List ℕ) (cause : Option EdidError) → source_by bytes cause ≡ Ok mended → (cause ≡ None) × (mended ≡ source_bytes bytes)
mended_is bytes mended None h = (refl, cc)
mended_is bytes mended (Some cause) h = absurd (cc)

-- a mended base block, and so many blocks that are taken, of which an override counts as many
pub record IsMade (bytes mended : List ℕ) : Type 0 where
  pub long : 128 ≤ length bytes
  pub count : ℕ
  pub few : count ≤ 3
  pub taken : List ℕ
  pub kept : AreKept count (overridden count taken)
  pub is : mended ≡ mended_block bytes count ++ overridden count taken

with_count : (bytes taken : List ℕ) (few : FewKept 3 taken) → with_extensions bytes taken ≡ mended_block bytes few.count ++ overridden few.count taken
with_count bytes taken few =
    let size = kept_len few.count taken few.kept in
    let counts : length taken / 128 ≡ few.count = omega (arith, size) in
    ap (λ n. mended_block bytes n ++ overridden n taken) counts

pub made : (bytes mended : List ℕ) → as_source bytes ≡ Ok mended → IsMade bytes mended
made bytes mended h =
    let is = mended_is bytes mended (refusal bytes) h in
    let room = room_for bytes is.0 in
    let there : 128 * extension_count bytes ≤ length (drop 128 bytes) = omega (arith, room, length-drop 128 bytes) in
    let few = taken_kept 3 (extension_count bytes) (drop 128 bytes) there in
    let taken : List ℕ = blocks_taken 3 (extension_count bytes) (drop 128 bytes) in
    record {
      long = omega (arith, room);
      count = few.count;
      few = few.few;
      taken = taken;
      kept = overridden_kept few.count few.count taken few.kept;
      is = is.1 ∙ with_count bytes taken few;
    }
