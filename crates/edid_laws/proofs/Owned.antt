-- The receiver's own blocks of a kind.
use Rattle.std.proofs.Common.{◌≡◌, ◌∙◌, refl, ap, ap₂, ℕ, ◌+◌, ◌*◌, true, false, arith, List, [], ◌∷◌, length, get_or, filter, flat_map, map}
use Rattle.edid_cta.specs.Block.{block_bytes, kind_number}
use Rattle.edid_cta.specs.declared.block.DataBlock.{DataBlock}
use Rattle.edid_merge.specs.Blocks.{blocks_of, by_bits, by_numbers, by_whose}
use Rattle.edid_merge.specs.Mixing.{speakers_ways, capability_ways, colours_ways, hdmi_ways, forum_ways}
use Rattle.edid_merge.specs.Subjects.{is_of}
use Rattle.edid_merge.specs.declared.mixing.Way.{Way}
use Rattle.edid_merge.specs.declared.subject.Subject.{Subject}
use Rattle.edid_merge.specs.declared.subject.Subject.TheVariants.{Video, Audio, Speakers, Hdmi, Forum, Capability, Colorimetry, Hdr, MakerVideo, MakerAudio, Override, Other}
use Rattle.edid_merge.specs.declared.table.Bits.{Bits}
use Rattle.edid_merge.specs.declared.table.Bits.TheVariants as bits
use Rattle.edid_merge.specs.declared.table.Numbers.{Numbers}
use Rattle.edid_merge.specs.declared.table.Numbers.TheVariants as numbers
use Rattle.edid_merge.specs.declared.table.Table.{Table}
use Rattle.edid_merge.specs.declared.table.Whose.{Whose}
use Rattle.edid_merge.specs.declared.table.Whose.TheVariants as whose
use Rattle.edid_laws.specs.Rows.{OwnBlocksStandOnce, are_own_bits, are_own_numbers, by_row, is_own, takes_own}
use Rattle.edid_laws.proofs.Goes.{append_same}
use Rattle.edid_laws.proofs.Whole.{obey}

neither : {P : Type 0} → false ≡ true → P
neither e = absurd (cc)

of_whose : (row : Whose) (s : Subject) (d o : List DataBlock) → is_own row ≡ true → by_whose row s d o ≡ blocks_of s o
of_whose whose.Keep s d o e = neither e
of_whose whose.Own s d o e = refl

of_bits : (row : Bits) (ways : List Way) (s : Subject) (d o : List DataBlock) → are_own_bits row ≡ true → by_bits row ways s d o ≡ blocks_of s o
of_bits bits.Keep ways s d o e = neither e
of_bits bits.Own ways s d o e = refl
of_bits bits.And ways s d o e = neither e

of_numbers : (row : Numbers) (ways : List Way) (s : Subject) (d o : List DataBlock) → are_own_numbers row ≡ true → by_numbers row ways s d o ≡ blocks_of s o
of_numbers numbers.Keep ways s d o e = neither e
of_numbers numbers.Own ways s d o e = refl
of_numbers numbers.Least ways s d o e = neither e

of_row : (t : Table) (s : Subject) (d o : List DataBlock) → takes_own t s ≡ true → by_row t s d o ≡ blocks_of s o
of_row t Video d o e = of_whose t.video Video d o e
of_row t Audio d o e = of_whose t.audio Audio d o e
of_row t Speakers d o e = of_bits t.speakers speakers_ways Speakers d o e
of_row t Hdmi d o e = of_numbers t.hdmi hdmi_ways Hdmi d o e
of_row t Forum d o e = of_numbers t.forum forum_ways Forum d o e
of_row t Capability d o e = of_bits t.capability capability_ways Capability d o e
of_row t Colorimetry d o e = of_bits t.colorimetry colours_ways Colorimetry d o e
of_row t Hdr d o e = of_bits t.hdr colours_ways Hdr d o e
of_row t MakerVideo d o e = of_whose t.maker_video MakerVideo d o e
of_row t MakerAudio d o e = of_whose t.maker_audio MakerAudio d o e
of_row t Override d o e = neither e
of_row t Other d o e = of_whose t.other Other d o e

-- bytes say where each block ends
parted : (xs ys : List DataBlock) → flat_map block_bytes xs ≡ flat_map block_bytes ys → map block_bytes xs ≡ map block_bytes ys
parted [] [] e = refl
parted [] (y ∷ ys) e = absurd (omega (arith, ap length e))
parted (x ∷ xs) [] e = absurd (omega (arith, ap length e))
parted (x ∷ xs) (y ∷ ys) e =
    let head : kind_number x.kind * 32 + length x.payload.items ≡ kind_number y.kind * 32 + length y.payload.items = ap (λ (t : List ℕ). get_or t 0 0) e in
    let long : length x.payload.items ≡ length y.payload.items = omega (arith, x.short, y.short, head) in
    let both : length (block_bytes x) ≡ length (block_bytes y) = omega (arith, long) in
    let parts = append_same (block_bytes x) (block_bytes y) (flat_map block_bytes xs) (flat_map block_bytes ys) both e in
    ap₂ (λ (a : List ℕ) (b : List (List ℕ)). a ∷ b) parts.0 (parted xs ys parts.1)

pub own_once : OwnBlocksStandOnce
own_once t display own blocks e s o = parted (filter (is_of s) blocks) (filter (is_of s) own) (obey t display own blocks e s ∙ of_row t s display own o)
