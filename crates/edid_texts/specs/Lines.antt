-- The lines of an EDID's text (own: this text is the project's).
use Rattle.std.specs.Prelude.{ℕ, ◌==◌, ◌&&◌, List, [], ◌∷◌, ◌++◌, length, map, drop, slice_index, Option, Some, None, codes, flat_map, if◌then◌else◌}
use Rattle.edid_base.specs.Chroma.{chroma_numbers}
use Rattle.edid_base.specs.Maker.{maker_letters}
use Rattle.edid_base.specs.Standard.{standard_numbers}
use Rattle.edid_base.specs.Timing.{timing_numbers}
use Rattle.edid_cta.specs.Hdmi.{has_identifier}
use Rattle.edid_base.specs.declared.base.Base.{Base}
use Rattle.edid_base.specs.declared.base.Revision.{Revision}
use Rattle.edid_base.specs.declared.base.Revision.TheVariants.{Three, Four}
use Rattle.edid_base.specs.declared.descriptor.Descriptor.{Descriptor}
use Rattle.edid_base.specs.declared.descriptor.Descriptor.TheVariants.{Timing as OfTiming, Name as OfName, Text as OfText, SerialText as OfSerialText, Range as OfRange, Dummy as OfDummy, Raw as OfRaw}
use Rattle.edid_base.specs.declared.standard.StandardTiming.{StandardTiming}
use Rattle.edid_base.specs.declared.timing.Timing.{Timing as DetailedTiming}
use Rattle.edid_cta.specs.declared.block.DataBlock.{DataBlock}
use Rattle.edid_cta.specs.declared.block.BlockKind.{BlockKind}
use Rattle.edid_cta.specs.declared.block.BlockKind.TheVariants.{Vendor}
use Rattle.edid_cta.specs.declared.cta.Cta.{Cta as CtaBlock}
use Rattle.edid_cta.specs.declared.cta.Bare.{Bare as BareBlock}
use Rattle.edid_cta.specs.declared.raw.Ext.{Ext as Extension}
use Rattle.edid_cta.specs.declared.raw.Ext.TheVariants.{Cta as OfCta, Bare as OfBare, Raw as OfRawExt}
use Rattle.edid_text_lines.specs.Text.{line_text}
use Rattle.edid_core.specs.declared.edid.Edid.{Edid as WholeEdid}
use Rattle.edid_text_lines.specs.declared.line.Keyword.{Keyword}
use Rattle.edid_text_lines.specs.declared.line.Keyword.TheVariants.{Edid, Maker, Product, Serial, Made, Input, Size, Gamma, Features, Chroma, Established, Standard, Timing, Name, Text, SerialText, Range, Dummy, Raw, Cta, CtaNone, Block, Hdmi, Tail, Ext}
use Rattle.edid_text_lines.specs.declared.line.Fields.TheVariants.{Nothing, Letters, Numbers, Timed, Bytes, Address, Quoted}
use Rattle.edid_text_lines.specs.declared.line.Line.{Line}

abbrev pub letters_line : Keyword → List ℕ → Line
letters_line word letters = record { word = word; fields = Letters (record { items = letters }) }

abbrev pub numbers_line : Keyword → List ℕ → Line
numbers_line word numbers = record { word = word; fields = Numbers (record { items = numbers }) }

abbrev pub bytes_line : Keyword → List ℕ → Line
bytes_line word bytes = record { word = word; fields = Bytes (record { items = bytes }) }

abbrev pub quoted_line : Keyword → List ℕ → Line
quoted_line word chars = record { word = word; fields = Quoted (record { items = chars }) }

abbrev pub revision_letters : Revision → List ℕ
revision_letters Three = codes "1.3"
revision_letters Four = codes "1.4"

abbrev pub standard_line : Option StandardTiming → Line
standard_line None = letters_line Standard (codes "unused")
standard_line (Some s) = numbers_line Standard (standard_numbers s)

-- the flags stand last, in hex
abbrev pub timing_line : DetailedTiming → Line
timing_line t = record { word = Timing; fields = Timed (record { items = timing_numbers t }) t.flags }

abbrev pub descriptor_line : Descriptor → Line
descriptor_line (OfTiming t) = timing_line t
descriptor_line (OfName t) = quoted_line Name t.chars.items
descriptor_line (OfText t) = quoted_line Text t.chars.items
descriptor_line (OfSerialText t) = quoted_line SerialText t.chars.items
descriptor_line (OfRange limits) = bytes_line Range limits.bytes
descriptor_line OfDummy = record { word = Dummy; fields = Nothing }
descriptor_line (OfRaw raw) = bytes_line Raw raw.bytes

-- what stands once in each base block
abbrev pub head_lines : Base → List Line
head_lines b =
    letters_line Edid (revision_letters b.revision) ∷
    letters_line Maker (maker_letters b.maker) ∷
    numbers_line Product (b.product ∷ []) ∷
    numbers_line Serial (b.serial ∷ []) ∷
    numbers_line Made (b.week ∷ b.year ∷ []) ∷
    bytes_line Input (b.input ∷ []) ∷
    numbers_line Size (b.width ∷ b.height ∷ []) ∷
    numbers_line Gamma (b.gamma ∷ []) ∷
    bytes_line Features (b.features ∷ []) ∷
    numbers_line Chroma (chroma_numbers b.chroma) ∷
    bytes_line Established b.established ∷ []

abbrev pub base_lines : Base → List Line
base_lines b = head_lines b ++ (map standard_line b.standard ++ map descriptor_line b.descriptors)

abbrev pub address_line : List ℕ → Line
address_line p = record { word = Hdmi; fields = Address (record { high = slice_index p 3; low = slice_index p 4 }) (record { items = drop 5 p }) }

abbrev pub vendor_line : List ℕ → Line
vendor_line p = if has_identifier p then address_line p else bytes_line (Block Vendor) p

abbrev pub payload_line : BlockKind → List ℕ → Line
payload_line Vendor p = vendor_line p
payload_line kind p = bytes_line (Block kind) p

abbrev pub block_line : DataBlock → Line
block_line b = payload_line b.kind b.payload.items

-- bytes without their trailing zeros
abbrev pub bytes_without_zeros : List ℕ → List ℕ
bytes_without_zeros [] = []
bytes_without_zeros (b ∷ bs) = if (b == 0) && (length (bytes_without_zeros bs) == 0) then [] else b ∷ bytes_without_zeros bs

abbrev pub tail_line : List ℕ → Line
tail_line bytes = bytes_line Tail (bytes_without_zeros bytes)

abbrev pub cta_lines : CtaBlock → List Line
cta_lines c = bytes_line Cta (c.flags ∷ []) ∷ (map block_line c.blocks.items ++ (map timing_line c.timings.items ++ (tail_line c.tail.items ∷ [])))

abbrev pub bare_lines : BareBlock → List Line
bare_lines b = bytes_line CtaNone (b.flags ∷ []) ∷ tail_line b.tail ∷ []

abbrev pub ext_lines : Extension → List Line
ext_lines (OfCta c) = cta_lines c
ext_lines (OfBare b) = bare_lines b
ext_lines (OfRawExt r) = bytes_line Ext r.bytes ∷ []

-- the lines of a base block and of the extensions after it
abbrev pub part_lines : Base → List Extension → List Line
part_lines base extensions = base_lines base ++ flat_map ext_lines extensions

abbrev pub part_text : Base → List Extension → List ℕ
part_text base extensions = flat_map line_text (part_lines base extensions)

abbrev pub edid_lines : WholeEdid → List Line
edid_lines e = part_lines e.base e.extensions.items

-- the whole text
abbrev pub edid_text : WholeEdid → List ℕ
edid_text e = flat_map line_text (edid_lines e)
