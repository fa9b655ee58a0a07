-- The parts of an EDID: the lines of its text, each with its block, its number in the text, and of what kind it is (own).
use Rattle.std.specs.Prelude.{ℕ, ◌+◌, ◌*◌, ◌≤◌, List, [], ◌∷◌, drop, slice_index, if◌then◌else◌}
use Rattle.edid_base.specs.declared.base.Base.{Base}
use Rattle.edid_cta.specs.Block.{kind_number}
use Rattle.edid_cta.specs.declared.block.BlockKind.{BlockKind}
use Rattle.edid_cta.specs.declared.block.BlockKind.TheVariants.{Vendor, Extended}
use Rattle.edid_cta.specs.declared.raw.Ext.{Ext as Extension}
use Rattle.edid_text_lines.specs.declared.line.Keyword.{Keyword}
use Rattle.edid_text_lines.specs.declared.line.Keyword.TheVariants.{Edid, Maker, Product, Serial, Made, Input, Size, Gamma, Features, Chroma, Established, Standard, Timing, Name, Text, SerialText, Range, Dummy, Raw, Cta, CtaNone, Block, Hdmi, Tail, Ext}
use Rattle.edid_text_lines.specs.declared.line.Fields.{Fields}
use Rattle.edid_text_lines.specs.declared.line.Fields.TheVariants.{Bytes}
use Rattle.edid_text_lines.specs.declared.line.Line.{Line}
use Rattle.edid_texts.specs.Lines.{part_lines}
use Rattle.edid_texts.specs.Words.{at_ext}
use Rattle.edid_difference.specs.declared.part.Part.{Part}
use Rattle.edid_difference.specs.declared.part.Place.{Place}

-- no two words have the same number, and all are below 32
abbrev pub word_number : Keyword → ℕ
word_number Edid = 0
word_number Maker = 1
word_number Product = 2
word_number Serial = 3
word_number Made = 4
word_number Input = 5
word_number Size = 6
word_number Gamma = 7
word_number Features = 8
word_number Chroma = 9
word_number Established = 10
word_number Standard = 11
word_number Timing = 12
word_number Name = 13
word_number Text = 14
word_number SerialText = 15
word_number Range = 16
word_number Dummy = 17
word_number Raw = 18
word_number Cta = 19
word_number CtaNone = 20
word_number (Block kind) = 21 + kind_number kind
word_number Hdmi = 29
word_number Tail = 30
word_number Ext = 31

-- a vendor's block is of its maker's kind, by the identifier of three bytes, and an extended block of that of its tag
-- (CTA-861, 7.5.4 and 7.5)
abbrev pub block_tag : BlockKind → List ℕ → ℕ
block_tag Vendor bytes = 65536 * slice_index bytes 2 + 256 * slice_index bytes 1 + slice_index bytes 0
block_tag Extended bytes = slice_index bytes 0
block_tag kind bytes = 0

abbrev pub bytes_tag : Keyword → List ℕ → ℕ
bytes_tag (Block kind) bytes = block_tag kind bytes
bytes_tag word bytes = 0

abbrev pub fields_tag : Keyword → Fields → ℕ
fields_tag word (Bytes bytes) = bytes_tag word bytes.items
fields_tag word fields = 0

-- two lines are of one kind where block, tag and word are the same
abbrev pub kind_in : ℕ → Line → ℕ
kind_in block l = 32 * (16777216 * block + fields_tag l.word l.fields) + word_number l.word

abbrev pub part_of : ℕ → ℕ → Line → Part
part_of block number l = record { block = block; number = number; kind = kind_in block l; line = l }

-- the block of a line, after one of this block: an extension begins with a word of its own
abbrev pub block_of : ℕ → Keyword → ℕ
block_of block word = if at_ext word then block + 1 else block

-- lines after so many
abbrev pub parts_from : ℕ → ℕ → List Line → List Part
parts_from block number [] = []
parts_from block number (l ∷ ls) = part_of (block_of block l.word) (number + 1) l ∷ parts_from (block_of block l.word) (number + 1) ls

-- the parts of an EDID after so many, the last of which is of this block
unfoldable pub rest_at : Base → List Extension → Place → List Part
rest_at base extensions place = parts_from place.block place.number (drop place.number (part_lines base extensions))

-- the lines of an EDID: of its base block, and of the extensions after it
unfoldable pub edid_parts : Base → List Extension → List Part
edid_parts base extensions = parts_from 0 0 (part_lines base extensions)

-- a place in a text
abbrev pub IsPlace : Place → Type 0
IsPlace place = (place.block ≤ place.number) × (place.number ≤ 398)

-- after a part
abbrev pub place_after : Part → Place
place_after p = record { block = p.block; number = p.number }
