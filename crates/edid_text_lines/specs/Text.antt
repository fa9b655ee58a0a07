-- The text of a line.
use Rattle.std.specs.Prelude.{ℕ, List, [], ◌∷◌, ◌++◌, codes, flat_map}
use Rattle.std.specs.Fmt.{decimal}
use Rattle.hex.specs.Hex.{encode_lower}
use Rattle.text_core.specs.Piece.{phys_text}
use Rattle.edid_cta.specs.declared.block.BlockKind.{BlockKind}
use Rattle.edid_cta.specs.declared.block.BlockKind.TheVariants.{Tag0, Audio, Video, Vendor, Speakers, Tag5, Tag6, Extended}
use Rattle.edid_text_lines.specs.declared.line.Keyword.{Keyword}
use Rattle.edid_text_lines.specs.declared.line.Keyword.TheVariants.{Edid, Maker, Product, Serial, Made, Input, Size, Gamma, Features, Chroma, Established, Standard, Timing, Name, Text, SerialText, Range, Dummy, Raw, Cta, CtaNone, Block, Hdmi, Tail, Ext}
use Rattle.edid_text_lines.specs.declared.line.Fields.{Fields}
use Rattle.edid_text_lines.specs.declared.line.Fields.TheVariants.{Nothing, Letters, Numbers, Timed, Bytes, Address, Quoted}
use Rattle.edid_text_lines.specs.declared.line.Line.{Line}

-- the word of a kind of data block
abbrev pub kind_text : BlockKind → List ℕ
kind_text Tag0 = codes "tag0"
kind_text Audio = codes "audio"
kind_text Video = codes "video"
kind_text Vendor = codes "vendor"
kind_text Speakers = codes "speakers"
kind_text Tag5 = codes "tag5"
kind_text Tag6 = codes "tag6"
kind_text Extended = codes "extended"

abbrev pub word_text : Keyword → List ℕ
word_text Edid = codes "edid"
word_text Maker = codes "maker"
word_text Product = codes "product"
word_text Serial = codes "serial"
word_text Made = codes "made"
word_text Input = codes "input"
word_text Size = codes "size"
word_text Gamma = codes "gamma"
word_text Features = codes "features"
word_text Chroma = codes "chroma"
word_text Established = codes "established"
word_text Standard = codes "standard"
word_text Timing = codes "timing"
word_text Name = codes "name"
word_text Text = codes "text"
word_text SerialText = codes "serial-text"
word_text Range = codes "range"
word_text Dummy = codes "dummy"
word_text Raw = codes "raw"
word_text Cta = codes "cta"
word_text CtaNone = codes "cta-none"
word_text (Block kind) = kind_text kind
word_text Hdmi = codes "hdmi"
word_text Tail = codes "tail"
word_text Ext = codes "ext"

-- a space and a number in decimal digits
abbrev pub number_text : ℕ → List ℕ
number_text n = 32 ∷ decimal n

-- two hex digits for each byte, and a dash for none
abbrev pub hex_word : List ℕ → List ℕ
hex_word [] = codes "-"
hex_word (b ∷ bs) = encode_lower (b ∷ bs)

-- the fields, a space before each
abbrev pub fields_text : Fields → List ℕ
fields_text Nothing = []
fields_text (Letters letters) = 32 ∷ letters.items
fields_text (Numbers numbers) = flat_map number_text numbers.items
fields_text (Timed numbers flags) = flat_map number_text numbers.items ++ (32 ∷ encode_lower (flags ∷ []))
fields_text (Bytes bytes) = 32 ∷ hex_word bytes.items
fields_text (Address phys bytes) = 32 ∷ (phys_text phys ++ (32 ∷ hex_word bytes.items))
fields_text (Quoted chars) = 32 ∷ 34 ∷ (chars.items ++ (34 ∷ []))

-- the first word, the fields, and a line feed
abbrev pub line_text : Line → List ℕ
line_text l = word_text l.word ++ (fields_text l.fields ++ (10 ∷ []))
