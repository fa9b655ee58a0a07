-- An EDID's text, and below each line what it means (own: the texts; what they report of is in the crates of the meanings).
use Rattle.std.specs.Prelude.{ℕ, ◌==◌, if◌then◌else◌, Bool, not, List, [], ◌∷◌, ◌++◌, filter, slice_index, flat_map}
use Rattle.edid_base.specs.declared.base.Base.{Base}
use Rattle.edid_cta.specs.declared.block.BlockKind.{BlockKind}
use Rattle.edid_cta.specs.declared.block.BlockKind.TheVariants.{Audio, Video, Speakers, Vendor, Extended}
use Rattle.edid_cta.specs.declared.raw.Ext.{Ext as Extension}
use Rattle.edid_text_lines.specs.Text.{line_text}
use Rattle.edid_text_lines.specs.declared.line.Line.{Line}
use Rattle.edid_text_lines.specs.declared.line.Keyword.{Keyword}
use Rattle.edid_text_lines.specs.declared.line.Keyword.TheVariants.{Input, Features, Established, Range, Raw, Cta, CtaNone, Block, Ext, Made, Size, Gamma, Chroma, Standard}
use Rattle.edid_text_lines.specs.declared.line.Fields.{Fields}
use Rattle.edid_text_lines.specs.declared.line.Fields.TheVariants.{Numbers, Timed, Bytes, Address}
use Rattle.edid_texts.specs.Cut.{lines_with_feeds}
use Rattle.edid_texts.specs.Lines.{part_lines}
use Rattle.meaning_words.specs.Notes.{own_line}
use Rattle.meaning_words.specs.Timings.{timing_meanings}
use Rattle.meaning_words.specs.Videos.{video_meanings}
use Rattle.meaning_cta.specs.Audio.{audio_meanings}
use Rattle.meaning_cta.specs.Speakers.{speaker_meanings}
use Rattle.meaning_cta.specs.Flags.{flag_meanings}
use Rattle.meaning_cta.specs.Hdmi.{hdmi_meanings}
use Rattle.meaning_extended.specs.Blocks.{extended_meanings, vendor_meanings}
use Rattle.rules_values.specs.VideoCodes.{video_codes}
use Rattle.meaning_base.specs.Descriptors.{descriptor_meanings}
use Rattle.meaning_displayid.specs.Sections.{displayid_lines}
use Rattle.meaning_base.specs.Inputs.{input_meanings, feature_meanings}
use Rattle.meaning_base.specs.Figures.{made_text, size_text, gamma_text, chroma_text, standard_text}
use Rattle.meaning_base.specs.Established.{established_meanings}
use Rattle.meaning_base.specs.Ranges.{range_meanings}
use Rattle.meaning_base.specs.Raws.{raw_meanings, ext_meanings}

-- ---- what stands below a line: a function of the line, of the base block and of the video codes of the EDID

-- of a descriptor of no other form: its tag, and what that one's own form says
abbrev pub raw_lines : List ℕ → List (List ℕ)
raw_lines bytes = raw_meanings bytes ++ descriptor_meanings bytes

-- of an extension that is kept as it is: its kind, and what a section of DisplayID says
abbrev pub section_meanings : List ℕ → List (List ℕ)
section_meanings bytes = if slice_index bytes 0 == 0x70 then displayid_lines bytes else []

abbrev pub ext_lines : List ℕ → List (List ℕ)
ext_lines bytes = ext_meanings bytes ++ section_meanings bytes

-- of a data block of this kind
abbrev pub block_meanings : List ℕ → BlockKind → List ℕ → List (List ℕ)
block_meanings svds Audio bytes = audio_meanings bytes
block_meanings svds Video bytes = video_meanings bytes
block_meanings svds Speakers bytes = speaker_meanings bytes
block_meanings svds Vendor bytes = vendor_meanings bytes
block_meanings svds Extended bytes = extended_meanings svds bytes
block_meanings svds kind bytes = []

-- of bytes after a word
abbrev pub bytes_meanings : Base → List ℕ → Keyword → List ℕ → List (List ℕ)
bytes_meanings b svds Input bytes = input_meanings b.revision bytes
bytes_meanings b svds Features bytes = feature_meanings b.revision b.input bytes
bytes_meanings b svds Established bytes = established_meanings bytes
bytes_meanings b svds Range bytes = range_meanings b.revision b.features bytes
bytes_meanings b svds Raw bytes = raw_lines bytes
bytes_meanings b svds Cta bytes = flag_meanings bytes
bytes_meanings b svds CtaNone bytes = flag_meanings bytes
bytes_meanings b svds (Block kind) bytes = block_meanings svds kind bytes
bytes_meanings b svds Ext bytes = ext_lines bytes
bytes_meanings b svds word bytes = []

-- of numbers after a word
abbrev pub numbers_meanings : Base → Keyword → List ℕ → List (List ℕ)
numbers_meanings b Made n = made_text b.revision (slice_index n 0) (slice_index n 1) ∷ []
numbers_meanings b Size n = size_text b.revision (slice_index n 0) (slice_index n 1) ∷ []
numbers_meanings b Gamma n = gamma_text (slice_index n 0) ∷ []
numbers_meanings b Chroma n = chroma_text n ∷ []
numbers_meanings b Standard n = standard_text (slice_index n 0) (slice_index n 1) (slice_index n 2) ∷ []
numbers_meanings b word n = []

abbrev pub fields_meanings : Base → List ℕ → Keyword → Fields → List (List ℕ)
fields_meanings b svds word (Numbers numbers) = numbers_meanings b word numbers.items
fields_meanings b svds word (Timed numbers flags) = timing_meanings numbers.items flags
fields_meanings b svds word (Bytes bytes) = bytes_meanings b svds word bytes.items
fields_meanings b svds word (Address address bytes) = hdmi_meanings svds bytes.items
fields_meanings b svds word fields = []

abbrev pub meanings : Base → List ℕ → Line → List (List ℕ)
meanings b svds l = fields_meanings b svds l.word l.fields

-- ---- the text

abbrev pub line_with_meaning : Base → List ℕ → Line → List ℕ
line_with_meaning b svds l = line_text l ++ flat_map own_line (meanings b svds l)

abbrev pub meaning_text : Base → List Extension → List ℕ
meaning_text base extensions = flat_map (line_with_meaning base (video_codes extensions)) (part_lines base extensions)

-- ---- back to the text

-- a line that does not begin with a space
abbrev pub is_plain : List ℕ → Bool
is_plain line = not (slice_index line 0 == 32)

-- a text's lines that do not begin with a space, as `grep -v '^ '` leaves them
abbrev pub plain_text : List ℕ → List ℕ
plain_text text = flat_map (λ line. line) (filter is_plain (lines_with_feeds text))
