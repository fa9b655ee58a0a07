-- Which first words may stand where, how many words a line has, and what each of them may be by itself (own).
use Rattle.std.specs.Prelude.{◌≡◌, ℕ, ◌-◌, ◌%◌, ◌<◌, ◌==◌, Bool, true, false, ◌&&◌, ◌||◌, nat_lt, nat_le, List, [], ◌∷◌, length, get_or, if◌then◌else◌}
use Rattle.std.specs.Fmt.{decimal}
use Rattle.text_core.specs.Piece.{phys_text}
use Rattle.text_core.specs.declared.phys.Phys.{Phys}
use Rattle.edid_texts.specs.Draft.{Draft, OfBegun, OfWhole, OfOpened, OfBare}
use Rattle.edid_text_lines.specs.declared.line.LineContent.{LineContent}
use Rattle.edid_text_lines.specs.declared.line.LineContent.TheVariants.{Empty, Three, One, Two, Eight, Unused, Timing as OfTiming, Hex, Address, Quoted}
use Rattle.edid_text_lines.specs.declared.line.Keyword.{Keyword}
use Rattle.edid_text_lines.specs.declared.line.Keyword.TheVariants.{Edid, Maker, Product, Serial, Made, Input, Size, Gamma, Features, Chroma, Established, Standard, Timing, Name, Text, SerialText, Range, Dummy, Raw, Cta, CtaNone, Block, Hdmi, Tail, Ext}
use Rattle.edid_texts.specs.declared.place.NextLine.{NextLine}
use Rattle.edid_texts.specs.declared.place.NextLine.TheVariants.{InBase, AtExt, InBlocks, InTimings, AtTail, AtEnd}

-- where a draft's next line stands
abbrev pub place_of : Draft → NextLine
place_of (OfBegun d) = InBase d.number
place_of (OfWhole w) = if nat_lt (length w.extensions.items) 3 then AtExt else AtEnd
place_of (OfOpened o) = if length o.timings.items == 0 then InBlocks o.left else InTimings o.left
place_of (OfBare d) = AtTail

-- the line of a base block with this number
abbrev pub in_base : ℕ → Keyword → Bool
in_base n Edid = n == 0
in_base n Maker = n == 1
in_base n Product = n == 2
in_base n Serial = n == 3
in_base n Made = n == 4
in_base n Input = n == 5
in_base n Size = n == 6
in_base n Gamma = n == 7
in_base n Features = n == 8
in_base n Chroma = n == 9
in_base n Established = n == 10
in_base n Standard = nat_le 11 n && nat_lt n 19
in_base n Timing = nat_le 19 n
in_base n Name = nat_le 19 n
in_base n Text = nat_le 19 n
in_base n SerialText = nat_le 19 n
in_base n Range = nat_le 19 n
in_base n Dummy = nat_le 19 n
in_base n Raw = nat_le 19 n
in_base n word = false

abbrev pub at_ext : Keyword → Bool
at_ext Cta = true
at_ext CtaNone = true
at_ext Ext = true
at_ext word = false

abbrev pub is_tail_word : Keyword → Bool
is_tail_word Tail = true
is_tail_word word = false

abbrev pub in_timings : ℕ → Keyword → Bool
in_timings left Timing = nat_le 18 left
in_timings left word = is_tail_word word

abbrev pub in_blocks : ℕ → Keyword → Bool
in_blocks left (Block kind) = nat_le 1 left
in_blocks left Hdmi = nat_le 6 left
in_blocks left word = in_timings left word

abbrev pub may_begin : NextLine → Keyword → Bool
may_begin (InBase n) word = in_base n word
may_begin AtExt word = at_ext word
may_begin (InBlocks left) word = in_blocks left word
may_begin (InTimings left) word = in_timings left word
may_begin AtTail word = is_tail_word word
may_begin AtEnd word = false

-- how many words the lines of a form have
abbrev pub has_words : LineContent → ℕ → Bool
has_words Empty n = n == 1
has_words Three n = n == 2
has_words One n = n == 2
has_words Two n = n == 3
has_words Eight n = n == 9
has_words Unused n = (n == 2) || (n == 4)
has_words OfTiming n = n == 15
has_words Hex n = n == 2
has_words Address n = n == 3
has_words Quoted n = n == 2

-- the greatest numbers of a detailed timing
abbrev pub timing_most : List ℕ
timing_most = 65535 ∷ 4095 ∷ 4095 ∷ 4095 ∷ 4095 ∷ 1023 ∷ 1023 ∷ 63 ∷ 63 ∷ 4095 ∷ 4095 ∷ 255 ∷ 255 ∷ []

-- the numbers that a line has as the word of this number, where that is not its last one
abbrev pub number_fits : Keyword → ℕ → ℕ → Bool
number_fits Made i n = nat_le n 255
number_fits Size i n = nat_le n 255
number_fits Chroma i n = nat_le n 1023
number_fits Standard i n = if i == 1 then nat_le 248 n && nat_le n 2288 && (n % 8 == 0) else nat_le n 3
number_fits Timing i n = nat_le (if i == 1 then 1 else 0) n && nat_le n (get_or timing_most (i - 1) 0)
number_fits word i n = false

-- the words that a line has as the word of this number, where that is not its last one
abbrev pub FitsAt : Keyword → ℕ → List ℕ → Type 0
FitsAt Hdmi i text = (p : Phys) × ((p.high < 256) × ((p.low < 256) × (phys_text p ≡ text)))
FitsAt word i text = (n : ℕ) × ((decimal n ≡ text) × (number_fits word i n ≡ true))
