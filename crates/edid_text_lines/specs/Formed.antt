-- Which fields the lines of an EDID can have.
use Rattle.std.specs.Prelude.{◌≡◌, ℕ, ◌<◌, ◌≤◌, ◌^◌, ◌==◌, Bool, not, nat_lt, true, List, [], ◌∷◌, length, codes}
use Rattle.std.specs.List.{list_all}
use Rattle.edid_base.specs.Bytes.{are_bytes}
use Rattle.edid_text_lines.specs.declared.line.Keyword.{Keyword}
use Rattle.edid_text_lines.specs.declared.line.Keyword.TheVariants.{Edid, Maker, Product, Serial, Made, Input, Size, Gamma, Features, Chroma, Established, Standard, Timing, Name, Text, SerialText, Range, Dummy, Raw, Cta, CtaNone, Block, Hdmi, Tail, Ext}
use Rattle.edid_text_lines.specs.declared.line.Fields.{Fields}
use Rattle.edid_text_lines.specs.declared.line.Fields.TheVariants.{Nothing, Letters, Numbers, Timed, Bytes, Address, Quoted}
use Rattle.edid_text_lines.specs.declared.line.LineContent.{LineContent}
use Rattle.edid_text_lines.specs.declared.line.LineContent.TheVariants.{Empty, Three, One, Two, Eight, Unused, Timing as OfTiming, Hex, Address as OfAddress, Quoted as OfQuoted}
use Rattle.edid_text_lines.specs.declared.line.Line.{Line}

-- no space is among these characters
abbrev pub is_spaceless : List ℕ → Bool
is_spaceless text = list_all (λ c. not (c == 32)) text

-- nothing, or what begins with a space
abbrev pub BeginsSpaced : List ℕ → Type 0
BeginsSpaced [] = Unit {0}
BeginsSpaced (c ∷ cs) = c ≡ 32

abbrev pub are_numbers : List ℕ → Bool
are_numbers ns = list_all (λ n. nat_lt n (2 ^ 32)) ns

-- what stands after a word
abbrev pub form_of : Keyword → LineContent
form_of Edid = Three
form_of Maker = Three
form_of Product = One
form_of Serial = One
form_of Made = Two
form_of Input = Hex
form_of Size = Two
form_of Gamma = One
form_of Features = Hex
form_of Chroma = Eight
form_of Established = Hex
form_of Standard = Unused
form_of Timing = OfTiming
form_of Name = OfQuoted
form_of Text = OfQuoted
form_of SerialText = OfQuoted
form_of Range = Hex
form_of Dummy = Empty
form_of Raw = Hex
form_of Cta = Hex
form_of CtaNone = Hex
form_of (Block kind) = Hex
form_of Hdmi = OfAddress
form_of Tail = Hex
form_of Ext = Hex

abbrev pub HasNumbers : ℕ → List ℕ → Type 0
HasNumbers count ns = (length ns ≡ count) × (are_numbers ns ≡ true)

-- fields of a form
abbrev pub FormedFields : LineContent → Fields → Type 0
FormedFields Empty Nothing = Unit {0}
FormedFields Three (Letters letters) = length letters.items ≡ 3
FormedFields One (Numbers numbers) = HasNumbers 1 numbers.items
FormedFields Two (Numbers numbers) = HasNumbers 2 numbers.items
FormedFields Eight (Numbers numbers) = HasNumbers 8 numbers.items
FormedFields Unused (Letters letters) = letters.items ≡ codes "unused"
FormedFields Unused (Numbers numbers) = HasNumbers 3 numbers.items
FormedFields OfTiming (Timed numbers flags) = HasNumbers 13 numbers.items × (flags < 256)
FormedFields Hex (Bytes bytes) = (length bytes.items ≤ 128) × (are_bytes bytes.items ≡ true)
FormedFields OfAddress (Address phys bytes) = (phys.high < 256) × (phys.low < 256) × (length bytes.items ≤ 26) × (are_bytes bytes.items ≡ true)
FormedFields OfQuoted (Quoted chars) = length chars.items ≤ 13
FormedFields form fields = ⊥

abbrev pub Formed : Line → Type 0
Formed l = FormedFields (form_of l.word) l.fields
