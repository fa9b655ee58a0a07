-- A text is one word at most, and each word is listed.
use Rattle.std.proofs.Common.{Option, Some, ◌≡◌, ℕ, ◌<◌, true, cond, List, [], ◌∷◌, ◌++◌, ◌-◌, length, take, get_or, ap, arith, refl, sym, ◌∙◌, codes, flat_map, length-append, eq-eqb, append_assoc}
use Rattle.std.specs.Str.{bytes_eq}
use Rattle.hex.specs.Hex.{encode_lower}
use Rattle.edid_cta.specs.declared.block.BlockKind.TheVariants.{Tag0, Audio, Video, Vendor, Speakers, Tag5, Tag6, Extended}
use Rattle.edid_text_lines.specs.Text.{word_text, fields_text, number_text}
use Rattle.edid_text_lines.specs.Formed.{is_spaceless, BeginsSpaced}
use Rattle.edid_text_lines.specs.declared.line.TheConstants.{WORDS}
use Rattle.edid_text_lines.specs.declared.line.Fields.{Fields}
use Rattle.edid_text_lines.specs.declared.line.Fields.TheVariants.{Nothing, Letters, Numbers, Timed, Bytes, Address, Quoted}
use Rattle.edid_text_lines.specs.declared.line.Line.{Line}
use Rattle.edid_text_lines.specs.declared.line.Keyword.{Keyword}
use Rattle.edid_text_lines.specs.declared.line.Keyword.TheVariants.{Edid, Maker, Product, Serial, Made, Input, Size, Gamma, Features, Chroma, Established, Standard, Timing, Name, Text, SerialText, Range, Dummy, Raw, Cta, CtaNone, Block, Hdmi, Tail, Ext}
use Rattle.edid_text_lines.proofs.Words.{take_front}

abbrev word_at : List ℕ → Keyword
word_at w =
    cond (bytes_eq w (codes "edid")) Edid (
    cond (bytes_eq w (codes "maker")) Maker (
    cond (bytes_eq w (codes "product")) Product (
    cond (bytes_eq w (codes "serial")) Serial (
    cond (bytes_eq w (codes "made")) Made (
    cond (bytes_eq w (codes "input")) Input (
    cond (bytes_eq w (codes "size")) Size (
    cond (bytes_eq w (codes "gamma")) Gamma (
    cond (bytes_eq w (codes "features")) Features (
    cond (bytes_eq w (codes "chroma")) Chroma (
    cond (bytes_eq w (codes "established")) Established (
    cond (bytes_eq w (codes "standard")) Standard (
    cond (bytes_eq w (codes "timing")) Timing (
    cond (bytes_eq w (codes "name")) Name (
    cond (bytes_eq w (codes "text")) Text (
    cond (bytes_eq w (codes "serial-text")) SerialText (
    cond (bytes_eq w (codes "range")) Range (
    cond (bytes_eq w (codes "dummy")) Dummy (
    cond (bytes_eq w (codes "raw")) Raw (
    cond (bytes_eq w (codes "cta")) Cta (
    cond (bytes_eq w (codes "cta-none")) CtaNone (
    cond (bytes_eq w (codes "tag0")) (Block Tag0) (
    cond (bytes_eq w (codes "audio")) (Block Audio) (
    cond (bytes_eq w (codes "video")) (Block Video) (
    cond (bytes_eq w (codes "vendor")) (Block Vendor) (
    cond (bytes_eq w (codes "speakers")) (Block Speakers) (
    cond (bytes_eq w (codes "tag5")) (Block Tag5) (
    cond (bytes_eq w (codes "tag6")) (Block Tag6) (
    cond (bytes_eq w (codes "extended")) (Block Extended) (
    cond (bytes_eq w (codes "hdmi")) Hdmi (
    cond (bytes_eq w (codes "tail")) Tail Ext))))))))))))))))))))))))))))))

word_again : (w : Keyword) → word_at (word_text w) ≡ w
word_again Edid = refl
word_again Maker = refl
word_again Product = refl
word_again Serial = refl
word_again Made = refl
word_again Input = refl
word_again Size = refl
word_again Gamma = refl
word_again Features = refl
word_again Chroma = refl
word_again Established = refl
word_again Standard = refl
word_again Timing = refl
word_again Name = refl
word_again Text = refl
word_again SerialText = refl
word_again Range = refl
word_again Dummy = refl
word_again Raw = refl
word_again Cta = refl
word_again CtaNone = refl
word_again (Block Tag0) = refl
word_again (Block Audio) = refl
word_again (Block Video) = refl
word_again (Block Vendor) = refl
word_again (Block Speakers) = refl
word_again (Block Tag5) = refl
word_again (Block Tag6) = refl
word_again (Block Extended) = refl
word_again Hdmi = refl
word_again Tail = refl
word_again Ext = refl

pub one_word : (a b : Keyword) → word_text a ≡ word_text b → a ≡ b
one_word a b e = sym (word_again a) ∙ ap word_at e ∙ word_again b

abbrev pub number_of : Keyword → ℕ
number_of Edid = 0
number_of Maker = 1
number_of Product = 2
number_of Serial = 3
number_of Made = 4
number_of Input = 5
number_of Size = 6
number_of Gamma = 7
number_of Features = 8
number_of Chroma = 9
number_of Established = 10
number_of Standard = 11
number_of Timing = 12
number_of Name = 13
number_of Text = 14
number_of SerialText = 15
number_of Range = 16
number_of Dummy = 17
number_of Raw = 18
number_of Cta = 19
number_of CtaNone = 20
number_of (Block Tag0) = 21
number_of (Block Audio) = 22
number_of (Block Video) = 23
number_of (Block Vendor) = 24
number_of (Block Speakers) = 25
number_of (Block Tag5) = 26
number_of (Block Tag6) = 27
number_of (Block Extended) = 28
number_of Hdmi = 29
number_of Tail = 30
number_of Ext = 31

pub listed : (w : Keyword) → (number_of w < 32) × (get_or WORDS (number_of w) Edid ≡ w)
listed Edid = (omega arith, refl)
listed Maker = (omega arith, refl)
listed Product = (omega arith, refl)
listed Serial = (omega arith, refl)
listed Made = (omega arith, refl)
listed Input = (omega arith, refl)
listed Size = (omega arith, refl)
listed Gamma = (omega arith, refl)
listed Features = (omega arith, refl)
listed Chroma = (omega arith, refl)
listed Established = (omega arith, refl)
listed Standard = (omega arith, refl)
listed Timing = (omega arith, refl)
listed Name = (omega arith, refl)
listed Text = (omega arith, refl)
listed SerialText = (omega arith, refl)
listed Range = (omega arith, refl)
listed Dummy = (omega arith, refl)
listed Raw = (omega arith, refl)
listed Cta = (omega arith, refl)
listed CtaNone = (omega arith, refl)
listed (Block Tag0) = (omega arith, refl)
listed (Block Audio) = (omega arith, refl)
listed (Block Video) = (omega arith, refl)
listed (Block Vendor) = (omega arith, refl)
listed (Block Speakers) = (omega arith, refl)
listed (Block Tag5) = (omega arith, refl)
listed (Block Tag6) = (omega arith, refl)
listed (Block Extended) = (omega arith, refl)
listed Hdmi = (omega arith, refl)
listed Tail = (omega arith, refl)
listed Ext = (omega arith, refl)

pub solid : (w : Keyword) → is_spaceless (word_text w) ≡ true
solid Edid = refl
solid Maker = refl
solid Product = refl
solid Serial = refl
solid Made = refl
solid Input = refl
solid Size = refl
solid Gamma = refl
solid Features = refl
solid Chroma = refl
solid Established = refl
solid Standard = refl
solid Timing = refl
solid Name = refl
solid Text = refl
solid SerialText = refl
solid Range = refl
solid Dummy = refl
solid Raw = refl
solid Cta = refl
solid CtaNone = refl
solid (Block Tag0) = refl
solid (Block Audio) = refl
solid (Block Video) = refl
solid (Block Vendor) = refl
solid (Block Speakers) = refl
solid (Block Tag5) = refl
solid (Block Tag6) = refl
solid (Block Extended) = refl
solid Hdmi = refl
solid Tail = refl
solid Ext = refl

pub fields_begin : (f : Fields) → BeginsSpaced (fields_text f)
fields_begin Nothing = tt
fields_begin (Letters x) = refl
fields_begin (Numbers ns) = begins ns.items
  where
    begins : (ns : List ℕ) → BeginsSpaced (flat_map number_text ns)
    begins [] = tt
    begins (n ∷ ns) = refl
fields_begin (Timed ns x) = begins ns.items
  where
    begins : (ns : List ℕ) → BeginsSpaced (flat_map number_text ns ++ (32 ∷ encode_lower (x ∷ [])))
    begins [] = refl
    begins (n ∷ ns) = refl
fields_begin (Bytes x) = refl
fields_begin (Address p x) = refl
fields_begin (Quoted x) = refl

pub bytes_same : (xs : List ℕ) → bytes_eq xs xs ≡ true
bytes_same [] = refl
bytes_same (x ∷ xs) = rw (eq-eqb x x refl) (bytes_same xs)

-- a line without its line feed
pub front_of : (w f line : List ℕ) → w ++ (f ++ (10 ∷ [])) ≡ line → w ++ f ≡ take (length line - 1) line
front_of w f line e =
    let whole : (w ++ f) ++ (10 ∷ []) ≡ line = append_assoc w f (10 ∷ []) ∙ e in
    let len : length line - 1 ≡ length (w ++ f) = let l = ap length whole in omega (arith, l, length-append (w ++ f) (10 ∷ [])) in
    sym (ap (λ n. take n line) len ∙ ap (take (length (w ++ f))) (sym whole) ∙ take_front (w ++ f) (10 ∷ []))

pub some_line : (w f line : List ℕ) → w ++ (f ++ (10 ∷ [])) ≡ line → 0 < length line
some_line w f line e = let l = ap length e in omega (arith, l, length-append w (f ++ (10 ∷ [])), length-append f (10 ∷ []))

pub some_same : {X : Type 0} (a b : X) → Path (Option X) (Some a) (Some b) → a ≡ b
some_same a b e = cc

pub same_line : (l : Line) (w : Keyword) (f : Fields) → w ≡ l.word → f ≡ l.fields → Path (Option Line) (Some (record { word = w; fields = f })) (Some l)
same_line l w f e g = ap (λ x. Some (record { word = x; fields = f })) e ∙ ap (λ y. Some (record { word = l.word; fields = y })) g
