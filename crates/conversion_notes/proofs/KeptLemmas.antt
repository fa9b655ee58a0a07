-- The lines of the text that do not begin with a space are those of the EDID's text.
use Rattle.std.proofs.Common.{◌≡◌, ℕ, ◌==◌, Bool, true, false, ◌≤◌, ◌&&◌, not, nat_le, cond, arith, List, [], ◌∷◌, ◌++◌, map, filter, flat_map, ap, refl, ◌∙◌, append_assoc}
use Rattle.std.proofs.lemmas.Bool.{leb-true}
use borrow.Author.Tests.{tests}
use Rattle.edid_text_lines.specs.Text.{word_text, fields_text, line_text}
use Rattle.edid_text_lines.specs.declared.line.Line.{Line}
use Rattle.edid_cta.specs.declared.block.BlockKind.TheVariants.{Tag0, Audio, Video, Vendor, Speakers, Tag5, Tag6, Extended}
use Rattle.edid_text_lines.specs.declared.line.Keyword.{Keyword}
use Rattle.edid_text_lines.specs.declared.line.Keyword.TheVariants.{Edid, Maker, Product, Serial, Made, Input, Size, Gamma, Features, Chroma, Established, Standard, Timing, Name, Text, SerialText, Range, Dummy, Raw, Cta, CtaNone, Block, Hdmi, Tail, Ext}
use Rattle.edid_core.specs.declared.edid.Edid.{Edid as WholeEdid}
use Rattle.edid_texts.specs.Cut.{lines_with_feeds, has_no_feed, AreLines}
use Rattle.edid_texts.specs.Lines.{edid_lines, edid_text}
use Rattle.edid_texts.proofs.CutTexts.{line_split, edid_are_lines}
use Rattle.meaning_words.specs.Notes.{printable, own_line}
use Rattle.conversion_notes.specs.Meanings.{is_plain, plain_text, meanings}
use Rattle.rules_values.specs.VideoCodes.{video_codes}
use Rattle.conversion_notes.specs.EdidMeaning.{meaning_of}

-- ---- a line below has no line feed in it

and : (a b : Bool) → a ≡ true → b ≡ true → (a && b) ≡ true
and a b e f = rw (e, f) refl

not_feed : (b : ℕ) → 0x20 ≤ b → not (b == 10) ≡ true
not_feed b h = let other : (b == 10) ≡ false = grind (arith, tests) in rw other refl

printed : (b : ℕ) → not (printable b == 10) ≡ true
printed b = cases (nat_le 0x20 b) (nat_le b 0x7e) refl
  where
    cases : (v w : Bool) → nat_le 0x20 b ≡ v → not (cond (v && w) b 46 == 10) ≡ true
    cases true true h = not_feed b (leb-true 0x20 b h)
    cases true false h = refl
    cases false w h = refl

no_feed : (t : List ℕ) → has_no_feed (map printable t) ≡ true
no_feed [] = refl
no_feed (b ∷ t) = and (not (printable b == 10)) (has_no_feed (map printable t)) (printed b) (no_feed t)

one_below : (t rest : List ℕ) → lines_with_feeds (own_line t ++ rest) ≡ own_line t ∷ lines_with_feeds rest
one_below t rest =
    let w = 32 ∷ 32 ∷ map printable t in
    ap lines_with_feeds (append_assoc w (10 ∷ []) rest) ∙ line_split w rest (no_feed t)

-- ---- lines below are no plain lines

all_below : (ts : List (List ℕ)) (rest : List ℕ) → plain_text (flat_map own_line ts ++ rest) ≡ plain_text rest
all_below [] rest = refl
all_below (t ∷ ts) rest =
    ap plain_text (append_assoc (own_line t) (flat_map own_line ts) rest)
    ∙ ap (λ ls. flat_map (λ line. line) (filter is_plain ls)) (one_below t (flat_map own_line ts ++ rest))
    ∙ all_below ts rest

-- ---- lines of the text are

word_plain : (w : Keyword) (rest : List ℕ) → is_plain (word_text w ++ rest) ≡ true
word_plain Edid rest = refl
word_plain Maker rest = refl
word_plain Product rest = refl
word_plain Serial rest = refl
word_plain Made rest = refl
word_plain Input rest = refl
word_plain Size rest = refl
word_plain Gamma rest = refl
word_plain Features rest = refl
word_plain Chroma rest = refl
word_plain Established rest = refl
word_plain Standard rest = refl
word_plain Timing rest = refl
word_plain Name rest = refl
word_plain Text rest = refl
word_plain SerialText rest = refl
word_plain Range rest = refl
word_plain Dummy rest = refl
word_plain Raw rest = refl
word_plain Cta rest = refl
word_plain CtaNone rest = refl
word_plain (Block Tag0) rest = refl
word_plain (Block Audio) rest = refl
word_plain (Block Video) rest = refl
word_plain (Block Vendor) rest = refl
word_plain (Block Speakers) rest = refl
word_plain (Block Tag5) rest = refl
word_plain (Block Tag6) rest = refl
word_plain (Block Extended) rest = refl
word_plain Hdmi rest = refl
word_plain Tail rest = refl
word_plain Ext rest = refl

kept : (x : List ℕ) (xs : List (List ℕ)) → is_plain x ≡ true → flat_map (λ line. line) (filter is_plain (x ∷ xs)) ≡ x ++ flat_map (λ line. line) (filter is_plain xs)
kept x xs h = at (is_plain x) h
  where
    at : (v : Bool) → v ≡ true → flat_map (λ line. line) (cond v (x ∷ filter is_plain xs) (filter is_plain xs)) ≡ x ++ flat_map (λ line. line) (filter is_plain xs)
    at true h = refl
    at false h = cc

line_kept : (l : Line) (rest : List ℕ) → lines_with_feeds (line_text l ++ rest) ≡ line_text l ∷ lines_with_feeds rest → plain_text (line_text l ++ rest) ≡ line_text l ++ plain_text rest
line_kept l rest one =
    ap (λ ls. flat_map (λ line. line) (filter is_plain ls)) one
    ∙ kept (line_text l) (lines_with_feeds rest) (word_plain l.word (fields_text l.fields ++ (10 ∷ [])))

-- a text of lines, whatever stands below them
pub lines_kept : (below : Line → List (List ℕ)) (ls : List Line) → AreLines ls → plain_text (flat_map (λ l. line_text l ++ flat_map own_line (below l)) ls) ≡ flat_map line_text ls
lines_kept below [] are = refl
lines_kept below (l ∷ ls) are =
    let more = flat_map (λ l. line_text l ++ flat_map own_line (below l)) ls in
    ap plain_text (append_assoc (line_text l) (flat_map own_line (below l)) more)
    ∙ line_kept l (flat_map own_line (below l) ++ more) (are.0 (flat_map own_line (below l) ++ more))
    ∙ ap (λ x. line_text l ++ x) (all_below (below l) more ∙ lines_kept below ls are.1)

pub keeps : (e : WholeEdid) → plain_text (meaning_of e) ≡ edid_text e
keeps e = lines_kept (meanings e.base (video_codes e.extensions.items)) (edid_lines e) (edid_are_lines e)
