-- Where nothing is told, the lines are the same.
use Rattle.std.proofs.Common.{◌≡◌, refl, sym, ◌∙◌, ap, ap₂, ℕ, zero, suc, ◌+◌, ◌*◌, ◌<◌, ◌==◌, Bool, true, false, cond, ◌&&◌, arith, lit<, List, [], ◌∷◌, ◌++◌, length, take, drop, get_or, map, flat_map, codes, eq-eqb, length-append, take-append-drop}
use Rattle.std.proofs.lemmas.Bool.{and_parts, eqb-true}
use Rattle.std.proofs.lemmas.Slice.Eq.{bytes_eq-Decides}
use Rattle.std.specs.Fmt.{decimal}
use Rattle.std.specs.Str.{bytes_eq}
use Rattle.edid_cta.specs.declared.block.BlockKind.TheVariants.{Tag0, Audio, Video, Vendor, Speakers, Tag5, Tag6, Extended}
use Rattle.edid_core.proofs.OneEdid.{one_edid}
use Rattle.edid_core.specs.Bytes.{edid_bytes}
use Rattle.edid_core.specs.declared.edid.Edid.{Edid as EdidValue}
use Rattle.edid_text_lines.specs.declared.line.Keyword.{Keyword}
use Rattle.edid_text_lines.specs.declared.line.Keyword.TheVariants.{Edid, Maker, Product, Serial, Made, Input, Size, Gamma, Features, Chroma, Established, Standard, Timing, Name, Text, SerialText, Range, Dummy, Raw, Cta, CtaNone, Block, Hdmi, Tail, Ext}
use Rattle.edid_text_lines.specs.declared.line.Fields.{Fields}
use Rattle.edid_text_lines.specs.declared.line.Fields.TheVariants.{Nothing, Letters, Numbers, Timed, Bytes, Address, Quoted}
use Rattle.edid_text_lines.specs.declared.line.Line.{Line}
use Rattle.edid_texts.proofs.OneLines.{one_lines}
use Rattle.edid_texts.specs.Lines.{part_lines}
use Rattle.record_core.specs.Cells.{PlainCell}
use Rattle.record_core.specs.Records.{record_text, said}
use Rattle.record_core.specs.declared.cell.Form.{Form}
use Rattle.record_core.specs.declared.cell.Form.TheVariants as forms
use Rattle.edid_difference.specs.Alignment.{Entry, aligned, aligned_from, both_of, is_first_lone, lone_first, lone_second}
use Rattle.edid_difference.specs.Laws.{AlikeAreSame, SameAreAlike}
use Rattle.edid_difference.specs.Parts.{block_of, edid_parts, fields_tag, kind_in, parts_from, word_number}
use Rattle.edid_difference.specs.Records.{both_text, change_text, difference_text, entry_text, first_text, parts_difference, second_text}
use Rattle.edid_difference.specs.Values.{Change, change, change_unless, changes, name_at, number_changes, numbers_in, rest_changes, rest_in, rest_name, rest_text, shape, whole_text}
use Rattle.edid_difference.specs.declared.part.Part.{Part}

-- ---- one word of a kind

abbrev word_at : ℕ → Keyword
word_at n =
    cond (n == 0) Edid (cond (n == 1) Maker (cond (n == 2) Product (cond (n == 3) Serial (cond (n == 4) Made (cond (n == 5) Input (cond (n == 6) Size (
    cond (n == 7) Gamma (cond (n == 8) Features (cond (n == 9) Chroma (cond (n == 10) Established (cond (n == 11) Standard (cond (n == 12) Timing (
    cond (n == 13) Name (cond (n == 14) Text (cond (n == 15) SerialText (cond (n == 16) Range (cond (n == 17) Dummy (cond (n == 18) Raw (
    cond (n == 19) Cta (cond (n == 20) CtaNone (cond (n == 21) (Block Tag0) (cond (n == 22) (Block Audio) (cond (n == 23) (Block Video) (
    cond (n == 24) (Block Vendor) (cond (n == 25) (Block Speakers) (cond (n == 26) (Block Tag5) (cond (n == 27) (Block Tag6) (cond (n == 28) (Block Extended) (
    cond (n == 29) Hdmi (cond (n == 30) Tail Ext))))))))))))))))))))))))))))))

word_again : (w : Keyword) → (word_at (word_number w) ≡ w) × (word_number w < 32)
word_again Edid = (refl, lit< tt)
word_again Maker = (refl, lit< tt)
word_again Product = (refl, lit< tt)
word_again Serial = (refl, lit< tt)
word_again Made = (refl, lit< tt)
word_again Input = (refl, lit< tt)
word_again Size = (refl, lit< tt)
word_again Gamma = (refl, lit< tt)
word_again Features = (refl, lit< tt)
word_again Chroma = (refl, lit< tt)
word_again Established = (refl, lit< tt)
word_again Standard = (refl, lit< tt)
word_again Timing = (refl, lit< tt)
word_again Name = (refl, lit< tt)
word_again Text = (refl, lit< tt)
word_again SerialText = (refl, lit< tt)
word_again Range = (refl, lit< tt)
word_again Dummy = (refl, lit< tt)
word_again Raw = (refl, lit< tt)
word_again Cta = (refl, lit< tt)
word_again CtaNone = (refl, lit< tt)
word_again (Block Tag0) = (refl, lit< tt)
word_again (Block Audio) = (refl, lit< tt)
word_again (Block Video) = (refl, lit< tt)
word_again (Block Vendor) = (refl, lit< tt)
word_again (Block Speakers) = (refl, lit< tt)
word_again (Block Tag5) = (refl, lit< tt)
word_again (Block Tag6) = (refl, lit< tt)
word_again (Block Extended) = (refl, lit< tt)
word_again Hdmi = (refl, lit< tt)
word_again Tail = (refl, lit< tt)
word_again Ext = (refl, lit< tt)

low_digits : (t u a b : ℕ) → a < 32 → b < 32 → 32 * t + a ≡ 32 * u + b → a ≡ b
low_digits t u a b h k e = omega (arith, h, k, e)

one_word : (m n : ℕ) (k l : Line) → kind_in m k ≡ kind_in n l → k.word ≡ l.word
one_word m n k l e =
    let a = word_again k.word in
    let b = word_again l.word in
    sym a.0
    ∙ ap word_at (low_digits (16777216 * m + fields_tag k.word k.fields) (16777216 * n + fields_tag l.word l.fields) (word_number k.word) (word_number l.word) a.1 b.1 e) ∙ b.0

-- ---- the values of a line

abbrev rebuilt : ℕ → List ℕ → List ℕ → Fields
rebuilt zero ns rest = Nothing
rebuilt (suc zero) ns rest = Letters (record { items = rest })
rebuilt (suc (suc zero)) ns rest = Numbers (record { items = ns })
rebuilt (suc (suc (suc zero))) ns rest = Timed (record { items = ns }) (get_or rest 0 0)
rebuilt (suc (suc (suc (suc zero)))) ns rest = Bytes (record { items = rest })
rebuilt (suc (suc (suc (suc (suc zero))))) ns rest = Address (record { high = get_or rest 0 0; low = get_or rest 1 0 }) (record { items = drop 2 rest })
rebuilt (suc (suc (suc (suc (suc (suc n)))))) ns rest = Quoted (record { items = rest })

again : (f : Fields) → rebuilt (shape f) (numbers_in f) (rest_in f) ≡ f
again Nothing = refl
again (Letters letters) = refl
again (Numbers numbers) = refl
again (Timed numbers flags) = refl
again (Bytes bytes) = refl
again (Address phys bytes) = refl
again (Quoted chars) = refl

by_values : (f g : Fields) → shape f ≡ shape g → numbers_in f ≡ numbers_in g → rest_in f ≡ rest_in g → f ≡ g
by_values f g e n r =
    sym (again f) ∙ ap (λ s. rebuilt s (numbers_in f) (rest_in f)) e ∙ ap (λ ns. rebuilt (shape g) ns (rest_in f)) n ∙ ap (rebuilt (shape g) (numbers_in g)) r ∙ again g

none_first : {X : Type 0} (xs ys : List X) → xs ++ ys ≡ [] → (xs ≡ []) × (ys ≡ [])
none_first [] ys h = (refl, h)
none_first (x ∷ xs) ys h = cc

none_changed : (same : Bool) (name a b : List ℕ) → change_unless same name a b ≡ [] → same ≡ true
none_changed true name a b h = refl
none_changed false name a b h = cc

same_numbers : (word : Keyword) (i : ℕ) (xs ys : List ℕ) → length xs ≡ length ys → number_changes word i xs ys ≡ [] → xs ≡ ys
same_numbers word i [] [] len h = refl
same_numbers word i [] (y ∷ ys) len h = absurd (omega (arith, len))
same_numbers word i (x ∷ xs) [] len h = absurd (omega (arith, len))
same_numbers word i (x ∷ xs) (y ∷ ys) len h = by (x == y) refl h (same_numbers word (i + 1) xs ys (omega (arith, len)))
  where
    by : (v : Bool) → (x == y) ≡ v
        → cond v (number_changes word (i + 1) xs ys) (change (name_at word i) (decimal x) (decimal y) ∷ number_changes word (i + 1) xs ys) ≡ []
        → (number_changes word (i + 1) xs ys ≡ [] → xs ≡ ys) → x ∷ xs ≡ y ∷ ys
    by true e k later = ap₂ (λ z zs. z ∷ zs) (eqb-true x y e) (later k)
    by false e k later = cc

same_bytes : (xs ys name a b : List ℕ) → change_unless (bytes_eq xs ys) name a b ≡ [] → xs ≡ ys
same_bytes xs ys name a b h = (bytes_eq-Decides xs ys).0 (none_changed (bytes_eq xs ys) name a b h)

whole_rest : (word : Keyword) (f g : Fields) → change_unless (bytes_eq (rest_in f) (rest_in g)) (rest_name word) (rest_text f) (rest_text g) ≡ [] → rest_in f ≡ rest_in g
whole_rest word f g h = same_bytes (rest_in f) (rest_in g) (rest_name word) (rest_text f) (rest_text g) h

same_rest : (word : Keyword) (f g : Fields) → rest_changes word f g ≡ [] → rest_in f ≡ rest_in g
same_rest Hdmi f g h =
    let parts = none_first (change_unless (bytes_eq (take 2 (rest_in f)) (take 2 (rest_in g))) (codes "address") (take 7 (whole_text f)) (take 7 (whole_text g)))
    (change_unless (bytes_eq (drop 2 (rest_in f)) (drop 2 (rest_in g))) (codes "bytes") (drop 8 (whole_text f)) (drop 8 (whole_text g))) h in
    let front = same_bytes (take 2 (rest_in f)) (take 2 (rest_in g)) (codes "address") (take 7 (whole_text f)) (take 7 (whole_text g)) parts.0 in
    let later = same_bytes (drop 2 (rest_in f)) (drop 2 (rest_in g)) (codes "bytes") (drop 8 (whole_text f)) (drop 8 (whole_text g)) parts.1 in
    sym (take-append-drop 2 (rest_in f)) ∙ ap₂ (λ xs ys. xs ++ ys) front later ∙ take-append-drop 2 (rest_in g)
same_rest word f g h = whole_rest word f g h

same_fields : (word : Keyword) (f g : Fields) → changes word f g ≡ [] → f ≡ g
same_fields word f g h = by ((shape f == shape g) && (length (numbers_in f) == length (numbers_in g))) refl h
  where
    by : (v : Bool) → ((shape f == shape g) && (length (numbers_in f) == length (numbers_in g))) ≡ v
        → cond v (number_changes word 0 (numbers_in f) (numbers_in g) ++ rest_changes word f g) (change [] (whole_text f) (whole_text g) ∷ []) ≡ [] → f ≡ g
    by true e k =
        let tests = and_parts (shape f == shape g) (length (numbers_in f) == length (numbers_in g)) e in
        let parts = none_first (number_changes word 0 (numbers_in f) (numbers_in g)) (rest_changes word f g) k in
        by_values f g (eqb-true (shape f) (shape g) tests.0)
        (same_numbers word 0 (numbers_in f) (numbers_in g) (eqb-true (length (numbers_in f)) (length (numbers_in g)) tests.1) parts.0) (same_rest word f g parts.1)
    by false e k = cc

-- of the same fields

unless_same : (xs name a b : List ℕ) → change_unless (bytes_eq xs xs) name a b ≡ []
unless_same xs name a b = ap (λ v. cond v [] (change name a b ∷ [])) ((bytes_eq-Decides xs xs).1 refl)

no_numbers : (word : Keyword) (i : ℕ) (xs : List ℕ) → number_changes word i xs xs ≡ []
no_numbers word i [] = refl
no_numbers word i (x ∷ xs) =
    ap (λ v. cond v (number_changes word (i + 1) xs xs) (change (name_at word i) (decimal x) (decimal x) ∷ number_changes word (i + 1) xs xs)) (eq-eqb x x refl)
    ∙ no_numbers word (i + 1) xs

no_rest : (word : Keyword) (f : Fields) → rest_changes word f f ≡ []
no_rest Hdmi f = ap₂ (λ xs ys. xs ++ ys) (unless_same (take 2 (rest_in f)) (codes "address") (take 7 (whole_text f)) (take 7 (whole_text f)))
    (unless_same (drop 2 (rest_in f)) (codes "bytes") (drop 8 (whole_text f)) (drop 8 (whole_text f)))
no_rest word f = unless_same (rest_in f) (rest_name word) (rest_text f) (rest_text f)

no_changes : (word : Keyword) (f : Fields) → changes word f f ≡ []
no_changes word f =
    let ns = numbers_in f in
    ap (λ v. cond v (number_changes word 0 ns ns ++ rest_changes word f f) (change [] (whole_text f) (whole_text f) ∷ []))
    (ap₂ (λ u v. u && v) (eq-eqb (shape f) (shape f) refl) (eq-eqb (length ns) (length ns) refl))
    ∙ ap₂ (λ xs ys. xs ++ ys) (no_numbers word 0 ns) (no_rest word f)

-- ---- what is told

record_there : (form : Form) (kind : List ℕ) (cells : List PlainCell) → record_text form kind cells ≡ [] → ⊥
record_there forms.Text kind cells h = let len = ap length h in omega (arith, len, length-append (said cells) (codes "\n"))
record_there forms.Json kind cells h = cc

-- the lines are those whose kinds the parts have
abbrev AreMade : List Part → Type 0
AreMade [] = Unit {0}
AreMade (p ∷ ps) = (p.kind ≡ kind_in p.block p.line) × AreMade ps

made_from : (block number : ℕ) (ls : List Line) → AreMade (parts_from block number ls)
made_from block number [] = tt
made_from block number (l ∷ ls) = (refl, made_from (block_of block l.word) (number + 1) ls)

abbrev line_of : Part → Line
line_of p = p.line

lines_from : (block number : ℕ) (ls : List Line) → map line_of (parts_from block number ls) ≡ ls
lines_from block number [] = refl
lines_from block number (l ∷ ls) = ap (λ ks. l ∷ ks) (lines_from (block_of block l.word) (number + 1) ls)

none_told : (form : Form) (block number other : ℕ) (word : List ℕ) (cs : List Change) → flat_map (change_text form block number other word) cs ≡ [] → cs ≡ []
none_told form block number other word [] h = refl
none_told form block number other word (c ∷ cs) h =
    absurd (record_there form _ _ (none_first (change_text form block number other word c) (flat_map (change_text form block number other word) cs) h).0)

same_line : (x y : Part) → x.kind ≡ kind_in x.block x.line → y.kind ≡ kind_in y.block y.line → (x.kind == y.kind) ≡ true → changes x.line.word x.line.fields y.line.fields ≡ []
    → x.line ≡ y.line
same_line x y made also same h =
    let kinds : kind_in x.block x.line ≡ kind_in y.block y.line = sym made ∙ eqb-true x.kind y.kind same ∙ also in
    two (one_word x.block y.block x.line y.line kinds) (same_fields x.line.word x.line.fields y.line.fields h)
  where
    two : x.line.word ≡ y.line.word → x.line.fields ≡ y.line.fields → x.line ≡ y.line
    two e f = ap₂ (λ w g. record { word = w; fields = g }) e f

module _ (form : Form) where
  abbrev T : Entry → List ℕ
  T e = entry_text form e

  no_first : (x : Part) (es : List Entry) → flat_map T (lone_first x ∷ es) ≡ [] → ⊥
  no_first x es h = record_there form _ _ (none_first (first_text form x) (flat_map T es) h).0

  no_second : (y : Part) (es : List Entry) → flat_map T (lone_second y ∷ es) ≡ [] → ⊥
  no_second y es h = record_there form _ _ (none_first (second_text form y) (flat_map T es) h).0

  same_parts : (xs ys : List Part) → AreMade xs → AreMade ys → parts_difference form xs ys ≡ [] → map line_of xs ≡ map line_of ys
  same_parts [] [] made also h = refl
  same_parts [] (y ∷ ys) made also h = absurd (no_second y (map lone_second ys) h)
  same_parts (x ∷ xs) [] made also h = absurd (no_first x (map lone_first xs) h)
  same_parts (x ∷ xs) (y ∷ ys) made also h = by (x.kind == y.kind) (is_first_lone x xs y ys) refl h (same_parts xs ys made.1 also.1)
    where
      by : (v w : Bool) → (x.kind == y.kind) ≡ v
          → flat_map T (cond v (both_of x y ∷ aligned xs ys) (cond w (lone_first x ∷ aligned xs (y ∷ ys)) (lone_second y ∷ aligned_from x xs (aligned xs) ys))) ≡ []
          → (parts_difference form xs ys ≡ [] → map line_of xs ≡ map line_of ys) → map line_of (x ∷ xs) ≡ map line_of (y ∷ ys)
      by true w e k later =
          let parts = none_first (both_text form x y) (flat_map T (aligned xs ys)) k in
          ap₂ (λ l ls. l ∷ ls) (same_line x y made.0 also.0 e (none_told form x.block x.number y.number _ _ parts.0)) (later parts.1)
      by false true e k later = absurd (no_first x (aligned xs (y ∷ ys)) k)
      by false false e k later = absurd (no_second y (aligned_from x xs (aligned xs) ys) k)

  nothing_told : (xs : List Part) → parts_difference form xs xs ≡ []
  nothing_told [] = refl
  nothing_told (x ∷ xs) =
      ap (λ v. flat_map T (cond v (both_of x x ∷ aligned xs xs) (cond (is_first_lone x xs x xs) (lone_first x ∷ aligned xs (x ∷ xs)) (lone_second x ∷ aligned_from x xs (aligned xs) xs))))
      (eq-eqb x.kind x.kind refl)
      ∙ ap₂ (λ t u. t ++ u) (ap (flat_map (change_text form x.block x.number x.number _)) (no_changes x.line.word x.line.fields)) (nothing_told xs)

-- ---- of whole EDIDs

pub same_alike : SameAreAlike
same_alike form e f h =
    let same : e ≡ f = one_edid e f h in
    ap (λ (g : EdidValue). difference_text form e.base e.extensions.items g.base g.extensions.items) (sym same) ∙ nothing_told form (edid_parts e.base e.extensions.items)

pub alike_same : AlikeAreSame
unfolding edid_parts
alike_same form e f h =
    let ls = part_lines e.base e.extensions.items in
    let ks = part_lines f.base f.extensions.items in
    let lines = same_parts form (edid_parts e.base e.extensions.items) (edid_parts f.base f.extensions.items) (made_from 0 0 ls) (made_from 0 0 ks) h in
    ap edid_bytes (one_lines e f (sym (lines_from 0 0 ls) ∙ lines ∙ lines_from 0 0 ks))
