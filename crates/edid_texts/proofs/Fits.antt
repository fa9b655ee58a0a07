-- The words of each line of an EDID are right, each by itself.
use Rattle.std.proofs.Common.{◌≡◌, ℕ, zero, suc, ◌+◌, ◌%◌, ◌<◌, ◌≤◌, ◌==◌, Bool, true, false, ◌&&◌, nat_le, cond, List, [], ◌∷◌, ◌++◌, length, map, get_or, flat_map, Option, Some, None, ap, subst, arith, refl, sym, ◌∙◌}
use Rattle.std.specs.Fmt.{decimal}
use borrow.Author.Tests.{tests}
use Rattle.hex.specs.Hex.{encode_lower}
use Rattle.text_core.specs.Piece.{phys_text}
use Rattle.text_core.specs.Words.{words_of}
use Rattle.text_core.specs.declared.phys.Phys.{Phys}
use Rattle.edid_base.specs.Chroma.{chroma_numbers}
use Rattle.edid_base.specs.declared.base.Base.{Base}
use Rattle.edid_base.specs.declared.chroma.Chroma.{Chroma as Chromaticities}
use Rattle.edid_base.specs.declared.descriptor.Descriptor.{Descriptor}
use Rattle.edid_base.specs.declared.descriptor.Descriptor.TheVariants.{Timing as OfTiming, Name as OfName, Text as OfText, SerialText as OfSerialText, Range as OfRange, Dummy as OfDummy, Raw as OfRaw}
use Rattle.edid_base.specs.declared.standard.StandardTiming.{StandardTiming}
use Rattle.edid_base.specs.declared.timing.Timing.{Timing as DetailedTiming}
use Rattle.edid_cta.specs.Hdmi.{has_identifier}
use Rattle.edid_cta.specs.declared.block.DataBlock.{DataBlock}
use Rattle.edid_cta.specs.declared.block.BlockKind.{BlockKind}
use Rattle.edid_cta.specs.declared.block.BlockKind.TheVariants.{Vendor}
use Rattle.edid_cta.specs.declared.raw.Ext.{Ext as AnyExt}
use Rattle.edid_cta.specs.declared.raw.Ext.TheVariants.{Cta as OfCta, Bare as OfBare, Raw as OfRawExt}
use Rattle.edid_core.specs.declared.edid.Edid.{Edid as WholeEdid}
use Rattle.edid_text_lines.specs.Formed.{form_of, FormedFields, are_numbers}
use Rattle.edid_text_lines.specs.Text.{word_text, hex_word, fields_text}
use Rattle.edid_text_lines.specs.declared.line.Fields.{Fields}
use Rattle.edid_text_lines.specs.declared.line.Fields.TheVariants.{Nothing, Letters, Numbers, Timed, Bytes, Address, Quoted}
use Rattle.edid_text_lines.specs.declared.line.LineContent.{LineContent}
use Rattle.edid_text_lines.specs.declared.line.LineContent.TheVariants.{One, Two, Eight, Unused, Timing as OfTimed}
use Rattle.edid_text_lines.specs.declared.line.Line.{Line}
use Rattle.edid_text_lines.specs.declared.line.Keyword.{Keyword}
use Rattle.edid_text_lines.specs.declared.line.Keyword.TheVariants.{Block, Chroma, Hdmi}
use Rattle.edid_texts.specs.Lines.{bytes_line, standard_line, timing_line, descriptor_line, head_lines, base_lines, address_line, payload_line, block_line, tail_line, ext_lines, edid_lines}
use Rattle.edid_texts.specs.Words.{number_fits, FitsAt}
use Rattle.edid_texts.proofs.BaseNexts.{byte_fits}
use Rattle.edid_texts.proofs.FirstWords.{numbers_front, timed_front, address_front}
use Rattle.edid_texts.proofs.Good.{Good, and}
use Rattle.edid_texts.proofs.Samples.{words_of as field_count}
use Rattle.edid_texts.proofs.WordTexts.{front_text}

-- a text of a number that is right there
abbrev pub NumberAt : Keyword → ℕ → List ℕ → Type 0
NumberAt w i text = (n : ℕ) × ((decimal n ≡ text) × (number_fits w i n ≡ true))

-- all numbers from this one on
abbrev pub FitAll : Keyword → ℕ → List ℕ → Type 0
FitAll w i [] = Unit {0}
FitAll w i (n ∷ ns) = (number_fits w i n ≡ true) × FitAll w (suc i) ns

-- and all but the last
abbrev pub FitBefore : Keyword → ℕ → List ℕ → Type 0
FitBefore w i [] = Unit {0}
FitBefore w i (n ∷ []) = Unit {0}
FitBefore w i (n ∷ m ∷ ns) = (number_fits w i n ≡ true) × FitBefore w (suc i) (m ∷ ns)

abbrev pub FitFields : Keyword → Fields → Type 0
FitFields w (Numbers ns) = FitBefore w 1 ns.items
FitFields w (Timed ns flags) = FitAll w 1 ns.items
FitFields w fields = Unit {0}

abbrev pub Fit : Line → Type 0
Fit l = FitFields l.word l.fields

abbrev pub EachFit : List Line → Type 0
EachFit [] = Unit {0}
EachFit (l ∷ ls) = Fit l × EachFit ls

fit-append : (xs ys : List Line) → EachFit xs → EachFit ys → EachFit (xs ++ ys)
fit-append [] ys h k = k
fit-append (x ∷ xs) ys h k = (h.0, fit-append xs ys h.1 k)

fit-map : {X : Type 0} (f : X → Line) → ((x : X) → Fit (f x)) → (xs : List X) → EachFit (map f xs)
fit-map f h [] = tt
fit-map f h (x ∷ xs) = (h x, fit-map f h xs)

pub fit_at : (xs : List Line) (l : Line) (more : List Line) → EachFit (xs ++ l ∷ more) → Fit l
fit_at [] l more h = h.0
fit_at (x ∷ xs) l more h = fit_at xs l more h.1

at_most : (n most : ℕ) → n ≤ most → nat_le n most ≡ true
at_most n most h = grind (arith, tests)

in_range : (least n most : ℕ) → least ≤ n → n ≤ most → (nat_le least n && nat_le n most) ≡ true
in_range least n most h k = and (nat_le least n) (nat_le n most) (at_most least n h) (at_most n most k)

standard_fit : (s : Option StandardTiming) → Fit (standard_line s)
standard_fit None = tt
standard_fit (Some s) =
    let aspect = s.aspect_fits in (
      and (nat_le 248 s.width && nat_le s.width 2288) (s.width % 8 == 0) (in_range 248 s.width 2288 s.least_width s.most_width) (ap (λ n. n == 0) s.by_eight),
      (at_most s.aspect 3 (omega (arith, aspect)), tt),
    )

timing_fit : (t : DetailedTiming) → Fit (timing_line t)
timing_fit t =
    let o = t.runs in
    let a = t.clock_fits in
    let b = t.horizontal_active_fits in
    let c = t.horizontal_blanking_fits in
    let d = t.vertical_active_fits in
    let e = t.vertical_blanking_fits in
    let f = t.horizontal_sync_offset_fits in
    let g = t.horizontal_sync_width_fits in
    let h = t.vertical_sync_offset_fits in
    let i = t.vertical_sync_width_fits in
    let j = t.width_fits in
    let k = t.height_fits in
    let l = t.horizontal_border_fits in
    let m = t.vertical_border_fits in
    let n1 = in_range 1 t.clock 65535 (omega (arith, o)) (omega (arith, a)) in
    let n2 = in_range 0 t.horizontal_active 4095 (omega arith) (omega (arith, b)) in
    let n3 = in_range 0 t.horizontal_blanking 4095 (omega arith) (omega (arith, c)) in
    let n4 = in_range 0 t.vertical_active 4095 (omega arith) (omega (arith, d)) in
    let n5 = in_range 0 t.vertical_blanking 4095 (omega arith) (omega (arith, e)) in
    let n6 = in_range 0 t.horizontal_sync_offset 1023 (omega arith) (omega (arith, f)) in
    let n7 = in_range 0 t.horizontal_sync_width 1023 (omega arith) (omega (arith, g)) in
    let n8 = in_range 0 t.vertical_sync_offset 63 (omega arith) (omega (arith, h)) in
    let n9 = in_range 0 t.vertical_sync_width 63 (omega arith) (omega (arith, i)) in
    let n10 = in_range 0 t.width 4095 (omega arith) (omega (arith, j)) in
    let n11 = in_range 0 t.height 4095 (omega arith) (omega (arith, k)) in
    let n12 = in_range 0 t.horizontal_border 255 (omega arith) (omega (arith, l)) in
    let n13 = in_range 0 t.vertical_border 255 (omega arith) (omega (arith, m)) in
    (n1, (n2, (n3, (n4, (n5, (n6, (n7, (n8, (n9, (n10, (n11, (n12, (n13, tt)))))))))))))

chroma_fit : (c : Chromaticities) → FitBefore Chroma 1 (chroma_numbers c)
chroma_fit c =
    let a = c.red.x_fits in
    let b = c.red.y_fits in
    let d = c.green.x_fits in
    let e = c.green.y_fits in
    let f = c.blue.x_fits in
    let g = c.blue.y_fits in
    let h = c.white.x_fits in (
      at_most c.red.x 1023 (omega (arith, a)),
      (
        at_most c.red.y 1023 (omega (arith, b)),
        (
          at_most c.green.x 1023 (omega (arith, d)),
          (
            at_most c.green.y 1023 (omega (arith, e)),
            (at_most c.blue.x 1023 (omega (arith, f)), (at_most c.blue.y 1023 (omega (arith, g)), (at_most c.white.x 1023 (omega (arith, h)), tt))),
          ),
        ),
      ),
    )

descriptor_fit : (d : Descriptor) → Fit (descriptor_line d)
descriptor_fit (OfTiming t) = timing_fit t
descriptor_fit (OfName t) = tt
descriptor_fit (OfText t) = tt
descriptor_fit (OfSerialText t) = tt
descriptor_fit (OfRange r) = tt
descriptor_fit OfDummy = tt
descriptor_fit (OfRaw r) = tt

head_fit : (b : Base) → EachFit (head_lines b)
head_fit b =
    let week : b.week < 256 = byte_fits b 0 in
    let width : b.width < 256 = byte_fits b 2 in
    let made = at_most b.week 255 (omega (arith, week)) in
    let size = at_most b.width 255 (omega (arith, width)) in
    (tt, (tt, (tt, (tt, ((made, tt), (tt, ((size, tt), (tt, (tt, (chroma_fit b.chroma, (tt, tt)))))))))))

base_fit : (b : Base) → EachFit (base_lines b)
base_fit b =
    fit-append (head_lines b) (map standard_line b.standard ++ map descriptor_line b.descriptors) (head_fit b) (
    fit-append (map standard_line b.standard) (map descriptor_line b.descriptors) (fit-map standard_line standard_fit b.standard) (fit-map descriptor_line descriptor_fit b.descriptors))

block_fit : (b : DataBlock) → Fit (block_line b)
block_fit b = at b.kind b.payload.items
  where
    vendor : (v : Bool) (p : List ℕ) → Fit (cond v (address_line p) (bytes_line (Block Vendor) p))
    vendor true p = tt
    vendor false p = tt

    at : (kind : BlockKind) (p : List ℕ) → Fit (payload_line kind p)
    at Vendor p = vendor (has_identifier p) p
    at kind p = tt

ext_fit : (x : AnyExt) → EachFit (ext_lines x)
ext_fit (OfCta c) = (
  tt,
  fit-append (map block_line c.blocks.items) (map timing_line c.timings.items ++ (tail_line c.tail.items ∷ [])) (fit-map block_line block_fit c.blocks.items) (
      fit-append (map timing_line c.timings.items) (tail_line c.tail.items ∷ []) (fit-map timing_line timing_fit c.timings.items) (tt, tt)),
)
ext_fit (OfBare b) = (tt, (tt, tt))
ext_fit (OfRawExt r) = (tt, tt)

exts_fit : (xs : List AnyExt) → EachFit (flat_map ext_lines xs)
exts_fit [] = tt
exts_fit (x ∷ xs) = fit-append (ext_lines x) (flat_map ext_lines xs) (ext_fit x) (exts_fit xs)

pub edid_fit : (e : WholeEdid) → EachFit (edid_lines e)
edid_fit e = fit-append (base_lines e.base) (flat_map ext_lines e.extensions.items) (base_fit e.base) (exts_fit e.extensions.items)

-- the text of a number of those
all_at : (w : Keyword) (i j : ℕ) (ns : List ℕ) (rest : List (List ℕ)) → FitAll w i ns → j < length ns → NumberAt w (i + j) (get_or (map decimal ns ++ rest) j [])
all_at w i j [] rest f h = absurd (omega arith)
all_at w i zero (n ∷ ns) rest f h = let same : i + zero ≡ i = omega arith in (n, (refl, ap (λ k. number_fits w k n) same ∙ f.0))
all_at w i (suc j) (n ∷ ns) rest f h =
    let same : suc i + j ≡ i + suc j = omega arith in
    subst (λ k. NumberAt w k (get_or (map decimal ns ++ rest) j [])) same (all_at w (suc i) j ns rest f.1 (omega arith))

before_at : (w : Keyword) (i j : ℕ) (ns : List ℕ) → FitBefore w i ns → j + 1 < length ns → NumberAt w (i + j) (get_or (map decimal ns) j [])
before_at w i j [] f h = absurd (omega arith)
before_at w i j (n ∷ []) f h = absurd (omega arith)
before_at w i zero (n ∷ m ∷ ns) f h = let same : i + zero ≡ i = omega arith in (n, (refl, ap (λ k. number_fits w k n) same ∙ f.0))
before_at w i (suc j) (n ∷ m ∷ ns) f h =
    let same : suc i + j ≡ i + suc j = omega arith in
    subst (λ k. NumberAt w k (get_or (map decimal (m ∷ ns)) j [])) same (before_at w (suc i) j (m ∷ ns) f.1 (omega arith))

numbers_of : (form : LineContent) (ns : List ℕ) → FormedFields form (Numbers (record { items = ns })) → are_numbers ns ≡ true
numbers_of One ns h = h.1
numbers_of Two ns h = h.1
numbers_of Eight ns h = h.1
numbers_of Unused ns h = h.1
numbers_of form ns h = absurd h

timed_of : (form : LineContent) (ns : List ℕ) (flags : ℕ) → FormedFields form (Timed (record { items = ns }) flags) → are_numbers ns ≡ true
timed_of OfTimed ns flags h = h.0.1
timed_of form ns flags h = absurd h

one_more : (j : ℕ) → 1 + j ≡ suc j
one_more j = omega arith

clash : false ≡ true → ⊥
clash h = cc

by_number : (w : Keyword) (i : ℕ) (text : List ℕ) → NumberAt w i text → FitsAt w i text
by_number Hdmi i text f = absurd (clash f.1.1)
by_number w i text f = f

by_address : (w : Keyword) (p : Phys) (bytes : List ℕ) → FormedFields (form_of w) (Address p (record { items = bytes })) → FitsAt w 1 (phys_text p)
by_address Hdmi p bytes h = (p, (h.0, (h.1, refl)))
by_address w p bytes h = absurd h

past_one : (j : ℕ) → suc j + 1 < 1 → ⊥
past_one j h = omega arith

past_two : (j : ℕ) → suc j + 1 < 2 → ⊥
past_two j h = omega arith

in_three : (j : ℕ) → suc j + 1 < 3 → j ≡ 0
in_three j h = omega arith

in_numbers : (j n : ℕ) → suc j + 1 < suc n → j + 1 < n
in_numbers j n h = omega arith

in_timed : (j n : ℕ) → suc j + 1 < suc (suc n) → j < n
in_timed j n h = omega arith

-- a word of a line that is not the last one
fits_by : (w : Keyword) (f : Fields) (j : ℕ) → FormedFields (form_of w) f → FitFields w f → suc j + 1 < field_count f → FitsAt w (suc j) (get_or (words_of (word_text w ++ fields_text f)) (suc j) [])
fits_by w Nothing j h k m = absurd (past_one j m)
fits_by w (Letters x) j h k m = absurd (past_two j m)
fits_by w (Bytes x) j h k m = absurd (past_two j m)
fits_by w (Quoted x) j h k m = absurd (past_two j m)
fits_by w (Numbers ns) j h k m =
    let words = numbers_front w ns.items (numbers_of (form_of w) ns.items h) in
    let text = get_or (map decimal ns.items) j [] in
    let number = subst (λ n. NumberAt w n text) (one_more j) (before_at w 1 j ns.items k (in_numbers j (length ns.items) m)) in
    subst (λ ws. FitsAt w (suc j) (get_or ws (suc j) [])) (sym words) (by_number w (suc j) text number)
fits_by w (Timed ns flags) j h k m =
    let words = timed_front w ns.items (encode_lower (flags ∷ [])) (timed_of (form_of w) ns.items flags h) in
    let rest = words_of (encode_lower (flags ∷ [])) in
    let text = get_or (map decimal ns.items ++ rest) j [] in
    let number = subst (λ n. NumberAt w n text) (one_more j) (all_at w 1 j ns.items rest k (in_timed j (length ns.items) m)) in
    subst (λ ws. FitsAt w (suc j) (get_or ws (suc j) [])) (sym words) (by_number w (suc j) text number)
fits_by w (Address p bytes) j h k m =
    let words = address_front w p (hex_word bytes.items) in
    let first = subst (λ ws. FitsAt w 1 (get_or ws 1 [])) (sym words) (by_address w p bytes.items h) in
    subst (λ i. FitsAt w (suc i) (get_or (words_of (word_text w ++ (32 ∷ (phys_text p ++ (32 ∷ hex_word bytes.items))))) (suc i) [])) (sym (in_three j m)) first

pub fits_in : (l : Line) → Good l → Fit l → (k : ℕ) → 1 ≤ k → k + 1 < field_count l.fields → FitsAt l.word k (get_or (words_of (front_text l)) k [])
fits_in l good fit zero least most = absurd (omega arith)
fits_in l good fit (suc j) least most = fits_by l.word l.fields j good.0 fit most
