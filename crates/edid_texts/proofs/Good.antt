-- What each line of an EDID is like.
use Rattle.std.proofs.Common.{◌≡◌, ℕ, ◌^◌, ◌<◌, ◌≤◌, ◌==◌, Bool, true, false, ◌&&◌, not, nat_lt, nat_le, cond, List, [], ◌∷◌, ◌++◌, length, map, flat_map, Option, Some, None, ap, arith, refl, length-drop}
use Rattle.std.specs.List.{list_all}
use Rattle.std.proofs.lemmas.Bool.{and_parts, leb-true, ltb-true}
use borrow.Author.Tests.{tests}
use Rattle.edid_base.proofs.Bytes.{are_bytes-drop, are_bytes-at}
use Rattle.edid_base.specs.Bytes.{are_bytes}
use Rattle.edid_base.specs.Chars.{is_char}
use Rattle.edid_base.specs.Letters.{is_letter}
use Rattle.edid_base.specs.declared.base.Base.{Base}
use Rattle.edid_base.specs.declared.base.Revision.{Revision}
use Rattle.edid_base.specs.declared.base.Revision.TheVariants.{Three, Four}
use Rattle.edid_base.specs.declared.chroma.Chroma.{Chroma as Chromaticities}
use Rattle.edid_base.specs.declared.descriptor.Descriptor.{Descriptor}
use Rattle.edid_base.specs.declared.descriptor.Descriptor.TheVariants.{Timing as OfTiming, Name as OfName, Text as OfText, SerialText as OfSerialText, Range as OfRange, Dummy as OfDummy, Raw as OfRaw}
use Rattle.edid_base.specs.declared.maker.Maker.{Maker as AnyMaker}
use Rattle.edid_base.specs.declared.standard.StandardTiming.{StandardTiming}
use Rattle.edid_base.specs.declared.text.Text.{Text as AnyText}
use Rattle.edid_base.specs.declared.timing.Timing.{Timing as DetailedTiming}
use Rattle.edid_cta.specs.declared.block.DataBlock.{DataBlock}
use Rattle.edid_cta.specs.declared.block.BlockKind.{BlockKind}
use Rattle.edid_cta.specs.declared.block.BlockKind.TheVariants.{Vendor}
use Rattle.edid_cta.specs.declared.raw.Ext.{Ext as Extension}
use Rattle.edid_cta.specs.declared.raw.Ext.TheVariants.{Cta as OfCta, Bare as OfBare, Raw as OfRawExt}
use Rattle.edid_text_lines.specs.Formed.{Formed, are_numbers}
use Rattle.edid_texts.specs.Cut.{has_no_feed}
use Rattle.edid_texts.specs.Lines.{bytes_line, revision_letters, standard_line, timing_line, descriptor_line, head_lines, base_lines, address_line, payload_line, block_line, bytes_without_zeros, tail_line, ext_lines, edid_lines}
use Rattle.edid_cta.specs.Hdmi.{has_identifier}
use Rattle.edid_base.specs.Timing.{timing_numbers}
use Rattle.edid_base.specs.Chroma.{chroma_numbers}
use Rattle.edid_core.specs.declared.edid.Edid.{Edid as WholeEdid}
use Rattle.edid_text_lines.specs.declared.line.Fields.{Fields}
use Rattle.edid_text_lines.specs.declared.line.Fields.TheVariants.{Letters, Quoted}
use Rattle.edid_text_lines.specs.declared.line.Line.{Line}
use Rattle.edid_text_lines.specs.declared.line.Keyword.TheVariants.{Block}
use Rattle.edid_texts.proofs.BaseNexts.{byte_fits}
use Rattle.edid_texts.proofs.Sorts.{long_hdmi}
use Rattle.edid_texts.proofs.TailLemmas.{trimmed_le}

-- no line feed, space or quote
abbrev pub is_clean : ℕ → Bool
is_clean c = not (c == 10) && not (c == 32) && not (c == 34)

abbrev pub are_clean : List ℕ → Bool
are_clean xs = list_all is_clean xs

abbrev pub PlainFields : Fields → Type 0
PlainFields (Letters letters) = are_clean letters.items ≡ true
PlainFields (Quoted chars) = has_no_feed chars.items ≡ true
PlainFields fields = Unit {0}

abbrev pub Good : Line → Type 0
Good l = Formed l × PlainFields l.fields

abbrev pub EachGood : List Line → Type 0
EachGood [] = Unit {0}
EachGood (l ∷ ls) = Good l × EachGood ls

pub good-append : (xs ys : List Line) → EachGood xs → EachGood ys → EachGood (xs ++ ys)
good-append [] ys h k = k
good-append (x ∷ xs) ys h k = (h.0, good-append xs ys h.1 k)

pub good-map : {X : Type 0} (f : X → Line) → ((x : X) → Good (f x)) → (xs : List X) → EachGood (map f xs)
good-map f h [] = tt
good-map f h (x ∷ xs) = (h x, good-map f h xs)

pub good_at : (xs : List Line) (l : Line) (more : List Line) → EachGood (xs ++ l ∷ more) → Good l
good_at [] l more h = h.0
good_at (x ∷ xs) l more h = good_at xs l more h.1

pub large_clean : (c : ℕ) → 35 ≤ c → is_clean c ≡ true
large_clean c h =
    let a : (c == 10) ≡ false = grind (arith, tests) in
    let b : (c == 32) ≡ false = grind (arith, tests) in
    let d : (c == 34) ≡ false = grind (arith, tests) in
    rw (a, b, d) refl

pub and : (a b : Bool) → a ≡ true → b ≡ true → (a && b) ≡ true
and a b p q = rw (p, q) refl

pub clean-cons : (c : ℕ) (xs : List ℕ) → 35 ≤ c → are_clean xs ≡ true → are_clean (c ∷ xs) ≡ true
clean-cons c xs h k = and (is_clean c) (are_clean xs) (large_clean c h) k

letter_least : (c : ℕ) → is_letter c ≡ true → 35 ≤ c
letter_least c h = let least = leb-true _ _ (and_parts (nat_le 65 c) (nat_le c 90) h).0 in omega (arith, least)

maker_clean : (m : AnyMaker) → are_clean (m.first ∷ m.second ∷ m.third ∷ []) ≡ true
maker_clean m =
    let all = and_parts (is_letter m.first && is_letter m.second) (is_letter m.third) m.letters in
    let two = and_parts (is_letter m.first) (is_letter m.second) all.0 in
    clean-cons m.first (m.second ∷ m.third ∷ []) (letter_least m.first two.0) (
    clean-cons m.second (m.third ∷ []) (letter_least m.second two.1) (
    clean-cons m.third [] (letter_least m.third all.1) refl))

abbrev AreSmall : List ℕ → Type 0
AreSmall [] = Unit {0}
AreSmall (n ∷ ns) = (n < 2 ^ 32) × AreSmall ns

small_numbers : (ns : List ℕ) → AreSmall ns → are_numbers ns ≡ true
small_numbers [] h = refl
small_numbers (n ∷ ns) h =
    let less = h.0 in
    let first : nat_lt n (2 ^ 32) ≡ true = grind (arith, tests) in
    and (nat_lt n (2 ^ 32)) (are_numbers ns) first (small_numbers ns h.1)

standard_good : (s : Option StandardTiming) → Good (standard_line s)
standard_good None = (refl, refl)
standard_good (Some s) =
    let width = s.most_width in
    let aspect = s.aspect_fits in
    let rate = s.most_rate in
    ((refl, small_numbers (s.width ∷ s.aspect ∷ s.rate ∷ []) (omega (arith, width), (omega (arith, aspect), (omega (arith, rate), tt)))), tt)

pub timing_good : (t : DetailedTiming) → Good (timing_line t)
timing_good t =
    let a = t.clock_fits in
    let b = t.horizontal_active_fits in
    let c = t.horizontal_blanking_fits in
    let d = t.vertical_active_fits in
    let e = t.vertical_blanking_fits in
    let f = t.horizontal_sync_offset_fits in
    let g = t.horizontal_sync_width_fits in
    let h = t.vertical_sync_offset_fits in
    let i = t.vertical_sync_width_fits in
    let j = t.width_fits in
    let k = t.height_fits in
    let l = t.horizontal_border_fits in
    let m = t.vertical_border_fits in
    let all : AreSmall (timing_numbers t) = (
      omega (arith, a),
      (
        omega (arith, b),
        (
          omega (arith, c),
          (
            omega (arith, d),
            (
              omega (arith, e),
              (
                omega (arith, f),
                (
                  omega (arith, g),
                  (
                    omega (arith, h),
                    (omega (arith, i), (omega (arith, j), (omega (arith, k), (omega (arith, l), (omega (arith, m), tt))))),
                  ),
                ),
              ),
            ),
          ),
        ),
      ),
    ) in
    (((refl, small_numbers (timing_numbers t) all), t.flags_fit), tt)

chars_plain : (xs : List ℕ) → list_all is_char xs ≡ true → has_no_feed xs ≡ true
chars_plain [] h = refl
chars_plain (x ∷ xs) h =
    let p = and_parts (is_char x) (list_all is_char xs) h in
    let least = leb-true _ _ (and_parts (nat_le 0x20 x) (nat_le x 0x7e) (and_parts _ _ p.0).0).0 in
    let first : (x == 10) ≡ false = grind (arith, tests) in
    and (not (x == 10)) (has_no_feed xs) (ap not first) (chars_plain xs p.1)

text_short : (t : AnyText) → length t.chars.items ≤ 13
text_short t = leb-true _ _ (and_parts (nat_le (length t.chars.items) 13) _ t.printable).0

text_plain : (t : AnyText) → has_no_feed t.chars.items ≡ true
text_plain t = chars_plain t.chars.items (and_parts (nat_le (length t.chars.items) 13) _ t.printable).1

pub descriptor_good : (d : Descriptor) → Good (descriptor_line d)
descriptor_good (OfTiming t) = timing_good t
descriptor_good (OfName t) = (text_short t, text_plain t)
descriptor_good (OfText t) = (text_short t, text_plain t)
descriptor_good (OfSerialText t) = (text_short t, text_plain t)
descriptor_good (OfRange r) = ((let h = r.whole in omega (arith, h), r.bytes_fit), tt)
descriptor_good OfDummy = (tt, tt)
descriptor_good (OfRaw r) = ((let h = r.whole in omega (arith, h), r.bytes_fit), tt)

chroma_good : (c : Chromaticities) → are_numbers (chroma_numbers c) ≡ true
chroma_good c =
    let a = c.red.x_fits in
    let b = c.red.y_fits in
    let d = c.green.x_fits in
    let e = c.green.y_fits in
    let f = c.blue.x_fits in
    let g = c.blue.y_fits in
    let h = c.white.x_fits in
    let i = c.white.y_fits in
    small_numbers (chroma_numbers c)
    (omega (arith, a), (omega (arith, b), (omega (arith, d), (omega (arith, e), (omega (arith, f), (omega (arith, g), (omega (arith, h), (omega (arith, i), tt))))))))

one_byte_good : (b : ℕ) → b < 256 → are_bytes (b ∷ []) ≡ true
one_byte_good b h = let first : nat_lt b 256 ≡ true = grind (arith, tests) in rw first refl

revision_clean : (r : Revision) → (length (revision_letters r) ≡ 3) × (are_clean (revision_letters r) ≡ true)
revision_clean Three = (refl, refl)
revision_clean Four = (refl, refl)

established_bytes : (b : Base) → are_bytes b.established ≡ true
established_bytes b = are_bytes-drop 7 (b.week ∷ b.input ∷ b.width ∷ b.height ∷ b.gamma ∷ b.features ∷ b.extensions ∷ b.established) b.bytes_fit

head_good : (b : Base) → EachGood (head_lines b)
head_good b =
    let product = b.product_fits in
    let serial = b.serial_fits in
    let week : b.week < 256 = byte_fits b 0 in
    let year = b.last_year in
    let input : b.input < 256 = byte_fits b 1 in
    let width : b.width < 256 = byte_fits b 2 in
    let height : b.height < 256 = byte_fits b 3 in
    let gamma : b.gamma < 256 = byte_fits b 4 in
    let features : b.features < 256 = byte_fits b 5 in
    let three = b.three in (
      (revision_clean b.revision),
      (
        (refl, maker_clean b.maker),
        (
          ((refl, small_numbers (b.product ∷ []) (omega (arith, product), tt)), tt),
          (
            ((refl, small_numbers (b.serial ∷ []) (serial, tt)), tt),
            (
              ((refl, small_numbers (b.week ∷ b.year ∷ []) (omega (arith, week), (omega (arith, year), tt))), tt),
              (
                ((omega arith, one_byte_good b.input input), tt),
                (
                  ((refl, small_numbers (b.width ∷ b.height ∷ []) (omega (arith, width), (omega (arith, height), tt))), tt),
                  (
                    ((refl, small_numbers (b.gamma ∷ []) (omega (arith, gamma), tt)), tt),
                    (
                      ((omega arith, one_byte_good b.features features), tt),
                      (
                        ((refl, chroma_good b.chroma), tt),
                        (((omega (arith, three), established_bytes b), tt), tt),
                      ),
                    ),
                  ),
                ),
              ),
            ),
          ),
        ),
      ),
    )

pub base_good : (b : Base) → EachGood (base_lines b)
base_good b =
    good-append (head_lines b) (map standard_line b.standard ++ map descriptor_line b.descriptors) (head_good b) (
    good-append (map standard_line b.standard) (map descriptor_line b.descriptors) (good-map standard_line standard_good b.standard) (good-map descriptor_line descriptor_good b.descriptors))

block_good : (b : DataBlock) → Good (block_line b)
block_good b = at b.kind b.payload.items b.short b.bytes_fit
  where
    vendor : (v : Bool) (p : List ℕ) → has_identifier p ≡ v → length p < 32 → are_bytes p ≡ true → Good (cond v (address_line p) (bytes_line (Block Vendor) p))
    vendor true p e h k =
        let long = long_hdmi p e in
        ((are_bytes-at p 3 k, are_bytes-at p 4 k, omega (arith, long, h, length-drop 5 p), are_bytes-drop 5 p k), tt)
    vendor false p e h k = ((omega (arith, h), k), tt)

    at : (kind : BlockKind) (p : List ℕ) → length p < 32 → are_bytes p ≡ true → Good (payload_line kind p)
    at Vendor p h k = vendor (has_identifier p) p refl h k
    at kind p h k = ((omega (arith, h), k), tt)

trimmed_bytes : (xs : List ℕ) → are_bytes xs ≡ true → are_bytes (bytes_without_zeros xs) ≡ true
trimmed_bytes [] h = refl
trimmed_bytes (x ∷ xs) h =
    let p = and_parts (nat_lt x 256) (are_bytes xs) h in
    cases ((x == 0) && (length (bytes_without_zeros xs) == 0)) p.0 (trimmed_bytes xs p.1)
  where
    cases : (v : Bool) → nat_lt x 256 ≡ true → are_bytes (bytes_without_zeros xs) ≡ true → are_bytes (cond v [] (x ∷ bytes_without_zeros xs)) ≡ true
    cases true h k = refl
    cases false h k = and (nat_lt x 256) (are_bytes (bytes_without_zeros xs)) h k

tail_good : (tail : List ℕ) → length tail ≤ 123 → are_bytes tail ≡ true → Good (tail_line tail)
tail_good tail h k = let less = trimmed_le tail in ((omega (arith, less, h), trimmed_bytes tail k), tt)

ext_good : (x : Extension) → EachGood (ext_lines x)
ext_good (OfCta c) =
    let fit = and_parts (nat_lt c.flags 256) (are_bytes c.tail.items) c.bytes_fit in
    let whole = c.whole in
    let flags : c.flags < 256 = ltb-true _ _ fit.0 in (
      ((omega arith, one_byte_good c.flags flags), tt),
      good-append (map block_line c.blocks.items) (map timing_line c.timings.items ++ (tail_line c.tail.items ∷ [])) (good-map block_line block_good c.blocks.items) (
          good-append (map timing_line c.timings.items) (tail_line c.tail.items ∷ []) (good-map timing_line timing_good c.timings.items) (
          (tail_good c.tail.items (omega (arith, whole)) fit.1, tt))),
    )
ext_good (OfBare b) =
    let fit = and_parts (nat_lt b.flags 256) (are_bytes b.tail) b.bytes_fit in
    let whole = b.whole in
    let flags : b.flags < 256 = ltb-true _ _ fit.0 in
    (((omega arith, one_byte_good b.flags flags), tt), (tail_good b.tail (omega (arith, whole)) fit.1, tt))
ext_good (OfRawExt r) = (((let h = r.whole in omega (arith, h), r.bytes_fit), tt), tt)

exts_good : (xs : List Extension) → EachGood (flat_map ext_lines xs)
exts_good [] = tt
exts_good (x ∷ xs) = good-append (ext_lines x) (flat_map ext_lines xs) (ext_good x) (exts_good xs)

pub edid_good : (e : WholeEdid) → EachGood (edid_lines e)
edid_good e = good-append (base_lines e.base) (flat_map ext_lines e.extensions.items) (base_good e.base) (exts_good e.extensions.items)
