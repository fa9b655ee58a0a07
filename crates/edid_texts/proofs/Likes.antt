-- For the first words of a line that are right, an accepted text has such a line that begins with them.
use Rattle.std.proofs.Common.{◌≡◌, ℕ, zero, suc, ◌+◌, ◌-◌, ◌<◌, ◌≤◌, ◌==◌, Bool, true, false, ◌&&◌, ◌||◌, not, nat_lt, nat_le, cond, List, [], ◌∷◌, ◌++◌, length, map, take, get_or, Some, ap, subst, arith, refl, sym, ◌∙◌}
use Rattle.std.specs.Fmt.{decimal}
use Rattle.std.proofs.lemmas.Bool.{and_parts, eqb-true, leb-true, ltb-true}
use Rattle.std.proofs.lemmas.List.{take-append-le}
use Rattle.hex.specs.Hex.{encode_lower}
use Rattle.text_core.specs.Piece.{phys_text}
use Rattle.text_core.specs.Words.{spaces_unquoted, words_of}
use Rattle.edid_base.specs.Bytes.{are_bytes}
use Rattle.edid_base.specs.Chroma.{chroma_numbers}
use Rattle.edid_base.specs.Standard.{standard_numbers}
use Rattle.edid_base.specs.Timing.{timing_numbers}
use Rattle.edid_base.specs.declared.base.Base.{Base}
use Rattle.edid_base.specs.declared.chroma.Chroma.{Chroma as Chromaticities}
use Rattle.edid_base.specs.declared.descriptor.Descriptor.TheVariants.{Timing as OfTiming}
use Rattle.edid_base.specs.declared.standard.StandardTiming.{StandardTiming}
use Rattle.edid_base.specs.declared.timing.Timing.{Timing as DetailedTiming}
use Rattle.edid_cta.specs.declared.block.DataBlock.{DataBlock}
use Rattle.edid_cta.specs.declared.block.BlockKind.TheVariants.{Vendor as OfVendor}
use Rattle.edid_text_lines.specs.Formed.{form_of}
use Rattle.edid_text_lines.specs.Text.{word_text, hex_word, fields_text}
use Rattle.edid_text_lines.specs.declared.line.Line.{Line}
use Rattle.edid_text_lines.specs.declared.line.Keyword.{Keyword}
use Rattle.edid_text_lines.specs.declared.line.Keyword.TheVariants.{Made, Size, Chroma, Standard, Timing, Cta, CtaNone, Hdmi, Tail, Ext}
use Rattle.edid_text_lines.proofs.OneWord.{solid, fields_begin}
use Rattle.edid_texts.specs.Drafts.{draft_lines, Follows}
use Rattle.edid_texts.specs.Lines.{numbers_line, standard_line, timing_line, base_lines, block_line}
use Rattle.edid_texts.specs.Refusal.{first_word, first_words, word_count, IsFirstUnfit}
use Rattle.edid_texts.specs.Words.{place_of, in_base, at_ext, is_tail_word, in_timings, in_blocks, may_begin, has_words, number_fits, FitsAt}
use Rattle.edid_texts.specs.Draft.{Draft, OfBegun as Begun, OfWhole, OfOpened, OfBare, Opened}
use Rattle.edid_texts.specs.declared.place.NextLine.TheVariants.{AtExt, AtEnd, InBlocks, InTimings}
use Rattle.edid_texts.proofs.FirstWords.{Agree, is_less, shared, words_front, first_of, numbers_front, timed_front, address_front}
use Rattle.edid_texts.proofs.Fits.{NumberAt}
use Rattle.edid_texts.proofs.Good.{EachGood, Good, edid_good, good_at, and, timing_good}
use Rattle.edid_texts.proofs.Samples.{words_of as field_count, samples, other_base, standard_next, descriptor_next, more_timing, more_block, empty}
use Rattle.edid_texts.proofs.WordTexts.{front_text, words_are, first_is, alone}

pub record Like (ls : List Line) (w : Keyword) (front : List ℕ) (k : ℕ) : Type 0 where
  pub line : Line
  pub follows : Follows ls line
  pub word : line.word ≡ w
  pub words : field_count line.fields ≡ word_count front
  pub same : first_words k front ≡ first_words k (front_text line)

clash : false ≡ true → ⊥
clash h = cc

follows_good : (ls : List Line) (l : Line) → Follows ls l → Good l
follows_good ls l f = good_at ls l f.1.0 (subst EachGood f.1.1 (edid_good f.0))

like_of : (ls : List Line) (w : Keyword) (front : List ℕ) (k : ℕ) (l : Line) (ys : List (List ℕ)) → Follows ls l → l.word ≡ w → field_count l.fields ≡ word_count front → k < word_count front
    → take k (words_of (front_text l)) ≡ take k ys → Agree k 0 (words_of front) ys → k ≤ length ys → Like ls w front k
like_of ls w front k l ys f is size less first a h =
    let count : word_count front ≡ word_count (front_text l) = sym size ∙ sym (words_are l (follows_good ls l f)) in
    record { line = l; follows = f; word = is; words = size; same = shared k front (front_text l) ys less count first a h }

-- a number for a place: what stands there, where it is right
record Pick (w : Keyword) (words : List (List ℕ)) (k i : ℕ) : Type 0 where
  n : ℕ
  fits : number_fits w i n ≡ true
  reported : i < k → get_or words i [] ≡ decimal n

pick : (w : Keyword) (words : List (List ℕ)) (k i d : ℕ) → (i < k → NumberAt w i (get_or words i [])) → number_fits w i d ≡ true → Pick w words k i
pick w words k i d f ok = cases (nat_lt i k) refl
  where
    cases : (v : Bool) → nat_lt i k ≡ v → Pick w words k i
    cases true e = let x = f (ltb-true _ _ e) in record { n = x.0; fits = x.1.1; reported = λ h. sym x.1.0 }
    cases false e = record { n = d; fits = ok; reported = λ h. absurd (clash (sym e ∙ is_less i k h)) }

small_byte : (n : ℕ) → nat_le n 255 ≡ true → n < 256
small_byte n h = let less = leb-true _ _ h in omega (arith, less)

a_byte : (n : ℕ) → n < 256 → nat_lt n 256 ≡ true
a_byte n h = is_less n 256 h

-- what the words of a line at fault give
abbrev Told : Keyword → List ℕ → ℕ → Type 0
Told w front k = (i : ℕ) → 1 ≤ i → i < k → NumberAt w i (get_or (words_of front) i [])

made_like : (b : Base) (n k : ℕ) (front : List ℕ) → n ≡ 4 → word_count front ≡ 3 → get_or (words_of front) 0 [] ≡ word_text Made → Told Made front k → k < word_count front → Like (take n (base_lines b)) Made front k
made_like b n k front at count first f less =
    let p = pick Made (words_of front) k 1 0 (f 1 (omega arith)) refl in
    let fit = small_byte p.n p.fits in
    let others = (and_parts (nat_lt b.week 256) (are_bytes (b.input ∷ b.width ∷ b.height ∷ b.gamma ∷ b.features ∷ b.extensions ∷ b.established)) b.bytes_fit).1 in
    let a : Base = record b { week = p.n; bytes_fit = and (nat_lt p.n 256) (are_bytes (b.input ∷ b.width ∷ b.height ∷ b.gamma ∷ b.features ∷ b.extensions ∷ b.established)) (a_byte p.n fit) others } in
    let l = numbers_line Made (p.n ∷ b.year ∷ []) in
    let follows : Follows (take n (base_lines b)) l = other_base a b n l (subst (λ m. take (m + 1) (base_lines a) ≡ take m (base_lines b) ++ l ∷ []) (sym at) refl) in
    let good = follows_good (take n (base_lines b)) l follows in
    like_of (take n (base_lines b)) Made front k l (word_text Made ∷ decimal p.n ∷ decimal b.year ∷ []) follows refl (sym count) less
    (ap (take k) (numbers_front Made (p.n ∷ b.year ∷ []) good.0.1)) ((λ h. first), (p.reported, ((λ h. absurd (omega (arith, h, less, count))), tt))) (omega (arith, less, count))

size_like : (b : Base) (n k : ℕ) (front : List ℕ) → n ≡ 6 → word_count front ≡ 3 → get_or (words_of front) 0 [] ≡ word_text Size → Told Size front k → k < word_count front → Like (take n (base_lines b)) Size front k
size_like b n k front at count first f less =
    let p = pick Size (words_of front) k 1 0 (f 1 (omega arith)) refl in
    let fit = small_byte p.n p.fits in
    let rest = b.height ∷ b.gamma ∷ b.features ∷ b.extensions ∷ b.established in
    let one = and_parts (nat_lt b.week 256) (are_bytes (b.input ∷ b.width ∷ rest)) b.bytes_fit in
    let two = and_parts (nat_lt b.input 256) (are_bytes (b.width ∷ rest)) one.1 in
    let three = and_parts (nat_lt b.width 256) (are_bytes rest) two.1 in
    let new = and (nat_lt p.n 256) (are_bytes rest) (a_byte p.n fit) three.1 in
    let a : Base = record b { width = p.n; bytes_fit = and (nat_lt b.week 256) (are_bytes (b.input ∷ p.n ∷ rest)) one.0 (and (nat_lt b.input 256) (are_bytes (p.n ∷ rest)) two.0 new) } in
    let l = numbers_line Size (p.n ∷ b.height ∷ []) in
    let follows : Follows (take n (base_lines b)) l = other_base a b n l (subst (λ m. take (m + 1) (base_lines a) ≡ take m (base_lines b) ++ l ∷ []) (sym at) refl) in
    let good = follows_good (take n (base_lines b)) l follows in
    like_of (take n (base_lines b)) Size front k l (word_text Size ∷ decimal p.n ∷ decimal b.height ∷ []) follows refl (sym count) less
    (ap (take k) (numbers_front Size (p.n ∷ b.height ∷ []) good.0.1)) ((λ h. first), (p.reported, ((λ h. absurd (omega (arith, h, less, count))), tt))) (omega (arith, less, count))

ten_bits : (n : ℕ) → nat_le n 1023 ≡ true → n < 1024
ten_bits n h = let less = leb-true _ _ h in omega (arith, less)

chroma_like : (b : Base) (n k : ℕ) (front : List ℕ) → n ≡ 9 → word_count front ≡ 9 → get_or (words_of front) 0 [] ≡ word_text Chroma → Told Chroma front k → k < word_count front → Like (take n (base_lines b)) Chroma front k
chroma_like b n k front at count first f less =
    let words = words_of front in
    let p1 = pick Chroma words k 1 0 (f 1 (omega arith)) refl in
    let p2 = pick Chroma words k 2 0 (f 2 (omega arith)) refl in
    let p3 = pick Chroma words k 3 0 (f 3 (omega arith)) refl in
    let p4 = pick Chroma words k 4 0 (f 4 (omega arith)) refl in
    let p5 = pick Chroma words k 5 0 (f 5 (omega arith)) refl in
    let p6 = pick Chroma words k 6 0 (f 6 (omega arith)) refl in
    let p7 = pick Chroma words k 7 0 (f 7 (omega arith)) refl in
    let c : Chromaticities = record {
      red = record { x = p1.n; y = p2.n; x_fits = ten_bits p1.n p1.fits; y_fits = ten_bits p2.n p2.fits };
      green = record { x = p3.n; y = p4.n; x_fits = ten_bits p3.n p3.fits; y_fits = ten_bits p4.n p4.fits };
      blue = record { x = p5.n; y = p6.n; x_fits = ten_bits p5.n p5.fits; y_fits = ten_bits p6.n p6.fits };
      white = record { x = p7.n; y = 0; x_fits = ten_bits p7.n p7.fits; y_fits = omega arith };
    } in
    let a : Base = record b { chroma = c } in
    let l = numbers_line Chroma (chroma_numbers c) in
    let follows : Follows (take n (base_lines b)) l = other_base a b n l (subst (λ m. take (m + 1) (base_lines a) ≡ take m (base_lines b) ++ l ∷ []) (sym at) refl) in
    let good = follows_good (take n (base_lines b)) l follows in
    like_of (take n (base_lines b)) Chroma front k l (word_text Chroma ∷ map decimal (chroma_numbers c)) follows refl (sym count) less
    (ap (take k) (numbers_front Chroma (chroma_numbers c) good.0.1))
    ((λ h. first), (p1.reported, (p2.reported, (p3.reported, (p4.reported, (p5.reported, (p6.reported, (p7.reported, ((λ h. absurd (omega (arith, h, less, count))), tt))))))))) (omega (arith, less, count))

never : (v : Bool) → not (v && false) ≡ true
never true = refl
never false = refl

standard_like : (b : Base) (n k : ℕ) (front : List ℕ) → 11 ≤ n → n < 19 → word_count front ≡ 4 → get_or (words_of front) 0 [] ≡ word_text Standard → Told Standard front k → k < word_count front → Like (take n (base_lines b)) Standard front k
standard_like b n k front least most count first f less =
    let p1 = pick Standard (words_of front) k 1 248 (f 1 (omega arith)) refl in
    let p2 = pick Standard (words_of front) k 2 0 (f 2 (omega arith)) refl in
    let q1 = and_parts (nat_le 248 p1.n && nat_le p1.n 2288) _ p1.fits in
    let q2 = and_parts (nat_le 248 p1.n) (nat_le p1.n 2288) q1.0 in
    let aspect = leb-true _ _ p2.fits in
    let s : StandardTiming = record {
      width = p1.n;
      aspect = p2.n;
      rate = 60;
      least_width = leb-true _ _ q2.0;
      most_width = leb-true _ _ q2.1;
      by_eight = eqb-true _ _ q1.1;
      aspect_fits = omega (arith, aspect);
      least_rate = omega arith;
      most_rate = omega arith;
      used = never ((p1.n == 256) && (p2.n == 0));
    } in
    let l = standard_line (Some s) in
    let follows = standard_next b n (Some s) least most in
    let good = follows_good (take n (base_lines b)) l follows in
    like_of (take n (base_lines b)) Standard front k l (word_text Standard ∷ map decimal (standard_numbers s)) follows refl (sym count) less
    (ap (take k) (numbers_front Standard (standard_numbers s) good.0.1))
    ((λ h. first), (p1.reported, (p2.reported, ((λ h. absurd (omega (arith, h, less, count))), tt)))) (omega (arith, less, count))

up_to : (least n most : ℕ) → (nat_le least n && nat_le n most) ≡ true → n ≤ most
up_to least n most h = leb-true _ _ (and_parts (nat_le least n) (nat_le n most) h).1

-- a detailed timing that begins with the words that are right
record Timed (front : List ℕ) (k : ℕ) : Type 0 where
  timing : DetailedTiming
  agrees : get_or (words_of front) 0 [] ≡ word_text Timing → Agree k 0 (words_of front) (word_text Timing ∷ map decimal (timing_numbers timing))

timed : (front : List ℕ) (k : ℕ) → Told Timing front k → Timed front k
timed front k f =
    let words = words_of front in
    let p1 = pick Timing words k 1 1 (f 1 (omega arith)) refl in
    let p2 = pick Timing words k 2 0 (f 2 (omega arith)) refl in
    let p3 = pick Timing words k 3 0 (f 3 (omega arith)) refl in
    let p4 = pick Timing words k 4 0 (f 4 (omega arith)) refl in
    let p5 = pick Timing words k 5 0 (f 5 (omega arith)) refl in
    let p6 = pick Timing words k 6 0 (f 6 (omega arith)) refl in
    let p7 = pick Timing words k 7 0 (f 7 (omega arith)) refl in
    let p8 = pick Timing words k 8 0 (f 8 (omega arith)) refl in
    let p9 = pick Timing words k 9 0 (f 9 (omega arith)) refl in
    let p10 = pick Timing words k 10 0 (f 10 (omega arith)) refl in
    let p11 = pick Timing words k 11 0 (f 11 (omega arith)) refl in
    let p12 = pick Timing words k 12 0 (f 12 (omega arith)) refl in
    let p13 = pick Timing words k 13 0 (f 13 (omega arith)) refl in
    let some = leb-true _ _ (and_parts (nat_le 1 p1.n) (nat_le p1.n 65535) p1.fits).0 in
    let m1 = up_to 1 p1.n 65535 p1.fits in
    let m2 = up_to 0 p2.n 4095 p2.fits in
    let m3 = up_to 0 p3.n 4095 p3.fits in
    let m4 = up_to 0 p4.n 4095 p4.fits in
    let m5 = up_to 0 p5.n 4095 p5.fits in
    let m6 = up_to 0 p6.n 1023 p6.fits in
    let m7 = up_to 0 p7.n 1023 p7.fits in
    let m8 = up_to 0 p8.n 63 p8.fits in
    let m9 = up_to 0 p9.n 63 p9.fits in
    let m10 = up_to 0 p10.n 4095 p10.fits in
    let m11 = up_to 0 p11.n 4095 p11.fits in
    let m12 = up_to 0 p12.n 255 p12.fits in
    let m13 = up_to 0 p13.n 255 p13.fits in
    let t : DetailedTiming = record {
      clock = p1.n;
      horizontal_active = p2.n;
      horizontal_blanking = p3.n;
      vertical_active = p4.n;
      vertical_blanking = p5.n;
      horizontal_sync_offset = p6.n;
      horizontal_sync_width = p7.n;
      vertical_sync_offset = p8.n;
      vertical_sync_width = p9.n;
      width = p10.n;
      height = p11.n;
      horizontal_border = p12.n;
      vertical_border = p13.n;
      flags = 0;
      runs = omega (arith, some);
      clock_fits = omega (arith, m1);
      horizontal_active_fits = omega (arith, m2);
      horizontal_blanking_fits = omega (arith, m3);
      vertical_active_fits = omega (arith, m4);
      vertical_blanking_fits = omega (arith, m5);
      horizontal_sync_offset_fits = omega (arith, m6);
      horizontal_sync_width_fits = omega (arith, m7);
      vertical_sync_offset_fits = omega (arith, m8);
      vertical_sync_width_fits = omega (arith, m9);
      width_fits = omega (arith, m10);
      height_fits = omega (arith, m11);
      horizontal_border_fits = omega (arith, m12);
      vertical_border_fits = omega (arith, m13);
      flags_fit = omega arith;
    } in
    record {
      timing = t;
      agrees = λ first. (
        (λ h. first),
        (
          p1.reported,
          (
            p2.reported,
            (p3.reported, (p4.reported, (p5.reported, (p6.reported, (p7.reported, (p8.reported, (p9.reported, (p10.reported, (p11.reported, (p12.reported, (p13.reported, tt))))))))))),
          ),
        ),
      );
    }

timing_like : (ls : List Line) (k : ℕ) (front : List ℕ) → ((t : DetailedTiming) → Follows ls (timing_line t)) → word_count front ≡ 15 → get_or (words_of front) 0 [] ≡ word_text Timing → Told Timing front k → k < word_count front
    → Like ls Timing front k
timing_like ls k front next count first f less =
    let x = timed front k f in
    let t = x.timing in
    let numbers = timing_numbers t in
    let hex = encode_lower (t.flags ∷ []) in
    let most : k ≤ 14 = omega (arith, less, count) in
    like_of ls Timing front k (timing_line t) (word_text Timing ∷ map decimal numbers) (next t) refl (sym count) less
    (ap (take k) (timed_front Timing numbers hex (timing_good t).0.0.1) ∙ take-append-le k (word_text Timing ∷ map decimal numbers) (words_of hex) most)
    (x.agrees first) most

hdmi_like : (o : Opened) (k : ℕ) (front : List ℕ) → o.timings.items ≡ [] → 6 ≤ o.left → word_count front ≡ 3 → get_or (words_of front) 0 [] ≡ word_text Hdmi → FitsAt Hdmi 1 (get_or (words_of front) 1 []) → k < word_count front
    → Like (draft_lines (OfOpened o)) Hdmi front k
hdmi_like o k front none room count first fits less =
    let p = fits.0 in
    let high = a_byte p.high fits.1.0 in
    let low = a_byte p.low fits.1.1.0 in
    let b : DataBlock = record {
      kind = OfVendor;
      payload = record { items = 3 ∷ 12 ∷ 0 ∷ p.high ∷ p.low ∷ [] };
      short = omega arith;
      bytes_fit = and (nat_lt p.high 256) (are_bytes (p.low ∷ [])) high (and (nat_lt p.low 256) (are_bytes []) low refl);
    } in
    let most : k ≤ 2 = omega (arith, less, count) in
    like_of (draft_lines (OfOpened o)) Hdmi front k (block_line b) (word_text Hdmi ∷ phys_text p ∷ []) (more_block o b none room) refl (sym count) less
    (ap (take k) (address_front Hdmi p (hex_word [])) ∙ take-append-le k (word_text Hdmi ∷ phys_text p ∷ []) (words_of (hex_word [])) most)
    ((λ h. first), ((λ h. sym fits.1.1.1), tt)) most

single : (n : ℕ) → nat_lt 1 (suc n) ≡ false → suc n ≡ 1
single zero h = refl
single (suc n) h = absurd (clash (sym h ∙ is_less 1 (suc (suc n)) (omega arith)))

at_first : (k : ℕ) → 1 ≤ k → nat_lt 1 k ≡ false → k ≡ 1
at_first zero h e = absurd (omega arith)
at_first (suc n) h e = single n e

-- the first word alone
first_like : (d : Draft) (w : Keyword) (front : List ℕ) → may_begin (place_of d) w ≡ true → has_words (form_of w) (word_count front) ≡ true → first_word front ≡ word_text w → Like (draft_lines d) w front 1
first_like d w front begins words first =
    let s = samples d w (word_count front) begins words in
    let good = follows_good (draft_lines d) s.line s.follows in
    let count : word_count front ≡ word_count (front_text s.line) = sym s.words ∙ sym (words_are s.line good) in
    let other : first_word (front_text s.line) ≡ word_text w = first_is s.line ∙ ap word_text s.word in
    record { line = s.line; follows = s.follows; word = s.word; words = s.words; same = cases s.line s.word count other (nat_lt 1 (word_count front)) refl }
  where
    cases : (l : Line) → l.word ≡ w → word_count front ≡ word_count (front_text l) → first_word (front_text l) ≡ word_text w → (v : Bool) → nat_lt 1 (word_count front) ≡ v → first_words 1 front ≡ first_words 1 (front_text l)
    cases l is count other true e =
        let less = ltb-true _ _ e in
        let begins = words_front (word_text l.word) (fields_text l.fields) (solid l.word) (fields_begin l.fields) in
        shared 1 front (front_text l) (word_text w ∷ []) less count (ap (take 1) begins ∙ ap (λ x. word_text x ∷ []) is) ((λ h. first_of front ∙ first), tt) (omega arith)
    cases l is count other false e =
        let one : word_count front ≡ 1 = single (spaces_unquoted front) e in
        let also : nat_lt 1 (word_count (front_text l)) ≡ false = ap (nat_lt 1) (sym count) ∙ e in
        let same : front ≡ front_text l = alone w front first one ∙ sym (alone w (front_text l) other (sym count ∙ one)) in
        ap (λ v. cond v (take 1 (words_of front)) (front ∷ [])) e ∙ ap (λ x. x ∷ []) same ∙ sym (ap (λ v. cond v (take 1 (words_of (front_text l))) (front_text l ∷ [])) also)

-- more words
abbrev Right : Keyword → List ℕ → ℕ → Type 0
Right w front k = (i : ℕ) → 1 ≤ i → i < k → FitsAt w i (get_or (words_of front) i [])

begun_like : (b : Base) (n k : ℕ) (w : Keyword) (front : List ℕ) → n < 23 → in_base n w ≡ true → has_words (form_of w) (word_count front) ≡ true → get_or (words_of front) 0 [] ≡ word_text w → Right w front k → 1 < k → k < word_count front
    → Like (take n (base_lines b)) w front k
begun_like b n k Made front few at words first f more less = made_like b n k front (eqb-true _ _ at) (eqb-true _ _ words) first f less
begun_like b n k Size front few at words first f more less = size_like b n k front (eqb-true _ _ at) (eqb-true _ _ words) first f less
begun_like b n k Chroma front few at words first f more less = chroma_like b n k front (eqb-true _ _ at) (eqb-true _ _ words) first f less
begun_like b n k Standard front few at words first f more less =
    let p = and_parts (nat_le 11 n) (nat_lt n 19) at in
    standard_like b n k front (leb-true _ _ p.0) (ltb-true _ _ p.1) (four (word_count front == 2) refl words) first f less
  where
    four : (v : Bool) → (word_count front == 2) ≡ v → (v || (word_count front == 4)) ≡ true → word_count front ≡ 4
    four true e h = let two = eqb-true _ _ e in absurd (omega (arith, two, more, less))
    four false e h = eqb-true _ _ h
begun_like b n k Timing front few at words first f more less =
    timing_like (take n (base_lines b)) k front (λ t. descriptor_next b n (OfTiming t) (leb-true _ _ at) few) (eqb-true _ _ words) first f less
begun_like b n k Hdmi front few at words first f more less = absurd (clash at)
begun_like b n k w front few at words first f more less = absurd (clash (f 1 (omega arith) more).1.1)

timings_like : (o : Opened) (k : ℕ) (w : Keyword) (front : List ℕ) → in_timings o.left w ≡ true → has_words (form_of w) (word_count front) ≡ true → get_or (words_of front) 0 [] ≡ word_text w → Right w front k → 1 < k → k < word_count front
    → Like (draft_lines (OfOpened o)) w front k
timings_like o k Timing front at words first f more less =
    timing_like (draft_lines (OfOpened o)) k front (λ t. more_timing o t (leb-true _ _ at)) (eqb-true _ _ words) first f less
timings_like o k Made front at words first f more less = absurd (clash at)
timings_like o k Size front at words first f more less = absurd (clash at)
timings_like o k Chroma front at words first f more less = absurd (clash at)
timings_like o k Standard front at words first f more less = absurd (clash at)
timings_like o k Hdmi front at words first f more less = absurd (clash at)
timings_like o k w front at words first f more less = absurd (clash (f 1 (omega arith) more).1.1)

blocks_like : (o : Opened) (k : ℕ) (w : Keyword) (front : List ℕ) → o.timings.items ≡ [] → in_blocks o.left w ≡ true → has_words (form_of w) (word_count front) ≡ true → get_or (words_of front) 0 [] ≡ word_text w → Right w front k → 1 < k
    → k < word_count front → Like (draft_lines (OfOpened o)) w front k
blocks_like o k Hdmi front none at words first f more less =
    hdmi_like o k front none (leb-true _ _ at) (eqb-true _ _ words) first (f 1 (omega arith) more) less
blocks_like o k Timing front none at words first f more less = timings_like o k Timing front at words first f more less
blocks_like o k Made front none at words first f more less = absurd (clash at)
blocks_like o k Size front none at words first f more less = absurd (clash at)
blocks_like o k Chroma front none at words first f more less = absurd (clash at)
blocks_like o k Standard front none at words first f more less = absurd (clash at)
blocks_like o k w front none at words first f more less = absurd (clash (f 1 (omega arith) more).1.1)

opened_like : (o : Opened) (k : ℕ) (w : Keyword) (front : List ℕ) → may_begin (place_of (OfOpened o)) w ≡ true → has_words (form_of w) (word_count front) ≡ true → get_or (words_of front) 0 [] ≡ word_text w → Right w front k → 1 < k
    → k < word_count front → Like (draft_lines (OfOpened o)) w front k
opened_like o k w front at words first f more less = cases (length o.timings.items == 0) refl at
  where
    cases : (v : Bool) → (length o.timings.items == 0) ≡ v → may_begin (cond v (InBlocks o.left) (InTimings o.left)) w ≡ true → Like (draft_lines (OfOpened o)) w front k
    cases true e h = blocks_like o k w front (empty o.timings.items e) h words first f more less
    cases false e h = timings_like o k w front h words first f more less

-- no first line of an extension and no tail has more than two words
ext_words : (w : Keyword) (text : List ℕ) → at_ext w ≡ true → FitsAt w 1 text → ⊥
ext_words Cta text at f = clash f.1.1
ext_words CtaNone text at f = clash f.1.1
ext_words Ext text at f = clash f.1.1
ext_words w text at f = clash at

tail_words : (w : Keyword) (text : List ℕ) → is_tail_word w ≡ true → FitsAt w 1 text → ⊥
tail_words Tail text at f = clash f.1.1
tail_words w text at f = clash at

whole_words : (v : Bool) (w : Keyword) (text : List ℕ) → may_begin (cond v AtExt AtEnd) w ≡ true → FitsAt w 1 text → ⊥
whole_words true w text at f = ext_words w text at f
whole_words false w text at f = clash at

pub likes : (d : Draft) (w : Keyword) (front : List ℕ) (k : ℕ) → may_begin (place_of d) w ≡ true → has_words (form_of w) (word_count front) ≡ true → first_word front ≡ word_text w → IsFirstUnfit w front k → Like (draft_lines d) w front k
likes d w front k begins words first u = cases (nat_lt 1 k) refl
  where
    several : (d : Draft) → may_begin (place_of d) w ≡ true → 1 < k → k < word_count front → Right w front k → get_or (words_of front) 0 [] ≡ word_text w → Like (draft_lines d) w front k
    several (Begun d) at more less f begin = begun_like d.base d.number k w front d.few at words begin f more less
    several (OfOpened o) at more less f begin = opened_like o k w front at words begin f more less
    several (OfWhole whole) at more less f begin = absurd (whole_words (nat_lt (length whole.extensions.items) 3) w (get_or (words_of front) 1 []) at (f 1 (omega arith) more))
    several (OfBare h) at more less f begin = absurd (tail_words w (get_or (words_of front) 1 []) at (f 1 (omega arith) more))

    cases : (v : Bool) → nat_lt 1 k ≡ v → Like (draft_lines d) w front k
    cases true e =
        let more = ltb-true _ _ e in
        let last = (u.passed (k - 1) (omega (arith, more)) (omega (arith, more))).0 in
        several d begins more (omega (arith, more, last)) (λ i least less. (u.passed i least less).1) (first_of front ∙ first)
    cases false e =
        subst (λ n. Like (draft_lines d) w front n) (sym (at_first k u.least e)) (first_like d w front begins words first)
