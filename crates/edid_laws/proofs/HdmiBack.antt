-- What is read of the bytes of an HDMI block that words stand for.
use Rattle.std.proofs.Common.{◌≡◌, ℕ, zero, suc, ◌+◌, ◌*◌, ◌/◌, ◌%◌, ◌≤◌, nat_le, ◌==◌, ◌||◌, Bool, true, false, cond, List, [], ◌∷◌, ◌++◌, length, take, drop, Option, Some, None, refl, sym, ◌∙◌, ap, subst, arith}
use Rattle.std.proofs.lemmas.Bool.{false≢true}
use Rattle.std.specs.Prelude.{slice_index}
use Rattle.std.specs.Option.{is_some}
use Rattle.std.proofs.lemmas.Bool.Decides.{nat_tests}
use Rattle.edid_layout.specs.HdmiBlock.{has_bit, delay_of, hdmi_block, interlaced_place, latencies_in, listed_codes, video_bytes as bytes_of_video, video_of, video_place}
use Rattle.edid_layout.specs.declared.hdmi_block.HdmiBlock.{HdmiBlock}
use Rattle.edid_layout.specs.declared.hdmi_block.HdmiVideo.{HdmiVideo}
use Rattle.edid_layout.specs.declared.hdmi_block.Latencies.{Latencies}
use Rattle.edid_spelling.specs.Hdmi.{capabilities, contents, delay_bytes, format_bytes, format_count, formats_of, has_video, hdmi_bytes, head_bytes, presence, video_bytes, weight}
use Rattle.edid_spelling.specs.declared.hdmi.Delays.{Delays}
use Rattle.edid_spelling.specs.declared.hdmi.Said.{Said}
use Rattle.edid_laws.specs.Named.{named_block, named_codes, named_delays, named_video, video_named}
use Rattle.edid_laws.proofs.Weights.{few_contents, flags, presence_read, light}

-- ---- bytes 6 to 8

pub record Reads (bytes : List ℕ) (f c p : ℕ) (rest : List ℕ) : Type 0 where
  pub first : slice_index bytes 0 ≡ f
  pub clock : slice_index bytes 1 ≡ c
  pub third : slice_index bytes 2 ≡ p
  pub rest_is : drop 3 bytes ≡ rest

is_zero : (n : ℕ) → (n == 0) ≡ true → n ≡ 0
is_zero n e = grind (arith, nat_tests)

short : (f c : ℕ) → Reads (cond (c == 0) (f ∷ []) (f ∷ c ∷ []) ++ []) f c 0 []
short f c =
    elim (c == 0) as (λ b. (c == 0) ≡ b → Reads (cond b (f ∷ []) (f ∷ c ∷ []) ++ []) f c 0 []) [
      | true ↦ λ z. record { first = refl; clock = sym (is_zero c z); third = refl; rest_is = refl }
      | false ↦ λ z. record { first = refl; clock = refl; third = refl; rest_is = refl }
    ] refl

pub head_read : (f c p : ℕ) (rest : List ℕ) → (p ≡ 0 → rest ≡ []) → Reads (head_bytes f c p ++ rest) f c p rest
head_read f c p rest none =
    elim (p == 0) as (λ b. (p == 0) ≡ b → Reads (cond b (cond (c == 0) (f ∷ []) (f ∷ c ∷ [])) (f ∷ c ∷ p ∷ []) ++ rest) f c p rest) [
      | true ↦ λ z.
          let e : p ≡ 0 = is_zero p z in
          subst (λ q. Reads (cond (c == 0) (f ∷ []) (f ∷ c ∷ []) ++ q) f c p q) (sym (none e)) (subst (λ q. Reads (cond (c == 0) (f ∷ []) (f ∷ c ∷ []) ++ []) f c q []) (sym e) (short f c))
      | false ↦ λ z. record { first = refl; clock = refl; third = refl; rest_is = refl }
    ] refl

-- ---- what stands after them

none_left : (l i : Option Delays) (x : Bool) (n : ℕ) (video : List ℕ) → (x ≡ false → video ≡ []) → weight (is_some l) 128 + weight (is_some i) 64 + weight x 32 + n ≡ 0
    → delay_bytes l ++ (delay_bytes i ++ video) ≡ []
none_left None None false n video none z = none refl
none_left (Some d) i x n video none z = absurd (omega (arith, z))
none_left None (Some d) x n video none z = absurd (omega (arith, z))
none_left None None true n video none z = absurd (omega (arith, z))

two_more : (a b : ℕ) (more : List ℕ) → nat_le 2 (length (a ∷ b ∷ more)) ≡ true
two_more a b more = grind (arith, nat_tests)

delays_read : (l : Option Delays) (more : List ℕ) → latencies_in (is_some l) (delay_bytes l ++ more) ≡ named_delays l
unfolding latencies_in
delays_read None more = refl
delays_read (Some d) more = ap (λ b. cond b (Some (record { video = delay_of d.video; audio = delay_of d.audio })) None) (two_more d.video d.audio more)

delays_passed : (l : Option Delays) (more : List ℕ) → drop (2 * weight (is_some l) 1) (delay_bytes l ++ more) ≡ more
delays_passed None more = refl
delays_passed (Some d) more = refl

drop_nil : (n : ℕ) → drop {A = ℕ} n [] ≡ []
drop_nil zero = refl
drop_nil (suc n) = refl

drop_more : (n m : ℕ) (xs : List ℕ) → drop (n + m) xs ≡ drop m (drop n xs)
drop_more zero m xs = ap (λ k. drop k xs) (omega arith)
drop_more (suc n) m [] = drop_nil (suc n + m) ∙ sym (drop_nil m)
drop_more (suc n) m (x ∷ xs) =
    let more : suc n + m ≡ suc (n + m) = omega arith in
    ap (λ k. drop k (x ∷ xs)) more ∙ drop_more n m xs

-- ---- video formats

flags_of_video : (stereo : Bool) (count : ℕ) (more : List ℕ) → count ≤ 4 → video_of true (weight stereo 128 ∷ 32 * count ∷ more) ≡ Some (video_named stereo count)
unfolding video_of has_bit
flags_of_video true count more few =
    let codes : 32 * count / 32 ≡ count = omega arith in
    let none : 32 * count % 32 ≡ 0 = omega arith in
    rw (two_more 128 (32 * count) more, codes, none) refl
flags_of_video false count more few =
    let codes : 32 * count / 32 ≡ count = omega arith in
    let none : 32 * count % 32 ≡ 0 = omega arith in
    rw (two_more 0 (32 * count) more, codes, none) refl

video_read : (is_there stereo : Bool) (count : ℕ) (more : List ℕ) → count ≤ 4
    → video_of is_there (cond is_there (weight stereo 128 ∷ 32 * count ∷ more) []) ≡ named_video is_there stereo count
unfolding video_of
video_read true stereo count more few = flags_of_video stereo count more few
video_read false stereo count more few = refl

few_formats : (a b c d : Bool) → weight a 1 + weight b 1 + weight c 1 + weight d 1 ≤ 4
few_formats a b c d =
    let la = light a in
    let lb = light b in
    let lc = light c in
    let ld = light d in
    omega arith

-- ---- the block

no_video : (x : Bool) (video : List ℕ) → x ≡ false → cond x video [] ≡ []
no_video x video e = ap (λ b. cond b video []) e

pub block_reads : (s : Said) → Reads (hdmi_bytes s) (capabilities s) s.max_clock (presence s) (delay_bytes s.latencies ++ (delay_bytes s.interlaced_latencies ++ video_bytes s))
block_reads s =
    head_read (capabilities s) s.max_clock (presence s) _ (none_left s.latencies s.interlaced_latencies (has_video s) (contents s) (video_bytes s)
    (no_video (has_video s) (weight s.stereo 128 ∷ 32 * format_count s ∷ formats_of s)))

-- where interlaced latencies and video formats stand
after_delays : (p : ℕ) (l : Option Delays) (bytes more : List ℕ) → p / 128 % 2 ≡ weight (is_some l) 1 → drop 3 bytes ≡ delay_bytes l ++ more → drop (interlaced_place p) bytes ≡ more
after_delays p l bytes more first rest =
    ap (λ n. drop (3 + 2 * n) bytes) first ∙ (drop_more 3 (2 * weight (is_some l) 1) bytes ∙ (ap (drop (2 * weight (is_some l) 1)) rest ∙ delays_passed l more))

after_both : (p : ℕ) (i : Option Delays) (bytes more : List ℕ) → p / 64 % 2 ≡ weight (is_some i) 1 → drop (interlaced_place p) bytes ≡ delay_bytes i ++ more → drop (video_place p) bytes ≡ more
after_both p i bytes more second rest =
    ap (λ n. drop (interlaced_place p + 2 * n) bytes) second
    ∙ (drop_more (interlaced_place p) (2 * weight (is_some i) 1) bytes ∙ (ap (drop (2 * weight (is_some i) 1)) rest ∙ delays_passed i more))

same_block : (a a' : Bool) (d d' : ℕ) (y y' : Bool) (r r' : ℕ) (u u' : Bool) (k k' c c' : ℕ) (l l' i i' : Option Latencies) (v v' : Option HdmiVideo)
    → a ≡ a' → d ≡ d' → y ≡ y' → r ≡ r' → u ≡ u' → k ≡ k' → c ≡ c' → l ≡ l' → i ≡ i' → v ≡ v'
    → ◌≡◌ {A = HdmiBlock}
    (record { supports_ai = a; deep_colours = d; has_deep_444 = y; reserved = r; has_dual_link = u; max_clock = k; contents = c; latencies = l; interlaced_latencies = i; video = v })
    (record { supports_ai = a'; deep_colours = d'; has_deep_444 = y'; reserved = r'; has_dual_link = u'; max_clock = k'; contents = c'; latencies = l'; interlaced_latencies = i'; video = v' })
same_block a a' d d' y y' r r' u u' k k' c c' l l' i i' v v' ea ed ey er eu ek ec el ei ev = rw (ea, ed, ey, er, eu, ek, ec, el, ei, ev) refl

pub block_back : (s : Said) → hdmi_block (hdmi_bytes s) ≡ named_block s
unfolding hdmi_block bytes_of_video
block_back s =
    let reads = block_reads s in
    let bytes = hdmi_bytes s in
    let caps = flags s.supports_ai s.deep_48 s.deep_36 s.deep_30 s.deep_444 s.dual_link in
    let there = presence_read (is_some s.latencies) (is_some s.interlaced_latencies) (has_video s) (contents s) (few_contents s.game s.cinema s.photo s.graphics) in
    let second = after_delays (presence s) s.latencies bytes (delay_bytes s.interlaced_latencies ++ video_bytes s) there.first_place reads.rest_is in
    let third = after_both (presence s) s.interlaced_latencies bytes (video_bytes s) there.second_place second in
    same_block _ _ _ _ _ _ _ _ _ _ _ _ _ _ _ _ _ _ _ _
    (ap (λ n. has_bit n 128) reads.first ∙ caps.ai)
    (ap (λ n. n / 16 % 8) reads.first ∙ caps.deep)
    (ap (λ n. has_bit n 8) reads.first ∙ caps.deep_444)
    (ap (λ n. n / 2 % 4 * 2) reads.first ∙ caps.reserved)
    (ap (λ n. has_bit n 1) reads.first ∙ caps.dual)
    reads.clock
    (ap (λ n. n % 32) reads.third ∙ there.contents)
    (ap (λ n. latencies_in (has_bit n 128) (drop 3 bytes)) reads.third
    ∙ (ap (λ b. latencies_in b (drop 3 bytes)) there.latencies
    ∙ (ap (latencies_in (is_some s.latencies)) reads.rest_is ∙ delays_read s.latencies (delay_bytes s.interlaced_latencies ++ video_bytes s))))
    (ap (λ n. latencies_in (has_bit n 64) (drop (interlaced_place n) bytes)) reads.third
    ∙ (ap (λ b. latencies_in b (drop (interlaced_place (presence s)) bytes)) there.interlaced
    ∙ (ap (latencies_in (is_some s.interlaced_latencies)) second ∙ delays_read s.interlaced_latencies (video_bytes s))))
    (ap (λ n. video_of (has_bit n 32) (drop (video_place n) bytes)) reads.third
    ∙ (ap (λ b. video_of b (drop (video_place (presence s)) bytes)) there.video
    ∙ (ap (video_of (has_video s)) third ∙ video_read (has_video s) s.stereo (format_count s) (formats_of s) (few_formats s.format_1 s.format_2 s.format_3 s.format_4))))

-- ---- HDMI's own codes

format_length : (a b c d : Bool) → length (format_bytes a 1 ++ (format_bytes b 2 ++ (format_bytes c 3 ++ format_bytes d 4))) ≡ weight a 1 + weight b 1 + weight c 1 + weight d 1
format_length a b c d = lengths (format_bytes a 1) (format_bytes b 2) (format_bytes c 3) (format_bytes d 4) (one a 1) (one b 2) (one c 3) (one d 4)
  where
    one : (a : Bool) (n : ℕ) → length (format_bytes a n) ≡ weight a 1
    one true n = refl
    one false n = refl

    long : (xs ys : List ℕ) → length (xs ++ ys) ≡ length xs + length ys
    long [] ys = omega arith
    long (x ∷ xs) ys = omega (arith, long xs ys)

    lengths : (p q r t : List ℕ) → length p ≡ weight a 1 → length q ≡ weight b 1 → length r ≡ weight c 1 → length t ≡ weight d 1 → length (p ++ (q ++ (r ++ t))) ≡ weight a 1 + weight b 1 + weight c 1 + weight d 1
    lengths p q r t ep eq er et = omega (arith, long p (q ++ (r ++ t)), long q (r ++ t), long r t, ep, eq, er, et)

take_all : (xs : List ℕ) (n : ℕ) → length xs ≡ n → take n xs ≡ xs
take_all [] zero e = refl
take_all [] (suc n) e = absurd (omega (arith, e))
take_all (x ∷ xs) zero e = absurd (omega (arith, e))
take_all (x ∷ xs) (suc n) e = ap (λ ys. x ∷ ys) (take_all xs n (omega (arith, e)))

codes_there : (is_there stereo : Bool) (count : ℕ) (codes : List ℕ) → length codes ≡ count → (is_there ≡ false → codes ≡ [])
    → cond is_there (listed_codes (video_named stereo count) (cond is_there (weight stereo 128 ∷ 32 * count ∷ codes) [])) [] ≡ codes
unfolding listed_codes
codes_there true stereo count codes long none = take_all codes count long
codes_there false stereo count codes long none = sym (none refl)

no_formats : (a b c d e : Bool) → (a || b || c || d || e) ≡ false → format_bytes b 1 ++ (format_bytes c 2 ++ (format_bytes d 3 ++ format_bytes e 4)) ≡ []
no_formats false false false false false h = refl
no_formats true b c d e h = absurd (false≢true (sym h))
no_formats false true c d e h = absurd (false≢true (sym h))
no_formats false false true d e h = absurd (false≢true (sym h))
no_formats false false false true e h = absurd (false≢true (sym h))
no_formats false false false false true h = absurd (false≢true (sym h))

pub codes_back : (s : Said) → named_codes s (bytes_of_video (hdmi_bytes s)) ≡ formats_of s
unfolding bytes_of_video
codes_back s =
    let reads = block_reads s in
    let bytes = hdmi_bytes s in
    let there = presence_read (is_some s.latencies) (is_some s.interlaced_latencies) (has_video s) (contents s) (few_contents s.game s.cinema s.photo s.graphics) in
    let second = after_delays (presence s) s.latencies bytes (delay_bytes s.interlaced_latencies ++ video_bytes s) there.first_place reads.rest_is in
    let third = after_both (presence s) s.interlaced_latencies bytes (video_bytes s) there.second_place second in
    let found : drop (video_place (slice_index bytes 2)) bytes ≡ video_bytes s = ap (λ n. drop (video_place n) bytes) reads.third ∙ third in
    ap (λ v. cond (has_video s) (listed_codes (video_named s.stereo (format_count s)) v) []) found
    ∙ codes_there (has_video s) s.stereo (format_count s) (formats_of s) (format_length s.format_1 s.format_2 s.format_3 s.format_4) (no_formats s.stereo s.format_1 s.format_2 s.format_3 s.format_4)
