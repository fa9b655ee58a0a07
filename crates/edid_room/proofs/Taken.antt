-- What is used and left of a block, and what the reader of texts makes of it.
use Rattle.std.proofs.Common.{◌≡◌, ◌≢◌, refl, ◌∙◌, sym, ap, ℕ, zero, suc, ◌+◌, ◌-◌, ◌*◌, ◌<◌, ◌≤◌, ◌==◌, Bool, true, false, ◌&&◌, ◌||◌, not, nat_le, nat_lt, cond, arith, List, [], ◌∷◌, ◌++◌, Option, Some, None, length, flat_map, get_or, replicate, length-append}
use Rattle.std.proofs.lemmas.Bool.{and_parts, eqb-true}
use Rattle.std.proofs.lemmas.List.{length-replicate}
use borrow.Author.Tests.{tests}
use Rattle.edid_base.specs.Forms.{is_timing}
use Rattle.edid_base.specs.Timing.{timing_bytes}
use Rattle.edid_base.specs.declared.descriptor.Descriptor.{Descriptor}
use Rattle.edid_base.specs.declared.descriptor.Descriptor.TheVariants.{Timing as OfTiming, Name, Text, SerialText, Range, Dummy, Raw}
use Rattle.edid_base.specs.declared.standard.StandardTiming.{StandardTiming}
use Rattle.edid_base.specs.declared.timing.Timing.{Timing}
use Rattle.edid_cta.specs.Block.{block_bytes}
use Rattle.edid_cta.specs.Cta.{is_tail}
use Rattle.edid_cta.specs.declared.cta.Cta.{Cta}
use Rattle.edid_room.specs.Laws.{BaseIsWhole, CtaIsWhole, LongerDoNot, ReaderHasRoom, ShorterFit}
use Rattle.edid_room.specs.Room.{cta_blocks, cta_left, cta_tail, cta_timings, unused_descriptors, unused_standards}
use Rattle.edid_text_lines.specs.declared.line.Keyword.TheVariants.{Tail}
use Rattle.edid_texts.specs.Drafts.{TailFits}
use Rattle.edid_texts.specs.Lines.{bytes_line, bytes_without_zeros, tail_line}
use Rattle.edid_texts.specs.Tails.{is_trimmed, padded_bytes}

-- ---- the base block

few_descriptors : (ds : List Descriptor) → unused_descriptors ds ≤ length ds
few_descriptors [] = omega arith
few_descriptors (Dummy ∷ ds) = omega (arith, few_descriptors ds)
few_descriptors (OfTiming t ∷ ds) = omega (arith, few_descriptors ds)
few_descriptors (Name t ∷ ds) = omega (arith, few_descriptors ds)
few_descriptors (Text t ∷ ds) = omega (arith, few_descriptors ds)
few_descriptors (SerialText t ∷ ds) = omega (arith, few_descriptors ds)
few_descriptors (Range r ∷ ds) = omega (arith, few_descriptors ds)
few_descriptors (Raw r ∷ ds) = omega (arith, few_descriptors ds)

few_standards : (ss : List (Option StandardTiming)) → unused_standards ss ≤ length ss
few_standards [] = omega arith
few_standards (None ∷ ss) = omega (arith, few_standards ss)
few_standards (Some s ∷ ss) = omega (arith, few_standards ss)

pub base_is_whole : BaseIsWhole
base_is_whole b = omega (arith, b.four, b.eight, few_descriptors b.descriptors, few_standards b.standard)

-- ---- an extension

empty : (xs : List ℕ) → length xs ≡ 0 → xs ≡ []
empty [] h = refl
empty (x ∷ xs) h = absurd (omega (arith, h))

trimmed_le : (t : List ℕ) → length (bytes_without_zeros t) ≤ length t
trimmed_le [] = omega arith
trimmed_le (b ∷ bs) = by ((b == 0) && (length (bytes_without_zeros bs) == 0)) (trimmed_le bs)
  where
    by : (v : Bool) → length (bytes_without_zeros bs) ≤ length bs → length (cond v [] (b ∷ bytes_without_zeros bs)) ≤ suc (length bs)
    by true rest = omega arith
    by false rest = omega (arith, rest)

pub timings_long : (ts : List Timing) → length (flat_map timing_bytes ts) ≡ 18 * length ts
timings_long [] = refl
timings_long (t ∷ ts) =
    let joined = length-append (timing_bytes t) (flat_map timing_bytes ts) in
    let rest = timings_long ts in
    omega (arith, joined, rest)

pub cta_whole : (c : Cta) → cta_blocks c + cta_timings c + length c.tail.items ≡ 123
cta_whole c = omega (arith, c.whole, timings_long c.timings.items)

pub cta_is_whole : CtaIsWhole
cta_is_whole c = omega (arith, cta_whole c, trimmed_le c.tail.items)

pub reader_has_room : ReaderHasRoom
reader_has_room c = omega (arith, cta_whole c, trimmed_le c.tail.items)

-- ---- the tail after a block

-- the other bytes are read where zeros were
byte_of_trimmed : (t : List ℕ) (i : ℕ) → get_or (bytes_without_zeros t) i 0 ≡ get_or t i 0
byte_of_trimmed [] i = refl
byte_of_trimmed (b ∷ bs) i = by ((b == 0) && (length (bytes_without_zeros bs) == 0)) refl i (byte_of_trimmed bs)
  where
    by : (v : Bool) → ((b == 0) && (length (bytes_without_zeros bs) == 0)) ≡ v → (i : ℕ) → ((j : ℕ) → get_or (bytes_without_zeros bs) j 0 ≡ get_or bs j 0)
        → get_or (cond v [] (b ∷ bytes_without_zeros bs)) i 0 ≡ get_or (b ∷ bs) i 0
    by true e zero rest = let zeros = and_parts (b == 0) (length (bytes_without_zeros bs) == 0) e in sym (eqb-true _ _ zeros.0)
    by true e (suc j) rest =
        let zeros = and_parts (b == 0) (length (bytes_without_zeros bs) == 0) e in
        ap (λ l. get_or l j 0) (sym (empty (bytes_without_zeros bs) (eqb-true _ _ zeros.1))) ∙ rest j
    by false e zero rest = refl
    by false e (suc j) rest = rest j

byte_before_zeros : (t : List ℕ) (k i : ℕ) → get_or (t ++ replicate k 0) i 0 ≡ get_or t i 0
byte_before_zeros [] k i = zeros k i
  where
    zeros : (k i : ℕ) → ◌≡◌ {A = ℕ} (get_or (replicate k 0) i 0) 0
    zeros zero i = refl
    zeros (suc k) zero = refl
    zeros (suc k) (suc i) = zeros k i
byte_before_zeros (b ∷ t) k zero = refl
byte_before_zeros (b ∷ t) k (suc i) = byte_before_zeros t k i

same_timing : (m : ℕ) (tail : List ℕ) → is_timing (padded_bytes m (bytes_without_zeros tail)) ≡ is_timing tail
same_timing m tail =
    let byte : (i : ℕ) → get_or (padded_bytes m (bytes_without_zeros tail)) i 0 ≡ get_or tail i 0 =
    λ i. byte_before_zeros (bytes_without_zeros tail) (m - length (bytes_without_zeros tail)) i ∙ byte_of_trimmed tail i in
    ap (λ n. nat_lt 0 (n + get_or (padded_bytes m (bytes_without_zeros tail)) 1 0)) (byte 0) ∙ ap (λ n. nat_lt 0 (get_or tail 0 0 + n)) (byte 1)

tail_by : (n m : ℕ) (v w : Bool) → m ≤ n → w ≡ v → (nat_lt n 18 || not v) ≡ true → (nat_lt m 18 || not w) ≡ true
tail_by n m v w le same h = by (nat_lt n 18) refl h
  where
    last : (u : Bool) → not v ≡ true → (u || not v) ≡ true
    last true k = refl
    last false k = k

    by : (u : Bool) → nat_lt n 18 ≡ u → (u || not v) ≡ true → (nat_lt m 18 || not w) ≡ true
    by true e k = let short : nat_lt m 18 ≡ true = grind (arith, tests, e) in rw short refl
    by false e k = rw same (last (nat_lt m 18) k)

-- the line of the tail stays where other zeros follow its bytes
zeros_alone : (n : ℕ) → bytes_without_zeros (replicate n 0) ≡ []
zeros_alone zero = refl
zeros_alone (suc n) = rw (zeros_alone n) refl

zeros_after : (t : List ℕ) (n : ℕ) → bytes_without_zeros (t ++ replicate n 0) ≡ bytes_without_zeros t
zeros_after [] n = zeros_alone n
zeros_after (b ∷ bs) n = rw (zeros_after bs n) refl

trimmed_once : (t : List ℕ) → bytes_without_zeros (bytes_without_zeros t) ≡ bytes_without_zeros t
trimmed_once [] = refl
trimmed_once (b ∷ bs) = by ((b == 0) && (length (bytes_without_zeros bs) == 0)) refl (trimmed_once bs)
  where
    by : (v : Bool) → ((b == 0) && (length (bytes_without_zeros bs) == 0)) ≡ v → bytes_without_zeros (bytes_without_zeros bs) ≡ bytes_without_zeros bs
        → bytes_without_zeros (cond v [] (b ∷ bytes_without_zeros bs)) ≡ cond v [] (b ∷ bytes_without_zeros bs)
    by true e rest = refl
    by false e rest =
        ap (λ (l : List ℕ). cond ((b == 0) && (length l == 0)) [] (b ∷ l)) rest ∙ ap (λ v. cond v [] (b ∷ bytes_without_zeros bs)) e

tail_fits : (m : ℕ) (tail : List ℕ) → length (bytes_without_zeros tail) ≤ m → m ≤ length tail → is_tail tail ≡ true → TailFits m (tail_line tail)
tail_fits m tail least most h =
    let t : List ℕ = bytes_without_zeros tail in
    let len : length (padded_bytes m (bytes_without_zeros tail)) ≡ m =
    omega (arith, least, length-append (bytes_without_zeros tail) (replicate (m - length (bytes_without_zeros tail)) 0), length-replicate {A = ℕ} (m - length (bytes_without_zeros tail)) 0) in (
      padded_bytes m t,
      (
        ap (bytes_line Tail) (zeros_after t (m - length t) ∙ trimmed_once tail),
        (len, tail_by (length tail) (length (padded_bytes m t)) (is_timing tail) (is_timing (padded_bytes m t)) (omega (arith, len, most)) (same_timing m tail) h),
      ),
    )

pub shorter_fit : ShorterFit
shorter_fit c b h =
    let few = trimmed_le c.tail.items in (
      (b, (refl, omega (arith, h))),
      tail_fits (cta_left c + cta_tail c - length (block_bytes b)) c.tail.items (omega (arith, h, few)) (omega (arith, few)) c.ended,
    )

pub longer_do_not : LongerDoNot
longer_do_not c n more most =
    let t = bytes_without_zeros c.tail.items in
    let over : nat_le (length (bytes_without_zeros c.tail.items)) (cta_left c + cta_tail c - n) ≡ false = grind (arith, tests, more, most) in
    ap (λ v. v && is_trimmed t) over
