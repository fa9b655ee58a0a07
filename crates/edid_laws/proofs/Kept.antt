-- One block of two tells of what the display's tells of.
use Rattle.std.proofs.Common.{◌≡◌, ◌∙◌, refl, sym, ap, ℕ, ◌==◌, Bool, true, false, ◌&&◌, ◌||◌, nat_le, cond, arith, tests, List, [], ◌∷◌, length, get_or}
use Rattle.edid_cta.specs.Hdmi.{has_identifier}
use Rattle.edid_cta.specs.declared.block.BlockKind.{BlockKind}
use Rattle.edid_cta.specs.declared.block.BlockKind.TheVariants as tags
use Rattle.edid_cta.specs.declared.block.DataBlock.{DataBlock}
use Rattle.edid_merge.specs.Mixing.{mixed, speakers_ways}
use Rattle.edid_merge.specs.Subjects.{extended_subject, is_forum, is_of, subject_by, subject_number, tag_subject, vendor_subject}
use Rattle.edid_merge.specs.declared.mixing.Way.{Way}
use Rattle.edid_merge.specs.declared.mixing.Way.TheVariants.{Display}
use Rattle.edid_merge.specs.declared.subject.Subject.{Subject}
use Rattle.edid_merge.specs.declared.subject.Subject.TheVariants.{Video, Speakers, Hdmi, Forum, Capability, Colorimetry, Hdr, MakerVideo, MakerAudio, Override, Other}
use Rattle.edid_laws.proofs.Goes.{Keeps, mixed_length, of_block}

no_true : {A : Type 0} → false ≡ true → A
no_true e = absurd (cc)

-- ---- the first three bytes and the length say what a block tells of

same_subject : (k : BlockKind) (p q : List ℕ) → length q ≡ length p → get_or q 0 0 ≡ get_or p 0 0 → get_or q 1 0 ≡ get_or p 1 0 → get_or q 2 0 ≡ get_or p 2 0
    → subject_by k q ≡ subject_by k p
same_subject tags.Video p q len a b c = refl
same_subject tags.Audio p q len a b c = refl
same_subject tags.Speakers p q len a b c = refl
same_subject tags.Tag0 p q len a b c = refl
same_subject tags.Tag5 p q len a b c = refl
same_subject tags.Tag6 p q len a b c = refl
same_subject tags.Vendor p q len a b c = rw (len, a, b, c) refl
same_subject tags.Extended p q len a b c = rw (len, a) refl

-- ---- of an extended block the first byte does

vendor_number : (p : List ℕ) (n : ℕ) → (n == 3) ≡ false → (n == 4) ≡ false → (n == 11) ≡ false → (subject_number (vendor_subject p) == n) ≡ false
vendor_number p n a b c = by (has_identifier p) (is_forum p)
  where
    by : (v w : Bool) → (subject_number (cond v Hdmi (cond w Forum Other)) == n) ≡ false
    by true w = grind (arith, tests, a)
    by false true = grind (arith, tests, b)
    by false false = grind (arith, tests, c)

pub tagged : (n : ℕ) → (n == 3) ≡ false → (n == 4) ≡ false → (n == 11) ≡ false → (k : BlockKind) (p q : List ℕ) → length q ≡ length p → get_or q 0 0 ≡ get_or p 0 0
    → (subject_number (subject_by k p) == n) ≡ true → (subject_number (subject_by k q) == n) ≡ true
tagged n x y z tags.Video p q len a e = e
tagged n x y z tags.Audio p q len a e = e
tagged n x y z tags.Speakers p q len a e = e
tagged n x y z tags.Tag0 p q len a e = e
tagged n x y z tags.Tag5 p q len a e = e
tagged n x y z tags.Tag6 p q len a e = e
tagged n x y z tags.Vendor p q len a e = no_true (sym (vendor_number p n x y z) ∙ e)
tagged n x y z tags.Extended p q len a e = let same : tag_subject q ≡ tag_subject p = rw (len, a) refl in ap (λ (s : Subject). subject_number s == n) same ∙ e

-- ---- a speaker block by its tag

extended_number : (tag : ℕ) → (subject_number (extended_subject tag) == 2) ≡ false
extended_number tag = by (tag == 0) ((tag == 1) || (tag == 7)) (tag == 5) (tag == 6) ((tag == 14) || (tag == 15)) (nat_le 17 tag && nat_le tag 20) (tag == 0x78)
  where
    by : (a b c d e f g : Bool)
        → (subject_number (cond a Capability (cond b MakerVideo (cond c Colorimetry (cond d Hdr (cond e Video (cond f MakerAudio (cond g Override Other))))))) == 2) ≡ false
    by true b c d e f g = refl
    by false true c d e f g = refl
    by false false true d e f g = refl
    by false false false true e f g = refl
    by false false false false true f g = refl
    by false false false false false true g = refl
    by false false false false false false true = refl
    by false false false false false false false = refl

tag_number : (p : List ℕ) → (subject_number (tag_subject p) == 2) ≡ false
tag_number p = by (length p == 0)
  where
    by : (v : Bool) → (subject_number (cond v Other (extended_subject (get_or p 0 0))) == 2) ≡ false
    by true = refl
    by false = extended_number (get_or p 0 0)

spoken : (k : BlockKind) (p q : List ℕ) → (subject_number (subject_by k p) == 2) ≡ true → (subject_number (subject_by k q) == 2) ≡ true
spoken tags.Video p q e = e
spoken tags.Audio p q e = e
spoken tags.Speakers p q e = e
spoken tags.Tag0 p q e = e
spoken tags.Tag5 p q e = e
spoken tags.Tag6 p q e = e
spoken tags.Vendor p q e = no_true (sym (vendor_number p 2 refl refl refl) ∙ e)
spoken tags.Extended p q e = no_true (sym (tag_number p) ∙ e)

-- ---- the ways

first_stays : (ways : List Way) (p o : List ℕ) → get_or (mixed (Display ∷ ways) p o) 0 0 ≡ get_or p 0 0
first_stays ways [] o = refl
first_stays ways (a ∷ p) o = refl

three_stay : (ways : List Way) (p o : List ℕ)
    → (get_or (mixed (Display ∷ Display ∷ Display ∷ ways) p o) 0 0 ≡ get_or p 0 0) × (get_or (mixed (Display ∷ Display ∷ Display ∷ ways) p o) 1 0 ≡ get_or p 1 0)
    × (get_or (mixed (Display ∷ Display ∷ Display ∷ ways) p o) 2 0 ≡ get_or p 2 0)
three_stay ways [] o = (refl, refl, refl)
three_stay ways (a ∷ []) o = (refl, refl, refl)
three_stay ways (a ∷ b ∷ []) o = (refl, refl, refl)
three_stay ways (a ∷ b ∷ c ∷ p) o = (refl, refl, refl)

pub with_first : (s : Subject) (ways : List Way) → (subject_number s == 3) ≡ false → (subject_number s == 4) ≡ false → (subject_number s == 11) ≡ false
    → (d o : DataBlock) → is_of s d ≡ true → Keeps s (Display ∷ ways) d o
with_first s ways x y z d o e b kind items =
    of_block s b d.kind (mixed (Display ∷ ways) d.payload.items o.payload.items) kind items
    (tagged (subject_number s) x y z d.kind d.payload.items (mixed (Display ∷ ways) d.payload.items o.payload.items)
    (mixed_length (Display ∷ ways) d.payload.items o.payload.items) (first_stays ways d.payload.items o.payload.items) e)

pub with_three : (s : Subject) (ways : List Way) (d o : DataBlock) → is_of s d ≡ true → Keeps s (Display ∷ Display ∷ Display ∷ ways) d o
with_three s ways d o e b kind items =
    let stay = three_stay ways d.payload.items o.payload.items in
    let same : subject_by d.kind (mixed (Display ∷ Display ∷ Display ∷ ways) d.payload.items o.payload.items) ≡ subject_by d.kind d.payload.items =
    same_subject d.kind d.payload.items (mixed (Display ∷ Display ∷ Display ∷ ways) d.payload.items o.payload.items)
    (mixed_length (Display ∷ Display ∷ Display ∷ ways) d.payload.items o.payload.items) stay.0 stay.1 stay.2 in
    of_block s b d.kind (mixed (Display ∷ Display ∷ Display ∷ ways) d.payload.items o.payload.items) kind items (ap (λ (k : Subject). subject_number k == subject_number s) same ∙ e)

pub speakers_keep : (d o : DataBlock) → is_of Speakers d ≡ true → Keeps Speakers speakers_ways d o
speakers_keep d o e b kind items =
    of_block Speakers b d.kind (mixed speakers_ways d.payload.items o.payload.items) kind items
    (spoken d.kind d.payload.items (mixed speakers_ways d.payload.items o.payload.items) e)
