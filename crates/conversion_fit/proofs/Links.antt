-- The link of an EDID whose data blocks are fitted is the same.
use Rattle.std.proofs.Common.{◌≡◌, ◌∙◌, refl, sym, ap, ap₂, ℕ, suc, ◌+◌, ◌-◌, ◌*◌, ◌/◌, ◌%◌, ◌==◌, Bool, true, false, ◌||◌, ◌&&◌, not, nat_lt, nat_le, if◌then◌else◌, List, [], ◌∷◌, length, slice_index, drop, take, map, flat_map, Option, Some, None, arith, tests}
use Rattle.std.specs.List.{list_any}
use Rattle.std.proofs.lemmas.Bool.{and_parts}
use Rattle.std.proofs.lemmas.Bool.Decides.{nat_tests}
use Rattle.edid_cta.specs.Hdmi.{is_hdmi, is_vendor, has_identifier, blocks_of}
use Rattle.edid_cta.specs.declared.block.DataBlock.{DataBlock}
use Rattle.edid_cta.specs.declared.block.BlockKind.{BlockKind}
use Rattle.edid_cta.specs.declared.block.BlockKind.TheVariants.{Tag0, Audio, Video, Vendor, Speakers, Tag5, Tag6, Extended}
use Rattle.edid_base.specs.declared.base.Base.{Base}
use Rattle.edid_cta.specs.declared.raw.Ext.{Ext}
use Rattle.edid_cta.specs.declared.raw.Ext.TheVariants.{Cta, Bare, Raw}
use Rattle.edid_displayid.specs.Formats.{block_formats, has_formats, is_extended, is_listing}
use Rattle.edid_layout.specs.ForumBlock.{forum_block, identifier}
use Rattle.edid_layout.specs.declared.forum_block.ForumBlock.{ForumBlock}
use Rattle.edid_layout.specs.declared.hdmi_block.HdmiBlock.{HdmiBlock}
use Rattle.edid_layout.specs.HdmiBlock.{hdmi_block, video_of, has_bit, video_place}
use Rattle.rules_contents.specs.Contents.{has_extended_tag}
use Rattle.rules_link.specs.Links.{carries, carries_characters, carries_fixed, hdmi_rate, is_beyond, is_carried}
use Rattle.rules_link.specs.Offers.{is_code_beyond, is_some_beyond, is_typed_beyond, load_of}
use Rattle.rules_link.specs.declared.load.Load.{Load}
use Rattle.rules_values.specs.BlockParts.{is_extended_kind, is_video_kind}
use Rattle.rules_values.specs.ExtParts.{some_block}
use Rattle.rules_values.specs.VideoCodes.{svds_of}
use Rattle.conversion_fit.specs.Blocks.{Part, codes_place, fitted, fitted_blocks, fitted_bytes, fitted_map, is_cut, is_emptied, kept_codes, lists_beyond, lists_codes, loses, part_of, stays, without_video}
use Rattle.conversion_fit.specs.Whole.{AreFitted}
use Rattle.conversion_fit.proofs.Choices.{any_alike, any_left, any_mapped, choose}

-- ---- what the rules ask of a block, by its kind and its bytes

abbrev pub block : BlockKind → List ℕ → Part
block k p = (k, p)

abbrev pub hdmi_in : Part → Bool
hdmi_in b = is_vendor b.0 && has_identifier b.1

abbrev pub tagged_in : ℕ → Part → Bool
tagged_in tag b = is_extended_kind b.0 && nat_lt 0 (length b.1) && (slice_index b.1 0 == tag)

abbrev pub forum_in : Part → Bool
forum_in b = (is_vendor b.0 && (identifier b.1 == 0xc45dd8)) || tagged_in 0x79 b

abbrev pub hdmi_bytes : Part → HdmiBlock
hdmi_bytes b = hdmi_block (drop 5 b.1)

abbrev pub forum_bytes : Part → ForumBlock
forum_bytes b = forum_block (drop 3 b.1)

abbrev pub carries_in : Load → Part → Bool
carries_in l b =
    carries_characters (if hdmi_in b then hdmi_rate (hdmi_bytes b) else if forum_in b then (forum_bytes b).max_rate * 5000 else 0) l
    || (forum_in b && carries_fixed l (forum_bytes b))

-- ---- blocks that give no link

pub record Gives (h f : Bool) (b : Part) : Type 0 where
  pub hdmi : hdmi_in b ≡ h
  pub forum : forum_in b ≡ f

carries_none : (h f c : Bool) (r s : ℕ) (l : Load) → h ≡ false → f ≡ false → (carries_characters (if h then r else if f then s else 0) l || (f && c)) ≡ false
carries_none true f c r s l e g = let no : ⊥ = cc in absurd no
carries_none false true c r s l e g = let no : ⊥ = cc in absurd no
carries_none false false c r s l e g = refl

pub carries_nothing : (b : Part) → Gives false false b → (l : Load) → carries_in l b ≡ false
carries_nothing b g l = carries_none (hdmi_in b) (forum_in b) (carries_fixed l (forum_bytes b)) (hdmi_rate (hdmi_bytes b)) ((forum_bytes b).max_rate * 5000) l g.hdmi g.forum

pub of_video : (k : BlockKind) (p : List ℕ) → is_video_kind k ≡ true → Gives false false (block k p)
of_video Tag0 p h = let no : ⊥ = cc in absurd no
of_video Audio p h = let no : ⊥ = cc in absurd no
of_video Video p h = record { hdmi = refl; forum = refl }
of_video Vendor p h = let no : ⊥ = cc in absurd no
of_video Speakers p h = let no : ⊥ = cc in absurd no
of_video Tag5 p h = let no : ⊥ = cc in absurd no
of_video Tag6 p h = let no : ⊥ = cc in absurd no
of_video Extended p h = let no : ⊥ = cc in absurd no

-- a byte that is a tag is no other tag
other_tag : (byte tag : ℕ) (some : Bool) → (tag == 0x79) ≡ false → (some && (byte == tag)) ≡ true → (some && (byte == 0x79)) ≡ false
other_tag byte tag true e h = grind (arith, nat_tests)
other_tag byte tag false e h = refl

pub of_tagged : (k : BlockKind) (p : List ℕ) (tag : ℕ) → (tag == 0x79) ≡ false → tagged_in tag (block k p) ≡ true → Gives false false (block k p)
of_tagged Tag0 p tag e h = let no : ⊥ = cc in absurd no
of_tagged Audio p tag e h = let no : ⊥ = cc in absurd no
of_tagged Video p tag e h = let no : ⊥ = cc in absurd no
of_tagged Vendor p tag e h = let no : ⊥ = cc in absurd no
of_tagged Speakers p tag e h = let no : ⊥ = cc in absurd no
of_tagged Tag5 p tag e h = let no : ⊥ = cc in absurd no
of_tagged Tag6 p tag e h = let no : ⊥ = cc in absurd no
of_tagged Extended p tag e h = record { hdmi = refl; forum = other_tag (slice_index p 0) tag (nat_lt 0 (length p)) e h }

-- ---- HDMI blocks

no_forum : (a b c : ℕ) (long : Bool) → (long && (a == 0x03) && (b == 0x0c) && (c == 0x00)) ≡ true → ((a + b * 256 + c * 65536) == 0xc45dd8) ≡ false
no_forum a b c true h = grind (arith, nat_tests)
no_forum a b c false h = let no : ⊥ = cc in absurd no

or_nothing : (a : Bool) → a ≡ false → (a || false) ≡ false
or_nothing true e = e
or_nothing false e = refl

pub of_hdmi : (k : BlockKind) (p : List ℕ) → hdmi_in (block k p) ≡ true → forum_in (block k p) ≡ false
of_hdmi Tag0 p h = let no : ⊥ = cc in absurd no
of_hdmi Audio p h = let no : ⊥ = cc in absurd no
of_hdmi Video p h = let no : ⊥ = cc in absurd no
of_hdmi Vendor p h = or_nothing (identifier p == 0xc45dd8) (no_forum (slice_index p 0) (slice_index p 1) (slice_index p 2) (nat_le 5 (length p)) h)
of_hdmi Speakers p h = let no : ⊥ = cc in absurd no
of_hdmi Tag5 p h = let no : ⊥ = cc in absurd no
of_hdmi Tag6 p h = let no : ⊥ = cc in absurd no
of_hdmi Extended p h = let no : ⊥ = cc in absurd no

-- its rate stands in its sixth and seventh byte
rate_same : (f g h i : ℕ) (xs ys : List ℕ) → hdmi_rate (hdmi_block (f ∷ g ∷ h ∷ xs)) ≡ hdmi_rate (hdmi_block (f ∷ g ∷ i ∷ ys))
unfolding hdmi_block
rate_same f g h i xs ys = refl

carries_rate : (h k f m c d : Bool) (r q s u : ℕ) (l : Load) → h ≡ true → k ≡ true → f ≡ false → m ≡ false → r ≡ q
    → (carries_characters (if h then r else if f then s else 0) l || (f && c)) ≡ (carries_characters (if k then q else if m then u else 0) l || (m && d))
carries_rate false k f m c d r q s u l e1 e2 e3 e4 e = let no : ⊥ = cc in absurd no
carries_rate true false f m c d r q s u l e1 e2 e3 e4 e = let no : ⊥ = cc in absurd no
carries_rate true true true m c d r q s u l e1 e2 e3 e4 e = let no : ⊥ = cc in absurd no
carries_rate true true false true c d r q s u l e1 e2 e3 e4 e = let no : ⊥ = cc in absurd no
carries_rate true true false false c d r q s u l e1 e2 e3 e4 e = ap (λ (n : ℕ). carries_characters n l || false) e

-- ---- a block that gives the same link as another one

pub record Same (b c : Part) : Type 0 where
  pub hdmi : hdmi_in c ≡ hdmi_in b
  pub carries : (l : Load) → carries_in l c ≡ carries_in l b

pub same_nothing : (b c : Part) → Gives false false b → Gives false false c → Same b c
same_nothing b c g k = record { hdmi = k.hdmi ∙ sym g.hdmi; carries = λ l. carries_nothing c k l ∙ sym (carries_nothing b g l) }

same_hdmi : (b c : Part) → hdmi_in b ≡ true → hdmi_in c ≡ true → forum_in b ≡ false → forum_in c ≡ false → hdmi_rate (hdmi_bytes b) ≡ hdmi_rate (hdmi_bytes c) → Same b c
same_hdmi b c h k f m e = record {
  hdmi = k ∙ sym h;
  carries = λ l. carries_rate (hdmi_in c) (hdmi_in b) (forum_in c) (forum_in b) (carries_fixed l (forum_bytes c)) (carries_fixed l (forum_bytes b))
      (hdmi_rate (hdmi_bytes c)) (hdmi_rate (hdmi_bytes b)) ((forum_bytes c).max_rate * 5000) ((forum_bytes b).max_rate * 5000) l k h m f (sym e);
}

itself : (b : Part) → Same b b
itself b = record { hdmi = refl; carries = λ l. refl }

long : (n : ℕ) → nat_le 5 (suc (suc (suc (suc (suc (suc (suc (suc n)))))))) ≡ true
long n = grind (arith, nat_tests)

pub same_cut : (k : BlockKind) (p : List ℕ) → hdmi_in (block k p) ≡ true → Same (block k p) (block k (without_video p))
same_cut k [] h = itself (block k [])
same_cut k (a ∷ []) h = itself (block k (a ∷ []))
same_cut k (a ∷ b ∷ []) h = itself (block k (a ∷ b ∷ []))
same_cut k (a ∷ b ∷ c ∷ []) h = itself (block k (a ∷ b ∷ c ∷ []))
same_cut k (a ∷ b ∷ c ∷ d ∷ []) h = itself (block k (a ∷ b ∷ c ∷ d ∷ []))
same_cut k (a ∷ b ∷ c ∷ d ∷ e ∷ []) h = itself (block k (a ∷ b ∷ c ∷ d ∷ e ∷ []))
same_cut k (a ∷ b ∷ c ∷ d ∷ e ∷ f ∷ []) h = itself (block k (a ∷ b ∷ c ∷ d ∷ e ∷ f ∷ []))
same_cut k (a ∷ b ∷ c ∷ d ∷ e ∷ f ∷ g ∷ []) h = itself (block k (a ∷ b ∷ c ∷ d ∷ e ∷ f ∷ g ∷ []))
same_cut k (a ∷ b ∷ c ∷ d ∷ e ∷ f ∷ g ∷ i ∷ rest) h =
    let cut = a ∷ b ∷ c ∷ d ∷ e ∷ f ∷ g ∷ (i / 64 * 64 + i % 32) ∷ take (video_place i - 3) rest in
    let left = take (video_place i - 3) rest in
    let there : hdmi_in (block k cut) ≡ true =
    ap (λ (l : Bool). is_vendor k && (l && (a == 0x03) && (b == 0x0c) && (c == 0x00))) (long (length left) ∙ sym (long (length rest))) ∙ h in
    same_hdmi (block k (a ∷ b ∷ c ∷ d ∷ e ∷ f ∷ g ∷ i ∷ rest)) (block k cut) h there (of_hdmi k (a ∷ b ∷ c ∷ d ∷ e ∷ f ∷ g ∷ i ∷ rest) h) (of_hdmi k cut there)
    (rate_same f g i (i / 64 * 64 + i % 32) rest (take (video_place i - 3) rest))

-- ---- fitted blocks

pub front_true : (a b : Bool) → (a && b) ≡ true → a ≡ true
front_true true b h = refl
front_true false b h = h

-- an extended block with the same tag
some_and : (n : ℕ) (b : Bool) → b ≡ true → (nat_lt 0 (suc n) && b) ≡ true
some_and n true h = grind (arith, nat_tests)
some_and n false h = let no : ⊥ = cc in absurd no

retag : (k : BlockKind) (p rest : List ℕ) (tag : ℕ) → (tag == tag) ≡ true → tagged_in tag (block k p) ≡ true → tagged_in tag (block k (tag ∷ rest)) ≡ true
retag Tag0 p rest tag s h = let no : ⊥ = cc in absurd no
retag Audio p rest tag s h = let no : ⊥ = cc in absurd no
retag Video p rest tag s h = let no : ⊥ = cc in absurd no
retag Vendor p rest tag s h = let no : ⊥ = cc in absurd no
retag Speakers p rest tag s h = let no : ⊥ = cc in absurd no
retag Tag5 p rest tag s h = let no : ⊥ = cc in absurd no
retag Tag6 p rest tag s h = let no : ⊥ = cc in absurd no
retag Extended p rest tag s h = some_and (length rest) (tag == tag) s

retagged : (k : BlockKind) (p rest : List ℕ) (tag : ℕ) → (tag == tag) ≡ true → (tag == 0x79) ≡ false → tagged_in tag (block k p) ≡ true → Gives false false (block k (tag ∷ rest))
retagged k p rest tag s e h = of_tagged k (tag ∷ rest) tag e (retag k p rest tag s h)

pub fitted_same : (xs : List Ext) (svds : List ℕ) (b : DataBlock) → Same (part_of b) (fitted xs svds b)
fitted_same xs svds b =
    let k = b.kind in
    let p = b.payload.items in
    let codes : List ℕ = kept_codes xs false p in
    let halved : List ℕ = 0x0e ∷ kept_codes xs true (drop 1 p) in
    let mapped : List ℕ = 0x0f ∷ fitted_map xs svds (drop 1 p) in
    let cut : List ℕ = without_video p in
    let fourth : List ℕ = if is_hdmi b && is_cut xs svds b then cut else p in
    let third : List ℕ = if has_extended_tag 0x0f b && loses xs svds then mapped else fourth in
    let second : List ℕ = if has_extended_tag 0x0e b then halved else third in
    let P : List ℕ → Type 0 = λ q. Same (block k p) (block k q) in
    choose P (is_video_kind k) codes second (λ e. same_nothing (block k p) (block k codes) (of_video k p e) (of_video k codes e)) (λ e1.
    choose P (has_extended_tag 0x0e b) halved third
    (λ e. same_nothing (block k p) (block k halved) (of_tagged k p 0x0e refl e) (retagged k p (kept_codes xs true (drop 1 p)) 0x0e refl refl e)) (λ e2.
    choose P (has_extended_tag 0x0f b && loses xs svds) mapped fourth (λ e.
    let tagged = front_true (has_extended_tag 0x0f b) (loses xs svds) e in
    same_nothing (block k p) (block k mapped) (of_tagged k p 0x0f refl tagged) (retagged k p (fitted_map xs svds (drop 1 p)) 0x0f refl refl tagged)) (λ e3.
    choose P (is_hdmi b && is_cut xs svds b) cut p (λ e. same_cut k p (front_true (is_hdmi b) (is_cut xs svds b) e)) (λ e4. itself (block k p)))))

-- ---- blocks that go

either_nothing : (b : Part) (a c : Bool) → (a ≡ true → Gives false false b) → (c ≡ true → Gives false false b) → (a || c) ≡ true → Gives false false b
either_nothing b true c f g h = f refl
either_nothing b false c f g h = g h

not_false : (a : Bool) → not a ≡ false → a ≡ true
not_false true h = refl
not_false false h = let no : ⊥ = cc in absurd no

emptied_nothing : (xs : List Ext) (svds : List ℕ) (b : DataBlock) → is_emptied xs svds b ≡ true → Gives false false (part_of b)
emptied_nothing xs svds b gone =
    let k = b.kind in
    let p = b.payload.items in
    let some = nat_lt (codes_place b) (length p) in
    let last = length (fitted_bytes xs svds b) == codes_place b in
    either_nothing (block k p) (is_video_kind k) (has_extended_tag 0x0e b) (λ e. of_video k p e) (λ e. of_tagged k p 0x0e refl e)
    (front_true (lists_codes b) some (front_true (lists_codes b && some) last gone))

-- the tags of formats of DisplayID are not that of the HDMI Forum's block
no_forum_tag : (byte : ℕ) (some low : Bool) → ((byte == 0x22) || ((byte == 0x2a) || ((byte == 0x23) && low))) ≡ true → (some && (byte == 0x79)) ≡ false
no_forum_tag byte true true h = grind (arith, nat_tests)
no_forum_tag byte true false h = grind (arith, nat_tests)
no_forum_tag byte false low h = refl

back_true : (a b : Bool) → (a && b) ≡ true → b ≡ true
back_true true b h = h
back_true false b h = let no : ⊥ = cc in absurd no

of_listing : (k : BlockKind) (p : List ℕ) → (is_extended k && is_listing p) ≡ true → Gives false false (block k p)
of_listing Tag0 p h = let no : ⊥ = cc in absurd no
of_listing Audio p h = let no : ⊥ = cc in absurd no
of_listing Video p h = let no : ⊥ = cc in absurd no
of_listing Vendor p h = let no : ⊥ = cc in absurd no
of_listing Speakers p h = let no : ⊥ = cc in absurd no
of_listing Tag5 p h = let no : ⊥ = cc in absurd no
of_listing Tag6 p h = let no : ⊥ = cc in absurd no
of_listing Extended p h = record {
  hdmi = refl;
  forum = no_forum_tag (slice_index p 0) (nat_lt 0 (length p)) (nat_lt (slice_index p 1) 64) (back_true (nat_le 2 (length p)) _ h);
}

any_if : {X : Type 0} (test : X → Bool) (c : Bool) (l : List X) → list_any test (if c then l else []) ≡ true → c ≡ true
any_if test true l h = refl
any_if test false l h = let no : ⊥ = cc in absurd no

listing_nothing : (xs : List Ext) (b : DataBlock) → lists_beyond xs b ≡ true → Gives false false (part_of b)
listing_nothing xs b h =
    let p = b.payload.items in
    of_listing b.kind p (any_if (is_typed_beyond xs) (has_formats b) (block_formats (slice_index p 0) (slice_index p 1) (drop 2 p)) h)

gone_nothing : (xs : List Ext) (svds : List ℕ) (b : DataBlock) → stays xs svds b ≡ false → Gives false false (part_of b)
gone_nothing xs svds b h =
    either_nothing (part_of b) (lists_beyond xs b) (is_emptied xs svds b) (λ e. listing_nothing xs b e) (λ e. emptied_nothing xs svds b e)
    (not_false (lists_beyond xs b || is_emptied xs svds b) h)

-- ---- extensions

-- a test of blocks by their kinds and bytes, on which those that stay are as they were, and which none passes that goes
pub record Kept (xs : List Ext) (t : DataBlock → Bool) (u : Part → Bool) : Type 0 where
  pub parts : (b : DataBlock) → t b ≡ u (part_of b)
  pub same : (b : DataBlock) → u (fitted xs (svds_of xs) b) ≡ t b
  pub gone : (b : DataBlock) → stays xs (svds_of xs) b ≡ false → t b ≡ false

blocks_kept : (xs : List Ext) (t : DataBlock → Bool) (u : Part → Bool) → Kept xs t u → (bs cs : List DataBlock) → map part_of cs ≡ fitted_blocks xs bs → list_any t cs ≡ list_any t bs
blocks_kept xs t u k bs cs e =
    any_alike t (λ c. u (part_of c)) k.parts cs ∙ sym (any_mapped u part_of cs) ∙ ap (list_any u) e
    ∙ any_left t u (stays xs (svds_of xs)) (fitted xs (svds_of xs)) k.same k.gone bs

exts_kept : (base : Base) (xs : List Ext) (t : DataBlock → Bool) (u : Part → Bool) → Kept xs t u → (some fit : List Ext) → AreFitted base xs some fit → some_block t fit ≡ some_block t some
exts_kept base xs t u k [] [] h = refl
exts_kept base xs t u k [] (y ∷ ys) h = absurd h
exts_kept base xs t u k (x ∷ some) [] h = absurd h
exts_kept base xs t u k (Cta c ∷ some) (Cta d ∷ fit) h =
    ap₂ (λ (a b : Bool). a || b) (blocks_kept xs t u k c.blocks.items d.blocks.items h.0.blocks) (exts_kept base xs t u k some fit h.1)
exts_kept base xs t u k (Cta c ∷ some) (Bare d ∷ fit) h = absurd h.0
exts_kept base xs t u k (Cta c ∷ some) (Raw r ∷ fit) h = absurd h.0
exts_kept base xs t u k (Bare c ∷ some) (y ∷ fit) h = ap₂ (λ (a b : Bool). a || b) (ap (λ (e : Ext). list_any t (blocks_of e)) h.0) (exts_kept base xs t u k some fit h.1)
exts_kept base xs t u k (Raw r ∷ some) (Cta d ∷ fit) h = absurd h.0
exts_kept base xs t u k (Raw r ∷ some) (Bare d ∷ fit) h = absurd h.0
exts_kept base xs t u k (Raw r ∷ some) (Raw s ∷ fit) h = exts_kept base xs t u k some fit h.1

hdmi_kept : (xs : List Ext) → Kept xs is_hdmi hdmi_in
hdmi_kept xs = record {
  parts = λ b. refl;
  same = λ b. (fitted_same xs (svds_of xs) b).hdmi;
  gone = λ b e. (gone_nothing xs (svds_of xs) b e).hdmi;
}

carries_kept : (xs : List Ext) (l : Load) → Kept xs (carries l) (carries_in l)
carries_kept xs l = record {
  parts = λ b. refl;
  same = λ b. (fitted_same xs (svds_of xs) b).carries l;
  gone = λ b e. carries_nothing (part_of b) (gone_nothing xs (svds_of xs) b e) l;
}

pub beyond_same : (base : Base) (xs fit : List Ext) → AreFitted base xs xs fit → (l : Load) → is_beyond fit l ≡ is_beyond xs l
beyond_same base xs fit h l =
    ap₂ (λ (a b : Bool). a && not b) (exts_kept base xs is_hdmi hdmi_in (hdmi_kept xs) xs fit h) (exts_kept base xs (carries l) (carries_in l) (carries_kept xs l) xs fit h)

pub some_same : (base : Base) (xs fit : List Ext) → AreFitted base xs xs fit → (l : Option Load) → is_some_beyond fit l ≡ is_some_beyond xs l
some_same base xs fit h None = refl
some_same base xs fit h (Some l) = beyond_same base xs fit h l

pub code_same : (base : Base) (xs fit : List Ext) → AreFitted base xs xs fit → (halved : Bool) (code : ℕ) → is_code_beyond fit halved code ≡ is_code_beyond xs halved code
code_same base xs fit h halved code = some_same base xs fit h (load_of halved code)
