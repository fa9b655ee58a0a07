-- No code is left that the link does not carry.
use Rattle.std.proofs.Common.{◌≡◌, ◌∙◌, refl, sym, ap, ap₂, ℕ, ◌+◌, ◌-◌, ◌*◌, ◌/◌, ◌%◌, ◌==◌, Bool, true, false, ◌||◌, ◌&&◌, not, nat_lt, if◌then◌else◌, List, [], ◌∷◌, length, slice_index, drop, take, map, flat_map, arith}
use Rattle.std.specs.List.{filter, list_any}
use Rattle.std.proofs.lemmas.Bool.{or_parts}
use Rattle.std.proofs.lemmas.Bool.Decides.{nat_tests}
use Rattle.edid_base.specs.declared.base.Base.{Base}
use Rattle.edid_cta.specs.Hdmi.{is_hdmi, blocks_of}
use Rattle.edid_cta.specs.declared.block.DataBlock.{DataBlock}
use Rattle.edid_cta.specs.declared.block.BlockKind.{BlockKind}
use Rattle.edid_cta.specs.declared.block.BlockKind.TheVariants.{Tag0, Audio, Video, Vendor, Speakers, Tag5, Tag6, Extended}
use Rattle.edid_cta.specs.declared.raw.Ext.{Ext}
use Rattle.edid_cta.specs.declared.raw.Ext.TheVariants.{Cta, Bare, Raw}
use Rattle.edid_layout.specs.HdmiBlock.{code_of_hdmi, has_bit, hdmi_block, video_bytes, video_of, video_place}
use Rattle.rules_contents.specs.Contents.{has_extended_tag}
use Rattle.rules_link.specs.Offers.{has_code_beyond, is_code_beyond, offers_beyond}
use Rattle.rules_values.specs.BlockParts.{codes_from, is_video_kind, hdmi_codes, hdmi_of}
use Rattle.rules_values.specs.ExtParts.{some_block}
use Rattle.rules_values.specs.VideoCodes.{block_svds, code_of, ext_svds, svds_of}
use Rattle.conversion_fit.specs.Blocks.{Part, fitted, fitted_blocks, fitted_map, has_places, is_cut, kept_codes, loses, part_of, stays, without_video}
use Rattle.conversion_fit.specs.Whole.{AreFitted}
use Rattle.conversion_fit.proofs.Choices.{any_alike, any_mapped, choose, none_joined, none_kept, none_or}
use Rattle.conversion_fit.proofs.Links.{block, code_same, front_true, hdmi_in, tagged_in}

-- ---- an HDMI block that is cut

cleared : (presence : ℕ) → ((presence / 64 * 64 + presence % 32) / 32 % 2 == 1) ≡ false
cleared presence = grind (arith, nat_tests)

no_codes : (f g presence : ℕ) (xs : List ℕ) → (presence / 32 % 2 == 1) ≡ false → codes_from (hdmi_block (f ∷ g ∷ presence ∷ xs)).video (video_bytes (f ∷ g ∷ presence ∷ xs)) ≡ []
unfolding hdmi_block video_of has_bit
no_codes f g presence xs e = rw e refl

short_codes : (p : List ℕ) → (slice_index p 2 / 32 % 2 == 1) ≡ false → codes_from (hdmi_block p).video (video_bytes p) ≡ []
unfolding hdmi_block video_of has_bit
short_codes p e = rw e refl

pub cut_codes : (p : List ℕ) → hdmi_codes (without_video p) ≡ []
cut_codes [] = short_codes [] refl
cut_codes (a ∷ []) = short_codes [] refl
cut_codes (a ∷ b ∷ []) = short_codes [] refl
cut_codes (a ∷ b ∷ c ∷ []) = short_codes [] refl
cut_codes (a ∷ b ∷ c ∷ d ∷ []) = short_codes [] refl
cut_codes (a ∷ b ∷ c ∷ d ∷ e ∷ []) = short_codes [] refl
cut_codes (a ∷ b ∷ c ∷ d ∷ e ∷ f ∷ []) = short_codes (f ∷ []) refl
cut_codes (a ∷ b ∷ c ∷ d ∷ e ∷ f ∷ g ∷ []) = short_codes (f ∷ g ∷ []) refl
cut_codes (a ∷ b ∷ c ∷ d ∷ e ∷ f ∷ g ∷ i ∷ rest) = no_codes f g (i / 64 * 64 + i % 32) (take (video_place i - 3) rest) (cleared i)

-- ---- tests that fitted blocks do not pass, by their kind

tagged_no_video : (k : BlockKind) (p : List ℕ) (tag : ℕ) → tagged_in tag (block k p) ≡ true → is_video_kind k ≡ false
tagged_no_video Tag0 p tag h = refl
tagged_no_video Audio p tag h = refl
tagged_no_video Video p tag h = let no : ⊥ = cc in absurd no
tagged_no_video Vendor p tag h = refl
tagged_no_video Speakers p tag h = refl
tagged_no_video Tag5 p tag h = refl
tagged_no_video Tag6 p tag h = refl
tagged_no_video Extended p tag h = refl

hdmi_no_video : (k : BlockKind) (p : List ℕ) → hdmi_in (block k p) ≡ true → is_video_kind k ≡ false
hdmi_no_video Tag0 p h = refl
hdmi_no_video Audio p h = refl
hdmi_no_video Video p h = let no : ⊥ = cc in absurd no
hdmi_no_video Vendor p h = refl
hdmi_no_video Speakers p h = refl
hdmi_no_video Tag5 p h = refl
hdmi_no_video Tag6 p h = refl
hdmi_no_video Extended p h = refl

tagged_no_hdmi : (k : BlockKind) (p q : List ℕ) (tag : ℕ) → tagged_in tag (block k p) ≡ true → hdmi_in (block k q) ≡ true → ⊥
tagged_no_hdmi Tag0 p q tag h e = cc
tagged_no_hdmi Audio p q tag h e = cc
tagged_no_hdmi Video p q tag h e = cc
tagged_no_hdmi Vendor p q tag h e = cc
tagged_no_hdmi Speakers p q tag h e = cc
tagged_no_hdmi Tag5 p q tag h e = cc
tagged_no_hdmi Tag6 p q tag h e = cc
tagged_no_hdmi Extended p q tag h e = cc

none_and : (a : Bool) → (a && false) ≡ true → ⊥
none_and true h = cc
none_and false h = cc

map_no_halved : (k : BlockKind) (rest : List ℕ) → tagged_in 0x0e (block k (0x0f ∷ rest)) ≡ true → ⊥
map_no_halved Tag0 rest h = cc
map_no_halved Audio rest h = cc
map_no_halved Video rest h = cc
map_no_halved Vendor rest h = cc
map_no_halved Speakers rest h = cc
map_no_halved Tag5 rest h = cc
map_no_halved Tag6 rest h = cc
map_no_halved Extended rest h = none_and (nat_lt 0 (length (0x0f ∷ rest))) h

not_cut : (hdmi own other : Bool) → (hdmi && (own || other)) ≡ false → hdmi ≡ true → own ≡ false
not_cut true own other h e = (or_parts own other h).0
not_cut false own other h e = let no : ⊥ = cc in absurd no

first_none : (a b : Bool) → (a || b) ≡ false → a ≡ false
first_none true b h = h
first_none false b h = refl

rest_none : (a b : Bool) → (a || b) ≡ false → b ≡ false
rest_none true b h = let no : ⊥ = cc in absurd no
rest_none false b h = h

svds_none : (test : ℕ → Bool) (video : Bool) (p : List ℕ) → (video ≡ true → list_any test p ≡ false) → list_any test (if video then p else []) ≡ false
svds_none test true p h = h refl
svds_none test false p h = refl

absurd_both : {X : Type 0} (b : Bool) → b ≡ false → b ≡ true → X
absurd_both true e h = let no : ⊥ = cc in absurd no
absurd_both false e h = let no : ⊥ = cc in absurd no

-- none of the elements passes
none_each : {X Y : Type 0} (u : Y → Bool) (g : X → Y) → ((x : X) → u (g x) ≡ false) → (xs : List X) → list_any u (map g xs) ≡ false
none_each u g h [] = refl
none_each u g h (x ∷ xs) = none_or (u (g x)) (list_any u (map g xs)) (h x) (none_each u g h xs)

pub none_flat_each : {X Y : Type 0} (p : Y → Bool) (f : X → List Y) (xs : List X) → list_any (λ x. list_any p (f x)) xs ≡ false → list_any p (flat_map f xs) ≡ false
none_flat_each p f [] h = refl
none_flat_each p f (x ∷ xs) h =
    none_joined p (f x) (flat_map f xs) (first_none (list_any p (f x)) (list_any (λ y. list_any p (f y)) xs) h)
    (none_flat_each p f xs (rest_none (list_any p (f x)) (list_any (λ y. list_any p (f y)) xs) h))

module _ (base : Base) (xs fit : List Ext) (h : AreFitted base xs xs fit) where
  abbrev then_beyond : Bool → ℕ → Bool
  then_beyond halved svd = is_code_beyond fit halved (code_of svd)

  kept_none : (halved : Bool) (p : List ℕ) → list_any (then_beyond halved) (kept_codes xs halved p) ≡ false
  kept_none halved p = none_kept (then_beyond halved) (λ svd. is_code_beyond xs halved (code_of svd)) (λ svd. code_same base xs fit h halved (code_of svd)) p

  abbrev own : List ℕ → Bool
  own codes = list_any (λ code. is_code_beyond fit false (code_of_hdmi code)) codes

  own_same : (codes : List ℕ) → own codes ≡ list_any (λ code. is_code_beyond xs false (code_of_hdmi code)) codes
  own_same codes = any_alike (λ code. is_code_beyond fit false (code_of_hdmi code)) (λ code. is_code_beyond xs false (code_of_hdmi code)) (λ code. code_same base xs fit h false (code_of_hdmi code)) codes

  -- what a block offers that the link does not carry, by its kind and its bytes: codes, and those in 4:2:0 alone and of HDMI's own
  abbrev shows : Part → Bool
  shows b = list_any (then_beyond false) (if is_video_kind b.0 then b.1 else [])

  abbrev offers : Part → Bool
  offers b = (tagged_in 0x0e b && list_any (then_beyond true) (drop 1 b.1)) || (hdmi_in b && own (hdmi_codes b.1))

  offers_none : (tagged hdmi some other : Bool) → (tagged ≡ true → some ≡ false) → (hdmi ≡ true → other ≡ false) → ((tagged && some) || (hdmi && other)) ≡ false
  offers_none true true some other f g = none_or some other (f refl) (g refl)
  offers_none true false some other f g = none_or some false (f refl) refl
  offers_none false true some other f g = g refl
  offers_none false false some other f g = refl

  offers_by : (b : Part) → (tagged_in 0x0e b ≡ true → list_any (then_beyond true) (drop 1 b.1) ≡ false) → (hdmi_in b ≡ true → own (hdmi_codes b.1) ≡ false) → offers b ≡ false
  offers_by b f g = offers_none (tagged_in 0x0e b) (hdmi_in b) (list_any (then_beyond true) (drop 1 b.1)) (own (hdmi_codes b.1)) f g

  -- the two go by the same choices as `fitted_bytes`

  part_shows : (b : DataBlock) → shows (fitted xs (svds_of xs) b) ≡ false
  part_shows b =
      let k = b.kind in
      let p = b.payload.items in
      let svds = svds_of xs in
      let codes : List ℕ = kept_codes xs false p in
      let halved : List ℕ = 0x0e ∷ kept_codes xs true (drop 1 p) in
      let mapped : List ℕ = 0x0f ∷ fitted_map xs svds (drop 1 p) in
      let cut : List ℕ = without_video p in
      let fourth : List ℕ = if is_hdmi b && is_cut xs svds b then cut else p in
      let third : List ℕ = if has_extended_tag 0x0f b && loses xs svds then mapped else fourth in
      let second : List ℕ = if has_extended_tag 0x0e b then halved else third in
      let P : List ℕ → Type 0 = λ q. shows (block k q) ≡ false in
      let other : is_video_kind k ≡ false → (q : List ℕ) → P q = λ e q. svds_none (then_beyond false) (is_video_kind k) q (λ v. absurd_both (is_video_kind k) e v) in
      choose P (is_video_kind k) codes second (λ e. svds_none (then_beyond false) (is_video_kind k) codes (λ v. kept_none false p)) (λ e1.
      choose P (has_extended_tag 0x0e b) halved third (λ e. other e1 halved) (λ e2.
      choose P (has_extended_tag 0x0f b && loses xs svds) mapped fourth (λ e. other e1 mapped) (λ e3.
      choose P (is_hdmi b && is_cut xs svds b) cut p (λ e. other e1 cut) (λ e4. other e1 p))))

  part_offers : (b : DataBlock) → offers (fitted xs (svds_of xs) b) ≡ false
  part_offers b =
      let k = b.kind in
      let p = b.payload.items in
      let svds = svds_of xs in
      let codes : List ℕ = kept_codes xs false p in
      let halved : List ℕ = 0x0e ∷ kept_codes xs true (drop 1 p) in
      let mapped : List ℕ = 0x0f ∷ fitted_map xs svds (drop 1 p) in
      let cut : List ℕ = without_video p in
      let fourth : List ℕ = if is_hdmi b && is_cut xs svds b then cut else p in
      let third : List ℕ = if has_extended_tag 0x0f b && loses xs svds then mapped else fourth in
      let second : List ℕ = if has_extended_tag 0x0e b then halved else third in
      let P : List ℕ → Type 0 = λ q. offers (block k q) ≡ false in
      choose P (is_video_kind k) codes second
      (λ e. offers_by (block k codes) (λ t. absurd_both (is_video_kind k) (tagged_no_video k codes 0x0e t) e) (λ t. absurd_both (is_video_kind k) (hdmi_no_video k codes t) e)) (λ e1.
      choose P (has_extended_tag 0x0e b) halved third
      (λ e. offers_by (block k halved) (λ t. kept_none true (drop 1 p)) (λ t. let no : ⊥ = tagged_no_hdmi k p halved 0x0e e t in absurd no)) (λ e2.
      choose P (has_extended_tag 0x0f b && loses xs svds) mapped fourth
      (λ e. offers_by (block k mapped) (λ t. let no : ⊥ = map_no_halved k (fitted_map xs svds (drop 1 p)) t in absurd no)
      (λ t. let no : ⊥ = tagged_no_hdmi k p mapped 0x0f (front_true (has_extended_tag 0x0f b) (loses xs svds) e) t in absurd no)) (λ e3.
      choose P (is_hdmi b && is_cut xs svds b) cut p
      (λ e. offers_by (block k cut) (λ t. let no : ⊥ = tagged_no_hdmi k cut p 0x0e t (front_true (is_hdmi b) (is_cut xs svds b) e) in absurd no) (λ t. ap own (cut_codes p)))
      (λ e4. offers_by (block k p) (λ t. absurd_both (has_extended_tag 0x0e b) e2 t)
      (λ t. own_same (hdmi_codes p) ∙ not_cut (is_hdmi b) (list_any (λ code. is_code_beyond xs false (code_of_hdmi code)) (hdmi_codes p)) (loses xs svds && has_places (hdmi_of b).video) e4 t)))))

  -- a test of blocks that no fitted one passes
  blocks_none : (t : DataBlock → Bool) (u : Part → Bool) → ((b : DataBlock) → t b ≡ u (part_of b)) → ((b : DataBlock) → u (fitted xs (svds_of xs) b) ≡ false)
      → (bs cs : List DataBlock) → map part_of cs ≡ fitted_blocks xs bs → list_any t cs ≡ false
  blocks_none t u f g bs cs e =
      any_alike t (λ c. u (part_of c)) f cs ∙ sym (any_mapped u part_of cs) ∙ ap (list_any u) e ∙ none_each u (fitted xs (svds_of xs)) g (filter (stays xs (svds_of xs)) bs)

  exts_none : (t : DataBlock → Bool) (u : Part → Bool) → ((b : DataBlock) → t b ≡ u (part_of b)) → ((b : DataBlock) → u (fitted xs (svds_of xs) b) ≡ false)
      → (some ys : List Ext) → AreFitted base xs some ys → some_block t ys ≡ false
  exts_none t u f g [] [] k = refl
  exts_none t u f g [] (y ∷ ys) k = absurd k
  exts_none t u f g (x ∷ some) [] k = absurd k
  exts_none t u f g (Cta c ∷ some) (Cta d ∷ ys) k =
      none_or (list_any t d.blocks.items) (some_block t ys) (blocks_none t u f g c.blocks.items d.blocks.items k.0.blocks) (exts_none t u f g some ys k.1)
  exts_none t u f g (Cta c ∷ some) (Bare d ∷ ys) k = absurd k.0
  exts_none t u f g (Cta c ∷ some) (Raw r ∷ ys) k = absurd k.0
  exts_none t u f g (Bare c ∷ some) (y ∷ ys) k =
      none_or (list_any t (blocks_of y)) (some_block t ys) (ap (λ (e : Ext). list_any t (blocks_of e)) k.0) (exts_none t u f g some ys k.1)
  exts_none t u f g (Raw r ∷ some) (Cta d ∷ ys) k = absurd k.0
  exts_none t u f g (Raw r ∷ some) (Bare d ∷ ys) k = absurd k.0
  exts_none t u f g (Raw r ∷ some) (Raw s ∷ ys) k = exts_none t u f g some ys k.1

  shown_none : some_block (λ b. list_any (then_beyond false) (block_svds b)) fit ≡ false
  shown_none = exts_none (λ b. list_any (then_beyond false) (block_svds b)) shows (λ b. refl) part_shows xs fit h

  svds_in : (ys : List Ext) → some_block (λ b. list_any (then_beyond false) (block_svds b)) ys ≡ false → list_any (then_beyond false) (svds_of ys) ≡ false
  svds_in [] e = refl
  svds_in (y ∷ ys) e =
      none_joined (then_beyond false) (ext_svds y) (svds_of ys)
      (none_flat_each (then_beyond false) block_svds (blocks_of y) (first_none (list_any (λ b. list_any (then_beyond false) (block_svds b)) (blocks_of y)) (some_block (λ b. list_any (then_beyond false) (block_svds b)) ys) e))
      (svds_in ys (rest_none (list_any (λ b. list_any (then_beyond false) (block_svds b)) (blocks_of y)) (some_block (λ b. list_any (then_beyond false) (block_svds b)) ys) e))

  pub codes_none : has_code_beyond fit ≡ false
  codes_none =
      none_or (list_any (is_code_beyond fit false) (map code_of (svds_of fit))) (some_block (offers_beyond fit) fit)
      (any_mapped (is_code_beyond fit false) code_of (svds_of fit) ∙ svds_in fit shown_none)
      (exts_none (offers_beyond fit) offers (λ b. refl) part_offers xs fit h)
