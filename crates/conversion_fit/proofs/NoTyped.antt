-- No format of DisplayID is left that the link does not carry.
use Rattle.std.proofs.Common.{◌≡◌, ◌∙◌, refl, sym, ap, ℕ, ◌==◌, Bool, true, false, ◌||◌, ◌&&◌, not, nat_lt, nat_le, if◌then◌else◌, List, [], ◌∷◌, length, slice_index, drop, map, flat_map, arith}
use Rattle.std.specs.List.{filter, list_any}
use Rattle.edid_base.specs.declared.base.Base.{Base}
use Rattle.edid_cta.specs.Hdmi.{is_hdmi}
use Rattle.edid_cta.specs.declared.block.DataBlock.{DataBlock}
use Rattle.edid_cta.specs.declared.block.BlockKind.{BlockKind}
use Rattle.edid_cta.specs.declared.block.BlockKind.TheVariants.{Tag0, Audio, Video, Vendor, Speakers, Tag5, Tag6, Extended}
use Rattle.edid_cta.specs.declared.raw.Ext.{Ext}
use Rattle.edid_cta.specs.declared.raw.Ext.TheVariants.{Cta, Bare, Raw}
use Rattle.edid_displayid.specs.Formats.{block_formats, cta_formats, ext_formats, is_extended, is_listing, section_formats, typed_formats}
use Rattle.edid_displayid.specs.declared.timing.TypedFormat.{TypedFormat}
use Rattle.rules_contents.specs.Contents.{has_extended_tag}
use Rattle.rules_link.specs.Offers.{has_typed_beyond, is_typed_beyond, typed_load}
use Rattle.rules_values.specs.BlockParts.{is_video_kind}
use Rattle.rules_values.specs.VideoCodes.{svds_of}
use Rattle.conversion_fit.specs.Blocks.{Part, fitted, fitted_blocks, fitted_map, is_cut, is_emptied, kept_codes, lists_beyond, loses, part_of, stays, without_video}
use Rattle.conversion_fit.specs.Whole.{AreFitted}
use Rattle.conversion_fit.proofs.Choices.{any_alike, any_mapped, choose, none_joined, none_or}
use Rattle.conversion_fit.proofs.Left.{first_none, kept_is}
use Rattle.conversion_fit.proofs.Links.{block, front_true, hdmi_in, some_same}
use Rattle.conversion_fit.proofs.NoCodes.{none_flat_each}
use Rattle.conversion_fit.proofs.Sections.{section_none}

-- ---- blocks that list none, by their kind and their bytes

abbrev lists : Part → Bool
lists b = is_extended b.0 && is_listing b.1

none_right : (a b : Bool) → b ≡ false → (a && b) ≡ false
none_right true b h = h
none_right false b h = refl

of_video : (k : BlockKind) (q : List ℕ) → is_video_kind k ≡ true → lists (block k q) ≡ false
of_video Tag0 q h = refl
of_video Audio q h = refl
of_video Video q h = refl
of_video Vendor q h = refl
of_video Speakers q h = refl
of_video Tag5 q h = refl
of_video Tag6 q h = refl
of_video Extended q h = let no : ⊥ = cc in absurd no

of_hdmi : (k : BlockKind) (p q : List ℕ) → hdmi_in (block k p) ≡ true → lists (block k q) ≡ false
of_hdmi Tag0 p q h = refl
of_hdmi Audio p q h = refl
of_hdmi Video p q h = refl
of_hdmi Vendor p q h = refl
of_hdmi Speakers p q h = refl
of_hdmi Tag5 p q h = refl
of_hdmi Tag6 p q h = refl
of_hdmi Extended p q h = let no : ⊥ = cc in absurd no

halved_lists : (k : BlockKind) (rest : List ℕ) → lists (block k (0x0e ∷ rest)) ≡ false
halved_lists k rest = none_right (is_extended k) (is_listing (0x0e ∷ rest)) (none_right (nat_le 2 (length (0x0e ∷ rest))) false refl)

map_lists : (k : BlockKind) (rest : List ℕ) → lists (block k (0x0f ∷ rest)) ≡ false
map_lists k rest = none_right (is_extended k) (is_listing (0x0f ∷ rest)) (none_right (nat_le 2 (length (0x0f ∷ rest))) false refl)

-- ---- lists

none_staying : {X Y : Type 0} (u : Y → Bool) (q : X → Bool) (g : X → Y) → ((x : X) → q x ≡ true → u (g x) ≡ false) → (xs : List X) → list_any u (map g (filter q xs)) ≡ false
none_staying u q g h [] = refl
none_staying {X} {Y} u q g h (x ∷ xs) =
    choose (λ (l : List X). list_any u (map g l) ≡ false) (q x) (x ∷ filter q xs) (filter q xs)
    (λ e. none_or (u (g x)) (list_any u (map g (filter q xs))) (h x e) (none_staying u q g h xs)) (λ e. none_staying u q g h xs)

module _ (base : Base) (xs fit : List Ext) (h : AreFitted base xs xs fit) where
  abbrev beyond : TypedFormat → Bool
  beyond f = is_typed_beyond fit f

  typed_same : (f : TypedFormat) → beyond f ≡ is_typed_beyond xs f
  typed_same f = some_same base xs fit h (typed_load f)

  -- ---- data blocks

  abbrev shows : Part → Bool
  shows b = list_any beyond (if lists b then block_formats (slice_index b.1 0) (slice_index b.1 1) (drop 2 b.1) else [])

  shows_none : (b : Part) → lists b ≡ false → shows b ≡ false
  shows_none b e =
      choose (λ (l : List TypedFormat). list_any beyond l ≡ false) (lists b) (block_formats (slice_index b.1 0) (slice_index b.1 1) (drop 2 b.1)) []
      (λ k. let no : ⊥ = cc in absurd no) (λ k. refl)

  -- by the choices of `fitted_bytes`
  part_none : (b : DataBlock) → stays xs (svds_of xs) b ≡ true → shows (fitted xs (svds_of xs) b) ≡ false
  part_none b here =
      let k = b.kind in
      let p = b.payload.items in
      let svds = svds_of xs in
      let codes : List ℕ = kept_codes xs false p in
      let halved : List ℕ = 0x0e ∷ kept_codes xs true (drop 1 p) in
      let mapped : List ℕ = 0x0f ∷ fitted_map xs svds (drop 1 p) in
      let cut : List ℕ = without_video p in
      let fourth : List ℕ = if is_hdmi b && is_cut xs svds b then cut else p in
      let third : List ℕ = if has_extended_tag 0x0f b && loses xs svds then mapped else fourth in
      let second : List ℕ = if has_extended_tag 0x0e b then halved else third in
      let P : List ℕ → Type 0 = λ q. shows (block k q) ≡ false in
      choose P (is_video_kind k) codes second (λ e. shows_none (block k codes) (of_video k codes e)) (λ e1.
      choose P (has_extended_tag 0x0e b) halved third (λ e. shows_none (block k halved) (halved_lists k (kept_codes xs true (drop 1 p)))) (λ e2.
      choose P (has_extended_tag 0x0f b && loses xs svds) mapped fourth (λ e. shows_none (block k mapped) (map_lists k (fitted_map xs svds (drop 1 p)))) (λ e3.
      choose P (is_hdmi b && is_cut xs svds b) cut p (λ e. shows_none (block k cut) (of_hdmi k p cut (front_true (is_hdmi b) (is_cut xs svds b) e)))
      (λ e4. any_alike beyond (is_typed_beyond xs) typed_same (cta_formats b)
      ∙ first_none (lists_beyond xs b) (is_emptied xs svds b) (kept_is (lists_beyond xs b || is_emptied xs svds b) here)))))

  blocks_typed : (bs cs : List DataBlock) → map part_of cs ≡ fitted_blocks xs bs → list_any beyond (flat_map cta_formats cs) ≡ false
  blocks_typed bs cs e =
      none_flat_each beyond cta_formats cs
      (any_alike (λ b. list_any beyond (cta_formats b)) (λ c. shows (part_of c)) (λ b. refl) cs ∙ sym (any_mapped shows part_of cs) ∙ ap (list_any shows) e
      ∙ none_staying shows (stays xs (svds_of xs)) (fitted xs (svds_of xs)) part_none bs)

  -- ---- extensions

  exts_typed : (some ys : List Ext) → AreFitted base xs some ys → list_any beyond (typed_formats ys) ≡ false
  exts_typed [] [] k = refl
  exts_typed [] (y ∷ ys) k = absurd k
  exts_typed (x ∷ some) [] k = absurd k
  exts_typed (Cta c ∷ some) (Cta d ∷ ys) k =
      none_joined beyond (flat_map cta_formats d.blocks.items) (typed_formats ys) (blocks_typed c.blocks.items d.blocks.items k.0.blocks) (exts_typed some ys k.1)
  exts_typed (Cta c ∷ some) (Bare d ∷ ys) k = absurd k.0
  exts_typed (Cta c ∷ some) (Raw r ∷ ys) k = absurd k.0
  exts_typed (Bare c ∷ some) (y ∷ ys) k =
      none_joined beyond (ext_formats y) (typed_formats ys) (ap (λ (e : Ext). list_any beyond (ext_formats e)) k.0) (exts_typed some ys k.1)
  exts_typed (Raw r ∷ some) (Cta d ∷ ys) k = absurd k.0
  exts_typed (Raw r ∷ some) (Bare d ∷ ys) k = absurd k.0
  exts_typed (Raw r ∷ some) (Raw s ∷ ys) k =
      none_joined beyond (section_formats s.bytes) (typed_formats ys) (section_none xs beyond typed_same r.bytes s.bytes k.0) (exts_typed some ys k.1)

  pub typed_none : has_typed_beyond fit ≡ false
  typed_none = exts_typed xs fit h
