-- Data blocks, cut at the first HDMI block.
use Rattle.std.proofs.Common.{◌≡◌, ℕ, suc, ◌+◌, ◌≤◌, ◌==◌, Bool, true, false, ◌&&◌, nat_lt, nat_le, lit≤, get_or, Some, None, IsSome, List, [], ◌∷◌, ◌++◌, ◌⊎◌, inl, inr, length, take, flat_map, ap, arith, refl, sym, ◌∙◌, length-append, one-add}
use Rattle.std.proofs.lemmas.Grind.{flat_map-append}
use Rattle.std.proofs.lemmas.Bool.{leb-true, eqb-true}
use borrow.Author.Tests.{tests}
use Rattle.std.specs.List.{find, position, position_or_len, before_first}
use Rattle.std.specs.Option.{option_map, is_some}
use Rattle.edid_cta.specs.Block.{block_bytes}
use Rattle.edid_cta.specs.Hdmi.{has_identifier, is_vendor, is_hdmi, phys_at, blocks_of, address_of, address_place}
use Rattle.edid_cta.specs.declared.block.DataBlock.{DataBlock}
use Rattle.edid_cta.specs.declared.raw.Ext.{Ext}
use Rattle.edid_cta.specs.declared.raw.Ext.TheVariants.{Cta, Bare, Raw}

-- the first HDMI block, and what stands before and after it
pub record IsCut (blocks : List DataBlock) : Type 0 where
  pub before : List DataBlock
  pub hdmi : DataBlock
  pub after : List DataBlock
  pub whole : blocks ≡ before ++ hdmi ∷ after
  pub is_one : is_hdmi hdmi ≡ true
  pub place : position_or_len is_hdmi blocks ≡ length before
  pub front : before_first is_hdmi blocks ≡ before
  pub found : find is_hdmi blocks ≡ Some hdmi
  pub instead : (b : DataBlock) → is_hdmi b ≡ true → find is_hdmi (before ++ b ∷ after) ≡ Some b

pub record HasNone (blocks : List DataBlock) : Type 0 where
  pub place : position_or_len is_hdmi blocks ≡ length blocks
  pub none : find is_hdmi blocks ≡ None

here : (b : DataBlock) (bs : List DataBlock) → is_hdmi b ≡ true → IsCut (b ∷ bs)
here b bs h = record {
  before = [];
  hdmi = b;
  after = bs;
  whole = refl;
  is_one = h;
  place = rw h refl;
  front = rw h refl;
  found = rw h refl;
  instead = λ c k. rw k refl;
}

later : (b : DataBlock) (bs : List DataBlock) → is_hdmi b ≡ false → IsCut bs → IsCut (b ∷ bs)
later b bs h k = record {
  before = b ∷ k.before;
  hdmi = k.hdmi;
  after = k.after;
  whole = ap (λ xs. b ∷ xs) k.whole;
  is_one = k.is_one;
  place = rw (h, one-add) (ap (λ n. suc n) k.place);
  front = rw (h, one-add) (ap (λ xs. b ∷ xs) k.front);
  found = rw h k.found;
  instead = λ c e. rw h (k.instead c e);
}

nowhere : (b : DataBlock) (bs : List DataBlock) → is_hdmi b ≡ false → HasNone bs → HasNone (b ∷ bs)
nowhere b bs h k = record { place = rw (h, one-add) (ap (λ n. suc n) k.place); none = rw h k.none }

pub cut : (blocks : List DataBlock) → HasNone blocks ⊎ IsCut blocks
cut [] = inl (record { place = refl; none = refl })
cut (b ∷ bs) = by_test (is_hdmi b) refl (cut bs)
  where
    by_test : (t : Bool) → is_hdmi b ≡ t → HasNone bs ⊎ IsCut bs → HasNone (b ∷ bs) ⊎ IsCut (b ∷ bs)
    by_test true h k = inr (here b bs h)
    by_test false h (inl k) = inl (nowhere b bs h k)
    by_test false h (inr k) = inr (later b bs h k)

none_placed : (blocks : List DataBlock) → HasNone blocks → position is_hdmi blocks ≡ None
none_placed blocks h =
    let place = h.place in
    let t : nat_lt (position_or_len is_hdmi blocks) (length blocks) ≡ false = grind (arith, tests) in rw t refl

cut_placed : (blocks : List DataBlock) (k : IsCut blocks) → position is_hdmi blocks ≡ Some (length k.before)
cut_placed blocks k =
    let place = k.place in
    let len = ap length k.whole in
    let more = length-append k.before (k.hdmi ∷ k.after) in
    let t : nat_lt (position_or_len is_hdmi blocks) (length blocks) ≡ true = grind (arith, tests) in
    rw t (ap (λ n. Some n) k.place)

-- where no place has one, none is found
pub none_found : (blocks : List DataBlock) → position is_hdmi blocks ≡ None → find is_hdmi blocks ≡ None
none_found blocks e = by (cut blocks)
  where
    by : HasNone blocks ⊎ IsCut blocks → find is_hdmi blocks ≡ None
    by (inl h) = h.none
    by (inr k) = let p = cut_placed blocks k in cc

-- the place of the first
pub cut_at : (blocks : List DataBlock) (i : ℕ) → position is_hdmi blocks ≡ Some i → (k : IsCut blocks) × (i ≡ length k.before)
cut_at blocks i e = by (cut blocks)
  where
    by : HasNone blocks ⊎ IsCut blocks → (k : IsCut blocks) × (i ≡ length k.before)
    by (inl h) = let p = none_placed blocks h in cc
    by (inr k) = let p = cut_placed blocks k in (k, cc)

pub cut_found : (blocks : List DataBlock) (b : DataBlock) → find is_hdmi blocks ≡ Some b → (k : IsCut blocks) × (k.hdmi ≡ b)
cut_found blocks b e = by (cut blocks)
  where
    by : HasNone blocks ⊎ IsCut blocks → (k : IsCut blocks) × (k.hdmi ≡ b)
    by (inl h) = let p = h.none in cc
    by (inr k) = let p = k.found in (k, cc)

pub both : (a b : Bool) → (a && b) ≡ true → (a ≡ true) × (b ≡ true)
both true b h = (refl, h)
both false b h = cc

-- an HDMI block's payload begins with the identifier
pub record IsIdentified (payload : List ℕ) : Type 0 where
  pub long : 5 ≤ length payload
  pub first : get_or payload 0 0 ≡ 3
  pub second : get_or payload 1 0 ≡ 12
  pub third : get_or payload 2 0 ≡ 0

pub identified : (b : DataBlock) → is_hdmi b ≡ true → IsIdentified b.payload.items
identified b h =
    let p = b.payload.items in
    let id = both (is_vendor b.kind) (has_identifier p) h in
    let three = both (nat_le 5 (length p) && (get_or p 0 0 == 3) && (get_or p 1 0 == 12)) (get_or p 2 0 == 0) id.1 in
    let two = both (nat_le 5 (length p) && (get_or p 0 0 == 3)) (get_or p 1 0 == 12) three.0 in
    let one = both (nat_le 5 (length p)) (get_or p 0 0 == 3) two.0 in
    record { long = leb-true _ _ one.0; first = eqb-true _ _ one.1; second = eqb-true _ _ two.1; third = eqb-true _ _ three.1 }

-- the data blocks of an extension fit
blocks_len : (e : Ext) → length (flat_map block_bytes (blocks_of e)) ≤ 123
blocks_len (Cta c) = let whole = c.whole in omega arith
blocks_len (Bare b) = lit≤ tt
blocks_len (Raw r) = lit≤ tt

pub record IsPlaced (e : Ext) (i : ℕ) : Type 0 where
  pub room : length (flat_map block_bytes (take i (blocks_of e))) ≤ 117
  pub place : 8 + length (flat_map block_bytes (take i (blocks_of e))) ≡ address_place (blocks_of e)
  pub there : IsSome (address_of e)

pub placed : (e : Ext) (i : ℕ) → position is_hdmi (blocks_of e) ≡ Some i → IsPlaced e i
placed e i h =
    let at = cut_at (blocks_of e) i h in
    let k = at.0 in
    let same : take i (blocks_of e) ≡ k.before = ap (λ n. take n (blocks_of e)) (at.1 ∙ sym k.place) ∙ k.front in
    let parts = ap length (flat_map-append block_bytes k.before (k.hdmi ∷ k.after)) ∙ length-append (flat_map block_bytes k.before) (flat_map block_bytes (k.hdmi ∷ k.after)) in
    let whole = ap (λ bs. length (flat_map block_bytes bs)) k.whole in
    let rest = length-append (block_bytes k.hdmi) (flat_map block_bytes k.after) in
    let long = (identified k.hdmi k.is_one).long in
    let most = blocks_len e in
    let len = ap (λ bs. length (flat_map block_bytes bs)) same in
    record {
      room = omega (arith, len, parts, whole, rest, long, most);
      place = ap (λ bs. 8 + length (flat_map block_bytes bs)) (same ∙ sym k.front);
      there = ap (λ o. is_some (option_map (λ (b : DataBlock). phys_at b.payload.items) o)) k.found;
    }
