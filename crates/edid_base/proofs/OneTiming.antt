-- 18 bytes spell one timing at most.
use Rattle.std.proofs.Common.{◌≡◌, ℕ, ◌+◌, ◌*◌, ◌/◌, ◌%◌, ◌^◌, ◌<◌, List, [], ◌∷◌, arith, ap, get_or}
use Rattle.std.specs.Coded.{le_prop}
use Rattle.edid_base.proofs.Same.{same}
use Rattle.edid_base.specs.Timing.{timing_bytes, low, high, nibbles}
use Rattle.edid_base.specs.declared.timing.Timing.{Timing}

pub record Plain : Type 0 where
  pub clock : ℕ
  pub horizontal_active : ℕ
  pub horizontal_blanking : ℕ
  pub vertical_active : ℕ
  pub vertical_blanking : ℕ
  pub horizontal_sync_offset : ℕ
  pub horizontal_sync_width : ℕ
  pub vertical_sync_offset : ℕ
  pub vertical_sync_width : ℕ
  pub width : ℕ
  pub height : ℕ
  pub horizontal_border : ℕ
  pub vertical_border : ℕ
  pub flags : ℕ

pub record IsFit (p : Plain) : Type 0 where
  pub runs : 0 < p.clock
  pub clock_fits : p.clock < 2 ^ 16
  pub horizontal_active_fits : p.horizontal_active < 4096
  pub horizontal_blanking_fits : p.horizontal_blanking < 4096
  pub vertical_active_fits : p.vertical_active < 4096
  pub vertical_blanking_fits : p.vertical_blanking < 4096
  pub horizontal_sync_offset_fits : p.horizontal_sync_offset < 1024
  pub horizontal_sync_width_fits : p.horizontal_sync_width < 1024
  pub vertical_sync_offset_fits : p.vertical_sync_offset < 64
  pub vertical_sync_width_fits : p.vertical_sync_width < 64
  pub width_fits : p.width < 4096
  pub height_fits : p.height < 4096
  pub horizontal_border_fits : p.horizontal_border < 256
  pub vertical_border_fits : p.vertical_border < 256
  pub flags_fit : p.flags < 256

IsFit_prop : (p : Plain) → IsProp (IsFit p)
IsFit_prop p = hlevel (le_prop)

abbrev made : (p : Plain) → IsFit p → Timing
made p h = record {
  clock = p.clock;
  horizontal_active = p.horizontal_active;
  horizontal_blanking = p.horizontal_blanking;
  vertical_active = p.vertical_active;
  vertical_blanking = p.vertical_blanking;
  horizontal_sync_offset = p.horizontal_sync_offset;
  horizontal_sync_width = p.horizontal_sync_width;
  vertical_sync_offset = p.vertical_sync_offset;
  vertical_sync_width = p.vertical_sync_width;
  width = p.width;
  height = p.height;
  horizontal_border = p.horizontal_border;
  vertical_border = p.vertical_border;
  flags = p.flags;
  runs = h.runs;
  clock_fits = h.clock_fits;
  horizontal_active_fits = h.horizontal_active_fits;
  horizontal_blanking_fits = h.horizontal_blanking_fits;
  vertical_active_fits = h.vertical_active_fits;
  vertical_blanking_fits = h.vertical_blanking_fits;
  horizontal_sync_offset_fits = h.horizontal_sync_offset_fits;
  horizontal_sync_width_fits = h.horizontal_sync_width_fits;
  vertical_sync_offset_fits = h.vertical_sync_offset_fits;
  vertical_sync_width_fits = h.vertical_sync_width_fits;
  width_fits = h.width_fits;
  height_fits = h.height_fits;
  horizontal_border_fits = h.horizontal_border_fits;
  vertical_border_fits = h.vertical_border_fits;
  flags_fit = h.flags_fit;
}

abbrev plain : Timing → Plain
plain t = record {
  clock = t.clock;
  horizontal_active = t.horizontal_active;
  horizontal_blanking = t.horizontal_blanking;
  vertical_active = t.vertical_active;
  vertical_blanking = t.vertical_blanking;
  horizontal_sync_offset = t.horizontal_sync_offset;
  horizontal_sync_width = t.horizontal_sync_width;
  vertical_sync_offset = t.vertical_sync_offset;
  vertical_sync_width = t.vertical_sync_width;
  width = t.width;
  height = t.height;
  horizontal_border = t.horizontal_border;
  vertical_border = t.vertical_border;
  flags = t.flags;
}

abbrev fit : (t : Timing) → IsFit (plain t)
fit t = record {
  runs = t.runs;
  clock_fits = t.clock_fits;
  horizontal_active_fits = t.horizontal_active_fits;
  horizontal_blanking_fits = t.horizontal_blanking_fits;
  vertical_active_fits = t.vertical_active_fits;
  vertical_blanking_fits = t.vertical_blanking_fits;
  horizontal_sync_offset_fits = t.horizontal_sync_offset_fits;
  horizontal_sync_width_fits = t.horizontal_sync_width_fits;
  vertical_sync_offset_fits = t.vertical_sync_offset_fits;
  vertical_sync_width_fits = t.vertical_sync_width_fits;
  width_fits = t.width_fits;
  height_fits = t.height_fits;
  horizontal_border_fits = t.horizontal_border_fits;
  vertical_border_fits = t.vertical_border_fits;
  flags_fit = t.flags_fit;
}

-- a number by its low byte and its high part
whole : (a b : ℕ) → low a ≡ low b → high a ≡ high b → a ≡ b
whole a b l h = omega arith

two_nibbles : (a b c d : ℕ) → a < 4096 → b < 4096 → c < 4096 → d < 4096 → nibbles a b ≡ nibbles c d → (high a ≡ high c) × (high b ≡ high d)
two_nibbles a b c d ha hb hc hd e = (omega arith, omega arith)

sync : (a b c d : ℕ) → a % 16 * 16 + b % 16 ≡ c % 16 * 16 + d % 16 → (a % 16 ≡ c % 16) × (b % 16 ≡ d % 16)
sync a b c d e = (omega arith, omega arith)

pairs : (a b c d w x y z : ℕ) → a < 1024 → b < 1024 → c < 64 → d < 64 → w < 1024 → x < 1024 → y < 64 → z < 64
    → high a * 64 + high b * 16 + c / 16 * 4 + d / 16 ≡ high w * 64 + high x * 16 + y / 16 * 4 + z / 16
    → (high a ≡ high w) × (high b ≡ high x) × (c / 16 ≡ y / 16) × (d / 16 ≡ z / 16)
pairs a b c d w x y z ha hb hc hd hw hx hy hz e = (omega arith, omega arith, omega arith, omega arith)

by_16 : (a b : ℕ) → a % 16 ≡ b % 16 → a / 16 ≡ b / 16 → a ≡ b
by_16 a b l h = omega arith

head_of : ℕ → List ℕ → ℕ
head_of d [] = d
head_of d (x ∷ xs) = x

-- the cell of equal lists
at : (k : ℕ) (xs ys : List ℕ) → xs ≡ ys → get_or xs k 0 ≡ get_or ys k 0
at k xs ys e = ap (λ zs. get_or zs k 0) e

pub one_timing : (a b : Timing) → timing_bytes a ≡ timing_bytes b → a ≡ b
one_timing a b e =
    let cell : (k : ℕ) → get_or (timing_bytes a) k 0 ≡ get_or (timing_bytes b) k 0 = λ k. at k (timing_bytes a) (timing_bytes b) e in
    let clock = whole a.clock b.clock (cell 0) (cell 1) in
    let h1 = two_nibbles _ _ _ _ a.horizontal_active_fits a.horizontal_blanking_fits b.horizontal_active_fits b.horizontal_blanking_fits (cell 4) in
    let horizontal_active = whole a.horizontal_active b.horizontal_active (cell 2) h1.0 in
    let horizontal_blanking = whole a.horizontal_blanking b.horizontal_blanking (cell 3) h1.1 in
    let h2 = two_nibbles _ _ _ _ a.vertical_active_fits a.vertical_blanking_fits b.vertical_active_fits b.vertical_blanking_fits (cell 7) in
    let vertical_active = whole a.vertical_active b.vertical_active (cell 5) h2.0 in
    let vertical_blanking = whole a.vertical_blanking b.vertical_blanking (cell 6) h2.1 in
    let h3 = pairs _ _ _ _ _ _ _ _ a.horizontal_sync_offset_fits a.horizontal_sync_width_fits a.vertical_sync_offset_fits a.vertical_sync_width_fits
    b.horizontal_sync_offset_fits b.horizontal_sync_width_fits b.vertical_sync_offset_fits b.vertical_sync_width_fits (cell 11) in
    let h4 = sync a.vertical_sync_offset a.vertical_sync_width b.vertical_sync_offset b.vertical_sync_width (cell 10) in
    let horizontal_sync_offset = whole a.horizontal_sync_offset b.horizontal_sync_offset (cell 8) h3.0 in
    let horizontal_sync_width = whole a.horizontal_sync_width b.horizontal_sync_width (cell 9) h3.1 in
    let vertical_sync_offset = by_16 a.vertical_sync_offset b.vertical_sync_offset h4.0 h3.2 in
    let vertical_sync_width = by_16 a.vertical_sync_width b.vertical_sync_width h4.1 h3.3 in
    let h5 = two_nibbles _ _ _ _ a.width_fits a.height_fits b.width_fits b.height_fits (cell 14) in
    let width = whole a.width b.width (cell 12) h5.0 in
    let height = whole a.height b.height (cell 13) h5.1 in
    let horizontal_border : a.horizontal_border ≡ b.horizontal_border = cell 15 in
    let vertical_border : a.vertical_border ≡ b.vertical_border = cell 16 in
    let flags : a.flags ≡ b.flags = cell 17 in
    let all : plain a ≡ plain b = cc in
    same made IsFit_prop (plain a) (plain b) (fit a) (fit b) all
