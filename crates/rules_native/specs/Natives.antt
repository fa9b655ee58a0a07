-- The pictures that an EDID marks as native: the first detailed timings, as many as the flags of an extension count (CTA-861-D,
-- section 7.5), and the video codes that are marked (section 7.5.1).
use Rattle.std.specs.Prelude.{ℕ, ◌-◌, ◌*◌, ◌==◌, Bool, true, false, ◌&&◌, ◌||◌, not, nat_lt, if◌then◌else◌, List, [], ◌∷◌, ◌++◌, map, flat_map, take, Option, Some, None}
use Rattle.std.specs.List.{list_any}
use Rattle.edid_base.specs.declared.base.Base.{Base}
use Rattle.edid_base.specs.declared.timing.Timing.{Timing}
use Rattle.edid_cta.specs.declared.raw.Ext.{Ext}
use Rattle.meaning_words.specs.Formats.{format_of}
use Rattle.meaning_words.specs.declared.formats.VideoFormat.{VideoFormat}
use Rattle.rules_values.specs.ExtParts.{native_count, timings_of}
use Rattle.rules_values.specs.VideoCodes.{svds_of}
use Rattle.rules_native.specs.declared.picture.Picture.{Picture}

-- bit 7 of the flags: two fields, each with half of the lines
abbrev pub timing_picture : Timing → Picture
timing_picture t =
    if nat_lt t.flags 128 then record { width = t.horizontal_active; height = t.vertical_active; interlaced = false }
    else record { width = t.horizontal_active; height = 2 * t.vertical_active; interlaced = true }

abbrev pub format_pictures : Option VideoFormat → List Picture
format_pictures None = []
format_pictures (Some f) = record { width = f.width; height = f.height; interlaced = f.interlaced } ∷ []

-- a byte of a video data block: 129 to 192 are the codes 1 to 64, marked as native
abbrev pub marked_pictures : ℕ → List Picture
marked_pictures svd = if nat_lt 128 svd && nat_lt svd 193 then format_pictures (format_of (svd - 128)) else []

abbrev pub native_pictures : ℕ → List Timing → List Ext → List Picture
native_pictures count timings xs = map timing_picture (take count timings) ++ flat_map marked_pictures (svds_of xs)

abbrev pub is_same_scan : Bool → Bool → Bool
is_same_scan true scan = scan
is_same_scan false scan = not scan

-- both are of two fields or both of one, and they are not as wide or not as high
abbrev pub differs : Picture → Picture → Bool
differs p q = is_same_scan p.interlaced q.interlaced && not ((p.width == q.width) && (p.height == q.height))

-- two of them differ
abbrev pub are_mixed : List Picture → Bool
are_mixed [] = false
are_mixed (p ∷ ps) = list_any (differs p) ps || are_mixed ps

-- the native pictures are of several sizes, with as many timings as some extension counts
abbrev pub has_mixed_natives : Base → List Ext → Bool
has_mixed_natives b xs = list_any (λ x. are_mixed (native_pictures (native_count x) (timings_of b xs) xs)) xs
