-- Detailed timings without those that the link of an EDID does not carry, and which of them is preferred then (own; that the first one is:
-- E-EDID Release A, section 3.10.1).
use Rattle.std.specs.Prelude.{ℕ, ◌*◌, ◌==◌, Bool, true, false, not, nat_lt, if◌then◌else◌, List, [], ◌∷◌, map, filter, find, drop, Option, Some, None}
use Rattle.std.specs.List.{list_any}
use Rattle.edid_base.specs.declared.base.Base.{Base}
use Rattle.edid_base.specs.declared.descriptor.Descriptor.{Descriptor}
use Rattle.edid_base.specs.declared.descriptor.Descriptor.TheVariants.{Timing as OfTiming, Dummy}
use Rattle.edid_base.specs.declared.timing.Timing.{Timing}
use Rattle.edid_cta.specs.declared.raw.Ext.{Ext}
use Rattle.rules_link.specs.Offers.{is_timing_beyond}
use Rattle.rules_values.specs.ExtParts.{timings_of}

abbrev pub is_carried_timing : List Ext → Timing → Bool
is_carried_timing xs t = not (is_timing_beyond xs t)

abbrev pub carried_timings : List Ext → List Timing → List Timing
carried_timings xs ts = filter (is_carried_timing xs) ts

-- ---- the greatest picture

abbrev pub area : Timing → ℕ
area t = t.horizontal_active * t.vertical_active

abbrev pub has_area : ℕ → Timing → Bool
has_area pixels t = area t == pixels

abbrev pub greatest_area : List Timing → ℕ
greatest_area [] = 0
greatest_area (t ∷ ts) = if nat_lt (greatest_area ts) (area t) then area t else greatest_area ts

-- the first one with the greatest picture
abbrev pub greatest : List Timing → Option Timing
greatest ts = find (has_area (greatest_area ts)) ts

-- ---- descriptors

abbrev pub is_lost : List Ext → Descriptor → Bool
is_lost xs (OfTiming t) = is_timing_beyond xs t
is_lost xs _ = false

-- the place of a timing that goes is unused
abbrev pub left_descriptor : List Ext → Descriptor → Descriptor
left_descriptor xs d = if is_lost xs d then Dummy else d

abbrev pub left_descriptors : List Ext → List Descriptor → List Descriptor
left_descriptors xs ds = map (left_descriptor xs) ds

abbrev pub begins_lost : List Ext → List Descriptor → Bool
begins_lost xs [] = false
begins_lost xs (d ∷ ds) = is_lost xs d

-- what stands in the place of a preferred timing that goes: of those that are carried the one with the greatest picture
abbrev pub leader : List Ext → Base → Option Timing
leader xs b = if begins_lost xs b.descriptors then greatest (carried_timings xs (timings_of b xs)) else None

-- its own place, the first of a picture as great, becomes free

abbrev pub has_area_there : ℕ → Descriptor → Bool
has_area_there pixels (OfTiming t) = has_area pixels t
has_area_there pixels _ = false

abbrev pub freed : ℕ → List Descriptor → List Descriptor
freed pixels [] = []
freed pixels (d ∷ ds) = if has_area_there pixels d then Dummy ∷ ds else d ∷ freed pixels ds

abbrev pub without_first : ℕ → List Timing → List Timing
without_first pixels [] = []
without_first pixels (t ∷ ts) = if has_area pixels t then ts else t ∷ without_first pixels ts

-- ---- of a base block, and of an extension

abbrev pub led_descriptors : List Ext → List Descriptor → Option Timing → List Descriptor
led_descriptors xs ds None = left_descriptors xs ds
led_descriptors xs ds (Some t) = OfTiming t ∷ freed (area t) (left_descriptors xs (drop 1 ds))

-- the one that is preferred then goes from an extension where no descriptor is it
abbrev pub led_timings : List Ext → List Descriptor → Option Timing → List Timing → List Timing
led_timings xs ds None ts = carried_timings xs ts
led_timings xs ds (Some t) ts =
    if list_any (has_area_there (area t)) (left_descriptors xs (drop 1 ds)) then carried_timings xs ts
    else without_first (area t) (carried_timings xs ts)
