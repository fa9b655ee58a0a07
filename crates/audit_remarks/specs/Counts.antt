-- The frames of each initiator: those that were taken, those that were not acknowledged or were refused, and those that
-- broke (own). A reading without a whole header counts for nobody.
use Rattle.std.specs.Prelude.{Bool, true, false, nat_lt, if◌then◌else◌, is_some, List, length, replicate, slice_index_or, slice_set}
use Rattle.line_frames.specs.declared.Ending.{Ending}
use Rattle.line_frames.specs.declared.Ending.TheVariants.{Open}
use Rattle.audit_widths.specs.Spreads.{sum_of}
use Rattle.audit_remarks.specs.declared.counts.FrameCount.{FrameCount}
use Rattle.audit_remarks.specs.Header.{failed_block, initiator_of, is_delivered}

abbrev pub no_count : FrameCount
no_count = record { taken = 0; untaken = 0; broken = 0 }

-- the end of the capture cuts a reading off: whether it broke is not known
abbrev pub is_cut_off : Ending → Bool
is_cut_off Open = true
is_cut_off _ = false

abbrev pub with_frame : Ending → List Bool → FrameCount → FrameCount
with_frame ending bits c =
    if is_delivered ending bits then record c { taken = sum_of c.taken 1 }
    else if is_some (failed_block bits) then record c { untaken = sum_of c.untaken 1 }
    else if is_cut_off ending then c
    else record c { broken = sum_of c.broken 1 }

abbrev pub no_counts : List FrameCount
no_counts = replicate 16 no_count

abbrev pub with_reading : Ending → List Bool → List FrameCount → List FrameCount
with_reading ending bits counts =
    if nat_lt (length bits) 8 then counts
    else slice_set counts (initiator_of bits) (with_frame ending bits (slice_index_or counts (initiator_of bits) no_count))
