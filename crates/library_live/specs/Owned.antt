-- What a caller owns that keeps a session (own).
use Rattle.std.specs.Prelude.{Option, Some, None}
use base.Fml.{Fml, ftrue}
use denote.RawPtr.{Ptr}
use Rattle.std_alloc.specs.Box.Ownership.{box_owns}
use Rattle.std_heap.specs.declared.Global.{Global}
use Rattle.std_heap.specs.contracts.GlobalAllocator.TheImpl.{ghosts}
use Rattle.library_live.specs.contracts.talk.Talk.{the_row}

-- the heap: each of its handles gives the same right to free a block
abbrev pub heap : Global
heap = record { memory = record { seal = tt } }

-- nothing, or the session that lies there, and the right to free its memory
abbrev pub kept_owns : Ptr → Option the_row.Denot → Fml
kept_owns at None = ftrue
kept_owns at (Some talk) = box_owns (ghosts.dealloc_token heap) the_row at talk
