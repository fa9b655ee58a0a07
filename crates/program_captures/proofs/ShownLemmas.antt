-- What a function that may refuse gives where it does not.
use Rattle.std.proofs.Common.{ℕ, List, Bool, Option, Result, Ok, Err, OnOk}
use Rattle.std.specs.Io.KnownBytes.{Appends}
use Rattle.text_core.specs.declared.sink.WriteFault.{WriteFault}
use Rattle.capture_core.specs.Edges.{Captured}
use Rattle.capture_replay.specs.Replay.{IsReplayed, replay_text}
use Rattle.capture_replay.specs.declared.counts.ReplayCounts.{ReplayCounts}

pub on_ok : {A E : Type 0} (r : Result A E) (P Q : Type 0) → (P → Q) → OnOk r P → OnOk r Q
on_ok (Ok v) P Q f p = f p
on_ok (Err e) P Q f p = tt

-- a replay that is written whole
pub replayed : (address : ℕ) (c : Captured) (old new : Option (List ℕ)) (was is : Bool) (r : Result ReplayCounts WriteFault)
    → IsReplayed address c old new was is r → OnOk r (Appends old new (replay_text address c))
replayed address c old new was is (Ok counts) w = w.1
replayed address c old new was is (Err fault) w = tt
