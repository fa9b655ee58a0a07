-- The records of short audio descriptors, one after another.
use Rattle.std.proofs.Common.{ℕ, ◌≤◌, List, [], ◌∷◌, length, drop, get_or, arith}
use Rattle.text_core.specs.Adds.{Adds, Tally}
use Rattle.text_core.proofs.Adding.{then}
use Rattle.meaning_eld.specs.Records.{audio_record, audio_records}
use Rattle.record_core.specs.declared.cell.Form.{Form}

pub audio_added : (form : Form) (xs : List ℕ) (a b c : Tally) → 3 ≤ length xs → Adds a b (audio_record form (get_or xs 0 0) (get_or xs 1 0) (get_or xs 2 0))
    → Adds b c (audio_records form (drop 3 xs)) → Adds a c (audio_records form xs)
unfolding audio_records
audio_added form [] a b c h one more = absurd (omega (arith, h))
audio_added form (x ∷ []) a b c h one more = absurd (omega (arith, h))
audio_added form (x ∷ y ∷ []) a b c h one more = absurd (omega (arith, h))
audio_added form (x ∷ y ∷ z ∷ xs) a b c h one more = then a b c (audio_record form x y z) (audio_records form xs) one more
