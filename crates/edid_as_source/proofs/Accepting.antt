-- What holds of bytes that a source takes.
use Rattle.std.proofs.Common.{◌≡◌, refl, ℕ, ◌+◌, ◌*◌, ◌≤◌, Bool, true, false, nat_lt, cond, arith, tests, List, length, Option, Some, None}
use Rattle.edid_base.specs.declared.base.BaseError.{BaseError}
use Rattle.edid_core.specs.declared.bytes.EdidError.{EdidError}
use Rattle.edid_core.specs.declared.bytes.EdidError.TheVariants.{Length, Count}
use Rattle.edid_as_source.specs.Count.{extension_count}
use Rattle.edid_as_source.specs.Source.{base_refusal, count_refusal, refusal, refusal_after}

no_cause : (e : EdidError) → Some e ≡ None → ⊥
no_cause e h = cc

counted_after : (bytes : List ℕ) (cause : Option BaseError) → refusal_after bytes cause ≡ None → count_refusal bytes ≡ None
counted_after bytes None h = h
counted_after bytes (Some cause) h = absurd (no_cause _ h)

long_by : (v : Bool) (later : Option EdidError) → cond v (Some Length) later ≡ None → later ≡ None
long_by true later h = absurd (no_cause Length h)
long_by false later h = h

fits_by : (v : Bool) (n m : ℕ) → nat_lt n m ≡ v → cond v (Some Count) None ≡ None → m ≤ n
fits_by true n m e h = absurd (no_cause Count h)
fits_by false n m e h = grind (arith, tests, e)

pub room_for : (bytes : List ℕ) → refusal bytes ≡ None → 128 * extension_count bytes + 128 ≤ length bytes
room_for bytes h =
    let later = long_by (nat_lt (length bytes) 128) (refusal_after bytes (base_refusal bytes)) h in
    fits_by _ (length bytes) (128 * extension_count bytes + 128) refl (counted_after bytes (base_refusal bytes) later)
