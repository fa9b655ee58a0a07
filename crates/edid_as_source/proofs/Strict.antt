-- What a source takes is refused by the strict reader for no reason.
use Rattle.std.proofs.Common.{◌≡◌, refl, ◌∙◌, sym, ap, subst, ℕ, zero, suc, ◌+◌, ◌*◌, ◌/◌, ◌%◌, ◌<◌, ◌≤◌, Bool, true, cond, not, arith, List, ◌++◌, length, get_or, sum, take, Some, None, take_at, length-append, eq-eqb}
use Rattle.std.proofs.lemmas.List.{get_or_append_left}
use Rattle.edid_base.proofs.Accepted.{summed_is}
use Rattle.edid_base.specs.Header.{has_header}
use Rattle.edid_base.specs.Refusals.{refusal as base_cause}
use Rattle.edid_base.specs.declared.base.BaseError.{BaseError}
use Rattle.edid_base.specs.declared.base.BaseError.TheVariants.{Header, Checksum, Revision, Maker}
use Rattle.edid_core.proofs.Lengths.{length_is}
use Rattle.edid_core.specs.Bytes.{IsRefused, block_at, has_length}
use Rattle.edid_core.specs.declared.bytes.EdidError.{EdidError}
use Rattle.edid_core.specs.declared.bytes.EdidError.TheVariants.{Length, Count, Base, Ext}
use Rattle.edid_as_source.specs.Front.{mended_block}
use Rattle.edid_as_source.specs.Laws.{IsTakenStrictly}
use Rattle.edid_as_source.proofs.Fronts.{block_len, count_at, front_of, maker_lettered, revised}
use Rattle.edid_as_source.proofs.Made.{made}
use Rattle.edid_as_source.proofs.Taken.{AreKept, after, kept_len, kept_sums}

-- ---- the base block

none_by : (h s r l : Bool) → h ≡ true → s ≡ true → r ≡ true → l ≡ true
    → cond (not h) (Some Header) (cond (not s) (Some Checksum) (cond (not r) (Some Revision) (cond (not l) (Some Maker) None))) ≡ None
none_by h s r l a b c d = rw (a, b, c, d) refl

base_accepted : (b : List ℕ) (count : ℕ) → 128 ≤ length b → base_cause (mended_block b count) ≡ None
base_accepted b count h =
    none_by (has_header (mended_block b count)) _ _ _ refl (eq-eqb _ _ (summed_is (front_of b count))) (revised b count h)
    (maker_lettered (get_or b 8 0 / 4 % 32) (get_or b 8 0 % 4 * 8 + get_or b 9 0 / 32) (get_or b 9 0 % 32))

-- ---- all blocks

no_cause : (cause : BaseError) → None ≡ Some cause → ⊥
no_cause cause h = cc

strictly : (b blocks : List ℕ) (n : ℕ) → 128 ≤ length b → n ≤ 3 → AreKept n blocks → (cause : EdidError) → IsRefused (mended_block b n ++ blocks) cause → ⊥
strictly b blocks n h few kept = refused
  where
    size : length (mended_block b n) ≡ 128
    size = block_len b n h

    left : length blocks ≡ 128 * n
    left = kept_len n blocks kept

    all : length (mended_block b n ++ blocks) ≡ 128 + 128 * n
    all = omega (arith, length-append (mended_block b n) blocks, size, left)

    long : has_length (mended_block b n ++ blocks) ≡ true
    long = length_is (mended_block b n ++ blocks) n few all

    base : base_cause (take 128 (mended_block b n ++ blocks)) ≡ None
    base = ap base_cause (take_at (mended_block b n) blocks 128 size) ∙ base_accepted b n h

    counted : get_or (mended_block b n ++ blocks) 126 0 ≡ n
    counted = get_or_append_left (mended_block b n) blocks 0 126 (omega (arith, size)) ∙ count_at b n h

    summed : (k : ℕ) → 0 < k → 128 * k < length (mended_block b n ++ blocks) → sum (block_at (mended_block b n ++ blocks) k) % 256 ≡ 0
    summed zero some there = absurd (omega (arith, some))
    summed (suc k) some there =
        ap (λ t. sum (take 128 t) % 256) (after (mended_block b n) blocks k size) ∙ kept_sums n k blocks kept (omega (arith, there, all, left))

    refused : (cause : EdidError) → IsRefused (mended_block b n ++ blocks) cause → ⊥
    refused Length r = r long
    refused (Base cause) r = no_cause cause (sym base ∙ r.1)
    refused Count r = r.2 (omega (arith, counted, all))
    refused (Ext i cause) r = let first = r.3 in first.wrong (summed i first.least first.there)

pub taken_strictly : IsTakenStrictly
taken_strictly bytes mended h cause r =
    let m = made bytes mended h in
    strictly bytes _ m.count m.long m.few m.kept cause (subst (λ t. IsRefused t cause) m.is r)
