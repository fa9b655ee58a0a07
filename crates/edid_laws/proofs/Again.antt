-- A block of two that are the same is that block.
use Rattle.std.proofs.Common.{◌≡◌, ◌∙◌, refl, sym, ap, ap₂, ℕ, ◌+◌, ◌*◌, ◌/◌, ◌%◌, ◌≤◌, ◌==◌, Bool, true, false, cond, arith, tests, min, List, [], ◌∷◌, ◌++◌, length, flat_map, filter, Some}
use Rattle.std.proofs.lemmas.List.{append-nil}
use Rattle.std.specs.Int.Bits.{and_self, bit_and}
use Rattle.std.specs.List.{find}
use Rattle.edid_cta.specs.Block.{block_bytes, kind_number}
use Rattle.edid_cta.specs.declared.block.DataBlock.{DataBlock}
use Rattle.edid_merge.specs.Blocks.{blocks_of, both_of, by_bits, by_numbers, by_whose}
use Rattle.edid_merge.specs.Mixing.{mixed, mixed_byte}
use Rattle.edid_merge.specs.Subjects.{is_of}
use Rattle.edid_merge.specs.declared.mixing.Way.{Way}
use Rattle.edid_merge.specs.declared.mixing.Way.TheVariants.{Display, Receiver, Both, Lesser, Passed, Flags, Rates}
use Rattle.edid_merge.specs.declared.subject.Subject.{Subject}
use Rattle.edid_merge.specs.declared.table.Bits.{Bits}
use Rattle.edid_merge.specs.declared.table.Bits.TheVariants as bits
use Rattle.edid_merge.specs.declared.table.Numbers.{Numbers}
use Rattle.edid_merge.specs.declared.table.Numbers.TheVariants as numbers
use Rattle.edid_merge.specs.declared.table.Whose.{Whose}
use Rattle.edid_merge.specs.declared.table.Whose.TheVariants as whose
use Rattle.edid_laws.specs.Itself.{joins_bits, joins_numbers}

least_again : (x : ℕ) → min x x ≡ x
least_again x = omega arith

passed_again : (x : ℕ) → cond (x == 0) 0 x ≡ x
passed_again x = by (x == 0) refl
  where
    by : (v : Bool) → (x == 0) ≡ v → cond v 0 x ≡ x
    by true e = let nil : x ≡ 0 = grind (arith, tests, e) in sym nil
    by false e = refl

byte_again : (way : Way) (x : ℕ) → mixed_byte way x x ≡ x
byte_again Display x = refl
byte_again Receiver x = refl
byte_again Both x = and_self x
byte_again Lesser x = least_again x
byte_again Passed x = passed_again x
byte_again Flags x = let low : bit_and (x % 128) (x % 128) ≡ x % 128 = and_self (x % 128) in omega (arith, low)
byte_again Rates x =
    let low : bit_and (x % 16) (x % 16) ≡ x % 16 = and_self (x % 16) in
    let high : min (x / 16) (x / 16) ≡ x / 16 = least_again (x / 16) in
    ap₂ (λ (a b : ℕ). a * 16 + b) high low ∙ omega arith

mixed_again : (ways : List Way) (p : List ℕ) → mixed ways p p ≡ p
mixed_again [] p = refl
mixed_again (w ∷ ways) [] = refl
mixed_again (w ∷ ways) (x ∷ p) = ap₂ (λ (a : ℕ) (b : List ℕ). a ∷ b) (byte_again w x) (mixed_again ways p)

no_more : (xs : List DataBlock) → length xs ≤ 0 → xs ≡ []
no_more [] h = refl
no_more (x ∷ xs) h = absurd (omega (arith, h))

one_again : (ways : List Way) (s : Subject) (bs : List DataBlock) → length (filter (is_of s) bs) ≤ 1 → both_of ways (find (is_of s) bs) (find (is_of s) bs) ≡ blocks_of s bs
one_again ways s [] h = refl
one_again ways s (b ∷ bs) h = by (is_of s b) h (one_again ways s bs)
  where
    by : (v : Bool) → length (cond v (b ∷ filter (is_of s) bs) (filter (is_of s) bs)) ≤ 1
        → (length (filter (is_of s) bs) ≤ 1 → both_of ways (find (is_of s) bs) (find (is_of s) bs) ≡ blocks_of s bs)
        → both_of ways (cond v (Some b) (find (is_of s) bs)) (cond v (Some b) (find (is_of s) bs)) ≡ flat_map block_bytes (cond v (b ∷ filter (is_of s) bs) (filter (is_of s) bs))
    by true h ih =
        let none : filter (is_of s) bs ≡ [] = no_more (filter (is_of s) bs) (omega (arith, h)) in
        ap (λ (k : List ℕ). (kind_number b.kind * 32 + length b.payload.items) ∷ k) (mixed_again ways b.payload.items)
        ∙ sym (append-nil (block_bytes b)) ∙ ap (λ (k : List DataBlock). block_bytes b ++ flat_map block_bytes k) (sym none)
    by false h ih = ih h

pub whose_again : (row : Whose) (s : Subject) (bs : List DataBlock) → by_whose row s bs bs ≡ blocks_of s bs
whose_again whose.Keep s bs = refl
whose_again whose.Own s bs = refl

pub bits_again : (row : Bits) (ways : List Way) (s : Subject) (bs : List DataBlock) → (joins_bits row ≡ true → length (filter (is_of s) bs) ≤ 1) → by_bits row ways s bs bs ≡ blocks_of s bs
bits_again bits.Keep ways s bs h = refl
bits_again bits.Own ways s bs h = refl
bits_again bits.And ways s bs h = one_again ways s bs (h refl)

pub numbers_again : (row : Numbers) (ways : List Way) (s : Subject) (bs : List DataBlock) → (joins_numbers row ≡ true → length (filter (is_of s) bs) ≤ 1)
    → by_numbers row ways s bs bs ≡ blocks_of s bs
numbers_again numbers.Keep ways s bs h = refl
numbers_again numbers.Own ways s bs h = refl
numbers_again numbers.Least ways s bs h = one_again ways s bs (h refl)
