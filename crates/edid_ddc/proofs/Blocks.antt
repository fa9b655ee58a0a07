-- Blocks read one by one.
use Rattle.std.proofs.Common.{◌≡◌, ℕ, ◌+◌, ◌-◌, ◌*◌, ◌/◌, ◌%◌, ◌<◌, ◌≤◌, true, false, Some, List, ◌++◌, ◌⊎◌, inl, inr, length, get_or, take, drop, replicate, ap, arith, refl, sym, ◌∙◌, length-append, length-drop, lit<, Result, Ok, Err, IsOk, OnOk}
use Rattle.std.proofs.Math.Seq.{take-add}
use Rattle.std.proofs.lemmas.Bool.{cases_lt}
use Rattle.std.proofs.lemmas.Grind.{same_number_lists}
use Rattle.std.proofs.lemmas.List.{get_or-replicate, get_or-drop, get_or-take, get_or-append_right, get_or_append_left, get_or_default, get_or_past, length-replicate, length-take-le}
use borrow.Author.Tests.{tests}
use Rattle.edid_ddc.specs.Bus.{has_segment, byte_at}
use Rattle.edid_ddc.specs.Learn.{bytes_with_padding, extension_count}

pub padded_len : (bytes : List ℕ) → length (bytes_with_padding bytes) ≡ length bytes + 512
padded_len bytes = omega (arith, length-append bytes (replicate 512 0xff), length-replicate {A = ℕ} 512 0xff)

-- a byte, or FF where it is missing
padded_at : (bytes : List ℕ) (i : ℕ) → i < length bytes + 512 → get_or (bytes_with_padding bytes) i 0 ≡ get_or bytes i 0xff
padded_at bytes i h = by (cases_lt i (length bytes))
  where
    by : (i < length bytes) ⊎ (length bytes ≤ i) → get_or (bytes_with_padding bytes) i 0 ≡ get_or bytes i 0xff
    by (inl k) = get_or_append_left bytes (replicate 512 0xff) 0 i k ∙ get_or_default bytes i 0 0xff k
    by (inr k) =
        let past : i - length bytes < 512 = omega arith in
        get_or-append_right bytes (replicate 512 0xff) (length bytes) i 0 refl k ∙ get_or-replicate 512 (i - length bytes) 0xff 0 past ∙ sym (get_or_past bytes i 0xff k)

acked : (bytes : List ℕ) (segment offset x : ℕ) → has_segment bytes segment ≡ true → byte_at bytes segment offset ≡ Some x → get_or bytes (256 * segment + offset) 0xff ≡ x
acked bytes segment offset x h e = let f : Some (get_or bytes (256 * segment + offset) 0xff) ≡ Some x = rw h at e in cc

-- what is read of a segment's half is a block
pub block_is : (bytes out : List ℕ) (block : ℕ) → block ≤ 3 → length out ≡ 128 → has_segment bytes (block / 2) ≡ true
    → ((k : ℕ) → k < length out → byte_at bytes (block / 2) ((block % 2 * 128 + k) % 256) ≡ Some (get_or out k 0)) → out ≡ take 128 (drop (128 * block) (bytes_with_padding bytes))
block_is bytes out block few len seg each =
    let size = padded_len bytes in
    let there : 128 ≤ length (drop (128 * block) (bytes_with_padding bytes)) = omega (arith, length-drop (128 * block) (bytes_with_padding bytes)) in
    let same_len : length out ≡ length (take 128 (drop (128 * block) (bytes_with_padding bytes))) = len ∙ sym (length-take-le 128 (drop (128 * block) (bytes_with_padding bytes)) there) in
    same_number_lists out (take 128 (drop (128 * block) (bytes_with_padding bytes))) same_len (λ k h.
    let within : k < 128 = omega arith in
    let offset : (block % 2 * 128 + k) % 256 ≡ block % 2 * 128 + k = omega arith in
    let place : 256 * (block / 2) + (block % 2 * 128 + k) % 256 ≡ 128 * block + k = omega arith in
    let fits : 128 * block + k < length bytes + 512 = omega arith in
    let read = acked bytes (block / 2) ((block % 2 * 128 + k) % 256) (get_or out k 0) seg (each k h) in
    sym read ∙ ap (λ i. get_or bytes i 0xff) place ∙ sym (padded_at bytes (128 * block + k) fits)
    ∙ sym (get_or-drop (128 * block) (bytes_with_padding bytes) k 0) ∙ sym (get_or-take 128 (drop (128 * block) (bytes_with_padding bytes)) k 0 within))

-- a segment after one that is not acknowledged is not acknowledged
pub after : (bytes : List ℕ) (m n : ℕ) → m ≤ n → has_segment bytes m ≡ false → has_segment bytes n ≡ false
after bytes m n le h = grind (arith, tests)

pub one_more : (xs : List ℕ) (block : ℕ) → take (128 * block) xs ++ take 128 (drop (128 * block) xs) ≡ take (128 * (block + 1)) xs
one_more xs block = let n : 128 * block + 128 ≡ 128 * (block + 1) = omega arith in sym (take-add (128 * block) 128 xs) ∙ ap (λ k. take k xs) n

pub read_len : (bytes : List ℕ) (n : ℕ) → n ≤ 4 → length (take (128 * n) (bytes_with_padding bytes)) ≡ 128 * n
read_len bytes n few = length-take-le (128 * n) (bytes_with_padding bytes) (omega (arith, padded_len bytes))

-- byte 126 of the first block
pub asked_is : (bytes first : List ℕ) → first ≡ take 128 (drop 0 (bytes_with_padding bytes)) → get_or first 126 0 ≡ extension_count bytes
asked_is bytes first e = ap (λ xs. get_or xs 126 0) e ∙ get_or-take 128 (bytes_with_padding bytes) 126 0 (lit< tt)

pub when_ok : {T E : Type 0} (P : Type 0) (r : Result T E) → IsOk r → OnOk r P → P
when_ok P (Ok x) h k = k
when_ok P (Err e) h k = cc

pub block_len : (bytes : List ℕ) (block : ℕ) → block ≤ 3 → length (take 128 (drop (128 * block) (bytes_with_padding bytes))) ≡ 128
block_len bytes block few =
    let size = padded_len bytes in
    let there : 128 ≤ length (drop (128 * block) (bytes_with_padding bytes)) = omega (arith, length-drop (128 * block) (bytes_with_padding bytes)) in
    length-take-le 128 (drop (128 * block) (bytes_with_padding bytes)) there
