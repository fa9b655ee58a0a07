-- Rows and blocks, one after another.
use Rattle.std.proofs.Common.{◌≡◌, refl, sym, ◌∙◌, ap, ℕ, zero, suc, ◌+◌, ◌-◌, ◌<◌, List, ◌++◌, take, drop, arith, append_assoc, append-nil}
use Rattle.conversion_calls.specs.Programs.{c_row, c_rows, xml_block, xml_blocks}

rows_of : (count : ℕ) (bytes : List ℕ) → 0 < count → c_rows count bytes ≡ c_row (take 16 bytes) ++ c_rows (count - 1) (drop 16 bytes)
rows_of zero bytes h = absurd (omega (arith, h))
rows_of (suc count) bytes h = let less : suc count - 1 ≡ count = omega arith in rw less refl

pub c_more : (old mid new : List ℕ) (count : ℕ) (bytes : List ℕ) → 0 < count → mid ≡ old ++ c_row (take 16 bytes) → new ≡ mid ++ c_rows (count - 1) (drop 16 bytes)
    → new ≡ old ++ c_rows count bytes
c_more old mid new count bytes h first later =
    later ∙ ap (λ t. t ++ c_rows (count - 1) (drop 16 bytes)) first ∙ append_assoc old (c_row (take 16 bytes)) (c_rows (count - 1) (drop 16 bytes))
    ∙ ap (λ t. old ++ t) (sym (rows_of count bytes h))

pub c_none : (old : List ℕ) (count : ℕ) (bytes : List ℕ) → count ≡ 0 → old ≡ old ++ c_rows count bytes
c_none old count bytes h = sym (append-nil old) ∙ ap (λ n. old ++ c_rows n bytes) (sym h)

blocks_of : (count number : ℕ) (bytes : List ℕ) → 0 < count → xml_blocks count number bytes ≡ xml_block number (take 128 bytes) ++ xml_blocks (count - 1) (number + 1) (drop 128 bytes)
blocks_of zero number bytes h = absurd (omega (arith, h))
blocks_of (suc count) number bytes h = let less : suc count - 1 ≡ count = omega arith in rw less refl

pub xml_more : (old mid new : List ℕ) (count number : ℕ) (bytes : List ℕ) → 0 < count → mid ≡ old ++ xml_block number (take 128 bytes)
    → new ≡ mid ++ xml_blocks (count - 1) (number + 1) (drop 128 bytes) → new ≡ old ++ xml_blocks count number bytes
xml_more old mid new count number bytes h first later =
    later ∙ ap (λ t. t ++ xml_blocks (count - 1) (number + 1) (drop 128 bytes)) first
    ∙ append_assoc old (xml_block number (take 128 bytes)) (xml_blocks (count - 1) (number + 1) (drop 128 bytes)) ∙ ap (λ t. old ++ t) (sym (blocks_of count number bytes h))

pub xml_none : (old : List ℕ) (count number : ℕ) (bytes : List ℕ) → count ≡ 0 → old ≡ old ++ xml_blocks count number bytes
xml_none old count number bytes h = sym (append-nil old) ∙ ap (λ n. old ++ xml_blocks n number bytes) (sym h)

-- a text in four parts, after what stands there
pub four_parts : (old a b c d first second third new : List ℕ) → first ≡ old ++ a → second ≡ first ++ b → third ≡ second ++ c → new ≡ third ++ d
    → new ≡ old ++ (a ++ (b ++ (c ++ d)))
four_parts old a b c d first second third new e f g h =
    h ∙ ap (λ t. t ++ d) (g ∙ ap (λ t. t ++ c) (f ∙ ap (λ t. t ++ b) e)) ∙ append_assoc (old ++ a ++ b) c d ∙ append_assoc (old ++ a) b (c ++ d) ∙ append_assoc old a (b ++ (c ++ d))

pub some_left : (n : ℕ) → (n ≡ 0 → ⊥) → 0 < n
some_left zero h = absurd (h refl)
some_left (suc n) h = omega arith
