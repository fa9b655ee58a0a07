-- Lines of data blocks, timings and tails.
use Rattle.std.proofs.Common.{◌≡◌, ℕ, suc, ◌+◌, ◌≤◌, ◌⊎◌, inl, inr, Bool, true, false, nat_le, cond, List, length, ap, arith, refl, sym, ◌∙◌, length-drop}
use Rattle.std.proofs.lemmas.Bool.{and_parts, leb-true}
use Rattle.edid_base.specs.declared.timing.Timing.{Timing as DetailedTiming}
use Rattle.edid_cta.specs.Block.{block_bytes}
use Rattle.edid_cta.specs.declared.block.DataBlock.{DataBlock}
use Rattle.edid_cta.specs.declared.block.BlockKind.{BlockKind}
use Rattle.edid_cta.specs.declared.block.BlockKind.TheVariants.{Vendor}
use Rattle.edid_texts.specs.Lines.{address_line, bytes_line, payload_line, block_line, timing_line, tail_line}
use Rattle.edid_cta.specs.Hdmi.{has_identifier}
use Rattle.edid_text_lines.specs.declared.line.Fields.{Fields}
use Rattle.edid_text_lines.specs.declared.line.Fields.TheVariants.{Bytes, Address}
use Rattle.edid_text_lines.specs.declared.line.Line.{Line}
use Rattle.edid_text_lines.specs.declared.line.Keyword.{Keyword}
use Rattle.edid_text_lines.specs.declared.line.Keyword.TheVariants.{Block, Hdmi, Tail, Timing}

-- 0 for the words of data blocks
abbrev pub sort_of : Keyword → ℕ
sort_of (Block kind) = 0
sort_of Hdmi = 0
sort_of Timing = 1
sort_of Tail = 2
sort_of word = 3

-- how many bytes a data block's line stands for
abbrev pub size_of : Fields → ℕ
size_of (Bytes bytes) = suc (length bytes.items)
size_of (Address p bytes) = 6 + length bytes.items
size_of fields = 0

pub block_sort : (b : DataBlock) → sort_of (block_line b).word ≡ 0
block_sort b = at b.kind b.payload.items
  where
    vendor : (v : Bool) (p : List ℕ) → sort_of (cond v (address_line p) (bytes_line (Block Vendor) p)).word ≡ 0
    vendor true p = refl
    vendor false p = refl

    at : (k : BlockKind) (p : List ℕ) → sort_of (payload_line k p).word ≡ 0
    at Vendor p = vendor (has_identifier p) p
    at kind p = refl

pub long_hdmi : (p : List ℕ) → has_identifier p ≡ true → 5 ≤ length p
long_hdmi p h = leb-true _ _ (and_parts (nat_le 5 (length p)) _ (and_parts _ _ (and_parts _ _ h).0).0).0

pub block_size : (b : DataBlock) → size_of (block_line b).fields ≡ length (block_bytes b)
block_size b = at b.kind b.payload.items
  where
    vendor : (v : Bool) (p : List ℕ) → has_identifier p ≡ v → size_of (cond v (address_line p) (bytes_line (Block Vendor) p)).fields ≡ suc (length p)
    vendor true p h = let long = long_hdmi p h in omega (arith, long, length-drop 5 p)
    vendor false p h = refl

    at : (k : BlockKind) (p : List ℕ) → size_of (payload_line k p).fields ≡ suc (length p)
    at Vendor p = vendor (has_identifier p) p refl
    at kind p = refl

pub same_size : (a b : DataBlock) → block_line a ≡ block_line b → length (block_bytes a) ≡ length (block_bytes b)
same_size a b e = sym (block_size a) ∙ ap (λ l. size_of l.fields) e ∙ block_size b

pub not_timing : (b : DataBlock) (t : DetailedTiming) → block_line b ≡ timing_line t → ⊥
not_timing b t e = let same = sym (block_sort b) ∙ ap (λ l. sort_of l.word) e in omega (arith, same)

pub not_tail : (b : DataBlock) (bytes : List ℕ) → block_line b ≡ tail_line bytes → ⊥
not_tail b bytes e = let same = sym (block_sort b) ∙ ap (λ l. sort_of l.word) e in omega (arith, same)

pub timing_not_tail : (t : DetailedTiming) (bytes : List ℕ) → timing_line t ≡ tail_line bytes → ⊥
timing_not_tail t bytes e = let same : 1 ≡ 2 = ap (λ l. sort_of l.word) e in omega (arith, same)

-- a data block's line has an address or its payload
pub block_cases : (b : DataBlock) (l : Line) → block_line b ≡ l → (address_line b.payload.items ≡ l) ⊎ (bytes_line (Block b.kind) b.payload.items ≡ l)
block_cases b l = at b.kind b.payload.items
  where
    vendor : (v : Bool) (p : List ℕ) → cond v (address_line p) (bytes_line (Block Vendor) p) ≡ l → (address_line p ≡ l) ⊎ (bytes_line (Block Vendor) p ≡ l)
    vendor true p e = inl e
    vendor false p e = inr e

    at : (k : BlockKind) (p : List ℕ) → payload_line k p ≡ l → (address_line p ≡ l) ⊎ (bytes_line (Block k) p ≡ l)
    at Vendor p e = vendor (has_identifier p) p e
    at kind p e = inr e

pub no_payload : (b : DataBlock) (l : Line) → ((p : List ℕ) → address_line p ≡ l → ⊥) → ((bs : List ℕ) → bytes_line l.word bs ≡ l → ⊥) → block_line b ≡ l → ⊥
no_payload b l h k e = elim (block_cases b l e) [
  | inl a ↦ h b.payload.items a
  | inr f ↦ k b.payload.items (ap (λ w. bytes_line w b.payload.items) (sym (ap (λ x. x.word) f)) ∙ f)
]
