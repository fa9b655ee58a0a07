-- Extensions read one by one.
use Rattle.std.proofs.Common.{◌≡◌, ℕ, ◌+◌, ◌-◌, ◌*◌, ◌%◌, ◌<◌, ◌≤◌, ◌⊎◌, inl, inr, List, [], ◌∷◌, ◌++◌, length, take, drop, sum, flat_map, get_or, None, ap, arith, sym, ◌∙◌, drop-drop, append-nil, append_assoc, take-append-drop, length-append, length-drop}
use Rattle.std.proofs.Math.Seq.{take-add}
use Rattle.std.proofs.lemmas.Bool.{cases_lt}
use Rattle.std.proofs.lemmas.Grind.{flat_map-append}
use Rattle.std.proofs.lemmas.List.{take_all, take_more, length-take-le}
use Rattle.edid_cta.specs.Ext.{ext_bytes}
use Rattle.edid_cta.specs.declared.raw.Ext.{Ext}
use Rattle.edid_base.specs.Base.{base_bytes}
use Rattle.edid_base.specs.Refusals.{refusal}
use Rattle.edid_core.specs.Bytes.{HasLength, HasCount, IsRefused, IsUnsummed, block_at}
use Rattle.edid_core.specs.declared.bytes.EdidError.{EdidError}
use Rattle.edid_core.specs.declared.bytes.EdidError.TheVariants.{Length, Count, Base as OfBase, Ext as OfExt}
use Rattle.edid_core.specs.declared.edid.Edid.{Edid}
use Rattle.edid_core.proofs.BaseLemmas.{base_len}
use Rattle.edid_core.proofs.OneEdid.{ext_sum, exts_len}

-- one block more
pub one_more : (bytes : List ℕ) (xs : List Ext) (x : Ext) (n : ℕ) → 1 ≤ n → flat_map ext_bytes xs ≡ take (128 * (n - 1)) (drop 128 bytes) → ext_bytes x ≡ block_at bytes n
    → flat_map ext_bytes (xs ++ x ∷ []) ≡ take (128 * n) (drop 128 bytes)
one_more bytes xs x n least e f =
    let at : 128 * n ≡ 128 * (n - 1) + 128 = omega (arith, least) in
    let place : 128 + 128 * (n - 1) ≡ 128 * n = omega (arith, least) in
    let there : drop (128 * (n - 1)) (drop 128 bytes) ≡ drop (128 * n) bytes = drop-drop (128 * (n - 1)) 128 bytes ∙ ap (λ k. drop k bytes) place in
    flat_map-append ext_bytes xs (x ∷ []) ∙ ap (λ t. t ++ (ext_bytes x ++ [])) e ∙ ap (λ t. take (128 * (n - 1)) (drop 128 bytes) ++ t) (append-nil (ext_bytes x) ∙ f)
    ∙ ap (λ t. take (128 * (n - 1)) (drop 128 bytes) ++ take 128 t) (sym there)
    ∙ sym (take-add (128 * (n - 1)) 128 (drop 128 bytes)) ∙ ap (λ k. take k (drop 128 bytes)) (sym at)

-- one sum more
pub sums_so : (bytes : List ℕ) (x : Ext) (n : ℕ) → ((k : ℕ) → 0 < k → k < n → sum (block_at bytes k) % 256 ≡ 0) → ext_bytes x ≡ block_at bytes n
    → (k : ℕ) → 0 < k → k < n + 1 → sum (block_at bytes k) % 256 ≡ 0
sums_so bytes x n before e k some most = by (cases_lt k n)
  where
    by : (k < n) ⊎ (n ≤ k) → sum (block_at bytes k) % 256 ≡ 0
    by (inl h) = before k some h
    by (inr h) =
        let same : k ≡ n = omega (arith, h, most) in
        ap (λ i. sum (block_at bytes i) % 256) same ∙ ap (λ t. sum t % 256) (sym e) ∙ ext_sum x

-- all blocks
pub all_read : (bytes : List ℕ) (n : ℕ) → length bytes ≤ 128 * n → 1 ≤ n → take (128 * (n - 1)) (drop 128 bytes) ≡ drop 128 bytes
all_read bytes n most least = take_all (128 * (n - 1)) (drop 128 bytes) (omega (arith, length-drop 128 bytes, most, least))

pub whole_bytes : (base bytes rest : List ℕ) → base ≡ take 128 bytes → rest ≡ drop 128 bytes → base ++ rest ≡ bytes
whole_bytes base bytes rest e f = ap (λ t. t ++ rest) e ∙ ap (λ t. take 128 bytes ++ t) f ∙ take-append-drop 128 bytes

-- extensions that can't be read
pub refused_so : (bytes : List ℕ) (e : EdidError) → HasLength bytes → refusal (take 128 bytes) ≡ None → HasCount bytes → IsUnsummed bytes e → IsRefused bytes e
refused_so bytes (OfExt i cause) len front count h = (len, front, count, h)
refused_so bytes Length len front count h = absurd h
refused_so bytes Count len front count h = absurd h
refused_so bytes (OfBase cause) len front count h = absurd h

-- an extension written
pub room : (e : Edid) (i : ℕ) (bytes : List ℕ) → bytes ≡ base_bytes e.base ++ flat_map ext_bytes (take i e.extensions.items) → i < length e.extensions.items → length bytes + 128 ≤ 512
room e i bytes h k =
    let xs = e.extensions.items in
    let few = e.few in
    let size = ap length h in
    let short = length-take-le i xs (omega (arith, k)) in
    omega (arith, size, length-append (base_bytes e.base) (flat_map ext_bytes (take i xs)), base_len e.base, exts_len (take i xs), short, few, k)

pub written_more : (base : List ℕ) (xs : List Ext) (i : ℕ) (x : Ext) (old new block : List ℕ) → new ≡ old ++ block → old ≡ base ++ flat_map ext_bytes (take i xs) → block ≡ ext_bytes x
    → i < length xs → x ≡ get_or xs i x → new ≡ base ++ flat_map ext_bytes (take (i + 1) xs)
written_more base xs i x old new block is so_far spelled there item =
    let all : flat_map ext_bytes (take (i + 1) xs) ≡ flat_map ext_bytes (take i xs) ++ ext_bytes x =
    ap (flat_map ext_bytes) (take_more xs i x there) ∙ flat_map-append ext_bytes (take i xs) (get_or xs i x ∷ [])
    ∙ ap (λ t. flat_map ext_bytes (take i xs) ++ t) (append-nil (ext_bytes (get_or xs i x)) ∙ ap ext_bytes (sym item)) in
    is ∙ ap (λ t. t ++ block) so_far ∙ ap (λ t. (base ++ flat_map ext_bytes (take i xs)) ++ t) spelled
    ∙ append_assoc base (flat_map ext_bytes (take i xs)) (ext_bytes x) ∙ ap (λ t. base ++ t) (sym all)
