-- Bytes spell one list of data blocks at most, and a list begins as its bytes do.
use Rattle.std.proofs.Common.{◌≡◌, ℕ, ◌+◌, ◌*◌, ◌<◌, ◌==◌, cond, IsTrue, List, [], ◌∷◌, ◌++◌, length, drop, get_or, flat_map, ap, arith, refl, sym, ◌∙◌, append_assoc}
use mathlib.Core.HLevel.{Σ_prop_path}
use Rattle.std.proofs.Math.Bool.{Bool-set}
use Rattle.std.specs.Coded.{le_prop}
use Rattle.arrayvec.specs.ArrayVec.{ArrayVec}
use Rattle.edid_base.specs.Bytes.{are_bytes}
use Rattle.edid_cta.specs.Block.{kind_number, block_bytes}
use Rattle.edid_cta.specs.declared.block.DataBlock.{DataBlock}
use Rattle.edid_cta.specs.declared.block.BlockKind.{BlockKind}
use Rattle.edid_cta.specs.declared.block.BlockKind.TheVariants.{Tag0, Audio, Video, Vendor, Speakers, Tag5, Tag6, Extended}

pub append_same : {X : Type 0} (xs zs ys ws : List X) → length xs ≡ length zs → xs ++ ys ≡ zs ++ ws → (xs ≡ zs) × (ys ≡ ws)
append_same [] [] ys ws l e = (refl, e)
append_same [] (z ∷ zs) ys ws l e = absurd (omega arith)
append_same (x ∷ xs) [] ys ws l e = absurd (omega arith)
append_same (x ∷ xs) (z ∷ zs) ys ws l e =
    let rest = append_same xs zs ys ws (omega arith) (ap (λ t. drop 1 t) e) in
    let first = ap (λ t. get_or t 0 x) e in
    let others = rest.0 in (cc, rest.1)

-- values that are made of the same parts are one
pub same : {A B : Type 0} {P : A → Type 0} (made : (x : A) → P x → B) → ((x : A) → IsProp (P x)) → (x y : A) (h : P x) (k : P y) → x ≡ y → made x h ≡ made y k
same {A} {B} {P} made prop x y h k e = ap (λ (p : (x : A) × P x). made p.0 p.1) (Σ_prop_path prop {u = (x, h)} {v = (y, k)} e)

abbrev kind_at : ℕ → BlockKind
kind_at n =
    cond (n == 0) Tag0 (cond (n == 1) Audio (cond (n == 2) Video (cond (n == 3) Vendor (
    cond (n == 4) Speakers (cond (n == 5) Tag5 (cond (n == 6) Tag6 Extended))))))

kind_again : (k : BlockKind) → kind_at (kind_number k) ≡ k
kind_again Tag0 = refl
kind_again Audio = refl
kind_again Video = refl
kind_again Vendor = refl
kind_again Speakers = refl
kind_again Tag5 = refl
kind_again Tag6 = refl
kind_again Extended = refl

pub one_kind : (a b : BlockKind) → kind_number a ≡ kind_number b → a ≡ b
one_kind a b e = sym (kind_again a) ∙ ap kind_at e ∙ kind_again b

abbrev made : BlockKind × ArrayVec ℕ → Type 0
made p = (length p.1.items < 32) × IsTrue (are_bytes p.1.items)

abbrev built : (p : BlockKind × ArrayVec ℕ) → made p → DataBlock
built p h = record { kind = p.0; payload = p.1; short = h.0; bytes_fit = h.1 }

pub one_front : (a b : DataBlock) (xs ys : List ℕ) → block_bytes a ++ xs ≡ block_bytes b ++ ys → (a ≡ b) × (xs ≡ ys)
one_front a b xs ys e =
    let head : kind_number a.kind * 32 + length a.payload.items ≡ kind_number b.kind * 32 + length b.payload.items = ap (λ t. get_or t 0 0) e in
    let number : kind_number a.kind ≡ kind_number b.kind = omega (arith, a.short, b.short, head) in
    let len : length a.payload.items ≡ length b.payload.items = omega (arith, a.short, b.short, head) in
    let parts = append_same a.payload.items b.payload.items xs ys len (ap (λ t. drop 1 t) e) in
    let kind = one_kind a.kind b.kind number in
    let payload : a.payload ≡ b.payload = ap (λ t. record { items = t }) parts.0 in
    let pair : (a.kind, a.payload) ≡ (b.kind, b.payload) = cc in
    let prop : (p : BlockKind × ArrayVec ℕ) → IsProp (made p) = λ p. hlevel (le_prop, Bool-set) in
    (same built prop (a.kind, a.payload) (b.kind, b.payload) (a.short, a.bytes_fit) (b.short, b.bytes_fit) pair, parts.1)

pub one_blocks : (xs ys : List DataBlock) → flat_map block_bytes xs ≡ flat_map block_bytes ys → xs ≡ ys
one_blocks [] [] e = refl
one_blocks [] (y ∷ ys) e = absurd (omega (arith, ap length e))
one_blocks (x ∷ xs) [] e = absurd (omega (arith, ap length e))
one_blocks (x ∷ xs) (y ∷ ys) e =
    let parts = one_front x y (flat_map block_bytes xs) (flat_map block_bytes ys) e in
    let first = parts.0 in
    let others = one_blocks xs ys parts.1 in cc

-- no list of blocks spells blocks and then bytes that begin with none
pub none_after : (xs : List DataBlock) (rest : List ℕ) → 0 < length rest → ((b : DataBlock) (ys : List ℕ) → block_bytes b ++ ys ≡ rest → ⊥)
    → (bs : List DataBlock) → flat_map block_bytes bs ≡ flat_map block_bytes xs ++ rest → ⊥
none_after [] rest some none [] e = omega (arith, ap length e)
none_after [] rest some none (b ∷ bs) e = none b (flat_map block_bytes bs) e
none_after (x ∷ xs) rest some none [] e = omega (arith, ap length e)
none_after (x ∷ xs) rest some none (b ∷ bs) e =
    none_after xs rest some none bs (one_front b x (flat_map block_bytes bs) (flat_map block_bytes xs ++ rest) (e ∙ append_assoc (block_bytes x) (flat_map block_bytes xs) rest)).1

pub same_block : (a b : DataBlock) → a.kind ≡ b.kind → a.payload.items ≡ b.payload.items → a ≡ b
same_block a b kind items =
    let payload : a.payload ≡ b.payload = ap (λ t. record { items = t }) items in
    let pair : (a.kind, a.payload) ≡ (b.kind, b.payload) = cc in
    let prop : (p : BlockKind × ArrayVec ℕ) → IsProp (made p) = λ p. hlevel (le_prop, Bool-set) in
    same built prop (a.kind, a.payload) (b.kind, b.payload) (a.short, a.bytes_fit) (b.short, b.bytes_fit) pair
