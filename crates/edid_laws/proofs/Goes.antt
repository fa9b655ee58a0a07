-- Bytes of data blocks of one subject, at the front of others.
use Rattle.std.proofs.Common.{◌≡◌, ◌∙◌, refl, sym, ap, subst, ℕ, suc, ◌+◌, ◌*◌, ◌<◌, ◌==◌, Bool, true, false, cond, arith, tests, List, [], ◌∷◌, ◌++◌, length, get_or, drop, flat_map, append_assoc, Option, Some, None}
use Rattle.std.specs.List.{find}
use Rattle.edid_cta.specs.Block.{block_bytes, kind_number}
use Rattle.edid_cta.specs.declared.block.BlockKind.{BlockKind}
use Rattle.edid_cta.specs.declared.block.BlockKind.TheVariants.{Tag0, Audio, Video, Vendor, Speakers, Tag5, Tag6, Extended}
use Rattle.edid_cta.specs.declared.block.DataBlock.{DataBlock}
use Rattle.edid_merge.specs.Blocks.{blocks_of, both_of}
use Rattle.edid_merge.specs.Mixing.{mixed}
use Rattle.edid_merge.specs.Subjects.{is_of, subject_by, subject_number, subject_of}
use Rattle.edid_merge.specs.declared.mixing.Way.{Way}
use Rattle.edid_merge.specs.declared.subject.Subject.{Subject}

-- ---- the block that bytes begin with

pub append_same : (xs zs ys ws : List ℕ) → length xs ≡ length zs → xs ++ ys ≡ zs ++ ws → (xs ≡ zs) × (ys ≡ ws)
append_same [] [] ys ws l e = (refl, e)
append_same [] (z ∷ zs) ys ws l e = absurd (omega arith)
append_same (x ∷ xs) [] ys ws l e = absurd (omega arith)
append_same (x ∷ xs) (z ∷ zs) ys ws l e =
    let rest = append_same xs zs ys ws (omega arith) (ap (λ t. drop 1 t) e) in
    let first = ap (λ t. get_or t 0 x) e in
    let others = rest.0 in (cc, rest.1)

abbrev kind_at : ℕ → BlockKind
kind_at n =
    cond (n == 0) Tag0 (cond (n == 1) Audio (cond (n == 2) Video (cond (n == 3) Vendor (
    cond (n == 4) Speakers (cond (n == 5) Tag5 (cond (n == 6) Tag6 Extended))))))

kind_again : (k : BlockKind) → kind_at (kind_number k) ≡ k
kind_again Tag0 = refl
kind_again Audio = refl
kind_again Video = refl
kind_again Vendor = refl
kind_again Speakers = refl
kind_again Tag5 = refl
kind_again Tag6 = refl
kind_again Extended = refl

-- a block is of the kind and has the payload that its bytes say
block_there : (b : DataBlock) (k : BlockKind) (n : ℕ) (q rest tail : List ℕ) → length q ≡ n → n < 32 → block_bytes b ++ tail ≡ ((kind_number k * 32 + n) ∷ q) ++ rest
    → (b.kind ≡ k) × (b.payload.items ≡ q) × (tail ≡ rest)
block_there b k n q rest tail long short h =
    let head : kind_number b.kind * 32 + length b.payload.items ≡ kind_number k * 32 + n = ap (λ (t : List ℕ). get_or t 0 0) h in
    let number : kind_number b.kind ≡ kind_number k = omega (arith, b.short, short, head) in
    let len : length b.payload.items ≡ length q = omega (arith, b.short, short, head, long) in
    let parts = append_same b.payload.items q tail rest len (ap (λ (t : List ℕ). drop 1 t) h) in
    (sym (kind_again b.kind) ∙ ap kind_at number ∙ kind_again k, parts.0, parts.1)

-- its bytes, and what it is of
same_bytes : (b : DataBlock) (k : BlockKind) (q : List ℕ) → b.kind ≡ k → b.payload.items ≡ q → block_bytes b ≡ (kind_number k * 32 + length q) ∷ q
same_bytes b k q kind items =
    ap (λ (x : BlockKind). (kind_number x * 32 + length b.payload.items) ∷ b.payload.items) kind ∙ ap (λ (y : List ℕ). (kind_number k * 32 + length y) ∷ y) items

pub of_block : (s : Subject) (b : DataBlock) (k : BlockKind) (q : List ℕ) → b.kind ≡ k → b.payload.items ≡ q → (subject_number (subject_by k q) == subject_number s) ≡ true → is_of s b ≡ true
of_block s b k q kind items e =
    subst (λ (x : BlockKind). (subject_number (subject_by x b.payload.items) == subject_number s) ≡ true) (sym kind)
    (subst (λ (y : List ℕ). (subject_number (subject_by k y) == subject_number s) ≡ true) (sym items) e)

-- ---- blocks of one subject in front

-- what of them is of a subject
abbrev pub part_of : Subject → Subject → List ℕ → List ℕ
part_of u s bytes = cond (subject_number s == subject_number u) bytes []

abbrev pub Goes : Subject → List ℕ → Type 0
Goes s bytes = (rest : List ℕ) (blocks : List DataBlock) → flat_map block_bytes blocks ≡ bytes ++ rest
    → (after : List DataBlock) × (flat_map block_bytes after ≡ rest) × ((u : Subject) → blocks_of u blocks ≡ part_of u s bytes ++ blocks_of u after)

no_part : (v : Bool) (xs : List ℕ) → xs ≡ cond v [] [] ++ xs
no_part true xs = refl
no_part false xs = refl

pub nothing : (s : Subject) → Goes s []
nothing s rest blocks e = (blocks, e, λ u. no_part (subject_number s == subject_number u) (blocks_of u blocks))

-- the first block counts where it is of the subject
front : (u : Subject) (b : DataBlock) (bs : List DataBlock) (v : Bool) → is_of u b ≡ v → blocks_of u (b ∷ bs) ≡ cond v (block_bytes b) [] ++ blocks_of u bs
front u b bs true e = rw e refl
front u b bs false e = rw e refl

parts_join : (v : Bool) (first more after : List ℕ) → cond v first [] ++ (cond v more [] ++ after) ≡ cond v (first ++ more) [] ++ after
parts_join true first more after = sym (append_assoc first more after)
parts_join false first more after = refl

same_number : (s u : Subject) (b : DataBlock) → is_of s b ≡ true → is_of u b ≡ (subject_number s == subject_number u)
same_number s u b e = let n : subject_number (subject_of b) ≡ subject_number s = grind (arith, tests, e) in ap (λ (k : ℕ). k == subject_number u) n

first_then : (s : Subject) (b : DataBlock) (bs after : List DataBlock) (more : List ℕ) → is_of s b ≡ true → ((u : Subject) → blocks_of u bs ≡ part_of u s more ++ blocks_of u after)
    → (u : Subject) → blocks_of u (b ∷ bs) ≡ part_of u s (block_bytes b ++ more) ++ blocks_of u after
first_then s b bs after more e each u =
    front u b bs (subject_number s == subject_number u) (same_number s u b e)
    ∙ ap (λ (k : List ℕ). cond (subject_number s == subject_number u) (block_bytes b) [] ++ k) (each u)
    ∙ parts_join (subject_number s == subject_number u) (block_bytes b) more (blocks_of u after)

pub one_more : (s : Subject) (x : DataBlock) (more : List ℕ) → is_of s x ≡ true → Goes s more → Goes s (block_bytes x ++ more)
one_more s x more e goes rest [] h = absurd (omega (arith, ap length h))
one_more s x more e goes rest (b ∷ bs) h =
    let there = block_there b x.kind (length x.payload.items) x.payload.items (more ++ rest) (flat_map block_bytes bs) refl x.short (h ∙ append_assoc (block_bytes x) more rest) in
    let next = goes rest bs there.2 in
    let of : is_of s b ≡ true = of_block s b x.kind x.payload.items there.0 there.1 e in
    let same : block_bytes b ≡ block_bytes x = same_bytes b x.kind x.payload.items there.0 there.1 in
    (next.0, next.1, λ u. first_then s b bs next.0 more of next.2 u ∙ ap (λ (k : List ℕ). part_of u s (k ++ more) ++ blocks_of u next.0) same)

-- the blocks of a subject, as they are
pub kept : (s : Subject) (xs : List DataBlock) → Goes s (blocks_of s xs)
kept s [] = nothing s
kept s (x ∷ xs) = by (is_of s x) refl (kept s xs)
  where
    by : (v : Bool) → is_of s x ≡ v → Goes s (blocks_of s xs) → Goes s (blocks_of s (x ∷ xs))
    by true f goes = subst (λ (k : List ℕ). Goes s k) (sym (front s x xs true f)) (one_more s x (blocks_of s xs) f goes)
    by false f goes = subst (λ (k : List ℕ). Goes s k) (sym (front s x xs false f)) goes

pub mixed_length : (ways : List Way) (display own : List ℕ) → length (mixed ways display own) ≡ length display
mixed_length [] display own = refl
mixed_length (w ∷ ways) [] own = refl
mixed_length (w ∷ ways) (d ∷ display) own = ap suc (mixed_length ways display (drop 1 own))

-- one block of two, of the same subject
abbrev pub Keeps : Subject → List Way → DataBlock → DataBlock → Type 0
Keeps s ways d o = (b : DataBlock) → b.kind ≡ d.kind → b.payload.items ≡ mixed ways d.payload.items o.payload.items → is_of s b ≡ true

pub one_of_two : (s : Subject) (ways : List Way) (d o : DataBlock) → Keeps s ways d o → Goes s (both_of ways (Some d) (Some o))
one_of_two s ways d o keeps rest [] h = absurd (omega (arith, ap length h))
one_of_two s ways d o keeps rest (b ∷ bs) h =
    let long : length (mixed ways d.payload.items o.payload.items) ≡ length d.payload.items = mixed_length ways d.payload.items o.payload.items in
    let there = block_there b d.kind (length d.payload.items) (mixed ways d.payload.items o.payload.items) rest (flat_map block_bytes bs) long d.short h in
    let of : is_of s b ≡ true = keeps b there.0 there.1 in
    let same : block_bytes b ≡ (kind_number d.kind * 32 + length d.payload.items) ∷ mixed ways d.payload.items o.payload.items =
    same_bytes b d.kind (mixed ways d.payload.items o.payload.items) there.0 there.1
    ∙ ap (λ (n : ℕ). (kind_number d.kind * 32 + n) ∷ mixed ways d.payload.items o.payload.items) long in
    (bs, there.2, λ u. front u b bs (subject_number s == subject_number u) (same_number s u b of) ∙ ap (λ (t : List ℕ). part_of u s t ++ blocks_of u bs) same)

found : (p : DataBlock → Bool) (xs : List DataBlock) (x : DataBlock) → find p xs ≡ Some x → p x ≡ true
found p [] x e = cc
found p (y ∷ ys) x e = by (p y) refl e (found p ys x)
  where
    by : (v : Bool) → p y ≡ v → cond v (Some y) (find p ys) ≡ Some x → (find p ys ≡ Some x → p x ≡ true) → p x ≡ true
    by true f h later = let same : y ≡ x = cc in ap p (sym same) ∙ f
    by false f h later = later h

-- of the first blocks of a subject
pub first_two : (s : Subject) (ways : List Way) (display own : List DataBlock) → ((d o : DataBlock) → is_of s d ≡ true → Keeps s ways d o)
    → Goes s (both_of ways (find (is_of s) display) (find (is_of s) own))
first_two s ways display own keeps = by (find (is_of s) display) refl (find (is_of s) own)
  where
    by : (d : Option DataBlock) → find (is_of s) display ≡ d → (o : Option DataBlock) → Goes s (both_of ways d o)
    by (Some d) e (Some o) = one_of_two s ways d o (keeps d o (found (is_of s) display d e))
    by (Some d) e None = nothing s
    by None e (Some o) = nothing s
    by None e None = nothing s
