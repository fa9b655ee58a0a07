-- What the reader gives are the pieces, and the only ones.
use Rattle.std.proofs.Common.{◌≡◌, ℕ, Bool, true, false, if◌then◌else◌, List, [], ◌∷◌, ◌++◌, Option, Some, None, refl, sym, ◌∙◌, ap, subst, append_assoc}
use Rattle.std.specs.List.{flat_map}
use Rattle.audit_pieces.specs.declared.stretch.LowStretch.{LowStretch}
use Rattle.audit_pieces.specs.declared.piece.Place.{Place}
use Rattle.audit_pieces.specs.declared.piece.Place.TheVariants.{InSlot, Late, Breaks, Trails, Outside}
use Rattle.audit_pieces.specs.declared.piece.After.TheVariants.{Fall}
use Rattle.audit_pieces.specs.Stretches.{stretches_of}
use Rattle.audit_pieces.specs.Pieces.{Parts, Whole, alone, ended, is_outside, place_of, placed, with_stretch}
use Rattle.audit_pieces.specs.Wide.{AreOf, EndsBefore, ArePieces, pieces_of, pieces_on, after_of, AreEachOwn, ReadersGivePieces, OneWide, PiecesAreAll}

-- ---- a piece keeps what it begins with

head-placed : (place : Place) (x : LowStretch) (p : Parts) → (placed place x p).head ≡ p.head
head-placed InSlot x p = refl
head-placed Late x p = refl
head-placed Breaks x p = refl
head-placed Trails x p = refl
head-placed Outside x p = refl

head-with : (x : LowStretch) (p : Parts) → (with_stretch x p).head ≡ p.head
head-with x p = head-placed (place_of p x) x p

-- one more stretch
are_of-more : (p q : Parts) (own : List LowStretch) (x : LowStretch) → AreOf p own q → is_outside (place_of q x) ≡ false → AreOf p (own ++ x ∷ []) (with_stretch x q)
are_of-more p q [] x same inside =
    (subst (λ (r : Parts). is_outside (place_of r x) ≡ false) (sym same) inside, ap (λ (r : Parts). with_stretch x r) same)
are_of-more p q (y ∷ own) x (here, more) inside = (here, are_of-more (with_stretch y p) q own x more inside)

-- ---- what a reader gives

abbrev Gives : ℕ → Option ℕ → Parts → List LowStretch → List LowStretch → List Whole → Type 0
Gives end begin p past xs ps = ArePieces end begin ((p.head ∷ past) ++ xs) ps

gives : (end : ℕ) (begin : Option ℕ) (p : Parts) (past xs : List LowStretch) → AreOf (alone p.head) past p → Gives end begin p past xs (pieces_on end begin p xs)
gives end begin p past [] own = (past, [], refl, own, tt, refl, refl)
gives end begin p past (x ∷ xs) own =
    by (is_outside (place_of p x)) refl (gives end None (alone x) [] xs refl) (λ here. gives end begin (with_stretch x p) (past ++ x ∷ []) xs here)
  where
    by : (b : Bool) → is_outside (place_of p x) ≡ b → Gives end None (alone x) [] xs (pieces_on end None (alone x) xs)
        → (AreOf (alone (with_stretch x p).head) (past ++ x ∷ []) (with_stretch x p)
        → Gives end begin (with_stretch x p) (past ++ x ∷ []) xs (pieces_on end begin (with_stretch x p) xs))
        → Gives end begin p past (x ∷ xs) (if b then ended begin p (Fall x) ∷ pieces_on end None (alone x) xs else pieces_on end begin (with_stretch x p) xs)
    by true out next more = (past, x ∷ xs, refl, own, out, refl, next)
    by false inside next more =
        let head : (with_stretch x p).head ≡ p.head = head-with x p in
        let with_it : AreOf (alone p.head) (past ++ x ∷ []) (with_stretch x p) = are_of-more (alone p.head) p past x own inside in
        let here : AreOf (alone (with_stretch x p).head) (past ++ x ∷ []) (with_stretch x p) =
        subst (λ (h : LowStretch). AreOf (alone h) (past ++ x ∷ []) (with_stretch x p)) (sym head) with_it in
        let all : ((with_stretch x p).head ∷ (past ++ x ∷ [])) ++ xs ≡ (p.head ∷ past) ++ (x ∷ xs) =
        ap (λ (h : LowStretch). (h ∷ (past ++ x ∷ [])) ++ xs) head ∙ ap (λ (l : List LowStretch). p.head ∷ l) (append_assoc past (x ∷ []) xs) in
        subst (λ (l : List LowStretch). ArePieces end begin l (pieces_on end begin (with_stretch x p) xs)) all (more here)

gives_all : (end : ℕ) (begin : Option ℕ) (xs : List LowStretch) → ArePieces end begin xs (pieces_of end begin xs)
gives_all end begin [] = refl
gives_all end begin (x ∷ xs) = gives end begin (alone x) [] xs refl

pub readers_give_pieces : ReadersGivePieces
readers_give_pieces begin end lows = gives_all end (Some begin) (stretches_of end lows)

-- ---- the only ones

never : true ≡ false → ⊥
never e = cc

if-false : {A : Type 0} (b : Bool) (x y : A) → b ≡ false → (if b then x else y) ≡ y
if-false true x y e = absurd (never e)
if-false false x y e = refl

if-true : {A : Type 0} (b : Bool) (x y : A) → b ≡ true → (if b then x else y) ≡ x
if-true true x y e = refl
if-true false x y e = absurd (never (sym e))

pub along : (end : ℕ) (begin : Option ℕ) (p q : Parts) (own rest : List LowStretch) → AreOf p own q → pieces_on end begin p (own ++ rest) ≡ pieces_on end begin q rest
along end begin p q [] rest same = ap (λ (r : Parts). pieces_on end begin r rest) same
along end begin p q (x ∷ own) rest (inside, more) =
    if-false (is_outside (place_of p x)) (ended begin p (Fall x) ∷ pieces_on end None (alone x) (own ++ rest)) (pieces_on end begin (with_stretch x p) (own ++ rest)) inside
    ∙ along end begin (with_stretch x p) q own rest more

pub ends : (end : ℕ) (begin : Option ℕ) (q : Parts) (rest : List LowStretch) → EndsBefore q rest
    → pieces_on end begin q rest ≡ ended begin q (after_of end rest) ∷ pieces_of end None rest
ends end begin q [] out = refl
ends end begin q (x ∷ rest) out =
    if-true (is_outside (place_of q x)) (ended begin q (Fall x) ∷ pieces_on end None (alone x) rest) (pieces_on end begin (with_stretch x q) rest) out

one : (end : ℕ) (begin : Option ℕ) (xs : List LowStretch) (ps : List Whole) → ArePieces end begin xs ps → ps ≡ pieces_of end begin xs
one end begin xs [] none = ap (λ (l : List LowStretch). pieces_of end begin l) (sym none)
one end begin xs (p ∷ ps) (own, rest, all, are, out, same, more) =
    ap (λ (w : Whole). w ∷ ps) same
    ∙ ap (λ (l : List Whole). ended begin p.parts (after_of end rest) ∷ l) (one end None rest ps more)
    ∙ sym (ends end begin p.parts rest out)
    ∙ sym (along end begin (alone p.parts.head) p.parts own rest are)
    ∙ ap (λ (l : List LowStretch). pieces_of end begin l) (sym all)

pub one_wide : OneWide
one_wide begin end lows ps are = one end (Some begin) (stretches_of end lows) ps are

-- ---- all stretches

abbrev Parted : List LowStretch → List Whole → Type 0
Parted xs ps = (owns : List (List LowStretch)) × AreEachOwn owns ps × (flat_map (λ own. own) owns ≡ xs)

all_of : (end : ℕ) (begin : Option ℕ) (xs : List LowStretch) (ps : List Whole) → ArePieces end begin xs ps → Parted xs ps
all_of end begin xs [] none = ([], tt, sym none)
all_of end begin xs (p ∷ ps) (own, rest, all, are, out, same, more) =
    let later : Parted rest ps = all_of end None rest ps more in
    ((p.parts.head ∷ own) ∷ later.0, ((refl, are), later.1), ap (λ (l : List LowStretch). (p.parts.head ∷ own) ++ l) later.2 ∙ sym all)

pub are_all : PiecesAreAll
are_all begin end lows ps are = all_of end (Some begin) (stretches_of end lows) ps are
