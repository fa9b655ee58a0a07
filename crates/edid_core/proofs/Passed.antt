-- The first extension that has an HDMI block.
use Rattle.std.proofs.Common.{◌≡◌, ℕ, zero, suc, ◌<◌, Bool, true, false, cond, not, nat_lt, Some, None, List, [], ◌∷◌, ◌++◌, length, get_or, set, flat_map, ap, arith, refl, sym, ◌∙◌, one-add}
use Rattle.std.specs.List.{position, position_or_len}
use Rattle.std.proofs.lemmas.Bool.{ltb-false}
use Rattle.std.proofs.lemmas.Grind.{common_steps}
use Rattle.std.proofs.lemmas.List.Sums.{prefix_len-le-length}
use Rattle.std.specs.Prelude.{is_some, ◌≤◌}
use Rattle.edid_cta.specs.Ext.{ext_bytes}
use Rattle.edid_cta.specs.Hdmi.{address_of}
use Rattle.edid_cta.specs.declared.raw.Ext.{Ext}
use Rattle.text_core.specs.declared.phys.Phys.{Phys}
use Rattle.edid_core.specs.Address.{has_address, first_address}
use Rattle.edid_core.specs.Passing.{passed_bytes, passed_extensions}
use Rattle.edid_core.specs.declared.passing.AudioFrom.{AudioFrom}

-- the first extension that has an HDMI block stands at this place
pub record IsFirst (xs : List Ext) (i : ℕ) : Type 0 where
  pub place : i ≡ position_or_len has_address xs
  pub known : i < length xs

at_first : (x : Ext) (xs : List Ext) → has_address x ≡ true → position_or_len has_address (x ∷ xs) ≡ 0
at_first x xs h = rw h refl

at_later : (x : Ext) (xs : List Ext) → has_address x ≡ false → position_or_len has_address (x ∷ xs) ≡ suc (position_or_len has_address xs)
at_later x xs h = rw (h, one-add) refl

first_here : (x : Ext) (xs : List Ext) → has_address x ≡ true → first_address (x ∷ xs) ≡ address_of x
first_here x xs f = rw f refl

first_later : (x : Ext) (xs : List Ext) → has_address x ≡ false → first_address (x ∷ xs) ≡ first_address xs
first_later x xs f = rw f refl

passed_first : (audio : AudioFrom) (address : Phys) (x : Ext) (xs : List Ext) → has_address x ≡ true
    → passed_bytes audio address x ++ flat_map ext_bytes xs ≡ passed_extensions audio address (x ∷ xs)
passed_first audio address x xs f = rw f refl

passed_later : (audio : AudioFrom) (address : Phys) (x : Ext) (xs : List Ext) → has_address x ≡ false
    → ext_bytes x ++ passed_extensions audio address xs ≡ passed_extensions audio address (x ∷ xs)
passed_later audio address x xs f = rw f refl

pub first_at : (xs : List Ext) (i : ℕ) → position has_address xs ≡ Some i → IsFirst xs i
first_at xs i h =
    let both : (i ≡ position_or_len has_address xs) × (i < length xs) = grind (arith, common_steps) in
    record { place = both.0; known = both.1 }

none_at : (xs : List Ext) → position has_address xs ≡ None → position_or_len has_address xs ≡ length xs
none_at xs h = by (nat_lt (position_or_len has_address xs) (length xs)) refl h
  where
    by : (v : Bool) → nat_lt (position_or_len has_address xs) (length xs) ≡ v → cond v (Some (position_or_len has_address xs)) None ≡ None → position_or_len has_address xs ≡ length xs
    by true t h = cc
    by false t h =
        let least = ltb-false (position_or_len has_address xs) (length xs) t in
        let most : position_or_len has_address xs ≤ length xs = prefix_len-le-length (λ x. not (has_address x)) xs in
        omega (arith, least, most)

no_address : (xs : List Ext) → position_or_len has_address xs ≡ length xs → first_address xs ≡ None
no_address [] h = refl
no_address (x ∷ xs) h = by (has_address x) refl (λ k. no_address xs k)
  where
    by : (v : Bool) → has_address x ≡ v → (position_or_len has_address xs ≡ length xs → first_address xs ≡ None) → first_address (x ∷ xs) ≡ None
    by true f next = let p = at_first x xs f in absurd (omega (arith, h, p))
    by false f next = let p = at_later x xs f in first_later x xs f ∙ next (omega (arith, h, p))

pub unaddressed : (xs : List Ext) → position has_address xs ≡ None → first_address xs ≡ None
unaddressed xs h = no_address xs (none_at xs h)

-- its address is the EDID's
address_there : (xs : List Ext) (i : ℕ) (d : Ext) → i ≡ position_or_len has_address xs → i < length xs → first_address xs ≡ address_of (get_or xs i d)
address_there [] i d at h = absurd (omega (arith, h))
address_there (x ∷ xs) zero d at h = by (has_address x) refl
  where
    by : (v : Bool) → has_address x ≡ v → first_address (x ∷ xs) ≡ address_of x
    by true f = first_here x xs f
    by false f = let p = at_later x xs f in absurd (omega (arith, at, p))
address_there (x ∷ xs) (suc i) d at h = by (has_address x) refl (λ k l. address_there xs i d k l)
  where
    by : (v : Bool) → has_address x ≡ v → (i ≡ position_or_len has_address xs → i < length xs → first_address xs ≡ address_of (get_or xs i d))
        → first_address (x ∷ xs) ≡ address_of (get_or xs i d)
    by true f next = let p = at_first x xs f in absurd (omega (arith, at, p))
    by false f next = let p = at_later x xs f in first_later x xs f ∙ next (omega (arith, at, p)) (omega (arith, h))

pub addressed : (xs : List Ext) (i : ℕ) (x : Ext) → IsFirst xs i → x ≡ get_or xs i x → first_address xs ≡ address_of x
addressed xs i x at e = address_there xs i x at.place at.known ∙ ap address_of (sym e)

-- another in its place
bytes_there : (audio : AudioFrom) (address : Phys) (xs : List Ext) (i : ℕ) (n d : Ext) → i ≡ position_or_len has_address xs → i < length xs
    → ext_bytes n ≡ passed_bytes audio address (get_or xs i d) → flat_map ext_bytes (set xs i n) ≡ passed_extensions audio address xs
bytes_there audio address [] i n d at h e = absurd (omega (arith, h))
bytes_there audio address (x ∷ xs) zero n d at h e = by (has_address x) refl
  where
    by : (v : Bool) → has_address x ≡ v → ext_bytes n ++ flat_map ext_bytes xs ≡ passed_extensions audio address (x ∷ xs)
    by true f = ap (λ t. t ++ flat_map ext_bytes xs) e ∙ passed_first audio address x xs f
    by false f = let p = at_later x xs f in absurd (omega (arith, at, p))
bytes_there audio address (x ∷ xs) (suc i) n d at h e = by (has_address x) refl (λ k l. bytes_there audio address xs i n d k l e)
  where
    by : (v : Bool) → has_address x ≡ v → (i ≡ position_or_len has_address xs → i < length xs → flat_map ext_bytes (set xs i n) ≡ passed_extensions audio address xs)
        → ext_bytes x ++ flat_map ext_bytes (set xs i n) ≡ passed_extensions audio address (x ∷ xs)
    by true f next = let p = at_first x xs f in absurd (omega (arith, at, p))
    by false f next = let p = at_later x xs f in ap (λ t. ext_bytes x ++ t) (next (omega (arith, at, p)) (omega (arith, h))) ∙ passed_later audio address x xs f

reported_there : (xs : List Ext) (i : ℕ) (n : Ext) (address : Phys) → i ≡ position_or_len has_address xs → i < length xs
    → address_of n ≡ Some address → first_address (set xs i n) ≡ Some address
reported_there [] i n address at h e = absurd (omega (arith, h))
reported_there (x ∷ xs) zero n address at h e =
    let some : has_address n ≡ true = ap is_some e in
    first_here n xs some ∙ e
reported_there (x ∷ xs) (suc i) n address at h e = by (has_address x) refl (λ k l. reported_there xs i n address k l e)
  where
    by : (v : Bool) → has_address x ≡ v → (i ≡ position_or_len has_address xs → i < length xs → first_address (set xs i n) ≡ Some address)
        → first_address (x ∷ set xs i n) ≡ Some address
    by true f next = let p = at_first x xs f in absurd (omega (arith, at, p))
    by false f next = let p = at_later x xs f in first_later x (set xs i n) f ∙ next (omega (arith, at, p)) (omega (arith, h))

pub passed_there : (audio : AudioFrom) (address : Phys) (xs : List Ext) (i : ℕ) (x n : Ext) → IsFirst xs i → x ≡ get_or xs i x
    → ext_bytes n ≡ passed_bytes audio address x → flat_map ext_bytes (set xs i n) ≡ passed_extensions audio address xs
passed_there audio address xs i x n at e f = bytes_there audio address xs i n x at.place at.known (f ∙ ap (passed_bytes audio address) e)

pub address_passed : (xs : List Ext) (i : ℕ) (n : Ext) (address : Phys) → IsFirst xs i → address_of n ≡ Some address → first_address (set xs i n) ≡ Some address
address_passed xs i n address at e = reported_there xs i n address at.place at.known e
