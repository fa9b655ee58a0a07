-- What some forms have.
use Rattle.std.proofs.Common.{◌≡◌, ℕ, ◌-◌, ◌<◌, ◌≤◌, ◌==◌, true, List, [], ◌∷◌, ◌++◌, length, take, drop, flat_map, Option, Some, None, ap, subst, arith, refl, sym, ◌∙◌, length-append, codes}
use Rattle.std.specs.Fmt.{decimal}
use Rattle.std.specs.List.{position_or_len}
use Rattle.std.proofs.lemmas.Bool.{and_parts, ltb-true}
use Rattle.std.proofs.lemmas.List.{take_rest}
use Rattle.std.proofs.Common.{nat_lt, ◌^◌}
use Rattle.hex.specs.Hex.{encode_lower}
use Rattle.text_core.specs.Piece.{phys_text}
use Rattle.text_core.specs.declared.phys.Phys.{Phys}
use Rattle.edid_text_lines.specs.Text.{number_text, hex_word, fields_text}
use Rattle.edid_text_lines.specs.Formed.{FormedFields, are_numbers, BeginsSpaced}
use Rattle.edid_text_lines.specs.declared.line.Fields.{Fields}
use Rattle.edid_text_lines.specs.declared.line.Fields.TheVariants.{Nothing, Letters, Numbers, Timed, Bytes, Address, Quoted}
use Rattle.edid_text_lines.specs.declared.line.LineContent.{LineContent}
use Rattle.edid_text_lines.specs.declared.line.LineContent.TheVariants.{Unused, Timing}
use Rattle.arrayvec.specs.ArrayVec.{ArrayVec}
use Rattle.edid_text_lines.proofs.Words.{cut_at, without_decimal}

pub as_timing : (form : LineContent) (f : Fields) (text : List ℕ) (r : Option Fields) → form ≡ Timing
    → ((ns : List ℕ) (flags : ℕ) → length ns ≡ 13 → are_numbers ns ≡ true → flags < 256 → flat_map number_text ns ++ (32 ∷ encode_lower (flags ∷ [])) ≡ text → r ≡ Some (Timed (record { items = ns }) flags))
    → FormedFields form f → fields_text f ≡ text → r ≡ Some f
as_timing form f text r is clause formed e = at f (subst (λ x. FormedFields x f) is formed) e
  where
    at : (f : Fields) → FormedFields Timing f → fields_text f ≡ text → r ≡ Some f
    at (Timed ns flags) h e = clause ns.items flags h.0.0 h.0.1 h.1 e
    at Nothing h e = absurd h
    at (Letters x) h e = absurd h
    at (Numbers x) h e = absurd h
    at (Bytes x) h e = absurd h
    at (Address p x) h e = absurd h
    at (Quoted x) h e = absurd h

-- ` unused` is not three numbers
no_numbers : (ns : List ℕ) → length ns ≡ 3 → are_numbers ns ≡ true → flat_map number_text ns ≡ codes " unused" → ⊥
no_numbers [] l f e = omega arith
no_numbers (a ∷ ns) l f e = go ns (omega (arith, l))
  where
    small : a < 2 ^ 32
    small = ltb-true _ _ (and_parts (nat_lt a (2 ^ 32)) (are_numbers ns) f).0

    begins : (ns : List ℕ) → BeginsSpaced (flat_map number_text ns)
    begins [] = tt
    begins (n ∷ ns) = refl

    cut : position_or_len (λ b. b == 32) (decimal a ++ flat_map number_text ns) ≡ length (decimal a)
    cut = cut_at (decimal a) (flat_map number_text ns) (without_decimal 32 a (omega arith) (omega (arith, small))) (begins ns)

    six : length (decimal a) ≡ 6
    six = sym cut ∙ ap (λ xs. position_or_len (λ b. b == 32) (drop 1 xs)) e

    go : (ms : List ℕ) → length ns ≡ 2 → ⊥
    go ms two = more ns two (ap length e)
      where
        more : (ns : List ℕ) → length ns ≡ 2 → length (flat_map number_text (a ∷ ns)) ≡ 7 → ⊥
        more [] h k = omega arith
        more (n ∷ ns) h k =
            let len = length-append (decimal a) (flat_map number_text (n ∷ ns)) in
            let one = length-append (number_text n) (flat_map number_text ns) in
            omega (arith, len, one, six, k)

pub as_unused : (form : LineContent) (f : Fields) (text : List ℕ) (r : Option Fields) → form ≡ Unused → text ≡ codes " unused"
    → ((xs : List ℕ) → length xs ≤ 8 → 32 ∷ xs ≡ text → r ≡ Some (Letters (record { items = xs })))
    → FormedFields form f → fields_text f ≡ text → r ≡ Some f
as_unused form f text r is same clause formed e = at f (subst (λ x. FormedFields x f) is formed) e
  where
    at : (f : Fields) → FormedFields Unused f → fields_text f ≡ text → r ≡ Some f
    at (Letters xs) h e = clause xs.items (let len = ap length h in omega (arith, len)) e
    at (Numbers ns) h e = absurd (no_numbers ns.items h.0 h.1 (e ∙ same))
    at Nothing h e = absurd h
    at (Timed ns flags) h e = absurd h
    at (Bytes x) h e = absurd h
    at (Address p x) h e = absurd h
    at (Quoted x) h e = absurd h

pub same_timed : (a : ArrayVec ℕ) (ns : List ℕ) (x y : ℕ) → a.items ≡ ns → x ≡ y → Path (Option Fields) (Some (Timed a x)) (Some (Timed (record { items = ns }) y))
same_timed a ns x y e f = ap (λ xs. Some (Timed (record { items = xs }) x)) e ∙ ap (λ k. Some (Timed (record { items = ns }) k)) f

-- where the parts of an address and bytes stand
pub address_long : (p : Phys) (bs text : List ℕ) → 32 ∷ (phys_text p ++ (32 ∷ hex_word bs)) ≡ text → length text < 9 → ⊥
address_long p bs text e h = let len = ap length e in omega (arith, len, h)

pub address_first : (p : Phys) (bs text : List ℕ) → 32 ∷ (phys_text p ++ (32 ∷ hex_word bs)) ≡ text → phys_text p ≡ take 7 (drop 1 text)
address_first p bs text e = ap (λ t. take 7 (drop 1 t)) e

pub address_rest : (p : Phys) (bs text : List ℕ) → 32 ∷ (phys_text p ++ (32 ∷ hex_word bs)) ≡ text → hex_word bs ≡ take (length text - 9) (drop 9 text)
address_rest p bs text e = ap (drop 9) e ∙ sym (take_rest text 9)

pub no_phys : (p : Phys) → None ≡ Some p → ⊥
no_phys p e = cc

pub same_address : (p q : Phys) (bs : List ℕ) (bytes : ArrayVec ℕ) → Some q ≡ Some p → bytes.items ≡ bs → Some (Address q bytes) ≡ Some (Address p (record { items = bs }))
same_address p q bs bytes e f = let g : q ≡ p = cc in rw g (ap (λ xs. Some (Address p (record { items = xs }))) f)
