-- The texts of words: how long they are, and those of the opcodes.
use Rattle.std.proofs.Common.{◌≡◌, ℕ, ◌==◌, ◌≤◌, nat_le, Bool, true, false, ◌&&◌, cond, List, [], ◌∷◌, length, map, Option, Some, None, IfSome, option_map, option_copied, find, refl, sym, subst, arith}
use Rattle.std.specs.List.{list_all}
use Rattle.std.proofs.lemmas.Bool.Decides.{nat_tests}
use denote.Bor.{Bor}
use Rattle.message_table.specs.WordSets.{NamedByte, word, word_of, words_of}
use Rattle.message_table.specs.Table.{Row}
use Rattle.message_table.specs.declared.word_set.WordSet.{WordSet}
use Rattle.message_table.specs.declared.word_set.WordSet.TheVariants.{Reason, Power, OnOff, DeviceType, StatusRequest, DeckInfo, PlayMode, DeckControl, Display, MenuRequest, MenuState, Version, UserControl}

abbrev pub all_short : ℕ → List NamedByte → Bool
all_short most ws = list_all (λ w. nat_le (length w.text) most) ws

and_left : (a b : Bool) → (a && b) ≡ true → a ≡ true
and_left true b h = refl
and_left false b h = cc

and_right : (a b : Bool) → (a && b) ≡ true → b ≡ true
and_right true b h = h
and_right false b h = cc

at_most : (n most : ℕ) → nat_le n most ≡ true → n ≤ most
at_most n most h = grind (arith, nat_tests)

short_by : (most : ℕ) (w : NamedByte) (t : List ℕ) (b : Bool) (rest : Option NamedByte) → nat_le (length w.text) most ≡ true
    → (option_map (λ (w : NamedByte). w.text) rest ≡ Some t → length t ≤ most)
    → option_map (λ (w : NamedByte). w.text) (cond b (Some w) rest) ≡ Some t → length t ≤ most
short_by most w t true rest s again e =
    let same : w.text ≡ t = cc in
    subst (λ (x : List ℕ). length x ≤ most) same (at_most (length w.text) most s)
short_by most w t false rest s again e = again e

short : (most : ℕ) (ws : List NamedByte) (byte : ℕ) (t : List ℕ) → all_short most ws ≡ true → word_of ws byte ≡ Some t → length t ≤ most
short most [] byte t s e = cc
short most (w ∷ ws) byte t s e =
    short_by most w t (w.code == byte) (find (λ (w : NamedByte). w.code == byte) ws)
    (and_left (nat_le (length w.text) most) (all_short most ws) s)
    (short most ws byte t (and_right (nat_le (length w.text) most) (all_short most ws) s)) e

-- what is found among short words is short
pub short_if : (most : ℕ) (ws : List NamedByte) (byte : ℕ) (r : Option (Bor (List ℕ))) → all_short most ws ≡ true
    → option_copied r ≡ word_of ws byte → IfSome r (λ w. length w.now ≤ most)
short_if most ws byte None s e = tt
short_if most ws byte (Some x) s e = short most ws byte x.now s (sym e)

pub sets_short : (set : WordSet) → all_short 15 (words_of set) ≡ true
sets_short Reason = refl
sets_short Power = refl
sets_short OnOff = refl
sets_short DeviceType = refl
sets_short StatusRequest = refl
sets_short DeckInfo = refl
sets_short PlayMode = refl
sets_short DeckControl = refl
sets_short Display = refl
sets_short MenuRequest = refl
sets_short MenuState = refl
sets_short Version = refl
sets_short UserControl = refl

abbrev pub named : Row → NamedByte
named r = word r.code r.name

name_by : (b : Bool) (r : Row) (p : Option NamedByte) (q : Option Row) → option_map (λ (w : NamedByte). w.text) p ≡ option_map (λ (r : Row). r.name) q
    → option_map (λ (w : NamedByte). w.text) (cond b (Some (named r)) p) ≡ option_map (λ (r : Row). r.name) (cond b (Some r) q)
name_by true r p q e = refl
name_by false r p q e = e

-- an opcode's name is the text of its row
pub names_of : (rs : List Row) (code : ℕ) → word_of (map named rs) code ≡ option_map (λ (r : Row). r.name) (find (λ (r : Row). r.code == code) rs)
names_of [] code = refl
names_of (r ∷ rs) code =
    name_by (r.code == code) r (find (λ (w : NamedByte). w.code == code) (map named rs)) (find (λ (r : Row). r.code == code) rs) (names_of rs code)
