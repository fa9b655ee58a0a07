-- The parts of an ELD are read from its bytes.
use Rattle.std.proofs.Common.{◌≡◌, refl, ◌∙◌, sym, ap, ap₂, ℕ, zero, suc, ◌+◌, ◌-◌, ◌*◌, ◌/◌, ◌%◌, ◌<◌, ◌≤◌, ◌==◌, Bool, true, false, not, nat_lt, arith, List, [], ◌∷◌, ◌++◌, Option, Some, None, length, get_or, take, drop, map, replicate, length-append, subst, if◌then◌else◌}
use Rattle.std.specs.List.{range_with_len}
use Rattle.std.proofs.lemmas.List.FromFn.{fill_by_all}
use Rattle.std.proofs.Math.Seq.{drop-append-add, drop-append_seam, take-append_seam}
use Rattle.std.proofs.lemmas.List.{length-replicate}
use Rattle.std.proofs.lemmas.Bool.{le-ltb}
use Rattle.edid_eld.specs.Codes.{bit, connection_number, version_number}
use Rattle.edid_eld.specs.Eld.{Parts, audio_byte, block_len, block_units, eld_bytes, name_byte, parts_of}
use Rattle.edid_eld.specs.Reading.{IsReadBack, connection_at, is_version, parts_at, refusal, version_at}
use Rattle.edid_eld.specs.declared.codes.Connection.{Connection}
use Rattle.edid_eld.specs.declared.codes.Connection.TheVariants.{Hdmi, DisplayPort, Reserved2, Reserved3}
use Rattle.edid_eld.specs.declared.codes.EldVersion.{EldVersion}
use Rattle.edid_eld.specs.declared.codes.EldVersion.TheVariants.{Cta861D, Partial}
use Rattle.edid_eld.specs.declared.eld.Eld.{Eld}
use Rattle.edid_eld.specs.declared.reading.EldError.{EldError}
use Rattle.edid_eld.specs.declared.reading.EldError.TheVariants.{Short, Version, Cut, Name, Parts as NoRoom}

abbrev made : EldVersion → ℕ → Connection → Bool → Bool → ℕ → ℕ → List ℕ → List ℕ → ℕ → List ℕ → List ℕ → Parts
made v k n a h d s o m p t u = record { version = v; cta_version = k; connection = n; ai = a; hdcp = h; delay = d; speakers = s; port = o; maker = m; product = p; name = t; audio = u }

same : (v v₂ : EldVersion) (k k₂ : ℕ) (n n₂ : Connection) (a a₂ : Bool) (h h₂ : Bool) (d d₂ : ℕ) (s s₂ : ℕ) (o o₂ : List ℕ) (m m₂ : List ℕ) (p p₂ : ℕ) (t t₂ : List ℕ) (u u₂ : List ℕ) → v ≡ v₂ → k ≡ k₂ → n ≡ n₂ → a ≡ a₂ → h ≡ h₂ → d ≡ d₂ → s ≡ s₂ → o ≡ o₂ → m ≡ m₂ → p ≡ p₂ → t ≡ t₂ → u ≡ u₂
    → made v k n a h d s o m p t u ≡ made v₂ k₂ n₂ a₂ h₂ d₂ s₂ o₂ m₂ p₂ t₂ u₂
same v v₂ k k₂ n n₂ a a₂ h h₂ d d₂ s s₂ o o₂ m m₂ p p₂ t t₂ u u₂ e0 e1 e2 e3 e4 e5 e6 e7 e8 e9 e10 e11 =
    ap (λ (x : EldVersion). made x k n a h d s o m p t u) e0
    ∙ ap (λ (x : ℕ). made v₂ x n a h d s o m p t u) e1
    ∙ ap (λ (x : Connection). made v₂ k₂ x a h d s o m p t u) e2
    ∙ ap (λ (x : Bool). made v₂ k₂ n₂ x h d s o m p t u) e3
    ∙ ap (λ (x : Bool). made v₂ k₂ n₂ a₂ x d s o m p t u) e4
    ∙ ap (λ (x : ℕ). made v₂ k₂ n₂ a₂ h₂ x s o m p t u) e5
    ∙ ap (λ (x : ℕ). made v₂ k₂ n₂ a₂ h₂ d₂ x o m p t u) e6
    ∙ ap (λ (x : List ℕ). made v₂ k₂ n₂ a₂ h₂ d₂ s₂ x m p t u) e7
    ∙ ap (λ (x : List ℕ). made v₂ k₂ n₂ a₂ h₂ d₂ s₂ o₂ x p t u) e8
    ∙ ap (λ (x : ℕ). made v₂ k₂ n₂ a₂ h₂ d₂ s₂ o₂ m₂ x t u) e9
    ∙ ap (λ (x : List ℕ). made v₂ k₂ n₂ a₂ h₂ d₂ s₂ o₂ m₂ p₂ x u) e10
    ∙ ap (λ (x : List ℕ). made v₂ k₂ n₂ a₂ h₂ d₂ s₂ o₂ m₂ p₂ t₂ x) e11

-- ---- codes

version_back : (v : EldVersion) → version_at (version_number v * 8 / 8) ≡ v
version_back Cta861D = refl
version_back Partial = refl

version_known : (v : EldVersion) → is_version (version_number v * 8 / 8) ≡ true
version_known Cta861D = refl
version_known Partial = refl

connection_back : (n : Connection) → connection_at (connection_number n) ≡ n
connection_back Hdmi = refl
connection_back DisplayPort = refl
connection_back Reserved2 = refl
connection_back Reserved3 = refl

connection_small : (n : Connection) → connection_number n < 4
connection_small Hdmi = omega arith
connection_small DisplayPort = omega arith
connection_small Reserved2 = omega arith
connection_small Reserved3 = omega arith

bit_back : (b : Bool) → (bit b == 1) ≡ b
bit_back true = refl
bit_back false = refl

bit_small : (b : Bool) → bit b ≤ 1
bit_small true = omega arith
bit_small false = omega arith

-- a number of four fields
connection_in : (l c a h : ℕ) → c < 4 → a ≤ 1 → h ≤ 1 → (l * 16 + c * 4 + a * 2 + h) / 4 % 4 ≡ c
connection_in l c a h x y z = omega (arith, x, y, z)

ai_in : (l c a h : ℕ) → c < 4 → a ≤ 1 → h ≤ 1 → (l * 16 + c * 4 + a * 2 + h) / 2 % 2 ≡ a
ai_in l c a h x y z = omega (arith, x, y, z)

hdcp_in : (l c a h : ℕ) → c < 4 → a ≤ 1 → h ≤ 1 → (l * 16 + c * 4 + a * 2 + h) % 2 ≡ h
hdcp_in l c a h x y z = omega (arith, x, y, z)

count_in : (l c a h : ℕ) → c < 4 → a ≤ 1 → h ≤ 1 → (l * 16 + c * 4 + a * 2 + h) / 16 ≡ l
count_in l c a h x y z = omega (arith, x, y, z)

-- ---- lists

after : (front xs ys : List ℕ) (n : ℕ) → length front ≡ 20 → n ≡ length xs → drop (20 + n) (front ++ (xs ++ ys)) ≡ ys
after front xs ys n f e =
    ap (λ k. drop (k + n) (front ++ (xs ++ ys))) (sym f) ∙ drop-append-add front (xs ++ ys) n ∙ ap (λ k. drop k (xs ++ ys)) e ∙ drop-append_seam xs ys

front_of : (xs ys : List ℕ) (n : ℕ) → n ≡ length xs → take n (xs ++ ys) ≡ xs
front_of xs ys n e = ap (λ k. take k (xs ++ ys)) e ∙ take-append_seam xs ys

-- a list of a known length is its elements, written out
cells : (xs : List ℕ) (n : ℕ) → length xs ≡ n → xs ≡ map (λ k. get_or xs k 0) (range_with_len 0 n)
cells xs n h = fill_by_all (λ k. get_or xs k 0) xs n 0 h (λ k _. refl)

-- ---- an ELD, by a port of eight bytes and a maker of two

not_less : (m n : ℕ) → n ≤ m → nat_lt m n ≡ false
not_less m n h = le-ltb m n h

by_tests : (a b c d e : Bool) → a ≡ false → b ≡ true → c ≡ false → d ≡ false → e ≡ false
    → ◌≡◌ {A = Option EldError} (if a then Some Short else (if not b then Some Version else (if c then Some Cut else (if d then Some Name else (if e then Some NoRoom else None))))) None
by_tests a b c d e ea eb ec ed ee = rw (ea, eb, ec, ed, ee) refl

module _ (v : EldVersion) (k : ℕ) (n : Connection) (a h : Bool) (d s p o0 o1 o2 o3 o4 o5 o6 o7 m0 m1 : ℕ) (t u : List ℕ) (few : length t ≤ 16) (short : length u ≤ 45) (whole : length u % 3 ≡ 0) where
  abbrev all : Parts
  all = made v k n a h d s (o0 ∷ o1 ∷ o2 ∷ o3 ∷ o4 ∷ o5 ∷ o6 ∷ o7 ∷ []) (m0 ∷ m1 ∷ []) p t u

  abbrev pad : List ℕ
  pad = replicate {A = ℕ} (4 * block_units all - block_len all) 0

  -- the byte of the name, and the byte of the audio
  abbrev name_at : ℕ
  name_at = k * 32 + length t

  abbrev audio_at : ℕ
  audio_at = length u / 3 * 16 + connection_number n * 4 + bit a * 2 + bit h

  abbrev front : List ℕ
  front =
      version_number v * 8 ∷ 0 ∷ block_units all ∷ 0 ∷ name_at ∷ audio_at ∷ d ∷ s
      ∷ o0 ∷ o1 ∷ o2 ∷ o3 ∷ o4 ∷ o5 ∷ o6 ∷ o7 ∷ m0 ∷ m1 ∷ (p % 256) ∷ (p / 256) ∷ []

  name_is : name_at % 32 ≡ length t
  name_is = omega (arith, few)

  version_is : name_at / 32 ≡ k
  version_is = omega (arith, few)

  audio_is : 3 * (audio_at / 16) ≡ length u
  audio_is =
      let count = count_in (length u / 3) (connection_number n) (bit a) (bit h) (connection_small n) (bit_small a) (bit_small h) in
      ap (λ x. 3 * x) count ∙ omega (arith, whole)

  product_is : p % 256 + 256 * (p / 256) ≡ p
  product_is = omega arith

  len_is : length (eld_bytes all) ≡ 4 + 4 * block_units all
  len_is = omega (arith, length-append t (u ++ pad), length-append u pad, length-replicate {A = ℕ} (4 * block_units all - block_len all) 0)

  parts_back : parts_at (eld_bytes all) ≡ all
  parts_back =
      same _ _ _ _ _ _ _ _ _ _ _ _ _ _ _ _ _ _ _ _ _ _ _ _
      (version_back v) version_is
      (ap connection_at (connection_in (length u / 3) (connection_number n) (bit a) (bit h) (connection_small n) (bit_small a) (bit_small h)) ∙ connection_back n)
      (ap (λ x. x == 1) (ai_in (length u / 3) (connection_number n) (bit a) (bit h) (connection_small n) (bit_small a) (bit_small h)) ∙ bit_back a)
      (ap (λ x. x == 1) (hdcp_in (length u / 3) (connection_number n) (bit a) (bit h) (connection_small n) (bit_small a) (bit_small h)) ∙ bit_back h)
      refl refl refl refl product_is
      (front_of t (u ++ pad) (name_at % 32) name_is)
      (ap (take (3 * (audio_at / 16))) (after front t (u ++ pad) (name_at % 32) refl name_is) ∙ front_of u pad (3 * (audio_at / 16)) audio_is)

  none_refused : refusal (eld_bytes all) ≡ None
  none_refused =
      by_tests (nat_lt (length (eld_bytes all)) 20) (is_version (version_number v * 8 / 8)) (nat_lt (length (eld_bytes all)) (4 + 4 * block_units all)) (nat_lt 16 (name_at % 32))
      (nat_lt (4 + 4 * block_units all) (20 + name_at % 32 + 3 * (audio_at / 16)))
      (not_less (length (eld_bytes all)) 20 (omega (arith, len_is))) (version_known v) (not_less (length (eld_bytes all)) (4 + 4 * block_units all) (omega (arith, len_is)))
      (not_less 16 (name_at % 32) (omega (arith, name_is, few))) (not_less (4 + 4 * block_units all) (20 + name_at % 32 + 3 * (audio_at / 16)) (omega (arith, name_is, audio_is)))

pub read_back : (e : Eld) → IsReadBack (parts_of e)
read_back e =
    let spot : List ℕ → ℕ → ℕ = λ xs i. get_or xs i 0 in
    let o = e.port in
    let m = e.maker in
    let made_by : List ℕ → List ℕ → Parts = λ port maker. made e.version e.cta_version e.connection e.ai e.hdcp e.delay e.speakers port maker e.product e.name.items e.audio.items in
    let written : IsReadBack (made_by (map (λ k. get_or o k 0) (range_with_len 0 8)) (map (λ k. get_or m k 0) (range_with_len 0 2))) = (
      none_refused e.version e.cta_version e.connection e.ai e.hdcp e.delay e.speakers e.product (spot o 0) (spot o 1) (spot o 2) (spot o 3) (spot o 4) (spot o 5) (spot o 6) (spot o 7) (spot m 0) (spot m 1)
          e.name.items e.audio.items e.name_fits e.audio_fits e.whole,
      parts_back e.version e.cta_version e.connection e.ai e.hdcp e.delay e.speakers e.product (spot o 0) (spot o 1) (spot o 2) (spot o 3) (spot o 4) (spot o 5) (spot o 6) (spot o 7) (spot m 0) (spot m 1)
          e.name.items e.audio.items e.name_fits e.audio_fits e.whole,
    ) in
    subst (λ (x : List ℕ). IsReadBack (made_by x m)) (sym (cells o 8 e.eight))
    (subst (λ (x : List ℕ). IsReadBack (made_by (map (λ k. get_or o k 0) (range_with_len 0 8)) x)) (sym (cells m 2 e.two)) written)
