-- The pulses that are left, of which the first two say all up to the next change.
use Rattle.std.proofs.Common.{◌≡◌, ℕ, zero, suc, ◌+◌, ◌-◌, ◌==◌, ◌<◌, ◌≤◌, Bool, true, false, not, ◌&&◌, ◌||◌, nat_lt, if◌then◌else◌, List, [], ◌∷◌, ◌++◌, length, take, inl, inr, refl, arith, ap, ap₂, ◌∙◌, sym, append_assoc}
use Rattle.std.specs.Fmt.{decimal}
use Rattle.std.specs.List.{list_any}
use Rattle.std.proofs.lemmas.Bool.{cases_lt}
use Rattle.std.proofs.lemmas.Bool.Decides.{nat_tests}
use Rattle.line_wave.specs.declared.Stretch.{Stretch}
use Rattle.line_wave.specs.Line.{covers, line_of, was_low, IsWave, IsWaveFrom}
use Rattle.capture_wires.specs.Left.{FirstNotOver}
use Rattle.capture_wires.specs.Noted.{Noted, is_noted, noted_instant, noted_text, notes_at}
use Rattle.capture_wires.specs.Wires.{change_text, changes_from, turns}
use Rattle.capture_wires.proofs.Noting.{no_instant, up_to}
use Rattle.capture_wires.proofs.Quiet.{is_end, no_turn, no_turns}

-- ---- pulses in order

pub wave_sooner : (from to : ℕ) (ss : List Stretch) → to ≤ from → IsWaveFrom from ss → IsWaveFrom to ss
wave_sooner from to [] l w = tt
wave_sooner from to (s ∷ ss) l w = (omega (arith, l, w.0), w.1, w.2)

-- before their first begin the line is high
high_before : (from u : ℕ) (ss : List Stretch) → IsWaveFrom from ss → u < from → line_of ss u ≡ false
high_before from u [] w l = refl
high_before from u (s ∷ ss) w l =
    let here : covers s u ≡ false = grind (arith, nat_tests, w.0) in
    rw here (high_before (s.to + 1) u ss w.2 (omega (arith, w.0, w.1)))

-- one that is over before t says nothing from then on
pub over_says : (t u : ℕ) (s : Stretch) (ss : List Stretch) → s.to < t → t ≤ u + 1 → line_of (s ∷ ss) u ≡ line_of ss u
over_says t u s ss over l = let here : covers s u ≡ false = grind (arith, nat_tests) in rw here refl

or_false : (b : Bool) → (b || false) ≡ b
or_false true = refl
or_false false = refl

or_left : (a b : Bool) → (a || b) ≡ false → a ≡ false
or_left true b h = h
or_left false b h = refl

or_right : (a b : Bool) → (a || b) ≡ false → b ≡ false
or_right true b h = cc
or_right false b h = h

-- up to the next end the first two of them are all
two_say : (t next u : ℕ) (left : List Stretch) → IsWave left → FirstNotOver t left
    → ((v : ℕ) → t < v → v < next → list_any (is_end v) (take 2 left) ≡ false) → u < next → line_of (take 2 left) u ≡ line_of left u
two_say t next u [] w first quiet l = refl
two_say t next u (a ∷ []) w first quiet l = refl
two_say t next u (a ∷ b ∷ rest) w first quiet l =
    ap (λ c. covers a u || c) (ap (λ c. covers b u || c) (sym (high_before (b.to + 1) u rest w.2.2 (omega (arith, by_then)))))
  where
    by_then : u ≤ b.to
    by_then = elim (cases_lt b.to u) [
      | inr le ↦ le
      | inl past ↦ (
          let later : t < b.to = omega (arith, first, w.2.0, w.2.1) in
          let none = quiet b.to later (omega arith) in
          let mine : (b.to == b.to) ≡ true = grind (arith, nat_tests) in
          let ends : is_end b.to b ≡ true = rw mine (or_true (b.from == b.to)) in
          let here = or_left (is_end b.to b) false (or_right (is_end b.to a) (is_end b.to b || false) none) in
          cc)
    ]
      where
        or_true : (c : Bool) → (c || true) ≡ true
        or_true true = refl
        or_true false = refl

-- ---- the last wire by another list

-- two wires are alike just before t and at it
pub record AreAlikeAt (t : ℕ) (p q : List Stretch) : Type 0 where
  pub now : line_of p t ≡ line_of q t
  pub before : was_low (line_of p) t ≡ was_low (line_of q) t

turns_alike : (t : ℕ) (p q : List Stretch) → AreAlikeAt t p q → turns (line_of p) t ≡ turns (line_of q) t
turns_alike t p q alike = ap₂ (λ now before. (now && not before) || (not now && before)) alike.now alike.before

change_alike : (t number : ℕ) (p q : List Stretch) → AreAlikeAt t p q → change_text t number p ≡ change_text t number q
change_alike t number p q alike =
    ap₂ (λ turn now. if turn then (if now then 48 else 49) ∷ (if number == 0 then 33 else number + 96) ∷ 10 ∷ [] else []) (turns_alike t p q alike) alike.now

changes_alike : (t number : ℕ) (drives : List (List Stretch)) (p q : List Stretch) → AreAlikeAt t p q → changes_from t number (drives ++ p ∷ []) ≡ changes_from t number (drives ++ q ∷ [])
changes_alike t number [] p q alike = ap (λ l. l ++ []) (change_alike t number p q alike)
changes_alike t number (d ∷ drives) p q alike = ap (λ l. change_text t number d ++ l) (changes_alike t (number + 1) drives p q alike)

any_alike : (t : ℕ) (drives : List (List Stretch)) (p q : List Stretch) → AreAlikeAt t p q
    → list_any (λ wire. turns (line_of wire) t) (drives ++ p ∷ []) ≡ list_any (λ wire. turns (line_of wire) t) (drives ++ q ∷ [])
any_alike t [] p q alike = ap (λ b. b || false) (turns_alike t p q alike)
any_alike t (d ∷ drives) p q alike = ap (λ b. turns (line_of d) t || b) (any_alike t drives p q alike)

instant_alike : (t : ℕ) (line : List Stretch) (drives : List (List Stretch)) (notes : List Noted) (p q : List Stretch) → AreAlikeAt t p q
    → noted_instant (line ∷ (drives ++ p ∷ [])) notes t ≡ noted_instant (line ∷ (drives ++ q ∷ [])) notes t
instant_alike t line drives notes p q alike =
    ap₂ (λ (any : Bool) (changes : List ℕ). if any || is_noted t notes then ((35 ∷ (decimal t ++ 10 ∷ [])) ++ changes) ++ notes_at t notes else [])
    (any_alike t (line ∷ drives) p q alike) (changes_alike t 0 (line ∷ drives) p q alike)

-- ---- the last wire by itself

append-nil : (xs : List ℕ) → xs ++ [] ≡ xs
append-nil [] = refl
append-nil (x ∷ xs) = ap (λ l. x ∷ l) (append-nil xs)

pub changes_end : (t number count : ℕ) (drives : List (List Stretch)) (p : List Stretch) → count ≡ number + length drives
    → changes_from t number (drives ++ p ∷ []) ≡ changes_from t number drives ++ change_text t count p
changes_end t number count [] p e = let same : count ≡ number = omega arith in rw same (append-nil (change_text t number p))
changes_end t number count (d ∷ drives) p e =
    ap (λ l. change_text t number d ++ l) (changes_end t (number + 1) count drives p (omega (arith, e)))
    ∙ sym (append_assoc (change_text t number d) (changes_from t (number + 1) drives) (change_text t count p))

pub any_end : (t : ℕ) (drives : List (List Stretch)) (p : List Stretch)
    → list_any (λ wire. turns (line_of wire) t) (drives ++ p ∷ []) ≡ (list_any (λ wire. turns (line_of wire) t) drives || turns (line_of p) t)
any_end t [] p = or_false (turns (line_of p) t)
any_end t (d ∷ drives) p = ap (λ b. turns (line_of d) t || b) (any_end t drives p) ∙ grouped (turns (line_of d) t) _ _
  where
    grouped : (a b c : Bool) → (a || (b || c)) ≡ ((a || b) || c)
    grouped true b c = refl
    grouped false b c = refl

-- ---- up to the next end or note

-- where `line_end`, `drives_end` and `pulses_end` are the next ends of these wires
pub more_instants : (line : List Stretch) (drives : List (List Stretch)) (pulses left : List Stretch) (notes : List Noted) (from t next line_end drives_end pulses_end : ℕ)
    → from ≤ t → t < next → next ≤ line_end → line_end ≤ drives_end → drives_end ≤ pulses_end
    → IsWave left → FirstNotOver t left → ((u : ℕ) → t ≤ u + 1 → line_of left u ≡ line_of pulses u)
    → ((u : ℕ) → t < u → u < next → is_noted u notes ≡ false)
    → ((u : ℕ) → t < u → u < line_end → list_any (is_end u) line ≡ false)
    → ((u : ℕ) → t < u → u < drives_end → list_any (λ wire. list_any (is_end u) wire) drives ≡ false)
    → ((u : ℕ) → t < u → u < pulses_end → list_any (is_end u) (take 2 left) ≡ false)
    → noted_text (line ∷ (drives ++ pulses ∷ [])) notes from (next - from)
    ≡ noted_text (line ∷ (drives ++ pulses ∷ [])) notes from (t - from) ++ noted_instant (line ∷ (drives ++ take 2 left ∷ [])) notes t
more_instants line drives pulses left notes from t next line_end drives_end pulses_end after before near nearer nearest order first same quiet_notes quiet_line quiet_drives quiet_pulses =
    up_to (noted_instant (line ∷ (drives ++ pulses ∷ [])) notes) from t next after before
    (λ u l h. no_instant (line ∷ (drives ++ pulses ∷ [])) notes u (none u l h) (quiet_notes u l h))
    ∙ ap (λ l. noted_text (line ∷ (drives ++ pulses ∷ [])) notes from (t - from) ++ l) (sym (instant_alike t line drives notes (take 2 left) pulses (alike t (omega arith) before)))
  where
    level : (u : ℕ) → t ≤ u + 1 → u < next → line_of (take 2 left) u ≡ line_of pulses u
    level u l h = two_say t pulses_end u left order first quiet_pulses (omega (arith, near, nearer, nearest)) ∙ same u l

    alike : (u : ℕ) → t ≤ u → u < next → AreAlikeAt u (take 2 left) pulses
    alike u l h = record {
      now = level u (omega arith) h;
      before = elim (cases_lt 0 u) [
        | inl some ↦ ap (λ b. nat_lt 0 u && b) (level (u - 1) (omega arith) (omega arith))
        | inr first_one ↦ (let no : nat_lt 0 u ≡ false = grind (arith, nat_tests) in rw no refl)
      ];
    }

    none : (u : ℕ) → t < u → u < next → list_any (λ wire. turns (line_of wire) u) (line ∷ (drives ++ pulses ∷ [])) ≡ false
    none u l h =
        ap₂ (λ a b. a || b) (no_turn line u (omega arith) (quiet_line u l (omega (arith, near))))
        (any_end u drives pulses
        ∙ ap₂ (λ a b. a || b) (no_turns drives u (omega arith) (quiet_drives u l (omega (arith, near, nearer))))
        (sym (turns_alike u (take 2 left) pulses (alike u (omega arith) h)) ∙ no_turn (take 2 left) u (omega arith) (quiet_pulses u l (omega (arith, near, nearer, nearest)))))
