-- Where two frames first differ, and what that means for their stretches.
use Rattle.std.proofs.Common.{◌≡◌, ℕ, ◌+◌, ◌*◌, ◌<◌, ◌≤◌, Bool, true, false, not, ◌||◌, if◌then◌else◌, List, [], ◌∷◌, ◌++◌, length, ◌⊎◌, inl, inr, refl, arith, ap, ◌∙◌, sym}
use Rattle.std.specs.List.{list_any, filter}
use Rattle.line_frames.specs.Bits.{frame_bits, byte_bits, comes_before}
use Rattle.line_rounds.specs.Elements.{In}
use Rattle.line_rounds.specs.Least.{IsLeast, Least}

-- ---- elements

pub or_right : (a b : Bool) → b ≡ true → (a || b) ≡ true
or_right true b e = refl
or_right false b e = e

pub any_in : {X : Type 0} (p : X → Bool) (xs : List X) (x : X) → In x xs → p x ≡ true → list_any p xs ≡ true
any_in p [] x h e = absurd h
any_in p (y ∷ ys) x (inl s) e = let f : p y ≡ true = ap p (sym s) ∙ e in rw f refl
any_in p (y ∷ ys) x (inr h) e = or_right (p y) (list_any p ys) (any_in p ys x h e)

pub in_any : {X : Type 0} (p : X → Bool) (xs : List X) → list_any p xs ≡ true → (x : X) × In x xs × (p x ≡ true)
in_any p [] h = cc
in_any {X} p (y ∷ ys) h = step (p y) refl h (λ g. in_any p ys g)
  where
    step : (b : Bool) → p y ≡ b → (b || list_any p ys) ≡ true → (list_any p ys ≡ true → (x : X) × In x ys × (p x ≡ true)) → (x : X) × In x (y ∷ ys) × (p x ≡ true)
    step true e g r = (y, inl refl, e)
    step false e g r = let q = r g in (q.0, inr q.1, q.2)

pub any_filter : {X : Type 0} (p test : X → Bool) (xs : List X) (x : X) → In x xs → test x ≡ true → p x ≡ true → list_any p (filter test xs) ≡ true
any_filter p test [] x h e f = absurd h
any_filter p test (y ∷ ys) x (inl s) e f = let g : test y ≡ true = ap test (sym s) ∙ e in let k : p y ≡ true = ap p (sym s) ∙ f in rw (g, k) refl
any_filter p test (y ∷ ys) x (inr h) e f =
    elim (test y) as (λ b. list_any p (if b then y ∷ filter test ys else filter test ys) ≡ true) [
      | true ↦ or_right (p y) (list_any p (filter test ys)) (any_filter p test ys x h e f)
      | false ↦ any_filter p test ys x h e f
    ]

-- ---- the first difference

-- the lists are one up to a place, within a block's first nine, where xs has a 1 and ys a 0;
-- they stand from place k of a block on
pub record Splits (k : ℕ) (xs ys : List Bool) : Type 0 where
  pub front : List Bool
  pub more : List Bool
  pub less : List Bool
  pub first : xs ≡ front ++ true ∷ more
  pub second : ys ≡ front ++ false ∷ less
  pub block : ℕ
  pub place : ℕ
  pub early : place ≤ 8
  pub at : k + length front ≡ 10 * block + place

abbrev pub Compared : ℕ → List Bool → List Bool → Type 0
Compared k xs ys = (xs ≡ ys) ⊎ (Splits k xs ys ⊎ Splits k ys xs)

-- within a byte
further : (k : ℕ) (b : Bool) (xs ys : List Bool) → Splits (k + 1) xs ys → Splits k (b ∷ xs) (b ∷ ys)
further k b xs ys p = record {
  front = b ∷ p.front;
  more = p.more;
  less = p.less;
  first = ap (λ zs. b ∷ zs) p.first;
  second = ap (λ zs. b ∷ zs) p.second;
  block = p.block;
  place = p.place;
  early = p.early;
  at = omega (arith, p.at);
}

onward : (k : ℕ) (b : Bool) (xs ys : List Bool) → Compared (k + 1) xs ys → Compared k (b ∷ xs) (b ∷ ys)
onward k b xs ys (inl e) = inl (ap (λ zs. b ∷ zs) e)
onward k b xs ys (inr (inl p)) = inr (inl (further k b xs ys p))
onward k b xs ys (inr (inr p)) = inr (inr (further k b ys xs p))

split_here : (k : ℕ) (xs ys : List Bool) → k ≤ 8 → Splits k (true ∷ xs) (false ∷ ys)
split_here k xs ys h = record { front = []; more = xs; less = ys; first = refl; second = refl; block = 0; place = k; early = h; at = omega arith }

-- one step, at a place below the acknowledge slot
step_bit : (k : ℕ) (a b : Bool) (xs ys : List Bool) → k ≤ 8 → Compared (k + 1) xs ys → Compared k (a ∷ xs) (b ∷ ys)
step_bit k true true xs ys h c = onward k true xs ys c
step_bit k false false xs ys h c = onward k false xs ys c
step_bit k true false xs ys h c = inr (inl (split_here k xs ys h))
step_bit k false true xs ys h c = inr (inr (split_here k ys xs h))

-- the acknowledge slot, and the next block
over_split : (xs ys : List Bool) → Splits 0 xs ys → Splits 9 (true ∷ xs) (true ∷ ys)
over_split xs ys p = record {
  front = true ∷ p.front;
  more = p.more;
  less = p.less;
  first = ap (λ zs. true ∷ zs) p.first;
  second = ap (λ zs. true ∷ zs) p.second;
  block = p.block + 1;
  place = p.place;
  early = p.early;
  at = omega (arith, p.at);
}

over_block : (xs ys : List Bool) → Compared 0 xs ys → Compared 9 (true ∷ xs) (true ∷ ys)
over_block xs ys (inl e) = inl (ap (λ zs. true ∷ zs) e)
over_block xs ys (inr (inl p)) = inr (inl (over_split xs ys p))
over_block xs ys (inr (inr p)) = inr (inr (over_split ys xs p))

-- eight bits and what follows them
byte_step : (a b : ℕ) (xs ys : List Bool) → Compared 8 xs ys → Compared 0 (byte_bits a ++ xs) (byte_bits b ++ ys)
byte_step a b xs ys c =
    step_bit 0 _ _ _ _ (omega arith) (step_bit 1 _ _ _ _ (omega arith) (step_bit 2 _ _ _ _ (omega arith) (step_bit 3 _ _ _ _ (omega arith)
    (step_bit 4 _ _ _ _ (omega arith) (step_bit 5 _ _ _ _ (omega arith) (step_bit 6 _ _ _ _ (omega arith) (step_bit 7 _ _ xs ys (omega arith) c)))))))

pub compare_frames : (f g : List ℕ) → 0 < length f → 0 < length g → Compared 0 (frame_bits f) (frame_bits g)
compare_frames [] g h k = absurd (omega (arith, h))
compare_frames (a ∷ as_) [] h k = absurd (omega (arith, k))
compare_frames (a ∷ []) (b ∷ []) h k = byte_step a b (true ∷ true ∷ []) (true ∷ true ∷ []) (inl refl)
compare_frames (a ∷ []) (b ∷ d ∷ ds) h k =
    byte_step a b (true ∷ true ∷ []) (false ∷ true ∷ frame_bits (d ∷ ds)) (inr (inl (split_here 8 (true ∷ []) (true ∷ frame_bits (d ∷ ds)) (omega arith))))
compare_frames (a ∷ c ∷ cs) (b ∷ []) h k =
    byte_step a b (false ∷ true ∷ frame_bits (c ∷ cs)) (true ∷ true ∷ []) (inr (inr (split_here 8 (true ∷ []) (true ∷ frame_bits (c ∷ cs)) (omega arith))))
compare_frames (a ∷ c ∷ cs) (b ∷ d ∷ ds) h k =
    byte_step a b (false ∷ true ∷ frame_bits (c ∷ cs)) (false ∷ true ∷ frame_bits (d ∷ ds))
    (onward 8 false (true ∷ frame_bits (c ∷ cs)) (true ∷ frame_bits (d ∷ ds))
    (over_block (frame_bits (c ∷ cs)) (frame_bits (d ∷ ds)) (compare_frames (c ∷ cs) (d ∷ ds) (omega arith) (omega arith))))

-- ---- the order

front_before : (front more less : List Bool) → comes_before (front ++ false ∷ less) (front ++ true ∷ more) ≡ true
front_before [] more less = refl
front_before (true ∷ front) more less = front_before front more less
front_before (false ∷ front) more less = front_before front more less

pub split_before : (k : ℕ) (xs ys : List Bool) → Splits k xs ys → comes_before ys xs ≡ true
split_before k xs ys p = rw (p.first, p.second) (front_before p.front p.more p.less)

pub before_trans : (xs ys zs : List Bool) → comes_before xs ys ≡ true → comes_before ys zs ≡ true → comes_before xs zs ≡ true
before_trans [] ys zs h k = cc
before_trans (x ∷ xs) [] zs h k = cc
before_trans (false ∷ xs) (true ∷ ys) [] h k = cc
before_trans (false ∷ xs) (true ∷ ys) (true ∷ zs) h k = refl
before_trans (false ∷ xs) (true ∷ ys) (false ∷ zs) h k = cc
before_trans (true ∷ xs) (false ∷ ys) zs h k = cc
before_trans (false ∷ xs) (false ∷ ys) [] h k = cc
before_trans (false ∷ xs) (false ∷ ys) (true ∷ zs) h k = refl
before_trans (false ∷ xs) (false ∷ ys) (false ∷ zs) h k = before_trans xs ys zs h k
before_trans (true ∷ xs) (true ∷ ys) [] h k = cc
before_trans (true ∷ xs) (true ∷ ys) (true ∷ zs) h k = before_trans xs ys zs h k
before_trans (true ∷ xs) (true ∷ ys) (false ∷ zs) h k = cc

before_self : (xs : List Bool) → comes_before xs xs ≡ false
before_self [] = refl
before_self (true ∷ xs) = before_self xs
before_self (false ∷ xs) = before_self xs

not_both : (b : Bool) → b ≡ true → b ≡ false → ⊥
not_both b h k = let e : true ≡ false = sym h ∙ k in cc

pub some_least : (f : List ℕ) (fs : List (List ℕ)) → Least (f ∷ fs)
some_least f [] = record { frame = f; one = inl refl; least = λ g h. elim h [ inl e ↦ rw e (before_self (frame_bits f)) | inr h2 ↦ absurd h2 ] }
some_least f (g ∷ gs) = step (some_least g gs) (comes_before (frame_bits f) (frame_bits (some_least g gs).frame)) refl
  where
    step : (l : Least (g ∷ gs)) (b : Bool) → comes_before (frame_bits f) (frame_bits l.frame) ≡ b → Least (f ∷ g ∷ gs)
    step l true e = record { frame = f; one = inl refl; least = λ x h. elim h [ inl s ↦ rw s (before_self (frame_bits f)) | inr i ↦ below x i (comes_before (frame_bits x) (frame_bits f)) refl ] }
      where
        below : (x : List ℕ) → In x (g ∷ gs) → (c : Bool) → comes_before (frame_bits x) (frame_bits f) ≡ c → c ≡ false
        below x i false k = refl
        below x i true k = absurd (not_both (comes_before (frame_bits x) (frame_bits l.frame)) (before_trans (frame_bits x) (frame_bits f) (frame_bits l.frame) k e) (l.least x i))
    step l false e = record { frame = l.frame; one = inr l.one; least = λ x h. elim h [ inl s ↦ rw s e | inr i ↦ l.least x i ] }

none_before : (frames gs : List (List ℕ)) (xs : List Bool) → ((g : List ℕ) → In g gs → comes_before (frame_bits g) xs ≡ false) → list_any (λ g. comes_before (frame_bits g) xs) gs ≡ false
none_before frames [] xs h = refl
none_before frames (g ∷ gs) xs h = rw (h g (inl refl)) (none_before frames gs xs (λ x i. h x (inr i)))

pub is_least : IsLeast
is_least frames l = ap not (none_before frames frames (frame_bits l.frame) l.least)
