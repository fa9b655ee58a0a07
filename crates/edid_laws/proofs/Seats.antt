-- What a place says of the names and serial numbers that are left.
use Rattle.std.proofs.Common.{◌≡◌, refl, ℕ, ◌+◌, ◌<◌, ◌≤◌, ◌==◌, Bool, true, false, nat_lt, cond, arith, tests, List, [], ◌∷◌, length}
use Rattle.std.specs.Prelude.{⊤}
use Rattle.edid_base.specs.declared.descriptor.Descriptor.{Descriptor}
use Rattle.edid_base.specs.declared.descriptor.Descriptor.TheVariants.{Timing, Name, Text, SerialText, Range, Dummy, Raw}
use Rattle.edid_merge.specs.Labels.{free_seat, is_labelled, is_name, is_serial, labelled, seat_of}
use Rattle.edid_merge.specs.declared.labels.Label.{Label}
use Rattle.edid_merge.specs.declared.labels.Label.TheVariants as labels
use Rattle.edid_merge.specs.declared.labels.Seat.{Seat}
use Rattle.edid_merge.specs.declared.labels.Seat.TheVariants as seats
use Rattle.edid_laws.specs.Products.{but_labels, is_unused}

abbrev pub names_in : List Descriptor → ℕ
names_in ds = length (labelled labels.Name ds)

abbrev pub serials_in : List Descriptor → ℕ
serials_in ds = length (labelled labels.Serial ds)

-- what is known of so many names and serial numbers, of a place and of the later ones
abbrev pub Seen : ℕ → ℕ → Descriptor → List Descriptor → Seat → Type 0
Seen n m d ds seats.Name = (0 < n) × (but_labels d ≡ Dummy) × (is_serial d ≡ true → m ≡ 0)
Seen n m d ds seats.Serial = (0 < m) × (but_labels d ≡ Dummy) × (is_name d ≡ true → n ≡ 0)
Seen n m d ds seats.Unused = (n ≤ names_in ds) × (m ≤ serials_in ds) × (but_labels d ≡ Dummy)
Seen n m d ds seats.Shown = (is_name d ≡ false) × (is_serial d ≡ false) × (is_unused d ≡ false)

neither : {P : Type 0} → false ≡ true → P
neither e = absurd (cc)

free_seen : (n m : ℕ) (d : Descriptor) (ds : List Descriptor) → but_labels d ≡ Dummy → (is_name d ≡ true → n ≡ 0) → (is_serial d ≡ true → m ≡ 0) → Seen n m d ds (free_seat n m ds)
free_seen n m d ds e f g = by (nat_lt (names_in ds) n) (nat_lt (serials_in ds) m) refl refl
  where
    by : (v w : Bool) → nat_lt (names_in ds) n ≡ v → nat_lt (serials_in ds) m ≡ w → Seen n m d ds (cond v seats.Name (cond w seats.Serial seats.Unused))
    by true w a b = let less : names_in ds < n = grind (arith, tests, a) in (omega (arith, less), e, g)
    by false true a b = let less : serials_in ds < m = grind (arith, tests, b) in (omega (arith, less), e, f)
    by false false a b = (grind (arith, tests, a), grind (arith, tests, b), e)

pub seen : (n m : ℕ) (d : Descriptor) (ds : List Descriptor) → Seen n m d ds (seat_of n m d ds)
seen n m (Name text) ds = by (n == 0) refl
  where
    by : (v : Bool) → (n == 0) ≡ v → Seen n m (Name text) ds (cond v (free_seat n m ds) seats.Name)
    by true a = free_seen n m (Name text) ds refl (λ e. grind (arith, tests, a)) (λ e. neither e)
    by false a = (grind (arith, tests, a), refl, λ e. neither e)
seen n m (SerialText text) ds = by (m == 0) refl
  where
    by : (v : Bool) → (m == 0) ≡ v → Seen n m (SerialText text) ds (cond v (free_seat n m ds) seats.Serial)
    by true a = free_seen n m (SerialText text) ds refl (λ e. neither e) (λ e. grind (arith, tests, a))
    by false a = (grind (arith, tests, a), refl, λ e. neither e)
seen n m Dummy ds = free_seen n m Dummy ds refl (λ e. neither e) (λ e. neither e)
seen n m (Timing timing) ds = (refl, refl, refl)
seen n m (Text text) ds = (refl, refl, refl)
seen n m (Range limits) ds = (refl, refl, refl)
seen n m (Raw raw) ds = (refl, refl, refl)

-- ---- one of a label is of no other, and no unused one

pub of_name : (d : Descriptor) → is_name d ≡ true → (is_serial d ≡ false) × (is_unused d ≡ false) × (but_labels d ≡ Dummy)
of_name (Name text) e = (refl, refl, refl)
of_name (SerialText text) e = neither e
of_name Dummy e = neither e
of_name (Timing timing) e = neither e
of_name (Text text) e = neither e
of_name (Range limits) e = neither e
of_name (Raw raw) e = neither e

pub of_serial : (d : Descriptor) → is_serial d ≡ true → (is_name d ≡ false) × (is_unused d ≡ false) × (but_labels d ≡ Dummy)
of_serial (Name text) e = neither e
of_serial (SerialText text) e = (refl, refl, refl)
of_serial Dummy e = neither e
of_serial (Timing timing) e = neither e
of_serial (Text text) e = neither e
of_serial (Range limits) e = neither e
of_serial (Raw raw) e = neither e

-- ---- the first of several

pub counted_in : (l : Label) (d : Descriptor) (ds : List Descriptor) → is_labelled l d ≡ true → labelled l (d ∷ ds) ≡ d ∷ labelled l ds
counted_in l d ds e = rw e refl

pub counted_out : (l : Label) (d : Descriptor) (ds : List Descriptor) → is_labelled l d ≡ false → labelled l (d ∷ ds) ≡ labelled l ds
counted_out l d ds e = rw e refl

pub one_at_most : (l : Label) (d : Descriptor) (ds : List Descriptor) → length (labelled l (d ∷ ds)) ≤ 1 + length (labelled l ds)
one_at_most l d ds = by (is_labelled l d)
  where
    by : (v : Bool) → length (cond v (d ∷ labelled l ds) (labelled l ds)) ≤ 1 + length (labelled l ds)
    by true = omega arith
    by false = omega arith

pub no_fewer : (l : Label) (d : Descriptor) (ds : List Descriptor) → length (labelled l ds) ≤ length (labelled l (d ∷ ds))
no_fewer l d ds = by (is_labelled l d)
  where
    by : (v : Bool) → length (labelled l ds) ≤ length (cond v (d ∷ labelled l ds) (labelled l ds))
    by true = omega arith
    by false = omega arith

-- as many are left where a place has none of them, or none are left
pub left_for : (l : Label) (n : ℕ) (d : Descriptor) (ds : List Descriptor) → (is_labelled l d ≡ true → n ≡ 0) → n ≤ length (labelled l (d ∷ ds)) → n ≤ length (labelled l ds)
left_for l n d ds none = by (is_labelled l d) none
  where
    by : (v : Bool) → (v ≡ true → n ≡ 0) → n ≤ length (cond v (d ∷ labelled l ds) (labelled l ds)) → n ≤ length (labelled l ds)
    by true none h = let nil : n ≡ 0 = none refl in omega (arith, nil)
    by false none h = h

-- ---- all of one label

abbrev pub Each : (Descriptor → Bool) → List Descriptor → Type 0
Each p [] = ⊤
Each p (d ∷ ds) = (p d ≡ true) × Each p ds

pub each_labelled : (l : Label) (ds : List Descriptor) → Each (is_labelled l) (labelled l ds)
each_labelled l [] = tt
each_labelled l (d ∷ ds) = by (is_labelled l d) refl (each_labelled l ds)
  where
    by : (v : Bool) → is_labelled l d ≡ v → Each (is_labelled l) (labelled l ds) → Each (is_labelled l) (cond v (d ∷ labelled l ds) (labelled l ds))
    by true e rest = (e, rest)
    by false e rest = rest
