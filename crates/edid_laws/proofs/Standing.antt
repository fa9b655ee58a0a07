-- Names and serial numbers among the places of a display.
use Rattle.std.proofs.Common.{◌≡◌, ◌∙◌, refl, sym, ap, subst, ◌<◌, ◌≤◌, true, false, arith, List, [], ◌∷◌, ◌++◌, length, length-append, drop, map}
use Rattle.std.specs.List.{list_any}
use Rattle.edid_base.specs.declared.descriptor.Descriptor.{Descriptor}
use Rattle.edid_base.specs.declared.descriptor.Descriptor.TheVariants.{Dummy}
use Rattle.edid_merge.specs.Labels.{is_name, is_serial, labelled, names_after, placed, seat_for, seated, serials_after, unplaced}
use Rattle.edid_merge.specs.declared.labels.Label.TheVariants as labels
use Rattle.edid_merge.specs.declared.labels.Seat.{Seat}
use Rattle.edid_merge.specs.declared.labels.Seat.TheVariants as seats
use Rattle.edid_laws.specs.Products.{LabelsStandOnce, StandOnce, but_labels, is_unused}
use Rattle.edid_laws.proofs.Seats.{Each, Seen, counted_in, counted_out, each_labelled, left_for, names_in, no_fewer, of_name, of_serial, one_at_most, seen, serials_in}

-- what stands in a place, and then in the later ones
abbrev from : Seat → Descriptor → List Descriptor → List Descriptor → List Descriptor → List Descriptor
from s d ds ns ss = seated s ns ss d ∷ placed (names_after s ns) (serials_after s ss) ds

-- ---- as many places as names are for all of them

abbrev AllNames : List Descriptor → Type 0
AllNames ds =
    (ns ss : List Descriptor) → Each is_name ns → length ns ≤ names_in ds → length ns ≤ names_in (placed ns ss ds)

names_on : (s : Seat) (d : Descriptor) (ds ns ss : List Descriptor) → Each is_name ns → Seen (length ns) (length ss) d ds s → length ns ≤ names_in (d ∷ ds) → AllNames ds
    → length ns ≤ names_in (from s d ds ns ss)
names_on seats.Name d ds [] ss a v h ih = absurd (omega (arith, v.0))
names_on seats.Name d ds (n ∷ ns) ss a v h ih =
    let more : length (labelled labels.Name (n ∷ placed ns ss ds)) ≡ length (n ∷ labelled labels.Name (placed ns ss ds)) = ap length (counted_in labels.Name n (placed ns ss ds) a.0) in
    let rest : length ns ≤ names_in (placed ns ss ds) = ih ns ss a.1 (omega (arith, h, one_at_most labels.Name d ds)) in
    omega (arith, more, rest)
names_on seats.Serial d ds ns [] a v h ih = absurd (omega (arith, v.0))
names_on seats.Serial d ds ns (s ∷ ss) a v h ih =
    let rest : length ns ≤ names_in (placed ns ss ds) = ih ns ss a (left_for labels.Name (length ns) d ds v.2 h) in
    omega (arith, rest, no_fewer labels.Name s (placed ns ss ds))
names_on seats.Unused d ds ns ss a v h ih = ih ns ss a v.0
names_on seats.Shown d ds ns ss a v h ih =
    let same : names_in (d ∷ ds) ≡ names_in ds = ap length (counted_out labels.Name d ds v.0) in
    let rest : length ns ≤ names_in (placed ns ss ds) = ih ns ss a (omega (arith, h, same)) in
    omega (arith, rest, no_fewer labels.Name d (placed ns ss ds))

all_names : (ds : List Descriptor) → AllNames ds
all_names [] ns ss a h = h
all_names (d ∷ ds) ns ss a h = names_on (seat_for ns ss d ds) d ds ns ss a (seen (length ns) (length ss) d ds) h (all_names ds)

-- ---- and as many as serial numbers

abbrev AllSerials : List Descriptor → Type 0
AllSerials ds =
    (ns ss : List Descriptor) → Each is_serial ss → length ss ≤ serials_in ds → length ss ≤ serials_in (placed ns ss ds)

serials_on : (s : Seat) (d : Descriptor) (ds ns ss : List Descriptor) → Each is_serial ss → Seen (length ns) (length ss) d ds s → length ss ≤ serials_in (d ∷ ds) → AllSerials ds
    → length ss ≤ serials_in (from s d ds ns ss)
serials_on seats.Serial d ds ns [] a v h ih = absurd (omega (arith, v.0))
serials_on seats.Serial d ds ns (s ∷ ss) a v h ih =
    let more : length (labelled labels.Serial (s ∷ placed ns ss ds)) ≡ length (s ∷ labelled labels.Serial (placed ns ss ds)) = ap length (counted_in labels.Serial s (placed ns ss ds) a.0) in
    let rest : length ss ≤ serials_in (placed ns ss ds) = ih ns ss a.1 (omega (arith, h, one_at_most labels.Serial d ds)) in
    omega (arith, more, rest)
serials_on seats.Name d ds [] ss a v h ih = absurd (omega (arith, v.0))
serials_on seats.Name d ds (n ∷ ns) ss a v h ih =
    let rest : length ss ≤ serials_in (placed ns ss ds) = ih ns ss a (left_for labels.Serial (length ss) d ds v.2 h) in
    omega (arith, rest, no_fewer labels.Serial n (placed ns ss ds))
serials_on seats.Unused d ds ns ss a v h ih = ih ns ss a v.1
serials_on seats.Shown d ds ns ss a v h ih =
    let same : serials_in (d ∷ ds) ≡ serials_in ds = ap length (counted_out labels.Serial d ds v.1) in
    let rest : length ss ≤ serials_in (placed ns ss ds) = ih ns ss a (omega (arith, h, same)) in
    omega (arith, rest, no_fewer labels.Serial d (placed ns ss ds))

all_serials : (ds : List Descriptor) → AllSerials ds
all_serials [] ns ss a h = h
all_serials (d ∷ ds) ns ss a h = serials_on (seat_for ns ss d ds) d ds ns ss a (seen (length ns) (length ss) d ds) h (all_serials ds)

-- ---- those that stand are a front of those that are to stand

record Fronts (ns ss there : List Descriptor) : Type 0 where
  pub more_names : List Descriptor
  pub more_serials : List Descriptor
  pub names : ns ≡ labelled labels.Name there ++ more_names
  pub serials : ss ≡ labelled labels.Serial there ++ more_serials
  pub no_name : 0 < length more_names → list_any is_unused there ≡ false
  pub no_serial : 0 < length more_serials → list_any is_unused there ≡ false

abbrev AreFronts : List Descriptor → Type 0
AreFronts ds = (ns ss : List Descriptor) → Each is_name ns → Each is_serial ss → Fronts ns ss (placed ns ss ds)

not_unused : (d : Descriptor) (ds : List Descriptor) → is_unused d ≡ false → list_any is_unused ds ≡ false → list_any is_unused (d ∷ ds) ≡ false
not_unused d ds e f = rw (e, f) refl

with_name : (n : Descriptor) (ns ss there : List Descriptor) → is_name n ≡ true → Fronts ns ss there → Fronts (n ∷ ns) ss (n ∷ there)
with_name n ns ss there e f = let of = of_name n e in record {
  more_names = f.more_names;
  more_serials = f.more_serials;
  names = ap (λ (k : List Descriptor). n ∷ k) f.names ∙ ap (λ (k : List Descriptor). k ++ f.more_names) (sym (counted_in labels.Name n there e));
  serials = f.serials ∙ ap (λ (k : List Descriptor). k ++ f.more_serials) (sym (counted_out labels.Serial n there of.0));
  no_name = λ h. not_unused n there of.1 (f.no_name h);
  no_serial = λ h. not_unused n there of.1 (f.no_serial h);
}

with_serial : (s : Descriptor) (ns ss there : List Descriptor) → is_serial s ≡ true → Fronts ns ss there → Fronts ns (s ∷ ss) (s ∷ there)
with_serial s ns ss there e f = let of = of_serial s e in record {
  more_names = f.more_names;
  more_serials = f.more_serials;
  names = f.names ∙ ap (λ (k : List Descriptor). k ++ f.more_names) (sym (counted_out labels.Name s there of.0));
  serials = ap (λ (k : List Descriptor). s ∷ k) f.serials ∙ ap (λ (k : List Descriptor). k ++ f.more_serials) (sym (counted_in labels.Serial s there e));
  no_name = λ h. not_unused s there of.1 (f.no_name h);
  no_serial = λ h. not_unused s there of.1 (f.no_serial h);
}

with_shown : (d : Descriptor) (ns ss there : List Descriptor) → is_name d ≡ false → is_serial d ≡ false → is_unused d ≡ false → Fronts ns ss there → Fronts ns ss (d ∷ there)
with_shown d ns ss there a b e f = record {
  more_names = f.more_names;
  more_serials = f.more_serials;
  names = f.names ∙ ap (λ (k : List Descriptor). k ++ f.more_names) (sym (counted_out labels.Name d there a));
  serials = f.serials ∙ ap (λ (k : List Descriptor). k ++ f.more_serials) (sym (counted_out labels.Serial d there b));
  no_name = λ h. not_unused d there e (f.no_name h);
  no_serial = λ h. not_unused d there e (f.no_serial h);
}

none_more : (xs front more : List Descriptor) → xs ≡ front ++ more → length xs ≤ length front → 0 < length more → ⊥
none_more xs front more e h some = let all : length xs ≡ length (front ++ more) = ap length e in omega (arith, all, length-append front more, h, some)

with_unused : (ns ss there : List Descriptor) → length ns ≤ names_in there → length ss ≤ serials_in there → Fronts ns ss there → Fronts ns ss (Dummy ∷ there)
with_unused ns ss there a b f = record {
  more_names = f.more_names;
  more_serials = f.more_serials;
  names = f.names;
  serials = f.serials;
  no_name = λ h. absurd (none_more ns (labelled labels.Name there) f.more_names f.names a h);
  no_serial = λ h. absurd (none_more ss (labelled labels.Serial there) f.more_serials f.serials b h);
}

fronts_on : (s : Seat) (d : Descriptor) (ds ns ss : List Descriptor) → Each is_name ns → Each is_serial ss → Seen (length ns) (length ss) d ds s → AreFronts ds
    → Fronts ns ss (from s d ds ns ss)
fronts_on seats.Name d ds [] ss a b v ih = absurd (omega (arith, v.0))
fronts_on seats.Name d ds (n ∷ ns) ss a b v ih = with_name n ns ss (placed ns ss ds) a.0 (ih ns ss a.1 b)
fronts_on seats.Serial d ds ns [] a b v ih = absurd (omega (arith, v.0))
fronts_on seats.Serial d ds ns (s ∷ ss) a b v ih = with_serial s ns ss (placed ns ss ds) b.0 (ih ns ss a b.1)
fronts_on seats.Unused d ds ns ss a b v ih = with_unused ns ss (placed ns ss ds) (all_names ds ns ss a v.0) (all_serials ds ns ss b v.1) (ih ns ss a b)
fronts_on seats.Shown d ds ns ss a b v ih = with_shown d ns ss (placed ns ss ds) v.0 v.1 v.2 (ih ns ss a b)

fronts : (ds : List Descriptor) → AreFronts ds
fronts [] ns ss a b = record { more_names = ns; more_serials = ss; names = refl; serials = refl; no_name = λ h. refl; no_serial = λ h. refl }
fronts (d ∷ ds) ns ss a b = fronts_on (seat_for ns ss d ds) d ds ns ss a b (seen (length ns) (length ss) d ds) (fronts ds)

-- ---- all else of the display's

abbrev Stay : List Descriptor → Type 0
Stay ds = (ns ss : List Descriptor) → Each is_name ns → Each is_serial ss → map but_labels (placed ns ss ds) ≡ map but_labels ds

then_others : (x d : Descriptor) (xs ds : List Descriptor) → but_labels x ≡ but_labels d → map but_labels xs ≡ map but_labels ds → map but_labels (x ∷ xs) ≡ map but_labels (d ∷ ds)
then_others x d xs ds e f = ap (λ (k : Descriptor). k ∷ map but_labels xs) e ∙ ap (λ (k : List Descriptor). but_labels d ∷ k) f

others_on : (s : Seat) (d : Descriptor) (ds ns ss : List Descriptor) → Each is_name ns → Each is_serial ss → Seen (length ns) (length ss) d ds s → Stay ds
    → map but_labels (from s d ds ns ss) ≡ map but_labels (d ∷ ds)
others_on seats.Name d ds [] ss a b v ih = absurd (omega (arith, v.0))
others_on seats.Name d ds (n ∷ ns) ss a b v ih = let of = of_name n a.0 in then_others n d (placed ns ss ds) ds (of.2 ∙ sym v.1) (ih ns ss a.1 b)
others_on seats.Serial d ds ns [] a b v ih = absurd (omega (arith, v.0))
others_on seats.Serial d ds ns (s ∷ ss) a b v ih = let of = of_serial s b.0 in then_others s d (placed ns ss ds) ds (of.2 ∙ sym v.1) (ih ns ss a b.1)
others_on seats.Unused d ds ns ss a b v ih = then_others Dummy d (placed ns ss ds) ds (sym v.2) (ih ns ss a b)
others_on seats.Shown d ds ns ss a b v ih = then_others d d (placed ns ss ds) ds refl (ih ns ss a b)

stay : (ds : List Descriptor) → Stay ds
stay [] ns ss a b = refl
stay (d ∷ ds) ns ss a b = others_on (seat_for ns ss d ds) d ds ns ss a b (seen (length ns) (length ss) d ds) (stay ds)

-- ---- of two lists of descriptors

dropped : (front more : List Descriptor) → drop (length front) (front ++ more) ≡ more
dropped [] more = refl
dropped (d ∷ front) more = dropped front more

rest_is : (xs front more : List Descriptor) → xs ≡ front ++ more → drop (length front) xs ≡ more
rest_is xs front more e = ap (drop (length front)) e ∙ dropped front more

stand_once : (own display : List Descriptor) → StandOnce own display (placed (labelled labels.Name own) (labelled labels.Serial own) display)
stand_once own display =
    let ns = labelled labels.Name own in
    let ss = labelled labels.Serial own in
    let there = placed ns ss display in
    let f = fronts display ns ss (each_labelled labels.Name own) (each_labelled labels.Serial own) in
    let left_names : unplaced labels.Name own there ≡ f.more_names = rest_is ns (labelled labels.Name there) f.more_names f.names in
    let left_serials : unplaced labels.Serial own there ≡ f.more_serials = rest_is ss (labelled labels.Serial there) f.more_serials f.serials in
    record {
      once = λ l. elim l as (λ k. labelled k own ≡ labelled k there ++ unplaced k own there) [
        | labels.Name ↦ f.names ∙ ap (λ (k : List Descriptor). labelled labels.Name there ++ k) (sym left_names)
        | labels.Serial ↦ f.serials ∙ ap (λ (k : List Descriptor). labelled labels.Serial there ++ k) (sym left_serials)
      ];
      full = λ l. elim l as (λ k. 0 < length (unplaced k own there) → list_any is_unused there ≡ false) [
        | labels.Name ↦ λ h. f.no_name (subst (λ (k : List Descriptor). 0 < length k) left_names h)
        | labels.Serial ↦ λ h. f.no_serial (subst (λ (k : List Descriptor). 0 < length k) left_serials h)
      ];
      others = stay display ns ss (each_labelled labels.Name own) (each_labelled labels.Serial own);
    }

pub labels_stand_once : LabelsStandOnce
labels_stand_once display own merged r = subst (λ (k : List Descriptor). StandOnce own.descriptors display.descriptors k) (sym r.descriptors) (stand_once own.descriptors display.descriptors)
