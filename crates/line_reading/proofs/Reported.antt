-- The readings of a line are those that a receiver of it reports.
use Rattle.std.proofs.Common.{◌≡◌, ◌≢◌, ℕ, zero, suc, ◌+◌, ◌-◌, ◌==◌, ◌<◌, ◌≤◌, Bool, true, false, nat_lt, nat_le, if◌then◌else◌, List, [], ◌∷◌, ◌++◌, map, append_assoc, append-nil, inl, inr, Option, Some, None, Result, Ok, Err, refl, arith, ap, ◌∙◌, sym, subst}
use Rattle.std.specs.List.{filter, filter_map, cons_option}
use Rattle.std.specs.Option.{option_to_list}
use Rattle.std.proofs.lemmas.Bool.{cases_lt}
use Rattle.std.proofs.lemmas.Bool.Decides.{nat_tests}
use Rattle.line_wave.specs.Line.{Line, was_low, is_fall}
use Rattle.line_frames.specs.declared.Ending.{Ending}
use Rattle.line_frames.specs.declared.Ending.TheVariants.{Short, Open}
use Rattle.line_reading.specs.Reading.After.{Next, Ends}
use Rattle.line_reading.specs.declared.receiver.ReceiverState.{ReceiverState}
use Rattle.line_reading.specs.declared.receiver.ReceiverState.TheVariants.{Rest, StartLow, StartHigh, Unsampled, Sampled}
use Rattle.line_reading.specs.declared.receiver.Told.{Told}
use Rattle.line_reading.specs.declared.receiver.Told.TheVariants.{Nothing, Bit, Last, Ended}
use Rattle.line_reading.specs.Windows.{standard, sample_at}
use Rattle.line_reading.specs.Reading.{first_in, next_fall, Read, Slot, known_at, known_slot, known_slots, reading_of, read_start, read_slots, read_on, after_slot, after_fall, after_last, last_ending, sample, bit_sampled_at, start_of, bits_of, reported_of, After}
use Rattle.line_reading.specs.Readings.{Listed, reading_from, listed_on, readings_from, readings_of, IsFirstFall}
use Rattle.line_reading.specs.Ended.{has_ended, ended_by, EndedAreFirst}
use Rattle.line_reading.specs.Hears.{hear_in, hears}
use Rattle.line_reading.specs.Kept.{Sample, sample_in, reported_with, reported_in, reported_at, kept_of, kept_before}
use Rattle.line_reading.specs.Sending.{known_bits}
use Rattle.line_reading.specs.Reports.{ends_with, running_by, ended_of, EndingsAreReported, RunningIsKept}
use Rattle.line_reading.proofs.Search.{first_in_none, first_in_some, found_first, found_none}
use Rattle.line_reading.proofs.Causes.{not_over}
use Rattle.line_reading.proofs.Ends.{at_by, begin_by, ends_after, slots_until}
use Rattle.line_reading.proofs.Lists.{none_left}
use Rattle.line_reading.proofs.OneByOne.{same_reported, keep_all}
use Rattle.line_reading.proofs.Stood.{past_later, past_more, step, stands_at}
use Rattle.line_reading.proofs.Keeping.{kept_heard, reported_heard, running_knows}
use Rattle.line_reading.specs.Places.{ArePast, HasBegun, AtRest, StandsIn, runs_in, KnowsEnd}

-- ---- all bits of a reading that is over are known

-- what follows a slot that is sampled comes after its sample
IsAfter : ℕ → After → Type 0
IsAfter e (Next f) = e + sample_at < f
IsAfter e (Ends ending at) = e + sample_at ≤ at

unbroken : (low : Line) (e : ℕ) (b : Bool) → bit_sampled_at low e ≡ Some b → next_fall low e sample_at ≡ None
unbroken low e b h = by_fall (next_fall low e sample_at) h
  where
    by_fall : (o : Option ℕ) → sample low e o ≡ Some b → o ≡ None
    by_fall None k = refl
    by_fall (Some f) k = cc

after_sample : (low : Line) (e : ℕ) (b : Bool) (last : Option Ending) → bit_sampled_at low e ≡ Some b → IsAfter e (after_slot low e last)
unfolding IsAfter
after_sample low e b None h = by_fall (next_fall low e standard.bit_total.most) refl
  where
    by_time : (f : ℕ) → e + sample_at < f → (c : Bool) → IsAfter e (if c then Ends Short f else Next f)
    by_time f l true = omega (arith, l)
    by_time f l false = l

    by_fall : (o : Option ℕ) → next_fall low e standard.bit_total.most ≡ o → IsAfter e (after_fall e o)
    by_fall None k = omega arith
    by_fall (Some f) k =
        let d = found_first (is_fall low) (e + 1) standard.bit_total.most f k in
        let late : e + sample_at < f = elim (cases_lt (e + sample_at) f) [
          | inl lt ↦ lt
          | inr ge ↦ (let x : true ≡ false = sym d.passes ∙ found_none (is_fall low) (e + 1) sample_at (unbroken low e b h) f d.after (omega (arith, ge)) in cc)
        ] in
        by_time f late (nat_lt f (e + standard.bit_total.least))
after_sample low e b (Some ending) h = subst (λ o. IsAfter e (after_last e ending o)) (sym (unbroken low e b h)) (omega arith)

sampled_by : (low : Line) (e at : ℕ) (b : Bool) (rest : ℕ → Read) (a : After) → IsAfter e a → ((f : ℕ) → f ≤ (rest f).at) → e + sample_at ≤ (read_on rest a).at
unfolding IsAfter
sampled_by low e at b rest (Next f) l h = omega (arith, l, h f)
sampled_by low e at b rest (Ends ending x) l h = l

slots_at : (low : Line) (left : ℕ) (bits : List Bool) (e : ℕ) → e ≤ (read_slots low left bits e).at
slots_at low left bits e = omega (arith, not_over low left bits e, slots_until low left bits e)

bits_in : List Slot → List Bool
bits_in ss = filter_map (λ (s : Slot). s.bit) ss

one_bit : (t e : ℕ) (o : Option Bool) (known_rest rest : List Bool) → known_rest ≡ rest → ((b : Bool) → o ≡ Some b → e + sample_at < t)
    → cons_option (if nat_lt (e + sample_at) t then o else None) known_rest ≡ cons_option o rest
one_bit t e None known_rest rest h k = by_time (nat_lt (e + sample_at) t)
  where
    by_time : (c : Bool) → cons_option (if c then None else None) known_rest ≡ rest
    by_time true = h
    by_time false = h
one_bit t e (Some b) known_rest rest h k =
    let l = k b refl in
    ap (λ c. cons_option (if c then Some b else None) known_rest) (let x : nat_lt (e + sample_at) t ≡ true = grind (arith, nat_tests) in x) ∙ ap (λ bs. b ∷ bs) h

all_slots : (low : Line) (t left : ℕ) (bits : List Bool) (e : ℕ) → (read_slots low left bits e).at < t
    → bits_in (known_slots t (read_slots low left bits e).slots) ≡ bits_in (read_slots low left bits e).slots
unfolding read_slots bits_in
all_slots low t zero bits e l = refl
all_slots low t (suc left) bits e l = by_after (after_slot low e (last_ending bits)) refl (λ f k. all_slots low t left bits2 f k)
  where
    bits2 : List Bool
    bits2 = bits ++ option_to_list (bit_sampled_at low e)

    more : ℕ → Read
    more f = read_slots low left (bits ++ option_to_list (bit_sampled_at low e)) f

    begun : e < t
    begun = omega (arith, l, slots_at low (suc left) bits e)

    heard : (b : Bool) → bit_sampled_at low e ≡ Some b → e + sample_at < t
    heard b h =
        let x = sampled_by low e 0 b more (after_slot low e (last_ending bits)) (after_sample low e b (last_ending bits) h) (λ f. slots_at low left (bits ++ option_to_list (bit_sampled_at low e)) f) in
        omega (arith, x, l)

    front : (ss : List Slot) → bits_in (known_slots t ss) ≡ bits_in ss
        → bits_in (known_slots t (record { fall = e; bit = bit_sampled_at low e } ∷ ss)) ≡ bits_in (record { fall = e; bit = bit_sampled_at low e } ∷ ss)
    front ss h =
        ap (λ c. bits_in (if c then known_slot t (record { fall = e; bit = bit_sampled_at low e }) ∷ known_slots t ss else [])) (let x = begun in let y : nat_lt e t ≡ true = grind (arith, nat_tests) in y)
        ∙ one_bit t e (bit_sampled_at low e) (bits_in (known_slots t ss)) (bits_in ss) h heard

    by_after : (a : After) → after_slot low e (last_ending bits) ≡ a → ((f : ℕ) → (more f).at < t → bits_in (known_slots t (more f).slots) ≡ bits_in (more f).slots)
        → bits_in (known_slots t (record { fall = e; bit = bit_sampled_at low e } ∷ (read_on more (after_slot low e (last_ending bits))).slots))
        ≡ bits_in (record { fall = e; bit = bit_sampled_at low e } ∷ (read_on more (after_slot low e (last_ending bits))).slots)
    by_after (Next f) h ih =
        let m : (more f).at < t = omega (arith, l, ap (λ x. (read_on more x).at) h) in
        subst (λ x. bits_in (known_slots t (record { fall = e; bit = bit_sampled_at low e } ∷ (read_on more x).slots)) ≡ bits_in (record { fall = e; bit = bit_sampled_at low e } ∷ (read_on more x).slots)) (sym h)
        (front (more f).slots (ih f m))
    by_after (Ends ending at) h ih =
        subst (λ x. bits_in (known_slots t (record { fall = e; bit = bit_sampled_at low e } ∷ (read_on more x).slots)) ≡ bits_in (record { fall = e; bit = bit_sampled_at low e } ∷ (read_on more x).slots)) (sym h)
        (front [] refl)

pub all_bits : (low : Line) (e t : ℕ) → (reading_of low e).at < t → known_bits (known_at t (reading_of low e)) ≡ bits_of (reading_of low e)
unfolding bits_in
all_bits low e t l = by_start (start_of low e) l
  where
    by_start : (s : Result ℕ ℕ) → (read_start low e s).at < t → bits_in (known_slots t (read_start low e s).slots) ≡ bits_in (read_start low e s).slots
    by_start (Ok f) m = all_slots low t 160 [] f m
    by_start (Err at) m = refl

-- ---- the list, after the readings that are over

-- readings that are over are kept, and then comes what is left
past_from : (low : Line) (t : ℕ) (keep : Listed → Bool) (n from : ℕ) (es : List ℕ) (to : ℕ) (xs : List Listed) → ((e : ℕ) → (reading_of low e).at ≤ t → keep (reading_from low t e) ≡ true)
    → t + 1 ≤ n + from → ArePast low (t + 1) from es to → ((m : ℕ) → t + 1 ≤ m + to → filter keep (readings_from low t m to) ≡ xs)
    → filter keep (readings_from low t n from) ≡ map (reading_from low t) es ++ xs
unfolding readings_from read_slots
past_from low t keep n from [] to xs k l h rest = subst (λ f. filter keep (readings_from low t n f) ≡ xs) h (rest n (omega (arith, l, h)))
past_from low t keep zero from (e ∷ es) to xs k l h rest = absurd (omega (arith, h.0.after, h.1, l))
past_from low t keep (suc n) from (e ∷ es) to xs k l h rest =
    let some : first_in (is_fall low) from (t + 1 - from) ≡ Some e = first_in_some (is_fall low) from (t + 1 - from) e h.0.after (omega (arith, h.0.after, h.1)) h.0.falls h.0.quiet in
    let later : List Listed = filter keep (readings_from low t n ((reading_of low e).until + 1)) in
    ap (λ o. filter keep (listed_on low t o (readings_from low t n))) some
    ∙ ap (λ b. if b then reading_from low t e ∷ later else later) (k e (omega (arith, h.2)))
    ∙ ap (λ ys. reading_from low t e ∷ ys) (past_from low t keep n ((reading_of low e).until + 1) es to xs k (omega (arith, l, h.0.after, begin_by low e)) h.3 rest)

-- where the next reading, if one has begun, has not ended, none is left that has
none_ended : (low : Line) (t to : ℕ) → ((e : ℕ) → IsFirstFall low to e → e ≤ t → t < (reading_of low e).at) → (m : ℕ) → filter (has_ended low t) (readings_from low t m to) ≡ []
unfolding readings_from
none_ended low t to h zero = refl
none_ended low t to h (suc m) = by_first (first_in (is_fall low) to (t + 1 - to)) refl
  where
    by_first : (o : Option ℕ) → first_in (is_fall low) to (t + 1 - to) ≡ o → filter (has_ended low t) (listed_on low t o (readings_from low t m)) ≡ []
    by_first None k = refl
    by_first (Some e) k =
        let d = found_first (is_fall low) to (t + 1 - to) e k in
        let late : t < (reading_of low e).at = h e (record { after = d.after; falls = d.passes; quiet = d.first }) (omega (arith, d.within, d.after)) in
        let later : List Listed = readings_from low t m ((reading_of low e).until + 1) in
        ap (λ b. if b then reading_from low t e ∷ filter (has_ended low t) later else filter (has_ended low t) later) (let x : nat_le (reading_of low e).at t ≡ false = grind (arith, nat_tests) in x)
        ∙ ap (filter (has_ended low t)) (none_left low t m ((reading_of low e).until + 1) (omega (arith, at_by low e, late)))

-- the next reading, where it runs
one_left : (low : Line) (t to e : ℕ) → IsFirstFall low to e → e ≤ t → t < (reading_of low e).at → (m : ℕ) → t + 1 ≤ m + to → readings_from low t m to ≡ reading_from low t e ∷ []
unfolding readings_from
one_left low t to e f b late zero l = absurd (omega (arith, f.after, b, l))
one_left low t to e f b late (suc m) l =
    ap (λ o. listed_on low t o (readings_from low t m)) (first_in_some (is_fall low) to (t + 1 - to) e f.after (omega (arith, f.after, b)) f.falls f.quiet)
    ∙ ap (λ (ys : List Listed). reading_from low t e ∷ ys) (none_left low t m ((reading_of low e).until + 1) (omega (arith, at_by low e, late)))

quiet_left : (low : Line) (t to : ℕ) → ((u : ℕ) → to ≤ u → u < t + 1 → is_fall low u ≡ false) → (m : ℕ) → readings_from low t m to ≡ []
unfolding readings_from
quiet_left low t to q zero = refl
quiet_left low t to q (suc m) =
    ap (λ o. listed_on low t o (readings_from low t m)) (first_in_none (is_fall low) to (t + 1 - to) (λ u a b. q u a (omega (arith, a, b))))

keeps_ended : (low : Line) (t e : ℕ) → (reading_of low e).at ≤ t → has_ended low t (reading_from low t e) ≡ true
keeps_ended low t e l = grind (arith, nat_tests)

-- the readings that have ended are those that are over
ended_past : (low : Line) (t : ℕ) (es : List ℕ) (to : ℕ) → ArePast low (t + 1) 0 es to → ((e : ℕ) → IsFirstFall low to e → e ≤ t → t < (reading_of low e).at)
    → ended_by low t ≡ map (reading_from low t) es
ended_past low t es to over h =
    past_from low t (has_ended low t) (t + 1) 0 es to [] (λ e l. keeps_ended low t e l) (omega arith) over (λ m l. none_ended low t to h m) ∙ append-nil (map (reading_from low t) es)

all_past : (low : Line) (t : ℕ) (es : List ℕ) (to : ℕ) (xs : List Listed) → ArePast low (t + 1) 0 es to → ((m : ℕ) → t + 1 ≤ m + to → readings_from low t m to ≡ xs)
    → readings_of low t ≡ map (reading_from low t) es ++ xs
all_past low t es to xs over h =
    sym (keep_all (readings_of low t))
    ∙ past_from low t (λ x. true) (t + 1) 0 es to xs (λ e l. refl) (omega arith) over (λ m l. keep_all (readings_from low t m to) ∙ h m l)

-- what was reported of them stays
same_past : (low : Line) (t from : ℕ) (es : List ℕ) (to : ℕ) → ArePast low (t + 1) from es to → map (reading_from low (t + 1)) es ≡ map (reading_from low t) es
unfolding read_slots
same_past low t from [] to h = refl
same_past low t from (e ∷ es) to h =
    ap (λ (x : Listed). x ∷ map (reading_from low (t + 1)) es) (same_reported low t (t + 1) e (omega arith) (omega (arith, h.2)))
    ∙ ap (λ (xs : List Listed). reading_from low t e ∷ xs) (same_past low t ((reading_of low e).until + 1) es to h.3)

map_more : (f : ℕ → Listed) (es : List ℕ) (e : ℕ) → map f (es ++ e ∷ []) ≡ map f es ++ f e ∷ []
map_more f [] e = refl
map_more f (x ∷ es) e = ap (λ (ys : List Listed). f x ∷ ys) (map_more f es e)

-- ---- the reading that runs

one_fall : (low : Line) (to a b : ℕ) → IsFirstFall low to a → IsFirstFall low to b → a ≡ b
one_fall low to a b f g = elim (cases_lt a b) [
  | inl lt ↦ (let x : true ≡ false = sym f.falls ∙ g.quiet a f.after lt in cc)
  | inr ge ↦ elim (cases_lt b a) [
    | inl lt ↦ (let x : true ≡ false = sym g.falls ∙ f.quiet b g.after lt in cc)
    | inr le ↦ omega (arith, ge, le)
  ]
]

record Runs (low : Line) (n begin : ℕ) (bits : List Bool) : Type 0 where
  begun : HasBegun low n begin
  late : n ≤ (reading_of low begin).at
  bits_are : known_bits (known_at n (reading_of low begin)) ≡ bits

begun_in : (low : Line) (n : ℕ) (place : ReceiverState) (begin fall : ℕ) (bits : List Bool) → StandsIn low n place begin fall bits → runs_in place begin ≡ Some begin → HasBegun low n begin
unfolding StandsIn
begun_in low n Rest begin fall bits s e = cc
begun_in low n StartLow begin fall bits s e = s.begun
begun_in low n StartHigh begin fall bits s e = s.begun
begun_in low n Unsampled begin fall bits s e = s.slot.begun
begun_in low n Sampled begin fall bits s e = s.slot.begun

runs : (low : Line) (n : ℕ) (place : ReceiverState) (begin fall : ℕ) (bits : List Bool) → StandsIn low n place begin fall bits → runs_in place begin ≡ Some begin → Runs low n begin bits
unfolding read_slots
runs low n place begin fall bits s e =
    let k = running_knows low n place begin fall bits begin s e in
    let over : nat_lt (reading_of low begin).at n ≡ false = k.over_is in
    record { begun = begun_in low n place begin fall bits s e; late = grind (arith, nat_tests); bits_are = k.bits_are }

running_ended : (low : Line) (t begin : ℕ) (bits : List Bool) → (r : Runs low (t + 1) begin bits) → ended_by low t ≡ map (reading_from low t) r.begun.past
running_ended low t begin bits r =
    ended_past low t r.begun.past r.begun.from r.begun.over
    (λ e f l. subst (λ x. t < (reading_of low x).at) (one_fall low r.begun.from begin e r.begun.first f) (omega (arith, r.late)))

-- what is reported of it
open_now : (low : Line) (t begin : ℕ) (bits : List Bool) → Runs low (t + 1) begin bits → reading_from low t begin ≡ ends_with begin t Open bits
open_now low t begin bits r =
    let late = r.late in
    ap (λ b. let x : Listed = record { begin = begin; reported = if b then reported_of (reading_of low begin) else record { bits = filter_map (λ s. s.bit) (known_at (t + 1) (reading_of low begin)).slots; ending = Open; at = t } } in x)
    (let x : nat_le (reading_of low begin).at t ≡ false = grind (arith, nat_tests) in x)
    ∙ ap (ends_with begin t Open) r.bits_are

ended_now : (low : Line) (t begin : ℕ) (bits : List Bool) → (reading_of low begin).at ≡ t → bits_of (reading_of low begin) ≡ bits → reading_from low t begin ≡ ends_with begin t (reading_of low begin).ending bits
ended_now low t begin bits at is =
    ap (λ b. let x : Listed = record { begin = begin; reported = if b then reported_of (reading_of low begin) else record { bits = filter_map (λ s. s.bit) (known_at (t + 1) (reading_of low begin)).slots; ending = Open; at = t } } in x)
    (let x : nat_le (reading_of low begin).at t ≡ true = grind (arith, nat_tests) in x)
    ∙ ap (λ (bs : List Bool). ends_with begin (reading_of low begin).at (reading_of low begin).ending bs) is ∙ ap (λ u. ends_with begin u (reading_of low begin).ending bits) at

-- ---- the readings, cut at t

rest_kept : (low : Line) (t begin fall : ℕ) (bits : List Bool) → AtRest low (t + 1) begin fall bits → readings_of low t ≡ ended_by low t ++ []
rest_kept low t begin fall bits s =
    all_past low t s.past s.from [] s.over (λ m l. quiet_left low t s.from s.quiet m)
    ∙ ap (λ (xs : List Listed). xs ++ [])
    (sym (ended_past low t s.past s.from s.over (λ e f l. let x : true ≡ false = sym f.falls ∙ s.quiet e f.after (omega (arith, l)) in cc)))

running_kept : (low : Line) (t begin : ℕ) (bits : List Bool) → Runs low (t + 1) begin bits → readings_of low t ≡ ended_by low t ++ ends_with begin t Open bits ∷ []
running_kept low t begin bits r =
    all_past low t r.begun.past r.begun.from (reading_from low t begin ∷ []) r.begun.over
    (λ m l. one_left low t r.begun.from begin r.begun.first (omega (arith, r.begun.before)) (omega (arith, r.late)) m l)
    ∙ ap (λ (x : Listed). map (reading_from low t) r.begun.past ++ x ∷ []) (open_now low t begin bits r)
    ∙ ap (λ (xs : List Listed). xs ++ ends_with begin t Open bits ∷ []) (sym (running_ended low t begin bits r))

kept_by_place : (low : Line) (t : ℕ) (place : ReceiverState) (begin fall : ℕ) (bits : List Bool) → StandsIn low (t + 1) place begin fall bits
    → readings_of low t ≡ ended_by low t ++ option_to_list (running_by (record { place = place; begin = begin; fall = fall; bits = bits }) t)
unfolding StandsIn
kept_by_place low t Rest begin fall bits s = rest_kept low t begin fall bits s
kept_by_place low t StartLow begin fall bits s = running_kept low t begin bits (runs low (t + 1) StartLow begin fall bits s refl)
kept_by_place low t StartHigh begin fall bits s = running_kept low t begin bits (runs low (t + 1) StartHigh begin fall bits s refl)
kept_by_place low t Unsampled begin fall bits s = running_kept low t begin bits (runs low (t + 1) Unsampled begin fall bits s refl)
kept_by_place low t Sampled begin fall bits s = running_kept low t begin bits (runs low (t + 1) Sampled begin fall bits s refl)

heard_now : (low : Line) (t : ℕ) → StandsIn low (t + 1) (hears low (suc t)).place (hears low (suc t)).begin (hears low (suc t)).fall (hears low (suc t)).bits
heard_now low t = subst (λ m. StandsIn low m (hears low (suc t)).place (hears low (suc t)).begin (hears low (suc t)).fall (hears low (suc t)).bits) (let x : suc t ≡ t + 1 = omega arith in x) (stands_at low (suc t))

pub running_is_kept : RunningIsKept
running_is_kept low t =
    kept_by_place low t (hears low (suc t)).place (hears low (suc t)).begin (hears low (suc t)).fall (hears low (suc t)).bits (heard_now low t)
    ∙ ap (λ h. ended_by low t ++ option_to_list (running_by h t)) (sym (kept_heard low t))

-- ---- what an instant ends

-- where no reading runs, the next microsecond ends none
rest_next : (low : Line) (t begin fall : ℕ) (bits : List Bool) → AtRest low (t + 1) begin fall bits → ended_by low (t + 1) ≡ ended_by low t
rest_next low t begin fall bits s =
    ended_past low (t + 1) s.past s.from (past_later low (t + 1) 0 s.past s.from s.over)
    (λ e f l. elim (cases_lt e (t + 1)) [
      | inl lt ↦ (let x : true ≡ false = sym f.falls ∙ s.quiet e f.after lt in cc)
      | inr ge ↦ omega (arith, ge, ends_after low e)
    ])
    ∙ same_past low t 0 s.past s.from s.over
    ∙ sym (ended_past low t s.past s.from s.over (λ e f l. let x : true ≡ false = sym f.falls ∙ s.quiet e f.after (omega (arith, l)) in cc))

-- where one runs that goes on
going_next : (low : Line) (t begin : ℕ) (bits : List Bool) → Runs low (t + 1) begin bits → t + 1 < (reading_of low begin).at → ended_by low (t + 1) ≡ ended_by low t
unfolding read_slots
going_next low t begin bits r late =
    ended_past low (t + 1) r.begun.past r.begun.from (past_later low (t + 1) 0 r.begun.past r.begun.from r.begun.over)
    (λ e f l. subst (λ x. t + 1 < (reading_of low x).at) (one_fall low r.begun.from begin e r.begun.first f) late)
    ∙ same_past low t 0 r.begun.past r.begun.from r.begun.over
    ∙ sym (running_ended low t begin bits r)

-- where one runs that ends with it
ending_next : (low : Line) (t begin : ℕ) (bits all : List Bool) → Runs low (t + 1) begin bits → (reading_of low begin).at ≡ t + 1 → known_bits (known_at (t + 1 + 1) (reading_of low begin)) ≡ all
    → ended_by low (t + 1) ≡ ended_by low t ++ ends_with begin (t + 1) (reading_of low begin).ending all ∷ []
ending_next low t begin bits all r at is =
    ended_past low (t + 1) (r.begun.past ++ begin ∷ []) ((reading_of low begin).until + 1)
    (past_more low (t + 1 + 1) 0 r.begun.past r.begun.from begin (past_later low (t + 1) 0 r.begun.past r.begun.from r.begun.over) r.begun.first (omega (arith, r.begun.before)) (omega (arith, at)))
    (λ e f l. omega (arith, f.after, l, at, at_by low begin, ends_after low e))
    ∙ map_more (reading_from low (t + 1)) r.begun.past begin
    ∙ ap (λ (xs : List Listed). xs ++ reading_from low (t + 1) begin ∷ []) (same_past low t 0 r.begun.past r.begun.from r.begun.over ∙ sym (running_ended low t begin bits r))
    ∙ ap (λ (x : Listed). ended_by low t ++ x ∷ [])
    (ended_now low (t + 1) begin all at (sym (all_bits low begin (t + 1 + 1) (omega (arith, at))) ∙ is))

-- by what was reported
reported_next : (low : Line) (t begin : ℕ) (bits : List Bool) (reported : Told) → Runs low (t + 1) begin bits → reported ≡ reported_in low (t + 1) (Some begin) → KnowsEnd low (t + 1) begin bits reported
    → ended_by low (t + 1) ≡ ended_by low t ++ option_to_list (ended_of reported (t + 1) (Some (ends_with begin (t + 1) Open bits)))
unfolding read_slots
reported_next low t begin bits reported r is knows = by_time ((reading_of low begin).at == t + 1) refl (sample_in (t + 1) 1 (known_at (t + 1 + 1) (reading_of low begin)).slots) reported is knows
  where
    none : (x : Told) → ended_of x (t + 1) (Some (ends_with begin (t + 1) Open bits)) ≡ None → (reading_of low begin).at ≢ t + 1
        → ended_by low (t + 1) ≡ ended_by low t ++ option_to_list (ended_of x (t + 1) (Some (ends_with begin (t + 1) Open bits)))
    none x e other =
        going_next low t begin bits r (elim (cases_lt (t + 1) (reading_of low begin).at) [ inl lt ↦ lt | inr ge ↦ absurd (other (omega (arith, ge, r.late))) ])
        ∙ sym (append-nil (ended_by low t)) ∙ ap (λ (o : Option Listed). ended_by low t ++ option_to_list o) (sym e)

    by_time : (b : Bool) → ((reading_of low begin).at == t + 1) ≡ b → (s : Option Sample) → (x : Told) → x ≡ reported_with s b (reading_of low begin).ending → KnowsEnd low (t + 1) begin bits x
        → ended_by low (t + 1) ≡ ended_by low t ++ option_to_list (ended_of x (t + 1) (Some (ends_with begin (t + 1) Open bits)))
    by_time true h None (Ended ending) e k =
        let same : ending ≡ (reading_of low begin).ending = cc in
        ending_next low t begin bits bits r (grind (arith, nat_tests)) k.bits_are
        ∙ ap (λ x. ended_by low t ++ ends_with begin (t + 1) x bits ∷ []) (sym same)
    by_time true h (Some s) (Last value ending) e k =
        let same : ending ≡ (reading_of low begin).ending = cc in
        ending_next low t begin bits (bits ++ value ∷ []) r (grind (arith, nat_tests)) k.0.bits_are
        ∙ ap (λ x. ended_by low t ++ ends_with begin (t + 1) x (bits ++ value ∷ []) ∷ []) (sym same)
    by_time true h None Nothing e k = cc
    by_time true h None (Bit slot value) e k = cc
    by_time true h None (Last value ending) e k = cc
    by_time true h (Some s) Nothing e k = cc
    by_time true h (Some s) (Bit slot value) e k = cc
    by_time true h (Some s) (Ended ending) e k = cc
    by_time false h s Nothing e k = none Nothing refl (λ x. let y : ((reading_of low begin).at == t + 1) ≡ true = grind (arith, nat_tests) in let z : true ≡ false = sym y ∙ h in cc)
    by_time false h s (Bit slot value) e k = none (Bit slot value) refl (λ x. let y : ((reading_of low begin).at == t + 1) ≡ true = grind (arith, nat_tests) in let z : true ≡ false = sym y ∙ h in cc)
    by_time false h None (Last value ending) e k = cc
    by_time false h (Some s) (Last value ending) e k = cc
    by_time false h None (Ended ending) e k = cc
    by_time false h (Some s) (Ended ending) e k = cc

-- by the place
place_next : (low : Line) (t : ℕ) (place : ReceiverState) (begin fall : ℕ) (bits : List Bool) (reported : Told) → StandsIn low (t + 1) place begin fall bits → reported ≡ reported_in low (t + 1) (runs_in place begin)
    → KnowsEnd low (t + 1) begin bits reported
    → ended_by low (t + 1) ≡ ended_by low t ++ option_to_list (ended_of reported (t + 1) (running_by (record { place = place; begin = begin; fall = fall; bits = bits }) (t + 1)))
unfolding StandsIn
place_next low t Rest begin fall bits reported s e k =
    rest_next low t begin fall bits s ∙ sym (append-nil (ended_by low t)) ∙ ap (λ (o : Option Listed). ended_by low t ++ option_to_list o) (sym (ap (λ x. ended_of x (t + 1) None) e))
place_next low t StartLow begin fall bits reported s e k = reported_next low t begin bits reported (runs low (t + 1) StartLow begin fall bits s refl) e k
place_next low t StartHigh begin fall bits reported s e k = reported_next low t begin bits reported (runs low (t + 1) StartHigh begin fall bits s refl) e k
place_next low t Unsampled begin fall bits reported s e k = reported_next low t begin bits reported (runs low (t + 1) Unsampled begin fall bits s refl) e k
place_next low t Sampled begin fall bits reported s e k = reported_next low t begin bits reported (runs low (t + 1) Sampled begin fall bits s refl) e k

reported_now : (low : Line) (t : ℕ) → ended_by low (t + 1) ≡ ended_by low t
    ++ option_to_list (ended_of (hear_in (t + 1) (was_low low (t + 1)) (low (t + 1)) (hears low (suc t))).reported (t + 1) (running_by (hears low (suc t)) (t + 1)))
unfolding read_slots
reported_now low t =
    let s = step low (t + 1) (hears low (suc t)).place (hears low (suc t)).begin (hears low (suc t)).fall (hears low (suc t)).bits (heard_now low t) in
    place_next low t (hears low (suc t)).place (hears low (suc t)).begin (hears low (suc t)).fall (hears low (suc t)).bits
    (hear_in (t + 1) (was_low low (t + 1)) (low (t + 1)) (hears low (suc t))).reported (heard_now low t) s.reported s.ends

none_first : (low : Line) → ended_by low 0 ≡ []
none_first low = ended_past low 0 [] 0 refl (λ e f l. omega (arith, ends_after low e, l))

pub endings_are_reported : EndingsAreReported
endings_are_reported low zero = none_first low
endings_are_reported low (suc t) =
    let same : t + 1 ≡ suc t = omega arith in
    let h : ended_by low (suc t) ≡ ended_by low t
    ++ option_to_list (ended_of (hear_in (suc t) (was_low low (suc t)) (low (suc t)) (hears low (suc t))).reported (suc t) (running_by (hears low (suc t)) (suc t))) =
    subst (λ m. ended_by low m ≡ ended_by low t ++ option_to_list (ended_of (hear_in m (was_low low m) (low m) (hears low (suc t))).reported m (running_by (hears low (suc t)) m))) same (reported_now low t) in
    h ∙ ap (λ x. ended_by low t ++ option_to_list (ended_of x (suc t) (running_by (hears low (suc t)) (suc t)))) (sym (reported_heard low (suc t)))
    ∙ ap (λ x. ended_by low t ++ option_to_list (ended_of (reported_at low (suc t)) (suc t) (running_by x (suc t)))) (sym (kept_heard low t))

-- ---- what has ended stays

ended_on : (low : Line) (t m : ℕ) → (zs : List Listed) × (ended_by low (t + m) ≡ ended_by low t ++ zs)
ended_on low t zero = ([], ap (ended_by low) (let x : t + zero ≡ t = omega arith in x) ∙ sym (append-nil (ended_by low t)))
ended_on low t (suc m) =
    let before = ended_on low t m in
    let reported : List Listed = option_to_list (ended_of (reported_at low (suc (t + m))) (suc (t + m)) (running_by (kept_before low (suc (t + m))) (suc (t + m)))) in (
      before.0 ++ reported,
      ap (ended_by low) (let x : t + suc m ≡ suc (t + m) = omega arith in x) ∙ endings_are_reported low (suc (t + m)) ∙ ap (λ (xs : List Listed). xs ++ reported) before.1
          ∙ append_assoc (ended_by low t) before.0 reported,
    )

-- the readings that have ended by an instant are the first of those of a later one
pub ended_first : EndedAreFirst
ended_first low t u l =
    let on = ended_on low t (u - t) in
    let last : List Listed = option_to_list (running_by (kept_of low u) u) in (
      on.0 ++ last,
      running_is_kept low u ∙ ap (λ (xs : List Listed). xs ++ last) (ap (ended_by low) (let x : u ≡ t + (u - t) = omega (arith, l) in x) ∙ on.1) ∙ append_assoc (ended_by low t) on.0 last,
    )
