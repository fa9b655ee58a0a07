-- Acknowledge slots decide nothing.
use Rattle.std.proofs.Common.{◌≡◌, ℕ, ◌+◌, Bool, true, false, not, if◌then◌else◌, List, [], ◌∷◌, ◌++◌, length, refl, ap, ◌∙◌, sym}
use Rattle.std.specs.List.{list_any}
use Rattle.line_frames.specs.Bits.{byte_bits, frame_bits, comes_before, least_among, least_places}
use Rattle.line_frames.specs.Arbitration.{deciding_bits, is_least_by, least_places_by, AcksDecideNothing, SameWinners}

-- after as many bits, what follows decides, or is decided, alike
after_bits : (xs ys as_ bs cs ds : List Bool) → length xs ≡ length ys → comes_before as_ bs ≡ comes_before cs ds
    → comes_before (xs ++ as_) (ys ++ bs) ≡ comes_before (xs ++ cs) (ys ++ ds)
after_bits [] [] as_ bs cs ds e h = h
after_bits [] (y ∷ ys) as_ bs cs ds e h = cc
after_bits (x ∷ xs) [] as_ bs cs ds e h = cc
after_bits (false ∷ xs) (true ∷ ys) as_ bs cs ds e h = refl
after_bits (true ∷ xs) (false ∷ ys) as_ bs cs ds e h = refl
after_bits (false ∷ xs) (false ∷ ys) as_ bs cs ds e h = after_bits xs ys as_ bs cs ds (let k : length xs ≡ length ys = cc in k) h
after_bits (true ∷ xs) (true ∷ ys) as_ bs cs ds e h = after_bits xs ys as_ bs cs ds (let k : length xs ≡ length ys = cc in k) h

-- nothing comes before no bits
no_bits_last : (xs : List Bool) → comes_before xs [] ≡ false
no_bits_last [] = refl
no_bits_last (false ∷ xs) = refl
no_bits_last (true ∷ xs) = refl

pub acks_decide_nothing : AcksDecideNothing
acks_decide_nothing [] g = refl
acks_decide_nothing (b ∷ []) [] = no_bits_last (deciding_bits (b ∷ [])) ∙ sym (no_bits_last (frame_bits (b ∷ [])))
acks_decide_nothing (b ∷ c ∷ bs) [] = no_bits_last (deciding_bits (b ∷ c ∷ bs)) ∙ sym (no_bits_last (frame_bits (b ∷ c ∷ bs)))
acks_decide_nothing (b ∷ []) (d ∷ []) = after_bits (byte_bits b) (byte_bits d) (true ∷ []) (true ∷ []) (true ∷ true ∷ []) (true ∷ true ∷ []) refl refl
acks_decide_nothing (b ∷ []) (d ∷ e ∷ ds) = after_bits (byte_bits b) (byte_bits d) (true ∷ []) (false ∷ deciding_bits (e ∷ ds)) (true ∷ true ∷ []) (false ∷ true ∷ frame_bits (e ∷ ds)) refl refl
acks_decide_nothing (b ∷ c ∷ bs) (d ∷ []) = after_bits (byte_bits b) (byte_bits d) (false ∷ deciding_bits (c ∷ bs)) (true ∷ []) (false ∷ true ∷ frame_bits (c ∷ bs)) (true ∷ true ∷ []) refl refl
acks_decide_nothing (b ∷ c ∷ bs) (d ∷ e ∷ ds) =
    after_bits (byte_bits b) (byte_bits d) (false ∷ deciding_bits (c ∷ bs)) (false ∷ deciding_bits (e ∷ ds)) (false ∷ true ∷ frame_bits (c ∷ bs)) (false ∷ true ∷ frame_bits (e ∷ ds)) refl
    (acks_decide_nothing (c ∷ bs) (e ∷ ds))

any_alike : (p q : List ℕ → Bool) (fs : List (List ℕ)) → ((f : List ℕ) → p f ≡ q f) → list_any p fs ≡ list_any q fs
any_alike p q [] h = refl
any_alike p q (f ∷ fs) h = rw (h f, any_alike p q fs h) refl

least_alike : (frames : List (List ℕ)) (f : List ℕ) → is_least_by deciding_bits frames f ≡ least_among frames f
least_alike frames f =
    ap not (any_alike (λ g. comes_before (deciding_bits g) (deciding_bits f)) (λ g. comes_before (frame_bits g) (frame_bits f)) frames (λ g. acks_decide_nothing g f))

places_alike : (frames : List (List ℕ)) (place : ℕ) (fs : List (List ℕ)) → least_places_by deciding_bits frames place fs ≡ least_places frames place fs
places_alike frames place [] = refl
places_alike frames place (f ∷ fs) =
    ap (λ b. if b then place ∷ least_places_by deciding_bits frames (place + 1) fs else least_places_by deciding_bits frames (place + 1) fs) (least_alike frames f)
    ∙ ap (λ ps. if least_among frames f then place ∷ ps else ps) (places_alike frames (place + 1) fs)

pub same_winners : SameWinners
same_winners frames = places_alike frames 0 frames
