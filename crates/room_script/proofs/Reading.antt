-- How a line is read, part by part.
use Rattle.std.proofs.Common.{◌≡◌, ℕ, ◌<◌, true, false, if◌then◌else◌, List, [], ◌∷◌, ◌++◌, length, Option, Result, Ok, Err, refl, sym, ap, subst, ◌∙◌, append_assoc, arith}
use Rattle.std.proofs.lemmas.List.Splits.{join_with_byte-slice_split}
use Rattle.edid_tree.specs.Node.{Node}
use Rattle.edid_tree.specs.Tree.{device_named}
use Rattle.text_core.specs.Words.{words_after, words_of, text_of}
use Rattle.text_core.specs.At.{at_word}
use Rattle.text_core.specs.declared.at.AtWord.{AtWord}
use Rattle.room_script.specs.declared.script.ScriptCause.{ScriptCause}
use Rattle.room_script.specs.declared.script.ScriptCause.TheVariants.{Word}
use Rattle.room_script.specs.declared.script.ScriptLineError.{ScriptLineError}
use Rattle.room_script.specs.declared.script.ScriptLineError.TheVariants.{Fault, Memory}
use Rattle.room_event.specs.declared.event.HeaderNames.{HeaderNames}
use Rattle.text_core.proofs.PartedLemmas.{words_of-some}
use Rattle.room_script.specs.Header.{has_names, digits_of, with_digits, digits_text, header_names}
use Rattle.room_script.specs.Lines.{LinesEnd, LinesFollow}
use Rattle.std.specs.Option.{option_copied}
use Rattle.room_script.specs.declared.sending.HandedIn.{HandedIn}
use Rattle.room_script.specs.Sending.{Handed, handed_as, handed_in, IsFrameRead}
use Rattle.room_script.specs.Script.{Notes, send_read, course_at_end, IsHandedRead, AreLinesRead, GivesNotes, Gives}

pub text_of-words_of : (text : List ℕ) → text_of (words_of text) ≡ text
text_of-words_of text = join_with_byte-slice_split 32 text

-- words after a first one
text_spaced : (word rest : List ℕ) → text_of (word ∷ words_of rest) ≡ word ++ 32 ∷ rest
text_spaced word rest = by (words_of rest) (words_of-some rest) ∙ ap (λ (t : List ℕ). word ++ 32 ∷ t) (text_of-words_of rest)
  where
    by : (words : List (List ℕ)) → 0 < length words → text_of (word ∷ words) ≡ word ++ 32 ∷ text_of words
    by [] some = absurd (omega arith)
    by (next ∷ words) some = refl

pub text_added : (word pushed text rest : List ℕ) → pushed ≡ word ++ 32 ∷ [] → text ≡ pushed ++ rest → text ≡ text_of (word ∷ words_of rest)
text_added word pushed text rest space added = added ∙ ap (λ (t : List ℕ). t ++ rest) space ∙ append_assoc word (32 ∷ []) rest ∙ sym (text_spaced word rest)

-- from a value that is read to a relation
pub gives : (P : Result Notes (AtWord ScriptCause) → Type 0) (now : Notes) (result : Result Unit ScriptLineError) (read : Result Notes (AtWord ScriptCause)) → GivesNotes now result read → P read → Gives now result P
gives P now (Ok done) read g p = subst P g p
gives P now (Err Memory) read g p = tt
gives P now (Err (Fault fault)) read g p = subst P g p

-- a text as it is, where its header has no names
pub plain_text : (text word : List ℕ) (others : List (List ℕ)) → words_of text ≡ word ∷ others → has_names word ≡ false → digits_text (words_of text) ≡ text
plain_text text word others parted plain =
    let header : with_digits word ≡ word = ap (λ b. if b then digits_of word else word) plain in
    ap digits_text parted ∙ ap (λ w. text_of (w ∷ others)) header ∙ sym (ap text_of parted) ∙ text_of-words_of text

-- and with digits, where it has some
pub named_text : (text word : List ℕ) (others : List (List ℕ)) → words_of text ≡ word ∷ others → has_names word ≡ true → digits_text (words_of text) ≡ text_of (digits_of word ∷ others)
named_text text word others parted named =
    let header : with_digits word ≡ digits_of word = ap (λ b. if b then digits_of word else word) named in
    ap digits_text parted ∙ ap (λ w. text_of (w ∷ others)) header

-- what is handed in is what these words say
abbrev pub IsHanded : HandedIn → List (List ℕ) → Type 0
IsHanded h rest = handed_as h ≡ handed_in rest

-- a frame that is handed in after a name
pub gives_send : (tree : List Node) (notes now : Notes) (line : ℕ) (time : Option ℕ) (name named : List ℕ) (rest left : List (List ℕ)) (h : HandedIn) (frame word : List ℕ) (others : List (List ℕ)) (result : Result Unit ScriptLineError)
    (instant device : Option ℕ) (names : Option (Option HeaderNames)) (r : Result (List ℕ) (AtWord ScriptCause)) → named ≡ name → left ≡ rest → IsHanded h left → words_after (option_copied h.frame) ≡ words_of frame
    → words_of frame ≡ word ∷ others → instant ≡ time → device ≡ device_named tree named → names ≡ header_names tree word → IsFrameRead h.at (words_of frame) r
    → GivesNotes now result (send_read notes line h.at instant h.attempts device names r) → Gives now result (IsHandedRead tree notes line time name (handed_in rest).at (handed_in rest).attempts (handed_in rest).words)
gives_send tree notes now line time name named rest left h frame word others result instant device names r of_name are handed_left whole parted same_time same_device same_names is g =
    let handed = subst (IsHanded h) are handed_left in
    let known : device ≡ device_named tree name = same_device ∙ ap (device_named tree) of_name in
    let same : send_read notes line h.at instant h.attempts device names r ≡ send_read notes line h.at time h.attempts (device_named tree name) (header_names tree word) r = cc in
    let read = subst (GivesNotes now result) same g in
    let Said : List (List ℕ) → Type 0 = λ w. IsFrameRead h.at w r in
    let By : List (List ℕ) → Type 0 = λ w. Gives now result (IsHandedRead tree notes line time name h.at h.attempts w) in
    let As : Handed → Type 0 = λ k. Gives now result (IsHandedRead tree notes line time name k.at k.attempts k.words) in
    let given = gives (IsHandedRead tree notes line time name h.at h.attempts (word ∷ others)) now result _ read (r, subst Said parted is, refl) in
    subst As handed (subst By (sym (whole ∙ parted)) given)

-- where nothing is
pub none_handed : (tree : List Node) (notes : Notes) (line : ℕ) (time : Option ℕ) (name : List ℕ) (rest left : List (List ℕ)) (h : HandedIn) → left ≡ rest → IsHanded h left → words_after (option_copied h.frame) ≡ []
    → IsHandedRead tree notes line time name (handed_in rest).at (handed_in rest).attempts (handed_in rest).words (Err (at_word h.at Word))
none_handed tree notes line time name rest left h are handed_left none =
    let handed = subst (IsHanded h) are handed_left in
    let By : List (List ℕ) → Type 0 = λ w. IsHandedRead tree notes line time name h.at h.attempts w (Err (at_word h.at Word)) in
    let As : Handed → Type 0 = λ k. IsHandedRead tree notes line time name k.at k.attempts k.words (Err (at_word h.at Word)) in
    subst As handed (subst By (sym none) refl)

-- the first of some lines, and those after it
pub line_read : LinesFollow
line_read tree texts after text line notes next read split first rest =
    let P : List (List ℕ) → Type 0 = λ t. AreLinesRead tree t line notes read in subst P (sym split) (Ok next, first, rest)

-- after the last line
pub last_line : LinesEnd
last_line tree texts line notes none =
    let read = course_at_end notes line notes.end in
    let P : List (List ℕ) → Type 0 = λ t. AreLinesRead tree t line notes read in
    subst P (sym none) refl
