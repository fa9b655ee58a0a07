-- A text that is read as a script is read in no other way.
use Rattle.std.proofs.Common.{◌≡◌, ℕ, ◌+◌, Bool, true, false, cond, codes, List, [], ◌∷◌, length, Option, Some, None, Result, Ok, Err, refl, sym, ap, subst, ◌∙◌}
use Rattle.std.specs.Str.{bytes_eq}
use Rattle.text_forms.specs.Forms.{Meaning, Said as SaidBy, late_time_at, text_at, words_at}
use Rattle.room_lines.specs.declared.script.ScriptVerb.{ScriptVerb}
use Rattle.room_lines.specs.declared.script.ScriptVerb.TheVariants as verbs
use Rattle.edid_tree.specs.Node.{Node}
use Rattle.edid_tree.specs.Tree.{device_named}
use Rattle.text_core.specs.Lines.{lines_of, is_skipped}
use Rattle.message_text.specs.declared.assembler.AssembleError.{AssembleError}
use Rattle.text_core.specs.Words.{text_of, words_of}
use Rattle.message_hex.specs.Bytes.{frame_in}
use Rattle.room_event.specs.declared.event.HeaderNames.{HeaderNames}
use Rattle.room_script.specs.Header.{header_names, digits_text}
use Rattle.text_core.specs.declared.at.AtWord.{AtWord}
use Rattle.room_script.specs.declared.script.ScriptCause.{ScriptCause}
use Rattle.room_script.specs.Sending.{frame_read, handed_in, hex_read, IsFrameOf, IsFrameRead, IsTextRead}
use Rattle.room_script.specs.Script.{IsSaid, IsSaidRead, line_said, Course, Notes, send_read, no_notes, IsHandedRead, IsLineRead, Onward, AreLinesRead, OneScript}
use Rattle.text_core.specs.declared.at.At.{At}

-- a frame's text is no other's
one_frame : (text frame : List ℕ) (r : Result (List ℕ) AssembleError) → IsFrameOf text (Ok frame) → IsFrameOf text r → r ≡ Ok frame
one_frame text frame (Ok other) h g = ap Ok (sym (h.1 other g.0))
one_frame text frame (Err cause) h g = absurd (g.1 frame h.0)

same_way : (b : Bool) (P Q P2 Q2 R : Type 0) → (P → P2 → R) → (Q → Q2 → R) → cond {A = Type 0} b P Q → cond {A = Type 0} b P2 Q2 → R
same_way true P Q P2 Q2 R f g h k = f h k
same_way false P Q P2 Q2 R f g h k = g h k

-- what words say as a frame they say in no other way
one_text : (at : ℕ) (words : List (List ℕ)) (frame : List ℕ) (read : Result (List ℕ) (AtWord ScriptCause)) → IsTextRead at words (Ok frame) → IsTextRead at words read → read ≡ Ok frame
one_text at words frame read h g = by h.0 g.0 h.1 g.1 h.2 g.2
  where
    by : (r q : Result (List ℕ) AssembleError) → IsFrameOf (digits_text words) r → IsFrameOf (digits_text words) q → Ok frame ≡ frame_read at r → read ≡ frame_read at q → read ≡ Ok frame
    by (Err cause) q p s e k = cc
    by (Ok f) q p s e k = k ∙ ap (frame_read at) (one_frame (digits_text words) f q p s) ∙ sym e

one_said : (at : ℕ) (words : List (List ℕ)) (frame : List ℕ) (read : Result (List ℕ) (AtWord ScriptCause)) → IsFrameRead at words (Ok frame) → IsFrameRead at words read → read ≡ Ok frame
one_said at [] frame read h g = cc
one_said at (word ∷ words) frame read h g =
    same_way (bytes_eq word (codes "hex")) (Ok frame ≡ hex_read (at + 1) (frame_in (text_of words))) (IsTextRead at (word ∷ words) (Ok frame)) (read ≡ hex_read (at + 1) (frame_in (text_of words)))
    (IsTextRead at (word ∷ words) read) (read ≡ Ok frame) (λ p q. q ∙ sym p) (λ p q. one_text at (word ∷ words) frame read p q) h g

-- what two readings of a frame make of the notes, where the first takes it
one_send_read : (notes next : Notes) (line at : ℕ) (time : Option ℕ) (attempts : Option (Option ℕ)) (device : Option ℕ) (names : Option (Option HeaderNames)) (r q : Result (List ℕ) (AtWord ScriptCause))
    → ((frame : List ℕ) → r ≡ Ok frame → q ≡ Ok frame) → Ok next ≡ send_read notes line at time attempts device names r → send_read notes line at time attempts device names q ≡ Ok next
one_send_read notes next line at None attempts device names r q f e = cc
one_send_read notes next line at (Some time) None device names r q f e = cc
one_send_read notes next line at (Some time) (Some attempts) None names r q f e = cc
one_send_read notes next line at (Some time) (Some attempts) (Some device) None r q f e = cc
one_send_read notes next line at (Some time) (Some attempts) (Some device) (Some names) (Err fault) q f e = cc
one_send_read notes next line at (Some time) (Some attempts) (Some device) (Some names) (Ok frame) q f e =
    ap (send_read notes line at (Some time) (Some attempts) (Some device) (Some names)) (f frame refl) ∙ sym e

one_handed : (tree : List Node) (notes next : Notes) (line : ℕ) (time : Option ℕ) (name : List ℕ) (at : ℕ) (attempts : Option (Option ℕ)) (words : List (List ℕ)) (read : Result Notes (AtWord ScriptCause))
    → IsHandedRead tree notes line time name at attempts words (Ok next) → IsHandedRead tree notes line time name at attempts words read → read ≡ Ok next
one_handed tree notes next line time name at attempts [] read h g = cc
one_handed tree notes next line time name at attempts (word ∷ words) read h g =
    let Said : Result (List ℕ) (AtWord ScriptCause) → Type 0 = λ r. IsFrameRead at (word ∷ words) r in
    g.2 ∙ one_send_read notes next line at time attempts (device_named tree name) (header_names tree word) h.0 g.0 (λ frame e. one_said at (word ∷ words) frame g.0 (subst Said e h.1) g.1) h.2

one_form : (tree : List Node) (notes next : Notes) (waiting line : ℕ) (verb : ScriptVerb) (values : List Meaning) (read : Result Notes (AtWord ScriptCause)) → IsSaid tree notes waiting line verb values (Ok next)
    → IsSaid tree notes waiting line verb values read → read ≡ Ok next
one_form tree notes next waiting line (verbs.Press word) values read h g = g ∙ sym h
one_form tree notes next waiting line (verbs.Release word) values read h g = g ∙ sym h
one_form tree notes next waiting line verbs.Plug values read h g = g ∙ sym h
one_form tree notes next waiting line verbs.Unplug values read h g = g ∙ sym h
one_form tree notes next waiting line verbs.Send values read h g =
    let handed = handed_in (words_at values 4) in
    one_handed tree notes next line (late_time_at values 1) (text_at values 3) handed.at handed.attempts handed.words read h g
one_form tree notes next waiting line verbs.Hold values read h g = g ∙ sym h
one_form tree notes next waiting line verbs.Drop values read h g = g ∙ sym h
one_form tree notes next waiting line verbs.Pulse values read h g = g ∙ sym h
one_form tree notes next waiting line verbs.Pull values read h g = g ∙ sym h
one_form tree notes next waiting line verbs.Pin values read h g = g ∙ sym h
one_form tree notes next waiting line verbs.End values read h g = g ∙ sym h

one_read : (tree : List Node) (notes next : Notes) (waiting line : ℕ) (said : SaidBy ScriptVerb) (read : Result Notes (AtWord ScriptCause)) → IsSaidRead tree notes waiting line said (Ok next)
    → IsSaidRead tree notes waiting line said read → read ≡ Ok next
one_read tree notes next waiting line (Err fault) read h g = cc
one_read tree notes next waiting line (Ok said) read h g = one_form tree notes next waiting line said.0 said.1 read h g

one_line : (tree : List Node) (notes next : Notes) (waiting line : ℕ) (text : List ℕ) (read : Result Notes (AtWord ScriptCause)) → IsLineRead tree notes waiting line text (Ok next) → IsLineRead tree notes waiting line text read → read ≡ Ok next
one_line tree notes next waiting line text read h g =
    same_way (is_skipped text) (Ok next ≡ Ok notes) (IsSaidRead tree notes waiting line (line_said (words_of text)) (Ok next)) (read ≡ Ok notes) (IsSaidRead tree notes waiting line (line_said (words_of text)) read) (read ≡ Ok next)
    (λ p q. q ∙ sym p) (λ p q. one_read tree notes next waiting line (line_said (words_of text)) read p q) (h) g

lines_one : (tree : List Node) (texts : List (List ℕ)) (line : ℕ) (notes : Notes) (course : Course) (read : Result Course (At ScriptCause)) → AreLinesRead tree texts line notes (Ok course) → AreLinesRead tree texts line notes read
    → read ≡ Ok course
lines_one tree [] line notes course read h g = g ∙ sym h
lines_one tree (text ∷ texts) line notes course read h g =
    step h.0 g.0 h.1 g.1 h.2 g.2 (λ next p q. lines_one tree texts (line + 1) next course read p q)
  where
    step : (r q : Result Notes (AtWord ScriptCause)) → IsLineRead tree notes (length notes.pulses) line text r → IsLineRead tree notes (length notes.pulses) line text q
        → Onward line r (λ next. AreLinesRead tree texts (line + 1) next (Ok course)) (Ok course) → Onward line q (λ next. AreLinesRead tree texts (line + 1) next read) read
        → ((next : Notes) → AreLinesRead tree texts (line + 1) next (Ok course) → AreLinesRead tree texts (line + 1) next read → read ≡ Ok course) → read ≡ Ok course
    step (Err cause) q l m a b later = cc
    step (Ok next) (Err cause) l m a b later = let same = one_line tree notes next (length notes.pulses) line text (Err cause) l m in cc
    step (Ok next) (Ok other) l m a b later =
        let same = one_line tree notes next (length notes.pulses) line text (Ok other) l m in
        let equal : other ≡ next = cc in
        let P : Notes → Type 0 = λ n. AreLinesRead tree texts (line + 1) n read in
        later next a (subst P equal b)

pub one_script : OneScript
one_script tree text course read h g = lines_one tree (lines_of text) 1 no_notes course read h g
