-- Lines that come one after another.
use Rattle.std.proofs.Common.{◌≡◌, ◌≢◌, ◌≤◌, ℕ, ◌++◌, Bool, true, false, List, [], ◌∷◌, length, codes, inl, inr, Option, Some, None, IfSome, Err, refl, sym, ap, subst, ◌∙◌, append_assoc, append-nil}
use Rattle.std.specs.Io.KnownBytes.{IsAtEnd}
use Rattle.std.specs.Str.{bytes_eq}
use Rattle.std.proofs.lemmas.Bool.{false≢true}
use Rattle.std.proofs.lemmas.Slice.Eq.{bytes_eq-Decides}
use Rattle.std.proofs.lemmas.Grind.{flat_map-append}
use Rattle.std.proofs.lemmas.List.Elements.{All-append, All-cons, All-nil}
use Rattle.text_core.specs.Lines.{lines_of}
use Rattle.live_incoming.specs.Incoming.{IsWhole, Leads, text_of_lines, longest_line}
use Rattle.live_dialogue.specs.declared.error.SessionError.{SessionError}
use Rattle.live_dialogue.specs.declared.error.SessionError.TheVariants.{Read, TooLong, NoScriptLine, Topology, Edid, Script, Write, Memory}
use Rattle.live_dialogue.specs.Dialogue.{AreFirst, Come, HasCome, HasNoScript, HasRoom, IsOpened, IsOpening, IsShort, IsTopologyLine, longest_topology}

pub come_none : (known : Option (List ℕ)) → Come known known []
come_none None = tt
come_none (Some text) = refl

pub come_more : (before mid after : Option (List ℕ)) (lines : List (List ℕ)) (line : List ℕ) → Come before mid lines → Leads mid after line → Come before after (lines ++ line ∷ [])
come_more None mid after lines line a b = tt
come_more (Some x) None after lines line a b = absurd a
come_more (Some x) (Some y) None lines line a b = absurd b
come_more (Some x) (Some y) (Some z) lines line a b = a ∙ ap (λ l. lines ++ l) b ∙ sym (append_assoc lines (line ∷ []) (lines_of z))

-- ---- before the line `script`

pub come_start : (known : Option (List ℕ)) (text : List ℕ) → text ≡ [] → HasCome known known text
come_start known text empty = record { lines = []; spelled = empty; whole = All-nil IsWhole; short = All-nil IsShort; others = All-nil (λ line. line ≢ codes "script"); come = come_none known }

pub come_on : (before mid after : Option (List ℕ)) (text new line : List ℕ) → HasCome before mid text → IsWhole line × Leads mid after line → length line ≤ longest_line → line ≢ codes "script" → new ≡ text ++ (line ++ 10 ∷ [])
    → HasCome before after new
come_on before mid after text new line o l short other more = record {
  lines = o.lines ++ line ∷ [];
  spelled = more ∙ ap (λ t. t ++ (line ++ 10 ∷ [])) o.spelled ∙ ap (λ t. text_of_lines o.lines ++ t) (sym (append-nil (line ++ 10 ∷ [])))
      ∙ sym (flat_map-append (λ (line : List ℕ). line ++ 10 ∷ []) o.lines (line ∷ []));
  whole = All-append IsWhole o.lines (line ∷ []) o.whole (All-cons IsWhole line [] l.0 (All-nil IsWhole));
  short = All-append IsShort o.lines (line ∷ []) o.short (All-cons IsShort line [] short (All-nil IsShort));
  others = All-append (λ line. line ≢ codes "script") o.lines (line ∷ []) o.others (All-cons (λ line. line ≢ codes "script") line [] other (All-nil (λ line. line ≢ codes "script")));
  come = come_more before mid after o.lines line o.come l.1;
}

open_at : (before mid after : Option (List ℕ)) (text line : List ℕ) → HasCome before mid text → IsWhole line × Leads mid after line → line ≡ codes "script" → IsOpened before after text
open_at before mid after text line o l is = record {
  lines = o.lines;
  spelled = o.spelled;
  whole = o.whole;
  others = o.others;
  come = subst (λ (line : List ℕ). Come before after (o.lines ++ line ∷ [])) is (come_more before mid after o.lines line o.come l.1);
}

with_room : (before mid : Option (List ℕ)) (text : List ℕ) (o : HasCome before mid text) → length text ≤ longest_topology → IfSome before (AreFirst o.lines) → HasRoom before
with_room before mid text o fits first = record { lines = o.lines; others = o.others; short = o.short; fits = subst (λ (t : List ℕ). length t ≤ longest_topology) o.spelled fits; first = first }

pub opened : (before mid after : Option (List ℕ)) (text line : List ℕ) → HasCome before mid text → length text ≤ longest_topology → IsWhole line × Leads mid after line → line ≡ codes "script" → IsOpened before after text × HasRoom before
opened before mid after text line o fits l is = (open_at before mid after text line o l is, with_room before mid text o fits (first before mid after o.lines line o.come l.1 is))
  where
    first : (before mid after : Option (List ℕ)) (lines : List (List ℕ)) (line : List ℕ) → Come before mid lines → Leads mid after line → line ≡ codes "script" → IfSome before (AreFirst lines)
    first None mid after lines line a b is = tt
    first (Some x) None after lines line a b is = absurd a
    first (Some x) (Some y) None lines line a b is = absurd b
    first (Some x) (Some y) (Some z) lines line a b is = inr (lines_of z, a ∙ ap (λ l. lines ++ l) b ∙ ap (λ l. lines ++ l ∷ lines_of z) is)

all_lines : (before mid : Option (List ℕ)) (lines : List (List ℕ)) → Come before mid lines → IsAtEnd mid → IfSome before (λ text. lines_of text ≡ lines)
all_lines None mid lines a b = tt
all_lines (Some x) None lines a b = absurd a
all_lines (Some x) (Some y) lines a b = a ∙ ap (λ (t : List ℕ). lines ++ lines_of t) b ∙ append-nil lines

first_of_all : (before : Option (List ℕ)) (lines : List (List ℕ)) → IfSome before (λ text. lines_of text ≡ lines) → IfSome before (AreFirst lines)
first_of_all None lines a = tt
first_of_all (Some x) lines a = inl a

no_script : (before mid : Option (List ℕ)) (text : List ℕ) → HasCome before mid text → length text ≤ longest_topology → IsAtEnd mid → HasNoScript before × HasRoom before
no_script before mid text o fits end =
    let all = all_lines before mid o.lines o.come end in (record { lines = o.lines; others = o.others; all = all }, with_room before mid text o fits (first_of_all before o.lines all))

-- no further line could be read
pub unopened : (before mid after : Option (List ℕ)) (text line : List ℕ) (error : SessionError) → HasCome before mid text → length text ≤ longest_topology → IsTopologyLine mid after line (Err error) → IsOpening before after (Err error)
unopened before mid after text line NoScriptLine o fits l = no_script before mid text o fits l
unopened before mid after text line Read o fits l = tt
unopened before mid after text line TooLong o fits l = inl (text, mid, o, fits, l)
unopened before mid after text line Memory o fits l = absurd l
unopened before mid after text line (Topology at cause word) o fits l = absurd l
unopened before mid after text line (Edid cause) o fits l = absurd l
unopened before mid after text line (Script at cause) o fits l = absurd l
unopened before mid after text line (Write count) o fits l = absurd l

pub is_it : (is : Bool) (line : List ℕ) → is ≡ bytes_eq line (codes "script") → is ≡ true → line ≡ codes "script"
is_it is line e f = (bytes_eq-Decides line (codes "script")).0 (sym e ∙ f)

pub not_it : (is : Bool) (line : List ℕ) → is ≡ bytes_eq line (codes "script") → is ≡ false → line ≢ codes "script"
not_it is line e f same = false≢true (sym f ∙ e ∙ (bytes_eq-Decides line (codes "script")).1 same)
