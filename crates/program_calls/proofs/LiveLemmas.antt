-- What a session writes is the text that the program makes of its input.
use Rattle.std.proofs.Common.{◌≡◌, ◌≢◌, ℕ, ◌==◌, Bool, true, false, not, codes, List, [], ◌∷◌, ◌++◌, Option, Some, None, All, refl, sym, ap, subst, ◌∙◌, append-nil}
use Rattle.std.specs.Io.KnownBytes.{Appends, Keeps, append_known}
use Rattle.std.proofs.lemmas.Bool.{false≢true}
use Rattle.std.proofs.lemmas.List.Elements.{All-append, All-cons, All-nil, All-weaker}
use Rattle.std.proofs.lemmas.List.Sums.{AllPass-from_list_all}
use Rattle.text_core.specs.declared.buffered.Buffered.{Buffered}
use Rattle.text_core.specs.Buffered.{below, pending}
pub use Rattle.std.proofs.KnownBytes.{Appends-trans}
use Rattle.text_core.specs.Lines.{lines_of}
use Rattle.live_incoming.specs.Incoming.{IsWhole, text_of_lines}
use Rattle.live_incoming.proofs.Coming.{lines_again}
use Rattle.live_dialogue.specs.Dialogue.{IsDone, first_reported}
use Rattle.record_core.specs.declared.cell.Form.{Form}
use Rattle.cli_choice.specs.Form.{form_by}
use Rattle.cli_choice.specs.declared.choice.CommandChoice.TheVariants.{Live}
use Rattle.program_calls.specs.Live.{IsLiveDone, Lives}
use Rattle.program_calls.specs.Done.{IsServed}

-- ---- the text

-- over a sink that holds nothing
alone : (form : Form) (known rest old new : Option (List ℕ)) (d : IsDone form known rest old new) → IsDone form known rest (Some []) (Some (first_reported d.run.first ++ d.over.answers.text))
alone form known rest old new d = record {
  run = record {
    topology = d.run.topology;
    first = d.run.first;
    mid = d.run.mid;
    so_far = Some (first_reported d.run.first);
    opened = d.run.opened;
    begins = d.run.begins;
    put = refl;
  };
  over = record {
    last = d.over.last;
    end = d.over.end;
    answers = record {
      lines = d.over.answers.lines;
      kept = d.over.answers.kept;
      reported = d.over.answers.reported;
      text = d.over.answers.text;
      come = d.over.answers.come;
      whole = d.over.answers.whole;
      few = d.over.answers.few;
      are = d.over.answers.are;
      put = refl;
    };
    ended = d.over.ended;
  };
  reported = d.reported;
  trace = d.trace;
}

-- ---- an input that no reader reports

no_end : (byte : ℕ) → not (byte == 10) ≡ true → byte ≢ 10
no_end byte other same = false≢true (sym (ap (λ b. not (b == 10)) same) ∙ other)

mark_whole : IsWhole (codes "script")
mark_whole = All-weaker (λ byte. not (byte == 10) ≡ true) (λ byte. byte ≢ 10) no_end (codes "script") (AllPass-from_list_all (λ byte. not (byte == 10)) (codes "script") refl)

-- the lines of a topology, the line `script`, and lines after it
come_known : (before lines : List (List ℕ)) → All IsWhole before → All IsWhole lines
    → lines_of (text_of_lines ((before ++ codes "script" ∷ []) ++ lines)) ≡ (before ++ codes "script" ∷ []) ++ lines_of (text_of_lines lines)
come_known before lines a b =
    let all = All-append IsWhole before (codes "script" ∷ []) a (All-cons IsWhole (codes "script") [] mark_whole (All-nil IsWhole)) in
    lines_again ((before ++ codes "script" ∷ []) ++ lines) (All-append IsWhole (before ++ codes "script" ∷ []) lines all b)
    ∙ ap (λ l. (before ++ codes "script" ∷ []) ++ l) (sym (lines_again lines b))

-- the lines that were read make an input
spelled : (form : Form) (rest old new : Option (List ℕ)) (d : IsDone form None rest old new) → (input : List ℕ) × IsLiveDone form input (first_reported d.run.first ++ d.over.answers.text)
spelled form rest old new d = (
  text_of_lines ((d.run.opened.lines ++ codes "script" ∷ []) ++ d.over.answers.lines),
  (
    Some [],
    record {
      run = record {
        topology = d.run.topology;
        first = d.run.first;
        mid = Some (text_of_lines d.over.answers.lines);
        so_far = Some (first_reported d.run.first);
        opened = record {
          lines = d.run.opened.lines;
          spelled = d.run.opened.spelled;
          whole = d.run.opened.whole;
          others = d.run.opened.others;
          come = come_known d.run.opened.lines d.over.answers.lines d.run.opened.whole d.over.answers.whole;
        };
        begins = d.run.begins;
        put = refl;
      };
      over = record {
        last = d.over.last;
        end = d.over.end;
        answers = record {
          lines = d.over.answers.lines;
          kept = d.over.answers.kept;
          reported = d.over.answers.reported;
          text = d.over.answers.text;
          come = lines_again d.over.answers.lines d.over.answers.whole ∙ sym (append-nil d.over.answers.lines);
          whole = d.over.answers.whole;
          few = d.over.answers.few;
          are = d.over.answers.are;
          put = refl;
        };
        ended = d.over.ended;
      };
      reported = d.reported;
      trace = d.trace;
    },
  ),
)

-- ---- what the program does

pub lived : (json : Bool) (known old new : Option (List ℕ)) (name : List ℕ) → Lives (form_by json) known old new → IsServed known old new (Live json) name
lived json None old new name (rest, d) =
    let of = spelled (form_by json) rest old new d in record {
      input = of.0;
      all = tt;
      written = (
        first_reported d.run.first ++ d.over.answers.text,
        of.1,
        Appends-trans old d.run.so_far new (first_reported d.run.first) d.over.answers.text d.run.put d.over.answers.put,
      );
    }
lived json (Some all) old new name (rest, d) = record {
  input = all;
  all = refl;
  written = (
    first_reported d.run.first ++ d.over.answers.text,
    (rest, alone (form_by json) (Some all) rest old new d),
    Appends-trans old d.run.so_far new (first_reported d.run.first) d.over.answers.text d.run.put d.over.answers.put,
  );
}

-- ---- a sink that hands on

nothing_more : (known : Option (List ℕ)) → append_known known [] ≡ known
nothing_more None = refl
nothing_more (Some xs) = ap Some (append-nil xs)

-- all that was put is handed on
pub whole_below : {S : Type 0} (contents : S → Option (List ℕ)) (b : Buffered S) → pending b ≡ [] → append_known (contents (below b)) (pending b) ≡ contents (below b)
whole_below contents b empty = ap (append_known (contents (below b))) empty ∙ nothing_more (contents (below b))

keeps_appends : (old mid new : Option (List ℕ)) (text : List ℕ) → Keeps old mid → Appends mid new text → Appends old new text
keeps_appends None mid new text k a = tt
keeps_appends (Some x) None new text k a = absurd k
keeps_appends (Some x) (Some y) None text k a = absurd a
keeps_appends (Some x) (Some y) (Some z) text k a = a ∙ ap (λ l. l ++ text) k

-- a session after what was put before
after_more : (form : Form) (known rest old mid new : Option (List ℕ)) → Keeps old mid → IsDone form known rest mid new → IsDone form known rest old new
after_more form known rest old mid new k d = record {
  run = record {
    topology = d.run.topology;
    first = d.run.first;
    mid = d.run.mid;
    so_far = d.run.so_far;
    opened = d.run.opened;
    begins = d.run.begins;
    put = keeps_appends old mid d.run.so_far (first_reported d.run.first) k d.run.put;
  };
  over = d.over;
  reported = d.reported;
  trace = d.trace;
}

pub lives : {S : Type 0} (form : Form) (contents : S → Option (List ℕ)) (known rest old mid : Option (List ℕ)) (b : Buffered S) → Keeps old mid → IsDone form known rest mid (append_known (contents (below b)) (pending b)) → pending b ≡ []
    → Lives form known old (contents (below b))
lives form contents known rest old mid b k d empty =
    (rest, subst (λ (new : Option (List ℕ)). IsDone form known rest old new) (whole_below contents b empty) (after_more form known rest old mid (append_known (contents (below b)) (pending b)) k d))
