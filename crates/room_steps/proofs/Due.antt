-- Commands taken one after another: their texts so far, and the devices that they name.
use Rattle.std.proofs.Common.{◌≡◌, ℕ, zero, suc, ◌+◌, ◌<◌, Bool, true, false, List, [], ◌∷◌, ◌++◌, length, take, drop, get_or, Option, Some, None, Result, Ok, Err, inl, inr, ap, ◌∙◌, sym, refl, subst, arith, append_assoc, append-nil, length-append, if◌then◌else◌}
use Rattle.std.proofs.lemmas.Grind.{common_steps}
use Rattle.std.proofs.lemmas.List.{take_more, take-append-drop}
use Rattle.std.proofs.lemmas.List.Elements.{All-append, All-nil, All-from_recursion}
use Rattle.std.specs.List.{All}
use Rattle.std.specs.Io.KnownBytes.{Appends}
use Rattle.text_core.specs.declared.sink.WriteFault.{WriteFault}
use Rattle.std.proofs.KnownBytes.{Appends-trans}
use Rattle.edid_tree.specs.Node.{Node}
use Rattle.edid_tree.specs.Tree.{device_named}
use Rattle.text_core.specs.Cut.{WrittenText, reported_count}
use Rattle.text_core.specs.Lines.{lines_of, is_skipped}
use Rattle.text_core.specs.Words.{words_of}
use Rattle.text_forms.specs.Forms.{Meaning, Said, text_at}
use Rattle.room_lines.specs.declared.step.StepVerb.{StepVerb}
use Rattle.room_lines.specs.declared.step.StepVerb.TheVariants as verbs
use Rattle.text_core.proofs.Cutting.{cut_later}
use Rattle.line_rounds.specs.declared.Outcome.{Outcome}
use Rattle.room_net.specs.State.{NetState}
use Rattle.room_net.specs.Apply.{net_after}
use Rattle.room_script.specs.declared.script.TimedEvent.{TimedEvent}
use Rattle.room_run.specs.declared.run.Turn.{Turn}
use Rattle.room_run.specs.declared.run.Turn.TheVariants as turns
use Rattle.room_run.specs.Run.{turn_of}
use Rattle.room_net.proofs.Kept.{event_keeps}
use Rattle.room_step_text.specs.declared.break_at.Break.{Break}
use Rattle.room_step_text.specs.declared.commands.StepCommand.{StepCommand}
use Rattle.room_step_text.specs.declared.commands.StepCommand.TheVariants.{Edge, Round, Until, Show}
use Rattle.room_step_text.specs.Commands.{LineFault, command_by, command_of, command_said, commands_of, device_by, lines_read, onward, show_by, step_said, until_by}
use Rattle.room_steps.specs.Steps.{Point, Steps, IsEdgeStepBy, IsRoundStep, IsTaken, Skips, device_count, passed_by, passed_from}
use Rattle.room_steps.specs.Ready.{InsideIf}
use Rattle.room_steps.specs.declared.stepper.StepError.TheVariants.{Ended}
use Rattle.room_steps.specs.StepRun.{AreCut, AreDue, IsCommandTaken, IsDue, IsNoStep, IsStep, NamesDevice, ended_text}

-- ---- how many devices there are

passed_count : (end : ℕ) (s : NetState) (es : List TimedEvent) (first : Bool) → length (passed_from end s es first).net.tree ≡ length s.tree
unfolding passed_from
passed_count end s [] first = refl
passed_count end s (e ∷ es) first =
    by (turn_of end s (Some e.at)) (λ at. passed_from end (net_after at e.event s) es first)
    (λ at. passed_count end (net_after at e.event s) es first ∙ (event_keeps at e.event s (net_after at e.event s) refl).count)
  where
    by : (t : Turn) (on : ℕ → Point) → ((at : ℕ) → length (on at).net.tree ≡ length s.tree) → length (passed_by t (record { net = s; events = e ∷ es; is_first = first }) on).net.tree ≡ length s.tree
    by (turns.Apply at) on h = h at
    by turns.Stop on h = refl
    by (turns.Round begin) on h = refl

-- the events before a round leave it
pub count_passed : (end : ℕ) (p : Point) → length (passed_from end p.net p.events p.is_first).net.tree ≡ length p.net.tree
count_passed end p = passed_count end p.net p.events p.is_first

-- and so does a round
round_count : (end : ℕ) (p q : Point) (o : Outcome) → IsRoundStep end p o q → length q.net.tree ≡ length p.net.tree
round_count end p q o r = ap (λ (s : NetState). length s.tree) r.next.after_is ∙ count_passed end p

skips_count : (end : ℕ) (at : Break) (rounds : ℕ) (p q : Point) → Skips end at rounds p q → length q.net.tree ≡ length p.net.tree
skips_count end at zero p q h = ap (λ (x : Point). length x.net.tree) h
skips_count end at (suc rounds) p q (mid, o, skips, step, other) = round_count end mid q o step ∙ skips_count end at rounds p mid skips

edge_count : (s t : Steps) (begun : Option NetState) (text : List ℕ) → IsEdgeStepBy s begun text t → device_count t ≡ device_count s
edge_count s t None text (after, first, is) = ap device_count is
edge_count s t (Some net) text (inl (after, edge, is)) = ap device_count is
edge_count s t (Some net) text (inr later) = ap device_count later.first.2 ∙ round_count s.run.end s.last later.last later.outcome later.step

step_count : (command : StepCommand) (s t : Steps) (text : List ℕ) → IsStep command s text t → device_count t ≡ device_count s
step_count Edge s t text h = edge_count s t s.begun text h
step_count Round s t text (o, q, step, reported, is) = ap device_count is ∙ round_count s.run.end s.last q o step
step_count (Until at) s t text h =
    ap device_count h.stands ∙ round_count s.run.end h.before h.after h.outcome h.step ∙ skips_count s.run.end at h.rounds s.last h.before h.skips
step_count (Show device) s t text (shown, found, reported, is) = ap device_count is

due_count : (command : StepCommand) (s t : Steps) (text : List ℕ) → IsDue command s text t → device_count t ≡ device_count s
due_count command s t text (inl step) = step_count command s t text step
due_count command s t text (inr (none, reported, is)) = ap device_count is

pub dues_count : (commands : List StepCommand) (s t : Steps) (text : List ℕ) → AreDue commands s text t → device_count t ≡ device_count s
dues_count [] s t text h = ap device_count h.1
dues_count (command ∷ commands) s t text (mid, first, rest, due, others, reported) =
    dues_count commands mid t rest others ∙ due_count command s mid first due

-- in a round that was begun there are as many
pub inside_count : (end : ℕ) (b : Bool) (p q : Point) → b ≡ true → InsideIf b end p q → length q.net.tree ≡ length p.net.tree
inside_count end true p q begun i = ap (λ (x : Point). length x.net.tree) i.reported ∙ count_passed end p
inside_count end false p q begun i = cc

-- ---- one command more

-- there was no such step, and that was written
pub ended : (command : StepCommand) (s t : Steps) (old mid new : Option (List ℕ)) (was between is : Bool) (r : Result ℕ WriteFault)
    → IsTaken (IsStep command s) (IsNoStep command s) s t old mid (Err Ended) → between ≡ was → WrittenText mid new between is (ended_text s.run.form) r → IsCommandTaken command s t old new was is r
ended command s t old mid new was between is (Ok n) (over, same, none) flag wrote =
    (ended_text s.run.form, inr (over, refl, same), subst (λ b. WrittenText old new b is (ended_text s.run.form) (Ok n)) flag (subst (λ x. WrittenText x new between is (ended_text s.run.form) (Ok n)) none wrote))
ended command s t old mid new was between is (Err fault) (over, same, none) flag wrote =
    (ended_text s.run.form, t, inr (over, refl, same), subst (λ b. WrittenText old new b is (ended_text s.run.form) (Err fault)) flag (subst (λ x. WrittenText x new between is (ended_text s.run.form) (Err fault)) none wrote))

due_more : (front : List StepCommand) (command : StepCommand) (s mid t : Steps) (text first : List ℕ) → AreDue front s text mid → IsDue command mid first t
    → AreDue (front ++ command ∷ []) s (text ++ first) t
due_more [] command s mid t text first h due =
    (t, first, [], subst (λ x. IsDue command x first t) h.1 due, (refl, refl), ap (λ x. x ++ first) h.0 ∙ sym (append-nil first))
due_more (c ∷ front) command s mid t text first (next, head, rest, one, others, reported) due =
    (next, head, rest ++ first, one, due_more front command next mid t rest first others due, ap (λ x. x ++ first) reported ∙ append_assoc head rest first)

-- the commands so far were taken, and their text was written
pub record Reached (commands : List StepCommand) (n : ℕ) (s t : Steps) (old new : Option (List ℕ)) (written : ℕ) : Type 0 where
  pub text : List ℕ
  pub due : AreDue (take n commands) s text t
  pub so_far : Appends old new text
  pub counted : written ≡ reported_count (length text)

next_due : (commands : List StepCommand) (n : ℕ) (command : StepCommand) (s mid t : Steps) (text first : List ℕ) → n < length commands → get_or commands n command ≡ command
    → AreDue (take n commands) s text mid → IsDue command mid first t → AreDue (take (n + 1) commands) s (text ++ first) t
next_due commands n command s mid t text first below is h due =
    let more : take (n + 1) commands ≡ take n commands ++ command ∷ [] = take_more commands n command below ∙ ap (λ c. take n commands ++ c ∷ []) is in
    subst (λ front. AreDue front s (text ++ first) t) (sym more) (due_more (take n commands) command s mid t text first h due)

both_counted : (n m : ℕ) (xs ys : List ℕ) → n ≡ reported_count (length xs) → m ≡ reported_count (length ys) → reported_count (n + m) ≡ reported_count (length (xs ++ ys))
both_counted n m xs ys e f = omega (arith, length-append xs ys)

pub reached_more : (commands : List StepCommand) (n : ℕ) (command : StepCommand) (s mid t : Steps) (old between new : Option (List ℕ)) (was is : Bool) (written count m : ℕ) → n < length commands
    → get_or commands n command ≡ command → Reached commands n s mid old between written → (first : List ℕ) → IsDue command mid first t → WrittenText between new was is first (Ok count)
    → m ≡ reported_count (written + count) → Reached commands (n + 1) s t old new m
reached_more commands n command s mid t old between new was is written count m below same r first due wrote reported = record {
  text = r.text ++ first;
  due = next_due commands n command s mid t r.text first below same r.due due;
  so_far = Appends-trans old between new r.text first r.so_far wrote.1;
  counted = reported ∙ both_counted written count r.text first r.counted wrote.0;
}

-- the text of the next one was cut off
pub cut_next : (commands : List StepCommand) (n : ℕ) (command : StepCommand) (s mid t : Steps) (old between new : Option (List ℕ)) (was is : Bool) (written : ℕ) (inner fault : WriteFault) → n < length commands
    → get_or commands n command ≡ command → Reached commands n s mid old between written → (first : List ℕ) → IsDue command mid first t → WrittenText between new was is first (Err inner)
    → fault.count ≡ reported_count (written + inner.count) → AreCut commands s old new fault
cut_next commands n command s mid t old between new was is written inner fault below same r first due wrote reported = record {
  front = take (n + 1) commands;
  left = drop (n + 1) commands;
  text = r.text ++ first;
  last = t;
  split = sym (take-append-drop (n + 1) commands);
  due = next_due commands n command s mid t r.text first below same r.due due;
  cut = cut_later old between new r.text first written inner fault r.counted r.so_far wrote.0 reported;
}

-- ---- the devices that commands name

named-below : (tree : List Node) (name : List ℕ) (device : ℕ) → device_named tree name ≡ Some device → device < length tree
named-below tree name device h = grind (arith, common_steps)

abbrev Named : ℕ → Result StepCommand ℕ → Type 0
Named count (Err word) = Unit {0}
Named count (Ok command) = NamesDevice count command

show_names : (tree : List Node) (name : List ℕ) (found : Option ℕ) → device_named tree name ≡ found → Named (length tree) (show_by (device_by 1 found))
show_names tree name None h = tt
show_names tree name (Some device) h = named-below tree name device h

until_names : (count : ℕ) (device : Result ℕ ℕ) → Named count (until_by device)
until_names count (Err word) = tt
until_names count (Ok device) = tt

said_names : (tree : List Node) (verb : StepVerb) (values : List Meaning) → Named (length tree) (command_said tree verb values)
said_names tree verbs.Edge values = tt
said_names tree verbs.Round values = tt
said_names tree verbs.UntilOpcode values = tt
said_names tree verbs.UntilDevice values = until_names (length tree) (device_by 2 (device_named tree (text_at values 2)))
said_names tree verbs.UntilBreak values = tt
said_names tree verbs.Show values = show_names tree (text_at values 1) (device_named tree (text_at values 1)) refl

read_names : (tree : List Node) (read : Said StepVerb) → Named (length tree) (command_by tree read)
read_names tree (Err fault) = tt
read_names tree (Ok said) = said_names tree said.0 said.1

more_names : (count number : ℕ) (before commands : List StepCommand) (skipped : Bool) (command : Result StepCommand ℕ) (on : List StepCommand → Result (List StepCommand) LineFault) → Named count command
    → All (NamesDevice count) before → ((next : List StepCommand) → All (NamesDevice count) next → on next ≡ Ok commands → All (NamesDevice count) commands)
    → (if skipped then on before else onward number before command on) ≡ Ok commands → All (NamesDevice count) commands
more_names count number before commands true command on named all rest h = rest before all h
more_names count number before commands false (Err word) on named all rest h = cc
more_names count number before commands false (Ok command) on named all rest h =
    rest (before ++ command ∷ []) (All-append (NamesDevice count) before (command ∷ []) all (All-from_recursion (NamesDevice count) (command ∷ []) (named, tt))) h

lines_names : (tree : List Node) (lines : List (List ℕ)) (number : ℕ) (before commands : List StepCommand) → All (NamesDevice (length tree)) before → lines_read tree lines number before ≡ Ok commands
    → All (NamesDevice (length tree)) commands
lines_names tree [] number before commands all h = subst (All (NamesDevice (length tree))) (same_ok before commands h) all
  where
    the_ok : List StepCommand → Result (List StepCommand) LineFault
    the_ok x = Ok x

    same_ok : (x y : List StepCommand) → the_ok x ≡ Ok y → x ≡ y
    same_ok x y e = cc
lines_names tree (line ∷ lines) number before commands all h =
    more_names (length tree) number before commands (is_skipped line) (command_of tree line) (λ next. lines_read tree lines (number + 1) next) (read_names tree (step_said (words_of line))) all
    (λ next every k. lines_names tree lines (number + 1) next commands every k) h

-- those of a text are devices of the tree
pub commands_name_devices : (tree : List Node) (text : List ℕ) (commands : List StepCommand) → commands_of tree text ≡ Ok commands → All (NamesDevice (length tree)) commands
commands_name_devices tree text commands h = lines_names tree (lines_of text) 1 [] commands (All-nil (NamesDevice (length tree))) h
