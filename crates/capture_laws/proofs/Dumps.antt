-- The dump of a run and of who drives its line.
use Rattle.std.proofs.Common.{◌≡◌, ℕ, zero, suc, ◌+◌, ◌≤◌, Bool, true, false, ◌||◌, max, List, [], ◌∷◌, ◌++◌, drop, length, map, codes, get_or, Ok, inl, inr, refl, sym, ap, ap₂, ◌∙◌, subst, arith}
use Rattle.std.proofs.lemmas.List.{map-append}
use Rattle.std.specs.List.{All, flat_map, list_any}
use Rattle.std.proofs.lemmas.List.Folds.{list_any-append}
use Rattle.line_wave.specs.declared.Stretch.{Stretch}
use Rattle.line_wave.specs.Line.{IsWave, covers, line_of}
use Rattle.line_wave.specs.Bounds.{latest_instant}
use Rattle.line_rounds.specs.declared.Seat.{Seat}
use Rattle.line_rounds.specs.declared.Outcome.{Outcome}
use Rattle.capture_core.specs.Edges.{Captured, IsCapture, edges_of, line_of_edges}
use Rattle.edid_tree.specs.Node.{Node}
use Rattle.room_net.specs.Line.{run_wave}
use Rattle.room_net.specs.State.{first_net}
use Rattle.room_net.proofs.Framed.{framed-started}
use Rattle.room_script.proofs.Sound.{scripts_are_sound}
use Rattle.capture_vcd.specs.Dump.{edges_in}
use Rattle.capture_vcd.specs.Text.{last}
use Rattle.capture_vcd.specs.Wire.{wire_line}
use Rattle.capture_wires.specs.Wires.{head, id_of}
use Rattle.room_drives.specs.Drives.{end_of, low_before, seat_line}
use Rattle.capture_forms.specs.Format.{line_text}
use Rattle.capture_forms.specs.declared.form.CaptureForm.TheVariants.{Vcd}
use Rattle.room_run.specs.declared.run.Reporting.TheVariants.{Line}
use Rattle.room_run.specs.declared.run.Totals.{Totals}
use Rattle.room_run.specs.declared.run.Turn.{Turn}
use Rattle.room_run.specs.declared.run.Turn.TheVariants.{Stop, Apply, Round}
use Rattle.room_run.specs.Run.{Config, IsTurnBy, Leads, end_reported, start, start_reported, turn_at}
use Rattle.room_run.specs.RunLine as run_line
use Rattle.room_run.specs.Emulate.{IsLineOf}
use Rattle.room_run.proofs.Accepted.{texts_have_one_line}
use Rattle.room_run.proofs.OneRun.{runs_close_soon, texts_have_one_run}
use Rattle.room_run.proofs.WholeLine.{lines_are_of_the_rounds}
use Rattle.room_driven.specs.Driven.{Drives, IsDrivenBy}
use Rattle.room_driven.specs.Emulate.{IsDrivesOf}
use Rattle.room_net.proofs.Kept.{started_count}
use Rattle.room_driven.proofs.HasDrives.{runs_have_drives}
use Rattle.capture_laws.proofs.Formats.{is_capture, lines_are_read_back}
use Rattle.capture_laws.proofs.ReadBack.{over_by_script, same_line}
use Rattle.capture_laws.specs.WireDumps.{Declared, Span, ReportsLine, ReportsWires, dump_of, level_at, numbered_names, wire_at}
use Rattle.capture_laws.proofs.ReadHead.{dumps_are_read_as_the_line}
use Rattle.capture_laws.proofs.Whole.{dumps_report_their_wires}
use Rattle.capture_laws.specs.Rounds.{IsRuled, Laid, RoundsAreRuled, RoundsAreTheTraces, drives, pulls, rounds_by, rounds_in, rounds_of}
use Rattle.capture_laws.specs.Dumps.{DumpsAreReadAsLines, DumpsReportDrives, ReportsDrives, TextsHaveDrives, names_in}
use Rattle.capture_laws.proofs.Captures.{same_captures}
use Rattle.capture_laws.proofs.Names.{names_are_words, names_started}
use Rattle.capture_laws.proofs.Turns.{Stands, Told, all_reported, driven_line, pulled, span_of}

-- ---- a run of accepted texts

stands_started : (tree : List Node) (pulses : List Stretch) → IsWave pulses → Stands (length tree) 0 (first_net tree pulses)
stands_started tree pulses order = record {
  order = order;
  framed = framed-started tree pulses;
  later = λ k p l. omega arith;
  rested = omega arith;
  closed = omega arith;
  seats = started_count tree pulses;
}

-- where its dump ends
abbrev dump_end : (topology script text : List ℕ) (totals : Totals) → IsDrivesOf topology script text totals → ℕ
dump_end topology script text totals p = max p.course.end p.driven.run.at_end.net.close

reported_of : (topology script text : List ℕ) (totals : Totals) → (p : IsDrivesOf topology script text totals)
    → Told (length p.plan.tree) p.course.end 0 (rounds_of topology script text totals p) p.driven.run.body p.driven.run.at_end
reported_of topology script text totals p =
    let sound = scripts_are_sound p.plan.tree script p.course p.accepted.course_is in
    all_reported (length p.plan.tree) p.course.end p.driven.run.turns 0 (start (first_net p.plan.tree p.course.pulses) p.course.events) p.driven.run.at_end p.driven.run.line p.driven.run.body
    p.driven.run.drives (stands_started p.plan.tree p.course.pulses sound.timely.order) sound.framed

pub rounds_are_ruled : RoundsAreRuled
rounds_are_ruled topology script text totals p = (reported_of topology script text totals p).ruled

-- ---- the run's line

leads_by : (turn : Turn) (c d : Config) (line text : List ℕ) → IsDrivenBy turn c line text d → IsTurnBy (Line Vcd) turn c line d
leads_by Stop c d line text t = t
leads_by (Apply at) c d line text t = t.0
leads_by (Round begin) c d line text t = (t.0, t.1)

leads : (end turns : ℕ) (c d : Config) (line text : List ℕ) → Drives end turns c line text d → Leads (Line Vcd) end turns c line d
leads end zero c d line text l = (l.0, l.2)
leads end (suc turns) c d line text l = (l.0, l.1, l.2, leads_by (turn_at end c) c l.0 l.1 l.3 l.5, leads end turns l.0 d l.2 l.4 l.6, l.7)

abbrev outcomes : List Laid → List Outcome
outcomes rs = map (λ r. r.outcome) rs

same_by : (turn : Turn) (c d : Config) (line text : List ℕ) (t : IsDrivenBy turn c line text d)
    → run_line.rounds_by (Line Vcd) turn c line d (leads_by turn c d line text t) ≡ outcomes (rounds_by turn c line text d t)
unfolding leads_by
same_by Stop c d line text t = refl
same_by (Apply at) c d line text t = refl
same_by (Round begin) c d line text t = refl

same_rounds : (end turns : ℕ) (c d : Config) (line text : List ℕ) (l : Drives end turns c line text d)
    → run_line.rounds_in (Line Vcd) end turns c line d (leads end turns c d line text l) ≡ outcomes (rounds_in end turns c line text d l)
unfolding leads
same_rounds end zero c d line text l = refl
same_rounds end (suc turns) c d line text l =
    ap₂ (λ (a b : List Outcome). a ++ b) (same_by (turn_at end c) c l.0 l.1 l.3 l.5) (same_rounds end turns l.0 d l.2 l.4 l.6)
    ∙ sym (map-append (λ (r : Laid). r.outcome) (rounds_by (turn_at end c) c l.1 l.3 l.0 l.5) (rounds_in end turns l.0 l.2 l.4 d l.6))

abbrev line_of_run : (topology script text : List ℕ) (totals : Totals) → IsDrivesOf topology script text totals → List ℕ
line_of_run topology script text totals p =
    start_reported (Line Vcd) (first_net p.plan.tree p.course.pulses) ++ (p.driven.run.line ++ end_reported (Line Vcd) p.course.end p.driven.run.at_end.net)

-- it is told by the dump of the line alone
abbrev its_line : (topology script text : List ℕ) (totals : Totals) → (p : IsDrivesOf topology script text totals) → IsLineOf Vcd topology script (line_of_run topology script text totals p) totals
its_line topology script text totals p = record {
  plan = p.plan;
  course = p.course;
  edid = p.edid;
  accepted = p.accepted;
  root = p.root;
  line = record {
    rest = p.driven.run.line ++ end_reported (Line Vcd) p.course.end p.driven.run.at_end.net;
    run = record {
      turns = p.driven.run.turns;
      last = p.driven.run.at_end;
      body = p.driven.run.line;
      leads = leads p.course.end p.driven.run.turns (start (first_net p.plan.tree p.course.pulses) p.course.events) p.driven.run.at_end p.driven.run.line p.driven.run.body p.driven.run.drives;
      stops = p.driven.run.stops;
      whole = refl;
      counts = p.driven.run.counts;
    };
    whole = refl;
  };
}

its_rounds : (topology script text : List ℕ) (totals : Totals) → (p : IsDrivesOf topology script text totals)
    → run_line.rounds_in (Line Vcd) p.course.end p.driven.run.turns (start (first_net p.plan.tree p.course.pulses) p.course.events) p.driven.run.line p.driven.run.at_end
    (leads p.course.end p.driven.run.turns (start (first_net p.plan.tree p.course.pulses) p.course.events) p.driven.run.at_end p.driven.run.line p.driven.run.body p.driven.run.drives)
    ≡ outcomes (rounds_of topology script text totals p)
its_rounds topology script text totals p =
    same_rounds p.course.end p.driven.run.turns (start (first_net p.plan.tree p.course.pulses) p.course.events) p.driven.run.at_end p.driven.run.line p.driven.run.body p.driven.run.drives

pub rounds_are_the_traces : RoundsAreTheTraces
rounds_are_the_traces topology script x y s t p q =
    let one = texts_have_one_run Vcd topology script x (line_of_run topology script y t q) s t p (its_line topology script y t q) in
    (one.0, one.1 ∙ its_rounds topology script y t q)

-- ---- the dump is one of several wires

soon : (topology script text : List ℕ) (totals : Totals) → (p : IsDrivesOf topology script text totals) → dump_end topology script text totals p ≤ latest_instant
soon topology script text totals p =
    let sound = scripts_are_sound p.plan.tree script p.course p.accepted.course_is in
    let limit = sound.limit in
    let close = runs_close_soon (Line Vcd) p.plan.tree p.course.pulses p.course.events latest_instant p.course.end p.driven.run.turns p.driven.run.line p.driven.run.at_end
    (omega (arith, limit)) (over_by_script (length p.plan.tree) p.course sound)
    (leads p.course.end p.driven.run.turns (start (first_net p.plan.tree p.course.pulses) p.course.events) p.driven.run.at_end p.driven.run.line p.driven.run.body p.driven.run.drives) in
    omega (arith, close, limit)

abbrev spans_in : (topology script text : List ℕ) (totals : Totals) → IsDrivesOf topology script text totals → List Span
spans_in topology script text totals p = map span_of (rounds_of topology script text totals p)

dump_is : (topology script text : List ℕ) (totals : Totals) → (p : IsDrivesOf topology script text totals)
    → text ≡ dump_of (names_in p.plan.tree) (spans_in topology script text totals p) (dump_end topology script text totals p)
dump_is topology script text totals p =
    p.driven.whole ∙ ap₂ (λ names rest. head names ++ rest) (names_started p.plan.tree p.course.pulses)
    (p.driven.run.whole ∙ ap (λ body. body ++ last (dump_end topology script text totals p)) (reported_of topology script text totals p).whole)

-- ---- whose wires are low

or_both : (a b c d : Bool) → ((a || b) || (c || d)) ≡ ((a || c) || (b || d))
or_both true b c d = refl
or_both false true true d = refl
or_both false true false d = refl
or_both false false c d = refl

any_or : {X : Type 0} (f g : X → Bool) (xs : List X) → list_any (λ x. f x || g x) xs ≡ (list_any f xs || list_any g xs)
any_or f g [] = refl
any_or f g (x ∷ xs) = ap (λ b. (f x || g x) || b) (any_or f g xs) ∙ or_both (f x) (g x) (list_any f xs) (list_any g xs)

any_same : {X : Type 0} (f g : X → Bool) (xs : List X) → All (λ x. f x ≡ g x) xs → list_any f xs ≡ list_any g xs
any_same f g [] h = refl
any_same f g (x ∷ xs) h = ap₂ (λ a b. a || b) (h 0 x (omega arith)) (any_same f g xs (λ k y l. h (suc k) y (omega arith)))

any_map : {X Y : Type 0} (f : Y → Bool) (g : X → Y) (xs : List X) → list_any f (map g xs) ≡ list_any (λ x. f (g x)) xs
any_map f g [] = refl
any_map f g (x ∷ xs) = ap (λ b. f (g x) || b) (any_map f g xs)

any_none : {X : Type 0} (xs : List X) → list_any (λ x. false) xs ≡ false
any_none [] = refl
any_none (x ∷ xs) = any_none xs

-- some of as many numbers as there are names, from this one on
abbrev some_number : ℕ → List (List ℕ) → (ℕ → Bool) → Bool
some_number number [] f = false
some_number number (name ∷ names) f = f number || some_number (number + 1) names f

-- the wires of a round by their numbers
by_number : (number u : ℕ) (names : List (List ℕ)) (wires : List (List Stretch)) (f : ℕ → Bool) → ((place : ℕ) → f (number + place) ≡ line_of (wire_at place wires) u) → length wires ≤ length names
    → list_any (λ ss. line_of ss u) wires ≡ some_number number names f
by_number number u [] [] f h l = refl
by_number number u [] (wire ∷ wires) f h l = absurd (omega (arith, l))
by_number number u (name ∷ names) [] f h l =
    let here : f number ≡ false = ap f (let e : number ≡ number + 0 = omega arith in e) ∙ h 0 in
    by_number (number + 1) u names [] f (λ place. ap f (let e : number + 1 + place ≡ number + suc place = omega arith in e) ∙ h (suc place)) (omega arith)
    ∙ ap (λ b. b || some_number (number + 1) names f) (sym here)
by_number number u (name ∷ names) (wire ∷ wires) f h l =
    let here : f number ≡ line_of wire u = ap f (let e : number ≡ number + 0 = omega arith in e) ∙ h 0 in
    ap₂ (λ a b. a || b) (sym here)
    (by_number (number + 1) u names wires f (λ place. ap f (let e : number + 1 + place ≡ number + suc place = omega arith in e) ∙ h (suc place)) (omega (arith, l)))

-- some round's some number is some number's some round
exchanged : {X : Type 0} (number : ℕ) (names : List (List ℕ)) (f : X → ℕ → Bool) (xs : List X)
    → list_any (λ x. some_number number names (f x)) xs ≡ some_number number names (λ n. list_any (λ x. f x n) xs)
exchanged number [] f xs = any_none xs
exchanged number (name ∷ names) f xs =
    any_or (λ x. f x number) (λ x. some_number (number + 1) names (f x)) xs ∙ ap (λ b. list_any (λ x. f x number) xs || b) (exchanged (number + 1) names f xs)

-- by what is declared
by_declared : (number : ℕ) (names : List (List ℕ)) (f : ℕ → Bool) (g : List ℕ → Bool) → ((n : ℕ) → g (id_of n ∷ []) ≡ f n)
    → list_any (λ (d : Declared). g d.id) (numbered_names number names) ≡ some_number number names f
by_declared number [] f g h = refl
by_declared number (name ∷ names) f g h = ap₂ (λ a b. a || b) (h number) (by_declared (number + 1) names f g h)

-- ---- a round has a drive for each device, and one for the pulses

length-each : {X Y : Type 0} (f : X → Y) (xs : List X) → length (map f xs) ≡ length xs
length-each f [] = refl
length-each f (x ∷ xs) = ap suc (length-each f xs)

length-append : {X : Type 0} (xs ys : List X) → length (xs ++ ys) ≡ length xs + length ys
length-append [] ys = omega arith
length-append (x ∷ xs) ys = let e = length-append xs ys in omega arith

length-names : (tree : List Node) → length (names_in tree) ≡ length tree
length-names [] = refl
length-names (node ∷ tree) = ap suc (length-names tree)

few_drives : (tree : List Node) (r : Laid) → length r.seats ≡ length tree → length (drives r) ≤ length (names_in tree ++ codes "pulses" ∷ [])
few_drives tree r h =
    let each : Seat → List Stretch = λ seat. low_before (seat_line r.begin (line_of r.outcome.wave) seat) (end_of r.outcome.wave) in
    let a : length (drives r) ≡ length (map each r.seats) + 1 = length-append (map each r.seats) _ in
    let b = length-each each r.seats in
    let c : length (names_in tree ++ codes "pulses" ∷ []) ≡ length (names_in tree) + 1 = length-append (names_in tree) (codes "pulses" ∷ []) in
    let d = length-names tree in
    omega (arith, a, b, c, d, h)

-- ---- the law

-- in some round the line is low exactly where some number's wire is
some_level : (tree : List Node) (u : ℕ) (rs : List Laid) → All IsRuled rs → All (λ r. length r.seats ≡ length tree) rs
    → level_at 0 (map span_of rs) u ≡ some_number 1 (names_in tree ++ codes "pulses" ∷ []) (λ n. level_at n (map span_of rs) u)
some_level tree u rs ruled seated =
    let names = names_in tree ++ codes "pulses" ∷ [] in
    let low : Laid → ℕ → Bool = λ r n. line_of (wire_at n (r.outcome.wave ∷ drives r)) u in
    any_map (λ (s : Span). line_of (wire_at 0 s.wires) u) span_of rs
    ∙ any_same (λ (r : Laid). low r 0) (λ r. some_number 1 names (low r)) rs
    (λ k x l. driven_line (get_or rs k x) (ruled k x l) u
    ∙ by_number 1 u names (drives (get_or rs k x)) (low (get_or rs k x))
    (λ place. ap (λ n. line_of (wire_at n ((get_or rs k x).outcome.wave ∷ drives (get_or rs k x))) u) (let e : 1 + place ≡ suc place = omega arith in e)) (few_drives tree (get_or rs k x) (seated k x l)))
    ∙ exchanged 1 names low rs
    ∙ same_numbers 1 names (λ n. list_any (λ r. low r n) rs) (λ n. level_at n (map span_of rs) u)
    (λ n. sym (any_map (λ (s : Span). line_of (wire_at n s.wires) u) span_of rs))
  where
    same_numbers : (number : ℕ) (names : List (List ℕ)) (f g : ℕ → Bool) → ((n : ℕ) → f n ≡ g n) → some_number number names f ≡ some_number number names g
    same_numbers number [] f g h = refl
    same_numbers number (name ∷ names) f g h = ap₂ (λ a b. a || b) (h number) (same_numbers (number + 1) names f g h)

-- the line of all rounds
whole_line : (u : ℕ) (rs : List Laid) → level_at 0 (map span_of rs) u ≡ line_of (run_wave (outcomes rs)) u
whole_line u [] = refl
whole_line u (r ∷ rs) =
    ap (λ b. line_of r.outcome.wave u || b) (whole_line u rs) ∙ sym (list_any-append (λ s. covers s u) r.outcome.wave (run_wave (outcomes rs)))

-- whether the wire of a number is low, by the list of whether each is
wire_level : (number u : ℕ) (wires : List (List Stretch)) → line_of (wire_at number wires) u ≡ get_or (map (λ ss. line_of ss u) wires) number false
wire_level number u [] = refl
wire_level zero u (wire ∷ wires) = refl
wire_level (suc number) u (wire ∷ wires) = wire_level number u wires

-- in some round the wire of a number is low exactly where that one pulls
some_pull : (number u : ℕ) (rs : List Laid) → All IsRuled rs → list_any (λ r. line_of (wire_at number (drives r)) u) rs ≡ list_any (λ r. get_or (pulls r u) number false) rs
some_pull number u rs ruled =
    any_same (λ (r : Laid). line_of (wire_at number (drives r)) u) (λ r. get_or (pulls r u) number false) rs
    (λ k x l. wire_level number u (drives (get_or rs k x)) ∙ ap (λ bs. get_or bs number false) (pulled (get_or rs k x) (ruled k x l) u))

reports : (tree : List Node) (rs : List Laid) (text : List ℕ) → All IsRuled rs → All (λ r. length r.seats ≡ length tree) rs → ReportsWires (names_in tree) (map span_of rs) text
    → ReportsDrives (names_in tree) rs text
reports tree rs text ruled seated reported =
    let names = names_in tree ++ codes "pulses" ∷ [] in
    let line : (u : ℕ) → wire_line reported.line u ≡ level_at 0 (map span_of rs) u = λ u. (
    ap (λ (i : List ℕ). wire_line (record { scale = reported.line.scale; id = i; words = reported.line.words }) u) reported.id ∙ reported.levels 0 u) in
    let drives_are : (number u : ℕ) → wire_line (record reported.line { id = id_of (number + 1) ∷ [] }) u ≡ list_any (λ r. line_of (wire_at number (drives r)) u) rs = λ number u. (
    reported.levels (number + 1) u ∙ any_map (λ (s : Span). line_of (wire_at (number + 1) s.wires) u) span_of rs
    ∙ any_same (λ (r : Laid). line_of (wire_at (number + 1) (r.outcome.wave ∷ drives r)) u) (λ r. line_of (wire_at number (drives r)) u) rs
    (λ k x l. ap (λ n. line_of (wire_at n ((get_or rs k x).outcome.wave ∷ drives (get_or rs k x))) u) (let e : number + 1 ≡ suc number = omega arith in e))) in
    record {
      line = reported.line;
      first = reported.first;
      driven = λ u. line u ∙ some_level tree u rs ruled seated
          ∙ sym (by_declared 1 names (λ n. level_at n (map span_of rs) u) (λ i. wire_line (record { scale = reported.line.scale; id = i; words = reported.line.words }) u) (λ n. reported.levels n u))
          ∙ ap (λ ds. list_any (λ (d : Declared). wire_line (record { scale = reported.line.scale; id = d.id; words = reported.line.words }) u) (drop 1 ds)) (sym reported.declared);
      declared = reported.declared;
      line_is = λ u. line u ∙ whole_line u rs;
      drives_are = drives_are;
      pulls_are = λ number u. drives_are number u ∙ some_pull number u rs ruled;
    }

pub dumps_report_drives : DumpsReportDrives
dumps_report_drives topology script text totals p =
    let reported = reported_of topology script text totals p in
    let rs = rounds_of topology script text totals p in
    subst (ReportsDrives (names_in p.plan.tree) rs) (sym (dump_is topology script text totals p))
    (reports p.plan.tree rs (dump_of (names_in p.plan.tree) (spans_in topology script text totals p) (dump_end topology script text totals p)) reported.ruled reported.seated
    (dumps_report_their_wires (names_in p.plan.tree) (spans_in topology script text totals p) (dump_end topology script text totals p) (names_are_words topology p.plan p.accepted.plan_is) reported.spans
    (soon topology script text totals p)))

pub texts_have_drives : TextsHaveDrives
texts_have_drives topology script plan course edid accepted root =
    let driven = runs_have_drives plan.tree course.pulses course.events course.end (scripts_are_sound plan.tree script course accepted.course_is).timely.order in
    (driven.0, driven.1, record { plan = plan; course = course; edid = edid; accepted = accepted; root = root; driven = driven.2 })

-- ---- it is read as the dump of the line alone

abbrev flat : List (List Stretch) → List Stretch
flat rounds = flat_map (λ ss. ss) rounds

waves_flat : (os : List Outcome) → run_wave os ≡ flat (map (λ o. o.wave) os)
waves_flat [] = refl
waves_flat (o ∷ os) = ap (λ l. o.wave ++ l) (waves_flat os)

-- the capture of the line
record HasLine (os : List Outcome) (end : ℕ) (text : List ℕ) : Type 0 where
  captured : Captured
  read : edges_in [] text ≡ Ok captured
  line : (u : ℕ) → line_of_edges captured.edges u ≡ line_of (run_wave os) u
  end_is : captured.end ≡ end
  capture : IsCapture captured.edges captured.end

has_line : (topology script text : List ℕ) (totals : Totals) → (p : IsDrivesOf topology script text totals)
    → HasLine (outcomes (rounds_of topology script text totals p)) (dump_end topology script text totals p) (line_of_run topology script text totals p)
has_line topology script text totals p =
    let sound = scripts_are_sound p.plan.tree script p.course p.accepted.course_is in
    let q = its_line topology script text totals p in
    let k = lines_are_of_the_rounds Vcd p.plan.tree p.course.pulses p.course.events p.course.end (line_of_run topology script text totals p) totals sound.timely.order sound.framed q.line in
    let end = dump_end topology script text totals p in
    let os = outcomes (rounds_of topology script text totals p) in
    let waves = map (λ (o : Outcome). o.wave) os in
    let same = its_rounds topology script text totals p in
    let whole : line_of_run topology script text totals p ≡ line_text Vcd waves end = k.whole ∙ ap (λ (xs : List Outcome). line_text Vcd (map (λ (o : Outcome). o.wave) xs) end) same in
    let wave : IsWave (flat waves) = subst (λ (ss : List Stretch). IsWave ss) (waves_flat os) (subst (λ (xs : List Outcome). IsWave (run_wave xs)) same k.read.wave) in
    let over : (u : ℕ) → end ≤ u → line_of (flat waves) u ≡ false = (λ u h.
    subst (λ (ss : List Stretch). line_of ss u ≡ false) (waves_flat os) (subst (λ (xs : List Outcome). line_of (run_wave xs) u ≡ false) same (k.read.over u h))) in
    let low = soon topology script text totals p in
    record {
      captured = record { edges = edges_of (flat waves); end = end };
      read = ap (edges_in []) whole ∙ lines_are_read_back Vcd waves end wave over low;
      line = λ u. same_line (flat waves) 0 u wave ∙ ap (λ (ss : List Stretch). line_of ss u) (sym (waves_flat os));
      end_is = refl;
      capture = is_capture (flat waves) end wave over low;
    }

pub dumps_are_read_as_lines : DumpsAreReadAsLines
dumps_are_read_as_lines topology script x y s t p q =
    let reported = reported_of topology script x s p in
    let rs = rounds_of topology script x s p in
    let line = has_line topology script x s p in
    let text : y ≡ line_of_run topology script x s p = (texts_have_one_line Vcd topology script y (line_of_run topology script x s p) t s q (its_line topology script x s p)).0 in
    let names = names_are_words topology p.plan p.accepted.plan_is in
    let low = soon topology script x s p in
    let first = dumps_are_read_as_the_line [] (names_in p.plan.tree) (spans_in topology script x s p) (dump_end topology script x s p) (inl refl) names reported.spans low in
    let named = dumps_are_read_as_the_line (codes "CEC") (names_in p.plan.tree) (spans_in topology script x s p) (dump_end topology script x s p) (inr refl) names reported.spans low in
    let same : (c : Captured) → ReportsLine (spans_in topology script x s p) (dump_end topology script x s p) c → c ≡ line.captured = (λ c h.
    same_captures c line.captured h.capture line.capture (λ u. h.line u ∙ whole_line u rs ∙ sym (line.line u)) (h.end_is ∙ sym line.end_is)) in
    let dump = dump_is topology script x s p in (
      line.captured,
      ap (edges_in []) text ∙ line.read,
      ap (edges_in []) dump ∙ first.1 ∙ ap Ok (same first.0 first.2),
      ap (edges_in (codes "CEC")) dump ∙ named.1 ∙ ap Ok (same named.0 named.2),
    )
