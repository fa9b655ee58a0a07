-- The flags of `mon` (own).
use Rattle.std.specs.Prelude.{ℕ, nat_le, ◌==◌, length, slice_index, List, [], ◌∷◌, Bool, Option, Some, None, if◌then◌else◌, true, false, codes, not, ◌&&◌, ◌||◌, is_some, unwrap_or, option_and_then, is_none}
use Rattle.std.specs.Option.{option_map, option_or}
use Rattle.std.specs.Str.{bytes_eq}
use Rattle.text_core.specs.Number.{number_of}
use Rattle.text_core.specs.Phys.{digit_value, is_hex_digit}
use Rattle.cli_choice.specs.Form.{form_by}
use Rattle.cli_choice.specs.Joined.{joined}
use Rattle.cli_choice.specs.Micros.{micros_of}
use Rattle.capture_scale.specs.Factor.{scale_of}
use Rattle.cli_choice.specs.declared.choice.Asked.{Asked}
use Rattle.cli_choice.specs.declared.choice.CommandChoice.{CommandChoice}
use Rattle.cli_choice.specs.declared.choice.CommandChoice.TheVariants.{Mon, Summary, CaptureDiff, Follow, CapturedLine}
use Rattle.capture_forms.specs.declared.form.CaptureForm.{CaptureForm}
use Rattle.capture_forms.specs.declared.form.CaptureForm.TheVariants.{Edges, Vcd, Pin, Csv}
use Rattle.follow_core.specs.declared.lines.LineForm.{LineForm}
use Rattle.follow_core.specs.declared.lines.LineForm.TheVariants as line_forms
use Rattle.cli_choice.specs.declared.choice.FollowReport.{FollowReport}
use Rattle.cli_choice.specs.declared.choice.FollowReport.TheVariants as follow_reports
use Rattle.cli_choice.specs.declared.choice.CaptureReport.{CaptureReport}
use Rattle.cli_choice.specs.declared.choice.CaptureReport.TheVariants.{Audit, FromIdle, Readings}
use Rattle.cli_choice.specs.declared.choice.CaptureSummary.{CaptureSummary}
use Rattle.cli_choice.specs.declared.choice.CaptureSummary.TheVariants as summaries
use Rattle.cli_words.specs.declared.mon_flags.MonFlags.{MonFlags}
use Rattle.cli_words.specs.declared.mon_flags.MonValue.{MonValue}
use Rattle.cli_words.specs.declared.mon_flags.MonValue.TheVariants.{From, Signal, Scale, Glitch, Margin, Replay}

-- the form of a capture that a word names
abbrev pub form_of : List ℕ → Option CaptureForm
form_of word =
    if bytes_eq word (codes "edges") then Some Edges
    else if bytes_eq word (codes "vcd") then Some Vcd
    else if bytes_eq word (codes "pin") then Some Pin
    else if bytes_eq word (codes "csv") then Some Csv
    else None

-- by how many microseconds windows are wider, 300 at most
abbrev pub margin_by : Option ℕ → Option ℕ
margin_by None = None
margin_by (Some n) = if nat_le n 300 then Some n else None

abbrev pub margin_of : List ℕ → Option ℕ
margin_of word = margin_by (number_of word)

-- a logical address below f, which no device has alone (CEC 10.2)
abbrev pub address_of : List ℕ → Option ℕ
address_of word = if (length word == 1) && is_hex_digit (slice_index word 0) && not (slice_index word 0 == 102) then Some (digit_value (slice_index word 0)) else None

-- the flags with the value of the last
abbrev pub with_mon_value : MonFlags → MonValue → List ℕ → Option MonFlags
with_mon_value flags From word = option_map (λ form. record flags { form = Some form; waits = None }) (form_of word)
with_mon_value flags Signal word = Some (record flags { named = true; waits = None })
with_mon_value flags Scale word = option_map (λ scale. record flags { scale = Some scale; waits = None }) (scale_of word)
with_mon_value flags Glitch word = option_map (λ glitch. record flags { glitch = Some glitch; waits = None }) (micros_of word)
with_mon_value flags Margin word = option_map (λ margin. record flags { margin = Some margin; waits = None }) (margin_of word)
with_mon_value flags Replay word = option_map (λ address. record flags { summary = Some (summaries.Replay address); waits = None }) (address_of word)

-- the flags with one that says what is made of a capture as a whole, or how it comes
abbrev pub with_whole_flag : MonFlags → List ℕ → Option MonFlags
with_whole_flag flags word =
    if bytes_eq word (codes "--edges") && not flags.edges then Some (record flags { edges = true })
    else if bytes_eq word (codes "--report") && is_none flags.summary then Some (record flags { summary = Some summaries.Devices })
    else if bytes_eq word (codes "--verdict") && is_none flags.summary then Some (record flags { summary = Some summaries.Verdict })
    else if bytes_eq word (codes "--as-test") && is_none flags.summary then Some (record flags { summary = Some summaries.Test })
    else if bytes_eq word (codes "--replay") && is_none flags.summary then Some (record flags { waits = Some Replay })
    else if bytes_eq word (codes "--diff") && not flags.compares then Some (record flags { compares = true })
    else if bytes_eq word (codes "--follow") && not flags.follows then Some (record flags { follows = true })
    else if bytes_eq word (codes "--explain") && not flags.explains then Some (record flags { explains = true })
    else None

-- the flags with one that says how a capture is read, and which readings are written
abbrev pub with_reading_flag : MonFlags → List ℕ → Option MonFlags
with_reading_flag flags word =
    if bytes_eq word (codes "--from") && is_none flags.form then Some (record flags { waits = Some From })
    else if bytes_eq word (codes "--signal") && not flags.named then Some (record flags { waits = Some Signal })
    else if bytes_eq word (codes "--scale") && is_none flags.scale then Some (record flags { waits = Some Scale })
    else if bytes_eq word (codes "--glitch") && is_none flags.glitch then Some (record flags { waits = Some Glitch })
    else if bytes_eq word (codes "--margin") && is_none flags.margin then Some (record flags { waits = Some Margin })
    else if bytes_eq word (codes "--invert") && not flags.inverted then Some (record flags { inverted = true })
    else if bytes_eq word (codes "--from-start") && is_none flags.start then Some (record flags { start = Some Readings })
    else if bytes_eq word (codes "--from-idle") && is_none flags.start then Some (record flags { start = Some FromIdle })
    else if bytes_eq word (codes "--audit") && not flags.audit then Some (record flags { audit = true })
    else if bytes_eq word (codes "--timing") && not flags.timing then Some (record flags { timing = true })
    else if bytes_eq word (codes "--strict") && not flags.strict then Some (record flags { strict = true })
    else if bytes_eq word (codes "--fold") && not flags.folded then Some (record flags { folded = true })
    else if bytes_eq word (codes "--json") && not flags.json then Some (record flags { json = true })
    else None

-- the flags with one more; each stands once at most, and those that exclude one another not together
abbrev pub with_mon_flag : MonFlags → List ℕ → Option MonFlags
with_mon_flag flags word = option_or (with_reading_flag flags word) (with_whole_flag flags word)

-- a flag that waits for a value, with this one
abbrev pub waited_mon : List ℕ → MonFlags → Option MonFlags
waited_mon word flags = option_and_then (λ value. with_mon_value flags value word) flags.waits

-- the flags with one more, or with a flag and its value
abbrev pub with_mon_parts : MonFlags → List ℕ → Option (List ℕ × List ℕ) → Option MonFlags
with_mon_parts flags word None = with_mon_flag flags word
with_mon_parts flags word (Some parts) = option_and_then (waited_mon parts.1) (with_mon_flag flags parts.0)

-- the flags with one word more, which is a value where a flag waits for one
abbrev pub with_mon_word : MonFlags → Option MonValue → List ℕ → Option MonFlags
with_mon_word flags (Some value) word = with_mon_value flags value word
with_mon_word flags None word = with_mon_parts flags word (joined word)

-- and with each of some words
abbrev pub mon_flags : MonFlags → List (List ℕ) → Option MonFlags
mon_flags flags [] = Some flags
mon_flags flags (word ∷ words) = option_and_then (λ more. mon_flags more words) (with_mon_word flags flags.waits word)

-- whether the wires of a capture may have names
abbrev pub has_names : Option CaptureForm → Bool
has_names None = true
has_names (Some Vcd) = true
has_names (Some Csv) = true
has_names (Some form) = false

-- What is written of the capture, where a flag says it. An audit is of the whole capture; with the widths of its parts it is one
-- with `--audit` or without. Nothing but an audit is strict.
abbrev pub mon_report : Option CaptureReport → Bool → Bool → Bool → Option (Option CaptureReport)
mon_report start false timing false = Some start
mon_report start false timing true = None
mon_report None true timing strict = Some (Some (Audit timing strict))
mon_report (Some start) true timing strict = None

-- the form of a capture that is read line by line, which is not guessed
abbrev pub line_form : Option CaptureForm → Option LineForm
line_form (Some Edges) = Some line_forms.Edges
line_form (Some Pin) = Some line_forms.Pin
line_form (Some Csv) = Some line_forms.Csv
line_form form = None

-- what is written of a capture as it comes: its readings where no flag says it
abbrev pub follow_report : Option CaptureReport → Bool → FollowReport
follow_report None folded = follow_reports.Readings false folded
follow_report (Some Readings) folded = follow_reports.Readings false folded
follow_report (Some FromIdle) folded = follow_reports.Readings true folded
follow_report (Some (Audit timing strict)) folded = follow_reports.Audit timing strict

-- how it is followed, and what is reported of it; the bad starts of an audit are not folded, and times are as they stand
abbrev pub followed_as : MonFlags → LineForm → FollowReport → CommandChoice
followed_as flags form report = Follow (record { form = form; glitch = unwrap_or flags.glitch 0; inverted = flags.inverted; margin = unwrap_or flags.margin 0; report = report; written = form_by flags.json })

abbrev pub follow_choice : MonFlags → Option CommandChoice
follow_choice flags =
    if (flags.folded && (flags.audit || flags.timing)) || is_some flags.scale then None
    else option_and_then (λ form. option_map (λ report. followed_as flags form (follow_report report flags.folded)) (mon_report flags.start (flags.audit || flags.timing) flags.timing flags.strict)) (line_form flags.form)

-- which lines there are of readings, or that they come one by one
abbrev pub asks_of_lines : MonFlags → Bool
asks_of_lines flags = is_some flags.start || flags.audit || flags.timing || flags.folded || flags.follows

-- something of readings
abbrev pub asks_of_readings : MonFlags → Bool
asks_of_readings flags = asks_of_lines flags || is_some flags.margin || flags.strict || is_some flags.summary || flags.json

-- the line itself, of which nothing is read
abbrev pub line_choice : MonFlags → Option CommandChoice
line_choice flags = if asks_of_readings flags then None else Some (CapturedLine flags.form flags.inverted (unwrap_or flags.scale 10000) (unwrap_or flags.glitch 0))

-- what goes with what is said of the whole: a verdict, a test and a replay go by no margin and have no remarks; a test and a replay are no records
abbrev pub goes_with : MonFlags → CaptureSummary → Bool
goes_with flags summaries.Devices = true
goes_with flags summaries.Verdict = is_none flags.margin && not flags.strict
goes_with flags summaries.Test = is_none flags.margin && not flags.strict && not flags.json
goes_with flags (summaries.Replay address) = is_none flags.margin && not flags.strict && not flags.json

-- what is said of the whole in place of its readings
abbrev pub summary_choice : MonFlags → CaptureSummary → Option CommandChoice
summary_choice flags summary =
    if asks_of_lines flags || not (goes_with flags summary) then None
    else Some (Summary (record {
      form = flags.form;
      scale = unwrap_or flags.scale 10000;
      glitch = unwrap_or flags.glitch 0;
      margin = unwrap_or flags.margin 0;
      inverted = flags.inverted;
      summary = summary;
      strict = flags.strict;
      written = form_by flags.json;
    }))

-- where two captures differ, of which each is read as the other
abbrev pub pair_choice : MonFlags → Option CommandChoice
pair_choice flags =
    if asks_of_lines flags || flags.strict || is_some flags.summary || flags.edges then None
    else Some (CaptureDiff (record { form = flags.form; scale = unwrap_or flags.scale 10000; glitch = unwrap_or flags.glitch 0; margin = unwrap_or flags.margin 0; inverted = flags.inverted; written = form_by flags.json }))

-- its readings, or its audit
abbrev pub read_as : MonFlags → Option CaptureReport → CommandChoice
read_as flags report = Mon (record {
  form = flags.form;
  scale = unwrap_or flags.scale 10000;
  glitch = unwrap_or flags.glitch 0;
  margin = unwrap_or flags.margin 0;
  inverted = flags.inverted;
  folded = flags.folded;
  report = report;
  written = form_by flags.json;
})

abbrev pub readings_choice : MonFlags → Option CommandChoice
readings_choice flags = option_map (read_as flags) (mon_report flags.start (flags.audit || flags.timing) flags.timing flags.strict)

-- what is written of a capture: its line, what is said of the whole, or its readings, at once or as its lines come
abbrev pub choice_without_line : MonFlags → Option CaptureSummary → Option CommandChoice
choice_without_line flags (Some summary) = summary_choice flags summary
choice_without_line flags None = if flags.follows then follow_choice flags else readings_choice flags

abbrev pub one_choice : MonFlags → Option CommandChoice
one_choice flags = if flags.edges then line_choice flags else choice_without_line flags flags.summary

-- of one, or of two
abbrev pub mon_choice : MonFlags → Option CommandChoice
mon_choice flags = if flags.compares then pair_choice flags else one_choice flags

-- a value is missing, or a wire has no name
abbrev pub is_misfit : MonFlags → Bool
is_misfit flags = is_some flags.waits || (flags.named && not (has_names flags.form))

-- what they ask for
abbrev pub mon_asked : MonFlags → Option Asked
mon_asked flags =
    if is_misfit flags then None
    else option_map (λ choice. record { choice = choice; explains = flags.explains }) (mon_choice flags)
