-- The flags of `edid` (own).
use Rattle.std.specs.Prelude.{ℕ, List, [], ◌∷◌, Bool, Option, Some, None, if◌then◌else◌, true, false, codes, ◌&&◌, ◌||◌, nat_le, is_some, unwrap_or, option_and_then, is_none, not}
use Rattle.std.specs.Option.{option_map, option_or}
use Rattle.std.specs.Result.{is_ok}
use Rattle.std.specs.Str.{bytes_eq}
use Rattle.text_core.specs.Number.{number_of}
use Rattle.text_core.specs.Phys.{phys_of}
use Rattle.text_core.specs.declared.phys.Phys.{Phys}
use Rattle.edid_merge.specs.Tables.{receiver_table}
use Rattle.infoframe_tables.specs.Reading.{read_of}
use Rattle.edid_merge.specs.declared.table.Table.{Table}
use Rattle.cli_choice.specs.Form.{form_by}
use Rattle.cli_choice.specs.Joined.{joined}
use Rattle.cli_edid.specs.Rows.{rows_of}
use Rattle.record_core.specs.declared.cell.Form.{Form}
use Rattle.record_core.specs.declared.cell.Form.TheVariants as forms
use Rattle.cli_choice.specs.declared.choice.Asked.{Asked}
use Rattle.cli_choice.specs.declared.choice.CommandChoice.{CommandChoice}
use Rattle.cli_choice.specs.declared.choice.CommandChoice.TheVariants.{Edid, EdidDiff, Eld, InfoFrame}
use Rattle.cli_choice.specs.declared.choice.EdidReading.{EdidReading}
use Rattle.cli_choice.specs.declared.choice.EdidReading.TheVariants as readings
use Rattle.cli_choice.specs.declared.choice.Recipient.{Recipient}
use Rattle.cli_choice.specs.declared.choice.Recipient.TheVariants.{Own, At, Port}
use Rattle.cli_choice.specs.declared.choice.Sound.{Sound}
use Rattle.cli_choice.specs.declared.choice.Sound.TheVariants.{Kept, Amplified, Spoken}
use Rattle.cli_choice.specs.declared.choice.Source.{Source}
use Rattle.cli_choice.specs.declared.choice.Source.TheVariants as sources
use Rattle.cli_choice.specs.declared.choice.EldShape.TheVariants as elds
use Rattle.cli_choice.specs.declared.choice.EdidShape.{EdidShape}
use Rattle.cli_choice.specs.declared.choice.EdidShape.TheVariants as shapes
use Rattle.cli_choice.specs.declared.choice.View.{View}
use Rattle.cli_choice.specs.declared.choice.View.TheVariants.{Whole, Meaning, Fields, Findings, Address, Readout, Room, Eld as EldView}
use Rattle.cli_edid.specs.declared.flags.EdidFlags.{EdidFlags}
use Rattle.cli_edid.specs.declared.flags.EdidOutput.{EdidOutput}
use Rattle.cli_edid.specs.declared.flags.EdidOutput.TheVariants as wants
use Rattle.cli_edid.specs.declared.flags.EdidValue.{EdidValue}
use Rattle.cli_edid.specs.declared.flags.EdidValue.TheVariants as values

-- the number of a port: 1 to 15
abbrev pub port_number : Option ℕ → Option ℕ
port_number None = None
port_number (Some n) = if nat_le 1 n && nat_le n 15 then Some n else None

abbrev pub port_of : List ℕ → Option ℕ
port_of word = port_number (number_of word)

-- the number of an EDID among several: from 1
abbrev pub nth_number : Option ℕ → Option ℕ
nth_number None = None
nth_number (Some n) = if nat_le 1 n then Some n else None

abbrev pub nth_of : List ℕ → Option ℕ
nth_of word = nth_number (number_of word)

abbrev pub amplified_of : List ℕ → Bool
amplified_of word = bytes_eq word (codes "amp")

abbrev pub spoken_of : List ℕ → Bool
spoken_of word = bytes_eq word (codes "own")

-- the form in which the whole EDID is written; a kernel takes its bytes as they are
abbrev pub output_of : List ℕ → Option EdidOutput
output_of word =
    if bytes_eq word (codes "c") then Some wants.C
    else if bytes_eq word (codes "xml") then Some wants.Xml
    else if bytes_eq word (codes "firmware") then Some wants.Raw
    else None

-- it spells an InfoFrame
abbrev pub is_infoframe : List ℕ → Bool
is_infoframe word = is_ok (read_of word)

-- the flags with the value of the last
abbrev pub with_edid_value : EdidFlags → EdidValue → List ℕ → Option EdidFlags
with_edid_value flags values.Address word = option_map (λ address. record flags { address = Some address; waits = None }) (phys_of word)
with_edid_value flags values.Port word = option_map (λ port. record flags { port = Some port; waits = None }) (port_of word)
with_edid_value flags values.Below word = if amplified_of word then Some (record flags { amplified = true; waits = None }) else None
with_edid_value flags values.Speakers word = if spoken_of word then Some (record flags { spoken = true; waits = None }) else None
with_edid_value flags values.Rows word = option_map (λ rows. record flags { rows = Some rows; waits = None }) (rows_of receiver_table word)
with_edid_value flags values.Nth word = option_map (λ nth. record flags { nth = Some nth; waits = None }) (nth_of word)
with_edid_value flags values.As word = option_map (λ output. record flags { wanted = Some output; waits = None }) (output_of word)
with_edid_value flags values.InfoFrame word = if is_infoframe word then Some (record flags { framed = true; waits = None }) else None

-- the flags with one that says for whom an EDID is, or of one of several
abbrev pub with_place_flag : EdidFlags → List ℕ → Option EdidFlags
with_place_flag flags word =
    if bytes_eq word (codes "--address") && is_none flags.address then Some (record flags { waits = Some values.Address })
    else if bytes_eq word (codes "--port") && is_none flags.port then Some (record flags { waits = Some values.Port })
    else if bytes_eq word (codes "--below") && not flags.amplified then Some (record flags { waits = Some values.Below })
    else if bytes_eq word (codes "--speakers") && not flags.spoken then Some (record flags { waits = Some values.Speakers })
    else if bytes_eq word (codes "--merge") && not flags.merges then Some (record flags { merges = true })
    else if bytes_eq word (codes "--from-eld") && not flags.reads_eld then Some (record flags { reads_eld = true })
    else if bytes_eq word (codes "--diff") && not flags.compares then Some (record flags { compares = true })
    else if bytes_eq word (codes "--rows") && is_none flags.rows then Some (record flags { waits = Some values.Rows })
    else if bytes_eq word (codes "--nth") && is_none flags.nth then Some (record flags { waits = Some values.Nth })
    else if bytes_eq word (codes "--explain") && not flags.explains then Some (record flags { explains = true })
    else None

-- the flags with one that says how an EDID is read, or what is written of it
abbrev pub with_form_flag : EdidFlags → List ℕ → Option EdidFlags
with_form_flag flags word =
    if bytes_eq word (codes "--text") && is_none flags.source then Some (record flags { source = Some sources.Text })
    else if bytes_eq word (codes "--words") && is_none flags.source then Some (record flags { source = Some sources.Words })
    else if bytes_eq word (codes "--hex") && is_none flags.source then Some (record flags { source = Some (sources.Dump 1) })
    else if bytes_eq word (codes "--eeodb") && is_none flags.reading then Some (record flags { reading = Some readings.Overridden })
    else if bytes_eq word (codes "--as-source") && is_none flags.reading then Some (record flags { reading = Some readings.AsSource })
    else if bytes_eq word (codes "--mend") && not flags.mends then Some (record flags { mends = true })
    else if bytes_eq word (codes "--raw") && is_none flags.wanted then Some (record flags { wanted = Some wants.Raw })
    else if bytes_eq word (codes "--as") && is_none flags.wanted then Some (record flags { waits = Some values.As })
    else if bytes_eq word (codes "--infoframe") && not flags.framed then Some (record flags { waits = Some values.InfoFrame })
    else if bytes_eq word (codes "--check") && is_none flags.wanted then Some (record flags { wanted = Some wants.Check })
    else if bytes_eq word (codes "--meaning") && is_none flags.wanted then Some (record flags { wanted = Some wants.Meaning })
    else if bytes_eq word (codes "--only-address") && is_none flags.wanted then Some (record flags { wanted = Some wants.OnlyAddress })
    else if bytes_eq word (codes "--ddc") && is_none flags.wanted then Some (record flags { wanted = Some wants.Ddc })
    else if bytes_eq word (codes "--room") && is_none flags.wanted then Some (record flags { wanted = Some wants.Room })
    else if bytes_eq word (codes "--eld") && not flags.eld then Some (record flags { eld = true })
    else if bytes_eq word (codes "--json") && not flags.json then Some (record flags { json = true })
    else None

-- the flags with one more; each stands once at most, and those that exclude one another not together
abbrev pub with_edid_flag : EdidFlags → List ℕ → Option EdidFlags
with_edid_flag flags word = option_or (with_form_flag flags word) (with_place_flag flags word)

-- a flag that waits for a value, with this one
abbrev pub waited_edid : List ℕ → EdidFlags → Option EdidFlags
waited_edid word flags = option_and_then (λ value. with_edid_value flags value word) flags.waits

-- the flags with one more, or with a flag and its value
abbrev pub with_edid_parts : EdidFlags → List ℕ → Option (List ℕ × List ℕ) → Option EdidFlags
with_edid_parts flags word None = with_edid_flag flags word
with_edid_parts flags word (Some parts) = option_and_then (waited_edid parts.1) (with_edid_flag flags parts.0)

-- the flags with one word more, which is a value where a flag waits for one
abbrev pub with_edid_word : EdidFlags → Option EdidValue → List ℕ → Option EdidFlags
with_edid_word flags (Some value) word = with_edid_value flags value word
with_edid_word flags None word = with_edid_parts flags word (joined word)

-- and with each of some words
abbrev pub edid_flags : EdidFlags → List (List ℕ) → Option EdidFlags
edid_flags flags [] = Some flags
edid_flags flags (word ∷ words) = option_and_then (λ more. edid_flags more words) (with_edid_word flags flags.waits word)

-- whose sound is passed on: the speakers are an amplifier's with its audio alone
abbrev pub edid_sound : Bool → Bool → Option Sound
edid_sound false false = Some Kept
edid_sound true false = Some Amplified
edid_sound true true = Some Spoken
edid_sound false true = None

-- the device that the EDID is for, by an address, a port and the sound, of which not each goes with each
abbrev pub place_by : Option Phys → Option ℕ → Sound → Option Recipient
place_by None None Kept = Some Own
place_by (Some address) None Kept = Some (At address)
place_by None (Some port) sound = Some (Port port sound)
place_by address port sound = None

abbrev pub edid_place : EdidFlags → Option Recipient
edid_place flags = option_and_then (λ sound. place_by flags.address flags.port sound) (edid_sound flags.amplified flags.spoken)

-- how an EDID is written where no flag says it: that of a text as hex, and else as its text
abbrev pub own_shape : Source → EdidShape
own_shape sources.Text = shapes.Hex
own_shape sources.Words = shapes.Hex
own_shape sources.Bytes = shapes.Text
own_shape (sources.Dump nth) = shapes.Text
own_shape (sources.Pair dumps table) = shapes.Text

-- one EDID; of a dump alone one of several is chosen
abbrev pub one_source : Option Source → Option ℕ → Option Source
one_source source None = Some (unwrap_or source sources.Bytes)
one_source (Some (sources.Dump one)) (Some nth) = Some (sources.Dump nth)
one_source source (Some nth) = None

-- two EDIDs, as bytes or as dumps
abbrev pub pair_source : Option Source → Table → Option Source
pair_source None table = Some (sources.Pair false table)
pair_source (Some (sources.Dump one)) table = Some (sources.Pair true table)
pair_source source table = None

-- what the EDID is read from; rows go with two EDIDs alone, which are read as they stand, and of which none is chosen
abbrev pub edid_source : EdidFlags → Option Source
edid_source flags =
    if flags.merges then (if is_some flags.nth || is_some flags.reading || flags.mends then None else pair_source flags.source (unwrap_or flags.rows receiver_table))
    else if is_some flags.rows then None
    else one_source flags.source flags.nth

-- how the EDID is read; what a source reads is mended its own way
abbrev pub reading_by : Option EdidReading → Bool → Option EdidReading
reading_by reading false = Some (unwrap_or reading readings.Strict)
reading_by None true = Some readings.Mended
reading_by (Some readings.Overridden) true = Some readings.MendedOverridden
reading_by (Some reading) true = None

-- what is written
abbrev pub own_view : Form → Recipient → EdidShape → View
own_view forms.Text place shape = Whole place shape
own_view forms.Json place shape = Fields place

abbrev pub edid_view : Option EdidOutput → Form → Recipient → EdidShape → View
edid_view None form place shape = own_view form place shape
edid_view (Some wants.Raw) form place shape = Whole place shapes.Bytes
edid_view (Some wants.C) form place shape = Whole place shapes.C
edid_view (Some wants.Xml) form place shape = Whole place shapes.Xml
edid_view (Some wants.Check) form place shape = Findings place form
edid_view (Some wants.Meaning) form place shape = Meaning place
edid_view (Some wants.OnlyAddress) form place shape = Address place
edid_view (Some wants.Ddc) form place shape = Readout place
edid_view (Some wants.Room) form place shape = Room place form

-- the outputs of which there are objects
abbrev pub has_objects : Option EdidOutput → Bool
has_objects None = true
has_objects (Some wants.Check) = true
has_objects (Some wants.Room) = true
has_objects _ = false

-- what is written of its ELD: a line of hex, its bytes, or what its fields say
abbrev pub eld_view : Option EdidOutput → Form → Recipient → Option View
eld_view None forms.Text place = Some (EldView place elds.Hex)
eld_view None forms.Json place = Some (EldView place (elds.Fields forms.Json))
eld_view (Some wants.Raw) forms.Text place = Some (EldView place elds.Bytes)
eld_view (Some wants.Meaning) forms.Text place = Some (EldView place (elds.Fields forms.Text))
eld_view wanted form place = None

-- what is written of an EDID or of its ELD
abbrev pub view_by : EdidFlags → Source → Recipient → Option View
view_by flags source place =
    if flags.eld then eld_view flags.wanted (form_by flags.json) place
    else if flags.json && not (has_objects flags.wanted) then None
    else Some (edid_view flags.wanted (form_by flags.json) place (own_shape source))

-- what they ask for of one EDID
abbrev pub chosen_by : Source → EdidReading → View → CommandChoice
chosen_by source reading view = Edid (Some source) reading view

abbrev pub edid_whole : EdidFlags → Option CommandChoice
edid_whole flags =
    option_and_then (λ source. option_and_then (λ place. option_and_then (λ view. option_map (λ reading. chosen_by source reading view) (reading_by flags.reading flags.mends)) (view_by flags source place)) (edid_place flags)) (edid_source flags)

-- what an InfoFrame says, and whether an EDID offers that, of which nothing else is written
abbrev pub framed_by : EdidFlags → Source → Recipient → EdidReading → CommandChoice
framed_by flags source place reading = InfoFrame (Some source) reading place (form_by flags.json)

abbrev pub frame_choice : EdidFlags → Option CommandChoice
frame_choice flags =
    if is_some flags.wanted || flags.eld then None
    else option_and_then (λ source. option_and_then (λ place. option_map (framed_by flags source place) (reading_by flags.reading flags.mends)) (edid_place flags)) (edid_source flags)

-- two EDIDs are read as dumps, and else as bytes
abbrev pub are_dumps : Option Source → Option Bool
are_dumps None = Some false
are_dumps (Some (sources.Dump nth)) = Some true
are_dumps (Some source) = None

-- no flag says which EDID is read, how, for which device, and what of it is written
abbrev pub is_alone : EdidFlags → Bool
is_alone flags =
    is_none flags.nth && is_none flags.reading && not flags.mends && is_none flags.wanted && not flags.eld && not flags.framed && is_none flags.address && is_none flags.port && not flags.amplified
    && not flags.spoken && not flags.merges && is_none flags.rows

-- where two EDIDs differ, which are read as they stand
abbrev pub differing : EdidFlags → Bool → CommandChoice
differing flags dumps = EdidDiff dumps (form_by flags.json)

abbrev pub edid_diff : EdidFlags → Option CommandChoice
edid_diff flags = if is_alone flags then option_map (differing flags) (are_dumps flags.source) else None

-- what the fields of an ELD say, which is read in one way
abbrev pub eld_choice : EdidFlags → Option CommandChoice
eld_choice flags = if not (is_alone flags) || is_some flags.source || flags.compares then None else Some (Eld (form_by flags.json))

-- of an ELD, of two EDIDs, of an InfoFrame against one, or of one
abbrev pub edid_choice : EdidFlags → Option CommandChoice
edid_choice flags = if flags.reads_eld then eld_choice flags else if flags.compares then edid_diff flags else if flags.framed then frame_choice flags else edid_whole flags

-- what they ask for
abbrev pub edid_asked : EdidFlags → Option Asked
edid_asked flags = if is_some flags.waits then None else option_map (λ choice. record { choice = choice; explains = flags.explains }) (edid_choice flags)
