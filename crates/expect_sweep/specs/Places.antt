-- Where times stand in the lines of a script (own): after `at`, `pulse`, `pull`, `pin` and `end`, and in the windows of expectations after
-- `within`, `from`, `to` and `state`; a label may stand before each. The number of a count is no time.
use Rattle.std.specs.Prelude.{ℕ, ◌||◌, Bool, true, false, if◌then◌else◌, codes, List}
use Rattle.std.specs.Str.{bytes_eq}
use Rattle.expect_sweep.specs.declared.places.WordRole.{WordRole}
use Rattle.expect_sweep.specs.declared.places.WordRole.TheVariants.{Begin, Name, Verb, Expectation, Bound, Number, Window, From, To, Time, Other}

abbrev pub is_time_verb : List ℕ → Bool
is_time_verb word = bytes_eq word (codes "at") || bytes_eq word (codes "pulse") || bytes_eq word (codes "pull") || bytes_eq word (codes "pin") || bytes_eq word (codes "end")

abbrev pub after_verb : List ℕ → WordRole
after_verb word =
    if is_time_verb word then Time
    else if bytes_eq word (codes "expect") then Expectation
    else Other

abbrev pub after_window : List ℕ → WordRole
after_window word =
    if bytes_eq word (codes "from") then From
    else if bytes_eq word (codes "within") || bytes_eq word (codes "state") then Time
    else Other

-- `none`, `once`, `exactly N`, `at most N` and `at least N` stand before a window
abbrev pub after_expect : List ℕ → WordRole
after_expect word =
    if bytes_eq word (codes "none") || bytes_eq word (codes "once") then Window
    else if bytes_eq word (codes "exactly") then Number
    else if bytes_eq word (codes "at") then Bound
    else after_window word

-- the place after a word
abbrev pub next_place : WordRole → List ℕ → WordRole
next_place Begin word = if bytes_eq word (codes "label") then Name else after_verb word
next_place Name word = Verb
next_place Verb word = after_verb word
next_place Expectation word = after_expect word
next_place Bound word = if bytes_eq word (codes "most") || bytes_eq word (codes "least") then Number else Other
next_place Number word = Window
next_place Window word = after_window word
next_place From word = To
next_place To word = if bytes_eq word (codes "to") then Time else Other
next_place Time word = Other
next_place Other word = Other

abbrev pub is_time : WordRole → Bool
is_time Begin = false
is_time Name = false
is_time Verb = false
is_time Expectation = false
is_time Bound = false
is_time Number = false
is_time Window = false
is_time From = true
is_time To = false
is_time Time = true
is_time Other = false
