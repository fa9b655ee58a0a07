use Rattle.std.proofs.Common.{ap, subst, sym, ◌∙◌}
use Rattle.edid_text_lines.specs.Formed.{form_of, FormedFields}
use Rattle.edid_text_lines.specs.Text.{word_text, fields_text}
use Rattle.edid_text_lines.proofs.OneWord.{solid, fields_begin, front_of, some_same, same_line}
use Rattle.edid_text_lines.proofs.text_to_line.candidate.Goals as goal

pub returns-in_default : goal.returns-in_default
returns-in_default c = λ l h e.
    let cut = c.next_word.ensures (word_text l.word) (fields_text l.fields) (solid l.word) (fields_begin l.fields) (front_of _ _ c.args.line.now e) in
    let none = c.in_default.ensures.only l.word (sym cut.0) in
    cc

pub returns-in_default-read_fields : goal.returns-in_default-read_fields
returns-in_default-read_fields c = λ l h e.
    let cut = c.next_word.ensures (word_text l.word) (fields_text l.fields) (solid l.word) (fields_begin l.fields) (front_of _ _ c.args.line.now e) in
    let same = some_same c.in-Some.word l.word (c.in-Some.ensures.only l.word (sym cut.0)) in
    let none = c.in_default-read_fields.ensures l.fields (subst (λ x. FormedFields x l.fields) (sym (c.form.ensures ∙ ap form_of same)) h) (sym cut.1) in
    cc

pub returns : goal.returns
returns c = λ l h e.
    let cut = c.next_word.ensures (word_text l.word) (fields_text l.fields) (solid l.word) (fields_begin l.fields) (front_of _ _ c.args.line.now e) in
    let same = some_same c.in-Some.word l.word (c.in-Some.ensures.only l.word (sym cut.0)) in
    let fields = some_same c.in-Some-read_fields.fields l.fields (c.in-Some-read_fields.ensures l.fields (subst (λ x. FormedFields x l.fields) (sym (c.form.ensures ∙ ap form_of same)) h) (sym cut.1)) in
    same_line l c.in-Some.word c.in-Some-read_fields.fields same fields
