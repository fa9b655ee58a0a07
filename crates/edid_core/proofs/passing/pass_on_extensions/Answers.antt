use Rattle.std.proofs.Common.{◌≡◌, None, ap, sym, refl, ◌∙◌, get_or, flat_map}
use Rattle.std.specs.List.{position}
use Rattle.edid_cta.specs.Ext.{ext_bytes}
use Rattle.edid_core.specs.Address.{has_address, first_address}
use Rattle.edid_core.proofs.Passed.{first_at, unaddressed, addressed, passed_there, address_passed}
use Rattle.edid_core.proofs.passing.pass_on_extensions.Goals as goal

pub returns-in_default-clause-refused : goal.returns-in_default-clause-refused
returns-in_default-clause-refused c =
    let items = c.as_slice-extensions.ensures.value in
    let none : position has_address c.args.list.now.items ≡ None = ap (position has_address) (sym items) ∙ sym c.first_addressed.ensures ∙ c.in_default.is in
    (λ h. unaddressed c.args.list.now.items none, λ h. refl)

pub returns-in-Err-clause-refused : goal.returns-in-Err-clause-refused
returns-in-Err-clause-refused c =
    let items = c.as_slice-extensions.ensures.value in
    let index = c.in-Some.index in
    let x = c.index-extensions-index.result in
    let at = first_at c.args.list.now.items index (ap (position has_address) (sym items) ∙ sym c.first_addressed.ensures ∙ c.in-Some.is) in
    let here = addressed c.args.list.now.items index x at (c.index-extensions-index.is ∙ ap (λ xs. get_or xs index x) items) in
    (λ h. here ∙ c.in-Err.ensures.refused.0 h, λ h. refl)

pub returns-in-Ok-clause-bytes : goal.returns-in-Ok-clause-bytes
returns-in-Ok-clause-bytes c =
    let old = c.args.list.now.items in
    let items = c.as_slice-extensions.ensures.value in
    let index = c.in-Some.index in
    let x = c.index-extensions-index.result in
    let at = first_at old index (ap (position has_address) (sym items) ∙ sym c.first_addressed.ensures ∙ c.in-Some.is) in
    let there = c.index-extensions-index.is ∙ ap (λ xs. get_or xs index x) items in
    ap (λ xs. flat_map ext_bytes xs) c.put.ensures ∙ passed_there c.args.audio c.args.address old index x c.in-Ok.passed at there c.in-Ok.ensures.bytes

pub returns-in-Ok-clause-addressed : goal.returns-in-Ok-clause-addressed
returns-in-Ok-clause-addressed c =
    let old = c.args.list.now.items in
    let items = c.as_slice-extensions.ensures.value in
    let index = c.in-Some.index in
    let at = first_at old index (ap (position has_address) (sym items) ∙ sym c.first_addressed.ensures ∙ c.in-Some.is) in
    ap first_address c.put.ensures ∙ address_passed old index c.in-Ok.passed c.args.address at c.in-Ok.ensures.addressed

pub returns-in-Ok-clause-refused : goal.returns-in-Ok-clause-refused
returns-in-Ok-clause-refused c =
    let items = c.as_slice-extensions.ensures.value in
    let index = c.in-Some.index in
    let x = c.index-extensions-index.result in
    let at = first_at c.args.list.now.items index (ap (position has_address) (sym items) ∙ sym c.first_addressed.ensures ∙ c.in-Some.is) in
    let here = addressed c.args.list.now.items index x at (c.index-extensions-index.is ∙ ap (λ xs. get_or xs index x) items) in
    (λ h. here ∙ c.in-Ok.ensures.refused.0 h, λ h. c.in-Ok.ensures.refused.1 (sym here ∙ h))
