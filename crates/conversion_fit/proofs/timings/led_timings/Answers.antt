use Rattle.std.proofs.Common.{◌∙◌, ap, ℕ, List, ◌++◌}
use Rattle.edid_base.specs.declared.timing.Timing.{Timing}
use Rattle.conversion_fit.specs.Timings.{area, without_first}
use Rattle.conversion_fit.proofs.Adding.{led_goes, led_stays}
use Rattle.conversion_fit.proofs.timings.led_timings.Goals as goal

pub returns-then-some_area_there : goal.returns-then-some_area_there
returns-then-some_area_there c =
    led_stays c.args.extensions.now c.args.descriptors.now c.args.timings.now c.in-Some.timing c.area.result c.some_area_there.result c.area.ensures c.some_area_there.ensures
    c.args.leader c.add_all-then-some_area_there.new.out.items c.if-some_area_there.true c.in-Some.is
    (c.add_all-then-some_area_there.ensures.items ∙ ap (λ (l : List Timing). l ++ c.as_slice-then-some_area_there.result.now) c.new-out.ensures
    ∙ c.as_slice-then-some_area_there.ensures.value ∙ c.carried_timings-carried.ensures.items)

pub returns-else-some_area_there : goal.returns-else-some_area_there
returns-else-some_area_there c =
    let given = c.as_slice-else-some_area_there.result.now in
    let pixels = c.area-else-some_area_there.result in
    led_goes c.args.extensions.now c.args.descriptors.now c.args.timings.now c.in-Some.timing c.area.result c.some_area_there.result c.area.ensures c.some_area_there.ensures
    c.args.leader c.add_others.new.out.items c.if-some_area_there.false c.in-Some.is
    (c.add_others.ensures.items ∙ ap (λ (l : List Timing). l ++ without_first pixels given) c.new-out.ensures
    ∙ ap (λ (n : ℕ). without_first n given) c.area-else-some_area_there.ensures
    ∙ ap (λ (l : List Timing). without_first (area c.in-Some.timing) l) (c.as_slice-else-some_area_there.ensures.value ∙ c.carried_timings-carried.ensures.items))
