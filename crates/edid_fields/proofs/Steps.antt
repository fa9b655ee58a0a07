-- One step of a walk.
use Rattle.std.proofs.Common.{◌≡◌, ℕ, zero, suc, ◌-◌, List, Option, Some, ap, refl, sym, ◌∙◌, arith}
use Rattle.edid_fields.specs.Fields.{after_shape, chosen, copies_end, next_shape}
use Rattle.edid_fields.specs.Forms.{Shape}
use Rattle.edid_fields.specs.declared.walking.Place.{Place}

pub end_step : (times : ℕ) (stop : Option ℕ) (p starts : List ℕ) (shapes : List Shape) (w v : Place) (s : Shape)
    → ¬ (times ≡ 0) → next_shape stop p starts w.at shapes ≡ Some s → v ≡ after_shape p w s
    → copies_end (times - 1) stop p starts shapes v ≡ copies_end times stop p starts shapes w
unfolding copies_end
end_step zero stop p starts shapes w v s h k e = absurd (h refl)
end_step (suc n) stop p starts shapes w v s h k e =
    let less : suc n - 1 ≡ n = omega arith in
    ap (λ m. copies_end m stop p starts shapes v) less
    ∙ ap (copies_end n stop p starts shapes) e
    ∙ sym (ap (λ o. chosen o w (λ x. copies_end n stop p starts shapes (after_shape p w x))) k)
