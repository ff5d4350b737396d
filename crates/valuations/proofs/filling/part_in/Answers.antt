use Rattle.valuations.proofs.Vocabulary.{◌≡◌, ◌+◌, [], None, Some, take, get_or, refl, sym, ap, subst, ◌∙◌, take_all, option_copied, value_at, VarId, with_value, bound_in}
use Rattle.valuations.proofs.ScopeLaws.{part_is, IsPartOfValuation}
use Rattle.valuations.proofs.FrameLemmas.{none_copied, some_copied, part_bound, part_kept, part_same, part_without}
use Rattle.valuations.proofs.filling.part_in.Goals.{then-is_none+in-Some+in_ok-duplicate+in_ok-bind, then-is_none+in_default, else-is_none}
use Rattle.valuations.proofs.filling.part_in.Goals as goal

pub loop-variable-init : goal.loop-variable-init
loop-variable-init c = subst (IsPartOfValuation (bound_in c.args.v.now) []) (sym c.empty-part.ensures) (part_is (bound_in c.args.v.now) [])

pub loop-variable-preserved : goal.loop-variable-preserved
loop-variable-preserved c =
    let v = bound_in c.args.v.now in
    let xs = c.args.variables.now in
    let k = c.loop-variable.variable-index in
    let x : VarId = get_or xs k (record { 0 = 0 }) in
    elim c.if-is_none.branch [
      | then-is_none+in-Some+in_ok-duplicate+in_ok-bind w ↦
          let has : value_at v x ≡ Some w.in-Some.value.now = sym w.get-then-is_none.ensures ∙ ap option_copied w.in-Some.is in
          let bound : c.if-is_none.part ≡ with_value c.loop-variable.part x w.in-Some.value.now = w.part-is ∙ w.in_ok-bind.ensures.ok ∙ ap (with_value c.loop-variable.part x)
          w.in_ok-duplicate.ensures in
          subst (IsPartOfValuation v (take (k + 1) xs)) (sym bound) (part_bound v xs k x (record { 0 = 0 }) c.loop-variable-test.true refl c.loop-variable.part c.loop-variable.invariant
          w.in-Some.value.now has)
      | then-is_none+in_default w ↦
          let unbound : value_at c.loop-variable.part x ≡ None = none_copied c.get.result c.is_none.result (value_at c.loop-variable.part x) c.get.ensures c.is_none.ensures w.if-is_none.true in
          let absent : value_at v x ≡ None = sym w.get-then-is_none.ensures ∙ ap option_copied w.in_default.is in
          subst (IsPartOfValuation v (take (k + 1) xs)) (sym w.part-is) (part_without v xs k x (record { 0 = 0 }) c.loop-variable-test.true refl c.loop-variable.part
          c.loop-variable.invariant unbound absent)
      | else-is_none w ↦
          subst (IsPartOfValuation v (take (k + 1) xs)) (sym w.part-is) (part_kept v xs k x (record { 0 = 0 }) c.loop-variable-test.true refl c.loop-variable.part c.loop-variable.invariant
          (some_copied c.get.result c.is_none.result (value_at c.loop-variable.part x) c.get.ensures c.is_none.ensures w.if-is_none.false))
    ]

pub returns : goal.returns
returns c =
    part_same (bound_in c.args.v.now) c.args.variables.now c.loop-variable.part
    (subst (λ l. IsPartOfValuation (bound_in c.args.v.now) l c.loop-variable.part) (take_all c.loop-variable.variable-index c.args.variables.now c.loop-variable-test.false) c.loop-variable.invariant)
