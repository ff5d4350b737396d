use Rattle.trace_audit.proofs.Vocabulary.{◌≡◌, ◌∷◌, ◌+◌, ◌∙◌, List, Option, Some, drop, ap, sym, subst, drop_all, drop_at_item as dropped, slice_get-get_or, Contains, open_in, OpenRule}
use Rattle.trace_audit.proofs.JudgementLemmas.{FindsFirst, finds_all, finds_begin, finds_slot}
use Rattle.trace_audit.proofs.SlotLemmas.{open_at}
use Rattle.trace_audit.proofs.followed_rules.first_broken.Goals as goal

pub loop-slot-init : goal.loop-slot-init
loop-slot-init c =
    subst (λ (l : List OpenRule). FindsFirst c.args.asked.now c.args.broken l c.args.broken) (sym c.slots-slot-items.ensures)
    (finds_begin c.args.asked.now c.args.broken)

pub loop-slot-preserved : goal.loop-slot-preserved
loop-slot-preserved c =
    let asked = c.args.asked.now in
    let broken = c.args.broken in
    let all = c.slots-slot-items.result.now in
    let k = c.loop-slot.slot-index in
    let slot = c.slot-item.result in
    let first = c.loop-slot.first in
    let left = open_in (drop (k + 1) all) in
    let drops : drop k all ≡ slot ∷ drop (k + 1) all = dropped all k slot c.loop-slot-test.true c.slot-item.is in
    finds_slot asked broken slot left first c.first_with-first.result
    (λ item is. subst (λ (l : List OpenRule). Contains l item) c.slots-slot-items.ensures
    (open_at all k item (slice_get-get_or all k slot c.loop-slot-test.true ∙ ap (λ (s : Option OpenRule). Some s) (sym c.slot-item.is ∙ is))))
    (subst (λ (l : List (Option OpenRule)). FindsFirst asked broken (open_in l) first) drops c.loop-slot.invariant)
    c.first_with-first.ensures

pub returns : goal.returns
returns c =
    finds_all c.args.asked.now c.args.broken c.loop-slot.first
    (subst (λ (l : List (Option OpenRule)). FindsFirst c.args.asked.now c.args.broken (open_in l) c.loop-slot.first)
    (drop_all c.loop-slot.slot-index c.slots-slot-items.result.now c.loop-slot-test.false) c.loop-slot.invariant)
