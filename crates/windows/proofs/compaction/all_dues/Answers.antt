use Rattle.windows.proofs.Vocabulary.{◌≡◌, ◌∙◌, ◌++◌, ◌+◌, [], ap, arith, length, length-map, sym, append-nil, List, Value, ℕ, dues_from, values_of}
use Rattle.windows.proofs.CompactLemmas.{dues_next}
use Rattle.windows.proofs.compaction.all_dues.Goals as goal

pub loop-times-init : goal.loop-times-init
loop-times-init c =
    let all = c.into_iter-times-iterator.ensures.into_iter_gives ∙ c.values-times-items.ensures.rest in (
      (λ i. c.in_ok-dues.ensures.items i ++ dues_from 0 (all i)),
      omega (arith, ap length all),
    )

pub overflow_add-place : goal.overflow_add-place
overflow_add-place c =
    omega (arith, c.loop-times.invariant.1, ap length c.in-Some.ensures.steps, c.values-times-items.ensures.fits, length-map c.args.entries.now.entries (λ (e : List Value × List ℕ). e.1))

pub loop-times-preserved : goal.loop-times-preserved
loop-times-preserved c = (
  dues_next (dues_from 0 (values_of c.args.entries.now.entries)) c.loop-times.place (c.loop-times.place + 1) c.loop-times.dues.items c.push_dues.new.out.items c.loop-times.times-iterator c.next.new.self
      c.in-Some.times.now c.in-Some.ensures.steps (omega arith) c.in_ok-push_dues.ensures c.loop-times.invariant.0,
  omega (arith, c.loop-times.invariant.1, ap length c.in-Some.ensures.steps),
)

pub returns : goal.returns
returns c =
    sym (append-nil c.loop-times.dues.items) ∙ ap (λ l. c.loop-times.dues.items ++ dues_from c.loop-times.place l) (sym c.in-None.ensures.steps.0) ∙ c.loop-times.invariant.0
