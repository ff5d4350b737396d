use Rattle.sleepers.proofs.Vocabulary.{◌≡◌, ap, ◌∙◌, IfOk-weaker, shown, IsOfAwake, entries_of}
use Rattle.sleepers.proofs.awake_groups.woken.Goals as goal

pub returns-then-is_begun : goal.returns-then-is_begun
returns-then-is_begun g c =
    let groups = c.args.groups.now in
    IfOk-weaker c.entries_of.result (λ woken. shown woken.items ≡ entries_of groups c.as_slice.result.now)
    (λ woken. IsOfAwake c.args.events.now c.args.time groups (shown woken.items))
    (λ woken are. record {
      numbers = c.in_ok-numbers.numbers.items;
      awake = c.in_ok-numbers.ensures;
      are = are ∙ ap (entries_of groups) c.as_slice.ensures.value;
    })
    c.entries_of.ensures
