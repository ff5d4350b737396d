use Rattle.windows.proofs.Vocabulary.{◌≡◌, ◌∙◌, ◌-◌, ap, get_or, subst, sym, IsIn}
use Rattle.windows.proofs.TimeLemmas.{in_last_far, last_far_in}
use Rattle.windows.proofs.times.is_some_in.Goals as goal

pub returns-then-far-gt0 : goal.returns-then-far-gt0
returns-then-far-gt0 c =
    let d = c.index.result.now in
    let at : c.saturating_sub.result ≡ c.args.now - get_or c.args.times.now.items (c.count_far-far.result - 1) d = c.saturating_sub.ensures ∙ ap (λ x. c.args.now - x) c.index.ensures in (
      λ yes. last_far_in c.args.interval c.args.now c.args.times.now.items c.requires c.count_far-far.result c.count_far-far.ensures.within c.count_far-far.ensures.far c.count_far-far.ensures.near d
          c.if-far-gt0.true (subst (IsIn c.args.interval) at (c.has.ensures.0 yes)),
      λ some. c.has.ensures.1 (subst (IsIn c.args.interval) (sym at) (in_last_far c.args.interval c.args.now c.args.times.now.items c.requires c.count_far-far.result c.count_far-far.ensures.within
          c.count_far-far.ensures.far c.count_far-far.ensures.near d some).1),
    )
