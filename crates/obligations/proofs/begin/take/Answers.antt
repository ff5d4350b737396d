use Rattle.obligations.proofs.Vocabulary.{◌≡◌, ◌++◌, List, sym, ap, subst, ◌∙◌, AllByRecursion, guards_now, CanAskOf, Instance}
use Rattle.obligations.proofs.begin.take.Goals as goal

pub returns-clause-asked : goal.returns-clause-asked
returns-clause-asked c =
    λ plans stands.
    let puts = c.in_ok-begin_behind.ensures in
    let all : c.begin_behind.new.into.items ≡ puts.adds.more = puts.adds.grown ∙ ap (λ (l : List Instance). l ++ puts.adds.more) c.new-begun.ensures.items in
    subst (AllByRecursion (CanAskOf (guards_now c.args.now.now) plans)) (sym all) (puts.asked plans stands)
