use Rattle.obligations.proofs.Vocabulary.{◌≡◌, ◌∙◌, Some, Bool, true, false, ap, sym, subst, option_copied, option_map, plan_of, WillBecome, awaited_in, is_forced}
use Rattle.obligations.proofs.ProgressLemmas.{turns_served}
use Rattle.obligations.proofs.progress_one.becoming_of.Goals as goal

pub returns-in-Some : goal.returns-in-Some
returns-in-Some c =
    let now = c.args.now.now in
    let i = c.args.instance.now in
    let node = plan_of c.args.node.now in
    let part = plan_of c.in-Some.part.now in
    let forced : is_forced c.args.inserted now.time i ≡ true = sym c.is_forced.ensures ∙ c.if-is_forced.true in
    let is : awaited_in node ≡ Some part = sym c.awaited.ensures ∙ ap (λ o. option_map plan_of (option_copied o)) c.in-Some.is in
    subst (λ (b : Bool). WillBecome now node i b false (Some part)) (sym forced) (turns_served now i node part is c.requires.can)
