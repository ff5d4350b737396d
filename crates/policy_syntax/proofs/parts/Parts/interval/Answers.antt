use Rattle.policy_syntax.proofs.Vocabulary.{refl}
use Rattle.policy_syntax.proofs.PartMoves.{close_bracket, first_end_barred, first_end_taken, interval_comma, mark_barred, mark_taken, only_close_bracket, only_interval_comma, only_open_bracket}
use Rattle.policy_syntax.proofs.PartMoves.{open_bracket}
use Rattle.policy_syntax.proofs.PartPhrases.{interval_read}
use Rattle.policy_syntax.proofs.AutomatonSteps.{after, follows_err, refused_after}
use Rattle.policy_syntax.proofs.parts.Parts.interval.Goals as goal

pub returns-clause-read : goal.returns-clause-read
returns-clause-read c =
    interval_read _ _ _ _ _ _ _ _ _ _ _ _ _ _ _ c.requires c.in_ok-take_symbol.ensures.taken c.in_ok-low.ensures.taken c.in_ok-take_symbol-2.ensures.taken c.in_ok-high.ensures.taken.1
    c.in_ok-take_symbol-3.ensures.taken

pub returns-in_err-take_symbol-clause-follows : goal.returns-in_err-take_symbol-clause-follows
returns-in_err-take_symbol-clause-follows c operand =
    follows_err _ _ _ _ _ _ c.from_residual.ensures.1 (mark_barred _ _ _ _ _ _ _ (open_bracket operand c.args.depth.level c.args.depth.scope) refl (λ x. refl)
    (only_open_bracket operand _ _) c.in_err-take_symbol.ensures.barred)

pub returns-in_err-low-clause-follows : goal.returns-in_err-low-clause-follows
returns-in_err-low-clause-follows c operand =
    let f1 = mark_taken _ _ _ _ _ _ _ _ (open_bracket operand c.args.depth.level c.args.depth.scope) c.requires c.in_ok-take_symbol.ensures.taken c.in_ok-take_symbol.ensures.nodes in
    follows_err _ _ _ _ _ _ c.from_residual-in_err-low.ensures.1 (refused_after _ _ _ _ _ f1 (first_end_barred operand _ _ _ _ c.in_err-low.ensures.barred))

pub returns-in_err-take_symbol-2-clause-follows : goal.returns-in_err-take_symbol-2-clause-follows
returns-in_err-take_symbol-2-clause-follows c operand =
    let f1 = mark_taken _ _ _ _ _ _ _ _ (open_bracket operand c.args.depth.level c.args.depth.scope) c.requires c.in_ok-take_symbol.ensures.taken c.in_ok-take_symbol.ensures.nodes in
    let f2 = after _ _ _ _ _ _ f1 (first_end_taken operand _ _ _ _ _ _ c.requires c.in_ok-low.ensures.taken c.in_ok-low.ensures.high c.in_ok-low.ensures.nodes) in
    follows_err _ _ _ _ _ _ c.from_residual-in_err-take_symbol-2.ensures.1
    (refused_after _ _ _ _ _ f2 (mark_barred _ _ _ _ _ _ _ (interval_comma operand c.in_ok-low.low c.args.depth.level c.args.depth.scope) refl (λ x. refl)
    (only_interval_comma operand _ _ _) c.in_err-take_symbol-2.ensures.barred))

pub returns-in_err-high-clause-follows : goal.returns-in_err-high-clause-follows
returns-in_err-high-clause-follows c operand =
    let f1 = mark_taken _ _ _ _ _ _ _ _ (open_bracket operand c.args.depth.level c.args.depth.scope) c.requires c.in_ok-take_symbol.ensures.taken c.in_ok-take_symbol.ensures.nodes in
    let f2 = after _ _ _ _ _ _ f1 (first_end_taken operand _ _ _ _ _ _ c.requires c.in_ok-low.ensures.taken c.in_ok-low.ensures.high c.in_ok-low.ensures.nodes) in
    let f3 = after _ _ _ _ _ _ f2 (mark_taken _ _ _ _ _ _ _ _ (interval_comma operand c.in_ok-low.low c.args.depth.level c.args.depth.scope) c.requires c.in_ok-take_symbol-2.ensures.taken
    c.in_ok-take_symbol-2.ensures.nodes) in
    follows_err _ _ _ _ _ _ c.from_residual-in_err-high.ensures.1 (refused_after _ _ _ _ _ f3 (c.in_err-high.ensures.follows operand c.args.depth.scope c.requires))

pub returns-in_err-take_symbol-3-clause-follows : goal.returns-in_err-take_symbol-3-clause-follows
returns-in_err-take_symbol-3-clause-follows c operand =
    let f1 = mark_taken _ _ _ _ _ _ _ _ (open_bracket operand c.args.depth.level c.args.depth.scope) c.requires c.in_ok-take_symbol.ensures.taken c.in_ok-take_symbol.ensures.nodes in
    let f2 = after _ _ _ _ _ _ f1 (first_end_taken operand _ _ _ _ _ _ c.requires c.in_ok-low.ensures.taken c.in_ok-low.ensures.high c.in_ok-low.ensures.nodes) in
    let f3 = after _ _ _ _ _ _ f2 (mark_taken _ _ _ _ _ _ _ _ (interval_comma operand c.in_ok-low.low c.args.depth.level c.args.depth.scope) c.requires c.in_ok-take_symbol-2.ensures.taken
    c.in_ok-take_symbol-2.ensures.nodes) in
    let f4 = after _ _ _ _ _ _ f3 (c.in_ok-high.ensures.follows operand c.args.depth.scope c.requires) in
    follows_err _ _ _ _ _ _ c.from_residual-in_err-take_symbol-3.ensures.1
    (refused_after _ _ _ _ _ f4 (mark_barred _ _ _ _ _ _ _ (close_bracket operand c.args.depth.level c.args.depth.scope) refl (λ x. refl)
    (only_close_bracket operand c.args.depth.level c.args.depth.scope) c.in_err-take_symbol-3.ensures.barred))

pub returns-clause-follows : goal.returns-clause-follows
returns-clause-follows c operand =
    let f1 = mark_taken _ _ _ _ _ _ _ _ (open_bracket operand c.args.depth.level c.args.depth.scope) c.requires c.in_ok-take_symbol.ensures.taken c.in_ok-take_symbol.ensures.nodes in
    let f2 = after _ _ _ _ _ _ f1 (first_end_taken operand _ _ _ _ _ _ c.requires c.in_ok-low.ensures.taken c.in_ok-low.ensures.high c.in_ok-low.ensures.nodes) in
    let f3 = after _ _ _ _ _ _ f2 (mark_taken _ _ _ _ _ _ _ _ (interval_comma operand c.in_ok-low.low c.args.depth.level c.args.depth.scope) c.requires c.in_ok-take_symbol-2.ensures.taken
    c.in_ok-take_symbol-2.ensures.nodes) in
    let f4 = after _ _ _ _ _ _ f3 (c.in_ok-high.ensures.follows operand c.args.depth.scope c.requires) in
    after _ _ _ _ _ _ f4 (mark_taken _ _ _ _ _ _ _ _ (close_bracket operand c.args.depth.level c.args.depth.scope) c.requires c.in_ok-take_symbol-3.ensures.taken c.in_ok-take_symbol-3.ensures.nodes)
