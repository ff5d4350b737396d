-- The parentheses, and what stands between them.
use Rattle.action_report.proofs.Vocabulary.{◌∷◌, ◌++◌, [], Some, ap, ◌∙◌, marked_values}
use Rattle.action_report.proofs.RowLemmas.{inner_text, paren_ends}
use Rattle.action_report.proofs.cursor.Cursor.row.Goals as goal

pub returns-then-not-branch-clause-again : goal.returns-then-not-branch-clause-again
returns-then-not-branch-clause-again c = λ args rest are e.
    let open_paren = c.take.ensures (marked_values [] args ++ 41 ∷ rest) (inner_text rest c.args.self.now.rest.now args e) in
    let read = c.in_ok-arguments.ensures.again args (41 ∷ rest) are (paren_ends rest) open_paren.1 in
    absurd (cc (read.0, c.if-not-branch.true))

pub returns-then-not-take-2-clause-again : goal.returns-then-not-take-2-clause-again
returns-then-not-take-2-clause-again c = λ args rest are e.
    let open_paren = c.take.ensures (marked_values [] args ++ 41 ∷ rest) (inner_text rest c.args.self.now.rest.now args e) in
    let read = c.in_ok-arguments.ensures.again args (41 ∷ rest) are (paren_ends rest) open_paren.1 in
    let close_paren = c.take-2.ensures rest read.2 in
    absurd (cc (close_paren.0, c.if-not-take-2.true))

pub returns-clause-again : goal.returns-clause-again
returns-clause-again c = λ args rest are e.
    let open_paren = c.take.ensures (marked_values [] args ++ 41 ∷ rest) (inner_text rest c.args.self.now.rest.now args e) in
    let read = c.in_ok-arguments.ensures.again args (41 ∷ rest) are (paren_ends rest) open_paren.1 in
    let close_paren = c.take-2.ensures rest read.2 in
    (ap Some (read.1 ∙ ap (λ l. l ++ args) c.new-row.ensures), close_paren.1)
