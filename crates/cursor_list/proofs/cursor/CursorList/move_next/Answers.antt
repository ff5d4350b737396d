use Rattle.cursor_list.proofs.Vocabulary.{ap, ◌∙◌, arith, suc, ◌+◌, length-drop}
use Rattle.std.proofs.Common.{◌≡◌, ◌++◌, take, drop, length}
use Rattle.cursor_list.proofs.Cuts.{take-next, drop-next}
use Rattle.cursor_list.proofs.cursor.CursorList.move_next.Goals as goal

pub returns-clause-before : goal.returns-clause-before
returns-clause-before g c =
    let list = c.self.inside in
    let on : list.passed + 1 ≡ suc list.passed = omega arith in
    ap (λ n. take n list.nodes.items) on ∙ take-next list.passed list.nodes.items ∙ ap (λ s. s.before ++ take 1 s.after) c.self.view_is

pub returns-clause-after : goal.returns-clause-after
returns-clause-after g c =
    let list = c.self.inside in
    let on : list.passed + 1 ≡ suc list.passed = omega arith in
    ap (λ n. drop n list.nodes.items) on ∙ drop-next list.passed list.nodes.items ∙ ap (λ s. drop 1 s.after) c.self.view_is

pub returns-clause-ended : goal.returns-clause-ended
returns-clause-ended g c =
    let list = c.self.inside in
    let ok = list.nodes.ok.0 in
    let within = c.self.invariant.0 in
    let more = c.if-self-len.false in
    ((λ w. search), (λ none. absurd (omega (arith, ap length (ap (λ s. s.after) c.self.view_is ∙ none), length-drop list.passed list.nodes.items))))
