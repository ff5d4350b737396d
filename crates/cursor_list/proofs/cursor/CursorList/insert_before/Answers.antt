use Rattle.cursor_list.proofs.Vocabulary.{sym, ap, ◌∙◌, ◌+◌, arith}
use Rattle.std.proofs.Common.{◌++◌, ◌∷◌, [], take, drop}
use Rattle.cursor_list.proofs.Cuts.{put_cut}
use Rattle.cursor_list.proofs.cursor.CursorList.insert_before.Goals as goal

pub returns-clause-after : goal.returns-clause-after
returns-clause-after g c =
    let list = c.self.inside in
    let ok = list.nodes.ok.0 in
    let within = c.self.invariant.0 in
    ap (λ l. drop (list.passed + 1) l) c.put.ensures.items ∙ sym (put_cut list.nodes.items c.args.value list.passed (omega arith)).1 ∙ ap (λ s. s.after) c.self.view_is

pub returns-clause-ok : goal.returns-clause-ok
returns-clause-ok g c =
    let list = c.self.inside in
    let ok = list.nodes.ok.0 in
    let within = c.self.invariant.0 in
    ap (λ l. take (list.passed + 1) l) c.put.ensures.items ∙ sym (put_cut list.nodes.items c.args.value list.passed (omega arith)).0 ∙ ap (λ s. s.before ++ c.args.value ∷ []) c.self.view_is
