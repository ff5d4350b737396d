use Rattle.save_codec.proofs.Vocabulary.{OnOk, refl, subst, sym, on_ok_weaker, Sort, Learns, TermTells, Known}
use Rattle.save_codec.proofs.SortLemmas.{learns_int, learns_text}
use Rattle.save_codec.proofs.sorts.Known.note.Goals as goal

pub returns-in-Var-Int : goal.returns-in-Var-Int
returns-in-Var-Int c =
    let after : Known = record { ints = c.add.new.list; texts = c.args.self.now.texts } in
    subst (λ (sort : Sort). OnOk c.add.result (Learns (TermTells c.args.term.now sort) c.args.self.now after)) (sym c.in-Var-Int.is-1)
    (on_ok_weaker _ (λ has. learns_int c.in-Var-Int.variable c.args.term.now c.args.self.now after c.in-Var-Int.is-0 has refl) c.add.ensures)

pub returns-in-Var-Text : goal.returns-in-Var-Text
returns-in-Var-Text c =
    let after : Known = record { ints = c.args.self.now.ints; texts = c.add-in-Var-Text.new.list } in
    subst (λ (sort : Sort). OnOk c.add-in-Var-Text.result (Learns (TermTells c.args.term.now sort) c.args.self.now after)) (sym c.in-Var-Text.is-1)
    (on_ok_weaker _ (λ has. learns_text c.in-Var-Text.variable c.args.term.now c.args.self.now after c.in-Var-Text.is-0 has refl) c.add-in-Var-Text.ensures)
