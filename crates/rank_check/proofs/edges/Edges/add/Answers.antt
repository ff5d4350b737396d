use Rattle.rank_check.proofs.Vocabulary.{◌≡◌, ℕ, subst, sym, set, true, NameId, EdgeTable, AddsEdges}
use Rattle.rank_check.proofs.MatrixLemmas.{marked}
use Rattle.rank_check.proofs.edges.Edges.add.Goals as goal

pub returns-then-to-self : goal.returns-then-to-self
returns-then-to-self c =
    subst (λ (t : EdgeTable). AddsEdges (λ (a b : NameId). (c.args.from ≡ a) × (c.args.to ≡ b)) t
    (record { width = c.self.inside.names; marks = set c.self.inside.marks.items c.place_of-place.result true })) c.self.view_is
    (subst (λ (k : ℕ). AddsEdges (λ (a b : NameId). (c.args.from ≡ a) × (c.args.to ≡ b)) (record { width = c.self.inside.names; marks = c.self.inside.marks.items })
    (record { width = c.self.inside.names; marks = set c.self.inside.marks.items k true })) (sym c.place_of-place.ensures)
    (marked c.self.inside.names c.self.inside.marks.items c.args.from c.args.to c.self.invariant.1 c.if-from-self.true c.if-to-self.true))
