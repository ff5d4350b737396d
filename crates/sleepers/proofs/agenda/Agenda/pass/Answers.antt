use Rattle.sleepers.proofs.Vocabulary.{ap, arith, drop, subst, sym, ◌∙◌, ArePlaced, shown}
use Rattle.sleepers.proofs.AgendaLemmas.{pass_one, rest_placed}
use Rattle.sleepers.proofs.agenda.Agenda.pass.Goals as goal

pub invariant_of-self : goal.invariant_of-self
invariant_of-self g c =
    let items = c.self.inside.entries.items in
    let passed = c.self.inside.passed in (
      omega (arith, c.if-self-len.true, c.len.ensures, c.self.inside.entries.ok.0),
      subst ArePlaced (sym (pass_one items passed)) (rest_placed (drop passed (shown items)) c.self.invariant.1),
    )

pub returns-then-self-len : goal.returns-then-self-len
returns-then-self-len g c = pass_one c.self.inside.entries.items c.self.inside.passed ∙ ap (λ l. drop 1 l) c.self.view_is
